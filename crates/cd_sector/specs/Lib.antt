pub mod Carried
pub mod Consistent
pub mod Defect
pub mod EdcField
pub mod Image
pub mod Kind
pub mod Laws
pub mod WithBytes

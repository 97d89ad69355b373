mod BlockLemmas
pub mod SurveyLemmas
mod TextSizeLemmas
pub mod Walking

pub mod DiagonalSteps

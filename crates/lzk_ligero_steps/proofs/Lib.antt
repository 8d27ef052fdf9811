mod CoefficientLaws
pub mod Outputs
mod Together
mod Written

pub mod Answers
pub mod Coefficients
pub mod Laws
pub mod Opened
pub mod Rows

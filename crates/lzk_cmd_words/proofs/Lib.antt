pub mod Choices
pub mod Counts
pub mod Digits
pub mod Sessions

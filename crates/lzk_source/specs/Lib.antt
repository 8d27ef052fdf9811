pub mod Growing
pub mod Halves
pub mod Heads
pub mod NameLists
pub mod TreeSteps

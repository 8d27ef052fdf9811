pub mod Alike
pub mod Caught
pub mod Deciding
pub mod Few
pub mod Fronts
pub mod Steps

pub mod Copies
pub mod Joining
pub mod Wholes

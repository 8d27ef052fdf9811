pub mod Proved
pub mod Hashed
pub mod Demo

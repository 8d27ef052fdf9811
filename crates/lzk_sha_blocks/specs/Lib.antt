pub mod Causes
pub mod Hashed
pub mod Layout
pub mod Witness

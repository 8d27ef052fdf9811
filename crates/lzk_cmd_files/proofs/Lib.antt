pub mod Causes
pub mod Inputs
pub mod Laws
pub mod Loads
pub mod Printing
pub mod Sights
pub mod Steps

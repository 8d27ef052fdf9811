pub mod Feeding
pub mod Verified

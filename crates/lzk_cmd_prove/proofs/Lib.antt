pub mod DemoCounts
pub mod Hashes
pub mod Proves
pub mod Told

pub mod Bluff
pub mod Counts
pub mod Example
pub mod FarTables
pub mod Passing
pub mod Zeros

pub mod Entries
pub mod Rounds
pub mod KeyWords
mod Vectors
pub mod Xor

pub mod Blocks
pub mod Entries
pub mod Opened
pub mod PutIn

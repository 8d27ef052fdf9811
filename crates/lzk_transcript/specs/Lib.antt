pub mod Columns
pub mod Insertion
pub mod Tape

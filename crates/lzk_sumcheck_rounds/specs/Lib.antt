pub mod Orders
pub mod Pairs
pub mod Parts
pub mod Room
pub mod Rows
pub mod Tables

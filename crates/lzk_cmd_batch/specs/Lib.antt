pub mod Batched
pub mod Gathered

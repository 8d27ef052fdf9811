pub mod Known
pub mod Rooted

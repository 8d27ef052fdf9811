pub mod Tickets
pub mod Passes
pub mod Lists
pub mod Circuits
pub mod Batch
pub mod Working

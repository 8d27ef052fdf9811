pub mod Batches
pub mod Gathers
pub mod Keeping
pub mod Lists
pub mod Tells

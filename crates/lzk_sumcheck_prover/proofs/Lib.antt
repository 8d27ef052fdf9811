pub mod Chunks
pub mod SendLaws

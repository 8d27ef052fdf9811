pub mod Draws
pub mod Few
pub mod Laws
pub mod Sets

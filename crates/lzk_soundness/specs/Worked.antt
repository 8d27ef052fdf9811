pub mod Laws
pub mod Zeros

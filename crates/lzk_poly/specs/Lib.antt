pub mod Extension
pub mod Laws
pub mod Polynomial
pub mod Products
pub mod Spacings
pub mod Through
pub mod Weights

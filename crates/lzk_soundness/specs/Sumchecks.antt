pub mod Bad
pub mod Claims
pub mod Laws
pub mod Passing

pub mod Fronts
pub mod Halts
pub mod Verifies

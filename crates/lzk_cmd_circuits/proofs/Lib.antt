pub mod Compiles
pub mod Evals
pub mod Outputs
pub mod ShaFiles
pub mod Terms
pub mod Upgrades

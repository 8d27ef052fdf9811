pub mod CircuitSteps
pub mod Compiled
pub mod Evaluated
pub mod ShaCircuits
pub mod Upgraded

pub mod Outside
pub mod Real
pub mod Tallies

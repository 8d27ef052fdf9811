pub mod Delayed
pub mod Descent
pub mod Found
pub mod Orders
pub mod OverWord

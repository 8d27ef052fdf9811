pub mod Basis
pub mod ByteLists
pub mod Digits
pub mod Multiples
pub mod Squares
pub mod Sums

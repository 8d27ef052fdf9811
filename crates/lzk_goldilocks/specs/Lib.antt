pub mod Prime
pub mod Pigeonhole
pub mod Powers
pub mod Primality
pub mod Elements
pub mod Roots
pub mod Word
pub mod Drawn

pub mod Product
pub mod Linear
pub mod Table
pub mod Inverse
pub mod Elements
pub mod Bodies

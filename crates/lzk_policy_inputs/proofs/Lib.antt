pub mod Bits
pub mod Claims
pub mod Pieces
pub mod Shows
pub mod Places
pub mod Among
pub mod Depths
pub mod Placed
pub mod Seen
pub mod Under
mod Refusing
mod Issued

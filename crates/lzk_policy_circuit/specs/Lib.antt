pub mod Causes
pub mod Held
pub mod Layout
pub mod Meaning
pub mod Met
pub mod Places
pub mod Squares
pub use Rattle.lzk_policy.specs

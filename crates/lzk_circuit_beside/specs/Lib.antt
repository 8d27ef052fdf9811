pub mod Asserts
pub mod Chosen
pub mod Levels
pub use Rattle.lzk_circuit_reduce.specs

pub mod Bits
pub mod Checks
pub mod Faults
pub mod Limits
pub mod Sums
pub mod Valid
pub mod Wires
pub use Rattle.lzk_field.specs

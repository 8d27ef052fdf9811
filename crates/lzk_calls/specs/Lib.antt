pub mod Room
pub mod Compiled
pub mod Inputs
pub mod Evaluated
pub mod Outcomes
pub mod Shown
pub mod Hashed
pub mod Upgraded
pub mod Verified
pub mod Reports
pub mod Explained
pub mod Exports
pub use Rattle.lzk_verify.specs as lzk_verify
pub use Rattle.lzk_circbytes.specs as lzk_circbytes
pub use Rattle.lzk_level.specs as lzk_level
pub use Rattle.lzk_expr.specs as lzk_expr
pub use Rattle.lzk_sha_circuit.specs as lzk_sha_circuit

pub mod Proved
pub mod Exports
pub use Rattle.lzk_calls.specs as lzk_calls
pub use Rattle.lzk_ligero_proof.specs as lzk_ligero_proof
pub use Rattle.lzk_verify.specs as lzk_verify

pub use Rattle.lzk_batch.specs as lzk_batch
pub use Rattle.lzk_ligero.specs as lzk_ligero
pub use Rattle.lzk_verify.specs as lzk_verify
pub use Rattle.lzk_circbytes.specs as lzk_circbytes
pub use Rattle.lzk_circuit_beside.specs as lzk_circuit_beside
pub use Rattle.lzk_gadgets.specs as lzk_gadgets

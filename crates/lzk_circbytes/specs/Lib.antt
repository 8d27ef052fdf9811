pub mod Numbered
pub mod Reading
pub mod Spelling
pub mod Fits
pub mod Recent
pub mod Files
pub mod Answers
pub mod Kinds
pub use Rattle.lzk_circuit.specs as lzk_circuit
pub use Rattle.lzk_goldilocks.specs as lzk_goldilocks
pub use Rattle.lzk_gf128.specs as lzk_gf128
pub use Rattle.sha2.specs as sha2

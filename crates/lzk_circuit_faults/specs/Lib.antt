pub mod Fields
pub mod Circuits
pub mod Laws
pub use Rattle.lzk_circbytes.specs as lzk_circbytes

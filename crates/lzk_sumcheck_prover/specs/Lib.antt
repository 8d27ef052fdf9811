pub mod Scripts
pub use Rattle.lzk_sumcheck_rounds.specs as lzk_sumcheck_rounds

pub mod Parts
pub mod Rooms
pub use Rattle.lzk_sumcheck_rounds.specs as lzk_sumcheck_rounds
pub use Rattle.lzk_ligero_tableau.specs as lzk_ligero_tableau
pub use Rattle.lzk_ligero_answers.specs as lzk_ligero_answers

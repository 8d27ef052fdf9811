pub mod Answered
pub mod AnyInputs
pub mod Changed
pub mod Complete
pub mod Proving
pub mod Refused
pub mod Residuals
pub use Rattle.lzk_ligero_tableau.specs as lzk_ligero_tableau
pub use Rattle.lzk_ligero_answers.specs as lzk_ligero_answers

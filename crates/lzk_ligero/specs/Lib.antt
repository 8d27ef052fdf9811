pub mod Changes
pub mod Lending
pub use Rattle.lzk_ligero_tableau.specs as lzk_ligero_tableau
pub use Rattle.lzk_ligero_answers.specs as lzk_ligero_answers
pub use Rattle.lzk_ligero_proof.specs as lzk_ligero_proof
pub use Rattle.lzk_verify.specs as lzk_verify
pub use Rattle.lzk_ligero_steps.specs as lzk_ligero_steps

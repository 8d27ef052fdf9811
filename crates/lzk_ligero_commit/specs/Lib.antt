pub use Rattle.lzk_ligero_tableau.specs as lzk_ligero_tableau

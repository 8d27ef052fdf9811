-- The code of a text.
use Rattle.std.specs.Prelude.{ℕ, List}
use Rattle.lzk_expr.specs.Trees.{SourceTree}
use Rattle.lzk_expr.specs.Sources.{SourceText}
use Rattle.lzk_expr.specs.Codes.{Coded, IsCodeOf}

-- The text is a source, and this is its code.
pub record IsCodeOfText (text : List ℕ) (c : Coded) : Type 0 where
  pub source : SourceTree
  pub reads : SourceText text source
  pub code : IsCodeOf c source

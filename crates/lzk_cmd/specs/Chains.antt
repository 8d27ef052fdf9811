-- Two runs in a row: a source is compiled, in either version, and its circuit evaluated.
use Rattle.std.specs.Prelude.{◌≡◌, ℕ, false, List, Some, count_by}
use Rattle.std.specs.Str.{bytes_eq}
use Rattle.lzk_expr.specs.Sources.{field_size}
use Rattle.lzk_expr.specs.Trees.{SourceTree, is_public, is_private}
use Rattle.lzk_outside.specs.Outside.{Files}
use Rattle.lzk_cmd.specs.Complete.{HasSource, HasNumbers}
use Rattle.lzk_cmd_words.specs.declared.words.Version.{Version}
use Rattle.lzk_cmd_words.specs.Words.{Eval, Compile, command_of}

-- the first words compile a source that is ready, and the second evaluate its circuit on two other files that have its
-- inputs
pub record AreChained (first second : List (List ℕ)) (files : Files) : Type 0 where
  pub source : List ℕ
  pub circuit : List ℕ
  pub version : Version
  pub public : List ℕ
  pub private : List ℕ
  pub tree : SourceTree
  pub compiles : command_of first ≡ Some (Compile source circuit version)
  pub evaluates : command_of second ≡ Some (Eval circuit public private)
  pub has_source : HasSource files source version tree
  pub has_publics : HasNumbers files public (field_size tree.field_is) (count_by is_public tree.statements)
  pub has_privates : HasNumbers files private (field_size tree.field_is) (count_by is_private tree.statements)
  pub other_publics : bytes_eq circuit public ≡ false
  pub other_privates : bytes_eq circuit private ≡ false

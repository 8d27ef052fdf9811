-- Code of a source that is well formed, on its way: there is room for its nodes.
use Rattle.std.specs.Prelude.{◌≡◌, ℕ, ◌+◌, ◌≤◌, List, ◌∷◌, count_by}
use Rattle.std.proofs.Common.{sym, arith, subst}
use Rattle.lzk_field.specs.Ring.{Ops, RingLaws}
use Rattle.lzk_expr.specs.Trees.{Statement, SourceTree, is_public, is_private}
use Rattle.lzk_expr.specs.Sources.{IsWellFormed}
use Rattle.lzk_expr.specs.Codes.{CodeWord, code_done, nameless, AreCodeOf}
use Rattle.lzk_level.specs.Nodes.{node_count}
use Rattle.lzk_level.specs.Steps.{Held, IsSound}
use Rattle.lzk_level.specs.Compilable.{AreStatementsWithin}
use Rattle.lzk_level.specs.Makings.{IsOnTheWay, IsWordWithin}
use Rattle.lzk_level.proofs.FormedSizes.{formed-size}
use Rattle.lzk_level.proofs.FormedLaws.{compilable}
use Rattle.lzk_level.proofs.WithinLaws.{IsCodeWithin}
use Rattle.lzk_level.proofs.SizeLaws.{end-within}
use Rattle.lzk_level.proofs.WayLaws.{way-sound, way-word, source-count}

-- the code of two sources has one end
pub same-end : (ss ts : List Statement) (ws : List CodeWord) → AreCodeOf ss ws → AreCodeOf ts ws → code_done (nameless ss) ≡ code_done (nameless ts)
same-end ss ts ws h k = cc

module _ {A : Type 0} (o : Ops A) (r : RingLaws o) (element : ℕ → A) (p q : ℕ) (source : SourceTree) (formed : IsWellFormed source) (publics : p ≡ count_by is_public source.statements) (privates : q ≡ count_by is_private source.statements) where
  within : IsCodeWithin p q (code_done (nameless source.statements))
  within =
      let c = compilable source formed in
      end-within p q source.statements
      (subst (λ n. AreStatementsWithin n q source.statements) (sym publics) (subst (λ n. AreStatementsWithin (count_by is_public source.statements) n source.statements) (sym privates) c.inputs))

  pub source-sound : (ws : List CodeWord) (m : Held A) → IsOnTheWay o element p q ws (code_done (nameless source.statements)) m → IsSound o m
  source-sound ws m h = way-sound o r element p q (code_done (nameless source.statements)) ws m h within

  pub source-word : (word : CodeWord) (ws : List CodeWord) (m : Held A) → IsOnTheWay o element p q (word ∷ ws) (code_done (nameless source.statements)) m → IsWordWithin p q word
  source-word word ws m h = way-word o r element p q (code_done (nameless source.statements)) word ws m h within

  -- for more nodes than a word makes
  pub source-room : (ws : List CodeWord) (m : Held A) → IsOnTheWay o element p q ws (code_done (nameless source.statements)) m → node_count m.nodes + 8 ≤ 2147483648
  source-room ws m h =
      let c = compilable source formed in
      omega (arith, source-count o r element p q source.statements ws m h, formed-size source formed, publics, privates, c.publics, c.privates)

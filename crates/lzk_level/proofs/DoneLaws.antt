-- One statement more at the end, and statements without their names.
use Rattle.std.specs.Prelude.{◌≡◌, ℕ, List, [], ◌∷◌, ◌++◌, map, None}
use Rattle.std.proofs.Common.{refl, sym, ap, ap₂, ◌∙◌, append_assoc, append-nil}
use Rattle.lzk_expr.specs.Trees.{Statement, DeclarePublic, DeclarePrivate, Define, Assertion}
use Rattle.lzk_expr.specs.Meanings.{Reads}
use Rattle.lzk_expr.specs.Codes.{nameless}
use Rattle.lzk_level.specs.declared.lets.Operand.{Operand}
use Rattle.lzk_level.specs.Nodes.{Nodes}
use Rattle.lzk_level.specs.Compiling.{Scope, scope, with_lets, MadeOutputs, statement_lets, statement_nodes, statement_outputs, statements_made}
use Rattle.lzk_level.specs.Makings.{with_some_name, lets_made, reads_held, statements_held}

module _ {A : Type 0} where
  -- what the let names stand for behind statements, and what these are over
  abbrev pub names_behind : Scope A → Nodes A → List Statement → Scope A
  names_behind s n ss = scope s.ops s.element (lets_made s n ss)

  -- ---- one statement more

  -- with a statement behind them
  abbrev pub made_then : Scope A → MadeOutputs A → Statement → MadeOutputs A
  made_then s m st = record { nodes = statement_nodes s m.nodes st; outputs = m.outputs ++ statement_outputs s m.nodes st }

  pub made-more : (s : Scope A) (n : Nodes A) (ss : List Statement) (st : Statement) → statements_made s n (ss ++ st ∷ []) ≡ made_then (names_behind s n ss) (statements_made s n ss) st
  made-more s n [] st = ap (λ (ks : List ℕ). record { nodes = statement_nodes s n st; outputs = ks }) (append-nil (statement_outputs s n st))
  made-more s n (x ∷ ss) st =
      let t = with_lets s (statement_lets s n x) in
      let m = statement_nodes s n x in
      let first = statement_outputs s n x in
      let b = statements_made t m ss in
      let last = statement_outputs (names_behind t m ss) b.nodes st in
      ap (λ (y : MadeOutputs A). record { nodes = y.nodes; outputs = first ++ y.outputs }) (made-more t m ss st)
      ∙ ap (λ (ks : List ℕ). record { nodes = statement_nodes (names_behind t m ss) b.nodes st; outputs = ks }) (sym (append_assoc first b.outputs last))

  pub lets-more : (s : Scope A) (n : Nodes A) (ss : List Statement) (st : Statement) → lets_made s n (ss ++ st ∷ []) ≡ lets_made s n ss ++ statement_lets (names_behind s n ss) (statements_made s n ss).nodes st
  lets-more s n [] st = refl
  lets-more s n (x ∷ ss) st = lets-more (with_lets s (statement_lets s n x)) (statement_nodes s n x) ss st

  pub done-law : (s : Scope A) (n : Nodes A) (ss : List Statement) (st : Statement) (r : Reads) → statements_held s n (ss ++ st ∷ []) None r
      ≡ (let t = names_behind s n ss in
      let m = made_then t (statements_made s n ss) st in
      reads_held (scope s.ops s.element (t.lets ++ statement_lets t (statements_made s n ss).nodes st)) m.nodes m.outputs None r)
  unfolding statements_held
  done-law s n ss st r =
      ap₂ (λ (m : MadeOutputs A) (lets : List (Operand A)). reads_held (scope s.ops s.element lets) m.nodes m.outputs None r) (made-more s n ss st) (lets-more s n ss st)

  -- ---- statements without their names

  same-lets : (s : Scope A) → with_lets s [] ≡ s
  same-lets s = ap (scope s.ops s.element) (append-nil s.lets)

  pub nameless-made : (s : Scope A) (n : Nodes A) (ss : List Statement) → statements_made s n (map with_some_name (nameless ss)) ≡ statements_made s n ss
  nameless-made s n [] = refl
  nameless-made s n (DeclarePublic w ∷ ss) = nameless-made s n ss ∙ ap (λ t. statements_made t n ss) (sym (same-lets s))
  nameless-made s n (DeclarePrivate w ∷ ss) = nameless-made s n ss ∙ ap (λ t. statements_made t n ss) (sym (same-lets s))
  nameless-made s n (Define w e ∷ ss) =
      nameless-made (with_lets s (statement_lets s n (Define w e))) (statement_nodes s n (Define w e)) ss
  nameless-made s n (Assertion e f ∷ ss) =
      ap (λ (m : MadeOutputs A). record { nodes = m.nodes; outputs = statement_outputs s n (Assertion e f) ++ m.outputs }) (nameless-made (with_lets s []) (statement_nodes s n (Assertion e f)) ss)

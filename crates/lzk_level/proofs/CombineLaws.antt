-- Sums of parts, half by half.
use Rattle.std.specs.Prelude.{◌≡◌, ℕ, ◌+◌, List, [], ◌∷◌, ◌++◌, length, map}
use Rattle.std.proofs.Common.{zero, suc, refl, sym, ap, ◌∙◌, arith}
use Rattle.lzk_field.specs.Ring.{Ops, RingLaws}
use Rattle.lzk_field.specs.Sums.{entry}
use Rattle.lzk_field.proofs.RingBasics.{zero_plus}
use Rattle.lzk_circuit.specs.declared.layer.Term.{Term}
use Rattle.lzk_level.specs.Nodes.{combined}
use Rattle.lzk_circuit_reduce.specs.Renumbering.{at}
use Rattle.lzk_level.specs.Bounds.{at_parts, total}
use Rattle.lzk_circuit_reduce.specs.Rows.{row_value}
use Rattle.lzk_level.proofs.Unshared.{row_at}

module _ {A : Type 0} (o : Ops A) (r : RingLaws o) where
  pub combined-append : (values : List A) (ps qs : List (A × ℕ)) → combined o values (ps ++ qs) ≡ o.plus (combined o values ps) (combined o values qs)
  combined-append values [] qs = sym (zero_plus o r (combined o values qs))
  combined-append values (p ∷ ps) qs = ap (o.plus (o.times p.0 (entry o values p.1))) (combined-append values ps qs) ∙ sym (r.plus_assoc _ _ _)

  -- what a row counts, by its number
  pub value-at : (below : List A) (rows : List (List (Term A))) (k : ℕ) → entry o (map (row_value o below) rows) k ≡ row_value o below (row_at rows k)
  value-at below [] k = refl
  value-at below (row ∷ rows) zero = refl
  value-at below (row ∷ rows) (suc k) = value-at below rows k

module _ {A : Type 0} where
  pub total-parts-append : (ns : List ℕ) (ps qs : List (A × ℕ)) → total (at_parts ns (ps ++ qs)) ≡ total (at_parts ns ps) + total (at_parts ns qs)
  total-parts-append ns [] qs = omega arith
  total-parts-append ns (p ∷ ps) qs = omega (arith, total-parts-append ns ps qs)

  pub length-at : (rows : List (List (Term A))) (k : ℕ) → at (map length rows) k ≡ length (row_at rows k)
  length-at [] k = refl
  length-at (row ∷ rows) zero = refl
  length-at (row ∷ rows) (suc k) = length-at rows k

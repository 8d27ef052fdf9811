-- Sums of rows, term by term.
use Rattle.std.specs.Prelude.{◌≡◌, ℕ, ◌+◌, ◌<◌, Option, Some, List, [], ◌∷◌, length, take}
use Rattle.std.proofs.Common.{zero, suc, sym, ap, ◌∙◌, arith, get_or}
use Rattle.std.proofs.lemmas.List.{take_more}
use Rattle.lzk_field.specs.Ring.{Ops, RingLaws}
use Rattle.lzk_circuit.specs.declared.layer.Term.{Term}
use Rattle.lzk_circuit.specs.Valid.{AreTerms}
use Rattle.lzk_circuit_reduce.specs.Rows.{row_value, term_value}
use Rattle.lzk_circuit_reduce.proofs.RowLaws.{value-append}

module _ {A : Type 0} (o : Ops A) (r : RingLaws o) where
  open o use {plus, times}

  -- one term more of a part
  pub part-value : (f c x v n old new : A) → new ≡ plus old (plus (times c x) o.zero) → n ≡ plus v (times f old) → plus (times (times f c) x) n ≡ plus v (times f new)
  part-value f c x v n old new e h =
      ap (plus (times (times f c) x)) h ∙ r.plus_comm (times (times f c) x) (plus v (times f old)) ∙ r.plus_assoc v (times f old) (times (times f c) x)
      ∙ ap (plus v) (ap (plus (times f old)) (r.times_assoc f c x) ∙ sym (r.times_plus f old (times c x)) ∙ ap (times f) (ap (plus old) (sym (r.plus_zero (times c x))) ∙ sym e))

  pub value-more : (below : List A) (ts : List (Term A)) (i : ℕ) (t : Term A) → i < length ts → t ≡ get_or ts i t → row_value o below (take (i + 1) ts) ≡ plus (row_value o below (take i ts)) (plus (term_value o below t) o.zero)
  value-more below ts i t l e =
      ap (row_value o below) (take_more ts i t l) ∙ value-append o r below (take i ts) (get_or ts i t ∷ []) ∙ ap (λ u. plus (row_value o below (take i ts)) (plus (term_value o below u) o.zero)) (sym e)

module _ {A : Type 0} (o : Ops A) where
  -- a row's terms are over its wires
  pub term-within : (width : ℕ) (before : Option (Term A)) (ts : List (Term A)) (i : ℕ) (t : Term A) → AreTerms o 1 width before ts → i < length ts → t ≡ get_or ts i t → (t.a < width) × (t.b < width)
  term-within width before [] i t h l e = absurd (omega (arith, l))
  term-within width before (u ∷ ts) zero t h l e =
      let one = h.0 in
      (omega (arith, ap (λ x. x.a) e, one.a, one.b), omega (arith, ap (λ x. x.b) e, one.b))
  term-within width before (u ∷ ts) (suc i) t h l e = term-within width (Some u) ts i t h.2 (omega (arith, l)) e

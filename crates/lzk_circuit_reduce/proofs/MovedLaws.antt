-- A layer over other numbers, wire by wire.
use Rattle.std.specs.Prelude.{◌≡◌, ℕ, ◌+◌, ◌<◌, ◌≤◌, None, List, [], length}
use Rattle.std.proofs.Common.{inl, inr, refl, sym, ◌∙◌, arith, subst}
use Rattle.std.proofs.lemmas.Bool.{cases_lt}
use Rattle.lzk_field.specs.Ring.{Ops, RingLaws}
use Rattle.lzk_circuit.specs.declared.layer.Term.{Term}
use Rattle.lzk_circuit.specs.declared.layer.Layer.{Layer}
use Rattle.lzk_circuit.specs.Valid.{AreTerms}
use Rattle.lzk_circuit.specs.Wires.{coef, wire}
use Rattle.lzk_circuit_reduce.specs.Rows.{IsRow, row_value}
use Rattle.lzk_circuit_reduce.specs.Renumbering.{of_wire, terms_before, AreNumbersBelow, AreCopies}
use Rattle.lzk_circuit_reduce.proofs.RenumberLaws.{wire-value}
use Rattle.lzk_circuit_reduce.specs.Shared.{IsMovedLayer}
use Rattle.lzk_circuit_reduce.proofs.WireLaws.{before-none, before-most}

module _ {A : Type 0} (o : Ops A) where
  -- the first g wires stand over the numbers
  pub record Moving (layer : Layer A) (numbers : List ℕ) (g start : ℕ) (kept : List (Term A)) : Type 0 where
    pub start_is : start ≡ terms_before g layer.terms
    pub terms : (width : ℕ) → AreNumbersBelow width numbers → AreTerms o g width None kept
    pub values : (old new : List A) → length old ≡ length numbers → AreNumbersBelow (length new) numbers → AreCopies o numbers old new → (i : ℕ) → i < g → wire o (coef o kept) new i ≡ wire o (coef o layer.terms) old i
    pub count : length kept ≤ start

  pub moving-starts : (layer : Layer A) (numbers : List ℕ) → Moving layer numbers 0 0 []
  moving-starts layer numbers = record {
    start_is = sym (before-none layer.terms);
    terms = λ width n. tt;
    values = λ old new l n h i k. absurd (omega (arith, k));
    count = omega arith;
  }

  -- all wires of a layer
  pub moving-ends : (layer : Layer A) (numbers : List ℕ) (start : ℕ) (kept : List (Term A)) → Moving layer numbers layer.wires start kept → IsMovedLayer o layer numbers (record { wires = layer.wires; terms = kept })
  moving-ends layer numbers start kept m = record {
    wires = refl;
    terms = m.terms;
    values = m.values;
    short = omega (arith, m.count, m.start_is, before-most layer.wires layer.terms);
  }

module _ {A : Type 0} (o : Ops A) (r : RingLaws o) where
  pub moving-adds : (layer : Layer A) (numbers : List ℕ) (g start end : ℕ) (kept row more : List (Term A)) → g < layer.wires → AreTerms o layer.wires (length numbers) None layer.terms
      → end ≡ terms_before (g + 1) layer.terms
      → ((width : ℕ) → AreNumbersBelow width numbers → IsRow o width row)
      → ((old new : List A) → AreCopies o numbers old new → row_value o new row ≡ row_value o old (of_wire g layer.terms))
      → start + length row ≤ end
      → ((width : ℕ) → AreTerms o g width None kept → IsRow o width row → AreTerms o (g + 1) width None more)
      → ((below : List A) (i : ℕ) → i < g → wire o (coef o more) below i ≡ wire o (coef o kept) below i)
      → ((below : List A) → AreTerms o g (length below) None kept → IsRow o (length below) row → wire o (coef o more) below g ≡ row_value o below row)
      → length more ≡ length kept + length row
      → Moving o layer numbers g start kept → Moving o layer numbers (g + 1) end more
  moving-adds layer numbers g start end kept row more l ts e is_row value short terms before added count m = record {
    start_is = e;
    terms = λ width n. terms width (m.terms width n) (is_row width n);
    values = λ old new k n h i j. elim (cases_lt i g) [
      | inl below ↦ before new i below ∙ m.values old new k n h i below
      | inr above ↦
          let same : i ≡ g = omega (arith, j, above) in
          subst (λ x. wire o (coef o more) new x ≡ wire o (coef o layer.terms) old x) (sym same)
          (added new (m.terms (length new) n) (is_row (length new) n) ∙ value old new h ∙ sym (wire-value o r layer.wires layer.terms old g l (subst (λ w. AreTerms o layer.wires w None layer.terms) (sym k) ts)))
    ];
    count = omega (arith, count, short, m.count);
  }

-- A layer's wires with equal terms as one, wire by wire.
use Rattle.std.specs.Prelude.{◌≡◌, ℕ, ◌+◌, ◌<◌, ◌≤◌, zero, suc, None, List, [], ◌∷◌, ◌++◌, length, map}
use Rattle.std.proofs.Common.{inl, inr, refl, sym, ap, ◌∙◌, arith, subst}
use Rattle.std.proofs.lemmas.Bool.{cases_lt}
use Rattle.std.proofs.lemmas.List.{length-append, get_or_append_left}
use Rattle.std.proofs.lemmas.List.FromFn.{get_or-map-range_with_len}
use Rattle.lzk_field.specs.Ring.{Ops, RingLaws}
use Rattle.lzk_field.specs.Sums.{entry}
use Rattle.lzk_circuit.specs.declared.layer.Term.{Term}
use Rattle.lzk_circuit.specs.declared.layer.Layer.{Layer}
use Rattle.lzk_circuit.specs.Valid.{AreTerms}
use Rattle.lzk_circuit.specs.Wires.{coef, wire, layer_values}
use Rattle.lzk_circuit_reduce.specs.declared.kept.KeptWires.{KeptWires}
use Rattle.lzk_circuit_reduce.specs.Rows.{IsRow, row_value, term_value, placed}
use Rattle.lzk_circuit_reduce.specs.Renumbering.{at, of_wire, terms_before, AreNumbersBelow, AreCopies, triples, IsOne}
use Rattle.lzk_circuit_reduce.specs.Reduced.{HasOne}
use Rattle.lzk_circuit_reduce.specs.Kept.{IsKept, IsTable}
use Rattle.lzk_circuit_reduce.proofs.RenumberLaws.{wire-value}
use Rattle.lzk_circuit_reduce.specs.Shared.{IsSharedLayer, IsRowOf}
use Rattle.lzk_circuit_reduce.proofs.KeptLaws.{kept-terms, kept-different}
use Rattle.lzk_circuit_reduce.proofs.WireLaws.{before-none, before-most}

-- past each of the numbers
abbrev pub past : List ℕ → ℕ
past [] = 0
past (n ∷ ns) = suc (n + past ns)

pub past-all : (ns : List ℕ) → AreNumbersBelow (past ns) ns
past-all [] k l = absurd (omega (arith, l))
past-all (n ∷ ns) zero l = omega arith
past-all (n ∷ ns) (suc k) l = omega (arith, past-all ns k (omega (arith, l)))

-- one number more
number-before : (ns : List ℕ) (n i : ℕ) → i < length ns → at (ns ++ n ∷ []) i ≡ at ns i
number-before ns n i l = get_or_append_left ns (n ∷ []) 0 i l

number-last : (ns : List ℕ) (n i : ℕ) → i ≡ length ns → at (ns ++ n ∷ []) i ≡ n
number-last [] n i e = ap (at (n ∷ [])) e
number-last (m ∷ ns) n i e = ap (at (m ∷ (ns ++ n ∷ []))) e ∙ number-last ns n (length ns) refl

module _ {A : Type 0} (o : Ops A) where
  pub placed-value : (g : ℕ) (below : List A) (row : List (Term A)) → row_value o below (map (placed g) row) ≡ row_value o below row
  placed-value g below [] = refl
  placed-value g below (t ∷ ts) = ap (o.plus (term_value o below t)) (placed-value g below ts)

  pub placed-triples : (g : ℕ) (row : List (Term A)) → triples (map (placed g) row) ≡ triples row
  placed-triples g [] = refl
  placed-triples g (t ∷ ts) = let triple : ℕ × ℕ × A = (t.a, t.b, t.coef) in ap (λ xs. triple ∷ xs) (placed-triples g ts)

  pub placed-one : (g : ℕ) (row : List (Term A)) → IsOne o row → IsOne o (map (placed g) row)
  placed-one g row h = placed-triples g row ∙ h

module _ {A : Type 0} (o : Ops A) (number_of : A → ℕ) where
  -- wire w of the kept ones has this row: an earlier one, or a new one
  pub record Taking (kept more : KeptWires A) (row : List (Term A)) (w : ℕ) : Type 0 where
    pub still : (width : ℕ) → IsKept o number_of width kept → IsRow o width row → IsKept o number_of width more
    pub wire : (width : ℕ) → IsKept o number_of width kept → IsRow o width row → w < more.count
    pub table : IsTable more
    pub terms : (width : ℕ) → IsKept o number_of width kept → IsRow o width row → of_wire w more.terms.items ≡ map (placed w) row
    pub before : (width : ℕ) → IsKept o number_of width kept → IsRow o width row → (i : ℕ) → i < kept.count → of_wire i more.terms.items ≡ of_wire i kept.terms.items
    pub first : (width : ℕ) → IsKept o number_of width kept → kept.count ≡ 0 → w ≡ 0
    pub grows : kept.count ≤ more.count
    pub count : more.count ≤ kept.count + 1
    pub short : length more.terms.items ≤ length kept.terms.items + length row

  -- the first g wires of a layer are among the kept ones, over so many wires
  pub record SharedOver (layer : Layer A) (numbers : List ℕ) (width g : ℕ) (kept : KeptWires A) (wires : List ℕ) : Type 0 where
    pub is : IsKept o number_of width kept
    pub below : AreNumbersBelow kept.count wires
    pub first : at wires 0 ≡ 0
    pub one : HasOne o layer → at numbers 0 ≡ 0 → 1 ≤ g → IsOne o (of_wire 0 kept.terms.items)
    pub rows : (old new : List A) → AreCopies o numbers old new → (i : ℕ) → i < g → row_value o new (of_wire (at wires i) kept.terms.items) ≡ row_value o old (of_wire i layer.terms)

  pub record Sharing (layer : Layer A) (numbers : List ℕ) (g start : ℕ) (kept : KeptWires A) (wires : List ℕ) : Type 0 where
    pub start_is : start ≡ terms_before g layer.terms
    pub each : length wires ≡ g
    pub table : IsTable kept
    pub few : kept.count ≤ g
    pub short : length kept.terms.items ≤ start
    pub over : (width : ℕ) → AreNumbersBelow width numbers → SharedOver layer numbers width g kept wires

  pub sharing-starts : (layer : Layer A) (numbers : List ℕ) (kept : KeptWires A) → IsTable kept → ((width : ℕ) → IsKept o number_of width kept) → kept.count ≡ 0 → kept.terms.items ≡ [] → Sharing layer numbers 0 0 kept []
  sharing-starts layer numbers kept table is none empty = record {
    table = table;
    start_is = sym (before-none layer.terms);
    each = refl;
    few = omega (arith, none);
    short = omega (arith, ap length empty);
    over = λ width n. record {
      is = is width;
      below = λ k l. absurd (omega (arith, l));
      first = refl;
      one = λ h z l. absurd (omega (arith, l));
      rows = λ old new h i l. absurd (omega (arith, l));
    };
  }

  shared-more : (layer : Layer A) (numbers : List ℕ) (width g start end w : ℕ) (kept more : KeptWires A) (wires : List ℕ) (row : List (Term A)) → length wires ≡ g → kept.count ≤ g
      → IsRowOf o layer numbers g start end row → Taking kept more row w → AreNumbersBelow width numbers → SharedOver layer numbers width g kept wires → SharedOver layer numbers width (g + 1) more (wires ++ w ∷ [])
  shared-more layer numbers width g start end w kept more wires row e few r t n s =
      let is_row = r.is width n in
      let taken = t.terms width s.is is_row in
      record {
        is = t.still width s.is is_row;
        below = λ k l. elim (cases_lt k (length wires)) [
          | inl m ↦ omega (arith, number-before wires w k m, s.below k m, t.grows)
          | inr m ↦ omega (arith, number-last wires w k (omega (arith, m, l, length-append wires (w ∷ []))), t.wire width s.is is_row)
        ];
        first = elim (cases_lt 0 (length wires)) [
          | inl m ↦ number-before wires w 0 m ∙ s.first
          | inr m ↦ number-last wires w 0 (omega (arith, m)) ∙ t.first width s.is (omega (arith, m, e, few))
        ];
        one = λ h z l. elim (cases_lt 0 (length wires)) [
          | inl m ↦ ap triples (t.before width s.is is_row 0 (omega (arith, s.below 0 m, s.first))) ∙ s.one h z (omega (arith, m, e))
          | inr m ↦
              let none : g ≡ 0 = omega (arith, m, e) in
              let least : w ≡ 0 = t.first width s.is (omega (arith, none, few)) in
              subst (λ i. IsOne o (of_wire i more.terms.items)) least (ap triples taken ∙ placed-one o w row (r.one (subst (λ i. IsOne o (of_wire i layer.terms)) (sym none) h) z))
        ];
        rows = λ old new h i l. elim (cases_lt i g) [
          | inl m ↦
              ap (λ k. row_value o new (of_wire k more.terms.items)) (number-before wires w i (omega (arith, m, e)))
              ∙ ap (row_value o new) (t.before width s.is is_row (at wires i) (s.below i (omega (arith, m, e)))) ∙ s.rows old new h i m
          | inr m ↦
              let last : i ≡ g = omega (arith, l, m) in
              ap (λ k. row_value o new (of_wire k more.terms.items)) (number-last wires w i (last ∙ sym e)) ∙ ap (row_value o new) taken ∙ placed-value o w new row
              ∙ r.value old new h ∙ ap (λ k. row_value o old (of_wire k layer.terms)) (sym last)
        ];
      }

  pub sharing-adds : (layer : Layer A) (numbers : List ℕ) (g start end w : ℕ) (kept more : KeptWires A) (wires : List ℕ) (row : List (Term A))
      → IsRowOf o layer numbers g start end row → Taking kept more row w → Sharing layer numbers g start kept wires → Sharing layer numbers (g + 1) end more (wires ++ w ∷ [])
  sharing-adds layer numbers g start end w kept more wires row r t s = record {
    table = t.table;
    start_is = r.end_is;
    each = omega (arith, length-append wires (w ∷ []), s.each);
    few = omega (arith, t.count, s.few);
    short = omega (arith, t.short, s.short, r.short);
    over = λ width n. shared-more layer numbers width g start end w kept more wires row s.each s.few r t n (s.over width n);
  }

module _ {A : Type 0} (o : Ops A) (r : RingLaws o) where
  value-at : (layer : Layer A) (below : List A) (g : ℕ) → g < layer.wires → AreTerms o layer.wires (length below) None layer.terms → entry o (layer_values o layer below) g ≡ row_value o below (of_wire g layer.terms)
  value-at layer below g l h =
      get_or-map-range_with_len (wire o (coef o layer.terms) below) 0 layer.wires g g o.zero l (omega arith) ∙ wire-value o r layer.wires layer.terms below g l h

  -- wires with the same rows have the same values
  pub shared-values : (layer kept : Layer A) (wires : List ℕ) (old new : List A) → length wires ≡ layer.wires → AreTerms o layer.wires (length old) None layer.terms → AreTerms o kept.wires (length new) None kept.terms → AreNumbersBelow kept.wires wires
      → ((i : ℕ) → i < layer.wires → row_value o new (of_wire (at wires i) kept.terms) ≡ row_value o old (of_wire i layer.terms)) → AreCopies o wires (layer_values o layer old) (layer_values o kept new)
  shared-values layer kept wires old new e ht hk below rows k l =
      let m : k < layer.wires = omega (arith, l, e) in
      value-at layer old k m ht ∙ sym (value-at kept new (at wires k) (below k l) hk ∙ rows k m)

  -- all wires of a layer are shared
  pub sharing-ends : (number_of : A → ℕ) (layer : Layer A) (numbers : List ℕ) (start : ℕ) (kept : KeptWires A) (wires : List ℕ) → 1 ≤ layer.wires → AreTerms o layer.wires (length numbers) None layer.terms
      → Sharing o number_of layer numbers layer.wires start kept wires → IsSharedLayer o layer numbers (record { wires = kept.count; terms = kept.terms.items }) wires
  sharing-ends number_of layer numbers start kept wires some h s =
      let over = s.over (past numbers) (past-all numbers) in
      record {
        count = s.each;
        below = over.below;
        first = over.first;
        some = omega (arith, over.below 0 (omega (arith, s.each, some)));
        fewer = s.few;
        terms = λ width n. let at_width = s.over width n in kept-terms o width kept at_width.is;
        values = λ old new k n c.
            let at_new = s.over (length new) n in
            shared-values layer (record { wires = kept.count; terms = kept.terms.items }) wires old new s.each (subst (λ w. AreTerms o layer.wires w None layer.terms) (sym k) h) (kept-terms o (length new) kept at_new.is)
            at_new.below (at_new.rows old new c);
        one = λ is z. over.one is z some;
        different = kept-different o (past numbers) kept over.is;
        short = omega (arith, s.short, s.start_is, before-most layer.wires layer.terms);
      }

-- The layer of the outputs, wire by wire.
use Rattle.std.specs.Prelude.{◌≡◌, ℕ, ◌+◌, ◌-◌, ◌<◌, ◌≤◌, None, List, [], ◌∷◌, ◌++◌, length, map, take}
use Rattle.std.specs.List.{range_with_len}
use Rattle.std.proofs.Common.{zero, suc, ◌⊎◌, inl, inr, refl, sym, ap, ◌∙◌, arith, subst}
use Rattle.std.proofs.lemmas.Bool.{cases_lt}
use Rattle.std.proofs.lemmas.List.{length-map, ext_get_or, take_more, take_all, map-append}
use Rattle.std.proofs.lemmas.List.FromFn.{length-map-range_with_len, get_or-map-range_with_len}
use Rattle.lzk_field.specs.Ring.{Ops}
use Rattle.lzk_field.specs.Sums.{entry}
use Rattle.lzk_circuit.specs.declared.layer.Term.{Term}
use Rattle.lzk_circuit.specs.declared.layer.Layer.{Layer}
use Rattle.lzk_circuit.specs.Valid.{AreTerms}
use Rattle.lzk_circuit.specs.Wires.{coef, wire}
use Rattle.lzk_circuit_reduce.specs.Renumbering.{at}
use Rattle.lzk_circuit_reduce.specs.Rows.{IsRow, row_value}
use Rattle.lzk_level.specs.Bounds.{total}
use Rattle.lzk_level.specs.Wires.{AreFormValues, AreFormWeights, AreWires, CarryValues, IsLight, IsNodeRow, IsTopLayer}

total-last : (ns : List ℕ) (n : ℕ) → total (ns ++ n ∷ []) ≡ total ns + n
total-last [] n = omega arith
total-last (m ∷ ns) n = omega (arith, total-last ns n)

weights-more : (weights outputs : List ℕ) (g : ℕ) → g < length outputs → total (map (at weights) (take (g + 1) outputs)) ≡ total (map (at weights) (take g outputs)) + at weights (at outputs g)
weights-more weights outputs g l =
    ap (λ ks. total (map (at weights) ks)) (take_more outputs g 0 l) ∙ ap total (map-append (at weights) (take g outputs) (at outputs g ∷ [])) ∙ total-last (map (at weights) (take g outputs)) (at weights (at outputs g))

-- a light row of a node that weighs something has no more terms than its weight
light-row : (depths : List ℕ) (level : ℕ) (weights : List ℕ) (k n : ℕ) → 1 ≤ at weights k → IsLight depths level weights k n → n ≤ at weights k
light-row depths level weights k n heavy light = elim (cases_lt (at depths k) level) [ inl less ↦ omega (arith, light.0 less, heavy) | inr same ↦ light.1 same ]

mapped-at : {A : Type 0} (o : Ops A) (f : ℕ → A) (ks : List ℕ) (i : ℕ) → i < length ks → entry o (map f ks) i ≡ f (at ks i)
mapped-at o f [] i l = absurd (omega (arith, l))
mapped-at o f (k ∷ ks) zero l = refl
mapped-at o f (k ∷ ks) (suc i) l = mapped-at o f ks i (omega (arith, l))

last_or : (j k : ℕ) → j < k + 1 → (j < k) ⊎ (j ≡ k)
last_or j k l = elim (cases_lt j k) [ inl m ↦ inl m | inr m ↦ inr (omega (arith, l, m)) ]

module _ {A : Type 0} (o : Ops A) (inputs : ℕ) (form : ℕ → List (Term A)) (depths last : List ℕ) (level : ℕ) (below outputs : List ℕ) where
  -- the terms of the first g outputs
  pub record Outer (g : ℕ) (terms : List (Term A)) : Type 0 where
    pub ordered : (width : ℕ) → AreWires depths last (level - 1) width below → AreTerms o g width None terms
    pub values : (width : ℕ) → AreWires depths last (level - 1) width below → (values wires : List A) → length wires ≡ width → AreFormValues o inputs (length depths) form values → CarryValues o depths last (level - 1) below values wires
        → (i : ℕ) → i < g → wire o (coef o terms) wires i ≡ entry o values (at outputs i)
    pub light : (weights : List ℕ) → AreFormWeights inputs (length depths) form weights → ((i : ℕ) → i < length outputs → 1 ≤ at outputs i) → length terms ≤ total (map (at weights) (take g outputs))

  pub outer-starts : (terms : List (Term A)) → terms ≡ [] → Outer 0 terms
  outer-starts terms e = subst (Outer 0) (sym e) (record { ordered = λ width w. tt; values = λ width w values wires e f c i l. absurd (omega (arith, l)); light = λ weights h ones. omega arith })

  pub outer-adds : (g : ℕ) (old new row : List (Term A)) → g < length outputs → ((i : ℕ) → i < length outputs → at outputs i < length depths) → IsNodeRow o inputs form depths last level below (at outputs g) row
      → ((width : ℕ) → AreTerms o g width None old → IsRow o width row → AreTerms o (g + 1) width None new)
      → ((wires : List A) (i : ℕ) → i < g → wire o (coef o new) wires i ≡ wire o (coef o old) wires i)
      → ((wires : List A) → AreTerms o g (length wires) None old → IsRow o (length wires) row → wire o (coef o new) wires g ≡ row_value o wires row)
      → length new ≡ length old + length row → Outer g old → Outer (g + 1) new
  outer-adds g old new row l nodes r terms before added count u = record {
    ordered = λ width w. terms width (u.ordered width w) (r.is width w);
    values = λ width w values wires e f c i m. elim (last_or i g m) [
      | inl n ↦ before wires i n ∙ u.values width w values wires e f c i n
      | inr same ↦ subst (λ j. wire o (coef o new) wires j ≡ entry o values (at outputs j)) (sym same)
          (added wires (subst (λ n. AreTerms o g n None old) (sym e) (u.ordered width w)) (subst (λ n. IsRow o n row) (sym e) (r.is width w)) ∙ r.value values wires f c)
    ];
    light = λ weights h ones.
        let k = at outputs g in
        let short = light-row depths level weights k (length row) (h.some k (ones g l) (nodes g l)) (r.light weights h) in
        omega (arith, count, u.light weights h ones, short, weights-more weights outputs g l);
  }

  pub outer-ends : (width g : ℕ) (terms : List (Term A)) (layer : Layer A) → g ≡ length outputs → layer.wires ≡ length outputs → layer.terms ≡ terms → AreWires depths last (level - 1) width below → Outer g terms → IsTopLayer o inputs form depths last (level - 1) width below outputs layer
  outer-ends width g terms layer top wires_is terms_is w u = record {
    wires = wires_is;
    terms = subst (λ ts. AreTerms o layer.wires width None ts) (sym terms_is) (subst (λ n. AreTerms o n width None terms) (top ∙ sym wires_is) (u.ordered width w));
    values = λ values wires e f c.
        let own = wire o (coef o layer.terms) wires in
        ext_get_or o.zero (map own (range_with_len 0 layer.wires)) (map (entry o values) outputs) (length-map-range_with_len own 0 layer.wires ∙ wires_is ∙ sym (length-map outputs (entry o values)))
        (λ i l.
        let li : i < length outputs = omega (arith, l, length-map-range_with_len own 0 layer.wires, wires_is) in
        get_or-map-range_with_len own 0 layer.wires i i o.zero (omega (arith, li, wires_is)) (omega arith) ∙ ap (λ ts. wire o (coef o ts) wires i) terms_is ∙ u.values width w values wires e f c i (omega (arith, li, top)) ∙ sym (mapped-at o (entry o values) outputs i li));
    light = λ weights h ones. omega (arith, ap length terms_is, u.light weights h ones, ap (λ n. total (map (at weights) (take n outputs))) top, ap (λ ks. total (map (at weights) ks)) (take_all (length outputs) outputs (omega arith)));
  }

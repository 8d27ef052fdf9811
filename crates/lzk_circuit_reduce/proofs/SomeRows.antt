-- The rows of a layer over other numbers of the wires below, and the layers that they make.
use Rattle.std.specs.Prelude.{◌≡◌, ℕ, ◌+◌, ◌<◌, ◌≤◌, Option, Some, None, List, [], ◌∷◌, ◌++◌, length, map}
use Rattle.std.proofs.Common.{zero, suc, inl, inr, refl, sym, ap, ap₂, ◌∙◌, subst, arith}
use Rattle.std.proofs.lemmas.Bool.{cases_lt}
use Rattle.std.proofs.lemmas.List.{length-append, length-map}
use Rattle.lzk_field.specs.Ring.{Ops, RingLaws, FieldLaws}
use Rattle.lzk_circuit.specs.declared.layer.Term.{Term}
use Rattle.lzk_circuit.specs.declared.layer.Layer.{Layer}
use Rattle.lzk_circuit.specs.Valid.{AreTerms}
use Rattle.lzk_circuit_reduce.specs.Rows.{IsRow, row_value, ordered}
use Rattle.lzk_circuit_reduce.specs.Renumbering.{at, of_wire, terms_before, AreOver, AreNumbersBelow, AreCopies, triples, IsOne}
use Rattle.lzk_circuit_reduce.proofs.NormalLaws.{ZeroOrNot, AreOfRow, ordered-of-row, ordered-value, IsNormal, normal}
use Rattle.lzk_circuit_reduce.proofs.RenumberLaws.{over-own, terms-over, copied-value, one-count, one-renumbered, wire-value}
use Rattle.lzk_circuit_reduce.proofs.WireLaws.{before_one, before_same, own_one, own_same, before-most}
use Rattle.lzk_circuit_reduce.proofs.SharedWireLaws.{past, past-all, placed-value, placed-triples, placed-one, shared-values}
use Rattle.lzk_circuit_reduce.specs.Shared.{IsSharedLayer, IsMovedLayer, IsRowOf}
use Rattle.lzk_circuit_reduce.proofs.StackedRows.{row_at, term_total, total-more, each-more, AreRowsOver, stacked, SameOrNot, once}

module _ {A : Type 0} where
  -- a wire has the terms up to the next one's
  own-count : (g : ℕ) (ts : List (Term A)) → terms_before (g + 1) ts ≡ terms_before g ts + length (of_wire g ts)
  own-count g [] = refl
  own-count g (t ∷ ts) = elim (cases_lt t.g g) [
    | inl l ↦ omega (arith, before_one g t ts l, before_one (g + 1) t ts (omega (arith, l)), own-count g ts, ap length (own_same g t ts (inl l)))
    | inr m ↦ elim (cases_lt g t.g) [
      | inl l ↦ omega (arith, before_same g t ts m, before_same (g + 1) t ts (omega (arith, l)), own-count g ts, ap length (own_same g t ts (inr l)))
      | inr n ↦ omega (arith, before_same g t ts m, before_one (g + 1) t ts (omega (arith, n)), own-count g ts, ap length (own_one g t ts (omega (arith, m, n))))
    ]
  ]

  -- rows of a single wire with the same terms are the same
  same-triple : (t u : Term A) → t.g ≡ u.g → ◌≡◌ {A = ℕ × ℕ × A} (t.a, t.b, t.coef) (u.a, u.b, u.coef) → t ≡ u
  same-triple t u eg e = same u.a u.b u.coef (ap (λ (p : ℕ × ℕ × A). p.0) e) (ap (λ (p : ℕ × ℕ × A). p.1) e) (ap (λ (p : ℕ × ℕ × A). p.2) e)
    where
      term_of : ℕ → ℕ → ℕ → A → Term A
      term_of g a b c = record { g = g; a = a; b = b; coef = c }

      same : (a b : ℕ) (c : A) → t.a ≡ a → t.b ≡ b → t.coef ≡ c → term_of t.g t.a t.b t.coef ≡ term_of u.g a b c
      same a b c ea eb ec = ap (λ x. term_of x t.a t.b t.coef) eg ∙ ap (λ x. term_of u.g x t.b t.coef) ea ∙ ap (λ x. term_of u.g a x t.coef) eb ∙ ap (λ x. term_of u.g a b x) ec

module _ {A : Type 0} (o : Ops A) where
  same-terms : (width : ℕ) (b c : Option (Term A)) (x y : List (Term A)) → AreTerms o 1 width b x → AreTerms o 1 width c y → triples x ≡ triples y → x ≡ y
  same-terms width b c [] [] h k e = refl
  same-terms width b c [] (u ∷ y) h k e = absurd cc
  same-terms width b c (t ∷ x) [] h k e = absurd cc
  same-terms width b c (t ∷ x) (u ∷ y) h k e =
      let first : ◌≡◌ {A = ℕ × ℕ × A} (t.a, t.b, t.coef) (u.a, u.b, u.coef) = cc in
      let rest : triples x ≡ triples y = cc in
      let one = h.0 in
      let two = k.0 in
      ap₂ (λ (z : Term A) (zs : List (Term A)). z ∷ zs) (same-triple t u (omega (arith, one.g, two.g)) first) (same-terms width (Some t) (Some u) x y h.2 k.2 rest)

module _ {A : Type 0} (o : Ops A) (r : RingLaws o) (f : FieldLaws o) (decide : ZeroOrNot o) (number_of : A → ℕ) where
  -- a term over the numbers of the wires that it names
  abbrev moved_term : List ℕ → Term A → Term A
  moved_term numbers t = ordered t.coef (at numbers t.a) (at numbers t.b)

  moved-of-row : (width : ℕ) (numbers : List ℕ) (ts : List (Term A)) → AreOver (length numbers) ts → AreNumbersBelow width numbers → AreOfRow width (map (moved_term numbers) ts)
  moved-of-row width numbers [] h n = tt
  moved-of-row width numbers (t ∷ ts) h n = (ordered-of-row width t.coef (at numbers t.a) (at numbers t.b) (n t.a h.0) (n t.b h.1), moved-of-row width numbers ts h.2 n)

  moved-value : (numbers : List ℕ) (old new : List A) (ts : List (Term A)) → AreOver (length numbers) ts → AreCopies o numbers old new → row_value o new (map (moved_term numbers) ts) ≡ row_value o old ts
  moved-value numbers old new [] h c = refl
  moved-value numbers old new (t ∷ ts) h c =
      ap₂ o.plus (ordered-value o r decide new t.coef (at numbers t.a) (at numbers t.b) ∙ copied-value o r numbers old new t c h.0 h.1) (moved-value numbers old new ts h.2 c)

  moved-one : (numbers : List ℕ) (ts row : List (Term A)) → IsNormal o r decide (map (moved_term numbers) ts) row → IsOne o ts → at numbers 0 ≡ 0 → IsOne o row
  moved-one numbers [] row n h z = absurd (omega (arith, one-count o [] h))
  moved-one numbers (t ∷ []) row n h z = let q = one-renumbered o f numbers (t ∷ []) t refl h z in subst (IsOne o) (sym (n.alone (moved_term numbers t) refl q.0)) q.1
  moved-one numbers (t ∷ u ∷ ts) row n h z = absurd (omega (arith, one-count o (t ∷ u ∷ ts) h))

  module _ (layer : Layer A) (numbers : List ℕ) (terms : AreTerms o layer.wires (length numbers) None layer.terms) where
    abbrev IsOwnRow : ℕ → List (Term A) → Type 0
    IsOwnRow g row = IsRowOf o layer numbers g (terms_before g layer.terms) (terms_before (g + 1) layer.terms) row

    row-of : (g : ℕ) → (row : List (Term A)) × IsOwnRow g row
    row-of g =
        let ts = of_wire g layer.terms in
        let over = over-own (length numbers) g layer.terms (terms-over o layer.wires (length numbers) None layer.terms terms) in
        let (row, n) = normal o r decide (map (moved_term numbers) ts) in (
          row,
          record {
            end_is = refl;
            is = λ width below. n.terms width (moved-of-row width numbers ts over below);
            value = λ old new c. n.value new ∙ moved-value numbers old new ts over c;
            short = omega (arith, n.short, length-map ts (moved_term numbers), own-count g layer.terms);
            one = moved-one numbers ts row n;
          },
        )

    -- the rows of the first n wires
    record AreRowsOf (n : ℕ) (rows : List (List (Term A))) : Type 0 where
      pub count : length rows ≡ n
      pub each : (g : ℕ) → g < length rows → IsOwnRow g (row_at rows g)
      pub short : term_total rows ≤ terms_before n layer.terms

    rows-of : (n : ℕ) → (rows : List (List (Term A))) × AreRowsOf n rows
    rows-of zero = ([], record { count = refl; each = λ g l. absurd (omega (arith, l)); short = omega arith })
    rows-of (suc n) =
        let (rows, are) = rows-of n in
        let (row, is) = row-of n in
        let next : suc n ≡ n + 1 = omega arith in (
          rows ++ row ∷ [],
          record {
            count = length-append rows (row ∷ []) ∙ omega (arith, are.count);
            each = each-more [] IsOwnRow rows row are.each (subst (λ g. IsOwnRow g row) (sym are.count) is);
            short = omega (arith, are.short, is.short, total-more rows row, ap (λ k. terms_before k layer.terms) next);
          },
        )

    rows-over : (rows : List (List (Term A))) → AreRowsOf layer.wires rows → (width : ℕ) → AreNumbersBelow width numbers → AreRowsOver o width rows
    rows-over rows are width below g l = let is = are.each g l in is.is width below

    -- the layer over these numbers
    pub moved-layer : (moved : Layer A) × IsMovedLayer o layer numbers moved
    moved-layer =
        let (rows, are) = rows-of layer.wires in
        let (ts, s) = stacked o rows in
        let terms_at : (width : ℕ) → AreNumbersBelow width numbers → AreTerms o layer.wires width None ts = λ width below. subst (λ n. AreTerms o n width None ts) are.count (s.terms_are width (rows-over rows are width below)) in (
          record { wires = layer.wires; terms = ts },
          record {
            wires = refl;
            terms = terms_at;
            values = λ old new k below c g l.
                let m : g < length rows = omega (arith, l, are.count) in
                let is = are.each g m in
                wire-value o r layer.wires ts new g l (terms_at (length new) below) ∙ ap (row_value o new) (s.own (length new) (rows-over rows are (length new) below) g m) ∙ placed-value o g new (row_at rows g) ∙ is.value old new c
                ∙ sym (wire-value o r layer.wires layer.terms old g l (subst (λ w. AreTerms o layer.wires w None layer.terms) (sym k) terms));
            short = omega (arith, s.count, are.short, before-most layer.wires layer.terms);
          },
        )

    -- the same with wires of the same terms as one
    pub shared-layer : SameOrNot A → 1 ≤ layer.wires → (kept : Layer A) × (wires : List ℕ) × IsSharedLayer o layer numbers kept wires
    shared-layer same some =
        let (rows, are) = rows-of layer.wires in
        let found = once same rows in
        let ks = found.kept in
        let a = found.are in
        let (ts, s) = stacked o ks in
        let over : (width : ℕ) → AreNumbersBelow width numbers → AreRowsOver o width ks = λ width below k l. let (i, m, e) = a.from k l in subst (IsRow o width) (sym e) (rows-over rows are width below i m) in
        let high = past numbers in
        let all = over high (past-all numbers) in
        let first_below = a.below 0 (omega (arith, a.count, are.count, some)) in (
          record { wires = length ks; terms = ts },
          found.numbers,
          record {
            count = a.count ∙ are.count;
            below = a.below;
            first = a.first;
            some = omega (arith, first_below);
            fewer = omega (arith, a.fewer, are.count);
            terms = λ width below. s.terms_are width (over width below);
            values = λ old new k below c.
                shared-values o r layer (record { wires = length ks; terms = ts }) found.numbers old new (a.count ∙ are.count) (subst (λ w. AreTerms o layer.wires w None layer.terms) (sym k) terms) (s.terms_are (length new) (over (length new) below)) a.below
                (λ i l.
                let m : i < length rows = omega (arith, l, are.count) in
                let j = at found.numbers i in
                let is = are.each i m in
                ap (row_value o new) (s.own (length new) (over (length new) below) j (a.below i (omega (arith, m, a.count)))) ∙ placed-value o j new (row_at ks j) ∙ ap (row_value o new) (a.same i m) ∙ is.value old new c);
            one = λ h z.
                let m : 0 < length rows = omega (arith, some, are.count) in
                let is = are.each 0 m in
                let row : row_at ks 0 ≡ row_at rows 0 = ap (row_at ks) (sym a.first) ∙ a.same 0 m in
                ap triples (s.own high all 0 (omega (arith, first_below))) ∙ placed-one o 0 (row_at ks 0) (subst (IsOne o) (sym row) (is.one h z));
            different = λ g h l m e.
                a.different g h l m (same-terms o high None None (row_at ks g) (row_at ks h) (all g (omega (arith, l, m))) (all h m)
                (sym (ap triples (s.own high all g (omega (arith, l, m))) ∙ placed-triples o g (row_at ks g)) ∙ e ∙ ap triples (s.own high all h m) ∙ placed-triples o h (row_at ks h)));
            short = omega (arith, s.count, a.short, are.short, before-most layer.wires layer.terms);
          },
        )

-- A layer's terms, wire by wire.
use Rattle.std.specs.Prelude.{◌≡◌, ℕ, ◌+◌, ◌<◌, ◌≤◌, ◌==◌, ◌&&◌, ◌||◌, nat_lt, cond, Option, None, Some, IsTrue, List, [], ◌∷◌, ◌++◌, length, map, take}
use Rattle.std.proofs.Common.{refl, sym, ap, ◌∙◌, arith, get_or}
use Rattle.std.proofs.lemmas.List.{append_assoc, length-append, length-map, length-take}
use Rattle.std.proofs.lemmas.Bool.{or_left, lt-ltb, ne_eqb, eq-eqb}
use Rattle.lzk_field.specs.Ring.{Ops, RingLaws}
use Rattle.lzk_field.specs.Sums.{entry}
use Rattle.lzk_circuit.specs.declared.layer.Term.{Term}
use Rattle.lzk_circuit.specs.Valid.{follows, AreTerms}
use Rattle.lzk_circuit.specs.Wires.{is_at, coef, wire}
use Rattle.lzk_circuit.proofs.OrderLaws.{distinct}
use Rattle.lzk_circuit.specs.Sums.{sum_list}
use Rattle.lzk_circuit.proofs.TermSums.{share, wire-terms, sum_pairs-ext}
use Rattle.lzk_circuit_reduce.specs.Rows.{IsRow, row_value, term_value, placed}
use Rattle.lzk_circuit_reduce.proofs.RowLaws.{map-more, last_from, append-terms, precedes-less, less-precedes}

module _ {A : Type 0} where
  -- every term is one of wire 0
  abbrev AreZeros : List (Term A) → Type 0
  AreZeros [] = Unit {0}
  AreZeros (t ∷ ts) = (t.g ≡ 0) × AreZeros ts

module _ {A : Type 0} (o : Ops A) where
  -- the terms of a row as those of wire g
  placed-follow : (g : ℕ) (s t : Term A) → s.g ≡ t.g → IsTrue (follows (Some s) t) → IsTrue (follows (Some (placed g s)) (placed g t))
  placed-follow g s t e h = less-precedes (placed g s) (placed g t) refl (precedes-less s t e h)

  placed-behind : (g width : ℕ) (s : Term A) (row : List (Term A)) → s.g ≡ 0 → AreTerms o 1 width (Some s) row → AreTerms o (g + 1) width (Some (placed g s)) (map (placed g) row)
  placed-behind g width s [] e h = tt
  placed-behind g width s (t ∷ ts) e h =
      let one = h.0 in
      let z : t.g ≡ 0 = omega (arith, one.g) in
      (record { g = omega arith; a = one.a; b = one.b; coef = one.coef }, placed-follow g s t (e ∙ sym z) h.1, placed-behind g width t ts z h.2)

  -- what stands before the terms of wire g
  abbrev AreBefore : ℕ → Option (Term A) → Type 0
  AreBefore g None = Unit {0}
  AreBefore g (Some t) = t.g < g

  last-before : (g width : ℕ) (before : Option (Term A)) (ts : List (Term A)) → AreBefore g before → AreTerms o g width before ts → AreBefore g (last_from before ts)
  last-before g width before [] b h = b
  last-before g width before (t ∷ ts) b h = let one = h.0 in last-before g width (Some t) ts one.g h.2

  starts-wire : (g : ℕ) (before : Option (Term A)) (t : Term A) → AreBefore g before → IsTrue (follows before (placed g t))
  starts-wire g None t b = refl
  starts-wire g (Some s) t b = or_left (nat_lt s.g g) ((s.g == g) && (nat_lt s.a t.a || ((s.a == t.a) && nat_lt s.b t.b))) (lt-ltb s.g g b)

  more-wires : (g width : ℕ) (before : Option (Term A)) (ts : List (Term A)) → AreTerms o g width before ts → AreTerms o (g + 1) width before ts
  more-wires g width before [] h = tt
  more-wires g width before (t ∷ ts) h = let one = h.0 in (record { g = omega (arith, one.g); a = one.a; b = one.b; coef = one.coef }, h.1, more-wires g width (Some t) ts h.2)

  placed-terms : (g width : ℕ) (before : Option (Term A)) (row : List (Term A)) → AreBefore g before → IsRow o width row → AreTerms o (g + 1) width before (map (placed g) row)
  placed-terms g width before [] b h = tt
  placed-terms g width before (t ∷ ts) b h =
      let one = h.0 in
      (record { g = omega arith; a = one.a; b = one.b; coef = one.coef }, starts-wire g before t b, placed-behind g width t ts (omega (arith, one.g)) h.2)

  pub stacked-terms : (g width : ℕ) (ts row : List (Term A)) → AreTerms o g width None ts → IsRow o width row → AreTerms o (g + 1) width None (ts ++ map (placed g) row)
  stacked-terms g width ts row h k =
      append-terms o (g + 1) width None ts (map (placed g) row) (more-wires g width None ts h) (placed-terms g width (last_from None ts) row (last-before g width None ts tt h) k)

  -- the terms of wire g count for no other wire
  coef-other : (g i a b : ℕ) (row : List (Term A)) → i < g → coef o (map (placed g) row) i a b ≡ o.zero
  coef-other g i a b [] l = refl
  coef-other g i a b (t ∷ ts) l = ap (λ p. cond (p && ((a == t.a) && (b == t.b))) t.coef (coef o (map (placed g) ts) i a b)) (ne_eqb i g (λ e. omega (arith, e, l))) ∙ coef-other g i a b ts l

  coef-before : (g i a b : ℕ) (ts row : List (Term A)) → i < g → coef o (ts ++ map (placed g) row) i a b ≡ coef o ts i a b
  coef-before g i a b [] row l = coef-other g i a b row l
  coef-before g i a b (t ∷ ts) row l = ap (cond (is_at t i a b) t.coef) (coef-before g i a b ts row l)

  coef-placed : (g a b : ℕ) (width : ℕ) (row : List (Term A)) → AreZeros row → coef o (map (placed g) row) g a b ≡ coef o row 0 a b
  coef-placed g a b width [] z = refl
  coef-placed g a b width (t ∷ ts) z =
      ap (λ p. cond (p && ((a == t.a) && (b == t.b))) t.coef (coef o (map (placed g) ts) g a b)) (eq-eqb g g refl ∙ sym (eq-eqb 0 t.g (sym z.0)))
      ∙ ap (cond (is_at t 0 a b) t.coef) (coef-placed g a b width ts z.1)

  coef-behind : (g a b width : ℕ) (before : Option (Term A)) (ts us : List (Term A)) → AreTerms o g width before ts → coef o (ts ++ us) g a b ≡ coef o us g a b
  coef-behind g a b width before [] us h = refl
  coef-behind g a b width before (t ∷ ts) us h =
      let one = h.0 in
      ap (λ p. cond (p && ((a == t.a) && (b == t.b))) t.coef (coef o (ts ++ us) g a b)) (ne_eqb g t.g (λ e. omega (arith, e, one.g))) ∙ coef-behind g a b width (Some t) ts us h.2

  row-zeros : (width : ℕ) (before : Option (Term A)) (row : List (Term A)) → AreTerms o 1 width before row → AreZeros row
  row-zeros width before [] h = tt
  row-zeros width before (t ∷ ts) h = let one = h.0 in (omega (arith, one.g), row-zeros width (Some t) ts h.2)

module _ {A : Type 0} (o : Ops A) (r : RingLaws o) where
  row-share : (below : List A) (row : List (Term A)) → AreZeros row → sum_list o row (share o r below 0) ≡ row_value o below row
  row-share below [] z = refl
  row-share below (t ∷ ts) z =
      ap (λ p. o.plus (o.times t.coef (cond p (o.times (entry o below t.a) (entry o below t.b)) o.zero)) (sum_list o ts (share o r below 0))) (eq-eqb t.g 0 z.0)
      ∙ ap (o.plus (term_value o below t)) (row-share below ts z.1)

  -- a row of terms is a wire
  pub row-wire : (below : List A) (row : List (Term A)) → IsRow o (length below) row → wire o (coef o row) below 0 ≡ row_value o below row
  row-wire below row h = wire-terms o r 1 row below 0 (omega arith) (distinct o 1 (length below) None row h) ∙ row-share below row (row-zeros o (length below) None row h)

  pub same-wire : (q p : ℕ → ℕ → ℕ → A) (below : List A) (i j : ℕ) → ((a b : ℕ) → q i a b ≡ p j a b) → wire o q below i ≡ wire o p below j
  unfolding wire
  same-wire q p below i j e =
      sum_pairs-ext o r (length below) (λ a b. o.times (o.times (q i a b) (entry o below a)) (entry o below b)) (λ a b. o.times (o.times (p j a b) (entry o below a)) (entry o below b)) (λ a b. ap (λ c. o.times (o.times c (entry o below a)) (entry o below b)) (e a b))

  pub stacked-before : (g i : ℕ) (below : List A) (ts row : List (Term A)) → i < g → wire o (coef o (ts ++ map (placed g) row)) below i ≡ wire o (coef o ts) below i
  stacked-before g i below ts row l = same-wire (coef o (ts ++ map (placed g) row)) (coef o ts) below i i (λ a b. coef-before o g i a b ts row l)

  pub stacked-added : (g : ℕ) (below : List A) (ts row : List (Term A)) → AreTerms o g (length below) None ts → IsRow o (length below) row → wire o (coef o (ts ++ map (placed g) row)) below g ≡ row_value o below row
  stacked-added g below ts row h k =
      same-wire (coef o (ts ++ map (placed g) row)) (coef o row) below g 0
      (λ a b. coef-behind o g a b (length below) None ts (map (placed g) row) h ∙ coef-placed o g a b (length below) row (row-zeros o (length below) None row k))
      ∙ row-wire below row k

module _ {A : Type 0} where
  -- one term more of a row
  pub placed-more : (g : ℕ) (old row before after : List (Term A)) (i : ℕ) (t : Term A) → i < length row → t ≡ get_or row i t → after ≡ before ++ placed g t ∷ [] → before ≡ old ++ map (placed g) (take i row)
      → after ≡ old ++ map (placed g) (take (i + 1) row)
  placed-more g old row before after i t l is e h =
      let some = map (placed g) (take i row) in
      e ∙ ap (λ us. us ++ placed g t ∷ []) h ∙ append_assoc old some (placed g t ∷ []) ∙ ap (λ us. old ++ us) (map-more (placed g) row some (some ++ placed g t ∷ []) i t l is refl refl)

  pub placed-count : (g : ℕ) (old row before : List (Term A)) (i : ℕ) → i ≤ length row → before ≡ old ++ map (placed g) (take i row) → length before ≡ length old + i
  placed-count g old row before i l h = ap length h ∙ omega (arith, length-append old (map (placed g) (take i row)), length-map (take i row) (placed g), length-take i row, l)

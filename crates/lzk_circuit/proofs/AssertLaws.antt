-- Assertion terms: what they count, and lists of terms with other coefficients.
use Rattle.std.specs.Prelude.{◌≡◌, ◌≢◌, ℕ, ◌+◌, ◌<◌, IsTrue, Bool, true, false, cond, Option, Some, None, List, [], ◌∷◌, length, map}
use Rattle.std.proofs.Common.{refl, sym, ap, ◌∙◌, arith, subst, get_or}
use Rattle.lzk_field.specs.Ring.{Ops, RingLaws, FieldLaws, Laws}
use Rattle.lzk_field.specs.Sums.{minus}
use Rattle.lzk_field.proofs.RingBasics.{zero_plus, zero_times, times_zero, neg_zero}
use Rattle.lzk_circuit.specs.declared.layer.Term.{Term}
use Rattle.lzk_circuit.specs.declared.layer.Layer.{Layer}
use Rattle.lzk_circuit.specs.Valid.{Wiring, follows, ArePlaced, IsValid, widths}
use Rattle.lzk_circuit.specs.Wires.{is_at, coef, zero_of, zero_at, layer_coefficient, weighed, wire, AreDistinct}
use Rattle.lzk_circuit.proofs.TermSums.{sum_pairs-ext}
use Rattle.lzk_circuit.proofs.OrderLaws.{placed-distinct}
use Rattle.lzk_circuit.proofs.PlaceLaws.{layer-at, width-at}
use Rattle.lzk_circuit.proofs.ValidLaws.{zero-only}

-- ---- 1 for 0, and 0 for any other

module _ {A : Type 0} (o : Ops A) (r : RingLaws o) where
  pub zero_of-zero : (x : A) → x ≡ o.zero → zero_of o x ≡ o.one
  zero_of-zero x e = ap (λ y. minus o o.one (o.times y (o.inverse x))) e ∙ ap (minus o o.one) (zero_times o r (o.inverse x)) ∙ ap (o.plus o.one) (neg_zero o r) ∙ r.plus_zero o.one

  pub zero_of-other : FieldLaws o → (x : A) → x ≢ o.zero → zero_of o x ≡ o.zero
  zero_of-other f x n = ap (minus o o.one) (f.times_inverse x n) ∙ r.plus_neg o.one

-- ---- the same terms with other coefficients

module _ {A : Type 0} (f : A → A) where
  abbrev pub again : Term A → Term A
  again t = record { g = t.g; a = t.a; b = t.b; coef = f t.coef }

  abbrev again_before : Option (Term A) → Option (Term A)
  again_before None = None
  again_before (Some s) = Some (again s)

  again-follows : (before : Option (Term A)) (t : Term A) → IsTrue (follows before t) → IsTrue (follows (again_before before) (again t))
  again-follows None t h = h
  again-follows (Some s) t h = h

  pub again-placed : (wires width : ℕ) (before : Option (Term A)) (ts : List (Term A)) → ArePlaced wires width before ts → ArePlaced wires width (again_before before) (map again ts)
  again-placed wires width before [] h = tt
  again-placed wires width before (t ∷ ts) h = let one = h.0 in (record { g = one.g; a = one.a; b = one.b }, again-follows before t h.1, again-placed wires width (Some t) ts h.2)

module _ {A : Type 0} (o : Ops A) where
  -- 1 for an assertion term, and 0 for another
  abbrev pub zeros : List (Term A) → List (Term A)
  zeros ts = map (again (zero_of o)) ts

  pub zeros-at : (ts : List (Term A)) (g a b : ℕ) → zero_at o ts g a b ≡ coef o (zeros ts) g a b
  zeros-at [] g a b = refl
  zeros-at (t ∷ ts) g a b = ap (cond (is_at t g a b) (zero_of o t.coef)) (zeros-at ts g a b)

  pub zeros-distinct : (wires width : ℕ) (ts : List (Term A)) → ArePlaced wires width None ts → AreDistinct o wires width (zeros ts)
  zeros-distinct wires width ts h = placed-distinct o wires width None (zeros ts) (again-placed (zero_of o) wires width None ts h)

  -- the coefficient of another term, and beta for an assertion term
  abbrev pub weighed_by : A → A → A
  weighed_by beta c = o.plus c (o.times beta (zero_of o c))

  pub weighed-placed : (beta : A) (wires width : ℕ) (ts : List (Term A)) → ArePlaced wires width None ts → ArePlaced wires width None (weighed o beta ts)
  weighed-placed beta wires width ts h = again-placed (weighed_by beta) wires width None ts h

module _ {A : Type 0} (o : Ops A) (r : RingLaws o) where
  open o use {plus, times}

  pub weighed-coef : (beta : A) (ts : List (Term A)) (g a b : ℕ) → layer_coefficient o ts beta g a b ≡ coef o (weighed o beta ts) g a b
  weighed-coef beta [] g a b = zero_plus o r (times beta o.zero) ∙ times_zero o r beta
  weighed-coef beta (t ∷ ts) g a b =
      go (is_at t g a b) t.coef (coef o ts g a b) (zero_of o t.coef) (zero_at o ts g a b) ∙ ap (cond (is_at t g a b) (weighed_by o beta t.coef)) (weighed-coef beta ts g a b)
    where
      go : (p : Bool) (x y z w : A) → plus (cond p x y) (times beta (cond p z w)) ≡ cond p (plus x (times beta z)) (plus y (times beta w))
      go true x y z w = refl
      go false x y z w = refl

  -- with beta 0 stand the coefficients alone
  pub weighed-none : (ts : List (Term A)) (g a b : ℕ) → layer_coefficient o ts o.zero g a b ≡ coef o ts g a b
  weighed-none ts g a b = ap (plus (coef o ts g a b)) (zero_times o r (zero_at o ts g a b)) ∙ r.plus_zero (coef o ts g a b)

  pub wire-ext : (q p : ℕ → ℕ → ℕ → A) (below : List A) (k : ℕ) → ((a b : ℕ) → q k a b ≡ p k a b) → wire o q below k ≡ wire o p below k
  unfolding wire
  wire-ext q p below k e =
      sum_pairs-ext o r (length below) (λ a b. times (times (q k a b) (get_or below a o.zero)) (get_or below b o.zero)) (λ a b. times (times (p k a b) (get_or below a o.zero)) (get_or below b o.zero))
      (λ a b. ap (λ x. times (times x (get_or below a o.zero)) (get_or below b o.zero)) (e a b))

module _ {A : Type 0} (o : Ops A) where
  -- the terms of a layer of a valid circuit of either version are in their places
  pub terms-placed-at : (c : Wiring A) (l : ℕ) (d : Layer A) → l < length c.layers → IsValid o c → ArePlaced (get_or c.layers l d).wires (get_or (widths c) (l + 1) 0) None (get_or c.layers l d).terms
  terms-placed-at c l d h valid =
      let layer = get_or c.layers l d in
      subst (λ n. ArePlaced layer.wires n None layer.terms) (sym (width-at o c (l + 1) (omega arith))) (layer-at o c l d h valid).each

  -- with beta for its assertion terms, they have each three numbers once
  pub weighed-distinct : (beta : A) (c : Wiring A) (l : ℕ) (d : Layer A) → l < length c.layers → IsValid o c
      → AreDistinct o (get_or c.layers l d).wires (get_or (widths c) (l + 1) 0) (weighed o beta (get_or c.layers l d).terms)
  weighed-distinct beta c l d h valid =
      let layer = get_or c.layers l d in
      let n = get_or (widths c) (l + 1) 0 in
      placed-distinct o layer.wires n None (weighed o beta layer.terms) (weighed-placed o beta layer.wires n layer.terms (terms-placed-at c l d h valid))

-- what code takes for a term's coefficient
module _ {A : Type 0} (o : Ops A) (size : ℕ) (number : A → ℕ) (element : ℕ → A) (bytes : ℕ) (laws : Laws o size number element bytes) where
  pub weighed-zero : (beta c : A) → number c ≡ 0 → weighed_by o beta c ≡ beta
  weighed-zero beta c e =
      let zero = zero-only o size number element bytes laws.numbers c e in
      ap (λ x. o.plus x (o.times beta (zero_of o c))) zero ∙ zero_plus o laws.ring _ ∙ ap (o.times beta) (zero_of-zero o laws.ring c zero) ∙ laws.ring.times_one beta

  pub weighed-other : (beta c : A) → number c ≢ 0 → weighed_by o beta c ≡ c
  weighed-other beta c n =
      ap (λ x. o.plus c (o.times beta x)) (zero_of-other o laws.ring laws.field c (λ z. n (ap number z ∙ laws.numbers.zero_number)))
      ∙ ap (o.plus c) (times_zero o laws.ring beta) ∙ laws.ring.plus_zero c

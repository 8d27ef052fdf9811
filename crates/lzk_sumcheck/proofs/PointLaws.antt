-- The variables of a round, one by one, and the sum over all of them that are left.
use Rattle.std.specs.Prelude.{◌≡◌, ◌≢◌, ℕ, ◌<◌, ◌+◌, ◌*◌, ◌-◌, ◌/◌, ◌%◌, ◌^◌, ◌==◌, None, List, [], ◌∷◌, ◌++◌, length, drop, map, true, false, Bool, cond}
use Rattle.std.proofs.Common.{zero, suc, refl, sym, ap, ◌∙◌, arith, append_assoc}
use Rattle.std.proofs.Math.Nat.{div-div-eq-div-mul, div-one, pow-succ'}
use Rattle.std.proofs.lemmas.Bool.{eq-eqb, ne_eqb}
use Rattle.std.proofs.lemmas.List.{get_or-append_right, length-append}
use Rattle.lzk_field.specs.Ring.{Ops, RingLaws}
use Rattle.lzk_field.specs.Sums.{sum_below, minus, entry}
use Rattle.lzk_field.proofs.Solve.{var, null, unit, ◌⊞◌, ◌⊟◌, ◌⊠◌, solve}
use Rattle.lzk_field.proofs.SumLaws.{sum-ext, sum-plus}
use Rattle.lzk_field.proofs.SumPlaces.{sum-halves}
use Rattle.lzk_mle.specs.Multilinear.{low_bit, agree, eq, corner}
use Rattle.lzk_mle.proofs.CornerLaws.{length-corner}
use Rattle.lzk_circuit.specs.declared.layer.Term.{Term}
use Rattle.lzk_circuit.specs.Sums.{sum_list}
use Rattle.lzk_circuit.specs.Valid.{ArePlaced}
use Rattle.lzk_circuit.specs.Wires.{coef, layer_coefficient, weighed_term, weighed, AreDistinct}
use Rattle.lzk_circuit.proofs.AssertLaws.{weighed-coef, weighed-placed}
use Rattle.lzk_circuit.proofs.OrderLaws.{placed-distinct}
use Rattle.lzk_circuit.proofs.TermSums.{sum_triples-ext, coefficient_sum}
use Rattle.lzk_sumcheck.specs.Rounds.{Layered, every_other, bound_coefficient, at, sum_fills, round}
use Rattle.lzk_sumcheck.specs.Points.{point}
use Rattle.lzk_sumcheck.proofs.Binding.{sum_fills-ext}

module _ {A : Type 0} (o : Ops A) where
  bits-at : (n k z : ℕ) → k < n → entry o (corner o n z) k ≡ low_bit o (z / 2 ^ k)
  bits-at zero k z l = absurd (omega arith)
  bits-at (suc n) zero z l = ap (low_bit o) (sym (div-one z))
  bits-at (suc n) (suc k) z l = bits-at n k (z / 2) (omega arith) ∙ ap (low_bit o) (div-div-eq-div-mul z 2 (2 ^ k) ∙ ap (λ m. z / m) (sym (pow-succ' 2 k)))

  point-bit : (bits : ℕ) (bound : List A) (t : A) (z j : ℕ) → length bound < j → j < 2 * bits → entry o (point o bits bound t z) j ≡ low_bit o (z / 2 ^ (j - length bound - 1))
  point-bit bits bound t z j p q =
      let v = 2 * bits - length bound - 1 in
      let e : j - length bound ≡ suc (j - length bound - 1) = omega arith in
      get_or-append_right bound (t ∷ corner o v z) (length bound) j o.zero refl (omega arith) ∙ ap (entry o (t ∷ corner o v z)) e ∙ bits-at v (j - length bound - 1) z (omega arith)

  pub point-zero : (bits : ℕ) (bound : List A) (t : A) (z j : ℕ) → length bound < j → j < 2 * bits → (z / 2 ^ (j - length bound - 1)) % 2 ≡ 0 → o.zero ≡ entry o (point o bits bound t z) j
  point-zero bits bound t z j p q e = sym (point-bit bits bound t z j p q ∙ ap (λ b. cond b o.zero o.one) (eq-eqb ((z / 2 ^ (j - length bound - 1)) % 2) 0 e))

  pub point-one : (bits : ℕ) (bound : List A) (t : A) (z j : ℕ) → length bound < j → j < 2 * bits → (z / 2 ^ (j - length bound - 1)) % 2 ≢ 0 → o.one ≡ entry o (point o bits bound t z) j
  point-one bits bound t z j p q e = sym (point-bit bits bound t z j p q ∙ ap (λ b. cond b o.zero o.one) (ne_eqb ((z / 2 ^ (j - length bound - 1)) % 2) 0 e))

  pub part-at : (b : Bool) (xs : List A) (j : ℕ) → entry o (every_other b xs) j ≡ entry o xs (cond b (2 * j) (2 * j + 1))
  part-at b [] j = refl
  part-at true (x ∷ xs) zero = refl
  part-at true (x ∷ xs) (suc j) = let e : 2 * suc j ≡ suc (2 * j + 1) = omega arith in part-at false xs j ∙ sym (ap (entry o (x ∷ xs)) e)
  part-at false (x ∷ xs) j = let e : 2 * j + 1 ≡ suc (2 * j) = omega arith in part-at true xs j ∙ sym (ap (entry o (x ∷ xs)) e)

  pub part-length : (b : Bool) (xs : List A) (k : ℕ) → length xs ≡ 2 * k → length (every_other b xs) ≡ k
  part-length b [] k e = omega arith
  part-length b (x ∷ []) k e = absurd (omega arith)
  part-length b (x ∷ y ∷ xs) zero e = absurd (omega arith)
  part-length true (x ∷ y ∷ xs) (suc k) e = ap suc (part-length true xs k (omega arith))
  part-length false (x ∷ y ∷ xs) (suc k) e = ap suc (part-length false xs k (omega arith))

  pub part_length : (b : Bool) (bits : ℕ) (bound : List A) (t : A) (z : ℕ) → length bound < 2 * bits → length (every_other b (point o bits bound t z)) ≡ bits
  part_length b bits bound t z l =
      let v = 2 * bits - length bound - 1 in
      part-length b (point o bits bound t z) bits (omega (arith, length-append bound (t ∷ corner o v z), length-corner o v z))

  pub agree-zero : (i : ℕ) (x y : A) → RingLaws o → i % 2 ≡ 0 → y ≡ minus o o.one x → y ≡ agree o (low_bit o i) x
  agree-zero i x y r e h = h ∙ solve o r (x ∷ []) (unit ⊟ var 0) (null ⊠ var 0 ⊞ (unit ⊟ null) ⊠ (unit ⊟ var 0)) refl ∙ sym (ap (λ b. agree o (cond b o.zero o.one) x) (eq-eqb (i % 2) 0 e))

  pub agree-one : (i : ℕ) (x : A) → RingLaws o → i % 2 ≢ 0 → x ≡ agree o (low_bit o i) x
  agree-one i x r e = solve o r (x ∷ []) (var 0) (unit ⊠ var 0 ⊞ (unit ⊟ unit) ⊠ (unit ⊟ var 0)) refl ∙ sym (ap (λ b. agree o (cond b o.zero o.one) x) (ne_eqb (i % 2) 0 e))

module _ {A : Type 0} (o : Ops A) (r : RingLaws o) where
  open o use {plus, times, neg}

  -- a product over the first bits, and what is left
  pub eq-step : (xs ys : List A) (i j rest : ℕ) (product after factor x : A) → drop j xs ≡ x ∷ ys → after ≡ times product factor → factor ≡ agree o (low_bit o rest) x
      → times product (eq o rest (drop j xs)) ≡ eq o i xs → times after (eq o (rest / 2) ys) ≡ eq o i xs
  eq-step xs ys i j rest product after factor x front e f h =
      ap (λ w. times w (eq o (rest / 2) ys)) (e ∙ ap (times product) f) ∙ r.times_assoc product (agree o (low_bit o rest) x) (eq o (rest / 2) ys)
      ∙ sym (ap (λ zs. times product (eq o rest zs)) front) ∙ h

  -- the corner of an even number, and of the odd one behind it
  corner-even : (n i : ℕ) → corner o (suc n) (2 * i) ≡ o.zero ∷ corner o n i
  corner-even n i =
      let low : (2 * i) % 2 ≡ 0 = omega arith in
      let half : (2 * i) / 2 ≡ i = omega arith in
      ap (λ b. cond (b == 0) o.zero o.one ∷ corner o n ((2 * i) / 2)) low ∙ ap (λ k. o.zero ∷ corner o n k) half

  corner-odd : (n i : ℕ) → corner o (suc n) (2 * i + 1) ≡ o.one ∷ corner o n i
  corner-odd n i =
      let low : (2 * i + 1) % 2 ≡ 1 = omega arith in
      let half : (2 * i + 1) / 2 ≡ i = omega arith in
      ap (λ b. cond (b == 0) o.zero o.one ∷ corner o n ((2 * i + 1) / 2)) low ∙ ap (λ k. o.one ∷ corner o n k) half

  -- the lists of zeros and ones are the corners
  fills-corners : (n : ℕ) (f : List A → A) → sum_fills o n f ≡ sum_below o (2 ^ n) (λ z. f (corner o n z))
  fills-corners zero f = solve o r (f [] ∷ []) (var 0) (null ⊞ var 0) refl
  fills-corners (suc n) f =
      let m = 2 ^ n in
      ap (λ w. plus w (sum_fills o n (λ z. f (o.one ∷ z)))) (fills-corners n (λ z. f (o.zero ∷ z)))
      ∙ ap (plus (sum_below o m (λ z. f (o.zero ∷ corner o n z)))) (fills-corners n (λ z. f (o.one ∷ z)))
      ∙ sym (sum-plus o r m (λ z. f (o.zero ∷ corner o n z)) (λ z. f (o.one ∷ corner o n z)))
      ∙ sym (sum-ext o r m (λ i. plus (f (corner o (suc n) (2 * i))) (f (corner o (suc n) (2 * i + 1)))) (λ i. plus (f (o.zero ∷ corner o n i)) (f (o.one ∷ corner o n i)))
      (λ i l. ap (λ w. plus w (f (corner o (suc n) (2 * i + 1)))) (ap f (corner-even n i)) ∙ ap (plus (f (o.zero ∷ corner o n i))) (ap f (corner-odd n i))))
      ∙ sym (sum-halves o r m (λ z. f (corner o (suc n) z)))
      ∙ ap (λ k. sum_below o k (λ z. f (corner o (suc n) z))) (sym (pow-succ' 2 n))

  pub round-sum : (s : Layered A) (bound : List A) (t : A) → length bound < 2 * s.bits → round o s bound t ≡ sum_below o (2 ^ (2 * s.bits - length bound - 1)) (λ z. at o s (point o s.bits bound t z))
  round-sum s bound t l =
      let v = 2 * s.bits - length bound - 1 in
      let e : 2 * s.bits - length (bound ++ t ∷ []) ≡ v = omega (arith, length-append bound (t ∷ [])) in
      ap (λ k. sum_fills o k (λ y. at o s ((bound ++ t ∷ []) ++ y))) e
      ∙ sum_fills-ext o r v (λ y. at o s ((bound ++ t ∷ []) ++ y)) (λ y. at o s (bound ++ t ∷ y)) (λ y. ap (at o s) (append_assoc bound (t ∷ []) y))
      ∙ fills-corners v (λ y. at o s (bound ++ t ∷ y))

  -- what a term counts for
  abbrev pub term_value : A → List A → List A → List A → Term A → A
  term_value beta weights xs ys t = times (times (times (entry o weights t.g) (weighed_term o beta t).coef) (eq o t.a xs)) (eq o t.b ys)

  list-ext : {X : Type 0} (ts : List X) (f h : X → A) → ((t : X) → f t ≡ h t) → sum_list o ts f ≡ sum_list o ts h
  list-ext [] f h e = refl
  list-ext (t ∷ ts) f h e = ap (λ w. plus w (sum_list o ts f)) (e t) ∙ ap (plus (h t)) (list-ext ts f h e)

  list-mapped : {X Y : Type 0} (h : X → Y) (ts : List X) (f : Y → A) → sum_list o (map h ts) f ≡ sum_list o ts (λ t. f (h t))
  list-mapped h [] f = refl
  list-mapped h (t ∷ ts) f = ap (plus (f (h t))) (list-mapped h ts f)

  pub terms-sum : (terms : List (Term A)) (beta : A) (weights xs ys : List A) (width : ℕ) → ArePlaced (length weights) width None terms
      → sum_list o terms (term_value beta weights xs ys) ≡ bound_coefficient o (layer_coefficient o terms beta) weights width xs ys
  terms-sum terms beta weights xs ys width h =
      let w = entry o weights in
      let f : ℕ → ℕ → ℕ → A = λ g a b. times (times (w g) (eq o a xs)) (eq o b ys) in
      let ts = weighed o beta terms in
      list-ext terms (term_value beta weights xs ys) (λ t. times (weighed_term o beta t).coef (f t.g t.a t.b))
      (λ t. solve o r (w t.g ∷ (weighed_term o beta t).coef ∷ eq o t.a xs ∷ eq o t.b ys ∷ []) (((var 0 ⊠ var 1) ⊠ var 2) ⊠ var 3) (var 1 ⊠ ((var 0 ⊠ var 2) ⊠ var 3)) refl)
      ∙ sym (list-mapped (weighed_term o beta) terms (λ t. times t.coef (f t.g t.a t.b)))
      ∙ sym (coefficient_sum o r (length weights) width ts f (placed-distinct o (length weights) width None ts (weighed-placed o beta (length weights) width terms h)))
      ∙ sum_triples-ext o r (length weights) width (λ g a b. times (coef o ts g a b) (f g a b)) (λ g a b. times (times (times (w g) (layer_coefficient o terms beta g a b)) (eq o a xs)) (eq o b ys))
      (λ g a b. ap (λ x. times x (f g a b)) (sym (weighed-coef o r beta terms g a b))
      ∙ solve o r (w g ∷ layer_coefficient o terms beta g a b ∷ eq o a xs ∷ eq o b ys ∷ []) (var 1 ⊠ ((var 0 ⊠ var 2) ⊠ var 3)) (((var 0 ⊠ var 1) ⊠ var 2) ⊠ var 3) refl)

  pub list-step : {X : Type 0} (ts rest : List X) (t : X) (i : ℕ) (f : X → A) (total after v all : A) → drop i ts ≡ t ∷ rest → v ≡ f t → after ≡ plus total v → plus total (sum_list o (drop i ts) f) ≡ all → plus after (sum_list o rest f) ≡ all
  list-step ts rest t i f total after v all front e p h = ap (λ w. plus w (sum_list o rest f)) (p ∙ ap (plus total) e) ∙ r.plus_assoc total (f t) (sum_list o rest f) ∙ sym (ap (λ xs. plus total (sum_list o xs f)) front) ∙ h

pub terms_drop : {A : Type 0} (o : Ops A) (k n i : ℕ) (ts : List (Term A)) → AreDistinct o k n ts → AreDistinct o k n (drop i ts)
terms_drop o k n zero ts h = h
terms_drop o k n (suc i) [] h = h
terms_drop o k n (suc i) (t ∷ ts) h = terms_drop o k n i ts h.4

-- What changes where one value changes.
use Rattle.std.specs.Prelude.{◌≡◌, ◌≢◌, ℕ, ◌+◌, ◌-◌, ◌<◌, ◌≤◌, List, [], ◌∷◌, length, true, false, Bool, cond}
use Rattle.std.proofs.Common.{suc, refl, sym, ap, ◌∙◌, arith, eqb}
use Rattle.std.proofs.lemmas.Bool.{eqb-true, eq-eqb, false≢true}
use Rattle.std.proofs.lemmas.List.{length-set, get_or-set_same, get_or-set_other}
use native.Mathlib.Decide.{dec_lt}
use Rattle.lzk_field.specs.Ring.{Ops, RingLaws, FieldLaws}
use Rattle.lzk_field.specs.Sums.{sum_below, minus, entry}
use Rattle.lzk_field.proofs.RingBasics.{zero_times, plus_cancel, same_from_difference, no_divisors, not_zero_from_times}
use Rattle.lzk_field.proofs.SumLaws.{sum-ext, sum-plus, sum-one}
use Rattle.lzk_field.proofs.Solve.{var, ◌⊞◌, ◌⊠◌, solve}
use Rattle.lzk_poly.specs.Polynomial.{eval}
use Rattle.lzk_poly.specs.Extension.{extension, lagrange, others}
use Rattle.lzk_poly.proofs.Polynomials.{zero_everywhere}
use Rattle.lzk_field.proofs.ProductLaws.{product_below_nonzero}
use Rattle.lzk_poly.proofs.Interpolate.{others_nonzero}
use Rattle.lzk_ligero_answers.specs.Answers.{changed}

module _ {A : Type 0} (o : Ops A) (r : RingLaws o) (f : FieldLaws o) where
  -- the first n points, and t as the n-th
  and_last : ℕ → (ℕ → A) → A → ℕ → A
  and_last n at t i = cond (eqb i n) t (at i)

  and_last-last : (n : ℕ) (at : ℕ → A) (t : A) → and_last n at t n ≡ t
  unfolding and_last
  and_last-last n at t = ap (λ b. cond b t (at n)) (eq-eqb n n refl)

  and_last-first : (n : ℕ) (at : ℕ → A) (t : A) (i : ℕ) → i < n → and_last n at t i ≡ at i
  unfolding and_last
  and_last-first n at t i h = cases (eqb i n) refl
    where
      cases : (b : Bool) → eqb i n ≡ b → cond b t (at i) ≡ at i
      cases false e = refl
      cases true e = absurd (omega (arith, eqb-true i n e))

  and_last-apart : (n : ℕ) (at : ℕ → A) (t : A) → ((i j : ℕ) → i < j → j < n → at i ≢ at j) → ((i : ℕ) → i < n → at i ≢ t) → (i j : ℕ) → i < j → j < suc n → and_last n at t i ≢ and_last n at t j
  and_last-apart n at t apart away i j p q e =
      elim (dec_lt j n) [
        | yes l ↦ apart i j p l (sym (and_last-first n at t i (omega arith)) ∙ e ∙ and_last-first n at t j l)
        | no l ↦ let same : j ≡ n = omega arith in
            away i (omega arith) (sym (and_last-first n at t i (omega arith)) ∙ e ∙ ap (and_last n at t) same ∙ and_last-last n at t)
      ]

  and_last-zero : (n : ℕ) (at : ℕ → A) (t : A) (cs : List A) → ((i : ℕ) → i < n → eval o cs (at i) ≡ o.zero) → eval o cs t ≡ o.zero → (i : ℕ) → i < suc n → eval o cs (and_last n at t i) ≡ o.zero
  and_last-zero n at t cs zero_at last i h =
      elim (dec_lt i n) [
        | yes l ↦ ap (eval o cs) (and_last-first n at t i l) ∙ zero_at i l
        | no l ↦ let same : i ≡ n = omega arith in ap (λ (k : ℕ). eval o cs (and_last n at t k)) same ∙ ap (eval o cs) (and_last-last n at t) ∙ last
      ]

  -- A polynomial with n + 1 coefficients that is not zero everywhere and is zero at n points is zero at no other point.
  pub zero_nowhere_else : (n : ℕ) (cs : List A) (at : ℕ → A) → length cs ≤ suc n
      → ((i j : ℕ) → i < j → j < n → at i ≢ at j)
      → ((i : ℕ) → i < n → eval o cs (at i) ≡ o.zero)
      → (s : A) → eval o cs s ≢ o.zero
      → (t : A) → ((i : ℕ) → i < n → at i ≢ t) → eval o cs t ≢ o.zero
  zero_nowhere_else n cs at short apart zero_at s some t away last =
      some (zero_everywhere o r f (suc n) cs (and_last n at t) short (and_last-apart n at t apart away) (and_last-zero n at t cs zero_at last) s)

  module _ (point : ℕ → A) where
    -- Lagrange's polynomial is zero at no point but the other first ones
    pub lagrange_nonzero : (n k j : ℕ) → k < n → n ≤ j → ((a b : ℕ) → a < b → b < suc j → point a ≢ point b) → lagrange o point n k (point j) ≢ o.zero
    lagrange_nonzero n k j p q apart e =
        let here : A = others o point n k (point k) in
        let there : A = others o point n k (point j) in
        let nonzero : here ≢ o.zero = others_nonzero o r f point n (λ a b l z. apart a b l (omega arith)) n k (omega arith) p in
        not_zero_from_times o r f (o.inverse here) here (r.times_comm (o.inverse here) here ∙ f.times_inverse here nonzero)
        (no_divisors o r f there (o.inverse here) (product_below_nonzero o r f n (λ i. cond (eqb i k) o.one (minus o (point j) (point i))) factor) e)
      where
        factor : (i : ℕ) → i < n → cond (eqb i k) o.one (minus o (point j) (point i)) ≢ o.zero
        factor i h = cases (eqb i k)
          where
            cases : (b : Bool) → cond b o.one (minus o (point j) (point i)) ≢ o.zero
            cases true = f.one_not_zero
            cases false = λ z. apart i j (omega arith) (omega arith) (sym (same_from_difference o r (point j) (point i) z))

-- the sum of m values from place head on
abbrev pub middle_sum : {A : Type 0} → Ops A → ℕ → ℕ → List A → A
middle_sum o head m values = sum_below o m (λ s. entry o values (head + s))

module _ {A : Type 0} (o : Ops A) (r : RingLaws o) (values : List A) (k : ℕ) (by : A) (h : k < length values) where
  pub length-changed : length (changed o values k by) ≡ length values
  length-changed = length-set values k (o.plus (entry o values k) by)

  pub entry-changed : (i : ℕ) → entry o (changed o values k by) i ≡ o.plus (entry o values i) (cond (eqb i k) by o.zero)
  entry-changed i = cases (eqb i k) refl
    where
      cases : (b : Bool) → eqb i k ≡ b → entry o (changed o values k by) i ≡ o.plus (entry o values i) (cond b by o.zero)
      cases true e =
          let same : i ≡ k = eqb-true i k e in
          ap (λ (m : ℕ). entry o (changed o values k by) m) same ∙ get_or-set_same values k (o.plus (entry o values k) by) o.zero h ∙ ap (λ (m : ℕ). o.plus (entry o values m) by) (sym same)
      cases false e =
          get_or-set_other values k i (o.plus (entry o values k) by) o.zero (λ z. false≢true (sym e ∙ eq-eqb i k z)) ∙ sym (r.plus_zero (entry o values i))

  -- a sum over places changes by what one of them changes by, times its factor
  changed-sum : (n : ℕ) (place : ℕ → ℕ) (l : ℕ → A) (i : ℕ) → i < n → place i ≡ k → ((m : ℕ) → m < n → m ≢ i → place m ≢ k)
      → sum_below o n (λ m. o.times (entry o (changed o values k by) (place m)) (l m)) ≡ o.plus (sum_below o n (λ m. o.times (entry o values (place m)) (l m))) (o.times by (l i))
  changed-sum n place l i p here elsewhere =
      let old : ℕ → A = λ m. o.times (entry o values (place m)) (l m) in
      let new : ℕ → A = λ m. o.times (cond (eqb (place m) k) by o.zero) (l m) in
      let X = var 0 in let Y = var 1 in let Z = var 2 in
      sum-ext o r n (λ m. o.times (entry o (changed o values k by) (place m)) (l m)) (λ m. o.plus (old m) (new m))
      (λ m q. ap (λ w. o.times w (l m)) (entry-changed (place m)) ∙ solve o r (entry o values (place m) ∷ cond (eqb (place m) k) by o.zero ∷ l m ∷ []) ((X ⊞ Y) ⊠ Z) (X ⊠ Z ⊞ Y ⊠ Z) refl)
      ∙ sum-plus o r n old new
      ∙ ap (o.plus (sum_below o n old)) (sum-one o r n i new p (λ m q d. miss (place m) (l m) (elsewhere m q d)) ∙ ap (λ b. o.times (cond b by o.zero) (l i)) (eq-eqb (place i) k here))
    where
      miss : (m : ℕ) (x : A) → m ≢ k → o.times (cond (eqb m k) by o.zero) x ≡ o.zero
      miss m x d = cases (eqb m k) refl
        where
          cases : (b : Bool) → eqb m k ≡ b → o.times (cond b by o.zero) x ≡ o.zero
          cases true e = absurd (d (eqb-true m k e))
          cases false e = zero_times o r x

  -- An extension changes by what the value changes by, times Lagrange's polynomial of its place.
  pub extension-changed : (point : ℕ → A) (j : ℕ) → extension o point (changed o values k by) j ≡ o.plus (extension o point values j) (o.times by (lagrange o point (length values) k (point j)))
  extension-changed point j =
      let n = length values in
      ap (λ m. sum_below o m (λ i. o.times (entry o (changed o values k by) i) (lagrange o point m i (point j)))) length-changed
      ∙ changed-sum n (λ i. i) (λ i. lagrange o point n i (point j)) k h refl (λ m p d. d)

  -- The sum of the middle values changes by the same, where the place is among them, and else not at all.
  pub middle-changed : (head m : ℕ) → head ≤ k → k < head + m → middle_sum o head m (changed o values k by) ≡ o.plus (middle_sum o head m values) by
  middle-changed head m p q =
      let i = k - head in
      let ones : (xs : List A) → middle_sum o head m xs ≡ sum_below o m (λ s. o.times (entry o xs (head + s)) o.one) =
      λ xs. sum-ext o r m (λ s. entry o xs (head + s)) (λ s. o.times (entry o xs (head + s)) o.one) (λ s l. sym (r.times_one (entry o xs (head + s)))) in
      ones (changed o values k by)
      ∙ changed-sum m (λ s. head + s) (λ s. o.one) i (omega arith) (omega arith) (λ s l d e. d (omega arith))
      ∙ ap (λ w. o.plus w (o.times by o.one)) (sym (ones values))
      ∙ ap (o.plus (middle_sum o head m values)) (r.times_one by)

  pub middle-same : (head m : ℕ) → ((s : ℕ) → s < m → head + s ≢ k) → middle_sum o head m (changed o values k by) ≡ middle_sum o head m values
  middle-same head m away =
      sum-ext o r m (λ s. entry o (changed o values k by) (head + s)) (λ s. entry o values (head + s)) (λ s l. get_or-set_other values k (head + s) (o.plus (entry o values k) by) o.zero (away s l))

module _ {A : Type 0} (o : Ops A) (r : RingLaws o) (f : FieldLaws o) (point : ℕ → A) where
  -- A list that met an equation at a point behind its own does not, once one of its values is changed.
  pub changed_differs : (values : List A) (k j : ℕ) (by x : A) → k < length values → length values ≤ j → ((a b : ℕ) → a < b → b < suc j → point a ≢ point b) → by ≢ o.zero
      → extension o point values j ≡ x → extension o point (changed o values k by) j ≢ x
  changed_differs values k j by x p q apart some met e =
      let n = length values in
      let there : A = lagrange o point n k (point j) in
      lagrange_nonzero o r f point n k j p q apart
      (no_divisors o r f by there some
      (plus_cancel o r (extension o point values j) (o.times by there) o.zero (sym (extension-changed o r values k by p point j) ∙ e ∙ sym met ∙ sym (r.plus_zero (extension o point values j)))))

-- Extensions at points of zeros and ones, and as functions of one variable.
use Rattle.std.specs.Prelude.{◌≡◌, ◌≢◌, ℕ, ◌<◌, ◌≤◌, ◌+◌, ◌*◌, ◌/◌, ◌%◌, ◌^◌, ◌==◌, List, [], ◌∷◌, ◌++◌, length, cond}
use Rattle.std.proofs.Common.{zero, suc, refl, ap, ◌∙◌, arith, inl, inr}
use Rattle.std.proofs.lemmas.Bool.{cases_eq}
use Rattle.std.proofs.Math.Nat.{pow-succ', pow-zero}
use Rattle.lzk_field.specs.Ring.{Ops, RingLaws}
use Rattle.lzk_field.specs.Sums.{sum_below, minus, entry}
use Rattle.lzk_field.proofs.RingBasics.{times_zero, zero_times}
use Rattle.lzk_field.proofs.Solve.{var, null, unit, ◌⊞◌, ◌⊟◌, ◌⊠◌, solve}
use Rattle.lzk_field.proofs.SumLaws.{sum-ext, sum-plus, sum-times}
use Rattle.lzk_field.proofs.SumPlaces.{sum-halves}
use Rattle.lzk_mle.specs.Multilinear.{low_bit, agree, eq, tilde, corner}
use Rattle.lzk_mle.proofs.TableLaws.{extension, bound, extension-bound, extension-one, tilde-is, eq-even, eq-odd}

module _ {A : Type 0} (o : Ops A) where
  pub low_bit-even : (i : ℕ) → i % 2 ≡ 0 → low_bit o i ≡ o.zero
  low_bit-even i e = ap (λ k. cond (k == 0) o.zero o.one) e

  pub low_bit-odd : (i : ℕ) → i % 2 ≡ 1 → low_bit o i ≡ o.one
  low_bit-odd i e = ap (λ k. cond (k == 0) o.zero o.one) e

  pub length-corner : (k i : ℕ) → length (corner o k i) ≡ k
  length-corner zero i = refl
  length-corner (suc k) i = ap suc (length-corner k (i / 2))

module _ {A : Type 0} (o : Ops A) (r : RingLaws o) where
  open o use {plus, times, neg}

  -- a bit agrees with itself
  pub agree-same : (i : ℕ) → agree o (low_bit o i) (low_bit o i) ≡ o.one
  agree-same i =
      elim (cases_eq (i % 2) 0) [
        | inl z ↦ ap (λ b. agree o b b) (low_bit-even o i z) ∙ solve o r [] (null ⊠ null ⊞ (unit ⊟ null) ⊠ (unit ⊟ null)) unit refl
        | inr n ↦ ap (λ b. agree o b b) (low_bit-odd o i (omega arith)) ∙ solve o r [] (unit ⊠ unit ⊞ (unit ⊟ unit) ⊠ (unit ⊟ unit)) unit refl
      ]

  -- different bits do not agree
  pub agree-other : (i j : ℕ) → i % 2 ≢ j % 2 → agree o (low_bit o i) (low_bit o j) ≡ o.zero
  agree-other i j d =
      elim (cases_eq (i % 2) 0) [
        | inl z ↦
            let e : j % 2 ≡ 1 = omega arith in
            ap (λ b. agree o b (low_bit o j)) (low_bit-even o i z) ∙ ap (agree o o.zero) (low_bit-odd o j e)
            ∙ solve o r [] (null ⊠ unit ⊞ (unit ⊟ null) ⊠ (unit ⊟ unit)) null refl
        | inr n ↦
            let e : j % 2 ≡ 0 = omega arith in
            ap (λ b. agree o b (low_bit o j)) (low_bit-odd o i (omega arith)) ∙ ap (agree o o.one) (low_bit-even o j e)
            ∙ solve o r [] (unit ⊠ null ⊞ (unit ⊟ unit) ⊠ (unit ⊟ null)) null refl
      ]

  -- eq is one at a number's own corner
  pub eq-corner : (k i : ℕ) → eq o i (corner o k i) ≡ o.one
  eq-corner zero i = refl
  eq-corner (suc k) i = ap (λ w. times w (eq o (i / 2) (corner o k (i / 2)))) (agree-same i) ∙ ap (times o.one) (eq-corner k (i / 2)) ∙ r.times_one o.one

  -- and zero at any other number's
  pub eq-other_corner : (k i j : ℕ) → i < 2 ^ k → j < 2 ^ k → i ≢ j → eq o i (corner o k j) ≡ o.zero
  eq-other_corner zero i j p q d = let e : i ≡ j = omega (arith, pow-zero 2) in absurd (d e)
  eq-other_corner (suc k) i j p q d =
      let rest = eq-other_corner k (i / 2) (j / 2) (omega (arith, pow-succ' 2 k)) (omega (arith, pow-succ' 2 k)) in
      elim (cases_eq (i % 2) (j % 2)) [
        | inl z ↦ ap (times (agree o (low_bit o i) (low_bit o j))) (rest (λ e. d (omega arith))) ∙ times_zero o r _
        | inr n ↦ ap (λ w. times w (eq o (i / 2) (corner o k (j / 2)))) (agree-other i j n) ∙ zero_times o r _
      ]

  -- a table bound at the lowest bit of a number has the entries of that bit
  pub bound-low_bit : (f : ℕ → A) (i : ℕ) → bound o (low_bit o i) f (i / 2) ≡ f i
  bound-low_bit f i =
      let low = f (2 * (i / 2)) in
      let high = f (2 * (i / 2) + 1) in
      elim (cases_eq (i % 2) 0) [
        | inl z ↦
            let e : 2 * (i / 2) ≡ i = omega arith in
            ap (λ b. plus (times (minus o o.one b) low) (times b high)) (low_bit-even o i z)
            ∙ solve o r (low ∷ high ∷ []) ((unit ⊟ null) ⊠ var 0 ⊞ null ⊠ var 1) (var 0) refl ∙ ap f e
        | inr n ↦
            let e : 2 * (i / 2) + 1 ≡ i = omega arith in
            ap (λ b. plus (times (minus o o.one b) low) (times b high)) (low_bit-odd o i (omega arith))
            ∙ solve o r (low ∷ high ∷ []) ((unit ⊟ unit) ⊠ var 0 ⊞ unit ⊠ var 1) (var 1) refl ∙ ap f e
      ]

  -- the extension takes the table's values
  pub extension-corner : (k i : ℕ) (f : ℕ → A) → i < 2 ^ k → extension o (2 ^ k) f (corner o k i) ≡ f i
  extension-corner zero i f h =
      let e : 0 ≡ i = omega (arith, pow-zero 2) in
      ap (λ n. extension o n f []) (pow-zero 2) ∙ extension-one o r f ∙ ap f e
  extension-corner (suc k) i f h =
      ap (λ n. extension o n f (corner o (suc k) i)) (pow-succ' 2 k)
      ∙ extension-bound o r (2 ^ k) f (low_bit o i) (corner o k (i / 2))
      ∙ extension-corner k (i / 2) (bound o (low_bit o i) f) (omega (arith, pow-succ' 2 k))
      ∙ bound-low_bit f i

  pub tilde-corner : (k i : ℕ) (values : List A) → length values ≤ 2 ^ k → i < 2 ^ k → tilde o values (corner o k i) ≡ entry o values i
  tilde-corner k i values l h = tilde-is o r (2 ^ k) values (corner o k i) l ∙ extension-corner k i (entry o values) h

  -- each variable by itself is on a line
  pub eq-line : (i : ℕ) (xs ys : List A) (x : A)
      → eq o i (xs ++ x ∷ ys) ≡ plus (times (minus o o.one x) (eq o i (xs ++ o.zero ∷ ys))) (times x (eq o i (xs ++ o.one ∷ ys)))
  eq-line i [] ys x =
      solve o r (low_bit o i ∷ x ∷ eq o (i / 2) ys ∷ [])
      ((var 0 ⊠ var 1 ⊞ (unit ⊟ var 0) ⊠ (unit ⊟ var 1)) ⊠ var 2)
      ((unit ⊟ var 1) ⊠ ((var 0 ⊠ null ⊞ (unit ⊟ var 0) ⊠ (unit ⊟ null)) ⊠ var 2) ⊞ var 1 ⊠ ((var 0 ⊠ unit ⊞ (unit ⊟ var 0) ⊠ (unit ⊟ unit)) ⊠ var 2)) refl
  eq-line i (w ∷ xs) ys x =
      let a = agree o (low_bit o i) w in
      let low = eq o (i / 2) (xs ++ o.zero ∷ ys) in
      let high = eq o (i / 2) (xs ++ o.one ∷ ys) in
      ap (times a) (eq-line (i / 2) xs ys x)
      ∙ solve o r (a ∷ x ∷ low ∷ high ∷ [])
      (var 0 ⊠ ((unit ⊟ var 1) ⊠ var 2 ⊞ var 1 ⊠ var 3)) ((unit ⊟ var 1) ⊠ (var 0 ⊠ var 2) ⊞ var 1 ⊠ (var 0 ⊠ var 3)) refl

  pub extension-line : (n : ℕ) (f : ℕ → A) (xs ys : List A) (x : A)
      → extension o n f (xs ++ x ∷ ys) ≡ plus (times (minus o o.one x) (extension o n f (xs ++ o.zero ∷ ys))) (times x (extension o n f (xs ++ o.one ∷ ys)))
  extension-line n f xs ys x =
      let low : ℕ → A = λ i. times (eq o i (xs ++ o.zero ∷ ys)) (f i) in
      let high : ℕ → A = λ i. times (eq o i (xs ++ o.one ∷ ys)) (f i) in
      let rest = minus o o.one x in
      sum-ext o r n (λ i. times (eq o i (xs ++ x ∷ ys)) (f i)) (λ i. plus (times rest (low i)) (times x (high i)))
      (λ i l. ap (λ w. times w (f i)) (eq-line i xs ys x)
      ∙ solve o r (rest ∷ x ∷ eq o i (xs ++ o.zero ∷ ys) ∷ eq o i (xs ++ o.one ∷ ys) ∷ f i ∷ [])
      ((var 0 ⊠ var 2 ⊞ var 1 ⊠ var 3) ⊠ var 4) (var 0 ⊠ (var 2 ⊠ var 4) ⊞ var 1 ⊠ (var 3 ⊠ var 4)) refl)
      ∙ sum-plus o r n (λ i. times rest (low i)) (λ i. times x (high i))
      ∙ ap (λ w. plus w (sum_below o n (λ i. times x (high i)))) (sum-times o r n rest low)
      ∙ ap (plus (times rest (sum_below o n low))) (sum-times o r n x high)

  pub tilde-line : (values xs ys : List A) (x : A)
      → tilde o values (xs ++ x ∷ ys) ≡ plus (times (minus o o.one x) (tilde o values (xs ++ o.zero ∷ ys))) (times x (tilde o values (xs ++ o.one ∷ ys)))
  tilde-line values xs ys x = extension-line (length values) (entry o values) xs ys x

  -- the shares of all numbers add up to one
  pub eq-total : (xs : List A) → sum_below o (2 ^ length xs) (λ i. eq o i xs) ≡ o.one
  eq-total [] = ap (λ n. sum_below o n (λ i. o.one)) (pow-zero 2) ∙ solve o r [] (null ⊞ unit) unit refl
  eq-total (x ∷ xs) =
      let n = 2 ^ length xs in
      ap (λ k. sum_below o k (λ i. eq o i (x ∷ xs))) (pow-succ' 2 (length xs))
      ∙ sum-halves o r n (λ i. eq o i (x ∷ xs))
      ∙ sum-ext o r n (λ i. plus (eq o (2 * i) (x ∷ xs)) (eq o (2 * i + 1) (x ∷ xs))) (λ i. eq o i xs)
      (λ i l. ap (λ w. plus w (eq o (2 * i + 1) (x ∷ xs))) (eq-even o r i x xs) ∙ ap (plus (times (minus o o.one x) (eq o i xs))) (eq-odd o r i x xs)
      ∙ solve o r (x ∷ eq o i xs ∷ []) ((unit ⊟ var 0) ⊠ var 1 ⊞ var 0 ⊠ var 1) (var 1) refl)
      ∙ eq-total xs

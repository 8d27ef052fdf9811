-- Extensions of tables, a variable at a time.
use Rattle.std.specs.Prelude.{◌≡◌, ℕ, ◌<◌, ◌≤◌, ◌+◌, ◌*◌, ◌/◌, ◌%◌, ◌^◌, ◌==◌, List, [], ◌∷◌, ◌++◌, length, cond}
use Rattle.std.proofs.Common.{refl, sym, ap, ◌∙◌, arith}
use Rattle.std.proofs.lemmas.List.{get_or_past}
use Rattle.std.proofs.Math.Nat.{pow-succ'}
use Rattle.lzk_field.specs.Ring.{Ops, RingLaws}
use Rattle.lzk_field.specs.Sums.{sum_below, minus, entry}
use Rattle.lzk_field.proofs.RingBasics.{times_zero}
use Rattle.lzk_field.proofs.Solve.{var, null, unit, ◌⊞◌, ◌⊟◌, ◌⊠◌, solve}
use Rattle.lzk_field.proofs.SumLaws.{sum-ext, sum-tail}
use Rattle.lzk_field.proofs.SumPlaces.{sum-halves}
use Rattle.lzk_mle.specs.Multilinear.{low_bit, agree, eq, tilde}

half-even : (i : ℕ) → (2 * i) / 2 ≡ i
half-even i = omega arith

half-odd : (i : ℕ) → (2 * i + 1) / 2 ≡ i
half-odd i = omega arith

rest-even : (i : ℕ) → (2 * i) % 2 ≡ 0
rest-even i = omega arith

rest-odd : (i : ℕ) → (2 * i + 1) % 2 ≡ 1
rest-odd i = omega arith

module _ {A : Type 0} (o : Ops A) where
  -- the extension of a function's first n values
  abbrev pub extension : ℕ → (ℕ → A) → List A → A
  extension n f r = sum_below o n (λ i. o.times (eq o i r) (f i))

  -- a table with its first variable bound at r
  abbrev pub bound : A → (ℕ → A) → ℕ → A
  bound r f i = o.plus (o.times (minus o o.one r) (f (2 * i))) (o.times r (f (2 * i + 1)))

module _ {A : Type 0} (o : Ops A) (r : RingLaws o) where
  open o use {plus, times, neg}

  pub eq-even : (i : ℕ) (x : A) (xs : List A) → eq o (2 * i) (x ∷ xs) ≡ times (minus o o.one x) (eq o i xs)
  eq-even i x xs =
      ap (λ k. times (agree o (cond (k == 0) o.zero o.one) x) (eq o ((2 * i) / 2) xs)) (rest-even i)
      ∙ ap (λ k. times (agree o o.zero x) (eq o k xs)) (half-even i)
      ∙ ap (λ w. times w (eq o i xs)) (solve o r (x ∷ []) (null ⊠ var 0 ⊞ (unit ⊟ null) ⊠ (unit ⊟ var 0)) (unit ⊟ var 0) refl)

  pub eq-odd : (i : ℕ) (x : A) (xs : List A) → eq o (2 * i + 1) (x ∷ xs) ≡ times x (eq o i xs)
  eq-odd i x xs =
      ap (λ k. times (agree o (cond (k == 0) o.zero o.one) x) (eq o ((2 * i + 1) / 2) xs)) (rest-odd i)
      ∙ ap (λ k. times (agree o o.one x) (eq o k xs)) (half-odd i)
      ∙ ap (λ w. times w (eq o i xs)) (solve o r (x ∷ []) (unit ⊠ var 0 ⊞ (unit ⊟ unit) ⊠ (unit ⊟ var 0)) (var 0) refl)

  -- the last variable binds the highest bit: below it a zero, from it on a one
  pub eq-low : (xs : List A) (i : ℕ) (x : A) → i < 2 ^ length xs → eq o i (xs ++ x ∷ []) ≡ times (minus o o.one x) (eq o i xs)
  eq-low [] i x l =
      let first : i ≡ 0 = omega arith in
      ap (λ k. eq o k (x ∷ [])) first
      ∙ solve o r (x ∷ []) ((null ⊠ var 0 ⊞ (unit ⊟ null) ⊠ (unit ⊟ var 0)) ⊠ unit) ((unit ⊟ var 0) ⊠ unit) refl
  eq-low (y ∷ ys) i x l =
      let half : i / 2 < 2 ^ length ys = omega (arith, pow-succ' 2 (length ys)) in
      ap (times (agree o (low_bit o i) y)) (eq-low ys (i / 2) x half)
      ∙ solve o r (x ∷ agree o (low_bit o i) y ∷ eq o (i / 2) ys ∷ []) (var 1 ⊠ ((unit ⊟ var 0) ⊠ var 2)) ((unit ⊟ var 0) ⊠ (var 1 ⊠ var 2)) refl

  pub eq-high : (xs : List A) (i : ℕ) (x : A) → i < 2 ^ length xs → eq o (2 ^ length xs + i) (xs ++ x ∷ []) ≡ times x (eq o i xs)
  eq-high [] i x l =
      let first : 1 + i ≡ 1 = omega arith in
      ap (λ k. eq o k (x ∷ [])) first
      ∙ solve o r (x ∷ []) ((unit ⊠ var 0 ⊞ (unit ⊟ unit) ⊠ (unit ⊟ var 0)) ⊠ unit) (var 0 ⊠ unit) refl
  eq-high (y ∷ ys) i x l =
      let double : 2 ^ length (y ∷ ys) ≡ 2 * 2 ^ length ys = pow-succ' 2 (length ys) in
      let half : i / 2 < 2 ^ length ys = omega (arith, double) in
      let bit : (2 ^ length (y ∷ ys) + i) % 2 ≡ i % 2 = omega (arith, double) in
      let rest : (2 ^ length (y ∷ ys) + i) / 2 ≡ 2 ^ length ys + i / 2 = omega (arith, double) in
      ap (λ k. times (agree o (cond (k == 0) o.zero o.one) y) (eq o ((2 ^ length (y ∷ ys) + i) / 2) (ys ++ x ∷ []))) bit
      ∙ ap (λ k. times (agree o (low_bit o i) y) (eq o k (ys ++ x ∷ []))) rest
      ∙ ap (times (agree o (low_bit o i) y)) (eq-high ys (i / 2) x half)
      ∙ solve o r (x ∷ agree o (low_bit o i) y ∷ eq o (i / 2) ys ∷ []) (var 1 ⊠ (var 0 ⊠ var 2)) (var 0 ⊠ (var 1 ⊠ var 2)) refl

  pub extension-bound : (n : ℕ) (f : ℕ → A) (x : A) (xs : List A) → extension o (2 * n) f (x ∷ xs) ≡ extension o n (bound o x f) xs
  extension-bound n f x xs =
      sum-halves o r n (λ i. times (eq o i (x ∷ xs)) (f i))
      ∙ sum-ext o r n (λ i. plus (times (eq o (2 * i) (x ∷ xs)) (f (2 * i))) (times (eq o (2 * i + 1) (x ∷ xs)) (f (2 * i + 1)))) (λ i. times (eq o i xs) (bound o x f i))
      (λ i l. ap (λ w. plus (times w (f (2 * i))) (times (eq o (2 * i + 1) (x ∷ xs)) (f (2 * i + 1)))) (eq-even i x xs)
      ∙ ap (λ w. plus (times (times (minus o o.one x) (eq o i xs)) (f (2 * i))) (times w (f (2 * i + 1)))) (eq-odd i x xs)
      ∙ solve o r (x ∷ eq o i xs ∷ f (2 * i) ∷ f (2 * i + 1) ∷ [])
      (((unit ⊟ var 0) ⊠ var 1) ⊠ var 2 ⊞ (var 0 ⊠ var 1) ⊠ var 3) (var 1 ⊠ ((unit ⊟ var 0) ⊠ var 2 ⊞ var 0 ⊠ var 3)) refl)

  pub extension-one : (f : ℕ → A) → extension o 1 f [] ≡ f 0
  extension-one f = solve o r (f 0 ∷ []) (null ⊞ unit ⊠ var 0) (var 0) refl

  pub extension-same : (n : ℕ) (f h : ℕ → A) (xs : List A) → ((i : ℕ) → i < n → f i ≡ h i) → extension o n f xs ≡ extension o n h xs
  extension-same n f h xs e = sum-ext o r n (λ i. times (eq o i xs) (f i)) (λ i. times (eq o i xs) (h i)) (λ i l. ap (times (eq o i xs)) (e i l))

  -- a table's end may lie anywhere
  pub tilde-is : (m : ℕ) (values xs : List A) → length values ≤ m → tilde o values xs ≡ extension o m (entry o values) xs
  tilde-is m values xs l =
      sym (sum-tail o r (length values) m (λ i. times (eq o i xs) (entry o values i)) l
      (λ i p q. ap (times (eq o i xs)) (get_or_past values i o.zero p) ∙ times_zero o r _))

  -- the lower half of a bound table
  pub tilde-half : (m : ℕ) (old new : List A) (x : A) (xs : List A) → length old ≡ 2 * m → length new ≡ m
      → ((i : ℕ) → i < m → entry o new i ≡ bound o x (entry o old) i) → tilde o new xs ≡ tilde o old (x ∷ xs)
  tilde-half m old new x xs lo ln e =
      tilde-is m new xs (omega arith)
      ∙ extension-same m (entry o new) (bound o x (entry o old)) xs e
      ∙ sym (extension-bound m (entry o old) x xs)
      ∙ sym (tilde-is (2 * m) old (x ∷ xs) (omega arith))

-- A polynomial with n coefficients that is zero at n points is zero.
use Rattle.std.specs.Prelude.{◌≡◌, ◌≢◌, ℕ, ◌<◌, List, [], ◌∷◌, length}
use Rattle.std.proofs.Common.{zero, suc, refl, sym, ap, ◌∙◌, arith}
use Rattle.lzk_field.specs.Ring.{Ops, RingLaws, FieldLaws}
use Rattle.lzk_poly.specs.Polynomial.{eval}
use Rattle.lzk_field.proofs.RingBasics.{zero_plus, times_zero, same_from_difference, no_divisors}
use Rattle.lzk_field.proofs.Solve.{var, null, ◌⊞◌, ◌⊟◌, ◌⊠◌, solve}

module _ {A : Type 0} (o : Ops A) where
  -- the quotient by x - a, without its remainder
  abbrev suffixes : A → List A → List A
  suffixes a [] = []
  suffixes a (c ∷ cs) = eval o (c ∷ cs) a ∷ suffixes a cs

  abbrev pub Zeros : List A → Type 0
  Zeros [] = Unit {0}
  Zeros (c ∷ cs) = (c ≡ o.zero) × Zeros cs

  abbrev pub differences : List A → List A → List A
  differences [] ys = []
  differences (x ∷ xs) [] = []
  differences (x ∷ xs) (y ∷ ys) = o.plus x (o.neg y) ∷ differences xs ys

  suffixes_length : (a : A) (cs : List A) → length (suffixes a cs) ≡ length cs
  suffixes_length a [] = refl
  suffixes_length a (c ∷ cs) = ap suc (suffixes_length a cs)

module _ {A : Type 0} (o : Ops A) (r : RingLaws o) where
  open o use {plus, times, neg}

  -- division by x - a
  divide : (a t c : A) (cs : List A) → eval o (c ∷ cs) t ≡ plus (eval o (c ∷ cs) a) (times (plus t (neg a)) (eval o (suffixes o a cs) t))
  divide a t c [] = let C = var 0 in let T = var 1 in let R = var 2 in
      solve o r (c ∷ t ∷ a ∷ []) (C ⊞ T ⊠ null) (C ⊞ R ⊠ null ⊞ (T ⊟ R) ⊠ null) refl
  divide a t c (d ∷ ds) =
      let C = var 0 in let T = var 1 in let R = var 2 in let E = var 3 in let S = var 4 in
      ap (λ w. plus c (times t w)) (divide a t d ds)
      ∙ solve o r (c ∷ t ∷ a ∷ eval o (d ∷ ds) a ∷ eval o (suffixes o a ds) t ∷ []) (C ⊞ T ⊠ (E ⊞ (T ⊟ R) ⊠ S)) (C ⊞ R ⊠ E ⊞ (T ⊟ R) ⊠ (E ⊞ T ⊠ S)) refl

  pub zeros_eval : (cs : List A) (t : A) → Zeros o cs → eval o cs t ≡ o.zero
  zeros_eval [] t z = refl
  zeros_eval (c ∷ cs) t z = ap (λ w. plus w (times t (eval o cs t))) z.0 ∙ zero_plus o r (times t (eval o cs t)) ∙ ap (times t) (zeros_eval cs t z.1) ∙ times_zero o r t

  -- the head is zero where the value is and the tail is zero
  head_zero : (a c : A) (cs : List A) → eval o (c ∷ cs) a ≡ o.zero → Zeros o cs → c ≡ o.zero
  head_zero a c cs e z = sym (r.plus_zero c) ∙ ap (plus c) (sym (times_zero o r a) ∙ ap (times a) (sym (zeros_eval cs a z))) ∙ e

  suffixes_zero : (a : A) (cs : List A) → Zeros o (suffixes o a cs) → Zeros o cs
  suffixes_zero a [] z = tt
  suffixes_zero a (c ∷ cs) z = let rest = suffixes_zero a cs z.1 in (head_zero a c cs z.0 rest, rest)

  eval-differences : (xs ys : List A) (t : A) → length xs ≡ length ys → eval o (differences o xs ys) t ≡ plus (eval o xs t) (neg (eval o ys t))
  eval-differences [] [] t e = solve o r [] null (null ⊟ null) refl
  eval-differences [] (y ∷ ys) t e = absurd (omega arith)
  eval-differences (x ∷ xs) [] t e = absurd (omega arith)
  eval-differences (x ∷ xs) (y ∷ ys) t e =
      let X = var 0 in let Y = var 1 in let T = var 2 in let E = var 3 in let F = var 4 in
      ap (λ w. plus (plus x (neg y)) (times t w)) (eval-differences xs ys t (omega arith))
      ∙ solve o r (x ∷ y ∷ t ∷ eval o xs t ∷ eval o ys t ∷ []) ((X ⊟ Y) ⊞ T ⊠ (E ⊟ F)) ((X ⊞ T ⊠ E) ⊟ (Y ⊞ T ⊠ F)) refl

  same_from_zeros : (xs ys : List A) → length xs ≡ length ys → Zeros o (differences o xs ys) → xs ≡ ys
  same_from_zeros [] [] e z = refl
  same_from_zeros [] (y ∷ ys) e z = absurd (omega arith)
  same_from_zeros (x ∷ xs) [] e z = absurd (omega arith)
  same_from_zeros (x ∷ xs) (y ∷ ys) e z = ap (λ w. w ∷ xs) (same_from_difference o r x y z.0) ∙ ap (λ w. y ∷ w) (same_from_zeros xs ys (omega arith) z.1)

  length-differences : (xs ys : List A) → length xs ≡ length ys → length (differences o xs ys) ≡ length xs
  length-differences [] [] e = refl
  length-differences [] (y ∷ ys) e = absurd (omega arith)
  length-differences (x ∷ xs) [] e = absurd (omega arith)
  length-differences (x ∷ xs) (y ∷ ys) e = ap suc (length-differences xs ys (omega arith))

module _ {A : Type 0} (o : Ops A) (r : RingLaws o) (f : FieldLaws o) where
  open o use {plus, times, neg}

  pub roots : (n : ℕ) (cs : List A) (at : ℕ → A) → length cs ≡ n
      → ((i j : ℕ) → i < j → j < n → at i ≢ at j)
      → ((i : ℕ) → i < n → eval o cs (at i) ≡ o.zero)
      → Zeros o cs
  roots n [] at e apart zero_at = tt
  roots zero (c ∷ cs) at e apart zero_at = absurd (omega arith)
  roots (suc n) (c ∷ cs) at e apart zero_at =
      let a = at 0 in
      let q = suffixes o a cs in
      let q_zero : (i : ℕ) → i < n → eval o q (at (suc i)) ≡ o.zero =
      λ i l. no_divisors o r f (plus (at (suc i)) (neg a)) (eval o q (at (suc i)))
      (λ d. apart 0 (suc i) (omega arith) (omega arith) (sym (same_from_difference o r (at (suc i)) a d)))
      (sym (zero_plus o r _) ∙ ap (λ w. plus w (times (plus (at (suc i)) (neg a)) (eval o q (at (suc i))))) (sym (zero_at 0 (omega arith))) ∙ sym (divide o r a (at (suc i)) c cs) ∙ zero_at (suc i) (omega arith)) in
      let rest = suffixes_zero o r a cs (roots n q (λ i. at (suc i)) (suffixes_length o a cs ∙ omega arith) (λ i j l m. apart (suc i) (suc j) (omega arith) (omega arith)) q_zero) in
      (head_zero o r a c cs (zero_at 0 (omega arith)) rest, rest)

  -- two lists of coefficients that agree at as many points as there are coefficients
  pub same_from_values : (xs ys : List A) (at : ℕ → A) → length xs ≡ length ys
      → ((i j : ℕ) → i < j → j < length xs → at i ≢ at j)
      → ((i : ℕ) → i < length xs → eval o xs (at i) ≡ eval o ys (at i))
      → xs ≡ ys
  same_from_values xs ys at e apart agree =
      same_from_zeros o r xs ys e (roots (length xs) (differences o xs ys) at (length-differences o r xs ys e) apart
      (λ i l. eval-differences o r xs ys (at i) e ∙ ap (λ w. plus w (neg (eval o ys (at i)))) (agree i l) ∙ r.plus_neg (eval o ys (at i))))

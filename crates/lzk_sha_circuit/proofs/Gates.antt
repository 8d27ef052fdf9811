-- The formulas of bits are the functions of bits.
use Rattle.std.specs.Prelude.{◌≡◌, ℕ, ◌+◌, ◌-◌, ◌*◌, ◌<◌, ◌%◌, min}
use Rattle.std.proofs.Common.{refl, sym, ap, ◌∙◌, arith, zero, suc}
use Rattle.lzk_field.specs.Ring.{Ops}
use Rattle.lzk_field.specs.Sums.{minus}
use Rattle.lzk_sha_circuit.specs.Words.{exclusive_or, three_or, chosen, most}
use Rattle.lzk_sha_circuit.proofs.Numbered.{Numbered}

pub two_cases : (P : ℕ → Type 0) → P 0 → P 1 → (a : ℕ) → a < 2 → P a
two_cases P p q zero h = p
two_cases P p q (suc zero) h = q
two_cases P p q (suc (suc a)) h = absurd (omega arith)

abbrev pub xor_bit : ℕ → ℕ → ℕ
xor_bit x y = (x + y) % 2

abbrev pub ch_bit : ℕ → ℕ → ℕ → ℕ
ch_bit e f g = (min e f + min (1 - e) g) % 2

abbrev pub maj_bit : ℕ → ℕ → ℕ → ℕ
maj_bit x y z = ((min x y + min x z) % 2 + min y z) % 2

xor_sum : (a : ℕ) → a < 2 → (b : ℕ) → b < 2 → xor_bit a b + 2 * a * b ≡ a + b
xor_sum = two_cases (λ a. (b : ℕ) → b < 2 → xor_bit a b + 2 * a * b ≡ a + b) (two_cases (λ b. xor_bit 0 b + 2 * 0 * b ≡ 0 + b) refl refl) (two_cases (λ b. xor_bit 1 b + 2 * 1 * b ≡ 1 + b) refl refl)

ch_sum : (e : ℕ) → e < 2 → (f : ℕ) → f < 2 → (g : ℕ) → g < 2 → ch_bit e f g + e * g ≡ e * f + g
ch_sum = two_cases (λ e. (f : ℕ) → f < 2 → (g : ℕ) → g < 2 → ch_bit e f g + e * g ≡ e * f + g) (two_cases _ (two_cases _ refl refl) (two_cases _ refl refl)) (two_cases _ (two_cases _ refl refl) (two_cases _ refl refl))

maj_sum : (x : ℕ) → x < 2 → (y : ℕ) → y < 2 → (z : ℕ) → z < 2 → x * y + z * xor_bit x y ≡ maj_bit x y z
maj_sum = two_cases (λ x. (y : ℕ) → y < 2 → (z : ℕ) → z < 2 → x * y + z * xor_bit x y ≡ maj_bit x y z) (two_cases _ (two_cases _ refl refl) (two_cases _ refl refl)) (two_cases _ (two_cases _ refl refl) (two_cases _ refl refl))

module _ {A : Type 0} (o : Ops A) (element : ℕ → A) (size : ℕ) (h : Numbered o element size) where
  minus_from : (x y z : A) → o.plus x y ≡ z → minus o z y ≡ x
  minus_from x y z e = ap (λ w. minus o w y) (sym e) ∙ h.ring.plus_assoc x y (o.neg y) ∙ ap (o.plus x) (h.ring.plus_neg y) ∙ h.ring.plus_zero x

  -- a number less another, from their difference
  pub minus_is : (a b c : ℕ) → a + b ≡ c → minus o (element c) (element b) ≡ element a
  minus_is a b c e = minus_from (element a) (element b) (element c) (h.plus_is a b ∙ ap element e)

  move_last : (x y z : A) → o.plus (minus o x y) z ≡ minus o (o.plus x z) y
  move_last x y z = h.ring.plus_assoc x (o.neg y) z ∙ ap (o.plus x) (h.ring.plus_comm (o.neg y) z) ∙ sym (h.ring.plus_assoc x z (o.neg y))

  pub exclusive_or_is : (x y : A) (a b : ℕ) → a < 2 → b < 2 → x ≡ element a → y ≡ element b → exclusive_or o element x y ≡ element (xor_bit a b)
  exclusive_or_is x y a b la lb ex ey =
      let product : o.times (o.times (element 2) (element a)) (element b) ≡ element (2 * a * b) = ap (λ w. o.times w (element b)) (h.times_is 2 a) ∙ h.times_is (2 * a) b in
      (λ i. exclusive_or o element (ex i) (ey i))
      ∙ (λ i. minus o (h.plus_is a b i) (product i))
      ∙ minus_is (xor_bit a b) (2 * a * b) (a + b) (xor_sum a la b lb)

  xor_bit-lt : (a b : ℕ) → xor_bit a b < 2
  xor_bit-lt a b = omega arith

  pub three_or_is : (x y z : A) (a b c : ℕ) → a < 2 → b < 2 → c < 2 → x ≡ element a → y ≡ element b → z ≡ element c → three_or o element x y z ≡ element (xor_bit (xor_bit a b) c)
  three_or_is x y z a b c la lb lc ex ey ez =
      exclusive_or_is (exclusive_or o element x y) z (xor_bit a b) c (xor_bit-lt a b) lc (exclusive_or_is x y a b la lb ex ey) ez

  pub chosen_is : (x y z : A) (e f g : ℕ) → e < 2 → f < 2 → g < 2 → x ≡ element e → y ≡ element f → z ≡ element g → chosen o element x y z ≡ element (ch_bit e f g)
  chosen_is x y z e f g le lf lg ex ey ez =
      (λ i. chosen o element (ex i) (ey i) (ez i))
      ∙ (λ i. o.plus (minus o (h.times_is e f i) (h.times_is e g i)) (element g))
      ∙ move_last (element (e * f)) (element (e * g)) (element g)
      ∙ ap (λ w. minus o w (element (e * g))) (h.plus_is (e * f) g)
      ∙ minus_is (ch_bit e f g) (e * g) (e * f + g) (ch_sum e le f lf g lg)

  pub most_is : (x y z : A) (a b c : ℕ) → a < 2 → b < 2 → c < 2 → x ≡ element a → y ≡ element b → z ≡ element c → most o element x y z ≡ element (maj_bit a b c)
  most_is x y z a b c la lb lc ex ey ez =
      (λ i. o.plus (o.times (ex i) (ey i)) (o.times (ez i) (exclusive_or_is x y a b la lb ex ey i)))
      ∙ (λ i. o.plus (h.times_is a b i) (h.times_is c (xor_bit a b) i))
      ∙ h.plus_is (a * b) (c * xor_bit a b)
      ∙ ap element (maj_sum a la b lb c lc)

-- What entries are worth, where they are the bits of a word.
use Rattle.std.proofs.Common.{◌≡◌, ℕ, ◌+◌, ◌-◌, ◌*◌, ◌/◌, ◌%◌, ◌^◌, ◌<◌, ◌≤◌, List, zero, suc, refl, sym, ap, ◌∙◌, arith, inl, inr, subst, mod-eq_of_lt}
use Rattle.std.specs.Prelude.{◌↔◌}
use Rattle.std.specs.Int.{bit_at}
use Rattle.std.proofs.lemmas.Bool.{cases_lt}
use Rattle.std.proofs.Math.Nat.{pow-suc, div-div-eq-div-mul}
use Rattle.lzk_field.specs.Sums.{entry}
use Rattle.lzk_field.proofs.RingBasics.{one_times}
use Rattle.lzk_goldilocks.specs.Elements.{ops, of_number, ring, Gold-ext}
use Rattle.lzk_goldilocks.specs.declared.element.Gold.{Gold}
use Rattle.lzk_sha_circuit.proofs.Numbered.{gold_numbered}
use Rattle.lzk_sha_path.specs.Levels.{bits_worth, side, chosen_word}

-- no bits, and one bit more
pub no_bits : (z : Gold) (xs : List Gold) (at n : ℕ) → z ≡ ops.zero → n ≡ 0 → z ≡ bits_worth xs at n
unfolding bits_worth
no_bits z xs at n e f = e ∙ ap (bits_worth xs at) (sym f)

pub bit_more : (one two bit above v : Gold) (xs : List Gold) (at n : ℕ) → one ≡ ops.one → two ≡ of_number 2 → bit ≡ entry ops xs (at + (n - 1)) → above ≡ bits_worth xs at (n - 1)
    → 0 < n → v ≡ ops.plus (ops.times one bit) (ops.times two above) → v ≡ bits_worth xs at n
unfolding bits_worth
bit_more one two bit above v xs at n e1 e2 eb ea some ev =
    let is : suc (n - 1) ≡ n = omega (arith, some) in
    ev ∙ (λ i. ops.plus (ops.times (e1 i) (eb i)) (ops.times (e2 i) (ea i))) ∙ ap (bits_worth xs at) is

-- the same entries are worth the same
pub worth_same : (xs ys : List Gold) (at n : ℕ) → ((k : ℕ) → k < n → entry ops xs (at + k) ≡ entry ops ys (at + k)) → bits_worth xs at n ≡ bits_worth ys at n
unfolding bits_worth
worth_same xs ys at zero h = refl
worth_same xs ys at (suc n) h =
    let before = worth_same xs ys at n (λ k lt. h k (omega (arith, lt))) in
    λ i. ops.plus (ops.times ops.one (h n (omega arith) i)) (ops.times (of_number 2) (before i))

-- the quotient by a power, and by the next lower one
quotient : (w q r m : ℕ) → q ≡ w / m → r ≡ w / (m * 2) → r ≡ q / 2
quotient w q r m eq er = er ∙ sym (div-div-eq-div-mul w m 2) ∙ ap (λ x. x / 2) (sym eq)

last_bit : (q r b : ℕ) → r ≡ q / 2 → b ≡ q % 2 → b + 2 * r ≡ q
last_bit q r b er eb = omega (arith, er, eb)

module _ (xs : List Gold) (at w : ℕ) (bits : (k : ℕ) → k < 32 → entry ops xs (at + k) ≡ of_number (bit_at w (31 - k))) where
  worth_part : (n : ℕ) → n ≤ 32 → w < 2 ^ 32 → bits_worth xs at n ≡ of_number (w / 2 ^ (32 - n))
  unfolding bits_worth
  worth_part zero le small = ap of_number (none w small) where
    none : (w : ℕ) → w < 2 ^ 32 → 0 ≡ w / 2 ^ 32
    none w small = omega (arith, small)
  worth_part (suc n) le small =
      let up : 32 - n ≡ suc (31 - n) = omega (arith, le) in
      let down : 32 - suc n ≡ 31 - n = omega arith in
      let m = 2 ^ (31 - n) in
      let above : w / 2 ^ (32 - n) ≡ w / m / 2 =
      quotient w (w / m) (w / 2 ^ (32 - n)) m refl (ap (λ k. w / k) (ap (λ k. 2 ^ k) up ∙ pow-suc 2 (31 - n))) in
      let b = bit_at w (31 - n) in
      (λ i. ops.plus (ops.times ops.one (bits n (omega (arith, le)) i)) (ops.times (of_number 2) (worth_part n (omega (arith, le)) small i)))
      ∙ ap (λ (y : Gold). ops.plus y (ops.times (of_number 2) (of_number (w / 2 ^ (32 - n))))) (one_times ops ring (of_number b))
      ∙ ap (ops.plus (of_number b)) (gold_numbered.times_is 2 (w / 2 ^ (32 - n)))
      ∙ gold_numbered.plus_is b (2 * (w / 2 ^ (32 - n)))
      ∙ ap of_number (last_bit (w / m) (w / 2 ^ (32 - n)) b above refl ∙ ap (λ k. w / 2 ^ k) (sym down))

  pub word_worth : w < 2 ^ 32 → bits_worth xs at 32 ≡ of_number w
  word_worth small = worth_part 32 (omega arith) small ∙ ap of_number (all w) where
    all : (w : ℕ) → w / 2 ^ 0 ≡ w
    all w = omega arith

-- ---- the child on a side
own_number : (x : Gold) → x ≡ of_number x.n
own_number x = Gold-ext x (of_number x.n) (sym (mod-eq_of_lt x.small))

-- what is selected by the side
pub selected : (q : List Gold) (i : ℕ) (bit chosen left right : Gold) → bit ≡ entry ops q 512 → left ≡ bits_worth q (32 * i) 32 → right ≡ bits_worth q (256 + 32 * i) 32
    → (bit ≡ of_number 1 → chosen ≡ right) → (bit ≡ of_number 0 → chosen ≡ left) → side q < 2 → chosen ≡ chosen_word q i
selected q i bit chosen left right eb el er one zero_ small = by_side (side q) small (eb ∙ own_number (entry ops q 512)) refl where
  by_side : (d : ℕ) → d < 2 → bit ≡ of_number d → d ≡ side q → chosen ≡ chosen_word q i
  by_side zero lt e is =
      let there : 32 * i ≡ 256 * side q + 32 * i = omega (arith, is) in
      zero_ e ∙ el ∙ ap (λ at. bits_worth q at 32) there
  by_side (suc zero) lt e is =
      let there : 256 + 32 * i ≡ 256 * side q + 32 * i = omega (arith, is) in
      one e ∙ er ∙ ap (λ at. bits_worth q at 32) there
  by_side (suc (suc d)) lt e is = absurd (omega (arith, lt))

-- one word more
pub words_more : (n : ℕ) (P : ℕ → Type 0) → 0 < n → (((i : ℕ) → i < n - 1 → P i) × P (n - 1)) ↔ ((i : ℕ) → i < n → P i)
words_more n P some = (
  λ h i lt. elim (cases_lt i (n - 1)) [
    | inl less ↦ h.0 i less
    | inr more ↦ let e : n - 1 ≡ i = omega (arith, lt, more, some) in subst P e h.1
  ],
  λ h. (λ i lt. h i (omega (arith, lt)), h (n - 1) (omega (arith, some))),
)

pub no_words : (P : ℕ → Type 0) (i n : ℕ) → n ≡ 0 → i < n → P i
no_words P i n e lt = absurd (omega (arith, e, lt))

-- What the entries of bytes are worth, where they are bits.
use Rattle.std.proofs.Common.{◌≡◌, ℕ, ◌+◌, ◌-◌, ◌*◌, ◌/◌, ◌%◌, ◌^◌, ◌<◌, ◌≤◌, List, [], ◌∷◌, length, zero, suc, refl, sym, ap, subst, ◌∙◌, arith, slice_index, add_comm}
use Rattle.std.specs.Int.{bit_at}
use Rattle.std.proofs.Common.{inl, inr}
use Rattle.std.proofs.Math.Nat.{pow-suc}
use Rattle.std.proofs.lemmas.Bool.{cases_lt}
use Rattle.std.proofs.lemmas.Nat.Bits.{bit_at_lowest, bit_at-suc}
use Rattle.lzk_field.specs.Sums.{entry}
use Rattle.lzk_field.proofs.RingBasics.{one_times}
use Rattle.lzk_goldilocks.specs.Prime.{p}
use Rattle.lzk_goldilocks.specs.Elements.{ops, of_number, ring}
use Rattle.lzk_goldilocks.specs.declared.element.Gold.{Gold}
use Rattle.lzk_gadgets.specs.Spelled.{worth}
use Rattle.lzk_sha_circuit.specs.Digest.{AreBytes}
use Rattle.lzk_sha_circuit.proofs.Numbered.{gold_numbered}
use Rattle.lzk_policy.specs.Lines.{number_at}
use Rattle.lzk_policy_circuit.specs.Met.{byte_worth, number_worth, AreSameBytes}

-- the entries from a place on are the bits of these bytes, the highest of each first
pub record AreBitsOf (xs : List Gold) (at : ℕ) (m : List ℕ) : Type 0 where
  pub bits : (i : ℕ) → i < 8 * length m → entry ops xs (at + i) ≡ of_number (bit_at (slice_index m (i / 8)) (7 - i % 8))

-- ---- a byte

step : (x : Gold) (xs : List Gold) (b n : ℕ) → x ≡ of_number b → worth xs ≡ of_number n → worth (x ∷ xs) ≡ of_number (b + 2 * n)
step x xs b n e f =
    (λ i. ops.plus (ops.times ops.one (e i)) (ops.times (of_number 2) (f i)))
    ∙ ap (λ (y : Gold). ops.plus y (ops.times (of_number 2) (of_number n))) (one_times ops ring (of_number b))
    ∙ ap (ops.plus (of_number b)) (gold_numbered.times_is 2 n)
    ∙ gold_numbered.plus_is b (2 * n)

bit0 : (n : ℕ) → bit_at n 0 ≡ n % 2
bit0 n = bit_at_lowest n

bit1 : (n : ℕ) → bit_at n 1 ≡ n / 2 % 2
bit1 n = bit_at-suc n 0 ∙ bit0 (n / 2)

bit2 : (n : ℕ) → bit_at n 2 ≡ n / 2 / 2 % 2
bit2 n = bit_at-suc n 1 ∙ bit1 (n / 2)

bit3 : (n : ℕ) → bit_at n 3 ≡ n / 2 / 2 / 2 % 2
bit3 n = bit_at-suc n 2 ∙ bit2 (n / 2)

bit4 : (n : ℕ) → bit_at n 4 ≡ n / 2 / 2 / 2 / 2 % 2
bit4 n = bit_at-suc n 3 ∙ bit3 (n / 2)

bit5 : (n : ℕ) → bit_at n 5 ≡ n / 2 / 2 / 2 / 2 / 2 % 2
bit5 n = bit_at-suc n 4 ∙ bit4 (n / 2)

bit6 : (n : ℕ) → bit_at n 6 ≡ n / 2 / 2 / 2 / 2 / 2 / 2 % 2
bit6 n = bit_at-suc n 5 ∙ bit5 (n / 2)

bit7 : (n : ℕ) → bit_at n 7 ≡ n / 2 / 2 / 2 / 2 / 2 / 2 / 2 % 2
bit7 n = bit_at-suc n 6 ∙ bit6 (n / 2)

-- the sum of so many halves' last bits
halves : ℕ → ℕ → ℕ
halves zero n = 0
halves (suc k) n = n % 2 + 2 * halves k (n / 2)

eight : (n : ℕ) → bit_at n 0 + 2 * (bit_at n 1 + 2 * (bit_at n 2 + 2 * (bit_at n 3 + 2 * (bit_at n 4 + 2 * (bit_at n 5 + 2 * (bit_at n 6 + 2 * (bit_at n 7 + 2 * 0))))))) ≡ halves 8 n
unfolding halves
eight n i = bit0 n i + 2 * (bit1 n i + 2 * (bit2 n i + 2 * (bit3 n i + 2 * (bit4 n i + 2 * (bit5 n i + 2 * (bit6 n i + 2 * (bit7 n i + 2 * 0)))))))

halves_are : (k n : ℕ) → n < 2 ^ k → halves k n ≡ n
unfolding halves
halves_are zero n l = omega (arith, l)
halves_are (suc k) n l =
    let small : n / 2 < 2 ^ k = half n (2 ^ k) (omega (arith, l, pow-suc 2 k)) in
    omega (arith, halves_are k (n / 2) small) where
      half : (n m : ℕ) → n < 2 * m → n / 2 < m
      half n m l = omega (arith, l)

module _ (xs : List Gold) (at : ℕ) (m : List ℕ) (h : AreBitsOf xs at m) (bytes : AreBytes m) where
  byte_below : (k : ℕ) → k < length m → slice_index m k < 256
  byte_below k l = bytes k l

  bit_here : (k b c : ℕ) → k < length m → b < 8 → c ≡ 7 - b → entry ops xs (at + 8 * k + c) ≡ of_number (bit_at (slice_index m k) b)
  bit_here k b c l lb e =
      let inside : 8 * k + c < 8 * length m = omega (arith, l, lb, e) in
      let place : at + 8 * k + c ≡ at + (8 * k + c) = omega arith in
      let byte : (8 * k + c) / 8 ≡ k = omega (arith, lb, e) in
      let bit : 7 - (8 * k + c) % 8 ≡ b = omega (arith, lb, e) in
      ap (entry ops xs) place ∙ h.bits (8 * k + c) inside ∙ (λ i. of_number (bit_at (slice_index m (byte i)) (bit i)))

  pub byte_is : (k : ℕ) → k < length m → byte_worth xs (at + 8 * k) ≡ of_number (slice_index m k)
  unfolding byte_worth
  byte_is k l =
      let a = at + 8 * k in
      let n = slice_index m k in
      let none : worth [] ≡ of_number 0 = refl in
      let low : entry ops xs a ≡ of_number (bit_at n 7) = (let e : a ≡ a + 0 = omega arith in ap (entry ops xs) e ∙ bit_here k 7 0 l (omega arith) refl) in
      let s7 = step (entry ops xs a) [] (bit_at n 7) 0 low none in
      let s6 = step (entry ops xs (a + 1)) (entry ops xs a ∷ []) (bit_at n 6) (bit_at n 7 + 2 * 0) (bit_here k 6 1 l (omega arith) refl) s7 in
      let s5 = step (entry ops xs (a + 2)) (entry ops xs (a + 1) ∷ entry ops xs a ∷ []) (bit_at n 5) (bit_at n 6 + 2 * (bit_at n 7 + 2 * 0)) (bit_here k 5 2 l (omega arith) refl) s6 in
      let s4 = step (entry ops xs (a + 3)) (entry ops xs (a + 2) ∷ entry ops xs (a + 1) ∷ entry ops xs a ∷ []) (bit_at n 4) (bit_at n 5 + 2 * (bit_at n 6 + 2 * (bit_at n 7 + 2 * 0))) (bit_here k 4 3 l (omega arith) refl) s5 in
      let s3 = step (entry ops xs (a + 4)) (entry ops xs (a + 3) ∷ entry ops xs (a + 2) ∷ entry ops xs (a + 1) ∷ entry ops xs a ∷ []) (bit_at n 3) (bit_at n 4 + 2 * (bit_at n 5 + 2 * (bit_at n 6 + 2 * (bit_at n 7 + 2 * 0)))) (bit_here k 3 4 l (omega arith) refl) s4 in
      let s2 = step (entry ops xs (a + 5)) (entry ops xs (a + 4) ∷ entry ops xs (a + 3) ∷ entry ops xs (a + 2) ∷ entry ops xs (a + 1) ∷ entry ops xs a ∷ []) (bit_at n 2) (bit_at n 3 + 2 * (bit_at n 4 + 2 * (bit_at n 5 + 2 * (bit_at n 6 + 2 * (bit_at n 7 + 2 * 0))))) (bit_here k 2 5 l (omega arith) refl) s3 in
      let s1 = step (entry ops xs (a + 6)) (entry ops xs (a + 5) ∷ entry ops xs (a + 4) ∷ entry ops xs (a + 3) ∷ entry ops xs (a + 2) ∷ entry ops xs (a + 1) ∷ entry ops xs a ∷ []) (bit_at n 1) (bit_at n 2 + 2 * (bit_at n 3 + 2 * (bit_at n 4 + 2 * (bit_at n 5 + 2 * (bit_at n 6 + 2 * (bit_at n 7 + 2 * 0)))))) (bit_here k 1 6 l (omega arith) refl) s2 in
      let s0 = step (entry ops xs (a + 7)) (entry ops xs (a + 6) ∷ entry ops xs (a + 5) ∷ entry ops xs (a + 4) ∷ entry ops xs (a + 3) ∷ entry ops xs (a + 2) ∷ entry ops xs (a + 1) ∷ entry ops xs a ∷ []) (bit_at n 0) (bit_at n 1 + 2 * (bit_at n 2 + 2 * (bit_at n 3 + 2 * (bit_at n 4 + 2 * (bit_at n 5 + 2 * (bit_at n 6 + 2 * (bit_at n 7 + 2 * 0))))))) (bit_here k 0 7 l (omega arith) refl) s1 in
      s0 ∙ ap of_number (eight n ∙ halves_are 8 n (byte_below k l))

  pub number_is : (place n : ℕ) → place + n ≤ length m → number_worth xs (at + 8 * place) n ≡ of_number (number_at m place n)
  unfolding number_worth
  number_is place zero l = refl
  number_is place (suc n) l =
      let before = number_at m place n in
      let b = slice_index m (place + n) in
      let where_ : at + 8 * place + 8 * n ≡ at + 8 * (place + n) = omega arith in
      (λ i. ops.plus (ops.times ops.one ((ap (byte_worth xs) where_ ∙ byte_is (place + n) (omega (arith, l))) i)) (ops.times (of_number 256) (number_is place n (omega (arith, l)) i)))
      ∙ ap (λ (y : Gold). ops.plus y (ops.times (of_number 256) (of_number before))) (one_times ops ring (of_number b))
      ∙ ap (ops.plus (of_number b)) (gold_numbered.times_is 256 before)
      ∙ gold_numbered.plus_is b (256 * before)
      ∙ ap of_number (add_comm b (256 * before))

-- a number of bytes is below a power of 256
pub number_below : (m : List ℕ) (place n : ℕ) → AreBytes m → place + n ≤ length m → number_at m place n < 256 ^ n
number_below m place zero h l = omega arith
number_below m place (suc n) h l =
    omega (arith, number_below m place n h (omega (arith, l)), h (place + n) (omega (arith, l)), pow-suc 256 n)

small_byte : (n : ℕ) → n < 256 → n < p
small_byte n l = omega (arith, l)

-- bytes that are worth as much are the same
pub same_byte : (a b : ℕ) → a < 256 → b < 256 → of_number a ≡ of_number b → a ≡ b
same_byte a b la lb e = gold_numbered.same a b (small_byte a la) (small_byte b lb) e

module _ (xs ys : List Gold) (at from : ℕ) (m w : List ℕ) (hx : AreBitsOf xs at m) (hy : AreBitsOf ys from w) (bm : AreBytes m) (bw : AreBytes w) where
  pub same_forward : (place start n : ℕ) → place + n ≤ length m → start + n ≤ length w → AreSameBytes xs (at + 8 * place) ys (from + 8 * start) n
      → (k : ℕ) → k < n → slice_index m (place + k) ≡ slice_index w (start + k)
  same_forward place start zero lm lw h k lk = absurd (omega (arith, lk))
  same_forward place start (suc n) lm lw h k lk =
      elim (cases_lt k n) [
        | inl less ↦ same_forward place start n (omega (arith, lm)) (omega (arith, lw)) h.0 k less
        | inr more ↦
            let e : k ≡ n = omega (arith, lk, more) in
            let pm : place + n < length m = omega (arith, lm) in
            let pw : start + n < length w = omega (arith, lw) in
            let wm : at + 8 * place + 8 * n ≡ at + 8 * (place + n) = omega arith in
            let ww : from + 8 * start + 8 * n ≡ from + 8 * (start + n) = omega arith in
            let there = sym (ap (byte_worth xs) wm ∙ byte_is xs at m hx bm (place + n) pm) ∙ h.1 ∙ (ap (byte_worth ys) ww ∙ byte_is ys from w hy bw (start + n) pw) in
            let same = same_byte (slice_index m (place + n)) (slice_index w (start + n)) (bm (place + n) pm) (bw (start + n) pw) there in
            subst (λ (j : ℕ). slice_index m (place + j) ≡ slice_index w (start + j)) (sym e) same
      ]

  pub same_backward : (place start n : ℕ) → place + n ≤ length m → start + n ≤ length w → ((k : ℕ) → k < n → slice_index m (place + k) ≡ slice_index w (start + k))
      → AreSameBytes xs (at + 8 * place) ys (from + 8 * start) n
  same_backward place start zero lm lw h = tt
  same_backward place start (suc n) lm lw h =
      let pm : place + n < length m = omega (arith, lm) in
      let pw : start + n < length w = omega (arith, lw) in
      let wm : at + 8 * place + 8 * n ≡ at + 8 * (place + n) = omega arith in
      let ww : from + 8 * start + 8 * n ≡ from + 8 * (start + n) = omega arith in (
        same_backward place start n (omega (arith, lm)) (omega (arith, lw)) (λ k lk. h k (omega (arith, lk))),
        (ap (byte_worth xs) wm ∙ byte_is xs at m hx bm (place + n) pm) ∙ ap of_number (h n (omega arith)) ∙ sym (ap (byte_worth ys) ww ∙ byte_is ys from w hy bw (start + n) pw),
      )

-- Elements that stand for small numbers: sums of words, and what a zero output says of them.
use Rattle.std.specs.Prelude.{◌≡◌, ℕ, ◌+◌, ◌*◌, ◌/◌, ◌%◌, ◌^◌, ◌<◌, ◌≤◌}
use Rattle.std.proofs.Common.{sym, ap, ◌∙◌, arith, add-mul, mul_comm, div-add-mod'}
use Rattle.std.proofs.lemmas.Nat.{mul-add-lt, mod-mul-add}
use Rattle.std.proofs.Math.Nat.{mul-le-mul_left}
use Rattle.lzk_field.specs.Ring.{Ops}
use Rattle.lzk_field.specs.Sums.{minus}
use Rattle.lzk_field.proofs.RingBasics.{same_from_difference}
use Rattle.lzk_sha_circuit.specs.Words.{worth}
use Rattle.lzk_sha_circuit.specs.Places.{Places, bits_from}
use Rattle.lzk_sha_circuit.specs.Outputs.{with_carry}
use Rattle.lzk_sha_circuit.proofs.Numbered.{Numbered}
use Rattle.lzk_sha_circuit.proofs.Held.{Held, worth_is}

-- x stands for n, which is below so many times m
pub record Valued {A : Type 0} (element : ℕ → A) (m count : ℕ) (x : A) (n : ℕ) : Type 0 where
  pub is : x ≡ element n
  pub below : n < count * m

sum-lt : (m a b i j : ℕ) → a < i * m → b < j * m → a + b < (i + j) * m
sum-lt m a b i j la lb = omega (arith, add-mul i j m)

turn_around : (m t c : ℕ) → t + m * c ≡ c * m + t
turn_around m t c = omega (arith, mul_comm m c)

module _ {A : Type 0} (o : Ops A) (element : ℕ → A) (size : ℕ) (h : Numbered o element size) where
  pub valued_plus : (m i j : ℕ) (x y : A) (a b : ℕ) → Valued element m i x a → Valued element m j y b → Valued element m (i + j) (o.plus x y) (a + b)
  valued_plus m i j x y a b vx vy = record {
    is = (λ k. o.plus (vx.is k) (vy.is k)) ∙ h.plus_is a b;
    below = sum-lt m a b i j vx.below vy.below;
  }

  pub zero_from_same : (x y : A) (a b : ℕ) → x ≡ element a → y ≡ element b → a ≡ b → minus o x y ≡ o.zero
  zero_from_same x y a b ex ey e = ap (λ w. minus o w y) (ex ∙ ap element e ∙ sym ey) ∙ h.ring.plus_neg y

  pub same_from_zero : (x y : A) (a b : ℕ) → a < size → b < size → x ≡ element a → y ≡ element b → minus o x y ≡ o.zero → a ≡ b
  same_from_zero x y a b la lb ex ey e = h.same a b la lb (sym ex ∙ same_from_difference o h.ring x y e ∙ ey)

  carried_is : (m t c : ℕ) (x y : A) → x ≡ element t → y ≡ element c → o.plus x (o.times (element m) y) ≡ element (c * m + t)
  carried_is m t c x y ex ey =
      (λ k. o.plus (ex k) (o.times (element m) (ey k))) ∙ ap (o.plus (element t)) (h.times_is m c) ∙ h.plus_is t (m * c) ∙ ap element (turn_around m t c)

  -- a word with its carry of at most 3 bits, and what it is to be
  carry_forward : (m k : ℕ) (x y z : A) (s t c : ℕ) → k ≤ 8 → 8 * m ≤ size → Valued element m 8 x s → y ≡ element t → t < m → z ≡ element c → c < k
      → minus o x (o.plus y (o.times (element m) z)) ≡ o.zero → t ≡ s % m
  carry_forward m k x y z s t c few big vx ey lt ez lc e =
      let fits = mul-add-lt c m t k lc lt in
      let most = mul-le-mul_left m few in
      let turned = mul_comm m 8 in
      let below : c * m + t < size = omega (arith, fits, most, turned) in
      let start = vx.below in
      let below_sum : s < size = omega (arith, start) in
      let same : s ≡ c * m + t = same_from_zero x (o.plus y (o.times (element m) z)) s (c * m + t) below_sum below vx.is (carried_is m t c y z ey ez) e in
      sym (ap (λ w. w % m) same ∙ mod-mul-add c m t lt)

  carry_backward : (m : ℕ) (x y z : A) (s : ℕ) → x ≡ element s → y ≡ element (s % m) → z ≡ element (s / m)
      → minus o x (o.plus y (o.times (element m) z)) ≡ o.zero
  carry_backward m x y z s ex ey ez =
      zero_from_same x (o.plus y (o.times (element m) z)) s (s / m * m + s % m) ex (carried_is m (s % m) (s / m) y z ey ez) (sym (div-add-mod' s m))

  module _ (given : Places) (input : ℕ → A) where
    -- a word that is what a sum is, its carry taken off
    pub word_follows : (place bits : ℕ) (x : A) (s t c : ℕ) → 2 ^ bits ≤ 8 → 8 * 2 ^ 32 ≤ size → Valued element (2 ^ 32) 8 x s
        → Held element 32 (bits_from input place 32) t → Held element bits (bits_from input (place + 32) bits) c
        → minus o x (with_carry o element given input place bits) ≡ o.zero → t ≡ s % 2 ^ 32
    word_follows place bits x s t c few big vx ht hc e =
        carry_forward (2 ^ 32) (2 ^ bits) x (worth o element 32 (bits_from input place 32)) (worth o element bits (bits_from input (place + 32) bits)) s t c few big vx
        (worth_is o element size h 32 (bits_from input place 32) t ht) ht.below (worth_is o element size h bits (bits_from input (place + 32) bits) c hc) hc.below e

    pub word_meets : (place bits : ℕ) (x : A) (s : ℕ) → x ≡ element s
        → Held element 32 (bits_from input place 32) (s % 2 ^ 32) → Held element bits (bits_from input (place + 32) bits) (s / 2 ^ 32)
        → minus o x (with_carry o element given input place bits) ≡ o.zero
    word_meets place bits x s ex ht hc =
        carry_backward (2 ^ 32) x (worth o element 32 (bits_from input place 32)) (worth o element bits (bits_from input (place + 32) bits)) s ex
        (worth_is o element size h 32 (bits_from input place 32) (s % 2 ^ 32) ht) (worth_is o element size h bits (bits_from input (place + 32) bits) (s / 2 ^ 32) hc)

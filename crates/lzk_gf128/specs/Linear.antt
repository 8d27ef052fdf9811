-- Maps that keep exclusive or, and by them the laws of the product. Of use for the proof of the field's laws alone.
use Rattle.std.specs.Prelude.{◌≡◌, ℕ, ◌+◌, ◌*◌, ◌/◌, ◌%◌, ◌^◌, ◌<◌, ◌≤◌, bit_xor}
use Rattle.std.proofs.Common.{zero, suc, refl, sym, ap, ◌∙◌, arith}
use Rattle.std.specs.Int.Bits.{xor_assoc, xor_comm, xor_self, xor_zero_r, xor_shr, xor_mod, xor_lt, xor_block, xor_shifted}
use Rattle.std.specs.Int.{bit_at}
use Rattle.std.proofs.lemmas.Nat.Bits.{bit_at_xor, bit_at_lowest}
use Rattle.std.proofs.lemmas.Nat.{pow_pos, pow_below, div_below, mod_below, shr_split}
use Rattle.std.proofs.Math.Nat.{zero-mul, one-mul, mod-eq_of_lt, div-eq_of_lt, zero-add, add-zero}
use Rattle.lzk_gf128.specs.Product.{times_x, times_bits, shift}

infixl 65 ◌⊕◌
abbrev pub ◌⊕◌ : ℕ → ℕ → ℕ
a ⊕ b = bit_xor a b

abbrev pub Additive : (ℕ → ℕ) → Type 0
Additive f = (a b : ℕ) → f (a ⊕ b) ≡ f a ⊕ f b

pub xor_left_comm : (a b c : ℕ) → a ⊕ (b ⊕ c) ≡ b ⊕ (a ⊕ c)
xor_left_comm a b c = sym (xor_assoc a b c) ∙ ap (λ w. w ⊕ c) (xor_comm a b) ∙ xor_assoc b a c

pub xor_swap : (a b c d : ℕ) → (a ⊕ b) ⊕ (c ⊕ d) ≡ (a ⊕ c) ⊕ (b ⊕ d)
xor_swap a b c d = xor_assoc a b (c ⊕ d) ∙ ap (λ w. a ⊕ w) (xor_left_comm b c d) ∙ sym (xor_assoc a c (b ⊕ d))

pub Additive-zero : (f : ℕ → ℕ) → Additive f → f 0 ≡ 0
Additive-zero f h = h 0 0 ∙ xor_self (f 0)

-- a bit times a number
pub pick-xor : (i j c : ℕ) → i < 2 → j < 2 → (i + j) % 2 * c ≡ (i * c) ⊕ (j * c)
pick-xor zero zero c p q = rw (zero-mul c) refl
pick-xor zero (suc zero) c p q = rw (zero-mul c, one-mul c) refl
pick-xor (suc zero) zero c p q = rw (one-mul c, zero-mul c) (sym (xor_zero_r c))
pick-xor (suc zero) (suc zero) c p q = rw (zero-mul c, one-mul c) (sym (xor_self c))
pick-xor zero (suc (suc j)) c p q = absurd (omega arith)
pick-xor (suc zero) (suc (suc j)) c p q = absurd (omega arith)
pick-xor (suc (suc i)) j c p q = absurd (omega arith)

pub pick-additive : (f : ℕ → ℕ) → Additive f → (i c : ℕ) → i < 2 → f (i * c) ≡ i * f c
pick-additive f h zero c p = rw (zero-mul c, zero-mul (f c)) (Additive-zero f h)
pick-additive f h (suc zero) c p = rw (one-mul c, one-mul (f c)) refl
pick-additive f h (suc (suc i)) c p = absurd (omega arith)

pub pick_each : (i a c : ℕ) → i < 2 → i * (a ⊕ c) ≡ (i * a) ⊕ (i * c)
pick_each zero a c p = rw (zero-mul (a ⊕ c), zero-mul a, zero-mul c) refl
pick_each (suc zero) a c p = rw (one-mul (a ⊕ c), one-mul a, one-mul c) refl
pick_each (suc (suc i)) a c p = absurd (omega arith)

pub bit_lt : (n : ℕ) → n % 2 < 2
bit_lt n = omega arith

pub twice-xor : (a b : ℕ) → 2 * (a ⊕ b) ≡ (2 * a) ⊕ (2 * b)
twice-xor a b =
    sym (double (a ⊕ b)) ∙ sym (xor_block 1 a b 0 0 (omega arith) (omega arith))
    ∙ ap (λ w. w ⊕ (b * 2 ^ 1 + 0)) (double a) ∙ ap (λ w. (2 * a) ⊕ w) (double b)
  where
    double : (n : ℕ) → n * 2 ^ 1 + 0 ≡ 2 * n
    double n = omega arith

pub times_x-additive : Additive times_x
times_x-additive a b =
    let shifted = twice-xor a b in
    let low : 2 * (a ⊕ b) % 2 ^ 128 ≡ (2 * a % 2 ^ 128) ⊕ (2 * b % 2 ^ 128) =
    ap (λ w. w % 2 ^ 128) shifted ∙ xor_mod (2 * a) (2 * b) 128 in
    let high : (a ⊕ b) / 2 ^ 127 % 2 * 135 ≡ (a / 2 ^ 127 % 2 * 135) ⊕ (b / 2 ^ 127 % 2 * 135) =
    ap (λ w. w * 135) (bit_at_xor a b 127)
    ∙ pick-xor (a / 2 ^ 127 % 2) (b / 2 ^ 127 % 2) 135 (bit_lt (a / 2 ^ 127)) (bit_lt (b / 2 ^ 127)) in
    ap (λ w. w ⊕ ((a ⊕ b) / 2 ^ 127 % 2 * 135)) low ∙ ap (λ w. ((2 * a % 2 ^ 128) ⊕ (2 * b % 2 ^ 128)) ⊕ w) high
    ∙ xor_swap (2 * a % 2 ^ 128) (2 * b % 2 ^ 128) (a / 2 ^ 127 % 2 * 135) (b / 2 ^ 127 % 2 * 135)

pub low_bit : (b c : ℕ) → (b ⊕ c) % 2 ≡ (b % 2 + c % 2) % 2
low_bit b c =
    sym (bit_at_lowest (b ⊕ c)) ∙ bit_at_xor b c 0 ∙ ap (λ w. (w + bit_at c 0) % 2) (bit_at_lowest b)
    ∙ ap (λ w. (b % 2 + w) % 2) (bit_at_lowest c)

pub low_bit_xor : (b c : ℕ) → (b ⊕ c) % 2 ≡ (b % 2) ⊕ (c % 2)
low_bit_xor b c = xor_mod b c 1

-- ---- the product, in its first factor
pub times_bits-left : (k b : ℕ) → Additive (λ a. times_bits k a b)
times_bits-left zero b a c = refl
times_bits-left (suc k) b a c =
    ap (λ w. w ⊕ times_bits k (times_x (a ⊕ c)) (b / 2)) (pick_each (b % 2) a c (bit_lt b))
    ∙ ap (λ w. ((b % 2 * a) ⊕ (b % 2 * c)) ⊕ w)
    (ap (λ w. times_bits k w (b / 2)) (times_x-additive a c) ∙ times_bits-left k (b / 2) (times_x a) (times_x c))
    ∙ xor_swap (b % 2 * a) (b % 2 * c) (times_bits k (times_x a) (b / 2)) (times_bits k (times_x c) (b / 2))

-- and in its second
pub times_bits-right : (k a : ℕ) → Additive (times_bits k a)
times_bits-right zero a b c = refl
times_bits-right (suc k) a b c =
    let low : (b ⊕ c) % 2 ≡ (b % 2 + c % 2) % 2 = sym (bit_at_lowest (b ⊕ c)) ∙ bit_at_xor b c 0
    ∙ ap (λ w. (w + bit_at c 0) % 2) (bit_at_lowest b) ∙ ap (λ w. (b % 2 + w) % 2) (bit_at_lowest c) in
    let high : (b ⊕ c) / 2 ≡ (b / 2) ⊕ (c / 2) = xor_shr b c 1 in
    ap (λ w. (w * a) ⊕ times_bits k (times_x a) ((b ⊕ c) / 2)) low
    ∙ ap (λ w. w ⊕ times_bits k (times_x a) ((b ⊕ c) / 2)) (pick-xor (b % 2) (c % 2) a (bit_lt b) (bit_lt c))
    ∙ ap (λ w. ((b % 2 * a) ⊕ (c % 2 * a)) ⊕ w)
    (ap (times_bits k (times_x a)) high ∙ times_bits-right k (times_x a) (b / 2) (c / 2))
    ∙ xor_swap (b % 2 * a) (c % 2 * a) (times_bits k (times_x a) (b / 2)) (times_bits k (times_x a) (c / 2))

pub times_bits-zero : (k a : ℕ) → times_bits k a 0 ≡ 0
times_bits-zero zero a = refl
times_bits-zero (suc k) a = rw (zero-mul a, times_bits-zero k (times_x a)) refl

-- it goes along with times x
pub times_bits-times_x : (k a b : ℕ) → times_bits k (times_x a) b ≡ times_x (times_bits k a b)
times_bits-times_x zero a b = refl
times_bits-times_x (suc k) a b =
    ap (λ w. (b % 2 * times_x a) ⊕ w) (times_bits-times_x k (times_x a) (b / 2))
    ∙ ap (λ w. w ⊕ times_x (times_bits k (times_x a) (b / 2)))
    (sym (pick-additive times_x times_x-additive (b % 2) a (bit_lt b)))
    ∙ sym (times_x-additive (b % 2 * a) (times_bits k (times_x a) (b / 2)))

-- ---- x ^ i, and the basis

pub times_bits-shift : (k i a b : ℕ) → times_bits k (shift i a) b ≡ shift i (times_bits k a b)
times_bits-shift k zero a b = refl
times_bits-shift k (suc i) a b = times_bits-shift k i (times_x a) b ∙ ap (shift i) (times_bits-times_x k a b)

-- a power of 2 below the width is moved up
times_x-pow : (i : ℕ) → i < 127 → times_x (2 ^ i) ≡ 2 ^ suc i
times_x-pow i h =
    let above : 2 ^ i < 2 ^ 127 = pow_below i 127 h in
    let none : 2 ^ i / 2 ^ 127 ≡ 0 = div-eq_of_lt above in
    let twice : 2 * 2 ^ i ≡ 2 ^ suc i = omega arith in
    let room : 2 ^ suc i < 2 ^ 128 = omega (arith, twice, above) in
    ap (λ w. (2 * 2 ^ i % 2 ^ 128) ⊕ (w % 2 * 135)) none ∙ xor_zero_r (2 * 2 ^ i % 2 ^ 128)
    ∙ ap (λ w. w % 2 ^ 128) twice ∙ mod-eq_of_lt room

digits : (b n : ℕ) → b / 2 * (2 * n) + b % 2 * n ≡ b * n
digits b n = let e : b ≡ b / 2 * 2 + b % 2 = omega arith in sym (spread (b / 2) (b % 2) n) ∙ ap (λ w. w * n) (sym e)
  where
    spread : (q r n : ℕ) → (q * 2 + r) * n ≡ q * (2 * n) + r * n
    spread q r n = omega arith

bit_times_small : (i n : ℕ) → i < 2 → 0 < n → i * n < 2 * n
bit_times_small zero n h p = omega arith
bit_times_small (suc zero) n h p = omega arith
bit_times_small (suc (suc i)) n h p = absurd (omega arith)

-- one factor 2 ^ m
times_bits-pow : (k m b : ℕ) → k + m ≤ 128 → b < 2 ^ k → times_bits k (2 ^ m) b ≡ b * 2 ^ m
times_bits-pow zero m b fits small = let e : b ≡ 0 = omega arith in rw e (sym (zero-mul (2 ^ m)))
times_bits-pow (suc zero) m b fits small =
    let e : b % 2 ≡ b = omega arith in xor_zero_r (b % 2 * 2 ^ m) ∙ ap (λ w. w * 2 ^ m) e
times_bits-pow (suc (suc k)) m b fits small =
    let rest = times_bits-pow (suc k) (suc m) (b / 2) (omega arith) (omega arith) in
    let twice : 2 ^ suc m ≡ 2 * 2 ^ m = omega arith in
    let low : b % 2 * 2 ^ m < 2 ^ suc m = omega
    (arith, bit_times_small (b % 2) (2 ^ m) (bit_lt b) (pow_pos m), twice) in
    ap (λ w. (b % 2 * 2 ^ m) ⊕ times_bits (suc k) w (b / 2)) (times_x-pow m (omega arith))
    ∙ ap (λ w. (b % 2 * 2 ^ m) ⊕ w) rest ∙ xor_comm (b % 2 * 2 ^ m) (b / 2 * 2 ^ suc m)
    ∙ xor_shifted (b / 2) (suc m) (b % 2 * 2 ^ m) low ∙ ap (λ w. b / 2 * w + b % 2 * 2 ^ m) twice ∙ digits b (2 ^ m)

-- two additive maps that agree at the powers of 2 agree
pub same_from_powers : (f g : ℕ → ℕ) → Additive f → Additive g → (k : ℕ) → ((j : ℕ) → j < k → f (2 ^ j) ≡ g (2 ^ j))
    → (n : ℕ) → n < 2 ^ k
    → f n ≡ g n
same_from_powers f g hf hg zero agree n small =
    let e : n ≡ 0 = omega arith in rw e (Additive-zero f hf ∙ sym (Additive-zero g hg))
same_from_powers f g hf hg (suc k) agree n small =
    let low = n % 2 ^ k in
    let top = n / 2 ^ k in
    let top_lt : top < 2 = div_below n (2 ^ k) 2 (pow_pos k) (omega arith) in
    let low_lt : low < 2 ^ k = mod_below n (2 ^ k) (pow_pos k) in
    let split : (top * 2 ^ k) ⊕ low ≡ n = xor_shifted top k low low_lt ∙ shr_split n k in
    let part : (h : ℕ → ℕ) → Additive h → h n ≡ (top * h (2 ^ k)) ⊕ h low =
    λ h hh. ap h (sym split) ∙ hh (top * 2 ^ k) low ∙ ap (λ w. w ⊕ h low) (pick-additive h hh top (2 ^ k) top_lt) in
    part f hf ∙ ap (λ w. (top * w) ⊕ f low) (agree k (omega arith))
    ∙ ap (λ w. (top * g (2 ^ k)) ⊕ w) (same_from_powers f g hf hg k (λ j p. agree j (omega arith)) low low_lt)
    ∙ sym (part g hg)

-- ---- the laws of the product, for numbers below 2 ^ 128
pub shift-one : (j m : ℕ) → j + m < 128 → shift j (2 ^ m) ≡ 2 ^ (j + m)
shift-one zero m h = ap (λ w. 2 ^ w) (sym (zero-add m))
shift-one (suc j) m h =
    ap (shift j) (times_x-pow m (omega arith)) ∙ shift-one j (suc m) (omega arith) ∙ ap (λ w. 2 ^ w) (omega arith)

pub one_times : (b : ℕ) → b < 2 ^ 128 → times_bits 128 1 b ≡ b
one_times b h = times_bits-pow 128 0 b (omega arith) h ∙ omega arith

pow_times : (j b : ℕ) → j < 128 → b < 2 ^ 128 → times_bits 128 (2 ^ j) b ≡ shift j b
pow_times j b hj hb =
    let pow : shift j 1 ≡ 2 ^ j = shift-one j 0 (omega arith) ∙ ap (λ w. 2 ^ w) (add-zero j) in
    ap (λ w. times_bits 128 w b) (sym pow) ∙ times_bits-shift 128 j 1 b ∙ ap (shift j) (one_times b hb)

-- b times 2 ^ j
pub times_pow : (k j a : ℕ) → j < k → times_bits k a (2 ^ j) ≡ shift j a
times_pow zero j a h = absurd (omega arith)
times_pow (suc k) zero a h = rw (one-mul a, times_bits-zero k (times_x a)) (xor_zero_r a)
times_pow (suc k) (suc j) a h =
    let even : 2 ^ suc j % 2 ≡ 0 = omega arith in
    let half : 2 ^ suc j / 2 ≡ 2 ^ j = omega arith in
    ap (λ w. (w * a) ⊕ times_bits k (times_x a) (2 ^ suc j / 2)) even
    ∙ ap (λ w. (0 * a) ⊕ times_bits k (times_x a) w) half ∙ ap (λ w. w ⊕ times_bits k (times_x a) (2 ^ j)) (zero-mul a)
    ∙ times_pow k j (times_x a) (omega arith)

pub times_comm : (a b : ℕ) → a < 2 ^ 128 → b < 2 ^ 128 → times_bits 128 a b ≡ times_bits 128 b a
times_comm a b ha hb =
    same_from_powers (λ c. times_bits 128 c b) (times_bits 128 b) (times_bits-left 128 b) (times_bits-right 128 b) 128
    (λ j h. pow_times j b h hb ∙ sym (times_pow 128 j b h)) a ha

pub shift-additive : (j : ℕ) → Additive (shift j)
shift-additive zero a b = refl
shift-additive (suc j) a b = ap (shift j) (times_x-additive a b) ∙ shift-additive j (times_x a) (times_x b)

times_x_lt : (a : ℕ) → times_x a < 2 ^ 128
times_x_lt a = xor_lt 128 (2 * a % 2 ^ 128) (a / 2 ^ 127 % 2 * 135) (omega arith) (omega (arith, bit_lt (a / 2 ^ 127)))

pub pick_lt : (i a : ℕ) → i < 2 → a < 2 ^ 128 → i * a < 2 ^ 128
pick_lt zero a h p = omega arith
pick_lt (suc zero) a h p = omega arith
pick_lt (suc (suc i)) a h p = absurd (omega arith)

pub times_bits_lt : (k a b : ℕ) → a < 2 ^ 128 → times_bits k a b < 2 ^ 128
times_bits_lt zero a b h = omega arith
times_bits_lt (suc k) a b h =
    xor_lt 128 (b % 2 * a) (times_bits k (times_x a) (b / 2)) (pick_lt (b % 2) a (bit_lt b) h)
    (times_bits_lt k (times_x a) (b / 2) (times_x_lt a))

shift_lt : (j a : ℕ) → a < 2 ^ 128 → shift j a < 2 ^ 128
shift_lt zero a h = h
shift_lt (suc j) a h = shift_lt j (times_x a) (times_x_lt a)

pub times_assoc : (a b c : ℕ) → a < 2 ^ 128 → b < 2 ^ 128 → c < 2 ^ 128
    → times_bits 128 (times_bits 128 a b) c ≡ times_bits 128 a (times_bits 128 b c)
times_assoc a b c ha hb hc =
    same_from_powers (times_bits 128 (times_bits 128 a b)) (λ d. times_bits 128 a (times_bits 128 b d))
    (times_bits-right 128 (times_bits 128 a b)) (λ d e.
    ap (times_bits 128 a) (times_bits-right 128 b d e)
    ∙ times_bits-right 128 a (times_bits 128 b d) (times_bits 128 b e)) 128 (λ j h.
    times_pow 128 j (times_bits 128 a b) h ∙ ap (shift j) (times_comm a b ha hb) ∙ sym (times_bits-shift 128 j b a)
    ∙ times_comm (shift j b) a (shift_lt j b hb) ha ∙ ap (times_bits 128 a) (sym (times_pow 128 j b h))) c hc

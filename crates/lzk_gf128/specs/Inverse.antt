-- Each number but 0 has an inverse: its power 2 ^ 128 - 2.
use Rattle.std.specs.Prelude.{◌≡◌, ℕ, ◌+◌, ◌*◌, ◌/◌, ◌%◌, ◌^◌, ◌<◌, ◌≤◌, List, [], ◌∷◌, Bool, true, false, cond}
use Rattle.std.proofs.Common.{zero, suc, refl, sym, ap, subst, ◌∙◌, arith, eqb}
use Rattle.std.specs.Int.Bits.{xor_assoc, xor_self, xor_zero_r, xor_shr, xor_lt, xor_shifted}
use Rattle.std.proofs.lemmas.Nat.{pow_pos, pow_below, div_below, mod_below, shr_split}
use Rattle.std.proofs.Math.Nat.{zero-mul, one-mul}
use Rattle.std.proofs.Math.Numerals.{add-one}
use native.Mathlib.Decide.{dec_lt}
use Rattle.std.proofs.lemmas.Bool.{eqb-true, false≢true}
use Rattle.lzk_gf128.specs.Product.{times_bits, product}
use Rattle.lzk_gf128.specs.Table.{table}
use Rattle.lzk_gf128.specs.Linear.{◌⊕◌, xor_swap, pick-xor, bit_lt, low_bit, low_bit_xor, times_bits-left, times_bits-right, times_bits-zero, times_bits_lt, times_comm, times_assoc, one_times, times_pow, shift-one, pick_lt}

abbrev pub square : ℕ → ℕ
square n = times_bits 128 n n

abbrev pub squares : ℕ → ℕ → ℕ
squares zero n = n
squares (suc k) n = square (squares k n)

-- x ^ (2 ^ 128) is x
frobenius : squares 128 2 ≡ 2
frobenius = refl

-- the sum of a table's entries at the bits of n
abbrev pub apply : List ℕ → ℕ → ℕ
apply [] n = 0
apply (t ∷ ts) n = (n % 2 * t) ⊕ apply ts (n / 2)

abbrev pub clears : ℕ → Bool
clears zero = true
clears (suc k) = cond (eqb (apply table (square (2 ^ k) ⊕ 2 ^ k)) ((2 ^ k) ⊕ (2 ^ k % 2))) (clears k) false

clears_all : clears 128 ≡ true
clears_all = refl

-- ---- maps that keep exclusive or below 2 ^ 128
abbrev Below : ℕ → Type 0
Below a = a < 2 ^ 128

abbrev AdditiveBelow : (ℕ → ℕ) → Type 0
AdditiveBelow f = (a b : ℕ) → Below a → Below b → f (a ⊕ b) ≡ f a ⊕ f b

AdditiveBelow-zero : (f : ℕ → ℕ) → AdditiveBelow f → f 0 ≡ 0
AdditiveBelow-zero f h = h 0 0 (omega arith) (omega arith) ∙ xor_self (f 0)

pick-below : (f : ℕ → ℕ) → AdditiveBelow f → (i c : ℕ) → i < 2 → f (i * c) ≡ i * f c
pick-below f h zero c p = rw (zero-mul c, zero-mul (f c)) (AdditiveBelow-zero f h)
pick-below f h (suc zero) c p = rw (one-mul c, one-mul (f c)) refl
pick-below f h (suc (suc i)) c p = absurd (omega arith)

pub same_below : (f g : ℕ → ℕ) → AdditiveBelow f → AdditiveBelow g → (k : ℕ) → k ≤ 128
    → ((j : ℕ) → j < k → f (2 ^ j) ≡ g (2 ^ j)) → (n : ℕ) → n < 2 ^ k
    → f n ≡ g n
same_below f g hf hg zero fits agree n small =
    let e : n ≡ 0 = omega arith in rw e (AdditiveBelow-zero f hf ∙ sym (AdditiveBelow-zero g hg))
same_below f g hf hg (suc k) fits agree n small =
    let low = n % 2 ^ k in
    let top = n / 2 ^ k in
    let top_lt : top < 2 = div_below n (2 ^ k) 2 (pow_pos k) (omega arith) in
    let low_lt : low < 2 ^ k = mod_below n (2 ^ k) (pow_pos k) in
    let power_below : 2 ^ k < 2 ^ 128 = pow_below k 128 (omega arith) in
    let split : (top * 2 ^ k) ⊕ low ≡ n = xor_shifted top k low low_lt ∙ shr_split n k in
    let part : (h : ℕ → ℕ) → AdditiveBelow h → h n ≡ (top * h (2 ^ k)) ⊕ h low =
    λ h hh.
    ap h (sym split)
    ∙ hh (top * 2 ^ k) low (pick_lt top (2 ^ k) top_lt power_below) (omega (arith, low_lt, power_below))
    ∙ ap (λ w. w ⊕ h low) (pick-below h hh top (2 ^ k) top_lt) in
    part f hf ∙ ap (λ w. (top * w) ⊕ f low) (agree k (omega arith))
    ∙ ap (λ w. (top * g (2 ^ k)) ⊕ w) (same_below f g hf hg k (omega arith) (λ j p. agree j (omega arith)) low low_lt)
    ∙ sym (part g hg)

-- ---- squares
square_lt : (n : ℕ) → Below n → Below (square n)
square_lt n h = times_bits_lt 128 n n h

pub square-additive : AdditiveBelow square
square-additive a b ha hb =
    let m = times_bits 128 in
    times_bits-left 128 (a ⊕ b) a b
    ∙ ap (λ w. w ⊕ m b (a ⊕ b)) (times_bits-right 128 a a b)
    ∙ ap (λ w. (m a a ⊕ m a b) ⊕ w) (times_bits-right 128 b a b ∙ ap (λ w. w ⊕ m b b) (times_comm b a hb ha))
    ∙ xor_assoc (m a a) (m a b) (m a b ⊕ m b b)
    ∙ ap (λ w. m a a ⊕ w) (sym (xor_assoc (m a b) (m a b) (m b b)) ∙ ap (λ w. w ⊕ m b b) (xor_self (m a b)))

swap_times : (a b c d : ℕ) → Below a → Below b → Below c → Below d
    → times_bits 128 (times_bits 128 a b) (times_bits 128 c d)
    ≡ times_bits 128 (times_bits 128 a c) (times_bits 128 b d)
swap_times a b c d ha hb hc hd =
    let m = times_bits 128 in
    times_assoc a b (m c d) ha hb (times_bits_lt 128 c d hc)
    ∙ ap (m a) (sym (times_assoc b c d hb hc hd) ∙ ap (λ w. m w d) (times_comm b c hb hc) ∙ times_assoc c b d hc hb hd)
    ∙ sym (times_assoc a c (m b d) ha hc (times_bits_lt 128 b d hb))

pub square-times : (a b : ℕ) → Below a → Below b → square (times_bits 128 a b) ≡ times_bits 128 (square a) (square b)
square-times a b ha hb = swap_times a b a b ha hb ha hb

pub squares_lt : (k n : ℕ) → Below n → Below (squares k n)
squares_lt zero n h = h
squares_lt (suc k) n h = square_lt (squares k n) (squares_lt k n h)

squares-additive : (k : ℕ) → AdditiveBelow (squares k)
squares-additive zero a b ha hb = refl
squares-additive (suc k) a b ha hb =
    ap square (squares-additive k a b ha hb)
    ∙ square-additive (squares k a) (squares k b) (squares_lt k a ha) (squares_lt k b hb)

pub squares-times : (k a b : ℕ) → Below a → Below b
    → squares k (times_bits 128 a b) ≡ times_bits 128 (squares k a) (squares k b)
squares-times zero a b ha hb = refl
squares-times (suc k) a b ha hb =
    ap square (squares-times k a b ha hb)
    ∙ square-times (squares k a) (squares k b) (squares_lt k a ha) (squares_lt k b hb)

squares-one : (k : ℕ) → squares k 1 ≡ 1
squares-one zero = refl
squares-one (suc k) = ap square (squares-one k) ∙ one_times 1 (omega arith)

-- 2 ^ (j + 1) is x times 2 ^ j
double_is : (j : ℕ) → suc j < 128 → times_bits 128 2 (2 ^ j) ≡ 2 ^ suc j
double_is j h = times_pow 128 j 2 (omega arith) ∙ shift-one j 1 (omega arith) ∙ ap (λ w. 2 ^ w) (omega arith)

fixed_pow : (j : ℕ) → j < 128 → squares 128 (2 ^ j) ≡ 2 ^ j
fixed_pow zero h = squares-one 128
fixed_pow (suc j) h =
    ap (squares 128) (sym (double_is j h)) ∙ squares-times 128 2 (2 ^ j) (omega arith) (pow_below j 128 (omega arith))
    ∙ ap (λ w. times_bits 128 w (squares 128 (2 ^ j))) frobenius ∙ ap (times_bits 128 2) (fixed_pow j (omega arith))
    ∙ double_is j h

-- a ^ (2 ^ 128) is a
fixed : (a : ℕ) → Below a → squares 128 a ≡ a
fixed a h = same_below (squares 128) (λ n. n) (squares-additive 128) (λ b c hb hc. refl) 128 (omega arith) fixed_pow a h

-- ---- squaring leaves 0 and 1 alone
apply-additive : (ts : List ℕ) → AdditiveBelow (apply ts)
apply-additive ts a b ha hb = every ts a b
  where
    every : (ts : List ℕ) (a b : ℕ) → apply ts (a ⊕ b) ≡ apply ts a ⊕ apply ts b
    every [] a b = refl
    every (t ∷ ts) a b =
        ap (λ w. (w * t) ⊕ apply ts ((a ⊕ b) / 2)) (low_bit a b)
        ∙ ap (λ w. w ⊕ apply ts ((a ⊕ b) / 2)) (pick-xor (a % 2) (b % 2) t (bit_lt a) (bit_lt b))
        ∙ ap (λ w. ((a % 2 * t) ⊕ (b % 2 * t)) ⊕ w) (ap (apply ts) (xor_shr a b 1) ∙ every ts (a / 2) (b / 2))
        ∙ xor_swap (a % 2 * t) (b % 2 * t) (apply ts (a / 2)) (apply ts (b / 2))

clears_at : (k j : ℕ) → clears k ≡ true → j < k → apply table (square (2 ^ j) ⊕ 2 ^ j) ≡ (2 ^ j) ⊕ (2 ^ j % 2)
clears_at zero j e h = absurd (omega arith)
clears_at (suc k) j e h =
    here (eqb (apply table (square (2 ^ k) ⊕ 2 ^ k)) ((2 ^ k) ⊕ (2 ^ k % 2))) refl e (dec_lt j k) (clears_at k j)
  where
    here : (t : Bool) → eqb (apply table (square (2 ^ k) ⊕ 2 ^ k)) ((2 ^ k) ⊕ (2 ^ k % 2)) ≡ t
        → cond t (clears k) false ≡ true → Dec (j < k)
        → (clears k ≡ true → j < k → apply table (square (2 ^ j) ⊕ 2 ^ j) ≡ (2 ^ j) ⊕ (2 ^ j % 2))
        → apply table (square (2 ^ j) ⊕ 2 ^ j) ≡ (2 ^ j) ⊕ (2 ^ j % 2)
    here false d e q ih = absurd (false≢true e)
    here true d e (yes q) ih = ih e q
    here true d e (no q) ih =
        let same : j ≡ k = omega arith in
        subst (λ w. apply table (square (2 ^ w) ⊕ 2 ^ w) ≡ (2 ^ w) ⊕ (2 ^ w % 2)) (sym same) (eqb-true _ _ d)

low_lt : (n : ℕ) → Below (n % 2)
low_lt n = omega (arith, bit_lt n)

cleared : (n : ℕ) → Below n → apply table (square n ⊕ n) ≡ n ⊕ (n % 2)
cleared n h =
    same_below (λ m. apply table (square m ⊕ m)) (λ m. m ⊕ (m % 2)) (λ a b ha hb.
    ap (λ w. apply table (w ⊕ (a ⊕ b))) (square-additive a b ha hb)
    ∙ ap (apply table) (xor_swap (square a) (square b) a b)
    ∙ apply-additive table (square a ⊕ a) (square b ⊕ b) (xor_lt 128 (square a) a (square_lt a ha) ha)
    (xor_lt 128 (square b) b (square_lt b hb) hb))
    (λ a b ha hb. ap (λ w. (a ⊕ b) ⊕ w) (low_bit_xor a b) ∙ xor_swap a b (a % 2) (b % 2)) 128 (omega arith)
    (λ j p. clears_at 128 j clears_all p) n h

xor-same : (a b : ℕ) → a ⊕ b ≡ 0 → a ≡ b
xor-same a b e = sym (xor_zero_r a) ∙ ap (λ w. a ⊕ w) (sym (xor_self b)) ∙ sym (xor_assoc a b b) ∙ ap (λ w. w ⊕ b) e

apply-zero : (ts : List ℕ) → apply ts 0 ≡ 0
apply-zero ts = AdditiveBelow-zero (apply ts) (apply-additive ts)

idempotent : (e : ℕ) → Below e → square e ≡ e → e < 2
idempotent e h fix =
    let none : e ⊕ (e % 2) ≡ 0 = sym (cleared e h) ∙ ap (λ w. apply table (w ⊕ e)) fix ∙ ap (apply table) (xor_self e)
    ∙ apply-zero table in
    let bit : e ≡ e % 2 = xor-same e (e % 2) none in omega (arith, bit, bit_lt e)

-- ---- a ^ (2 ^ k - 1)
abbrev pub most : ℕ → ℕ → ℕ
most a zero = 1
most a (suc k) = times_bits 128 (square (most a k)) a

pub most_lt : (a k : ℕ) → Below (most a k)
most_lt a zero = omega arith
most_lt a (suc k) = times_bits_lt 128 (square (most a k)) a (square_lt (most a k) (most_lt a k))

most_times : (a k : ℕ) → Below a → times_bits 128 (most a k) a ≡ squares k a
most_times a zero h = one_times a h
most_times a (suc k) h =
    let b = most a k in
    times_assoc (square b) a a (square_lt b (most_lt a k)) h h
    ∙ sym (square-times b a (most_lt a k) h)
    ∙ ap square (most_times a k h)

-- a ^ (2 ^ 128 - 2)
pub inverse : ℕ → ℕ
inverse a = square (most a 127)

pub times_inverse : (a : ℕ) → Below a → 0 < a → times_bits 128 (inverse a) a ≡ 1
unfolding inverse
times_inverse a h positive = by_value (times_bits 128 b a) (idempotent e e_lt fixes) refl
  where
    b : ℕ
    b = square (most a 127)

    b_lt : Below b
    b_lt = square_lt (most a 127) (most_lt a 127)

    e : ℕ
    e = times_bits 128 b a

    e_lt : Below e
    e_lt = times_bits_lt 128 b a b_lt

    keeps : times_bits 128 e a ≡ a
    keeps = most_times a 128 h ∙ fixed a h

    fixes : square e ≡ e
    fixes = times_assoc b a e b_lt h e_lt ∙ ap (times_bits 128 b) (times_comm a e h e_lt ∙ keeps)

    by_value : (v : ℕ) → e < 2 → e ≡ v → v ≡ 1
    by_value zero l q =
        absurd (omega
        (arith, sym keeps ∙ ap (λ w. times_bits 128 w a) q ∙ times_comm 0 a (omega arith) h ∙ times_bits-zero 128 a))
    by_value (suc zero) l q = refl
    by_value (suc (suc v)) l q = absurd (omega arith)

pub inverse_lt : (a : ℕ) → Below (inverse a)
unfolding inverse
inverse_lt a = square_lt (most a 127) (most_lt a 127)

-- what the code of the inverse computes, shut
unfoldable pub power_most : ℕ → ℕ → ℕ
power_most a k = most a k

pub power_most-zero : (a : ℕ) → power_most a 0 ≡ 1
unfolding power_most
power_most-zero a = refl

pub power_most-more : (a k : ℕ) → product 128 (product 128 (power_most a k) (power_most a k)) a ≡ power_most a (k + 1)
unfolding power_most product
power_most-more a k = rw add-one refl

pub inverse_is : (a : ℕ) → product 128 (power_most a 127) (power_most a 127) ≡ inverse a
unfolding power_most product inverse
inverse_is a = refl

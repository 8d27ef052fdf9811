-- Additive maps are compared at the powers of 2, by computing.
use Rattle.std.specs.Prelude.{◌≡◌, ℕ, ◌+◌, ◌*◌, ◌/◌, ◌%◌, ◌^◌, ◌<◌, ◌≤◌, bit_and, min, Bool, true, false, cond}
use Rattle.std.proofs.Common.{zero, suc, refl, sym, ap, subst, ◌∙◌, arith, eqb}
use Rattle.std.proofs.lemmas.Bool.{eqb-true, false≢true}
use Rattle.std.specs.Int.{bit_at}
use Rattle.std.proofs.lemmas.Nat.Bits.{bit_at_xor, bit_at_and, same_from_bits}
use Rattle.std.specs.Int.Bits.{xor_assoc, xor_comm, xor_shr, xor_mod, xor_lt, xor_block}
use native.Mathlib.Decide.{dec_lt}
use Rattle.std.proofs.lemmas.Nat.{pow_pos, pow-add}
use Rattle.std.proofs.Math.Nat.{add-zero, mod-le}
use Rattle.std.proofs.Math.Pow.{pow_mono}
use Rattle.lzk_gf128.specs.Product.{times_x, shift, moved}
use Rattle.lzk_gf128.specs.Linear.{◌⊕◌, Additive, Additive-zero, xor_swap, bit_lt, same_from_powers, shift-additive}

-- a test holds of each number below k
abbrev pub all_below : (ℕ → Bool) → ℕ → Bool
all_below t zero = true
all_below t (suc k) = cond (t k) (all_below t k) false

pub all_below-at : (t : ℕ → Bool) (k j : ℕ) → all_below t k ≡ true → j < k → t j ≡ true
all_below-at t zero j e h = absurd (omega arith)
all_below-at t (suc k) j e h = here (t k) refl e (dec_lt j k) (all_below-at t k j)
  where
    here : (b : Bool) → t k ≡ b → cond b (all_below t k) false ≡ true → Dec (j < k) → (all_below t k ≡ true → j < k → t j ≡ true) → t j ≡ true
    here false d e q ih = absurd (false≢true e)
    here true d e (yes q) ih = ih e q
    here true d e (no q) ih = let same : j ≡ k = omega arith in ap t same ∙ d

abbrev pub agree : (ℕ → ℕ) → (ℕ → ℕ) → ℕ → Bool
agree f g k = all_below (λ j. eqb (f (2 ^ j)) (g (2 ^ j))) k

pub agree_at : (f g : ℕ → ℕ) (k j : ℕ) → agree f g k ≡ true → j < k → f (2 ^ j) ≡ g (2 ^ j)
agree_at f g k j e h = eqb-true _ _ (all_below-at (λ j. eqb (f (2 ^ j)) (g (2 ^ j))) k j e h)

pub same_by_test : (f g : ℕ → ℕ) → Additive f → Additive g → (k : ℕ) → agree f g k ≡ true → (n : ℕ) → n < 2 ^ k → f n ≡ g n
same_by_test f g hf hg k e n h = same_from_powers f g hf hg k (λ j p. agree_at f g k j e p) n h

-- ---- additive maps
pub add_xor : (f g : ℕ → ℕ) → Additive f → Additive g → Additive (λ n. f n ⊕ g n)
add_xor f g hf hg a b = ap (λ w. w ⊕ g (a ⊕ b)) (hf a b) ∙ ap (λ w. (f a ⊕ f b) ⊕ w) (hg a b) ∙ xor_swap (f a) (f b) (g a) (g b)

pub add_shl : (k : ℕ) → Additive (λ n. n * 2 ^ k)
add_shl k a b =
    sym (plain (a ⊕ b)) ∙ sym (xor_block k a b 0 0 (pow_pos k) (pow_pos k)) ∙ ap (λ w. w ⊕ (b * 2 ^ k + 0)) (plain a) ∙ ap (λ w. (a * 2 ^ k) ⊕ w) (plain b)
  where
    plain : (n : ℕ) → n * 2 ^ k + 0 ≡ n * 2 ^ k
    plain n = add-zero (n * 2 ^ k)

pub add_shl_in : (k w : ℕ) → Additive (λ n. n * 2 ^ k % 2 ^ w)
add_shl_in k w a b = ap (λ n. n % 2 ^ w) (add_shl k a b) ∙ xor_mod (a * 2 ^ k) (b * 2 ^ k) w

pub add_shr : (k : ℕ) → Additive (λ n. n / 2 ^ k)
add_shr k a b = xor_shr a b k

pub compose : (f g : ℕ → ℕ) → Additive f → Additive g → Additive (λ n. f (g n))
compose f g hf hg a b = ap f (hg a b) ∙ hf (g a) (g b)

pub and_spreads : (a b m : ℕ) → bit_and (a ⊕ b) m ≡ bit_and a m ⊕ bit_and b m
and_spreads a b m =
    same_from_bits _ _ (λ i.
    bit_at_and (a ⊕ b) m i
    ∙ ap (λ w. min w (bit_at m i)) (bit_at_xor a b i)
    ∙ by_bits (bit_at a i) (bit_at b i) (bit_at m i) (bit_lt _) (bit_lt _) (bit_lt _)
    ∙ ap (λ w. (w + min (bit_at b i) (bit_at m i)) % 2) (sym (bit_at_and a m i))
    ∙ ap (λ w. (bit_at (bit_and a m) i + w) % 2) (sym (bit_at_and b m i))
    ∙ sym (bit_at_xor (bit_and a m) (bit_and b m) i))
  where
    by_bits : (x y z : ℕ) → x < 2 → y < 2 → z < 2 → min ((x + y) % 2) z ≡ (min x z + min y z) % 2
    by_bits x y z hx hy hz = omega arith

-- n times x^128, as the code has it
abbrev pub over_128 : ℕ → ℕ
over_128 n =
    let top = ((n ⊕ (n / 2 ^ 121)) ⊕ (n / 2 ^ 126)) ⊕ (n / 2 ^ 127) in
    ((top ⊕ (top * 2 ^ 1 % 2 ^ 128)) ⊕ (top * 2 ^ 2 % 2 ^ 128)) ⊕ (top * 2 ^ 7 % 2 ^ 128)

over_128-additive : Additive over_128
over_128-additive =
    let h : ℕ → ℕ → ℕ = λ k n. n / 2 ^ k in
    let top : ℕ → ℕ = λ n. ((n ⊕ h 121 n) ⊕ h 126 n) ⊕ h 127 n in
    let ht : Additive top = add_xor (λ n. (n ⊕ h 121 n) ⊕ h 126 n) (h 127) (add_xor (λ n. n ⊕ h 121 n) (h 126) (add_xor (λ n. n) (h 121) (λ a b. refl) (add_shr 121)) (add_shr 126)) (add_shr 127) in
    let t : ℕ → ℕ → ℕ = λ k n. top n * 2 ^ k % 2 ^ 128 in
    let at : (k : ℕ) → Additive (t k) = λ k. compose (λ n. n * 2 ^ k % 2 ^ 128) top (add_shl_in k 128) ht in
    add_xor (λ n. (top n ⊕ t 1 n) ⊕ t 2 n) (t 7) (add_xor (λ n. top n ⊕ t 1 n) (t 2) (add_xor top (t 1) ht (at 1)) (at 2)) (at 7)

pub over_128_is : (n : ℕ) → n < 2 ^ 128 → over_128 n ≡ moved 128 n
unfolding moved
over_128_is n h = same_by_test over_128 (shift 128) over_128-additive (shift-additive 128) 128 refl n h

-- times x^k, in a width w that holds n and no more: the k highest bits go over
up_over : (k w j : ℕ) → agree (shift k) (λ m. (m * 2 ^ k % 2 ^ w) ⊕ shift w (m / 2 ^ j)) w ≡ true → (n : ℕ) → n < 2 ^ w → shift k n ≡ (n * 2 ^ k % 2 ^ w) ⊕ shift w (n / 2 ^ j)
up_over k w j e n h =
    same_by_test (shift k) (λ m. (m * 2 ^ k % 2 ^ w) ⊕ shift w (m / 2 ^ j)) (shift-additive k)
    (add_xor (λ m. m * 2 ^ k % 2 ^ w) (λ m. shift w (m / 2 ^ j)) (add_shl_in k w) (compose (shift w) (λ m. m / 2 ^ j) (shift-additive w) (add_shr j))) w e n h

pub up_64 : (n : ℕ) → n < 2 ^ 128 → moved 64 n ≡ (n * 2 ^ 64 % 2 ^ 128) ⊕ moved 128 (n / 2 ^ 64)
unfolding moved
up_64 n h = up_over 64 128 64 refl n h

up_4 : (n : ℕ) → n < 2 ^ 128 → moved 4 n ≡ (n * 2 ^ 4 % 2 ^ 128) ⊕ moved 128 (n / 2 ^ 124)
unfolding moved
up_4 n h = up_over 4 128 124 refl n h

up_32 : (n : ℕ) → n < 2 ^ 128 → moved 32 n ≡ (n * 2 ^ 32 % 2 ^ 128) ⊕ moved 128 (n / 2 ^ 96)
unfolding moved
up_32 n h = up_over 32 128 96 refl n h

small_4 : (n : ℕ) → n < 2 ^ 124 → moved 4 n ≡ n * 2 ^ 4 % 2 ^ 128
unfolding moved
small_4 n h = same_by_test (shift 4) (λ m. m * 2 ^ 4 % 2 ^ 128) (shift-additive 4) (add_shl_in 4 128) 124 refl n h

small_32 : (n : ℕ) → n < 2 ^ 96 → moved 32 n ≡ n * 2 ^ 32 % 2 ^ 128
unfolding moved
small_32 n h = same_by_test (shift 32) (λ m. m * 2 ^ 32 % 2 ^ 128) (shift-additive 32) (add_shl_in 32 128) 96 refl n h

pub moved-xor : (k a b : ℕ) → moved k (a ⊕ b) ≡ moved k a ⊕ moved k b
unfolding moved
moved-xor k a b = shift-additive k a b

pub moved_zero : (k : ℕ) → moved k 0 ≡ 0
unfolding moved
moved_zero k = Additive-zero (shift k) (shift-additive k)

shift-times_x : (j a : ℕ) → shift j (times_x a) ≡ times_x (shift j a)
shift-times_x zero a = refl
shift-times_x (suc j) a = shift-times_x j (times_x a)

shift-swap : (j k a : ℕ) → shift j (shift k a) ≡ shift k (shift j a)
shift-swap zero k a = refl
shift-swap (suc j) k a = ap (shift j) (sym (shift-times_x k a)) ∙ shift-swap j k (times_x a)

pub moved-swap : (j k a : ℕ) → moved j (moved k a) ≡ moved k (moved j a)
unfolding moved
moved-swap j k a = shift-swap j k a

-- both words of a total are moved up: t is what stays of the low one, o what goes over, and u the high one
up_both : (k low high t o u : ℕ) → moved k low ≡ t ⊕ moved 128 o → moved k high ≡ u → t ⊕ moved 128 (u ⊕ o) ≡ moved k (low ⊕ moved 128 high)
up_both k low high t o u el eh =
    ap (λ w. t ⊕ w) (moved-xor 128 u o ∙ xor_comm (moved 128 u) (moved 128 o))
    ∙ sym (xor_assoc t (moved 128 o) (moved 128 u))
    ∙ ap (λ w. w ⊕ moved 128 u) (sym el)
    ∙ ap (λ w. moved k low ⊕ w) (ap (moved 128) (sym eh) ∙ moved-swap 128 k high)
    ∙ sym (moved-xor k low (moved 128 high))

pub both_4 : (low high : ℕ) → low < 2 ^ 128 → high < 2 ^ 124
    → (low * 2 ^ 4 % 2 ^ 128) ⊕ moved 128 ((high * 2 ^ 4 % 2 ^ 128) ⊕ (low / 2 ^ 124)) ≡ moved 4 (low ⊕ moved 128 high)
both_4 low high hl hh = up_both 4 low high (low * 2 ^ 4 % 2 ^ 128) (low / 2 ^ 124) (high * 2 ^ 4 % 2 ^ 128) (up_4 low hl) (small_4 high hh)

pub both_32 : (low high : ℕ) → low < 2 ^ 128 → high < 2 ^ 96
    → (low * 2 ^ 32 % 2 ^ 128) ⊕ moved 128 ((high * 2 ^ 32 % 2 ^ 128) ⊕ (low / 2 ^ 96)) ≡ moved 32 (low ⊕ moved 128 high)
both_32 low high hl hh = up_both 32 low high (low * 2 ^ 32 % 2 ^ 128) (low / 2 ^ 96) (high * 2 ^ 32 % 2 ^ 128) (up_32 low hl) (small_32 high hh)

-- the high word stays small, one digit on
pub high_more : (low high y k : ℕ) → low < 2 ^ 128 → y < 2 ^ 128 → high < 2 ^ (60 + k) → ((high * 2 ^ 4 % 2 ^ 128) ⊕ (low / 2 ^ 124)) ⊕ (y / 2 ^ 64) < 2 ^ (64 + k)
high_more low high y k hl hy hh =
    let power : 2 ^ (64 + k) ≡ 2 ^ 64 * 2 ^ k = pow-add 2 64 k in
    let before : 2 ^ (60 + k) ≡ 2 ^ 60 * 2 ^ k = pow-add 2 60 k in
    let least : 1 ≤ 2 ^ k = pow_pos k in
    let part : high * 2 ^ 4 % 2 ^ 128 ≤ high * 2 ^ 4 = mod-le (high * 2 ^ 4) (2 ^ 128) in
    xor_lt (64 + k) ((high * 2 ^ 4 % 2 ^ 128) ⊕ (low / 2 ^ 124)) (y / 2 ^ 64) (xor_lt (64 + k) (high * 2 ^ 4 % 2 ^ 128) (low / 2 ^ 124) (omega (arith, power, before, hh, part)) (omega (arith, power, least, hl))) (omega (arith, power, least, hy))

pub high_small : (high k m : ℕ) → high < 2 ^ (60 + k) → 60 + k ≤ m → high < 2 ^ m
high_small high k m h most = omega (arith, h, pow_mono {i = 60 + k} {j = m} most)

-- the bound for the high word, as the next digit asks for it
pub high_bound-digit : (k high : ℕ) → high < 2 ^ (64 + k) → high < 2 ^ (60 + (k + 4))
high_bound-digit k high h = let e : 64 + k ≡ 60 + (k + 4) = omega arith in subst (λ w. high < 2 ^ w) e h

-- and as the next byte does
pub high_bound-byte : (i high : ℕ) → high < 2 ^ (64 + (8 * i + 4)) → high < 2 ^ (60 + 8 * (i + 1))
high_bound-byte i high h = let e : 64 + (8 * i + 4) ≡ 60 + 8 * (i + 1) = omega arith in subst (λ w. high < 2 ^ w) e h

-- The multiples of a polynomial by those below degree 4, and products by the digits of a factor.
use Rattle.std.specs.Prelude.{◌≡◌, ℕ, ◌+◌, ◌*◌, ◌-◌, ◌/◌, ◌%◌, ◌^◌, ◌<◌, List, [], ◌∷◌, slice_index, slice_set, length}
use Rattle.std.proofs.Common.{zero, suc, refl, sym, ap, ◌∙◌, arith}
use Rattle.std.specs.Int.Bits.{xor_assoc, xor_comm, xor_zero_r, xor_shifted}
use native.Mathlib.Decide.{dec_lt}
use Rattle.std.proofs.lemmas.List.{get_or-set_other, length-set}
use Rattle.std.proofs.lemmas.Grind.{get_or-set_at}
use Rattle.std.proofs.Math.Nat.{zero-mul, one-mul, div-one}
use Rattle.std.proofs.lemmas.Nat.{shr-shr, shr_split, mod_below}
use Rattle.lzk_gf128.specs.Bodies.{IsMultiples, numbered, joined}
use Rattle.lzk_gf128.specs.Product.{times_x, times_bits, shift, product, moved}
use Rattle.lzk_gf128.specs.Linear.{◌⊕◌, xor_swap, times_bits-times_x}
use Rattle.lzk_gf128.proofs.Basis.{moved-xor, moved-swap, moved_zero}

-- the multiples, of those by 1, x, x^2 and x^3
abbrev pub sums_of : ℕ → ℕ → ℕ → ℕ → List ℕ
sums_of a b c d =
    let e = b ⊕ c in
    let f = b ⊕ d in
    let g = c ⊕ d in
    let h = e ⊕ d in
    0 ∷ a ∷ b ∷ (a ⊕ b) ∷ c ∷ (a ⊕ c) ∷ e ∷ (a ⊕ e) ∷ d ∷ (a ⊕ d) ∷ f ∷ (a ⊕ f) ∷ g ∷ (a ⊕ g) ∷ h ∷ (a ⊕ h) ∷ []

sum_is : (a b c d i : ℕ) → i < 16 → slice_index (sums_of a b c d) i ≡ (i % 2 * a) ⊕ ((i / 2 % 2 * b) ⊕ ((i / 2 / 2 % 2 * c) ⊕ ((i / 2 / 2 / 2 % 2 * d) ⊕ 0)))
sum_is a b c d zero h = simp (one-mul, zero-mul, xor_zero_r, xor_assoc)
sum_is a b c d (suc zero) h = simp (one-mul, zero-mul, xor_zero_r, xor_assoc)
sum_is a b c d (suc (suc zero)) h = simp (one-mul, zero-mul, xor_zero_r, xor_assoc)
sum_is a b c d (suc (suc (suc zero))) h = simp (one-mul, zero-mul, xor_zero_r, xor_assoc)
sum_is a b c d (suc (suc (suc (suc zero)))) h = simp (one-mul, zero-mul, xor_zero_r, xor_assoc)
sum_is a b c d (suc (suc (suc (suc (suc zero))))) h = simp (one-mul, zero-mul, xor_zero_r, xor_assoc)
sum_is a b c d (suc (suc (suc (suc (suc (suc zero)))))) h = simp (one-mul, zero-mul, xor_zero_r, xor_assoc)
sum_is a b c d (suc (suc (suc (suc (suc (suc (suc zero))))))) h = simp (one-mul, zero-mul, xor_zero_r, xor_assoc)
sum_is a b c d (suc (suc (suc (suc (suc (suc (suc (suc zero)))))))) h = simp (one-mul, zero-mul, xor_zero_r, xor_assoc)
sum_is a b c d (suc (suc (suc (suc (suc (suc (suc (suc (suc zero))))))))) h = simp (one-mul, zero-mul, xor_zero_r, xor_assoc)
sum_is a b c d (suc (suc (suc (suc (suc (suc (suc (suc (suc (suc zero)))))))))) h = simp (one-mul, zero-mul, xor_zero_r, xor_assoc)
sum_is a b c d (suc (suc (suc (suc (suc (suc (suc (suc (suc (suc (suc zero))))))))))) h = simp (one-mul, zero-mul, xor_zero_r, xor_assoc)
sum_is a b c d (suc (suc (suc (suc (suc (suc (suc (suc (suc (suc (suc (suc zero)))))))))))) h = simp (one-mul, zero-mul, xor_zero_r, xor_assoc)
sum_is a b c d (suc (suc (suc (suc (suc (suc (suc (suc (suc (suc (suc (suc (suc zero))))))))))))) h = simp (one-mul, zero-mul, xor_zero_r, xor_assoc)
sum_is a b c d (suc (suc (suc (suc (suc (suc (suc (suc (suc (suc (suc (suc (suc (suc zero)))))))))))))) h = simp (one-mul, zero-mul, xor_zero_r, xor_assoc)
sum_is a b c d (suc (suc (suc (suc (suc (suc (suc (suc (suc (suc (suc (suc (suc (suc (suc zero))))))))))))))) h = simp (one-mul, zero-mul, xor_zero_r, xor_assoc)
sum_is a b c d (suc (suc (suc (suc (suc (suc (suc (suc (suc (suc (suc (suc (suc (suc (suc (suc i)))))))))))))))) h = absurd (omega arith)

pub doubled_is : (a : ℕ) → a < 2 ^ 128 → (a * 2 ^ 1 % 2 ^ 128) ⊕ (a / 2 ^ 127 * 135) ≡ moved 1 a
unfolding moved
doubled_is a h =
    let twice : a * 2 ^ 1 ≡ 2 * a = omega arith in
    let top : a / 2 ^ 127 ≡ a / 2 ^ 127 % 2 = omega arith in
    ap (λ w. (w % 2 ^ 128) ⊕ (a / 2 ^ 127 * 135)) twice ∙ ap (λ w. (2 * a % 2 ^ 128) ⊕ (w * 135)) top

pub multiples_are : (a b c d : ℕ) → b ≡ moved 1 a → c ≡ moved 1 b → d ≡ moved 1 c → IsMultiples a (sums_of a b c d)
unfolding product moved
multiples_are a b c d eb ec ed i h =
    let bits : ℕ → ℕ → ℕ → ℕ = λ b c d. (i % 2 * a) ⊕ ((i / 2 % 2 * b) ⊕ ((i / 2 / 2 % 2 * c) ⊕ ((i / 2 / 2 / 2 % 2 * d) ⊕ 0))) in
    let third : c ≡ times_x (times_x a) = ec ∙ ap times_x eb in
    sum_is a b c d i h ∙ ap (λ w. bits w c d) eb ∙ ap (λ w. bits (times_x a) w d) third ∙ ap (bits (times_x a) (times_x (times_x a))) (ed ∙ ap times_x third)

-- the j low bits of a factor and the rest
pub times_bits-split : (j k a q r : ℕ) → r < 2 ^ j → times_bits (j + k) a (q * 2 ^ j + r) ≡ times_bits j a r ⊕ shift j (times_bits k a q)
times_bits-split zero k a q r h =
    let e : q * 2 ^ 0 + r ≡ q = omega arith in
    let n : 0 + k ≡ k = omega arith in
    ap (λ w. times_bits w a (q * 2 ^ 0 + r)) n ∙ ap (times_bits k a) e
times_bits-split (suc j) k a q r h =
    let n : suc j + k ≡ suc (j + k) = omega arith in
    let twice : 2 ^ suc j ≡ 2 * 2 ^ j = omega arith in
    let whole : q * 2 ^ suc j + r ≡ 2 * (q * 2 ^ j) + r = ap (λ w. q * w + r) twice ∙ shuffle q (2 ^ j) r in
    let low : (2 * (q * 2 ^ j) + r) % 2 ≡ r % 2 = omega arith in
    let high : (2 * (q * 2 ^ j) + r) / 2 ≡ q * 2 ^ j + r / 2 = omega arith in
    ap (λ w. times_bits w a (q * 2 ^ suc j + r)) n
    ∙ ap (times_bits (suc (j + k)) a) whole
    ∙ ap (λ w. (w * a) ⊕ times_bits (j + k) (times_x a) ((2 * (q * 2 ^ j) + r) / 2)) low
    ∙ ap (λ w. (r % 2 * a) ⊕ times_bits (j + k) (times_x a) w) high
    ∙ ap (λ w. (r % 2 * a) ⊕ w) (times_bits-split j k (times_x a) q (r / 2) (omega arith) ∙ ap (λ w. times_bits j (times_x a) (r / 2) ⊕ shift j w) (times_bits-times_x k a q))
    ∙ sym (xor_assoc (r % 2 * a) (times_bits j (times_x a) (r / 2)) (shift j (times_x (times_bits k a q))))
  where
    shuffle : (q n r : ℕ) → q * (2 * n) + r ≡ 2 * (q * n) + r
    shuffle q n r = omega arith

-- a further part of a factor
pub product-split : (j k a q r : ℕ) → r < 2 ^ j → product (j + k) a (q * 2 ^ j + r) ≡ product j a r ⊕ moved j (product k a q)
unfolding product moved
product-split j k a q r h = times_bits-split j k a q r h

pub product-none : (a b : ℕ) → product 0 a b ≡ 0
unfolding product
product-none a b = refl

-- a factor of 128 bits by its halves
pub product-halves : (a b : ℕ) → product 64 a (b % 2 ^ 64) ⊕ moved 64 (product 64 a (b / 2 ^ 64)) ≡ product 128 a b
product-halves a b = sym (product-split 64 64 a (b / 2 ^ 64) (b % 2 ^ 64) (mod_below b (2 ^ 64) (omega arith))) ∙ ap (product 128 a) (shr_split b 64)

-- ---- the loop over the digits of a factor

-- the products with two words, the second 64 places up
abbrev pub both : ℕ → ℕ → ℕ → ℕ → ℕ
both k a x y = product k a x ⊕ moved 64 (product k a y)

-- the n highest digits of the 32 bits of a word from the place s on
abbrev pub front : ℕ → ℕ → ℕ → ℕ
front s n w = w / 2 ^ s % 2 ^ 32 / 2 ^ (32 - 4 * n)

front-more : (w n : ℕ) → n < 8 → w % 2 ^ 32 / 2 ^ (32 - 4 * (n + 1)) ≡ w % 2 ^ 32 / 2 ^ (32 - 4 * n) * 2 ^ 4 + w / 2 ^ (28 - 4 * n) % 16
front-more w zero h = omega arith
front-more w (suc zero) h = omega arith
front-more w (suc (suc zero)) h = omega arith
front-more w (suc (suc (suc zero))) h = omega arith
front-more w (suc (suc (suc (suc zero)))) h = omega arith
front-more w (suc (suc (suc (suc (suc zero))))) h = omega arith
front-more w (suc (suc (suc (suc (suc (suc zero)))))) h = omega arith
front-more w (suc (suc (suc (suc (suc (suc (suc zero))))))) h = omega arith
front-more w (suc (suc (suc (suc (suc (suc (suc (suc n)))))))) h = absurd (omega arith)

front-digit : (s n b : ℕ) → n < 8 → front s (n + 1) b ≡ front s n b * 2 ^ 4 + b / 2 ^ (s + (28 - 4 * n)) % 16
front-digit s n b h = front-more (b / 2 ^ s) n h ∙ ap (λ w. front s n b * 2 ^ 4 + w % 16) (shr-shr b s (28 - 4 * n))

pub both-starts : (a x y s : ℕ) → 0 ⊕ moved 128 0 ≡ both 0 a (front s 0 x) (front s 0 y)
both-starts a x y s =
    ap (λ w. 0 ⊕ w) (moved_zero 128)
    ∙ sym (ap (λ w. w ⊕ moved 64 (product 0 a (front s 0 y))) (product-none a (front s 0 x)) ∙ ap (λ w. 0 ⊕ moved 64 w) (product-none a (front s 0 y)) ∙ ap (λ w. 0 ⊕ w) (moved_zero 64))

product-digit : (k a q d : ℕ) → d < 16 → product (k + 4) a (q * 2 ^ 4 + d) ≡ moved 4 (product k a q) ⊕ product 4 a d
product-digit k a q d h =
    let n : k + 4 ≡ 4 + k = omega arith in
    ap (λ w. product w a (q * 2 ^ 4 + d)) n ∙ product-split 4 k a q d h ∙ xor_comm (product 4 a d) (moved 4 (product k a q))

-- one more digit of two words
pub both-digit : (n a x y s d e u v before after : ℕ) → n < 8
    → d ≡ x / 2 ^ (s + (28 - 4 * n)) % 16 → e ≡ y / 2 ^ (s + (28 - 4 * n)) % 16
    → u ≡ product 4 a d → v ≡ product 4 a e
    → before ≡ both (4 * n) a (front s n x) (front s n y) → after ≡ moved 4 before ⊕ (u ⊕ moved 64 v)
    → after ≡ both (4 * (n + 1)) a (front s (n + 1) x) (front s (n + 1) y)
both-digit n a x y s d e u v before after h ed ee eu ev eb ea =
    let k = 4 * n in
    let p = product k a (front s n x) in
    let q = product k a (front s n y) in
    let four : 4 * (n + 1) ≡ k + 4 = omega arith in
    let grown : (w d : ℕ) → d ≡ w / 2 ^ (s + (28 - 4 * n)) % 16 → product (4 * (n + 1)) a (front s (n + 1) w) ≡ moved 4 (product k a (front s n w)) ⊕ product 4 a d =
    λ w d e. ap (λ j. product j a (front s (n + 1) w)) four ∙ ap (product (k + 4) a) (front-digit s n w h ∙ ap (λ r. front s n w * 2 ^ 4 + r) (sym e)) ∙ product-digit k a (front s n w) d (omega (arith, e)) in
    ea
    ∙ ap (λ w. moved 4 w ⊕ (u ⊕ moved 64 v)) eb
    ∙ ap (λ w. w ⊕ (u ⊕ moved 64 v)) (moved-xor 4 p (moved 64 q) ∙ ap (λ w. moved 4 p ⊕ w) (moved-swap 4 64 q))
    ∙ xor_swap (moved 4 p) (moved 64 (moved 4 q)) u (moved 64 v)
    ∙ ap (λ w. (moved 4 p ⊕ u) ⊕ w) (sym (moved-xor 64 (moved 4 q) v))
    ∙ ap (λ w. (moved 4 p ⊕ w) ⊕ moved 64 (moved 4 q ⊕ v)) eu
    ∙ ap (λ w. (moved 4 p ⊕ product 4 a d) ⊕ moved 64 (moved 4 q ⊕ w)) ev
    ∙ ap (λ w. w ⊕ moved 64 (moved 4 q ⊕ product 4 a e)) (sym (grown x d ed))
    ∙ ap (λ w. product (4 * (n + 1)) a (front s (n + 1) x) ⊕ moved 64 w) (sym (grown y e ee))

-- one more byte of two words, by the lists of their upper and their lower digits
pub both-byte : (i k a x y s : ℕ) (low high xs ys us vs : List ℕ) (start middle end : ℕ) → i < 4 → k < 8 → s + 24 ≡ 8 * (k + i)
    → ((j : ℕ) → j < 16 → numbered low high j ≡ product 4 a j)
    → ((j : ℕ) → j < 8 → slice_index xs j ≡ x / 16 / 2 ^ (8 * j) % 16)
    → ((j : ℕ) → j < 8 → slice_index ys j ≡ y / 16 / 2 ^ (8 * j) % 16)
    → ((j : ℕ) → j < 8 → slice_index us j ≡ x / 2 ^ (8 * j) % 16)
    → ((j : ℕ) → j < 8 → slice_index vs j ≡ y / 2 ^ (8 * j) % 16)
    → start ≡ both (4 * (2 * i)) a (front s (2 * i) x) (front s (2 * i) y)
    → middle ≡ moved 4 start ⊕ (numbered low high (slice_index xs k) ⊕ moved 64 (numbered low high (slice_index ys k)))
    → end ≡ moved 4 middle ⊕ (numbered low high (slice_index us k) ⊕ moved 64 (numbered low high (slice_index vs k)))
    → end ≡ both (4 * (2 * (i + 1))) a (front s (2 * (i + 1)) x) (front s (2 * (i + 1)) y)
both-byte i k a x y s low high xs ys us vs start middle end hi hk es multiples ex ey eu ev e0 e1 e2 =
    let n = 2 * i in
    let next : n + 1 + 1 ≡ 2 * (i + 1) = omega arith in
    let upper : 4 + 8 * k ≡ s + (28 - 4 * n) = omega arith in
    let lower : 8 * k ≡ s + (28 - 4 * (n + 1)) = omega arith in
    let odd : (w : ℕ) → w / 16 / 2 ^ (8 * k) % 16 ≡ w / 2 ^ (s + (28 - 4 * n)) % 16 = λ w. ap (λ r. r % 16) (shr-shr w 4 (8 * k)) ∙ ap (λ m. w / 2 ^ m % 16) upper in
    let even : (w : ℕ) → w / 2 ^ (8 * k) % 16 ≡ w / 2 ^ (s + (28 - 4 * (n + 1))) % 16 = λ w. ap (λ m. w / 2 ^ m % 16) lower in
    let multiple : (d r : ℕ) → d ≡ r % 16 → numbered low high d ≡ product 4 a d = λ d r e. multiples d (omega (arith, e)) in
    let half : middle ≡ both (4 * (n + 1)) a (front s (n + 1) x) (front s (n + 1) y) =
    both-digit n a x y s (slice_index xs k) (slice_index ys k) _ _ start middle (omega arith) (ex k hk ∙ odd x) (ey k hk ∙ odd y) (multiple _ _ (ex k hk)) (multiple _ _ (ey k hk)) e0 e1 in
    both-digit (n + 1) a x y s (slice_index us k) (slice_index vs k) _ _ middle end (omega arith) (eu k hk ∙ even x) (ev k hk ∙ even y) (multiple _ _ (eu k hk)) (multiple _ _ (ev k hk)) half e2
    ∙ ap (λ w. both (4 * w) a (front s w x) (front s w y)) next

product-words : (a w : ℕ) → w < 2 ^ 64 → product 32 a (w / 2 ^ 0 % 2 ^ 32) ⊕ moved 32 (product 32 a (w / 2 ^ 32 % 2 ^ 32)) ≡ product 64 a w
product-words a w h =
    let lower : w / 2 ^ 0 % 2 ^ 32 ≡ w % 2 ^ 32 = omega arith in
    let upper : w / 2 ^ 32 % 2 ^ 32 ≡ w / 2 ^ 32 = omega arith in
    ap (λ r. product 32 a r ⊕ moved 32 (product 32 a (w / 2 ^ 32 % 2 ^ 32))) lower
    ∙ ap (λ r. product 32 a (w % 2 ^ 32) ⊕ moved 32 (product 32 a r)) upper
    ∙ sym (product-split 32 32 a (w / 2 ^ 32) (w % 2 ^ 32) (mod_below w (2 ^ 32) (omega arith)))
    ∙ ap (product 64 a) (shr_split w 32)

-- the halves of both words
pub both-halves : (a b n below above : ℕ) → b < 2 ^ 128 → n ≡ 8
    → below ≡ both (4 * n) a (front 0 n (b % 2 ^ 64)) (front 0 n (b / 2 ^ 64))
    → above ≡ both (4 * n) a (front 32 n (b % 2 ^ 64)) (front 32 n (b / 2 ^ 64))
    → below ⊕ moved 32 above ≡ product 128 a b
both-halves a b n below above hb e el eu =
    let m : ℕ → ℕ = λ n. moved 64 n in
    let x = b % 2 ^ 64 in
    let y = b / 2 ^ 64 in
    let p : ℕ → ℕ → ℕ = λ s w. product 32 a (w / 2 ^ s % 2 ^ 32) in
    let whole : (s : ℕ) → both (4 * n) a (front s n x) (front s n y) ≡ p s x ⊕ m (p s y) =
    λ s.
    ap (λ k. both (4 * k) a (front s k x) (front s k y)) e
    ∙ ap (λ w. product 32 a w ⊕ m (product 32 a (y / 2 ^ s % 2 ^ 32 / 2 ^ 0))) (div-one (x / 2 ^ s % 2 ^ 32))
    ∙ ap (λ w. p s x ⊕ m (product 32 a w)) (div-one (y / 2 ^ s % 2 ^ 32)) in
    ap (λ w. w ⊕ moved 32 above) (el ∙ whole 0)
    ∙ ap (λ w. (p 0 x ⊕ m (p 0 y)) ⊕ w) (ap (moved 32) (eu ∙ whole 32) ∙ moved-xor 32 (p 32 x) (m (p 32 y)) ∙ ap (λ w. moved 32 (p 32 x) ⊕ w) (moved-swap 32 64 (p 32 y)))
    ∙ xor_swap (p 0 x) (m (p 0 y)) (moved 32 (p 32 x)) (m (moved 32 (p 32 y)))
    ∙ ap (λ w. (p 0 x ⊕ moved 32 (p 32 x)) ⊕ w) (sym (moved-xor 64 (p 0 y) (moved 32 (p 32 y))))
    ∙ ap (λ w. w ⊕ m (p 0 y ⊕ moved 32 (p 32 y))) (product-words a x (mod_below b (2 ^ 64) (omega arith)))
    ∙ ap (λ w. product 64 a x ⊕ m w) (product-words a y (omega arith))
    ∙ product-halves a b

-- ---- the words of numbers, in lists

-- the first i of 16 numbers are in their words
abbrev pub InWords : List ℕ → ℕ → List ℕ → List ℕ → Type 0
InWords xs i low high = record { lows : length low ≡ 16; highs : length high ≡ 16; words : (j : ℕ) → j < i → numbered low high j ≡ slice_index xs j }

words-back : (x : ℕ) → x < 2 ^ 128 → joined (x / 2 ^ 64) (x % 2 ^ 64) ≡ x
words-back x h =
    let room : x / 2 ^ 64 * 2 ^ 64 % 2 ^ 128 ≡ x / 2 ^ 64 * 2 ^ 64 = omega arith in
    ap (λ w. w ⊕ (x % 2 ^ 64)) room ∙ xor_shifted (x / 2 ^ 64) 64 (x % 2 ^ 64) (mod_below x (2 ^ 64) (omega arith)) ∙ shr_split x 64

pub words-more : (xs low high : List ℕ) (i x : ℕ) → i < 16 → x ≡ slice_index xs i → x < 2 ^ 128 → InWords xs i low high → InWords xs (i + 1) (slice_set low i (x % 2 ^ 64)) (slice_set high i (x / 2 ^ 64))
words-more xs low high i x h e hx before = record {
  lows = length-set low i (x % 2 ^ 64) ∙ before.lows;
  highs = length-set high i (x / 2 ^ 64) ∙ before.highs;
  words = λ j hj. at j hj (dec_lt j i);
}
  where
    at : (j : ℕ) → j < i + 1 → Dec (j < i) → numbered (slice_set low i (x % 2 ^ 64)) (slice_set high i (x / 2 ^ 64)) j ≡ slice_index xs j
    at j hj (yes below) =
        ap (λ w. joined w (slice_index (slice_set low i (x % 2 ^ 64)) j)) (get_or-set_other high i j (x / 2 ^ 64) 0 (omega (arith, below)))
        ∙ ap (joined (slice_index high j)) (get_or-set_other low i j (x % 2 ^ 64) 0 (omega (arith, below)))
        ∙ before.words j below
    at j hj (no other) =
        let same : j ≡ i = omega (arith, hj, other) in
        ap (λ w. joined w (slice_index (slice_set low i (x % 2 ^ 64)) j)) (get_or-set_at high i j (x / 2 ^ 64) 0 same (omega (arith, h, before.highs)))
        ∙ ap (joined (x / 2 ^ 64)) (get_or-set_at low i j (x % 2 ^ 64) 0 same (omega (arith, h, before.lows)))
        ∙ words-back x hx
        ∙ e
        ∙ ap (slice_index xs) (sym same)

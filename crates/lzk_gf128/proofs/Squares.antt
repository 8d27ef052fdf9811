-- Squares are had by moving each bit i to 2 * i, and repeated squares give a power 2^k - 1 from two such.
use Rattle.std.specs.Prelude.{◌≡◌, ℕ, ◌+◌, ◌*◌, ◌/◌, ◌%◌, ◌^◌, ◌<◌, bit_and, true}
use Rattle.std.proofs.Common.{zero, suc, refl, sym, ap, ◌∙◌, arith}
use Rattle.std.specs.Int.Bits.{xor_shr, xor_mod}
use Rattle.lzk_gf128.specs.Bodies.{at_even, spread, beside, joined, squared}
use Rattle.lzk_gf128.specs.Product.{product, times_bits}
use Rattle.lzk_gf128.specs.Linear.{◌⊕◌, Additive, xor_swap, low_bit_xor, times_bits_lt, times_comm, times_assoc, one_times}
use Rattle.lzk_gf128.proofs.Basis.{agree, agree_at, and_spreads, same_by_test, compose, add_xor, add_shl, add_shl_in, add_shr}
use Rattle.lzk_gf128.specs.Inverse.{square, squares, same_below, square-additive, square-times, squares_lt, most, most_lt, power_most}

add_beside : (by mask : ℕ) → Additive (λ n. beside n by mask)
add_beside by mask a b =
    ap (λ w. bit_and w mask) (add_xor (λ n. n) (λ n. n * 2 ^ by % 2 ^ 64) (λ c d. refl) (add_shl_in by 64) a b)
    ∙ and_spreads (a ⊕ (a * 2 ^ by % 2 ^ 64)) (b ⊕ (b * 2 ^ by % 2 ^ 64)) mask

-- a half as the code spreads it
abbrev pub spread_out : ℕ → ℕ
spread_out n = beside (beside (beside (beside (beside n 16 281470681808895) 8 71777214294589695) 4 1085102592571150095) 2 3689348814741910323) 1 6148914691236517205

spread_out-additive : Additive spread_out
spread_out-additive =
    let f16 : ℕ → ℕ = λ n. beside n 16 281470681808895 in
    let f8 : ℕ → ℕ = λ n. beside n 8 71777214294589695 in
    let f4 : ℕ → ℕ = λ n. beside n 4 1085102592571150095 in
    let f2 : ℕ → ℕ = λ n. beside n 2 3689348814741910323 in
    let f1 : ℕ → ℕ = λ n. beside n 1 6148914691236517205 in
    compose f1 (λ n. f2 (f4 (f8 (f16 n)))) (add_beside 1 6148914691236517205) (compose f2 (λ n. f4 (f8 (f16 n))) (add_beside 2 3689348814741910323) (compose f4 (λ n. f8 (f16 n)) (add_beside 4 1085102592571150095) (compose f8 f16 (add_beside 8 71777214294589695) (add_beside 16 281470681808895))))

at_even-additive : (k : ℕ) → Additive (at_even k)
at_even-additive zero a b = refl
at_even-additive (suc k) a b =
    ap (λ w. w ⊕ (4 * at_even k ((a ⊕ b) / 2))) (low_bit_xor a b)
    ∙ ap (λ w. ((a % 2) ⊕ (b % 2)) ⊕ w) (ap (λ w. 4 * at_even k w) (xor_shr a b 1) ∙ ap (λ w. 4 * w) (at_even-additive k (a / 2) (b / 2)) ∙ times_4 (at_even k (a / 2)) (at_even k (b / 2)))
    ∙ xor_swap (a % 2) (b % 2) (4 * at_even k (a / 2)) (4 * at_even k (b / 2))
  where
    up : (n : ℕ) → 4 * n ≡ n * 2 ^ 2
    up n = omega arith

    times_4 : (c d : ℕ) → 4 * (c ⊕ d) ≡ (4 * c) ⊕ (4 * d)
    times_4 c d = up (c ⊕ d) ∙ add_shl 2 c d ∙ ap (λ w. w ⊕ (d * 2 ^ 2)) (sym (up c)) ∙ ap (λ w. (4 * c) ⊕ w) (sym (up d))

pub spread_is : (n : ℕ) → n < 2 ^ 32 → spread_out n ≡ spread n
unfolding spread
spread_is n h = same_by_test spread_out (at_even 32) spread_out-additive (at_even-additive 32) 32 refl n h

-- low + high * x^128, where high has no bit 127, reduced as the code has it
abbrev pub folded : ℕ → ℕ → ℕ
folded low high =
    let top = high ⊕ ((high / 2 ^ 121) ⊕ (high / 2 ^ 126)) in
    (((low ⊕ top) ⊕ (top * 2 ^ 1 % 2 ^ 128)) ⊕ (top * 2 ^ 2 % 2 ^ 128)) ⊕ (top * 2 ^ 7 % 2 ^ 128)

abbrev pub quick_square : ℕ → ℕ
quick_square n = folded (joined (spread (n / 2 ^ 32 % 2 ^ 32)) (spread (n % 2 ^ 32))) (joined (spread (n / 2 ^ 96)) (spread (n / 2 ^ 64 % 2 ^ 32)))

spread-additive : Additive spread
unfolding spread
spread-additive = at_even-additive 32

add_part : (k : ℕ) → Additive (λ n. spread (n / 2 ^ k % 2 ^ 32))
add_part k = compose spread (λ n. n / 2 ^ k % 2 ^ 32) spread-additive (compose (λ n. n % 2 ^ 32) (λ n. n / 2 ^ k) (λ a b. xor_mod a b 32) (add_shr k))

add_joined : (f g : ℕ → ℕ) → Additive f → Additive g → Additive (λ n. joined (f n) (g n))
add_joined f g hf hg = add_xor (λ n. f n * 2 ^ 64 % 2 ^ 128) g (compose (λ n. n * 2 ^ 64 % 2 ^ 128) f (add_shl_in 64 128) hf) hg

add_folded : (f g : ℕ → ℕ) → Additive f → Additive g → Additive (λ n. folded (f n) (g n))
add_folded f g hf hg =
    let top : ℕ → ℕ = λ n. g n ⊕ ((g n / 2 ^ 121) ⊕ (g n / 2 ^ 126)) in
    let ht : Additive top = add_xor g (λ n. (g n / 2 ^ 121) ⊕ (g n / 2 ^ 126)) hg (add_xor (λ n. g n / 2 ^ 121) (λ n. g n / 2 ^ 126) (compose (λ n. n / 2 ^ 121) g (add_shr 121) hg) (compose (λ n. n / 2 ^ 126) g (add_shr 126) hg)) in
    let t : ℕ → ℕ → ℕ = λ k n. top n * 2 ^ k % 2 ^ 128 in
    let at : (k : ℕ) → Additive (t k) = λ k. compose (λ n. n * 2 ^ k % 2 ^ 128) top (add_shl_in k 128) ht in
    add_xor (λ n. ((f n ⊕ top n) ⊕ t 1 n) ⊕ t 2 n) (t 7) (add_xor (λ n. (f n ⊕ top n) ⊕ t 1 n) (t 2) (add_xor (λ n. f n ⊕ top n) (t 1) (add_xor f top hf ht) (at 1)) (at 2)) (at 7)

quick_square-additive : Additive quick_square
quick_square-additive =
    add_folded (λ n. joined (spread (n / 2 ^ 32 % 2 ^ 32)) (spread (n % 2 ^ 32))) (λ n. joined (spread (n / 2 ^ 96)) (spread (n / 2 ^ 64 % 2 ^ 32)))
    (add_joined (λ n. spread (n / 2 ^ 32 % 2 ^ 32)) (λ n. spread (n % 2 ^ 32)) (add_part 32) (compose spread (λ n. n % 2 ^ 32) spread-additive (λ a b. xor_mod a b 32)))
    (add_joined (λ n. spread (n / 2 ^ 96)) (λ n. spread (n / 2 ^ 64 % 2 ^ 32)) (compose spread (λ n. n / 2 ^ 96) spread-additive (add_shr 96)) (add_part 64))

quick_agrees : agree quick_square square 128 ≡ true
unfolding spread
quick_agrees = refl

pub quick_square_is : (n : ℕ) → n < 2 ^ 128 → quick_square n ≡ product 128 n n
unfolding product
quick_square_is n h = same_below quick_square square (λ a b ha hb. quick_square-additive a b) square-additive 128 (omega arith) (λ j p. agree_at quick_square square 128 j quick_agrees p) n h

-- ---- a ^ (2 ^ (m + n) - 1)

pub squared-zero : (a : ℕ) → squared 0 a ≡ a
unfolding squared
squared-zero a = refl

pub squared-more : (n a : ℕ) → product 128 (squared n a) (squared n a) ≡ squared (n + 1) a
unfolding squared product
squared-more n a = let e : n + 1 ≡ suc n = omega arith in rw e refl

most-sum : (a m n : ℕ) → a < 2 ^ 128 → times_bits 128 (squares n (most a m)) (most a n) ≡ most a (n + m)
most-sum a m zero h = times_comm (most a m) 1 (most_lt a m) (omega arith) ∙ one_times (most a m) (most_lt a m) ∙ ap (most a) (omega arith)
most-sum a m (suc n) h =
    let s = squares n (most a m) in
    let s_lt : s < 2 ^ 128 = squares_lt n (most a m) (most_lt a m) in
    let more : suc n + m ≡ suc (n + m) = omega arith in
    sym (times_assoc (square s) (square (most a n)) a (times_bits_lt 128 s s s_lt) (times_bits_lt 128 (most a n) (most a n) (most_lt a n)) h)
    ∙ ap (λ w. times_bits 128 w a) (sym (square-times s (most a n) s_lt (most_lt a n)) ∙ ap square (most-sum a m n h))
    ∙ ap (most a) (sym more)

pub power_sum : (a m n u v r : ℕ) → a < 2 ^ 128 → r ≡ product 128 (squared n u) v → u ≡ power_most a m → v ≡ power_most a n → r ≡ power_most a (n + m)
unfolding product squared power_most
power_sum a m n u v r h e hu hv = e ∙ ap (λ w. times_bits 128 (squares n w) v) hu ∙ ap (λ w. times_bits 128 (squares n (most a m)) w) hv ∙ most-sum a m n h

pub power_one : (a : ℕ) → a < 2 ^ 128 → a ≡ power_most a 1
unfolding power_most
power_one a h = sym (ap (λ w. times_bits 128 w a) (one_times 1 (omega arith)) ∙ one_times a h)

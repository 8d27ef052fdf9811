-- Bytes as elements of GF(2^8), and the S-box (FIPS 197, sections 4.1, 4.2 and 5.1.1). A byte is a number below 256.
use Rattle.std.specs.Prelude.{ℕ, zero, suc, ◌+◌, ◌*◌, ◌/◌, ◌%◌, ◌^◌, cond, nat_eq, bit_xor}

-- a byte as a polynomial, times x, modulo x^8 + x^4 + x^3 + x + 1
abbrev pub times_x : ℕ → ℕ
times_x a = bit_xor (2 * a % 256) (a / 128 * 0x1b)

-- a times the polynomial of b's lowest n bits
unfoldable pub times_bits : ℕ → ℕ → ℕ → ℕ
times_bits zero a b = 0
times_bits (suc n) a b = bit_xor (b % 2 * a) (times_bits n (times_x a) (b / 2))

-- the product in GF(2^8)
abbrev pub times : ℕ → ℕ → ℕ
times a b = times_bits 8 a b

-- the first of the n numbers from y on whose product with a is 1, and 0 where there is none
unfoldable pub inverse_from : ℕ → ℕ → ℕ → ℕ
inverse_from zero a y = 0
inverse_from (suc n) a y = cond (nat_eq (times a y) 1) y (inverse_from n a (y + 1))

-- the inverse in GF(2^8), with 0 for 0
abbrev pub inverse : ℕ → ℕ
inverse a = inverse_from 256 a 0

-- bit i of a byte, i modulo 8
abbrev pub bit_of : ℕ → ℕ → ℕ
bit_of b i = b / 2 ^ (i % 8) % 2

-- bit i of the affine map
abbrev pub affine_bit : ℕ → ℕ → ℕ
affine_bit b i =
    (bit_of b i + bit_of b (i + 4) + bit_of b (i + 5) + bit_of b (i + 6) + bit_of b (i + 7) + bit_of 0x63 i) % 2

-- the affine map over GF(2)
abbrev pub affine : ℕ → ℕ
affine b =
    affine_bit b 0 + affine_bit b 1 * 2 + affine_bit b 2 * 4 + affine_bit b 3 * 8
    + affine_bit b 4 * 16 + affine_bit b 5 * 32 + affine_bit b 6 * 64 + affine_bit b 7 * 128

-- the S-box
unfoldable pub sbox : ℕ → ℕ
sbox a = affine (inverse a)

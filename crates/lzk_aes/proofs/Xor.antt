-- The exclusive or of words is that of their bytes.
use Rattle.std.proofs.Common.{◌≡◌, ℕ, ◌/◌, ◌%◌, ◌^◌, bit_xor, ap, ◌∙◌}
use Rattle.std.proofs.lemmas.Nat.{xor_mod, xor_shr}
use Rattle.lzk_aes.specs.Aes.{xor_bytes}
use Rattle.lzk_aes.specs.Words.{word_bytes}

byte_of-xor : (k a b : ℕ) → bit_xor a b / 2 ^ k % 2 ^ 8 ≡ bit_xor (a / 2 ^ k % 2 ^ 8) (b / 2 ^ k % 2 ^ 8)
byte_of-xor k a b = ap (λ n. n % 2 ^ 8) (xor_shr a b k) ∙ xor_mod (a / 2 ^ k) (b / 2 ^ k) 8

pub word_bytes-xor : (a b : ℕ) → word_bytes (bit_xor a b) ≡ xor_bytes (word_bytes a) (word_bytes b)
word_bytes-xor a b = rw (xor_mod a b 8, byte_of-xor 8 a b, byte_of-xor 16 a b, byte_of-xor 24 a b)

-- The definitions at values of FIPS 197.
use Rattle.std.proofs.Common.{◌≡◌, [], ◌∷◌, refl}
use Rattle.lzk_aes.specs.Bytes.{times_bits, inverse_from, sbox, times}
use Rattle.lzk_aes.specs.Aes.{shift_rows, mix_columns, key_mask, next_key_word, key_words, after_round, aes}

-- the product of section 4.2
times_vector : times 0x57 0x83 ≡ 0xc1
unfolding times_bits
times_vector = refl

sbox_zero : sbox 0 ≡ 0x63
unfolding sbox inverse_from times_bits
sbox_zero = refl

sbox_53 : sbox 0x53 ≡ 0xed
unfolding sbox inverse_from times_bits
sbox_53 = refl

-- appendix C.3
block_vector : aes (0 ∷ 1 ∷ 2 ∷ 3 ∷ 4 ∷ 5 ∷ 6 ∷ 7 ∷ 8 ∷ 9 ∷ 10 ∷ 11 ∷ 12 ∷ 13 ∷ 14 ∷ 15 ∷ 16 ∷ 17 ∷ 18 ∷ 19 ∷ 20 ∷ 21 ∷ 22 ∷ 23 ∷ 24 ∷ 25 ∷ 26 ∷ 27 ∷ 28 ∷ 29 ∷ 30 ∷ 31 ∷ [])
    (0x00 ∷ 0x11 ∷ 0x22 ∷ 0x33 ∷ 0x44 ∷ 0x55 ∷ 0x66 ∷ 0x77 ∷ 0x88 ∷ 0x99 ∷ 0xaa ∷ 0xbb ∷ 0xcc ∷ 0xdd ∷ 0xee ∷ 0xff ∷ [])
    ≡ 0x8e ∷ 0xa2 ∷ 0xb7 ∷ 0xca ∷ 0x51 ∷ 0x67 ∷ 0x45 ∷ 0xbf ∷ 0xea ∷ 0xfc ∷ 0x49 ∷ 0x90 ∷ 0x4b ∷ 0x49 ∷ 0x60 ∷ 0x89 ∷ []
unfolding times_bits inverse_from sbox shift_rows mix_columns key_mask next_key_word key_words after_round aes
block_vector = refl

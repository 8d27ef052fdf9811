-- One key word more, and the key that the words begin with.
use Rattle.std.proofs.Common.{◌≡◌, ℕ, ◌+◌, ◌<◌, List, [], ◌∷◌, ◌++◌, length, take, drop, map, ap, sym, ◌∙◌, arith}
use Rattle.std.specs.Prelude.{slice_set}
use Rattle.std.specs.List.{concat}
use Rattle.std.proofs.Math.Numerals.{add-one}
use Rattle.std.proofs.lemmas.List.{take_more_set, map-append, take-append-drop, drop-drop, drop_all}
use Rattle.lzk_aes.specs.Aes.{key_words, next_key_word}
use Rattle.lzk_aes.specs.Words.{word_bytes, key_of}

pub key_words-more : (key ws : List ℕ) (i v : ℕ) → i < length ws
    → map word_bytes (take i ws) ≡ key_words key i
    → word_bytes v ≡ next_key_word key (map word_bytes (take i ws)) i
    → map word_bytes (take (i + 1) (slice_set ws i v)) ≡ key_words key (i + 1)
unfolding key_words
key_words-more key ws i v lt so_far is =
    ap (map word_bytes) (take_more_set ws i v lt) ∙ rw (add-one i, ← so_far, ← is) (map-append word_bytes (take i ws) (v ∷ []))

four_more : (key rest : List ℕ) (i : ℕ) → rest ≡ drop (i + 4) key → take 4 (drop i key) ++ rest ≡ drop i key
four_more key rest i e = rw (e, ← drop-drop 4 i key) (take-append-drop 4 (drop i key))

first_words : (key : List ℕ) → length key ≡ 32 → concat (key_words key 8) ≡ key
unfolding key_words next_key_word
first_words key h =
    four_more key _ 0 (four_more key _ 4 (four_more key _ 8 (four_more key _ 12
    (four_more key _ 16 (four_more key _ 20 (four_more key _ 24 (four_more key _ 28 (sym (drop_all 32 key (omega arith))))))))))

pub key_of-is : (key ws : List ℕ) → length key ≡ 32 → map word_bytes (take 8 ws) ≡ key_words key 8 → key_of ws ≡ key
key_of-is key ws h e = ap concat e ∙ first_words key h

-- A session has at most 64 bytes.
use Rattle.std.proofs.Common.{◌≡◌, ℕ, ◌*◌, ◌≤◌, true, ◌&&◌, List, length, Some, Result, Ok, Err, refl, arith}
use Rattle.std.specs.Prelude.{◌%◌, ◌==◌, nat_le}
use Rattle.std.proofs.lemmas.Bool.{leb-true, and_parts}
use Rattle.hex.specs.declared.error.FromHexError.{FromHexError}
use Rattle.hex.specs.Hex.{decode_of}
use Rattle.hex.proofs.HexLemmas.{decode_of-ok}
use Rattle.lzk_cmd_words.specs.Digits.{decoded_or_none, session_of}
use Rattle.lzk_cmd_words.specs.Keys.{are_hex, is_session}

few_bytes : (text : List ℕ) (read : Result (List ℕ) FromHexError) → decode_of text ≡ read → is_session text ≡ true → 2 * length (decoded_or_none read) ≤ 128
few_bytes text (Ok bytes) is good =
    let fits = (and_parts (nat_le (length text) 128) (are_hex text) (and_parts (length text % 2 == 0) (nat_le (length text) 128 && are_hex text) good).1).0 in
    let long : length text ≡ 2 * length bytes = (decode_of-ok text bytes is).2 in
    let few : length text ≤ 128 = leb-true (length text) 128 fits in
    omega (arith, long, few)
few_bytes text (Err fault) is good = omega arith

half : (n : ℕ) → 2 * n ≤ 128 → n ≤ 64
half n few = omega (arith, few)

pub few : (text : List ℕ) → is_session text ≡ true → length (session_of (Some text)) ≤ 64
few text good = half (length (decoded_or_none (decode_of text))) (few_bytes text (decode_of text) refl good)

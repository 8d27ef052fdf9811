-- A number of digits, one digit further.
use Rattle.std.proofs.Common.{◌≡◌, ℕ, suc, ◌+◌, ◌*◌, ◌-◌, ◌<◌, List, length, map, drop, get_or, None, refl, ap, arith, drop-cons}
use Rattle.std.specs.Prelude.{slice_index}
use Rattle.std.specs.Int.Digits.{number_from_digits_after}
use Rattle.std.proofs.lemmas.Int.Digits.{number_after_ge}
use Rattle.std.proofs.lemmas.Bool.{lt-leb}
use Rattle.lzk_cmd_words.specs.Keys.{number_of, number_up_to}

-- a number that passes the limit before its last digit passes it
pub exceeds : (most number i : ℕ) (text : List ℕ) → i < length text → most < 10 * number + (slice_index text i - 48) → number_from_digits_after 10 number (map (λ b. b - 48) (drop i text)) ≡ number_of text
    → None ≡ number_up_to most text
exceeds most number i text fits over is =
    let next = number * 10 + (get_or text i 0 - 48) in
    let at : number_from_digits_after 10 number (map (λ b. b - 48) (drop i text)) ≡ number_from_digits_after 10 next (map (λ b. b - 48) (drop (suc i) text)) =
    ap (λ xs. number_from_digits_after 10 number (map (λ b. b - 48) xs)) (drop-cons text i 0 fits) in
    let least = number_after_ge 10 next (map (λ b. b - 48) (drop (suc i) text)) (omega arith) in
    let passes : most < number_of text = omega (arith, over, at, is, least) in
    rw (lt-leb (number_of text) most passes) refl

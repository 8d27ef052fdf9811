-- Words that are no keyword.
use Rattle.std.proofs.Common.{◌≡◌, ◌≢◌, ℕ, ◌<◌, ◌≤◌, false, List, length, get_or, refl, arith, bytes_eq}
use Rattle.std.specs.Prelude.{codes}
use Rattle.lzk_expr.specs.Tokens.{word_token, plain_token}
use Rattle.lzk_expr.proofs.Alike.{unlike_length, unlike_place}

no_key : (w : List ℕ) → bytes_eq w (codes "field") ≡ false → bytes_eq w (codes "public") ≡ false → bytes_eq w (codes "private") ≡ false → bytes_eq w (codes "let") ≡ false → bytes_eq w (codes "assert") ≡ false
    → word_token w ≡ plain_token w
unfolding word_token
no_key w f p q l a = rw (f, p, q, l, a) refl

other_length : (w : List ℕ) → ((n : ℕ) → 3 ≤ n → n ≤ 7 → length w ≢ n) → word_token w ≡ plain_token w
other_length w h =
    no_key w (unlike_length w (codes "field") (h 5 (omega arith) (omega arith))) (unlike_length w (codes "public") (h 6 (omega arith) (omega arith))) (unlike_length w (codes "private") (h 7 (omega arith) (omega arith)))
    (unlike_length w (codes "let") (h 3 (omega arith) (omega arith))) (unlike_length w (codes "assert") (h 6 (omega arith) (omega arith)))

pub too_short : (w : List ℕ) → length w < 3 → word_token w ≡ plain_token w
too_short w lt = other_length w (λ n a b e. omega (arith, lt, a, e))

pub too_long : (w : List ℕ) → 7 < length w → word_token w ≡ plain_token w
too_long w lt = other_length w (λ n a b e. omega (arith, lt, b, e))

other_first : (w : List ℕ) → ((n : ℕ) → 97 ≤ n → n ≤ 112 → get_or w 0 0 ≢ n) → word_token w ≡ plain_token w
other_first w h =
    no_key w (unlike_place w (codes "field") 0 (h 102 (omega arith) (omega arith))) (unlike_place w (codes "public") 0 (h 112 (omega arith) (omega arith))) (unlike_place w (codes "private") 0 (h 112 (omega arith) (omega arith)))
    (unlike_place w (codes "let") 0 (h 108 (omega arith) (omega arith))) (unlike_place w (codes "assert") 0 (h 97 (omega arith) (omega arith)))

pub before_keys : (w : List ℕ) → get_or w 0 0 < 97 → word_token w ≡ plain_token w
before_keys w lt = other_first w (λ n a b e. omega (arith, lt, a, e))

pub behind_keys : (w : List ℕ) → 112 < get_or w 0 0 → word_token w ≡ plain_token w
behind_keys w lt = other_first w (λ n a b e. omega (arith, lt, b, e))

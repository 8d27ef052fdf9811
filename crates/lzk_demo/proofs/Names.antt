-- The names of the demo's source.
use Rattle.std.proofs.Common.{◌≡◌, ℕ, ◌+◌, ◌≤◌, ◌<◌, ◌≢◌, Bool, true, false, List, [], ◌∷◌, length, refl, arith, bytes_eq}
use Rattle.std.specs.Prelude.{nat_le, decimal}
use Rattle.std.specs.List.{list_all}
use Rattle.std.proofs.lemmas.Bool.Decides.{nat_tests}
use Rattle.std.proofs.lemmas.Fmt.{decimal_injective, length-decimal-le}
use Rattle.lzk_expr.specs.Tokens.{word_token, in_word}
use Rattle.lzk_expr.specs.Built.{IsNameWord}
use Rattle.lzk_expr.proofs.Lexed.{is_printed, digits_all, digits_word}
use Rattle.lzk_expr.proofs.Tables.{same_bytes}
use Rattle.lzk_demo.specs.Demo.{input_name, let_name}

digits_in_word : (n : ℕ) → n < 100000 → list_all in_word (decimal n) ≡ true
digits_in_word n h = digits_word (decimal n) (digits_all (decimal n) (is_printed n (omega arith)).digits)

pub short_digits : (n : ℕ) → n < 100000 → length (decimal n) ≤ 5
short_digits n h = length-decimal-le 5 n (omega arith) h (omega arith)

short_test : (n : ℕ) → n ≤ 6 → nat_le n 32 ≡ true
short_test n h = grind (arith, nat_tests)

pub input_short : (i : ℕ) → i + 1 < 100000 → length (input_name i) ≤ 6
input_short i h = omega (arith, short_digits (i + 1) h)

pub let_short : (k : ℕ) → k + 1 < 100000 → length (let_name k) ≤ 6
let_short k h = omega (arith, short_digits (k + 1) h)

pub input_fits : (i : ℕ) → i + 1 < 100000 → nat_le (length (input_name i)) 32 ≡ true
input_fits i h = short_test (length (input_name i)) (input_short i h)

pub let_fits : (k : ℕ) → k + 1 < 100000 → nat_le (length (let_name k)) 32 ≡ true
let_fits k h = short_test (length (let_name k)) (let_short k h)

pub input_word : (i : ℕ) → i + 1 < 100000 → IsNameWord (input_name i)
unfolding word_token
input_word i h = record { some = refl; all = digits_in_word (i + 1) h; token_is = refl }

pub let_word : (k : ℕ) → k + 1 < 100000 → IsNameWord (let_name k)
unfolding word_token
let_word k h = record { some = refl; all = digits_in_word (k + 1) h; token_is = refl }

pub public_word : IsNameWord (121 ∷ [])
unfolding word_token
public_word = record { some = refl; all = refl; token_is = refl }

-- two different numbers are written differently
same_tail : (c : ℕ) (v w : List ℕ) → c ∷ v ≡ c ∷ w → v ≡ w
same_tail c v w e = cc

not_same : (v w : List ℕ) (b : Bool) → bytes_eq v w ≡ b → (v ≡ w → ⊥) → b ≡ false
not_same v w true e h = absurd (h (same_bytes v w e))
not_same v w false e h = refl

named_apart : (c i j : ℕ) → i + 1 < 100000 → j + 1 < 100000 → i ≢ j → bytes_eq (c ∷ decimal (i + 1)) (c ∷ decimal (j + 1)) ≡ false
named_apart c i j h k d =
    not_same (c ∷ decimal (i + 1)) (c ∷ decimal (j + 1)) (bytes_eq (c ∷ decimal (i + 1)) (c ∷ decimal (j + 1))) refl
    (λ e. let same = decimal_injective (i + 1) (j + 1) (omega arith) (omega arith) (same_tail c (decimal (i + 1)) (decimal (j + 1)) e) in d (omega (arith, same)))

pub inputs_apart : (i j : ℕ) → i + 1 < 100000 → j + 1 < 100000 → i ≢ j → bytes_eq (input_name i) (input_name j) ≡ false
inputs_apart i j h k d = named_apart 120 i j h k d

pub lets_apart : (i j : ℕ) → i + 1 < 100000 → j + 1 < 100000 → i ≢ j → bytes_eq (let_name i) (let_name j) ≡ false
lets_apart i j h k d = named_apart 116 i j h k d

pub input_let_apart : (i j : ℕ) → bytes_eq (input_name i) (let_name j) ≡ false
input_let_apart i j = refl

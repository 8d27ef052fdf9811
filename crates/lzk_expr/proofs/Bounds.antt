-- The bounds of a line's tokens, piece by piece.
use Rattle.std.proofs.Common.{◌≡◌, ℕ, ◌≤◌, ◌<◌, Bool, true, false, cond, ◌&&◌, List, [], ◌∷◌, length, get_or, Option, Some, None, refl, ◌∙◌, ap, ap₂, arith, bytes_eq}
use Rattle.std.specs.Prelude.{codes, nat_le}
use Rattle.std.specs.List.{list_all}
use Rattle.std.proofs.lemmas.Bool.Decides.{nat_tests}
use Rattle.lzk_expr.specs.declared.tokens.Keyword.TheVariants as keys
use Rattle.lzk_expr.specs.Texts.{begins, number_of}
use Rattle.lzk_expr.specs.Tokens.{Token, Name, Key, word_token, plain_token, number_token, is_digit}
use Rattle.lzk_expr.specs.Sources.{is_short, is_shallow}
use Rattle.lzk_expr.specs.Readers.{keeps_bounds}
use Rattle.lzk_expr.specs.SymbolForms.{left_bounds}
use Rattle.lzk_expr.specs.declared.rules.Depth.{Depth}
use Rattle.lzk_expr.proofs.Tables.{same_bytes}
use Rattle.lzk_expr.proofs.Inner.{word_passes}

pub le_test : (a b : ℕ) → a ≤ b → nat_le a b ≡ true
le_test a b h = grind (arith, nat_tests)

pub short_word : (w : List ℕ) → length w ≤ 32 → is_short (word_token w) ≡ true
short_word w h = let test : nat_le (length w) 32 ≡ true = grind (arith, nat_tests) in word_passes is_short w (λ n. refl) refl refl refl refl refl refl test

no_key_at : (w k : List ℕ) (b : Bool) → bytes_eq w k ≡ b → 32 < length w → length k ≤ 32 → b ≡ false
no_key_at w k true e h l = absurd (omega (arith, ap length (same_bytes w k e)))
no_key_at w k false e h l = refl

no_key : (w k : List ℕ) → 32 < length w → length k ≤ 32 → bytes_eq w k ≡ false
no_key w k h l = no_key_at w k (bytes_eq w k) refl h l

long_token : (w : List ℕ) → 32 < length w → word_token w ≡ plain_token w
unfolding word_token
long_token w h =
    rw (no_key w (codes "field") h (omega arith), no_key w (codes "public") h (omega arith), no_key w (codes "private") h (omega arith), no_key w (codes "let") h (omega arith), no_key w (codes "assert") h (omega arith)) refl

short_number : (o : Option ℕ) → is_short (number_token o) ≡ true
short_number None = refl
short_number (Some n) = refl

plain_at : (w : List ℕ) (b : Bool) → nat_le (length w) 32 ≡ false → is_short (cond b (number_token (number_of w)) (Name w)) ≡ b
plain_at w true h = short_number (number_of w)
plain_at w false h = h

begins_first : (w : List ℕ) → 0 < length w → begins is_digit w ≡ is_digit (get_or w 0 0)
begins_first [] h = absurd (omega arith)
begins_first (b ∷ w) h = refl

-- a long word is short as a token where it begins with a digit
pub long_word : (w : List ℕ) → 32 < length w → is_short (word_token w) ≡ is_digit (get_or w 0 0)
long_word w h =
    let long : nat_le (length w) 32 ≡ false = grind (arith, nat_tests) in
    ap is_short (long_token w h) ∙ plain_at w (begins is_digit w) long ∙ begins_first w (omega arith)

either_shallow : (c : Bool) (x y : Token) (n : ℕ) (ts : List Token) → is_shallow n (x ∷ ts) ≡ is_shallow n ts → is_shallow n (y ∷ ts) ≡ is_shallow n ts → is_shallow n (cond c x y ∷ ts) ≡ is_shallow n ts
either_shallow true x y n ts h k = h
either_shallow false x y n ts h k = k

number_shallow : (o : Option ℕ) (n : ℕ) (ts : List Token) → is_shallow n (number_token o ∷ ts) ≡ is_shallow n ts
number_shallow None n ts = refl
number_shallow (Some m) n ts = refl

pub word_shallow : (w : List ℕ) (n : ℕ) (ts : List Token) → is_shallow n (word_token w ∷ ts) ≡ is_shallow n ts
unfolding word_token
word_shallow w n ts =
    either_shallow (bytes_eq w (codes "field")) (Key keys.Field) _ n ts refl (either_shallow (bytes_eq w (codes "public")) (Key keys.Public) _ n ts refl (either_shallow (bytes_eq w (codes "private")) (Key keys.Private) _ n ts refl
    (either_shallow (bytes_eq w (codes "let")) (Key keys.Let) _ n ts refl (either_shallow (bytes_eq w (codes "assert")) (Key keys.Assert) (plain_token w) n ts refl
    (either_shallow (begins is_digit w) (number_token (number_of w)) (Name w) n ts (number_shallow (number_of w) n ts) refl)))))

word_keeps : (w : List ℕ) (n : ℕ) (ts : List Token) → is_short (word_token w) ≡ true → keeps_bounds n (word_token w ∷ ts) ≡ keeps_bounds n ts
word_keeps w n ts h = ap₂ (λ (a b : Bool). (a && list_all is_short ts) && b) h (word_shallow w n ts)

word_breaks : (w : List ℕ) (n : ℕ) (ts : List Token) → is_short (word_token w) ≡ false → keeps_bounds n (word_token w ∷ ts) ≡ false
word_breaks w n ts h = ap (λ (a : Bool). (a && list_all is_short ts) && is_shallow n (word_token w ∷ ts)) h

pub behind_short : (w : List ℕ) (depth : Option Depth) (ts : List Token) → is_short (word_token w) ≡ true → left_bounds depth (word_token w ∷ ts) ≡ left_bounds depth ts
behind_short w None ts h = refl
behind_short w (Some depth) ts h = word_keeps w depth.count ts h

pub behind_long : (w : List ℕ) (depth : Option Depth) (ts : List Token) → is_short (word_token w) ≡ false → left_bounds depth (word_token w ∷ ts) ≡ false
behind_long w None ts h = refl
behind_long w (Some depth) ts h = word_breaks w depth.count ts h

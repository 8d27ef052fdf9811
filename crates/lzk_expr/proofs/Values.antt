-- Numbers of digits.
use Rattle.std.proofs.Common.{◌≡◌, ℕ, zero, suc, ◌+◌, ◌*◌, ◌^◌, ◌<◌, ◌≤◌, length, get_or, drop, drop-cons, add-one, List, [], ◌∷◌, Option, Some, None, refl, sym, ◌∙◌, ap, subst, arith}
use Rattle.std.proofs.lemmas.Bool.{lt-ltb, le-ltb}
use Rattle.std.proofs.lemmas.List.{drop_all}
use Rattle.lzk_expr.specs.Texts.{digit_of, value_in}
use Rattle.lzk_expr.specs.Readings.{IsHeld}

pub value_step : (base have c : ℕ) (cs : List ℕ) → digit_of c < base → value_in base have (c ∷ cs) ≡ value_in base (have * base + digit_of c) cs
unfolding value_in
value_step base have c cs h = rw (lt-ltb (digit_of c) base h) refl

pub value_stop : (base have c : ℕ) (cs : List ℕ) → base ≤ digit_of c → value_in base have (c ∷ cs) ≡ None
unfolding value_in
value_stop base have c cs h = rw (le-ltb (digit_of c) base h) refl

pub value_end : (base have : ℕ) → value_in base have [] ≡ Some have
unfolding value_in
value_end base have = refl

pub grows : (have base d : ℕ) → 1 ≤ base → have ≤ have * base + d
grows have zero d h = absurd (omega arith)
grows have (suc b) d h = grind arith

pub value_at : (base have i : ℕ) (digits : List ℕ) → i < length digits → digit_of (get_or digits i 0) < base
    → value_in base have (drop i digits) ≡ value_in base (have * base + digit_of (get_or digits i 0)) (drop (i + 1) digits)
value_at base have i digits lt h = rw (add-one, drop-cons digits i 0) (value_step base have (get_or digits i 0) (drop (suc i) digits) h)

pub stop_at : (base have i : ℕ) (digits : List ℕ) → i < length digits → base ≤ digit_of (get_or digits i 0) → value_in base have (drop i digits) ≡ None
stop_at base have i digits lt h = rw (drop-cons digits i 0) (value_stop base have (get_or digits i 0) (drop (suc i) digits) h)

pub end_at : (base have i : ℕ) (digits : List ℕ) → length digits ≤ i → value_in base have (drop i digits) ≡ Some have
end_at base have i digits le = rw (drop_all i digits le) (value_end base have)

-- what the digits before a place make
pub record IsValueAt (base : ℕ) (digits : List ℕ) (i : ℕ) (have : Option ℕ) : Type 0 where
  pub number : ℕ
  pub held : IsHeld have number
  pub read : value_in base 0 digits ≡ value_in base number (drop i digits)

pub value_more : (base i d : ℕ) (digits : List ℕ) (have now : Option ℕ) → i < length digits → d ≡ digit_of (get_or digits i 0) → d < base → ((n : ℕ) → IsHeld have n → IsHeld now (n * base + d))
    → IsValueAt base digits i have → IsValueAt base digits (i + 1) now
value_more base i d digits have now lt e few more v = record {
  number = v.number * base + d;
  held = more v.number v.held;
  read = v.read ∙ value_at base v.number i digits lt (omega (arith, e, few)) ∙ ap (λ x. value_in base (v.number * base + x) (drop (i + 1) digits)) (sym e);
}

pub value_is : (base i n : ℕ) (digits : List ℕ) (have : Option ℕ) → length digits ≤ i → have ≡ Some n → IsValueAt base digits i have → value_in base 0 digits ≡ Some n
value_is base i n digits have le e v = let held : v.number ≡ n = subst (λ o. IsHeld o v.number) e v.held in v.read ∙ end_at base v.number i digits le ∙ ap Some held

pub value_large : (base i : ℕ) (digits : List ℕ) (have : Option ℕ) → length digits ≤ i → have ≡ None → IsValueAt base digits i have → (n : ℕ) × (value_in base 0 digits ≡ Some n) × (2 ^ 128 ≤ n)
value_large base i digits have le e v = (v.number, v.read ∙ end_at base v.number i digits le, subst (λ o. IsHeld o v.number) e v.held)

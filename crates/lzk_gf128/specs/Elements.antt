-- The field of 2^128 elements.
use Rattle.std.specs.Prelude.{◌≡◌, ◌≢◌, ℕ, ◌^◌, ◌%◌, ◌<◌, ◌⊎◌, ◌↔◌, IsTrue, bit_xor}
use Rattle.std.proofs.Common.{refl, ap, ◌∙◌, arith, eqb, inl, inr}
use Rattle.std.proofs.lemmas.Bool.{eqb-true, eq-eqb}
use Rattle.std.proofs.Math.Nat.{mod-lt, mod-eq_of_lt}
use Rattle.std.specs.Int.Bits.{xor_assoc, xor_comm, xor_self, xor_zero_r, xor_lt}
use Rattle.std.specs.Coded.{le_prop}
use mathlib.Core.HLevel.{is_prop→PathP}
use native.Mathlib.Decide.{dec_lt}
use Rattle.lzk_gf128.specs.declared.element.Gf128.{Gf128}
use Rattle.lzk_gf128.specs.Product.{product}
use Rattle.lzk_gf128.specs.Linear.{times_bits-right, times_bits_lt, times_comm, times_assoc, one_times}
use Rattle.lzk_gf128.specs.Inverse.{inverse, times_inverse, inverse_lt}
use Rattle.lzk_field.specs.Ring.{Ops, RingLaws, NumberLaws, FieldLaws, Laws}

pub mod_below : (n : ℕ) → n % 2 ^ 128 < 2 ^ 128
mod_below n = mod-lt n (omega arith)

pub product_below : (x y : Gf128) → product 128 x.n y.n < 2 ^ 128
unfolding product
product_below x y = times_bits_lt 128 x.n y.n x.small

pub xor_below : (x y : Gf128) → bit_xor x.n y.n < 2 ^ 128
xor_below x y = xor_lt 128 x.n y.n x.small y.small

-- the number of an element
abbrev pub number : Gf128 → ℕ
number x = x.n

-- the element that a number stands for
abbrev pub of_number : ℕ → Gf128
of_number n = record { n = n % 2 ^ 128; small = mod_below n }

pub Gf128-ext : (x y : Gf128) → x.n ≡ y.n → x ≡ y
Gf128-ext x y e = λ i. record { n = e i; small = is_prop→PathP (λ j. e j < 2 ^ 128) (λ j. le_prop) x.small y.small i }

pub inverse_element : (x : Gf128) → Gf128
inverse_element x = record { n = inverse x.n; small = inverse_lt x.n }

abbrev pub ops : Ops Gf128
ops = record {
  zero = of_number 0;
  one = of_number 1;
  plus = λ x y. record { n = bit_xor x.n y.n; small = xor_below x y };
  times = λ x y. record { n = product 128 x.n y.n; small = product_below x y };
  neg = λ x. x;
  inverse = inverse_element;
}

pub ring : RingLaws ops
unfolding product
ring = record {
  plus_comm = λ x y. Gf128-ext _ _ (xor_comm x.n y.n);
  plus_assoc = λ x y z. Gf128-ext _ _ (xor_assoc x.n y.n z.n);
  plus_zero = λ x. Gf128-ext _ _ (xor_zero_r x.n);
  plus_neg = λ x. Gf128-ext _ _ (xor_self x.n);
  times_comm = λ x y. Gf128-ext _ _ (times_comm x.n y.n x.small y.small);
  times_assoc = λ x y z. Gf128-ext _ _ (times_assoc x.n y.n z.n x.small y.small z.small);
  times_one = λ x. Gf128-ext _ _ (times_comm x.n 1 x.small (omega arith) ∙ one_times x.n x.small);
  times_plus = λ x y z. Gf128-ext _ _ (times_bits-right 128 x.n y.n z.n);
}

pub numbers : NumberLaws ops (2 ^ 128) (λ x. x.n) of_number 16
numbers = record {
  below = λ x. x.small;
  element_number = λ x. Gf128-ext (of_number x.n) x (mod-eq_of_lt x.small);
  number_element = λ n. refl;
  zero_number = refl;
  one_number = refl;
  points = omega arith;
  some_bytes = omega arith;
  few_bytes = omega arith;
  fits = omega arith;
}

zero_or_positive : (x : Gf128) → (x ≡ ops.zero) ⊎ (0 < x.n)
zero_or_positive x = elim (dec_lt 0 x.n) [ yes h ↦ inr h | no h ↦ inl (Gf128-ext x ops.zero (omega arith)) ]

inverse_times : (x : Gf128) → 0 < x.n → ops.times x (inverse_element x) ≡ ops.one
unfolding product inverse_element
inverse_times x h = Gf128-ext _ _ (times_comm x.n (inverse x.n) x.small (inverse_lt x.n) ∙ times_inverse x.n x.small h)

pub times_inverse_element : (x : Gf128) → x ≢ ops.zero → ops.times x (inverse_element x) ≡ ops.one
times_inverse_element x h = elim (zero_or_positive x) [ inl e ↦ absurd (h e) | inr l ↦ inverse_times x l ]

pub field : FieldLaws ops
field = record {
  one_not_zero = λ e. let n : 1 ≡ 0 = ap (λ x. x.n) e in omega arith;
  times_inverse = times_inverse_element;
}

pub same : (x y : Gf128) → IsTrue (eqb x.n y.n) ↔ x ≡ y
same x y = (λ t. Gf128-ext x y (eqb-true x.n y.n t), λ e. eq-eqb x.n y.n (ap (λ w. w.n) e))

pub laws : Laws ops (2 ^ 128) (λ x. x.n) of_number 16
laws = record { ring = ring; field = field; numbers = numbers }

pub inverse_works : (x : Gf128) → 0 < x.n → product 128 x.n (inverse x.n) ≡ 1
unfolding product
inverse_works x h = times_comm x.n (inverse x.n) x.small (inverse_lt x.n) ∙ times_inverse x.n x.small h

pub inverse_found : (x : Gf128) → 0 < x.n → x ≢ ops.zero
inverse_found x h e = let n : x.n ≡ 0 = ap (λ y. y.n) e in omega (arith, n, h)

pub inverse_number : (x : Gf128) → (ops.inverse x).n ≡ inverse x.n
unfolding inverse_element
inverse_number x = refl

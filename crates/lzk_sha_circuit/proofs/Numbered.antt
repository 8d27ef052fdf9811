-- Numbers as elements: sums, products and small numbers are kept.
use Rattle.std.specs.Prelude.{◌≡◌, ℕ, ◌+◌, ◌*◌, ◌<◌}
use Rattle.std.proofs.Common.{refl, sym, ap, ◌∙◌, arith, mod-eq_of_lt, inl, inr}
use Rattle.std.proofs.Math.Nat.{mod-add-mod, add-mod-mod}
use Rattle.std.proofs.lemmas.Nat.{mul-mod_first, mul-mod_second}
use native.Mathlib.Decide.{dec_lt}
use Rattle.lzk_field.specs.Ring.{Ops, RingLaws}
use Rattle.lzk_field.specs.Sums.{minus}
use Rattle.lzk_field.proofs.RingBasics.{same_from_difference, no_divisors}
use Rattle.lzk_field.proofs.Solve.{var, unit, ◌⊟◌, ◌⊠◌, solve}
use Rattle.lzk_goldilocks.specs.declared.element.Gold.{Gold}
use Rattle.lzk_goldilocks.specs.Prime.{p}
use Rattle.lzk_goldilocks.specs.Elements.{ops, of_number, Gold-ext, ring, field}
use Rattle.std.specs.Prelude.{[], ◌∷◌, ◌⊎◌}

-- x is the element of 0 or of 1
abbrev pub IsBit : {A : Type 0} → (ℕ → A) → A → Type 0
IsBit element x = (v : ℕ) × (v < 2) × (x ≡ element v)

pub record Numbered {A : Type 0} (o : Ops A) (element : ℕ → A) (size : ℕ) : Type 0 where
  pub ring : RingLaws o
  pub zero_is : o.zero ≡ element 0
  pub plus_is : (a b : ℕ) → o.plus (element a) (element b) ≡ element (a + b)
  pub times_is : (a b : ℕ) → o.times (element a) (element b) ≡ element (a * b)
  pub same : (a b : ℕ) → a < size → b < size → element a ≡ element b → a ≡ b
  pub is_bit : (x : A) → minus o (o.times x x) x ≡ o.zero → IsBit element x

zero_or_not : (x : Gold) → (x ≡ of_number 0) ⊎ (0 < x.n)
zero_or_not x =
    elim (dec_lt 0 x.n) [ yes h ↦ inr h | no h ↦ inl (Gold-ext x (of_number 0) (omega arith)) ]

-- x * x - x is x * (x - 1)
split_square : (x : Gold) → ops.times x (minus ops x ops.one) ≡ minus ops (ops.times x x) x
split_square x = solve ops ring (x ∷ []) (var 0 ⊠ (var 0 ⊟ unit)) (var 0 ⊠ var 0 ⊟ var 0) refl

gold_bit : (x : Gold) → minus ops (ops.times x x) x ≡ ops.zero → IsBit of_number x
gold_bit x e = elim (zero_or_not x) [
  | inl z ↦ (0, omega arith, z)
  | inr l ↦
      let nonzero = λ (z : x ≡ ops.zero). let n : x.n ≡ 0 = ap (λ (y : Gold). y.n) z in absurd {A = ⊥} (omega (arith, n, l)) in
      (1, omega arith, same_from_difference ops ring x ops.one (no_divisors ops ring field x (minus ops x ops.one) nonzero (split_square x ∙ e)))
]

gold_same : (a b : ℕ) → a < p → b < p → of_number a ≡ of_number b → a ≡ b
gold_same a b la lb e = sym (mod-eq_of_lt la) ∙ ap (λ (x : Gold). x.n) e ∙ mod-eq_of_lt lb

pub gold_numbered : Numbered ops of_number p
gold_numbered = record {
  ring = ring;
  zero_is = refl;
  plus_is = λ a b. Gold-ext _ _ (simp (mod-add-mod, add-mod-mod));
  times_is = λ a b. Gold-ext _ _ (simp (mul-mod_first, mul-mod_second));
  same = gold_same;
  is_bit = gold_bit;
}

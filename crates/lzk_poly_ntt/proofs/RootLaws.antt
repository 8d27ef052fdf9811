-- Roots of one whose order is a power of two.
use Rattle.std.specs.Prelude.{◌≡◌, ℕ, ◌+◌, ◌-◌, ◌^◌, ◌≤◌}
use Rattle.std.proofs.Common.{zero, suc, sym, ap, ◌∙◌, arith}
use Rattle.std.proofs.Math.Nat.{pow-suc}
use Rattle.lzk_field.specs.Ring.{Ops, RingLaws}
use Rattle.lzk_field.specs.Sums.{power}
use Rattle.lzk_field.proofs.RingBasics.{one_times}
use Rattle.lzk_field.proofs.PowerLaws.{power-first, power-one, power-plus, power-square, power-swap, minus_one_square}
use Rattle.lzk_poly_ntt.specs.Transform.{IsRoot}

pub twice_power : (k : ℕ) → 2 ^ suc k ≡ 2 ^ k + 2 ^ k
twice_power k = omega (arith, pow-suc 2 k)

module _ {A : Type 0} (o : Ops A) (r : RingLaws o) where
  open o use {times, neg}

  pub root-lower : (k : ℕ) (w : A) → IsRoot o (suc k) w → IsRoot o k (times w w)
  unfolding IsRoot
  root-lower zero w e = ap (λ v. times v v) (sym (one_times o r w) ∙ e) ∙ minus_one_square o r
  root-lower (suc k) w e = power-square o r w (2 ^ k) ∙ ap (power o w) (let twice = twice_power k in omega arith) ∙ e

  pub root-whole : (k : ℕ) (w : A) → IsRoot o k w → power o w (2 ^ k) ≡ o.one
  unfolding IsRoot
  root-whole zero w e = one_times o r w ∙ e
  root-whole (suc k) w e = ap (power o w) (twice_power k) ∙ power-plus o r w (2 ^ k) (2 ^ k) ∙ ap (λ v. times v v) e ∙ minus_one_square o r

  -- any power of a root is a root of the whole number
  pub root-power : (k : ℕ) (w : A) (j : ℕ) → IsRoot o k w → power o (power o w j) (2 ^ k) ≡ o.one
  root-power k w j e = power-swap o r w j (2 ^ k) ∙ ap (λ v. power o v j) (root-whole k w e) ∙ power-one o r j

  pub root_is : (k : ℕ) (w : A) → IsRoot o (suc k) w → power o w (2 ^ k) ≡ neg o.one
  unfolding IsRoot
  root_is k w e = e

  -- what closes at its order, and is minus one halfway, is a root
  pub root_by_powers : (k : ℕ) (w : A) → power o w (2 ^ k) ≡ o.one → (1 ≤ k → power o w (2 ^ (k - 1)) ≡ neg o.one) → IsRoot o k w
  unfolding IsRoot
  root_by_powers zero w closes halfway = sym (power-first o r w) ∙ closes
  root_by_powers (suc k) w closes halfway =
      let less : suc k - 1 ≡ k = omega arith in
      ap (λ n. power o w (2 ^ n)) (sym less) ∙ halfway (omega arith)

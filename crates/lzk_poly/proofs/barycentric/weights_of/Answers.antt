use Rattle.std.proofs.Common.{◌≡◌, ℕ, ◌≤◌, ◌↔◌, refl, arith}
use Rattle.lzk_field.specs.Ring.{Ops}
use Rattle.lzk_poly.specs.Spacings.{IsSpaced, size_of}
use Rattle.lzk_poly.specs.Weights.{IsEven}
use Rattle.lzk_poly.specs.declared.spacing.Spacing.{Spacing}
use Rattle.lzk_poly.specs.declared.spacing.Spacing.TheVariants.{Even, Binary, Other}
use Rattle.lzk_poly.proofs.barycentric.weights_of.Goals as goal

-- what holds of each spacing
module _ {A : Type 0} (o : Ops A) (point : ℕ → A) (upto : ℕ) where
  size_enough : (s : Spacing) → IsSpaced o point upto s → upto ≤ size_of s upto
  size_enough Even h = omega arith
  size_enough (Binary bits) h = h.1
  size_enough Other h = omega arith

  is_even : (s : Spacing) → IsSpaced o point upto s → (s ≡ Even) ↔ IsEven o point upto
  is_even Even h = (λ _. h, λ _. refl)
  is_even (Binary bits) h = (λ e. absurd cc, λ even. absurd (h.4 even))
  is_even Other h = (λ e. absurd cc, λ even. absurd (h.0 even))

pub invariant_of-result : goal.invariant_of-result
invariant_of-result g c =
    let o = g.F.Field.ops in
    let point = g.F.Field.coding.element in
    let points = c.args.points.now in
    let s = points.spacing in
    let even = is_even o point points.upto s c.requires.spaced in (
      c.requires.some,
      points.order,
      points.limit,
      c.in_ok-weights.ensures,
      c.in_ok-passed.ensures,
      omega (arith, size_enough o point points.upto s c.requires.spaced, points.enough, c.in_ok-inverses.ensures.0),
      c.in_ok-inverses.ensures.1,
      (λ yes. even.0 (c.is_even.ensures.0 yes), λ h. c.is_even.ensures.1 (even.1 h)),
    )

pub returns : goal.returns
returns g c = refl

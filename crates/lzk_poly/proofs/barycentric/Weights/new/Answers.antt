use Rattle.std.proofs.Common.{◌≤◌, ◌∙◌, length, ap, sym, subst, arith, ℕ}
use Rattle.std.proofs.Math.Pow.{pow_mono}
use Rattle.lzk_field.specs.Ring.{Ops}
use Rattle.lzk_poly.specs.Products.{factor, IsInverted, IsRunning}
use Rattle.lzk_poly.specs.Spacings.{IsSpaced, size_of}
use Rattle.lzk_poly.specs.declared.spacing.Spacing.{Spacing}
use Rattle.lzk_poly.specs.declared.spacing.Spacing.TheVariants.{Even, Binary, Other}
use Rattle.lzk_poly.proofs.barycentric.Weights.new.Goals as goal

-- the differences of points of each spacing have few numbers
size_few : {A : Type 0} (o : Ops A) (point : ℕ → A) (upto : ℕ) (s : Spacing) → upto ≤ 65536 → IsSpaced o point upto s → size_of s upto ≤ 65536
size_few o point upto Even limit h = limit
size_few o point upto (Binary bits) limit h = pow_mono {i = bits} {j = 16} h.0
size_few o point upto Other limit h = limit

pub size-size-requires : goal.size-size-requires
size-size-requires g c = size_few g.F.Field.ops g.F.Field.coding.element c.args.upto c.of-spacing.result c.requires.limit c.of-spacing.ensures

pub invariant_of-products : goal.invariant_of-products
invariant_of-products g c =
    let o = g.F.Field.ops in
    let same = c.deref.ensures.value in
    record {
      limit = c.size-size.ensures.limit;
      whole = ap length same ∙ c.in_ok-running.ensures.0;
      are_running = subst (IsRunning o (factor o g.F.Field.coding.element)) (sym same) c.in_ok-running.ensures.1;
    }

pub invariant_of-points : goal.invariant_of-points
invariant_of-points g c =
    let o = g.F.Field.ops in
    let e = factor o g.F.Field.coding.element in
    let running = c.deref-2.ensures.value in
    let inverted = c.deref-3.ensures.value in
    record {
      limit = c.size-size.ensures.limit;
      whole = ap length running ∙ c.in_ok-running.ensures.0;
      paired = ap length inverted ∙ c.in_ok-inverted.ensures.0;
      are_running = subst (IsRunning o e) (sym running) c.in_ok-running.ensures.1;
      are_inverted = subst (IsInverted o e) (sym inverted) c.in_ok-inverted.ensures.1;
    }

pub invariant_of-points-2 : goal.invariant_of-points-2
invariant_of-points-2 g c = record { order = omega (arith, c.requires.order); limit = c.requires.limit; enough = c.size-size.ensures.value }

pub weights_of-requires-clause-some : goal.weights_of-requires-clause-some
weights_of-requires-clause-some g c κs within = c.requires.some

pub weights_of-requires-clause-spaced : goal.weights_of-requires-clause-spaced
weights_of-requires-clause-spaced g c κs within = c.of-spacing.ensures

pub returns : goal.returns
returns g c = c.weights_of.ensures

use Rattle.std.proofs.Common.{◌≡◌, ℕ, ◌+◌, ◌-◌, ◌*◌, ◌^◌, ◌<◌, length, min, ap, ◌∙◌, arith, sym}
use Rattle.std.proofs.Math.Nat.{add-mul}
use native.Mathlib.Decide.{dec_lt}
use Rattle.lzk_field.specs.Sums.{entry, sum_below}
use Rattle.lzk_poly.specs.Weights.{part, passed, parts}
use Rattle.lzk_poly.proofs.Blocks.{parts_extension}
use Rattle.lzk_poly_ntt.specs.Kernels.{convolution, convolutions, end_of, from_of}
use Rattle.lzk_poly_ntt.specs.Transform.{doubled}
use Rattle.lzk_poly_ntt.proofs.Pieces.{block_adds, blocks_add, next_small}
use Rattle.lzk_poly_ntt.proofs.blocks.extend_by.Goals as goal

pub loop-p-preserved : goal.loop-p-preserved
loop-p-preserved g c =
    let m = g.F.Field in
    let o = m.ops in
    let r = m.laws.ring in
    let row = c.args.row.now in
    let ready = row.kernels.now.ready in
    let d = row.kernels.now.transform in
    let n = 2 ^ d.bits in
    let plan = row.kernels.now.plan in
    let planned = ready.planned in
    let values = row.values.now in
    let ws = row.weights.now in
    let products = row.passed.now in
    let p = c.loop-p.p in
    let at = p * plan.piece in
    let list = c.backward.new.values in
    let first = plan.block - 1 in
    let begins : at < plan.upto - plan.count = planned.pieces.begins p c.loop-p-test.true in
    let next : (p + 1) * plan.piece ≡ at + plan.piece = add-mul p 1 plan.piece ∙ omega arith in
    let long : length list ≡ n = omega (arith, c.backward.auto.values, c.sum_products.auto.out, c.loop-p.auto.convolved, c.requires.convolved) in
    let whole : length c.loop-p.out + plan.count ≡ plan.upto = omega (arith, c.loop-p.auto.out, c.requires.out) in
    let conv : (t : ℕ) → t < n → entry o list t ≡ o.times (doubled o d.bits) (convolutions o m.coding.element d plan values ws p plan.blocks t) =
    λ t h.
    c.backward.ensures.entries (convolutions o m.coding.element d plan values ws p plan.blocks)
    (λ j l. c.sum_products.ensures values ws c.backward.ensures.root c.transform_blocks.ensures j l)
    t (omega (arith, long, h)) in
    λ k below inside. elim (dec_lt k at) [
      | yes l ↦ c.set_products.ensures.before k l ∙ c.loop-p.invariant k l (omega (arith, inside, c.set_products.auto.out))
      | no l ↦
          let y = k - at in
          let j = plan.count + k in
          let x = m.coding.element j in
          let there : from_of plan p + y ≡ j = omega arith in
          let small : y < plan.piece = omega (arith, below, next) in
          let reached : k < length c.loop-p.out = omega (arith, inside, c.set_products.auto.out) in
          let limit : from_of plan p + y < plan.upto = omega (arith, there, reached, whole) in
          let full : min (plan.blocks * plan.block) plan.count ≡ length values = omega (arith, planned.blocks.all, row.count) in
          let within : k < length products = omega (arith, row.passes.0, reached, whole) in
          let sum : entry o list (first + y) ≡ parts o m.coding.element values (length values) x =
          conv (first + y) (omega (arith, small, planned.room, planned.some))
          ∙ blocks_add o r m.laws.field m.coding.element plan values x (doubled o d.bits) (λ v. convolution o m.coding.element d plan values ws p v (first + y)) planned.blocks
          (λ v h. block_adds o r m.laws.field m.coding.element d plan values ws p v y planned h begins small limit row.count ready.even row.weighted ready.inverse_size
          ∙ ap (λ z. sum_below o (end_of plan v - v * plan.block) (λ i. part o m.coding.element values (v * plan.block + i) (m.coding.element z))) there)
          plan.blocks (omega arith)
          ∙ ap (λ z. parts o m.coding.element values z x) full in
          let product : entry o products k ≡ passed o m.coding.element (length values) x =
          row.passes.1 k within ∙ ap (λ z. passed o m.coding.element z x) (sym row.count) in
          c.set_products.ensures.inside k (omega arith) (omega (arith, c.min-to.ensures, below, next, reached))
          ∙ ap (λ u. o.times u (entry o products k)) sum
          ∙ ap (o.times (parts o m.coding.element values (length values) x)) product
          ∙ parts_extension m.laws values j (omega (arith, row.count)) (omega (arith, reached, whole, planned.limit))
    ]

pub loop-p-init : goal.loop-p-init
loop-p-init g c = λ k h. absurd (omega (arith, h))

pub returns : goal.returns
returns g c =
    let plan = c.args.row.now.kernels.now.plan in
    let planned = c.args.row.now.kernels.now.ready.planned in
    let all : plan.pieces ≡ c.loop-p.p = omega (arith, c.loop-p-test.false, c.loop-p.auto.p-end) in
    let whole : plan.pieces * plan.piece ≡ c.loop-p.p * plan.piece = ap (λ p. p * plan.piece) all in
    λ k h. c.loop-p.invariant k (omega (arith, h, whole, planned.pieces.all, c.loop-p.auto.out, c.requires.out)) h

pub transform_blocks-requires-clause-spectra : goal.transform_blocks-requires-clause-spectra
transform_blocks-requires-clause-spectra g c κs within =
    let kernels = c.args.row.now.kernels.now in
    let all : kernels.plan.blocks ≡ kernels.plan.blocks - 0 = omega arith in
    c.requires.spectra ∙ ap (λ k. k * 2 ^ kernels.transform.bits) all

pub sum_products-requires-clause-piece : goal.sum_products-requires-clause-piece
sum_products-requires-clause-piece g c κs within = c.loop-p-test.true

pub sum_products-requires-clause-spectra : goal.sum_products-requires-clause-spectra
sum_products-requires-clause-spectra g c κs within = c.transform_blocks.auto.spectra ∙ c.requires.spectra

pub sum_products-requires-clause-out : goal.sum_products-requires-clause-out
sum_products-requires-clause-out g c κs within = c.loop-p.auto.convolved ∙ c.requires.convolved

pub backward-requires-after_bounds : goal.backward-requires-after_bounds
backward-requires-after_bounds g c = λ κs le. c.sum_products.auto.out ∙ c.loop-p.auto.convolved ∙ c.requires.convolved

pub overflow_mul-at : goal.overflow_mul-at
overflow_mul-at g c = let planned = c.args.row.now.kernels.now.ready.planned in omega (arith, planned.pieces.begins c.loop-p.p c.loop-p-test.true, planned.limit)

pub overflow_sub-plan : goal.overflow_sub-plan
overflow_sub-plan g c = c.args.row.now.kernels.now.ready.planned.some

pub set_products-requires-clause-within : goal.set_products-requires-clause-within
set_products-requires-clause-within g c κs within = omega (arith, c.min-to.ensures)

pub set_products-requires-clause-factors : goal.set_products-requires-clause-factors
set_products-requires-clause-factors g c κs within = omega (arith, c.min-to.ensures, c.args.row.now.passes.0, c.requires.out, c.loop-p.auto.out)

pub set_products-requires-clause-enough : goal.set_products-requires-clause-enough
set_products-requires-clause-enough g c κs within =
    let planned = c.args.row.now.kernels.now.ready.planned in
    omega (arith, planned.room, planned.some, planned.moves, c.min-to.ensures, c.backward.auto.values, c.sum_products.auto.out, c.loop-p.auto.convolved, c.requires.convolved)

pub overflow_add-at : goal.overflow_add-at
overflow_add-at g c =
    let planned = c.args.row.now.kernels.now.ready.planned in
    let small = next_small c.loop-p.p c.args.row.now.kernels.now.plan.piece (omega (arith, planned.pieces.begins c.loop-p.p c.loop-p-test.true, planned.limit)) (omega arith) in
    omega (arith, small)

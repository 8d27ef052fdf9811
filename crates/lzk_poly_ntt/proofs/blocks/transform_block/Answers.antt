use Rattle.std.proofs.Common.{◌≡◌, ◌+◌, ◌-◌, ◌*◌, ◌^◌, ◌<◌, ◌≤◌, take, drop, length, ap, sym, ◌∙◌, arith}
use Rattle.lzk_field.specs.Sums.{entry}
use Rattle.lzk_poly_ntt.specs.Kernels.{end_of, skip_of, weighted}
use Rattle.lzk_poly_ntt.proofs.Levels.{entry-part}
use Rattle.lzk_poly_ntt.proofs.Pieces.{length_part}
use Rattle.lzk_poly_ntt.proofs.Spectra.{weighted_is}
use Rattle.lzk_poly_ntt.proofs.Transforms.{spectrum-ext}
use Rattle.lzk_poly_ntt.proofs.blocks.transform_block.Goals as goal

pub returns : goal.returns
returns g c =
    let o = g.F.Field.ops in
    let row = c.args.row.now in
    let d = row.kernels.now.transform in
    let plan = row.kernels.now.plan in
    let planned = row.kernels.now.ready.planned in
    let v = c.args.v in
    let values = row.values.now in
    let ws = row.weights.now in
    let s = v * plan.block in
    let e = end_of plan v in
    let skip = skip_of plan v in
    let out = c.weigh.new.out in
    let ended : c.min-end.result ≡ e = c.min-end.ensures in
    let begins : s < plan.count = planned.blocks.begins v c.requires.block in
    let some : s < e = omega (arith, begins, planned.some) in
    let short : e - s ≤ plan.block = omega arith in
    let skipped : plan.block - (c.min-end.result - s) ≡ skip = ap (λ k. plan.block - (k - s)) ended in
    let long : length (take (c.min-end.result - s) (drop s values)) ≡ e - s = length_part values s (c.min-end.result - s) (omega (arith, ended, begins, some, row.count)) ∙ ap (λ k. k - s) ended in
    let size : length out ≡ 2 ^ d.bits = omega (arith, c.weigh.auto.out, c.requires.out) in
    λ j h.
    c.forward.ensures j h
    ∙ spectrum-ext o g.F.Field.laws.ring d.bits d.root (entry o out) (weighted o plan values ws v) j
    (weighted_is o plan values ws out v (2 ^ d.bits) short
    (λ i l. c.weigh.ensures.before i (omega (arith, l, skipped)))
    (λ i l.
    ap (λ k. entry o out (k + i)) (let same : skip ≡ plan.block - (c.min-end.result - s) = omega (arith, skipped) in same)
    ∙ c.weigh.ensures.near i (omega (arith, long, l))
    ∙ ap (λ u. o.times u (entry o (take (c.min-end.result - s) (drop s ws)) i)) (entry-part o values s (c.min-end.result - s) i (omega (arith, ended, l)))
    ∙ ap (o.times (entry o values (s + i))) (entry-part o ws s (c.min-end.result - s) i (omega (arith, ended, l))))
    (λ i l k. c.weigh.ensures.far i (omega (arith, long, skipped, short, l)) (omega (arith, size, k))))

pub weigh-requires-clause-same : goal.weigh-requires-clause-same
weigh-requires-clause-same g c = λ κs le.
    let row = c.args.row.now in
    let plan = row.kernels.now.plan in
    let start = c.args.v * plan.block in
    let n = c.min-end.result - start in
    let within : start + n ≤ plan.count = omega (arith, row.kernels.now.ready.planned.blocks.begins c.args.v c.requires.block, c.min-end.ensures) in
    length_part row.weights.now start n (omega (arith, within, row.weighted.0)) ∙ sym (length_part row.values.now start n (omega (arith, within, row.count)))

pub weigh-requires-clause-room : goal.weigh-requires-clause-room
weigh-requires-clause-room g c = λ κs le.
    let row = c.args.row.now in
    let plan = row.kernels.now.plan in
    let planned = row.kernels.now.ready.planned in
    let start = c.args.v * plan.block in
    let n = c.min-end.result - start in
    let within : start + n ≤ plan.count = omega (arith, planned.blocks.begins c.args.v c.requires.block, c.min-end.ensures) in
    let short : n ≤ plan.block = omega (arith, c.min-end.ensures) in
    omega (arith, length_part row.values.now start n (omega (arith, within, row.count)), short, planned.room, planned.moves, c.requires.out)

pub forward-requires-after_bounds : goal.forward-requires-after_bounds
forward-requires-after_bounds g c = λ κs le. c.weigh.auto.out ∙ c.requires.out

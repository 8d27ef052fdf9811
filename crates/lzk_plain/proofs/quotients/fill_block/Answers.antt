use Rattle.std.proofs.Common.{◌≡◌, ◌-◌, ◌<◌, length, ap, ◌∙◌, arith, slice_set, get_or-set_other, get_or-set_same, below_more}
use Rattle.std.proofs.lemmas.List.{get_or_default}
use Rattle.lzk_field.specs.Sums.{entry}
use Rattle.lzk_plain.proofs.quotients.fill_block.Goals as goal

pub loop-k-preserved : goal.loop-k-preserved
loop-k-preserved g c =
    let o = g.F.Field.ops in
    let values = c.args.values.now in
    let weights = c.args.weights.now in
    let block = c.loop-k.block in
    let k = c.loop-k.k in
    let last = length c.args.block.now - 1 in
    let at = length block - 1 - k in
    let size : length block ≡ length c.args.block.now = c.loop-k.auto.block in
    let below : k < length block = omega (arith, c.loop-k-test.true, size) in
    let same : at ≡ last - k = omega (arith, size) in
    let value : c.index-values-from_end.result ≡ entry o values (last - k) =
    c.index-values-from_end.is ∙ get_or_default values at c.index-values-from_end.result o.zero (omega (arith, below, size, c.requires.values)) ∙ ap (entry o values) same in
    let weight : c.index-weights-from_end.result ≡ entry o weights (last - k) =
    c.index-weights-from_end.is ∙ get_or_default weights at c.index-weights-from_end.result o.zero (omega (arith, below, size, c.requires.weights)) ∙ ap (entry o weights) same in
    let here = c.mul.ensures ∙ ap (λ w. o.times w c.index-weights-from_end.result) value ∙ ap (o.times (entry o values (last - k))) weight in
    below_more (λ j. entry o (slice_set block k c.mul.result) j ≡ o.times (entry o values (last - j)) (entry o weights (last - j))) k
    (λ j h. get_or-set_other block k j c.mul.result o.zero (omega (arith, h)) ∙ c.loop-k.invariant j h)
    (get_or-set_same block k c.mul.result o.zero below ∙ here)

pub returns : goal.returns
returns g c =
    let o = g.F.Field.ops in
    let values = c.args.values.now in
    let weights = c.args.weights.now in
    let block = c.loop-k.block in
    λ k h.
    let same : length c.args.block.now - 1 - k ≡ length block - 1 - k = omega (arith, c.loop-k.auto.block) in
    c.loop-k.invariant k (omega (arith, h, c.loop-k-test.false, c.loop-k.auto.block)) ∙ ap (λ i. o.times (entry o values i) (entry o weights i)) same

use Rattle.std.proofs.Common.{◌≡◌, ◌∙◌, arith, length}
use Rattle.lzk_mle.proofs.LoopStates.{doubled_zeros, doubled_ones}
use Rattle.lzk_mle.proofs.tables.double.Goals as goal

pub returns-clause-zeros : goal.returns-clause-zeros
returns-clause-zeros g c =
    let was = c.split_at_mut-low.result.0.now in
    let high = c.fill_ones.new.high in
    let size = c.args.size in
    let long : length was ≡ size = c.split_at_mut-low.ensures.front_len in
    let filled : length high ≡ size = c.fill_ones.ensures.length ∙ c.split_at_mut-high.ensures.front_len in
    doubled_zeros g.F.Field.ops g.F.Field.laws.ring c.args.x c.args.table.now c.take_ones.new.low high c.split_at_mut-high.result.1.now was size
    c.split_at_mut-low.ensures.front (omega (arith, c.take_ones.ensures.length, long))
    (λ i l. c.take_ones.ensures.differences i (omega (arith, filled, l))) (λ i l. c.fill_ones.ensures.products i (omega (arith, long, l)))

pub returns-clause-ones : goal.returns-clause-ones
returns-clause-ones g c =
    let was = c.split_at_mut-low.result.0.now in
    let high = c.fill_ones.new.high in
    let size = c.args.size in
    let long : length was ≡ size = c.split_at_mut-low.ensures.front_len in
    let filled : length high ≡ size = c.fill_ones.ensures.length ∙ c.split_at_mut-high.ensures.front_len in
    doubled_ones g.F.Field.ops g.F.Field.laws.ring c.args.x c.args.table.now c.take_ones.new.low high c.split_at_mut-high.result.1.now was size
    c.split_at_mut-low.ensures.front (c.take_ones.ensures.length ∙ long) (omega (arith, filled)) (λ i l. c.fill_ones.ensures.products i (omega (arith, long, l)))

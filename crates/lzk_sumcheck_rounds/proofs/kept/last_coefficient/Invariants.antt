use Rattle.std.proofs.Common.{◌≡◌, drop}
use Rattle.lzk_field.specs.Sums.{entry}
use Rattle.lzk_sumcheck_rounds.specs.Pairs.{spread}
use Rattle.lzk_sumcheck_rounds.proofs.kept.last_coefficient.Given as goal

abbrev pub invariant-loop-pair : goal.invariant-loop-pair
invariant-loop-pair g l =
    let o = g.F.Field.ops in
    o.plus l.total (spread o (drop l.pair-index l.pairs) 0 0) ≡ o.plus (o.times l.fn.scale (entry o l.linear 0)) (spread o l.pairs 0 0)

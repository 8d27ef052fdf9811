use Rattle.std.proofs.Common.{◌≡◌, ◌+◌, ◌∷◌}
use Rattle.lzk_field.specs.Sums.{entry, sum_below}
use Rattle.lzk_accept.proofs.linear.public_part.Given as goal

abbrev pub invariant-loop-i : goal.invariant-loop-i
invariant-loop-i g l =
    let o = g.F.Field.ops in
    l.total ≡ sum_below o (1 + l.i) (λ k. o.times (o.plus (entry o l.prepared.first.now k) (o.times l.prepared.exchange.scripted.script.now.gamma (entry o l.prepared.second.now k))) (entry o (o.one ∷ l.prepared.exchange.public.now) k))

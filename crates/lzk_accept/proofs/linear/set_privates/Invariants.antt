use Rattle.std.proofs.Common.{◌≡◌, ℕ, ◌+◌, ◌<◌, ◌≤◌, length}
use Rattle.lzk_field.specs.Sums.{entry}
use Rattle.lzk_accept.proofs.linear.set_privates.Given as goal

abbrev pub invariant-loop-k : goal.invariant-loop-k
invariant-loop-k g l =
    let o = g.F.Field.ops in
    record {
      length : length l.own ≡ length l.fn.own;
      entries : (i : ℕ) → l.prepared.skip ≤ i → i < l.k → entry o l.own i ≡ o.plus (entry o l.prepared.first.now (1 + l.publics + i)) (o.times l.prepared.exchange.scripted.script.now.gamma (entry o l.prepared.second.now (1 + l.publics + i)));
      after : (i : ℕ) → l.k ≤ i → entry o l.own i ≡ entry o l.fn.own i;
    }

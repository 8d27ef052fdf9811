use Rattle.std.proofs.Common.{◌≡◌, ℕ, ◌+◌}
use Rattle.lzk_field.specs.Sums.{entry, sum_below}
use Rattle.lzk_accept.specs.Kept.{coefficient_in, form_at}
use Rattle.lzk_accept.proofs.combination.sum_forms.Given as goal

abbrev pub invariant-loop-i : goal.invariant-loop-i
invariant-loop-i g l =
    let o = g.F.Field.ops in
    record {
      entries : (k : ℕ) → entry o l.sums k ≡ sum_below o l.i (λ i. o.times (entry o l.kept.lambda.now i) (coefficient_in o l.kept.own.now (form_at o l.kept.forms.now i) (l.kept.skip + k)));
      rights : l.wanted ≡ sum_below o l.i (λ i. o.times (entry o l.kept.lambda.now i) (form_at o l.kept.forms.now i).right);
    }

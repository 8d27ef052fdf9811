use Rattle.lzk_profile.specs.Profile.{opened_count}
use Rattle.std.proofs.Common.{◌≡◌, ◌+◌}
use Rattle.lzk_field.specs.Sums.{sum_below, entry}
use Rattle.lzk_verify.proofs.low_degree.found_sum.Given as goal

abbrev pub invariant-loop-s : goal.invariant-loop-s
invariant-loop-s g l = l.sum ≡ sum_below g.F.Field.ops l.s (λ i. entry g.F.Field.ops l.values (opened_count + i))

use Rattle.std.proofs.Common.{◌≡◌}
use Rattle.lzk_field.specs.Sums.{sum_below}
use Rattle.lzk_sumcheck_rounds.proofs.CurveLaws.{even_at, lead_at}
use Rattle.lzk_sumcheck_rounds.proofs.curve.round_sums.Given as goal

abbrev pub invariant-loop-i : goal.invariant-loop-i
invariant-loop-i g l = let o = g.F.Field.ops in (l.even ≡ sum_below o l.i (even_at o l.rows l.table)) × (l.lead ≡ sum_below o l.i (lead_at o l.rows l.table))

use Rattle.std.proofs.Common.{◌≡◌, ◌*◌}
use Rattle.lzk_field.specs.Sums.{sum_below}
use Rattle.lzk_sumcheck_rounds.specs.Parts.{sums_in}
use Rattle.lzk_sumcheck_rounds.specs.Rows.{round_at}
use Rattle.lzk_sumcheck_rounds.proofs.CurveLaws.{sums_of}
use Rattle.lzk_sumcheck_rounds.proofs.parts.add_parts.Given as goal

abbrev pub invariant-loop-k : goal.invariant-loop-k
invariant-loop-k g l = let o = g.F.Field.ops in (t : g.row.F.Denot) → round_at o (sums_of o l.all l.even l.lead) t ≡ sum_below o l.k (λ k. round_at o (sums_in o l.parts (k * l.size)) t)

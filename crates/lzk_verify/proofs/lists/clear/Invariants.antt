use Rattle.lzk_sumcheck.proofs.Filled.{IsFilled}
use Rattle.lzk_verify.proofs.lists.clear.Given as goal

abbrev pub invariant-loop-s : goal.invariant-loop-s
invariant-loop-s g l = IsFilled g.F.Field.ops.zero (λ k. g.F.Field.ops.zero) l.s l.list

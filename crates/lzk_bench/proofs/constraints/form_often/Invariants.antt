use Rattle.std.proofs.Common.{◌≡◌, length}
use Rattle.lzk_layout.specs.Sizes.{sent_counts}
use Rattle.lzk_accept.specs.Kept.{AreFormsOf}
use Rattle.lzk_bench.proofs.constraints.form_often.Given as goal

abbrev pub invariant-loop : goal.invariant-loop
invariant-loop g l = record { made : AreFormsOf g.F.Field.ops l.circuit l.forms; messages : length l.messages ≡ sent_counts l.circuit }

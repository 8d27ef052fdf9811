use Rattle.std.proofs.Common.{◌∙◌}
use Rattle.lzk_source.specs.Halves.{reads_of}
use Rattle.lzk_expr.proofs.Outcomes.{on_ok}
use Rattle.lzk_source.proofs.GrowthLaws.{minus_sign, minus_before}
use Rattle.lzk_source.proofs.reads.Reads.minus.Goals as goal

pub returns-then-self : goal.returns-then-self
returns-then-self c = λ a h. on_ok c.part.result (λ e. e ∙ minus_sign (reads_of c.args.self.now) a c.if-self.true h) c.part.ensures

pub returns : goal.returns
returns c = λ a h. minus_before (reads_of c.args.self.now) a c.if-self.false h

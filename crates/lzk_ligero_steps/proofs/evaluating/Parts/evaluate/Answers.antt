use Rattle.lzk_ligero_steps.proofs.Outputs.{no-output, first-output}
use Rattle.lzk_ligero_steps.proofs.evaluating.Parts.evaluate.Goals as goal

pub returns-in-None-clause-outputs : goal.returns-in-None-clause-outputs
returns-in-None-clause-outputs g c = no-output g.F.Field.ops _ _ c.eval.ensures.checks c.in-None.ensures

pub returns-in-Some-clause-outputs : goal.returns-in-Some-clause-outputs
returns-in-Some-clause-outputs g c = first-output g.F.Field.ops _ _ c.eval.ensures.checks _ _ c.in-Some.ensures

use Rattle.std.specs.Prelude.{replicate}
use Rattle.std.proofs.Common.{length, ap, ◌∙◌}
use Rattle.std.proofs.lemmas.List.{length-replicate}
use Rattle.lzk_merkle.proofs.nodes.Tree.new.Goals as goal

pub returns-clause-count : goal.returns-clause-count
returns-clause-count c = ap length c.in_ok-leaves.ensures ∙ length-replicate c.args.n (replicate 32 0)

pub returns-clause-zeros : goal.returns-clause-zeros
returns-clause-zeros c = c.in_ok-leaves.ensures

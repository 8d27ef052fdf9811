use Rattle.lzk_soundness.proofs.TreesLaws.Binding.{openings_bind}
use Rattle.lzk_soundness.proofs.TreesLaws.Preceding.{openings_precede}
use Rattle.lzk_soundness.proofs.trees.tree_laws.Goals as goal

pub returns-clause-bind : goal.returns-clause-bind
returns-clause-bind g c = λ same h none answers questions tries ask wins distinct inside only. openings_bind same h none answers questions tries ask wins distinct inside only

pub returns-clause-precede : goal.returns-clause-precede
returns-clause-precede g c = λ same h none answers questions tries most names ask wins distinct few are inside only. openings_precede same h none answers questions tries most names ask wins distinct few are inside only

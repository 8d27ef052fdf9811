use Rattle.lzk_soundness.proofs.NearLaws.Alls.{combinations_rare, same_elements}
use Rattle.lzk_soundness.proofs.NearLaws.Columns.{far_agrees_rarely}
use Rattle.lzk_soundness.proofs.NearLaws.Lists.{mixes_rare}
use Rattle.lzk_soundness.proofs.NearLaws.Mixes.{mixes_few, far_unless_bad}
use Rattle.lzk_soundness.proofs.near.mix_laws.Goals as goal

pub returns-clause-weights : goal.returns-clause-weights
returns-clause-weights g c = let m = g.F.Field in mixes_few m.ops m.laws.ring m.laws.field

pub returns-clause-far : goal.returns-clause-far
returns-clause-far g c = let m = g.F.Field in far_unless_bad m.ops m.laws.ring

pub returns-clause-lists : goal.returns-clause-lists
returns-clause-lists g c = let m = g.F.Field in mixes_rare m.ops m.laws.ring m.laws.field

pub returns-clause-columns : goal.returns-clause-columns
returns-clause-columns g c = let m = g.F.Field in far_agrees_rarely m.ops

pub returns-clause-all : goal.returns-clause-all
returns-clause-all g c = let m = g.F.Field in combinations_rare m.ops m.laws.ring m.laws.field (same_elements m.laws.numbers)

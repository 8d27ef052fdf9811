use Rattle.std.proofs.Common.{arith}
use Rattle.lzk_ligero_answers.proofs.ChangedLaws.{zero_nowhere_else}
use Rattle.lzk_ligero_answers.proofs.laws.value_laws.Goals as goal

pub returns : goal.returns
returns g c = record {
  zeros = λ n cs at s t short apart zero_at some away. let m = g.F.Field in zero_nowhere_else m.ops m.laws.ring m.laws.field n cs at (omega (arith, short)) apart zero_at s some t away;
}

use Rattle.lzk_soundness.proofs.CountLaws.Count.{bluffs_rare, false_rare, passers_know}
use Rattle.lzk_soundness.proofs.CountLaws.Elements.{elements_all}
use Rattle.lzk_soundness.proofs.count.count_laws.Goals as goal

pub returns-clause-know : goal.returns-clause-know
returns-clause-know g c = let m = g.F.Field in passers_know m.ops m.coding m.laws

pub returns-clause-bluffs : goal.returns-clause-bluffs
returns-clause-bluffs g c = let m = g.F.Field in λ c public strategy wins bluff large. bluffs_rare m.ops m.coding m.laws c public strategy wins bluff large

pub returns-clause-rare : goal.returns-clause-rare
returns-clause-rare g c = let m = g.F.Field in λ c public strategy wins cheat large. false_rare m.ops m.coding m.laws c public strategy wins cheat large

pub returns-clause-elements : goal.returns-clause-elements
returns-clause-elements g c = let m = g.F.Field in elements_all m.coding m.laws.numbers

pub returns-clause-players : goal.returns-clause-players
returns-clause-players g c = λ c public strategy wins valid publics prover only. record {
  valid = valid;
  publics = publics;
  prover = prover;
  only = only;
}

use Rattle.lzk_circuit.specs.Valid.{wiring_of}
use Rattle.lzk_circuit.proofs.VersionLaws.{upgraded-valid}
use Rattle.lzk_circuit.proofs.circuit.Circuit.upgraded.Goals as goal

pub invariant_of-result : goal.invariant_of-result
invariant_of-result g c = let s = c.self.inside in upgraded-valid g.F.Field.ops (wiring_of s.version s.publics s.privates s.layers.items) c.self.invariant

use Rattle.lzk_circbytes.specs.Files.{id_of_any}
use Rattle.lzk_batch.proofs.Mapped.{mapped_more, mapped_all}
use Rattle.lzk_batch.proofs.batch.ids_of.Goals as goal

pub loop-i-init : goal.loop-i-init
loop-i-init c = c.in-Ok.ensures.items

pub loop-i-preserved : goal.loop-i-preserved
loop-i-preserved c =
    mapped_more id_of_any c.args.circuits.now c.loop-i.i c.index-circuits-i.result _ c.loop-i.ids.items c.push.new.self.items c.in-Ok-id_of_circuit.id c.loop-i-test.true c.loop-i.invariant
    c.index-circuits-i.is c.in-Ok-id_of_circuit.ensures c.in-Ok-push.ensures.items

pub returns : goal.returns
returns c = mapped_all id_of_any c.args.circuits.now c.loop-i.i c.loop-i.ids.items c.loop-i-test.false c.loop-i.invariant

use Rattle.std.proofs.Common.{refl, slice_index_or}
use Rattle.lzk_batch.proofs.Mapped.{mapped_more, mapped_all}
use Rattle.lzk_cmd_batch.specs.declared.kept.CircuitFile.{CircuitFile}
use Rattle.lzk_cmd_batch.proofs.kept.ids_of.Goals as goal

pub loop-i-init : goal.loop-i-init
loop-i-init c = c.in_ok-ids.ensures.items

pub loop-i-preserved : goal.loop-i-preserved
loop-i-preserved c =
    mapped_more (λ (file : CircuitFile). file.id) c.args.files.now c.loop-i.i (slice_index_or c.args.files.now c.loop-i.i _) _ c.loop-i.ids.items c.push.new.self.items _ c.loop-i-test.true c.loop-i.invariant
    refl refl c.in_ok-push.ensures.items

pub returns : goal.returns
returns c = mapped_all (λ (file : CircuitFile). file.id) c.args.files.now c.loop-i.i c.loop-i.ids.items c.loop-i-test.false c.loop-i.invariant

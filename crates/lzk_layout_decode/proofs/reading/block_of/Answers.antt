use Rattle.std.proofs.Common.{length, ap, arith}
use Rattle.std.proofs.lemmas.List.{length-take}
use Rattle.lzk_layout.specs.Fields.{plain}
use Rattle.lzk_layout.proofs.FieldLaws.{field_short, plain_read}
use Rattle.lzk_layout_decode.proofs.reading.block_of.Goals as goal

pub returns-in-Some-clause-read : goal.returns-in-Some-clause-read
returns-in-Some-clause-read c = λ s. let cut = c.in-Some.ensures.cases in plain_read s c.args.bytes.now _ _ (omega (arith, cut.2)) cut.0 cut.1

pub returns-in-None-clause-read : goal.returns-in-None-clause-read
returns-in-None-clause-read c = λ s. rw c.stop.ensures (field_short s plain c.args.bytes.now (omega (arith, c.in-None.ensures.cases)))

pub returns-in-Some-clause-length : goal.returns-in-Some-clause-length
returns-in-Some-clause-length c =
    let cut = c.in-Some.ensures.cases in
    omega (arith, ap length cut.0, cut.2, length-take 32 c.args.bytes.now)

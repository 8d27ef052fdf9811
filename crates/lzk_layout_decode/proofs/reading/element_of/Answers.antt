use Rattle.std.proofs.Common.{◌∙◌, arith}
use Rattle.lzk_layout.specs.Fields.{shape, element}
use Rattle.lzk_layout.proofs.FieldLaws.{field_short, element_read, element_stops}
use Rattle.lzk_layout_decode.proofs.reading.element_of.Goals as goal

pub returns-then-bytes-BYTES : goal.returns-then-bytes-BYTES
returns-then-bytes-BYTES g c =
    let s = shape g.F.Field.coding.bytes g.F.Field.coding.size in
    rw c.stop.ensures (field_short s element c.args.bytes.now (omega (arith, c.if-bytes-BYTES.true, c.BYTES.ensures ∙ g.F.Field.coded_bytes)))

pub split_at-requires : goal.split_at-requires
split_at-requires g c = omega (arith, c.if-bytes-BYTES.false, c.BYTES.ensures, c.BYTES-2.ensures)

pub of_le-requires : goal.of_le-requires
of_le-requires g c = c.split_at.ensures.front_len ∙ c.BYTES-2.ensures ∙ g.F.Field.coded_bytes

pub returns-in-Some : goal.returns-in-Some
returns-in-Some g c =
    let s = shape g.F.Field.coding.bytes g.F.Field.coding.size in
    let cut = c.split_at.ensures in
    let read = c.in-Some.ensures in
    element_read s c.args.bytes.now c.split_at.result.0.now c.BYTES-2.result (c.BYTES-2.ensures ∙ g.F.Field.coded_bytes) (omega (arith, c.if-bytes-BYTES.false, c.BYTES.ensures, c.BYTES-2.ensures)) cut.front c.split_at.result.1.now _ cut.back read.value.0 read.only

pub returns-in-None : goal.returns-in-None
returns-in-None g c =
    let s = shape g.F.Field.coding.bytes g.F.Field.coding.size in
    let cut = c.split_at.ensures in
    rw c.stop-in-None.ensures (element_stops s c.args.bytes.now c.split_at.result.0.now c.BYTES-2.result (c.BYTES-2.ensures ∙ g.F.Field.coded_bytes) (omega (arith, c.if-bytes-BYTES.false, c.BYTES.ensures, c.BYTES-2.ensures)) cut.front c.in-None.ensures.value)

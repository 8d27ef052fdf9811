use Rattle.std.proofs.Common.{◌≡◌, ◌-◌, length, map, take, replicate}
use Rattle.lzk_layout.specs.Proofs.{element_field}
use Rattle.lzk_layout.specs.Fields.{shape, element, fields_at}
use Rattle.lzk_layout.proofs.FieldLaws.{behind}
use Rattle.lzk_layout_decode.proofs.reading.elements_into.Given as goal

abbrev pub invariant-loop-i : goal.invariant-loop-i
invariant-loop-i g l =
    let s = shape g.F.Field.coding.bytes g.F.Field.coding.size in
    let n = length l.initial.out in
    fields_at s (replicate n element) l.bytes ≡ behind (map (element_field g.F.Field.coding.bytes g.F.Field.coding.number) (take l.i l.out)) (fields_at s (replicate (n - l.i) element) l.rest)

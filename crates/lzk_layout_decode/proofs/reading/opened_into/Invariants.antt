use Rattle.std.proofs.Common.{◌≡◌, ℕ, ◌<◌, [], get_or, ◌-◌, ◌*◌, length, take}
use Rattle.lzk_layout.specs.Proofs.{element_field, opened_fields}
use Rattle.lzk_layout.specs.Fields.{shape, fields_at, opened_sorts}
use Rattle.lzk_layout.proofs.FieldLaws.{behind}
use Rattle.lzk_layout_decode.proofs.reading.opened_into.Given as goal

abbrev pub invariant-loop-i : goal.invariant-loop-i
invariant-loop-i g l =
    let s = shape g.F.Field.coding.bytes g.F.Field.coding.size in
    let field = element_field g.F.Field.coding.bytes g.F.Field.coding.number in
    let n = length l.initial.nonces in
    record {
      at : l.at ≡ l.i * l.rows;
      digests : (k : ℕ) → k < l.i → length (get_or l.nonces k []) ≡ 32;
      read : fields_at s (opened_sorts l.rows n) l.bytes ≡ behind (opened_fields field l.rows (take l.i l.nonces) (take l.at l.columns)) (fields_at s (opened_sorts l.rows (n - l.i)) l.rest);
    }

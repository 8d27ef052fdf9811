use Rattle.std.proofs.Common.{◌≡◌, ◌-◌, length, replicate}
use Rattle.lzk_layout.specs.Proofs.{AreDigests}
use Rattle.lzk_layout.specs.Fields.{Shape, plain, fields_at}
use Rattle.lzk_layout.proofs.FieldLaws.{behind}
use Rattle.lzk_layout_decode.proofs.reading.path_into.Given as goal

abbrev pub invariant-loop : goal.invariant-loop
invariant-loop l = record {
  room : l.path.room ≡ l.initial.path.room;
  count : length l.path.digests ≡ l.counter;
  digests : AreDigests l.path.digests;
  read : (s : Shape) → fields_at s (replicate l.number plain) l.initial.rest ≡ behind l.path.digests (fields_at s (replicate (l.number - l.counter) plain) l.rest);
}

use Rattle.std.proofs.Common.{◌≡◌, ◌+◌, ◌*◌, ◌++◌, length, take, drop}
use Rattle.lzk_layout.specs.Proofs.{flat, element_field, opened_fields}
use Rattle.lzk_layout.proofs.encoding.put_opened.Given as goal

abbrev pub invariant-loop-i : goal.invariant-loop-i
invariant-loop-i g l =
    let field = element_field g.F.Field.coding.bytes g.F.Field.coding.number in
    record {
      end : l.end ≡ l.at + l.i * (32 + g.F.Field.coding.bytes * l.rows);
      rest : length l.rest + l.i * l.rows ≡ length l.columns;
      length : length l.out ≡ length l.initial.out;
      front : take l.end l.out ++ flat (opened_fields field l.rows (drop l.i l.nonces) l.rest) ≡ take l.at l.initial.out ++ flat (opened_fields field l.rows l.nonces l.columns);
    }

use Rattle.std.proofs.Common.{◌≡◌, ◌+◌, ◌*◌, ◌++◌, length, map, take, drop}
use Rattle.lzk_layout.specs.Proofs.{flat, element_field}
use Rattle.lzk_layout.proofs.encoding.put_elements.Given as goal

abbrev pub invariant-loop-i : goal.invariant-loop-i
invariant-loop-i g l =
    let field = element_field g.F.Field.coding.bytes g.F.Field.coding.number in
    record {
      end : l.end ≡ l.at + g.F.Field.coding.bytes * l.i;
      length : length l.out ≡ length l.initial.out;
      front : take l.end l.out ++ flat (map field (drop l.i l.list)) ≡ take l.at l.initial.out ++ flat (map field l.list);
    }

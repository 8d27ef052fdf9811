use Rattle.std.proofs.Common.{◌≡◌, ◌+◌, ◌*◌, ◌++◌, length, take, drop}
use Rattle.lzk_layout.specs.Proofs.{flat}
use Rattle.lzk_layout.proofs.encoding.put_blocks.Given as goal

abbrev pub invariant-loop-i : goal.invariant-loop-i
invariant-loop-i l = record {
  end : l.end ≡ l.at + 32 * l.i;
  length : length l.out ≡ length l.initial.out;
  front : take l.end l.out ++ flat (drop l.i l.blocks) ≡ take l.at l.initial.out ++ flat l.blocks;
}

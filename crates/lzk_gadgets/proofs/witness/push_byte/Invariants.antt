use Rattle.std.proofs.Common.{◌≡◌, ◌-◌, ◌++◌, map}
use Rattle.std.specs.List.{range_with_len}
use Rattle.std.specs.Int.{bit_at}
use Rattle.lzk_goldilocks.specs.Elements.{of_number}
use Rattle.lzk_gadgets.proofs.witness.push_byte.Given as goal

abbrev pub invariant-loop-i : goal.invariant-loop-i
invariant-loop-i l = l.bits.items ≡ l.initial.bits.items ++ map (λ j. of_number (bit_at l.byte (8 - 1 - j))) (range_with_len 0 l.i)

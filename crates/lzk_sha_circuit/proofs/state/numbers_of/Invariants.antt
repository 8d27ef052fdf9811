use Rattle.std.proofs.Common.{◌≡◌, map, take}
use Rattle.lzk_goldilocks.specs.Elements.{number}
use Rattle.lzk_sha_circuit.proofs.state.numbers_of.Given as goal

abbrev pub invariant-loop-i : goal.invariant-loop-i
invariant-loop-i l = l.words.items ≡ map number (take l.i l.elements)

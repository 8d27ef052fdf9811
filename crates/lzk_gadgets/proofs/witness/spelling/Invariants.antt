use Rattle.lzk_gadgets.proofs.WitnessLaws.{Spelling}
use Rattle.lzk_gadgets.proofs.witness.spelling.Given as goal

abbrev pub invariant-loop-k : goal.invariant-loop-k
invariant-loop-k l = Spelling l.number l._k l.rest l.bits.items

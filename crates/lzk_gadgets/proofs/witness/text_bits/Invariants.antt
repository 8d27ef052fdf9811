use Rattle.std.proofs.Common.{◌≡◌, take}
use Rattle.lzk_gadgets.specs.Texts.{text_bits}
use Rattle.lzk_gadgets.proofs.witness.text_bits.Given as goal

abbrev pub invariant-loop-byte : goal.invariant-loop-byte
invariant-loop-byte l = l.bits.items ≡ text_bits (take l.byte-index l.text)

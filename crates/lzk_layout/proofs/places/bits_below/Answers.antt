use Rattle.std.proofs.Common.{◌+◌, sym, arith}
use Rattle.lzk_layout.proofs.SizeLaws.{narrow}
use Rattle.lzk_layout.proofs.PlaceLaws.{no_bits}
use Rattle.lzk_layout.proofs.places.bits_below.Goals as goal

pub bits_of-requires : goal.bits_of-requires
bits_of-requires g c = rw c.width.ensures (narrow g.F.Field.ops c.args.circuit.now (c.args.l + 1) c.requires.valid)

pub returns-else-l-depth-clause-bits : goal.returns-else-l-depth-clause-bits
returns-else-l-depth-clause-bits g c = sym (no_bits c.args.circuit.now c.args.l (omega (arith, c.requires.depth)))

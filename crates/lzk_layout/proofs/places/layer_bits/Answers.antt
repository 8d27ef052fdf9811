use Rattle.lzk_layout.proofs.SizeLaws.{narrow}
use Rattle.lzk_layout.proofs.places.layer_bits.Goals as goal

pub bits_of-requires : goal.bits_of-requires
bits_of-requires g c = rw c.width.ensures (narrow g.F.Field.ops c.args.circuit.now c.args.l c.valid_laws.ensures)

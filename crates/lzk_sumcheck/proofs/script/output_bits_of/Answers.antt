use Rattle.lzk_layout.proofs.SizeLaws.{narrow}
use Rattle.lzk_sumcheck.proofs.script.output_bits_of.Goals as goal

pub bits_of-requires : goal.bits_of-requires
bits_of-requires g c = rw c.width.ensures (narrow g.F.Field.ops c.args.circuit.now 0 c.valid_laws.ensures)

use Rattle.lzk_afft.proofs.points.+evaluate_block.Given as goal

abbrev pub decreases-evaluate_block : goal.decreases-evaluate_block
decreases-evaluate_block g l = l.bits

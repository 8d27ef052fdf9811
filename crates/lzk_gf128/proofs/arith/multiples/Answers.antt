use Rattle.lzk_gf128.proofs.Multiples.{multiples_are}
use Rattle.lzk_gf128.proofs.arith.multiples.Goals as goal

pub returns : goal.returns
returns c = multiples_are c.args.a _ _ _ c.doubled-a2.ensures c.doubled-a4.ensures c.doubled-a8.ensures

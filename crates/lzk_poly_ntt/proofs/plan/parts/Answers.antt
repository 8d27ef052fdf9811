use Rattle.std.proofs.Common.{refl}
use Rattle.lzk_poly_ntt.proofs.Pieces.{covered}
use Rattle.lzk_poly_ntt.proofs.plan.parts.Goals as goal

pub returns : goal.returns
returns c = covered c.args.whole c.args.size _ c.requires.size refl

use Rattle.lzk_goldilocks.specs.Elements.{ops, ring}
use Rattle.lzk_poly_ntt.proofs.RootLaws.{root_by_powers}
use Rattle.lzk_poly_ntt.proofs.gold.root_of.Goals as goal

pub returns : goal.returns
returns c = root_by_powers ops ring c.args.bits c.root_of_unity.result c.root_of_unity.ensures.closes c.root_of_unity.ensures.halfway

use Rattle.lzk_poly_ntt.proofs.Goldilocks.{even, two}
use Rattle.lzk_poly_ntt.proofs.gold.NttExtenderGoldRowExtendGold.make.Goals as goal

pub with_plan-requires-clause-even : goal.with_plan-requires-clause-even
with_plan-requires-clause-even c κs = even _

pub with_plan-requires-clause-two : goal.with_plan-requires-clause-two
with_plan-requires-clause-two c κs = two

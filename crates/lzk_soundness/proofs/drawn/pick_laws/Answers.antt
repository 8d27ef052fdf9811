use Rattle.lzk_soundness.proofs.DrawnLaws.Picks.{tapes_pick, picks_even, sets_picked, sets_even, bias_small}
use Rattle.lzk_soundness.proofs.drawn.pick_laws.Goals as goal

pub returns-clause-tape : goal.returns-clause-tape
returns-clause-tape g c = tapes_pick

pub returns-clause-even : goal.returns-clause-even
returns-clause-even g c = picks_even

pub returns-clause-picked : goal.returns-clause-picked
returns-clause-picked g c = sets_picked

pub returns-clause-sets : goal.returns-clause-sets
returns-clause-sets g c = sets_even

pub returns-clause-bias : goal.returns-clause-bias
returns-clause-bias g c = bias_small g.F.Field.ops

use Rattle.lzk_soundness.proofs.ChanceLaws.Sets.{sets_counted, sets_few, choose_lists, pairs_few}
use Rattle.lzk_soundness.proofs.chance.set_laws.Goals as goal

pub returns-clause-counted : goal.returns-clause-counted
returns-clause-counted g c = λ k xs. sets_counted k xs

pub returns-clause-lists : goal.returns-clause-lists
returns-clause-lists g c = λ n k. choose_lists n k

pub returns-clause-few : goal.returns-clause-few
returns-clause-few g c = λ member k xs wins only. sets_few member k xs wins only

pub returns-clause-pairs : goal.returns-clause-pairs
returns-clause-pairs g c = λ test bad ys most xs all. pairs_few test bad ys most xs all

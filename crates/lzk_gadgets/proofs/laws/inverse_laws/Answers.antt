use Rattle.lzk_gadgets.proofs.InverseLaws.{inverses_are_of_nonzero, nonzeros_have_inverses, inverses_are_of_different, different_have_inverses}
use Rattle.lzk_gadgets.proofs.laws.inverse_laws.Goals as goal

pub returns-clause-nonzero : goal.returns-clause-nonzero
returns-clause-nonzero c = inverses_are_of_nonzero

pub returns-clause-inverses : goal.returns-clause-inverses
returns-clause-inverses c = nonzeros_have_inverses

pub returns-clause-different : goal.returns-clause-different
returns-clause-different c = inverses_are_of_different

pub returns-clause-differences : goal.returns-clause-differences
returns-clause-differences c = different_have_inverses

use Rattle.std.proofs.Common.{refl}
use Rattle.lzk_accept.proofs.linear.set_form.Goals as goal

pub bounds-forms-i : goal.bounds-forms-i
bounds-forms-i g c = c.requires.place

pub returns : goal.returns
returns g c = refl

use Rattle.std.proofs.Common.{arith, refl}
use Rattle.lzk_level.proofs.forms.form_at.Goals as goal

pub bounds-starts-i : goal.bounds-starts-i
bounds-starts-i g c = omega (arith, c.requires.there)

pub bounds-starts-i-2 : goal.bounds-starts-i-2
bounds-starts-i-2 g c = c.requires.there

pub offset_bounds-terms-starts : goal.offset_bounds-terms-starts
offset_bounds-terms-starts g c = let p = c.requires.pieces c.args.i c.requires.there in omega (arith, p.0, p.1)

pub slice_bounds-result-count : goal.slice_bounds-result-count
slice_bounds-result-count g c = (c.requires.pieces c.args.i c.requires.there).0

pub slice_bounds-result-start : goal.slice_bounds-result-start
slice_bounds-result-start g c = (c.requires.pieces c.args.i c.requires.there).0

pub slice_bounds-result-end : goal.slice_bounds-result-end
slice_bounds-result-end g c = (c.requires.pieces c.args.i c.requires.there).1

pub returns : goal.returns
returns g c = refl

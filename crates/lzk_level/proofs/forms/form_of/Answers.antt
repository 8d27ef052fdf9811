use Rattle.std.proofs.Common.{◌≤◌, arith}
use Rattle.lzk_level.proofs.FormSteps.{beside-made, form-beside}
use Rattle.lzk_level.proofs.NodeForms.{next-high}
use Rattle.lzk_level.proofs.forms.form_of.Goals as goal

pub overflow_sub-k : goal.overflow_sub-k
overflow_sub-k g c =
    let o = g.F.Field.ops in
    let n = c.args.next.now in
    let high = next-high o n.inputs n.made.now n.depths.now n.starts.now n.terms.now n.i n.depth n.next in
    beside-made o n.inputs n.made.now n.depths.now n.starts.now n.terms.now n.i n.depth c.args.k n.next high c.requires.deep

pub form_at-requires-clause-there : goal.form_at-requires-clause-there
form_at-requires-clause-there g c κs within =
    let o = g.F.Field.ops in
    let n = c.args.next.now in
    let high = next-high o n.inputs n.made.now n.depths.now n.starts.now n.terms.now n.i n.depth n.next in
    let behind : n.inputs ≤ c.args.k = beside-made o n.inputs n.made.now n.depths.now n.starts.now n.terms.now n.i n.depth c.args.k n.next high c.requires.deep in
    omega (arith, behind, c.requires.part.before, n.next.count)

pub returns : goal.returns
returns g c =
    let o = g.F.Field.ops in
    let n = c.args.next.now in
    let high = next-high o n.inputs n.made.now n.depths.now n.starts.now n.terms.now n.i n.depth n.next in
    let behind = beside-made o n.inputs n.made.now n.depths.now n.starts.now n.terms.now n.i n.depth c.args.k n.next high c.requires.deep in
    form-beside o n.inputs n.made.now n.depths.now n.starts.now n.terms.now c.form_at.result.now n.i n.depth c.args.k n.next behind c.requires.part c.form_at.ensures

pub form_at-requires-clause-pieces : goal.form_at-requires-clause-pieces
form_at-requires-clause-pieces g c κs within = c.args.next.now.next.pieces

use Rattle.std.proofs.Common.{arith, ◌+◌, sym, subst}
use Rattle.std.proofs.lemmas.Bool.{false≢true}
use Rattle.lzk_level.specs.Forms.{IsPart}
use Rattle.lzk_level.proofs.NodeForms.{part-within}
use Rattle.lzk_level.proofs.forms.is_part_late.Goals as goal

pub overflow_cast-k : goal.overflow_cast-k
overflow_cast-k g c = omega (arith, c.number-number.type_inv)

pub offset_bounds-next-k : goal.offset_bounds-next-k
offset_bounds-next-k g c = omega (arith, c.number-number.type_inv)

pub bounds-next-k : goal.bounds-next-k
bounds-next-k g c =
    let n = c.args.next.now in
    omega (arith, c.number-number.ensures, part-within g.F.Field.ops n.inputs n.made.now n.depths.now n.starts.now n.terms.now n.i n.depth c.args.node n.next c.requires)

pub returns-then-next-k : goal.returns-then-next-k
returns-then-next-k g c = c.is_late.ensures

pub form_of-requires-clause-part : goal.form_of-requires-clause-part
form_of-requires-clause-part g c κs within =
    let n = c.args.next.now in
    subst (IsPart n.depths.now (n.inputs + n.i) n.depth) (sym c.number-number.ensures) c.requires

pub form_of-requires-clause-deep : goal.form_of-requires-clause-deep
form_of-requires-clause-deep g c κs within = c.if-next-k.false

pub returns-in-Some : goal.returns-in-Some
returns-in-Some g c = c.is_late-in-Some.ensures

pub returns-in-None : goal.returns-in-None
returns-in-None g c e = absurd (false≢true e)

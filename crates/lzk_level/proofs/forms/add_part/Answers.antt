use Rattle.std.proofs.Common.{◌<◌, ◌≤◌, ◌+◌, ◌++◌, ◌∷◌, [], ap, sym, subst, arith, IfOk}
use Rattle.lzk_circuit_reduce.specs.Renumbering.{at}
use Rattle.lzk_level.specs.Forms.{IsPart, IsSumForm}
use Rattle.lzk_level.proofs.NodeForms.{part-below, part-beside, part-within}
use Rattle.lzk_level.proofs.forms.add_part.Goals as goal

pub returns-then-next-k : goal.returns-then-next-k
returns-then-next-k g c parts s =
    let o = g.F.Field.ops in
    let n = c.args.next.now in
    let k = n.inputs + n.i in
    let p = c.args.part in
    let depths = n.depths.now in
    let e = c.add_term.ensures in
    let part : IsPart depths k n.depth c.number-number.result = subst (IsPart depths k n.depth) (sym c.number-number.ensures) c.requires in
    let low : at depths c.number-number.result < n.depth = omega (arith, c.if-next-k.true, ap (at depths) c.number-number.ensures, ap (at depths) c.number-number.ensures) in
    subst (λ q. IfOk c.add_term.result (λ _. IsSumForm o n.inputs n.made.now depths k n.depth (parts ++ q ∷ []) c.add_term.new.row.items)) (ap (λ j. (p.0, j)) c.number-number.ensures)
    (part-below o g.F.Field.laws.ring c.add_term.result n.inputs n.made.now depths k n.depth parts (p.0, c.number-number.result) c.args.row.now.items c.add_term.new.row.items n.next.graph (omega (arith, n.next.there)) part low e.row e.under e.value e.short s)

pub returns : goal.returns
returns g c parts s =
    let o = g.F.Field.ops in
    let n = c.args.next.now in
    let k = n.inputs + n.i in
    let p = c.args.part in
    let depths = n.depths.now in
    let e = c.add_multiple.ensures in
    let part : IsPart depths k n.depth c.number-number.result = subst (IsPart depths k n.depth) (sym c.number-number.ensures) c.requires in
    let deep : n.depth ≤ at depths c.number-number.result = omega (arith, c.if-next-k.false) in
    subst (λ q. IfOk c.add_multiple.result (λ _. IsSumForm o n.inputs n.made.now depths k n.depth (parts ++ q ∷ []) c.add_multiple.new.row.items)) (ap (λ j. (p.0, j)) c.number-number.ensures)
    (part-beside o g.F.Field.laws.ring c.add_multiple.result n.inputs n.made.now depths k n.depth parts (p.0, c.number-number.result) c.args.row.now.items c.add_multiple.new.row.items c.form_of.result.now part deep c.form_of.ensures e.row e.under e.value e.short s)

pub overflow_cast-k : goal.overflow_cast-k
overflow_cast-k g c = omega (arith, c.number-number.type_inv)

pub offset_bounds-next-k : goal.offset_bounds-next-k
offset_bounds-next-k g c = omega (arith, c.number-number.type_inv)

pub bounds-next-k : goal.bounds-next-k
bounds-next-k g c =
    let n = c.args.next.now in
    omega (arith, c.number-number.ensures, part-within g.F.Field.ops n.inputs n.made.now n.depths.now n.starts.now n.terms.now n.i n.depth c.args.part.1 n.next c.requires)

pub form_of-requires-clause-part : goal.form_of-requires-clause-part
form_of-requires-clause-part g c κs within =
    let n = c.args.next.now in
    subst (IsPart n.depths.now (n.inputs + n.i) n.depth) (sym c.number-number.ensures) c.requires

pub form_of-requires-clause-deep : goal.form_of-requires-clause-deep
form_of-requires-clause-deep g c κs within = c.if-next-k.false

use Rattle.std.proofs.Common.{◌+◌, ◌∙◌, drop, sym}
use Rattle.lzk_circuit.proofs.FaultLaws.{no_some, from_here, term-passes, term-fails, terms-end}
use Rattle.lzk_circuit.proofs.check.check_terms.Goals as goal

pub returns-in-Some : goal.returns-in-Some
returns-in-Some g c =
    let number = g.F.Field.coding.number in
    let i = c.loop-place.place in
    let ts = c.args.terms.now in
    let t = c.index-terms-place.result in
    let front = from_here ts i t c.loop-place-test.true c.index-terms-place.is in
    term-fails number c.args.version c.args.layer c.args.wires c.args.width i c.loop-place.before ts (drop (i + 1) ts) t _ c.in-Some.kind front (sym c.find_fault.ensures ∙ c.in-Some.is) c.loop-place.invariant

pub loop-place-preserved : goal.loop-place-preserved
loop-place-preserved g c =
    let number = g.F.Field.coding.number in
    let i = c.loop-place.place in
    let ts = c.args.terms.now in
    let t = c.index-terms-place.result in
    let front = from_here ts i t c.loop-place-test.true c.index-terms-place.is in
    term-passes number c.args.version c.args.layer c.args.wires c.args.width i c.loop-place.before ts (drop (i + 1) ts) t _ front (sym c.find_fault.ensures ∙ no_some c.find_fault.result c.in_default.not-Some) c.loop-place.invariant

pub returns : goal.returns
returns g c = terms-end g.F.Field.coding.number c.args.version c.args.layer c.args.wires c.args.width c.loop-place.place c.loop-place.before c.args.terms.now _ c.loop-place-test.false c.loop-place.invariant

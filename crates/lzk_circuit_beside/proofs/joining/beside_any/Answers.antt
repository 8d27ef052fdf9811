use Rattle.std.proofs.Common.{◌≡◌, ◌∙◌, inr, ap, refl, sym, subst, arith, length, ◌+◌}
use Rattle.std.specs.Prelude.{◌↔◌}
use Rattle.lzk_circuit.specs.Valid.{Wiring, wiring_of, input_width, IsValid}
use Rattle.lzk_circuit.specs.Wires.{inputs_of, wires_of}
use Rattle.lzk_circuit_reduce.specs.Renumbering.{AreNumbersBelow}
use Rattle.lzk_circuit_beside.specs.Asserts.{AreAssertsZero}
use Rattle.lzk_circuit_beside.specs.Chosen.{chosen}
use Rattle.lzk_circuit_beside.specs.Levels.{IsSizedBeside}
use Rattle.lzk_circuit_beside.proofs.CheckLaws.{input-length, any-satisfied}
use Rattle.lzk_circuit_beside.proofs.JoinLaws.{fit-valid, sized-beside}
use Rattle.lzk_circuit_beside.proofs.joining.beside_any.Goals as goal

pub returns-in-Ok-of_version-clause-satisfied : goal.returns-in-Ok-of_version-clause-satisfied
returns-in-Ok-of_version-clause-satisfied g c public private np nq =
    let o = g.F.Field.ops in
    let first = c.args.first.now in
    let second = c.args.second.now in
    let is = c.in-Ok-of_version.ensures.circuit in
    let inputs = inputs_of o public private in
    let long : length inputs ≡ 1 + c.args.publics + c.args.privates = input-length o public private c.args.publics c.args.privates np nq in
    let hp = subst (λ n. AreNumbersBelow n first.places.now) (sym long) c.requires.first in
    let hq = subst (λ n. AreNumbersBelow n second.places.now) (sym long) c.requires.second in
    let values = c.in-Ok.ensures.values inputs (omega (arith, long)) refl hp hq in
    let asserts = c.in-Ok.ensures.asserts inputs (omega (arith, long)) refl hp hq in
    any-satisfied o g.F.Field.coding.size g.F.Field.coding.number g.F.Field.coding.element g.F.Field.coding.bytes g.F.Field.laws
    first.circuit.now second.circuit.now c.in-Ok-of_version.circuit first.places.now second.places.now inputs
    c.depth.ensures.valid c.depth-2.ensures.valid (subst (IsValid o) (sym is) c.in-Ok-of_version.ensures.valid) first.count second.count
    (long ∙ sym (ap (λ (w : Wiring g.row.F.Denot). input_width w) is)) (ap (λ (w : Wiring g.row.F.Denot). wires_of o w.layers inputs) is ∙ values)
    (subst (λ (w : Wiring g.row.F.Denot). AreAssertsZero o w.layers inputs ↔ (AreAssertsZero o first.circuit.now.layers (chosen o first.places.now inputs) × AreAssertsZero o second.circuit.now.layers (chosen o second.places.now inputs))) (sym is) asserts)

pub returns-in-Ok-of_version-clause-sizes : goal.returns-in-Ok-of_version-clause-sizes
returns-in-Ok-of_version-clause-sizes g c =
    let first = c.args.first.now in
    let second = c.args.second.now in
    let n = 1 + c.args.publics + c.args.privates in
    subst (IsSizedBeside first.circuit.now second.circuit.now) (sym c.in-Ok-of_version.ensures.circuit)
    (sized-beside g.F.Field.ops 2 n first.circuit.now second.circuit.now (wiring_of 2 c.args.publics c.args.privates c.in-Ok.layers.items)
    (c.in-Ok.ensures.levels 2 n (λ v. absurd (omega (arith, v))) (omega arith) c.requires.first c.requires.second))

pub returns-in-Err-clause-cause : goal.returns-in-Err-clause-cause
returns-in-Err-clause-cause g c = λ fit.
    let first = c.args.first.now in
    let second = c.args.second.now in
    let n = 1 + c.args.publics + c.args.privates in
    c.in-Err.ensures.valid
    (fit-valid g.F.Field.ops 2 c.args.publics c.args.privates first.circuit.now second.circuit.now c.in-Ok.layers.items (inr refl) c.requires.publics c.requires.privates c.depth.ensures.valid c.depth-2.ensures.valid
    (c.in-Ok.ensures.levels 2 n (λ v. absurd (omega (arith, v))) (omega arith) c.requires.first c.requires.second) fit)

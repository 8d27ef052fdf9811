use Rattle.std.proofs.Common.{◌≡◌, ◌∙◌, inl, ap, refl, sym, subst, arith, length, ◌+◌}
use Rattle.lzk_circuit.specs.Valid.{Wiring, wiring, input_width, IsValid}
use Rattle.lzk_circuit.specs.Wires.{inputs_of, wires_of}
use Rattle.lzk_circuit_reduce.specs.Renumbering.{AreNumbersBelow}
use Rattle.lzk_circuit_beside.specs.Levels.{IsSizedBeside}
use Rattle.lzk_circuit_beside.proofs.CheckLaws.{input-length, checks-joined, satisfied-joined}
use Rattle.lzk_circuit_beside.proofs.JoinLaws.{fit-valid, sized-beside}
use Rattle.lzk_circuit_beside.proofs.joining.beside.Goals as goal

pub returns-in-Ok-of_layers-clause-checks : goal.returns-in-Ok-of_layers-clause-checks
returns-in-Ok-of_layers-clause-checks g c public private np nq =
    let o = g.F.Field.ops in
    let first = c.args.first.now in
    let second = c.args.second.now in
    let whole = c.in-Ok-of_layers.circuit in
    let is = c.in-Ok-of_layers.ensures.circuit in
    let inputs = inputs_of o public private in
    let long : length inputs ≡ 1 + c.args.publics + c.args.privates = input-length o public private c.args.publics c.args.privates np nq in
    let values = c.in-Ok.ensures.values inputs (omega (arith, long)) refl (subst (λ n. AreNumbersBelow n first.places.now) (sym long) c.requires.first) (subst (λ n. AreNumbersBelow n second.places.now) (sym long) c.requires.second) in
    checks-joined o g.F.Field.coding.size g.F.Field.coding.number g.F.Field.coding.element g.F.Field.coding.bytes g.F.Field.laws
    first.circuit.now second.circuit.now whole first.places.now second.places.now inputs
    c.depth.ensures.valid c.depth-2.ensures.valid (subst (IsValid o) (sym is) c.in-Ok-of_layers.ensures.valid) first.version second.version (ap (λ (w : Wiring g.row.F.Denot). w.version) is) first.count second.count
    (long ∙ sym (ap (λ (w : Wiring g.row.F.Denot). input_width w) is)) (ap (λ (w : Wiring g.row.F.Denot). wires_of o w.layers inputs) is ∙ values)

pub returns-in-Ok-of_layers-clause-satisfied : goal.returns-in-Ok-of_layers-clause-satisfied
returns-in-Ok-of_layers-clause-satisfied g c public private np nq =
    let first = c.args.first.now in
    let second = c.args.second.now in
    satisfied-joined g.F.Field.ops g.F.Field.coding.size g.F.Field.coding.number g.F.Field.coding.element g.F.Field.coding.bytes g.F.Field.laws
    first.circuit.now second.circuit.now c.in-Ok-of_layers.circuit first.places.now second.places.now (inputs_of g.F.Field.ops public private) (returns-in-Ok-of_layers-clause-checks g c public private np nq)

pub returns-in-Ok-of_layers-clause-sizes : goal.returns-in-Ok-of_layers-clause-sizes
returns-in-Ok-of_layers-clause-sizes g c =
    let first = c.args.first.now in
    let second = c.args.second.now in
    let n = 1 + c.args.publics + c.args.privates in
    subst (IsSizedBeside first.circuit.now second.circuit.now) (sym c.in-Ok-of_layers.ensures.circuit)
    (sized-beside g.F.Field.ops 1 n first.circuit.now second.circuit.now (wiring c.args.publics c.args.privates c.in-Ok.layers.items)
    (c.in-Ok.ensures.levels 1 n (λ v. (first.version, second.version)) (omega arith) c.requires.first c.requires.second))

pub returns-in-Err-clause-cause : goal.returns-in-Err-clause-cause
returns-in-Err-clause-cause g c = λ fit.
    let first = c.args.first.now in
    let second = c.args.second.now in
    let n = 1 + c.args.publics + c.args.privates in
    c.in-Err.ensures.valid
    (fit-valid g.F.Field.ops 1 c.args.publics c.args.privates first.circuit.now second.circuit.now c.in-Ok.layers.items (inl refl) c.requires.publics c.requires.privates c.depth.ensures.valid c.depth-2.ensures.valid
    (c.in-Ok.ensures.levels 1 n (λ v. (first.version, second.version)) (omega arith) c.requires.first c.requires.second) fit)

use Rattle.std.proofs.Common.{◌≡◌, ◌∙◌, ap, sym, subst, arith, length, None, ◌+◌, drop}
use Rattle.std.proofs.lemmas.List.{length-map}
use Rattle.lzk_circuit.specs.Valid.{ArePlaced, AreTerms, input_width}
use Rattle.lzk_circuit.specs.Wires.{coef, wire, wires_of, weighed_term, weighed}
use Rattle.lzk_circuit_reduce.specs.Renumbering.{AreCopies}
use Rattle.lzk_circuit_beside.specs.Asserts.{first_sum, first_asserted, HasLone}
use Rattle.lzk_circuit_beside.proofs.AssertLaws.{weighed-terms}
use Rattle.lzk_circuit_beside.proofs.LevelLaws.{layer-of, of-layer, past, wires-count, first-lone}
use Rattle.lzk_circuit_beside.proofs.RowLaws.{true-false}
use Rattle.lzk_circuit_beside.proofs.level.add_level.Goals as goal

pub add_layer-requires-clause-room : goal.add_layer-requires-clause-room
add_layer-requires-clause-room g c κs within =
    let layer = layer-of g.F.Field.ops c.args.circuit.now c.args.l c.layer-own.result.now c.depth.ensures.valid c.layer-own.ensures in
    omega (arith, layer.most, c.requires.few, c.in_ok-whole.ensures.wires)

pub add_layer-requires-clause-terms : goal.add_layer-requires-clause-terms
add_layer-requires-clause-terms g c κs within =
    let o = g.F.Field.ops in
    let own = c.layer-own.result.now in
    let layer = layer-of o c.args.circuit.now c.args.l own c.depth.ensures.valid c.layer-own.ensures in
    let e = c.in_ok-whole.ensures in
    let many = length c.args.numbers.now in
    let terms : AreTerms o own.wires many None (weighed o o.one own.terms) =
    weighed-terms o g.F.Field.coding.size g.F.Field.coding.number g.F.Field.coding.element g.F.Field.coding.bytes g.F.Field.laws own.wires many own.terms
    (subst (λ w. ArePlaced own.wires w None own.terms) (sym c.requires.numbers) layer.terms) in
    subst (λ ts. AreTerms o c.in_ok-whole.whole.wires many None ts) (sym e.terms) (subst (λ w. AreTerms o w many None (weighed o o.one own.terms)) (sym e.wires) terms)

pub returns-then-l-depth-clause-count : goal.returns-then-l-depth-clause-count
returns-then-l-depth-clause-count g c =
    let layer = layer-of g.F.Field.ops c.args.circuit.now c.args.l c.layer-own.result.now c.depth.ensures.valid c.layer-own.ensures in
    c.in_ok-whole.ensures.wires ∙ sym layer.wires

pub returns-then-l-depth-clause-most : goal.returns-then-l-depth-clause-most
returns-then-l-depth-clause-most g c =
    let layer = layer-of g.F.Field.ops c.args.circuit.now c.args.l c.layer-own.result.now c.depth.ensures.valid c.layer-own.ensures in
    omega (arith, layer.most, c.in_ok-whole.ensures.wires)

pub returns-then-l-depth-clause-terms : goal.returns-then-l-depth-clause-terms
returns-then-l-depth-clause-terms g c width n h =
    let o = g.F.Field.ops in
    let layer = layer-of o c.args.circuit.now c.args.l c.layer-own.result.now c.depth.ensures.valid c.layer-own.ensures in
    subst (λ w. AreTerms o (c.args.start + w) width None c.add_layer.new.terms.items) (c.in_ok-whole.ensures.wires ∙ sym layer.wires) (c.in_ok-add_layer.ensures.terms width n h)

pub returns-then-l-depth-clause-values : goal.returns-then-l-depth-clause-values
returns-then-l-depth-clause-values g c inputs new n e below copies h k l =
    let o = g.F.Field.ops in
    let circuit = c.args.circuit.now in
    let own = c.layer-own.result.now in
    let layer = layer-of o circuit c.args.l own c.depth.ensures.valid c.layer-own.ensures in
    let old = wires_of o (drop (c.args.l + 1) circuit.layers) inputs in
    let is = c.in_ok-whole.ensures in
    of-layer o circuit c.args.l own layer inputs new c.add_layer.new.terms.items c.args.start
    (λ i lt. c.in_ok-add_layer.ensures.values old new (wires-count o (drop (c.args.l + 1) circuit.layers) inputs (input_width circuit) n ∙ sym c.requires.numbers) below copies h i (omega (arith, lt, is.wires))
    ∙ ap (λ ts. wire o (coef o ts) old i) is.terms) k (omega (arith, l, is.wires))

pub returns-then-l-depth-clause-short : goal.returns-then-l-depth-clause-short
returns-then-l-depth-clause-short g c =
    let o = g.F.Field.ops in
    let own = c.layer-own.result.now in
    let layer = layer-of o c.args.circuit.now c.args.l own c.depth.ensures.valid c.layer-own.ensures in
    omega (arith, c.in_ok-add_layer.ensures.short, layer.size, ap length c.in_ok-whole.ensures.terms, length-map own.terms (weighed_term o o.one))

pub returns-then-l-depth-clause-lone : goal.returns-then-l-depth-clause-lone
returns-then-l-depth-clause-lone g c marks width n h lone each =
    let o = g.F.Field.ops in
    let circuit = c.args.circuit.now in
    let own = c.layer-own.result.now in
    let layer = layer-of o circuit c.args.l own c.depth.ensures.valid c.layer-own.ensures in
    let is = c.in_ok-whole.ensures in
    c.in_ok-add_layer.ensures.lone marks width n h lone
    (λ i lt y. subst (λ ts. HasLone o ts i) (sym is.terms)
    (first-lone o g.F.Field.coding.size g.F.Field.coding.number g.F.Field.coding.element g.F.Field.coding.bytes g.F.Field.laws circuit c.args.l i own layer
    (sym (each i (omega (arith, lt, is.wires, layer.wires))) ∙ y)))

pub returns-clause-most : goal.returns-clause-most
returns-clause-most g c =
    let valid = c.depth.ensures.valid in
    omega (arith, valid.publics, valid.privates, c.publics.ensures, c.privates.ensures)

pub returns-clause-values : goal.returns-clause-values
returns-clause-values g c inputs new n e below copies h k l =
    let o = g.F.Field.ops in
    let circuit = c.args.circuit.now in
    let p = past o circuit c.args.l (omega (arith, c.if-l-depth.false, c.depth.ensures.depth)) in
    let many : length inputs ≡ length c.args.numbers.now = n ∙ sym p.below ∙ sym c.requires.numbers in
    let own : AreCopies o c.args.numbers.now inputs new = subst (λ ls. AreCopies o c.args.numbers.now (wires_of o ls inputs) new) p.after copies in
    c.in_ok-add_layer-2.ensures.values inputs new many below own h k (omega (arith, l, c.in_ok-layer.ensures.wires))
    ∙ c.in_ok-layer.ensures.values inputs (omega (arith, n, c.publics.ensures, c.privates.ensures)) e k (omega (arith, l))
    ∙ ap (λ ls. first_sum o ls inputs k) (sym p.drops)

pub returns-clause-lone : goal.returns-clause-lone
returns-clause-lone g c marks width n h lone each =
    let o = g.F.Field.ops in
    let circuit = c.args.circuit.now in
    let p = past o circuit c.args.l (omega (arith, c.if-l-depth.false, c.depth.ensures.depth)) in
    c.in_ok-add_layer-2.ensures.lone marks width n h lone
    (λ i lt y. absurd (true-false (marks (c.args.start + i)) y
    (each i (omega (arith, lt, c.in_ok-layer.ensures.wires, p.wires, c.publics.ensures, c.privates.ensures)) ∙ ap (λ ls. first_asserted g.F.Field.coding.number ls i) p.drops)))

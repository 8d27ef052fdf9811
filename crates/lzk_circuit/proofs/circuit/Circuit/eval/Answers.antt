use Rattle.std.proofs.Common.{◌≡◌, ℕ, ◌+◌, ◌∙◌, ap, sym, subst, arith, map, length}
use Rattle.lzk_circuit.specs.Checks.{checks_of}
use Rattle.lzk_circuit.specs.Valid.{input_width, AreLayersPlaced, AreLayersOf, HaveWidths}
use Rattle.lzk_circuit.specs.Wires.{AreLayerValues, all_values, inputs_of, list_at}
use Rattle.lzk_circuit.proofs.OrderLaws.{layers-placed}
use Rattle.lzk_circuit.proofs.DepthLaws.{items_of, narrow, filled-widths, room-for, inputs-count, are-layer-values, last-values}
use Rattle.lzk_circuit.proofs.CheckLaws.{few-checks, length-checks}
use Rattle.lzk_circuit.proofs.VersionLaws.{layers-two}
use Rattle.lzk_circuit.proofs.circuit.Circuit.eval.Goals as goal
use Rattle.lzk_circuit.proofs.circuit.Circuit.eval.Goals.{After-set_check_list}

pub eval_lists-requires-clause-layers : goal.eval_lists-requires-clause-layers
eval_lists-requires-clause-layers g c = λ κs le.
    let circuit = c.args.self.now in
    let count : input_width circuit ≡ 1 + length c.args.public.now + length c.args.private.now = omega (arith, c.requires.publics, c.requires.privates) in
    subst (λ layers. AreLayersPlaced (1 + length c.args.public.now + length c.args.private.now) layers) (sym c.layers.ensures.layers)
    (subst (λ (n : ℕ). AreLayersPlaced n circuit.layers) count (layers-placed g.F.Field.ops circuit.version (input_width circuit) circuit.layers c.layers.ensures.valid.layers))

pub eval_lists-requires-clause-room : goal.eval_lists-requires-clause-room
eval_lists-requires-clause-room g c = λ κs le.
    room-for c.args.self.now c.values.inside.lists.items c.layers.result.now c.args.public.now c.args.private.now c.layers.ensures.layers c.requires.publics c.requires.privates
    (ap (λ v. map length v.wires) c.values.view_is ∙ c.requires.room.0)

pub set_check_list-requires-clause-lists : goal.set_check_list-requires-clause-lists
set_check_list-requires-clause-lists g c = λ κs le.
    let o = g.F.Field.ops in
    let circuit = c.args.self.now in
    let inputs = inputs_of o c.args.public.now c.args.private.now in
    let count : input_width circuit ≡ length inputs = omega (arith, c.requires.publics, c.requires.privates, inputs-count o c.args.public.now c.args.private.now) in
    let valid = c.layers-2.ensures.valid in
    let placed = subst (λ n. AreLayersOf o 2 n circuit.layers) count (layers-two o circuit.version (input_width circuit) circuit.layers valid.version valid.layers) in (
      inputs,
      subst (λ layers. AreLayersOf o 2 (length inputs) layers) (sym c.layers-2.ensures.layers) placed,
      c.eval_lists.ensures ∙ ap (λ layers. all_values o layers inputs) (c.layers.ensures.layers ∙ sym c.layers-2.ensures.layers),
    )

-- what the checks are
checked : (g : _) (c : After-set_check_list g) → c.set_check_list.new.out.items ≡ checks_of g.F.Field.ops g.F.Field.coding.number c.args.self.now.layers (inputs_of g.F.Field.ops c.args.public.now c.args.private.now)
checked g c =
    let o = g.F.Field.ops in
    let inputs = inputs_of o c.args.public.now c.args.private.now in
    c.set_check_list.ensures inputs (c.eval_lists.ensures ∙ ap (λ layers. all_values o layers inputs) (c.layers.ensures.layers ∙ sym c.layers-2.ensures.layers))
    ∙ ap (λ layers. checks_of o g.F.Field.coding.number layers inputs) c.layers-2.ensures.layers

filled : (g : _) (c : After-set_check_list g) → HaveWidths c.args.self.now (items_of c.eval_lists.new.lists.items)
filled g c =
    filled-widths g.F.Field.ops c.args.self.now c.eval_lists.new.lists.items c.layers.result.now c.args.public.now c.args.private.now c.layers.ensures.layers c.requires.publics c.requires.privates c.eval_lists.ensures

pub invariant_of-values : goal.invariant_of-values
invariant_of-values g c =
    let o = g.F.Field.ops in
    let number = g.F.Field.coding.number in
    let circuit = c.args.self.now in (
      narrow o circuit c.eval_lists.new.lists.items c.layers.ensures.valid (filled g c),
      omega (arith, ap length (checked g c), length-checks o number circuit.layers (inputs_of o c.args.public.now c.args.private.now), few-checks o number circuit c.layers.ensures.valid),
    )

pub returns-clause-room : goal.returns-clause-room
returns-clause-room g c = (filled g c, ap length (checked g c) ∙ length-checks g.F.Field.ops g.F.Field.coding.number c.args.self.now.layers (inputs_of g.F.Field.ops c.args.public.now c.args.private.now))

pub returns-clause-layers : goal.returns-clause-layers
returns-clause-layers g c =
    let o = g.F.Field.ops in
    let inputs = inputs_of o c.args.public.now c.args.private.now in
    subst (λ values. AreLayerValues o c.args.self.now.layers values) (sym c.eval_lists.ensures)
    (subst (λ layers. AreLayerValues o layers (all_values o c.layers.result.now inputs)) c.layers.ensures.layers (are-layer-values o c.layers.result.now inputs))

pub returns-clause-inputs : goal.returns-clause-inputs
returns-clause-inputs g c =
    let o = g.F.Field.ops in
    let inputs = inputs_of o c.args.public.now c.args.private.now in
    ap (λ layers. list_at (items_of c.eval_lists.new.lists.items) (length layers)) (sym c.layers.ensures.layers)
    ∙ ap (λ values. list_at values (length c.layers.result.now)) c.eval_lists.ensures ∙ last-values o c.layers.result.now inputs

pub returns-clause-checks : goal.returns-clause-checks
returns-clause-checks g c = checked g c

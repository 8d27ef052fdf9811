use Rattle.std.proofs.Common.{◌∙◌, ap, sym, subst, arith, None, ◌+◌}
use Rattle.std.specs.Prelude.{◌||◌}
use Rattle.lzk_circuit.specs.Valid.{ArePlaced}
use Rattle.lzk_circuit_reduce.specs.Marks.{is_marked}
use Rattle.lzk_circuit_beside.specs.Asserts.{is_asserted, first_asserted}
use Rattle.lzk_circuit_beside.specs.Levels.{level_wires}
use Rattle.lzk_circuit_beside.proofs.LevelLaws.{first-none, layer-of, past}
use Rattle.lzk_circuit_beside.proofs.level.mark_level.Goals as goal

pub mark_asserted-requires-clause-terms : goal.mark_asserted-requires-clause-terms
mark_asserted-requires-clause-terms g c κs within =
    let own = c.layer-own.result.now in
    let layer = layer-of g.F.Field.ops c.args.circuit.now c.args.l own c.depth.ensures.valid c.layer-own.ensures in
    (own.wires, level_wires c.args.circuit.now (c.args.l + 1), subst (ArePlaced own.wires (level_wires c.args.circuit.now (c.args.l + 1)) None) (sym c.as_slice.ensures) layer.terms, omega (arith, layer.wires, c.requires.room))

pub returns-then-l-depth-clause-own : goal.returns-then-l-depth-clause-own
returns-then-l-depth-clause-own g c k =
    let p = past g.F.Field.ops c.args.circuit.now c.args.l (omega (arith, c.if-l-depth.true, c.depth.ensures.depth)) in
    ap (λ ls. first_asserted g.F.Field.coding.number ls k || is_marked c.args.marks.now.items (c.args.start + k)) (sym p.drops)

pub returns-then-version-eq1-clause-own : goal.returns-then-version-eq1-clause-own
returns-then-version-eq1-clause-own g c k =
    ap (λ b. b || is_marked c.args.marks.now.items (c.args.start + k))
    (sym (first-none g.F.Field.ops g.F.Field.coding.size g.F.Field.coding.number g.F.Field.coding.element g.F.Field.coding.bytes g.F.Field.laws c.args.circuit.now c.args.l k
    c.version.ensures.valid (sym c.version.ensures.version ∙ c.if-version-eq1.true)))

pub returns-clause-own : goal.returns-clause-own
returns-clause-own g c k =
    let own = c.layer-own.result.now in
    let layer = layer-of g.F.Field.ops c.args.circuit.now c.args.l own c.depth.ensures.valid c.layer-own.ensures in
    c.mark_asserted.ensures.own k ∙ ap (λ ts. is_asserted g.F.Field.coding.number ts k || is_marked c.args.marks.now.items (c.args.start + k)) c.as_slice.ensures
    ∙ ap (λ ls. first_asserted g.F.Field.coding.number ls k || is_marked c.args.marks.now.items (c.args.start + k)) (sym layer.drops)

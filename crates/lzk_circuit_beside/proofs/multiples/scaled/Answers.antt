use Rattle.std.proofs.Common.{◌∙◌, arith, ap, sym, subst, length, take, ◌++◌, ◌∷◌, []}
use Rattle.std.proofs.lemmas.List.{length-map, length-take}
use Rattle.std.proofs.lemmas.List.Elements.{All-map}
use Rattle.lzk_field.proofs.RingBasics.{zero_times}
use Rattle.lzk_circuit_reduce.specs.Rows.{multiplied, row_value, IsRow, IsUnder, AreUnder}
use Rattle.lzk_circuit_reduce.proofs.RowLaws.{multiple-value, map-more, all-mapped}
use Rattle.lzk_circuit_beside.proofs.MultipleLaws.{multiple-row}
use Rattle.lzk_circuit_beside.proofs.multiples.scaled.Goals as goal

pub returns-then-is_zero-clause-value : goal.returns-then-is_zero-clause-value
returns-then-is_zero-clause-value g c below =
    let o = g.F.Field.ops in
    let z = c.is_zero.ensures.yes c.if-is_zero.true in
    ap (row_value o below) c.new.ensures.items ∙ sym (ap (λ f. o.times f (row_value o below c.args.row.now)) z ∙ zero_times o g.F.Field.laws.ring (row_value o below c.args.row.now))

pub loop-term-init : goal.loop-term-init
loop-term-init g c = record { items = c.in-Ok.ensures.items; room = omega (arith, c.in-Ok.ensures.capacity) }

pub push_reserved-requires : goal.push_reserved-requires
push_reserved-requires g c =
    let inv = c.loop-term.invariant in
    let before = take c.loop-term.term-index c.args.row.now in
    omega (arith, ap length inv.items, length-map before (multiplied g.F.Field.ops c.args.factor), length-take c.loop-term.term-index c.args.row.now, inv.room, c.loop-term-test.true)

pub loop-term-preserved : goal.loop-term-preserved
loop-term-preserved g c =
    let inv = c.loop-term.invariant in
    let t = c.term-item.result in
    let multiple = c.loop-term.multiple.items in
    record {
      items =
          map-more (multiplied g.F.Field.ops c.args.factor) c.args.row.now multiple c.push_reserved.new.self.items c.loop-term.term-index t c.loop-term-test.true c.term-item.is
          (c.push_reserved.ensures.items ∙ ap (λ x. multiple ++ record { g = t.g; a = t.a; b = t.b; coef = x } ∷ []) c.mul.ensures) inv.items;
      room = omega (arith, inv.room, c.push_reserved.ensures.capacity);
    }

pub returns-clause-short : goal.returns-clause-short
returns-clause-short g c =
    let o = g.F.Field.ops in
    let e = all-mapped (multiplied o c.args.factor) c.args.row.now c.loop-term.multiple.items c.loop-term.term-index c.loop-term-test.false c.loop-term.invariant.items in
    omega (arith, ap length e, length-map c.args.row.now (multiplied o c.args.factor))

pub returns-clause-row : goal.returns-clause-row
returns-clause-row g c width h =
    let o = g.F.Field.ops in
    let nz = c.is_zero.ensures.no c.if-is_zero.false in
    let e = all-mapped (multiplied o c.args.factor) c.args.row.now c.loop-term.multiple.items c.loop-term.term-index c.loop-term-test.false c.loop-term.invariant.items in
    subst (IsRow o width) (sym e) (multiple-row o g.F.Field.laws.ring g.F.Field.laws.field c.args.factor nz width c.args.row.now h)

pub returns-clause-value : goal.returns-clause-value
returns-clause-value g c below =
    let o = g.F.Field.ops in
    let e = all-mapped (multiplied o c.args.factor) c.args.row.now c.loop-term.multiple.items c.loop-term.term-index c.loop-term-test.false c.loop-term.invariant.items in
    ap (row_value o below) e ∙ multiple-value o g.F.Field.laws.ring c.args.factor below c.args.row.now

pub returns-clause-under : goal.returns-clause-under
returns-clause-under g c ns d h =
    let o = g.F.Field.ops in
    let e = all-mapped (multiplied o c.args.factor) c.args.row.now c.loop-term.multiple.items c.loop-term.term-index c.loop-term-test.false c.loop-term.invariant.items in
    subst (AreUnder ns d) (sym e) (All-map (IsUnder ns d) (multiplied o c.args.factor) c.args.row.now h)

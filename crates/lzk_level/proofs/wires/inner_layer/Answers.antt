use Rattle.std.proofs.Common.{◌≡◌, ◌∙◌, refl, ap, sym, subst, arith, length, suc, ◌<◌}
use Rattle.lzk_circuit_reduce.specs.Renumbering.{at}
use Rattle.lzk_level.specs.Uses.{node_form}
use Rattle.lzk_level.specs.Wires.{IsNodeRow}
use Rattle.lzk_level.proofs.LevelLaws.{wire-no-deeper, wire-needed}
use Rattle.lzk_level.proofs.SharingLaws.{Sharing, not-the-one, sharing-begins, sharing-skips, sharing-adds, sharing-passes, shared-layer}
use Rattle.lzk_level.proofs.wires.inner_layer.Goals.{then-has_wire+in_ok-node_row+in_ok-wire, else-has_wire}
use Rattle.std.proofs.lemmas.Result.{IfOk-from_err}
use Rattle.lzk_level.proofs.wires.inner_layer.Goals as goal

pub loop-k-init : goal.loop-k-init
loop-k-init g c =
    let graph = c.args.graph.now in
    let none = c.in_ok-kept.ensures in
    record {
      shared = sharing-begins g.F.Field.ops g.F.Field.coding.number graph.inputs (node_form graph.inputs graph.forms.now) graph.depths.now graph.last.now c.args.level c.args.below.now c.in_ok-kept.kept c.args.here.now none.table c.requires.room none.count (ap length none.terms) none.kept;
      within = omega arith;
    }

pub node_row-requires-clause-due : goal.node_row-requires-clause-due
node_row-requires-clause-due g c κs within =
    let graph = c.args.graph.now in
    let depths = graph.depths.now in
    let last = graph.last.now in
    let level = c.args.level in
    let k = c.loop-k.k in
    let there = sym c.has_wire.ensures ∙ c.if-has_wire.true in
    record {
      some = c.requires.some;
      node = omega (arith, c.loop-k-test.true, c.loop-k.invariant.shared.room);
      up = wire-no-deeper depths last level k there;
      used = omega (arith, wire-needed depths last level k there);
    }

pub wire_of-requires-clause-few : goal.wire_of-requires-clause-few
wire_of-requires-clause-few g c κs within = omega (arith, c.loop-k.invariant.shared.few, c.loop-k.invariant.shared.room, c.loop-k-test.true, c.args.graph.now.formed.few)

pub loop-k-preserved : goal.loop-k-preserved
loop-k-preserved g c =
    let o = g.F.Field.ops in
    let number = g.F.Field.coding.number in
    let graph = c.args.graph.now in
    let inputs = graph.inputs in
    let form = node_form inputs graph.forms.now in
    let depths = graph.depths.now in
    let last = graph.last.now in
    let level = c.args.level in
    let below = c.args.below.now in
    let k = c.loop-k.k in
    let i = c.loop-k.invariant.shared in
    let next = c.args.next.now in
    let p = c.requires.passed in
    let l : k < length last = omega (arith, c.loop-k-test.true, i.room, graph.uses.count) in
    let n = c.number_at-k.result in
    let behind : n ≡ at next k = c.number_at-k.ensures in
    let over = p.behind k l in
    let taken : Sharing o number inputs form depths last level below (suc k) c.if-has_wire.kept c.if-has_wire.here = elim c.if-has_wire.branch [
      | then-has_wire+in_ok-node_row+in_ok-wire w ↦
          let there = sym c.has_wire.ensures ∙ w.if-has_wire.true in
          let row = w.deref.result.now in
          let e = w.in_ok-wire.ensures in
          let s = w.set_number.ensures in
          let new = w.set_number.new.numbers in
          let more = w.wire_of.new.kept in
          subst (λ v. Sharing o number inputs form depths last level below (suc k) v c.if-has_wire.here) (sym w.kept-is)
          (subst (λ ns. Sharing o number inputs form depths last level below (suc k) more ns) (sym w.here-is)
          (sharing-adds o number inputs form depths last level below k w.in_ok-wire.wire c.loop-k.kept more c.loop-k.here new row c.requires.some (wire-no-deeper depths last level k there) s.count s.here s.before
          (subst (IsNodeRow o inputs form depths last level below k) (sym w.deref.ensures.value) w.in_ok-node_row.ensures)
          (record { table = e.table; still = e.kept; wire = e.wire; terms = e.terms; before = e.before; first = e.first; grows = e.more; count = e.count; short = e.short }) i))
      | else-has_wire w ↦
          let away = sym c.has_wire.ensures ∙ w.if-has_wire.false in
          subst (λ v. Sharing o number inputs form depths last level below (suc k) v c.if-has_wire.here) (sym w.kept-is)
          (subst (λ ns. Sharing o number inputs form depths last level below (suc k) c.loop-k.kept ns) (sym w.here-is)
          (sharing-skips o number inputs form depths last level below k c.loop-k.kept c.loop-k.here (not-the-one depths last level k (graph.formed.at_inputs 0 (omega (arith, graph.formed.one))) c.requires.high away) away i))
    ] in
    record {
      shared = sharing-passes o number inputs form depths last level below n (suc k) c.if-has_wire.kept c.if-has_wire.here (omega arith) (omega (arith, behind, over.0)) (λ j m q. p.each k j l (omega (arith, m)) (omega (arith, q, behind))) taken;
      within = omega (arith, behind, over.1, graph.uses.count);
    }

pub returns : goal.returns
returns g c width w =
    let o = g.F.Field.ops in
    let graph = c.args.graph.now in
    let formed = graph.formed in
    let inputs = graph.inputs in
    let depths = graph.depths.now in
    let kept = c.loop-k.kept in
    let i = c.loop-k.invariant.shared in
    let top : c.loop-k.k ≡ length depths = omega (arith, c.loop-k-test.false, c.loop-k.invariant.within, i.room) in
    shared-layer o g.F.Field.laws.ring g.F.Field.coding.number inputs (node_form inputs graph.forms.now) depths graph.last.now c.args.level c.args.below.now width c.loop-k.k kept c.loop-k.here (record { wires = kept.count; terms = c.new.result })
    top (formed.at_inputs 0 (omega (arith, formed.one))) (omega (arith, formed.one, formed.within)) c.requires.high refl c.new.ensures w i

pub none_kept-requires-after_bounds : goal.none_kept-requires-after_bounds
none_kept-requires-after_bounds g c κs within = c.requires.wires

pub returns-in_err-kept : goal.returns-in_err-kept
returns-in_err-kept g c width w = IfOk-from_err _ _ c.from_residual.ensures.0

pub has_wire-requires : goal.has_wire-requires
has_wire-requires g c = omega (arith, c.loop-k-test.true, c.loop-k.invariant.shared.room)

pub returns-in_err-node_row : goal.returns-in_err-node_row
returns-in_err-node_row g c width w = IfOk-from_err _ _ c.from_residual-in_err-node_row.ensures.0

pub wire_of-requires-clause-table : goal.wire_of-requires-clause-table
wire_of-requires-clause-table g c κs within = c.loop-k.invariant.shared.table

pub returns-in_err-wire : goal.returns-in_err-wire
returns-in_err-wire g c width w = IfOk-from_err _ _ c.from_residual-in_err-wire.ensures.0

pub set_number-requires : goal.set_number-requires
set_number-requires g c = record { there = c.loop-k-test.true }

pub overflow_cast-k : goal.overflow_cast-k
overflow_cast-k g c = omega (arith, c.number_at-k.type_inv)

pub loop-k-smaller : goal.loop-k-smaller
loop-k-smaller g c =
    let graph = c.args.graph.now in
    let over = c.requires.passed.behind c.loop-k.k (omega (arith, c.loop-k-test.true, c.loop-k.invariant.shared.room, graph.uses.count)) in
    omega (arith, c.loop-k-test.true, c.loop-k.invariant.shared.room, c.number_at-k.ensures, over.0)

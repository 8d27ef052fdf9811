use Rattle.std.proofs.Common.{◌∙◌, [], ap, map, length, arith, ◌≡◌, ◌≤◌, ◌<◌, get_or}
use Rattle.lzk_circuit.specs.Valid.{widths}
use Rattle.std.proofs.lemmas.List.{take_all, length-replicate}
use Rattle.lzk_circuit.proofs.FaultLaws.{not-if-ok}
use Rattle.lzk_circuit.proofs.CheckLaws.{few-checks}
use Rattle.lzk_circuit.proofs.DepthLaws.{items_of, zero_lists, zeros-widths, are-zeros, widths-count, narrow, zeros-more}
use Rattle.lzk_circuit.proofs.values.Values.new.Goals as goal

pub loop-l-preserved : goal.loop-l-preserved
loop-l-preserved g c =
    let o = g.F.Field.ops in
    let l : c.loop-l.l < length (widths c.args.circuit.now) = omega (arith, widths-count o c.args.circuit.now) in
    zeros-more o (widths c.args.circuit.now) c.loop-l.l c.width.result c.loop-l.lists.items c.push.new.self.items c.in_ok-zeros.field-0 l c.in_ok-push.ensures.items c.in_ok-zeros.ensures c.width.ensures c.loop-l.invariant

pub invariant_of-result : goal.invariant_of-result
invariant_of-result g c =
    let o = g.F.Field.ops in
    let done : length (widths c.args.circuit.now) ≤ c.loop-l.l = omega (arith, widths-count o c.args.circuit.now) in
    let e : items_of c.loop-l.lists.items ≡ zero_lists o (widths c.args.circuit.now) = c.loop-l.invariant ∙ ap (zero_lists o) (take_all c.loop-l.l (widths c.args.circuit.now) done) in (
      narrow o c.args.circuit.now c.loop-l.lists.items c.depth-count.ensures.valid (ap (map length) e ∙ zeros-widths o (widths c.args.circuit.now)),
      omega (arith, ap length c.in_ok-checks.ensures, length-replicate c.checks.result o.zero, c.checks.ensures, few-checks o g.F.Field.coding.number c.args.circuit.now c.depth-count.ensures.valid),
    )

pub returns-clause-room : goal.returns-clause-room
returns-clause-room g c =
    let o = g.F.Field.ops in
    let done : length (widths c.args.circuit.now) ≤ c.loop-l.l = omega (arith, widths-count o c.args.circuit.now) in
    let e : items_of c.loop-l.lists.items ≡ zero_lists o (widths c.args.circuit.now) = c.loop-l.invariant ∙ ap (zero_lists o) (take_all c.loop-l.l (widths c.args.circuit.now) done) in
    (ap (map length) e ∙ zeros-widths o (widths c.args.circuit.now), ap length c.in_ok-checks.ensures ∙ length-replicate c.checks.result o.zero ∙ c.checks.ensures)

pub returns-clause-zeros : goal.returns-clause-zeros
returns-clause-zeros g c = λ l k.
    let o = g.F.Field.ops in
    let done : length (widths c.args.circuit.now) ≤ c.loop-l.l = omega (arith, widths-count o c.args.circuit.now) in
    let e : items_of c.loop-l.lists.items ≡ zero_lists o (widths c.args.circuit.now) = c.loop-l.invariant ∙ ap (zero_lists o) (take_all c.loop-l.l (widths c.args.circuit.now) done) in
    ap (λ lists. get_or (get_or lists l []) k o.zero) e ∙ are-zeros o (widths c.args.circuit.now) l k

pub returns-in_err-lists-clause-room : goal.returns-in_err-lists-clause-room
returns-in_err-lists-clause-room g c = not-if-ok _ c.from_residual.result _ c.from_residual.ensures.1

pub returns-in_err-lists-clause-zeros : goal.returns-in_err-lists-clause-zeros
returns-in_err-lists-clause-zeros g c = not-if-ok _ c.from_residual.result _ c.from_residual.ensures.1

pub returns-in_err-lists-clause-checks : goal.returns-in_err-lists-clause-checks
returns-in_err-lists-clause-checks g c = not-if-ok _ c.from_residual.result _ c.from_residual.ensures.1

pub returns-in_err-zeros-clause-room : goal.returns-in_err-zeros-clause-room
returns-in_err-zeros-clause-room g c = not-if-ok _ c.from_residual-in_err-zeros.result _ c.from_residual-in_err-zeros.ensures.1

pub returns-in_err-zeros-clause-zeros : goal.returns-in_err-zeros-clause-zeros
returns-in_err-zeros-clause-zeros g c = not-if-ok _ c.from_residual-in_err-zeros.result _ c.from_residual-in_err-zeros.ensures.1

pub returns-in_err-zeros-clause-checks : goal.returns-in_err-zeros-clause-checks
returns-in_err-zeros-clause-checks g c = not-if-ok _ c.from_residual-in_err-zeros.result _ c.from_residual-in_err-zeros.ensures.1

pub returns-in_err-push-clause-room : goal.returns-in_err-push-clause-room
returns-in_err-push-clause-room g c = not-if-ok _ c.from_residual-in_err-push.result _ c.from_residual-in_err-push.ensures.1

pub returns-in_err-push-clause-zeros : goal.returns-in_err-push-clause-zeros
returns-in_err-push-clause-zeros g c = not-if-ok _ c.from_residual-in_err-push.result _ c.from_residual-in_err-push.ensures.1

pub returns-in_err-push-clause-checks : goal.returns-in_err-push-clause-checks
returns-in_err-push-clause-checks g c = not-if-ok _ c.from_residual-in_err-push.result _ c.from_residual-in_err-push.ensures.1

pub returns-in_err-checks-clause-room : goal.returns-in_err-checks-clause-room
returns-in_err-checks-clause-room g c = not-if-ok _ c.from_residual-in_err-checks.result _ c.from_residual-in_err-checks.ensures.1

pub returns-in_err-checks-clause-zeros : goal.returns-in_err-checks-clause-zeros
returns-in_err-checks-clause-zeros g c = not-if-ok _ c.from_residual-in_err-checks.result _ c.from_residual-in_err-checks.ensures.1

pub returns-in_err-checks-clause-checks : goal.returns-in_err-checks-clause-checks
returns-in_err-checks-clause-checks g c = not-if-ok _ c.from_residual-in_err-checks.result _ c.from_residual-in_err-checks.ensures.1

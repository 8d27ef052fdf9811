use Rattle.std.proofs.Common.{◌≡◌, ◌∙◌, ◌∷◌, [], ◌++◌, ap, sym, map, take, arith}
use Rattle.std.proofs.lemmas.List.{get_or_default, map-append, take_all}
use Rattle.lzk_circuit_reduce.specs.Renumbering.{at}
use Rattle.lzk_level.specs.Checking.{of_depth}
use Rattle.lzk_level.proofs.CheckingLaws.{depth-here, depth-other}
use Rattle.lzk_level.proofs.tower.add_targets.Goals.{then-of_node-level+in_ok-push, else-of_node-level}
use Rattle.std.proofs.lemmas.Result.{IfOk-from_err}
use Rattle.lzk_level.proofs.tower.add_targets.Goals as goal

pub loop-i-preserved : goal.loop-i-preserved
loop-i-preserved c =
    let depths = c.args.depths.now in
    let numbers = c.args.numbers.now in
    let level = c.args.level in
    let asserts = c.args.asserts.now in
    let i = c.loop-i.i in
    let l = c.loop-i-test.true in
    let is : c.index-asserts-i.result ≡ at asserts i = c.index-asserts-i.is ∙ get_or_default asserts i c.index-asserts-i.result 0 l in
    elim c.if-of_node-level.branch [
      | then-of_node-level+in_ok-push w ↦
          ap (λ v. v.items) w.wires-is ∙ w.in_ok-push.ensures.items ∙ ap (λ x. c.loop-i.wires.items ++ x ∷ []) (w.of_node-then-of_node-level.ensures ∙ ap (at numbers) is) ∙ ap (λ xs. xs ++ at numbers (at asserts i) ∷ []) c.loop-i.invariant
          ∙ sym (ap (map (at numbers)) (depth-here depths level asserts i l (ap (at depths) (sym is) ∙ sym c.of_node.ensures ∙ w.if-of_node-level.true)) ∙ map-append (at numbers) (of_depth depths level (take i asserts)) (at asserts i ∷ []))
      | else-of_node-level w ↦
          ap (λ v. v.items) w.wires-is ∙ c.loop-i.invariant ∙ sym (ap (map (at numbers)) (depth-other depths level asserts i l (λ e. w.if-of_node-level.false (c.of_node.ensures ∙ ap (at depths) is ∙ e))))
    ]

pub loop-i-init : goal.loop-i-init
loop-i-init c = c.new-wires.ensures.items

pub bounds-asserts-i : goal.bounds-asserts-i
bounds-asserts-i c = c.loop-i-test.true

pub returns-in_err-push : goal.returns-in_err-push
returns-in_err-push c = IfOk-from_err _ _ c.from_residual.ensures.0

pub returns-in_err-push-2 : goal.returns-in_err-push-2
returns-in_err-push-2 c = IfOk-from_err _ _ c.from_residual-in_err-push-2.ensures.0

pub returns : goal.returns
returns c =
    let asserts = c.args.asserts.now in
    let all = c.new.ensures ∙ c.loop-i.invariant ∙ ap (λ ks. map (at c.args.numbers.now) (of_depth c.args.depths.now c.args.level ks)) (take_all c.loop-i.i asserts (omega (arith, c.loop-i-test.false))) in
    c.in_ok-push-2.ensures.items ∙ ap (λ ws. c.args.targets.now.items ++ ws ∷ []) all

use Rattle.std.proofs.Common.{◌≡◌, ◌∙◌, ◌∷◌, [], ◌++◌, ap, sym, arith}
use Rattle.std.proofs.lemmas.List.{get_or_default, take_all}
use Rattle.lzk_circuit_reduce.specs.Renumbering.{at}
use Rattle.lzk_level.proofs.CheckingLaws.{depth-here, depth-other}
use Rattle.lzk_level.proofs.asserting.of_depth.Goals.{then-of_node-depth+in_ok-push, else-of_node-depth}
use Rattle.std.proofs.lemmas.Result.{IfOk-from_err}
use Rattle.lzk_level.specs.Checking.{of_depth}
use Rattle.lzk_level.proofs.asserting.of_depth.Goals as goal

pub loop-i-preserved : goal.loop-i-preserved
loop-i-preserved c =
    let depths = c.args.depths.now in
    let depth = c.args.depth in
    let nodes = c.args.nodes.now in
    let i = c.loop-i.i in
    let l = c.loop-i-test.true in
    let is : c.index-nodes-i.result ≡ at nodes i = c.index-nodes-i.is ∙ get_or_default nodes i c.index-nodes-i.result 0 l in
    elim c.if-of_node-depth.branch [
      | then-of_node-depth+in_ok-push w ↦
          ap (λ v. v.items) w.found-is ∙ w.in_ok-push.ensures.items ∙ ap (λ x. c.loop-i.found.items ++ x ∷ []) is ∙ ap (λ xs. xs ++ at nodes i ∷ []) c.loop-i.invariant
          ∙ sym (depth-here depths depth nodes i l (ap (at depths) (sym is) ∙ sym c.of_node.ensures ∙ w.if-of_node-depth.true))
      | else-of_node-depth w ↦
          ap (λ v. v.items) w.found-is ∙ c.loop-i.invariant ∙ sym (depth-other depths depth nodes i l (λ e. w.if-of_node-depth.false (c.of_node.ensures ∙ ap (at depths) is ∙ e)))
    ]

pub loop-i-init : goal.loop-i-init
loop-i-init c = c.new-found.ensures.items

pub bounds-nodes-i : goal.bounds-nodes-i
bounds-nodes-i c = c.loop-i-test.true

pub returns-in_err-push : goal.returns-in_err-push
returns-in_err-push c = IfOk-from_err _ _ c.from_residual.ensures.0

pub returns : goal.returns
returns c = c.loop-i.invariant ∙ ap (of_depth c.args.depths.now c.args.depth) (take_all c.loop-i.i c.args.nodes.now (omega (arith, c.loop-i-test.false)))

use Rattle.std.proofs.Common.{◌≡◌, ◌∙◌, [], ◌∷◌, ap, ap₂, sym, subst, arith, unwrap_or}
use Rattle.std.proofs.lemmas.Result.{IfOk-weaker, on_ok_weaker}
use Rattle.lzk_level.specs.Compiling.{at_let, there, difference}
use Rattle.lzk_level.specs.Nodes.{Nodes}
use Rattle.lzk_level.specs.Steps.{HasParts}
use Rattle.lzk_level.proofs.FlatGateLaws.{not-ok}
use Rattle.lzk_level.proofs.StepLaws.{counts-let, sides-there}
use Rattle.lzk_level.proofs.sum.equate.Goals as goal

pub difference-requires-after_bounds : goal.difference-requires-after_bounds
difference-requires-after_bounds g c κs within =
    let o = g.F.Field.ops in
    let n = c.args.builder.now in
    let x = c.args.right in
    let e = c.in_ok-right.ensures in
    let made = at_let n x in
    let own = sides-there n c.args.left x o.one (o.neg o.one) c.requires in
    let there : HasParts made.nodes ((o.one, unwrap_or c.args.left made.node) ∷ (o.neg o.one, made.node) ∷ []) = record { room = omega (arith, c.requires.room, (counts-let n x).most_of); some = omega arith; nodes = own } in
    let moved = subst (λ k. HasParts made.nodes ((o.one, unwrap_or c.args.left k) ∷ (o.neg o.one, k) ∷ [])) (sym e.node) there in
    let right = c.in_ok-right.right in
    subst (λ k. HasParts c.node_of.new.builder ((o.one, k) ∷ (o.neg o.one, right) ∷ [])) (sym c.unwrap_or.ensures)
    (subst (λ (m : Nodes _). HasParts m ((o.one, unwrap_or c.args.left right) ∷ (o.neg o.one, right) ∷ [])) (sym e.nodes) moved)

pub node_of-requires-clause-room : goal.node_of-requires-clause-room
node_of-requires-clause-room g c κs within = omega (arith, c.requires.room)

pub node_of-requires-clause-operand : goal.node_of-requires-clause-operand
node_of-requires-clause-operand g c κs within = c.requires.right_is

pub returns-in_err-right : goal.returns-in_err-right
returns-in_err-right g c =
    let r = c.from_residual.result in
    let e = c.from_residual.ensures.1 in
    record { nodes = λ k is. not-ok r _ _ e; node = λ k is. not-ok r _ _ e; parts = not-ok r _ _ e }

pub returns-clause-nodes : goal.returns-clause-nodes
returns-clause-nodes g c = λ k is.
    let o = g.F.Field.ops in
    let right = c.in_ok-right.right in
    let m = c.node_of.new.builder in
    let e = c.in_ok-right.ensures in
    let left = c.unwrap_or.ensures ∙ ap (λ l. unwrap_or l right) is in
    on_ok_weaker c.difference.result (λ d. d ∙ ap (λ j. (difference o j (there m right)).nodes) left ∙ ap₂ (λ i j. (difference o k (there i j)).nodes) e.nodes e.node) c.difference.ensures.nodes

pub returns-clause-node : goal.returns-clause-node
returns-clause-node g c = λ k is.
    let o = g.F.Field.ops in
    let n = c.args.builder.now in
    let right = c.in_ok-right.right in
    let m = c.node_of.new.builder in
    let e = c.in_ok-right.ensures in
    let left = c.unwrap_or.ensures ∙ ap (λ l. unwrap_or l right) is in
    IfOk-weaker c.difference.result (λ d. d ≡ (difference o c.unwrap_or.result (there m right)).node) (λ d. d ≡ (difference o k (at_let n c.args.right)).node)
    (λ _ d. d ∙ ap (λ j. (difference o j (there m right)).node) left ∙ ap₂ (λ i j. (difference o k (there i j)).node) e.nodes e.node) c.difference.ensures.node

pub returns-clause-parts : goal.returns-clause-parts
returns-clause-parts g c = c.difference.ensures.parts

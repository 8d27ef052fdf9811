use Rattle.std.proofs.Common.{◌≡◌, ◌∙◌, ◌+◌, ap, sym, subst, arith, [], ◌∷◌}
use Rattle.std.proofs.lemmas.Result.{on_ok_weaker, on_err_weaker}
use Rattle.lzk_level.specs.declared.lets.Operand.TheVariants.{AtNode}
use Rattle.lzk_level.specs.Gates.{Combine}
use Rattle.lzk_level.specs.Nodes.{Nodes, IsNode, node_count, nodes_from, with_gate}
use Rattle.lzk_level.proofs.GateLaws.{builder-either}
use Rattle.lzk_level.proofs.ResultLaws.{and-err, and-ok, on-ok}
use Rattle.lzk_level.proofs.builder.Builder.multiple.Goals as goal

pub next-next-requires-after_bounds : goal.next-next-requires-after_bounds
next-next-requires-after_bounds g c κs within = c.requires.room

pub invariant_of-self : goal.invariant_of-self
invariant_of-self g c =
    let i = c.self.invariant in
    let b = c.self.inside in
    let more =
    builder-either c.push_multiple.result b.publics b.privates b.gates c.push_multiple.new.self (Combine ((c.args.c, c.args.node) ∷ [])) c.push_multiple.ensures.added c.push_multiple.ensures.same (omega (arith, c.requires.room, ap (λ (n : Nodes _). node_count n) c.self.view_is)) i.3
    (omega arith, (subst (λ (b : Nodes _). IsNode (node_count b) c.args.node) (sym c.self.view_is) c.requires.node, tt)) in
    (i.0, i.1, more.0, more.1)

pub returns-clause-node : goal.returns-clause-node
returns-clause-node g c = and-ok c.push_multiple.result c.and.result (AtNode c.next-next.result) (λ k. k ≡ AtNode (1 + node_count c.args.self.now)) c.and.ensures (on-ok c.push_multiple.result (ap (λ k. AtNode k) c.next-next.ensures))

pub returns-clause-added : goal.returns-clause-added
returns-clause-added g c =
    let b = c.self.inside in
    let new = nodes_from b.publics b.privates c.push_multiple.new.self in
    let gate = (Combine ((c.args.c, c.args.node) ∷ [])) in
    and-ok c.push_multiple.result c.and.result (AtNode c.next-next.result) (λ _. new ≡ with_gate c.args.self.now gate) c.and.ensures
    (on_ok_weaker c.push_multiple.result (λ e. ap (nodes_from b.publics b.privates) e ∙ ap (λ (n : Nodes _). with_gate n gate) c.self.view_is) c.push_multiple.ensures.added)

pub returns-clause-same : goal.returns-clause-same
returns-clause-same g c =
    let b = c.self.inside in
    let new = nodes_from b.publics b.privates c.push_multiple.new.self in
    and-err c.push_multiple.result c.and.result (AtNode c.next-next.result) (new ≡ c.args.self.now) c.and.ensures
    (on_err_weaker c.push_multiple.result (λ e. ap (nodes_from b.publics b.privates) e ∙ c.self.view_is) c.push_multiple.ensures.same)

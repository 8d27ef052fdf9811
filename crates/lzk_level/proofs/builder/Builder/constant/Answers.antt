use Rattle.std.proofs.Common.{◌≡◌, ◌∙◌, ◌+◌, ap, arith}
use Rattle.std.proofs.lemmas.Result.{on_ok_weaker, on_err_weaker}
use Rattle.lzk_level.specs.Gates.{Constant}
use Rattle.lzk_level.specs.Nodes.{Nodes, node_count, nodes_from, with_gate}
use Rattle.lzk_level.proofs.GateLaws.{builder-either}
use Rattle.lzk_level.proofs.ResultLaws.{and-err, and-ok, on-ok}
use Rattle.lzk_level.proofs.builder.Builder.constant.Goals as goal

pub next-node-requires-after_bounds : goal.next-node-requires-after_bounds
next-node-requires-after_bounds g c κs within = c.requires.room

pub invariant_of-self : goal.invariant_of-self
invariant_of-self g c =
    let i = c.self.invariant in
    let b = c.self.inside in
    let more =
    builder-either c.push_alone.result b.publics b.privates b.gates c.push_alone.new.self (Constant c.args.c) c.push_alone.ensures.added c.push_alone.ensures.same (omega (arith, c.requires.room, ap (λ (n : Nodes _). node_count n) c.self.view_is)) i.3
    tt in
    (i.0, i.1, more.0, more.1)

pub returns-clause-node : goal.returns-clause-node
returns-clause-node g c = and-ok c.push_alone.result c.and.result c.next-node.result (λ k. k ≡ 1 + node_count c.args.self.now) c.and.ensures (on-ok c.push_alone.result (c.next-node.ensures))

pub returns-clause-added : goal.returns-clause-added
returns-clause-added g c =
    let b = c.self.inside in
    let new = nodes_from b.publics b.privates c.push_alone.new.self in
    let gate = (Constant c.args.c) in
    and-ok c.push_alone.result c.and.result c.next-node.result (λ _. new ≡ with_gate c.args.self.now gate) c.and.ensures
    (on_ok_weaker c.push_alone.result (λ e. ap (nodes_from b.publics b.privates) e ∙ ap (λ (n : Nodes _). with_gate n gate) c.self.view_is) c.push_alone.ensures.added)

pub returns-clause-same : goal.returns-clause-same
returns-clause-same g c =
    let b = c.self.inside in
    let new = nodes_from b.publics b.privates c.push_alone.new.self in
    and-err c.push_alone.result c.and.result c.next-node.result (new ≡ c.args.self.now) c.and.ensures
    (on_err_weaker c.push_alone.result (λ e. ap (nodes_from b.publics b.privates) e ∙ c.self.view_is) c.push_alone.ensures.same)

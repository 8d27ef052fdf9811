use Rattle.std.proofs.Common.{◌≡◌, ◌∙◌, ◌+◌, ap, sym}
use Rattle.std.proofs.lemmas.Result.{IfOk-weaker, on_ok_weaker}
use Rattle.lzk_level.specs.Compiling.{at_let}
use Rattle.lzk_level.specs.Nodes.{node_count}
use Rattle.lzk_level.proofs.value.node_of.Goals as goal

pub constant-requires-clause-room : goal.constant-requires-clause-room
constant-requires-clause-room g c κs within = c.requires.room

pub returns-in-Constant : goal.returns-in-Constant
returns-in-Constant g c =
    let n = c.args.builder.now in
    let x = c.args.operand in
    let is = sym c.in-Constant.is in
    record {
      nodes = on_ok_weaker c.constant.result (λ e. e ∙ ap (λ y. (at_let n y).nodes) is) c.constant.ensures.added;
      node = IfOk-weaker c.constant.result (λ k. k ≡ 1 + node_count n) (λ k. k ≡ (at_let n x).node) (λ _ e. e ∙ ap (λ y. (at_let n y).node) is) c.constant.ensures.node;
    }

pub returns-in-AtNode : goal.returns-in-AtNode
returns-in-AtNode g c =
    let n = c.args.builder.now in
    let is = sym c.in-AtNode.is in
    record { nodes = ap (λ y. (at_let n y).nodes) is; node = ap (λ y. (at_let n y).node) is }

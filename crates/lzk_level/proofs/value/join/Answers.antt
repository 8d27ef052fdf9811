use Rattle.std.proofs.Common.{◌≡◌, ◌∙◌, ◌+◌, ap, sym, subst}
use Rattle.std.proofs.lemmas.Result.{IfOk-weaker, on_ok_weaker}
use Rattle.lzk_level.specs.Compilable.{IsNodeOrNone}
use Rattle.lzk_level.specs.Compiling.{there, joined}
use Rattle.lzk_level.specs.Nodes.{node_count}
use Rattle.lzk_level.proofs.value.join.Goals as goal

pub mul-requires-clause-room : goal.mul-requires-clause-room
mul-requires-clause-room g c κs within = c.requires.room

pub mul-requires-clause-left : goal.mul-requires-clause-left
mul-requires-clause-left g c κs within = subst (IsNodeOrNone (node_count c.args.builder.now)) c.in-Some.is c.requires.before

pub mul-requires-clause-right : goal.mul-requires-clause-right
mul-requires-clause-right g c κs within = c.requires.node

pub returns-in-None : goal.returns-in-None
returns-in-None g c =
    let m = there c.args.builder.now c.args.node in
    let is = sym c.in-None.is in
    record { nodes = ap (λ b. (joined b m).nodes) is; node = ap (λ b. (joined b m).node) is }

pub returns-in-Some : goal.returns-in-Some
returns-in-Some g c =
    let n = c.args.builder.now in
    let m = there n c.args.node in
    let is = sym c.in-Some.is in
    record {
      nodes = on_ok_weaker c.mul.result (λ e. e ∙ ap (λ b. (joined b m).nodes) is) c.mul.ensures.added;
      node = IfOk-weaker c.mul.result (λ k. k ≡ 1 + node_count n) (λ k. k ≡ (joined c.args.before m).node) (λ _ e. e ∙ ap (λ b. (joined b m).node) is) c.mul.ensures.node;
    }

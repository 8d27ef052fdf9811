use Rattle.std.proofs.Common.{◌≡◌, ◌∙◌, ◌+◌, ap, ap₂, sym, subst, unwrap_or}
use Rattle.std.proofs.lemmas.Result.{IfOk-weaker, on_ok_weaker}
use Rattle.lzk_level.specs.Compilable.{IsNodeOrNone}
use Rattle.lzk_level.specs.declared.lets.Operand.TheVariants.{Constant, AtNode}
use Rattle.lzk_level.specs.Nodes.{node_count}
use Rattle.lzk_level.specs.Steps.{product_in}
use Rattle.lzk_level.proofs.value.product.Goals as goal

pub multiple-requires-clause-room : goal.multiple-requires-clause-room
multiple-requires-clause-room g c κs within = c.requires.room

pub multiple-requires-clause-node : goal.multiple-requires-clause-node
multiple-requires-clause-node g c κs within = subst (IsNodeOrNone (node_count c.args.builder.now)) c.in-Some.is c.requires.node

pub returns-in-None : goal.returns-in-None
returns-in-None g c =
    let o = g.F.Field.ops in
    let n = c.args.builder.now in
    let a = c.args.number in
    let is = sym c.in-None.is in
    record {
      nodes = ap (λ k. (product_in o n a k).nodes) is;
      operand = ap (λ x. Constant x) (c.unwrap_or.ensures ∙ ap (unwrap_or a) c.one.ensures) ∙ ap (λ k. (product_in o n a k).operand) is;
    }

pub returns-in-None-number : goal.returns-in-None-number
returns-in-None-number g c =
    let o = g.F.Field.ops in
    let n = c.args.builder.now in
    let number = sym c.in-None-number.is in
    let is = sym c.in-Some.is in
    record { nodes = ap₂ (λ a k. (product_in o n a k).nodes) number is; operand = ap₂ (λ a k. (product_in o n a k).operand) number is }

pub returns-in-Some-number : goal.returns-in-Some-number
returns-in-Some-number g c =
    let o = g.F.Field.ops in
    let n = c.args.builder.now in
    let number = sym c.in-Some-number.is in
    let is = sym c.in-Some.is in
    record {
      nodes = on_ok_weaker c.multiple.result (λ e. e ∙ ap₂ (λ a k. (product_in o n a k).nodes) number is) c.multiple.ensures.added;
      operand = IfOk-weaker c.multiple.result (λ v. v ≡ AtNode (1 + node_count n)) (λ v. v ≡ (product_in o n c.args.number c.args.node).operand) (λ _ e. e ∙ ap₂ (λ a k. (product_in o n a k).operand) number is) c.multiple.ensures.node;
    }

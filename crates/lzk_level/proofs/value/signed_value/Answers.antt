use Rattle.std.proofs.Common.{◌≡◌, ◌∙◌, ◌+◌, [], ◌∷◌, ap, ap₂, sym, subst}
use Rattle.std.proofs.lemmas.Result.{IfOk-weaker, on_ok_weaker}
use Rattle.lzk_level.specs.Compilable.{IsOperand}
use Rattle.lzk_level.specs.declared.lets.Operand.TheVariants.{Constant, AtNode}
use Rattle.lzk_level.specs.Gates.{Combine}
use Rattle.lzk_level.specs.Nodes.{node_count, with_gate}
use Rattle.lzk_level.specs.Steps.{signed_in}
use Rattle.lzk_level.proofs.value.signed_value.Goals as goal

pub multiple-requires-clause-room : goal.multiple-requires-clause-room
multiple-requires-clause-room g c κs within = c.requires.room

pub multiple-requires-clause-node : goal.multiple-requires-clause-node
multiple-requires-clause-node g c κs within = subst (IsOperand (node_count c.args.builder.now)) c.in-AtNode.is c.requires.operand

pub returns-else-negated : goal.returns-else-negated
returns-else-negated g c =
    let o = g.F.Field.ops in
    let n = c.args.builder.now in
    let x = c.args.operand in
    let no = sym c.if-negated.false in
    record { nodes = ap (λ b. (signed_in o b n x).nodes) no; operand = ap (λ b. (signed_in o b n x).operand) no }

pub returns-in-Constant : goal.returns-in-Constant
returns-in-Constant g c =
    let o = g.F.Field.ops in
    let n = c.args.builder.now in
    let yes = sym c.if-negated.true in
    let is = sym c.in-Constant.is in
    record {
      nodes = ap₂ (λ b y. (signed_in o b n y).nodes) yes is;
      operand = ap (λ x. Constant x) c.neg.ensures ∙ ap₂ (λ b y. (signed_in o b n y).operand) yes is;
    }

pub returns-in-AtNode : goal.returns-in-AtNode
returns-in-AtNode g c =
    let o = g.F.Field.ops in
    let n = c.args.builder.now in
    let x = c.args.operand in
    let k = c.in-AtNode.node in
    let yes = sym c.if-negated.true in
    let is = sym c.in-AtNode.is in
    let minus = c.neg-in-AtNode.ensures ∙ ap o.neg c.one.ensures in
    record {
      nodes = on_ok_weaker c.multiple.result (λ e. e ∙ ap (λ y. with_gate n (Combine ((y, k) ∷ []))) minus ∙ ap₂ (λ b y. (signed_in o b n y).nodes) yes is) c.multiple.ensures.added;
      operand = IfOk-weaker c.multiple.result (λ v. v ≡ AtNode (1 + node_count n)) (λ v. v ≡ (signed_in o c.args.negated n x).operand) (λ _ e. e ∙ ap₂ (λ b y. (signed_in o b n y).operand) yes is) c.multiple.ensures.node;
    }

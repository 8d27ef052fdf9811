use Rattle.std.proofs.Common.{◌∙◌, ap, sym, arith}
use Rattle.lzk_level.specs.declared.lets.Operand.TheVariants.{AtNode}
use Rattle.lzk_level.specs.Steps.{sum_of_parts}
use Rattle.lzk_level.proofs.FlatGateLaws.{not-ok}
use Rattle.lzk_level.proofs.sum.sum_of_parts.Goals as goal

pub combine-requires-clause-room : goal.combine-requires-clause-room
combine-requires-clause-room g c κs within = omega (arith, c.requires.room)

pub combine-requires-clause-some : goal.combine-requires-clause-some
combine-requires-clause-some g c κs within = c.requires.some

pub combine-requires-clause-nodes : goal.combine-requires-clause-nodes
combine-requires-clause-nodes g c κs within = c.requires.nodes

pub returns-in_err-combine-in-None : goal.returns-in_err-combine-in-None
returns-in_err-combine-in-None g c =
    let r = c.from_residual.result in
    let e = c.from_residual.ensures.1 in
    record { nodes = not-ok r _ _ e; value = not-ok r _ _ e }

pub returns-in-Some : goal.returns-in-Some
returns-in-Some g c =
    let n = c.args.builder.now in
    let base = c.args.base in
    let ps = c.args.parts.now in
    let is = sym c.in-Some.is in
    record { nodes = c.cut.ensures ∙ ap (λ t. (sum_of_parts n base ps t).nodes) is; value = ap (λ t. (sum_of_parts n base ps t).operand) is }

pub returns-in_ok-combine-in-None : goal.returns-in_ok-combine-in-None
returns-in_ok-combine-in-None g c =
    let n = c.args.builder.now in
    let base = c.args.base in
    let ps = c.args.parts.now in
    let is = sym c.in-None.is in
    let e = c.in_ok-combine-in-None.ensures in
    record { nodes = e.added ∙ ap (λ t. (sum_of_parts n base ps t).nodes) is; value = ap (λ k. AtNode k) e.node ∙ ap (λ t. (sum_of_parts n base ps t).operand) is }

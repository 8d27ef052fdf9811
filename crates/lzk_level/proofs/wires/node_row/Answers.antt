use Rattle.std.proofs.Common.{◌≡◌, arith, [], ◌∷◌}
use Rattle.std.proofs.lemmas.Result.{IfOk-weaker}
use Rattle.lzk_level.specs.Uses.{node_form}
use Rattle.lzk_level.specs.Wires.{IsFormRow, IsNodeRow, going_on}
use Rattle.lzk_level.proofs.NumberedLaws.{copied, formed-row, made-there}
use Rattle.lzk_level.proofs.wires.node_row.Goals as goal

pub returns-then-graph-k : goal.returns-then-graph-k
returns-then-graph-k g c =
    let o = g.F.Field.ops in
    let graph = c.args.graph.now in
    let inputs = graph.inputs in
    let forms = graph.forms.now in
    let depths = graph.depths.now in
    let last = graph.last.now in
    let below = c.args.below.now in
    let new = c.copy_row.new.row.items in
    IfOk-weaker c.copy_row.result (λ _. new ≡ going_on o c.number_at.result ∷ []) (λ _. IsNodeRow o inputs (node_form inputs forms) depths last c.args.level below c.args.k new)
    (λ _ e. copied inputs forms depths last graph.formed graph.uses o g.F.Field.laws.ring g.F.Field.laws.field c.args.level c.args.k c.number_at.result below new c.requires.due c.if-graph-k.true c.number_at.ensures e) c.copy_row.ensures

pub returns : goal.returns
returns g c =
    let o = g.F.Field.ops in
    let graph = c.args.graph.now in
    let inputs = graph.inputs in
    let forms = graph.forms.now in
    let depths = graph.depths.now in
    let last = graph.last.now in
    let below = c.args.below.now in
    let new = c.form_row.new.row.items in
    let form = c.form.result.now in
    IfOk-weaker c.form_row.result (λ _. IsFormRow o below form new) (λ _. IsNodeRow o inputs (node_form inputs forms) depths last c.args.level below c.args.k new)
    (λ _ f. formed-row inputs forms depths last graph.formed graph.uses o c.args.level c.args.k below form new c.requires.due (omega (arith, c.if-graph-k.false)) c.form.ensures f) c.form_row.ensures

pub bounds-graph-k : goal.bounds-graph-k
bounds-graph-k g c = c.requires.due.node

pub overflow_sub-k : goal.overflow_sub-k
overflow_sub-k g c =
    let graph = c.args.graph.now in
    made-there graph.inputs graph.forms.now graph.depths.now graph.last.now graph.formed graph.uses c.args.level c.args.k c.requires.due.some c.if-graph-k.false

pub form-requires-after_bounds : goal.form-requires-after_bounds
form-requires-after_bounds g c κs within =
    let graph = c.args.graph.now in
    omega (arith, made-there graph.inputs graph.forms.now graph.depths.now graph.last.now graph.formed graph.uses c.args.level c.args.k c.requires.due.some c.if-graph-k.false, graph.formed.starts, c.requires.due.node)

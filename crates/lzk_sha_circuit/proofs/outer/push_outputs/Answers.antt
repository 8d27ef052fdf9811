use Rattle.std.proofs.Common.{◌≡◌, ◌<◌, ◌∙◌, length, subst, arith}
use Rattle.std.proofs.lemmas.List.{take_all}
use Rattle.lzk_goldilocks.specs.Elements.{ops, of_number}
use Rattle.lzk_sha_circuit.specs.Found.{places_of}
use Rattle.lzk_sha_circuit.specs.Layers.{Grows, row_at, inner_count, output_rows}
use Rattle.lzk_sha_circuit.proofs.CircuitValues.{length-output_rows}
use Rattle.lzk_sha_circuit.proofs.Growth.{grows_none, pushed}
use Rattle.lzk_sha_circuit.proofs.OutputRows.{row_within, output_within, taken_more}
use Rattle.lzk_sha_circuit.proofs.outer.push_outputs.Goals as goal

pub loop-k-init : goal.loop-k-init
loop-k-init c = grows_none ops (inner_count (places_of c.args.given.now)) 0 c.args.terms.now.items

pub loop-k-preserved : goal.loop-k-preserved
loop-k-preserved c =
    let given = places_of c.args.given.now in
    let rows = output_rows ops of_number given in
    let w = inner_count given in
    let k = c.loop-k.k in
    let mid = c.loop-k.terms.items in
    let new = c.push_row.new.terms.items in
    let long = length-output_rows ops of_number given in
    let inside : k < length rows = omega (arith, long, c.loop-k-test.true) in
    let same : c.deref.result.now ≡ row_at rows k = c.deref.ensures.value ∙ c.in_ok-output_products.ensures in
    let within = row_within w rows k (output_within ops of_number given c.args.given.now.placed) in
    taken_more ops w k rows c.args.terms.now.items mid new inside c.loop-k.invariant (pushed ops w k mid new c.deref.result.now (row_at rows k) same within c.in_ok-push_row.ensures)

pub returns : goal.returns
returns c =
    let given = places_of c.args.given.now in
    let rows = output_rows ops of_number given in
    let long = length-output_rows ops of_number given in
    subst (λ l. Grows ops (inner_count given) 0 c.args.terms.now.items l c.loop-k.terms.items) (take_all c.loop-k.k rows (omega (arith, long, c.loop-k-test.false))) c.loop-k.invariant

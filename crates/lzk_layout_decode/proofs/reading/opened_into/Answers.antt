use Rattle.std.proofs.Common.{◌≡◌, ◌+◌, ◌-◌, ◌*◌, ◌≤◌, length, take, drop, arith}
use Rattle.std.proofs.lemmas.List.{length-take, length-drop}
use Rattle.std.proofs.lemmas.Result.{err_from_is_err_and}
use Rattle.lzk_layout.specs.Proofs.{element_field, opened_fields}
use Rattle.lzk_layout.specs.Fields.{shape}
use Rattle.lzk_layout.proofs.FieldLaws.{not_on_ok}
use Rattle.lzk_layout_decode.proofs.OpenedLaws.{no_more, next_place, column_inside, nonce_ends, column_ends, column_read, opened_more, columns_done, digests_set}
use Rattle.lzk_layout_decode.proofs.reading.opened_into.Goals as goal

pub returns-in_err-nonce-clause-read : goal.returns-in_err-nonce-clause-read
returns-in_err-nonce-clause-read g c =
    let s = shape g.F.Field.coding.bytes g.F.Field.coding.size in
    let field = element_field g.F.Field.coding.bytes g.F.Field.coding.number in
    let rows = c.args.rows in
    let p = err_from_is_err_and c.from_residual.result c.from_residual.ensures.1 in
    let so_far = opened_fields field rows (take c.loop-i.i c.loop-i.nonces) (take c.loop-i.at c.loop-i.columns) in
    rw (p.1, p.2) (nonce_ends field s rows (length c.args.nonces.now) c.loop-i.i _ so_far c.loop-i.rest.now c.loop-i-test.true c.loop-i.invariant.read c.in_err-nonce.field-0.0 (c.in_err-nonce.ensures.read s))

pub returns-in_err-rest-clause-read : goal.returns-in_err-rest-clause-read
returns-in_err-rest-clause-read g c =
    let s = shape g.F.Field.coding.bytes g.F.Field.coding.size in
    let field = element_field g.F.Field.coding.bytes g.F.Field.coding.number in
    let rows = c.args.rows in
    let p = err_from_is_err_and c.from_residual-in_err-rest.result c.from_residual-in_err-rest.ensures.1 in
    let so_far = opened_fields field rows (take c.loop-i.i c.loop-i.nonces) (take c.loop-i.at c.loop-i.columns) in
    let part = take (c.loop-i.at + rows - c.loop-i.at) (drop c.loop-i.at c.loop-i.columns) in
    let inside : c.loop-i.at + rows ≤ length c.loop-i.columns = omega (arith, column_inside c.loop-i.i (length c.args.nonces.now) rows c.loop-i-test.true) in
    let same : length part ≡ rows = omega (arith, length-take (c.loop-i.at + rows - c.loop-i.at) (drop c.loop-i.at c.loop-i.columns), length-drop c.loop-i.at c.loop-i.columns) in
    rw (p.1, p.2) (column_ends field s rows (length c.args.nonces.now) c.loop-i.i _ so_far c.loop-i.rest.now c.loop-i-test.true c.loop-i.invariant.read
    c.in_ok-nonce.nonce.now c.in_ok-nonce.after.now (length part) c.in_err-rest.field-0.0 same (c.in_ok-nonce.ensures.read s) c.in_err-rest.ensures)

pub loop-i-preserved : goal.loop-i-preserved
loop-i-preserved g c =
    let s = shape g.F.Field.coding.bytes g.F.Field.coding.size in
    let field = element_field g.F.Field.coding.bytes g.F.Field.coding.number in
    let rows = c.args.rows in
    let n = length c.args.nonces.now in
    let so_far = opened_fields field rows (take c.loop-i.i c.loop-i.nonces) (take c.loop-i.at c.loop-i.columns) in
    let part = take (c.loop-i.at + rows - c.loop-i.at) (drop c.loop-i.at c.loop-i.columns) in
    let inside : c.loop-i.at + rows ≤ length c.loop-i.columns = omega (arith, column_inside c.loop-i.i n rows c.loop-i-test.true) in
    let same : length part ≡ rows = omega (arith, length-take (c.loop-i.at + rows - c.loop-i.at) (drop c.loop-i.at c.loop-i.columns), length-drop c.loop-i.at c.loop-i.columns) in
    let column = c.elements_into.new.out in
    let long : length column ≡ rows = omega (arith, c.elements_into.auto.out) in
    let wide : length c.loop-i.columns ≡ n * rows = omega arith in
    record {
      at = next_place c.loop-i.i c.args.rows c.loop-i.at c.loop-i.invariant.at;
      digests = digests_set c.loop-i.nonces c.in_ok-nonce.nonce.now c.loop-i.i (omega arith) c.in_ok-nonce.ensures.length c.loop-i.invariant.digests;
      read = rw (opened_more field rows n c.loop-i.i c.loop-i.at (c.loop-i.at + rows - c.loop-i.at) c.loop-i.nonces c.loop-i.columns column c.in_ok-nonce.nonce.now c.loop-i-test.true (omega arith) wide c.loop-i.invariant.at long)
          (column_read field s rows n c.loop-i.i _ so_far c.loop-i.rest.now c.loop-i-test.true c.loop-i.invariant.read
          c.in_ok-nonce.nonce.now c.in_ok-nonce.after.now (length part) column c.in_ok-rest.rest.now same (c.in_ok-nonce.ensures.read s) c.in_ok-rest.ensures);
    }

pub returns-clause-read : goal.returns-clause-read
returns-clause-read g c =
    let s = shape g.F.Field.coding.bytes g.F.Field.coding.size in
    let field = element_field g.F.Field.coding.bytes g.F.Field.coding.number in
    let n = length c.args.nonces.now in
    let wide : length c.loop-i.columns ≡ n * c.args.rows = omega arith in
    columns_done field s c.args.rows n c.loop-i.i c.loop-i.at _ c.loop-i.nonces c.loop-i.columns c.loop-i.rest.now c.loop-i-test.false (omega arith) (omega arith) wide c.loop-i.invariant.at c.loop-i.invariant.read

pub returns-clause-digests : goal.returns-clause-digests
returns-clause-digests g c = λ k lt. c.loop-i.invariant.digests k (omega arith)

pub returns-in_err-nonce-clause-digests : goal.returns-in_err-nonce-clause-digests
returns-in_err-nonce-clause-digests g c = not_on_ok _ c.from_residual.result _ c.from_residual.ensures.1

pub returns-in_err-rest-clause-digests : goal.returns-in_err-rest-clause-digests
returns-in_err-rest-clause-digests g c = not_on_ok _ c.from_residual-in_err-rest.result _ c.from_residual-in_err-rest.ensures.1

pub bounds-nonces-i : goal.bounds-nonces-i
bounds-nonces-i g c = omega (arith, c.loop-i-test.true, c.loop-i.auto.nonces)

pub slice_bounds-elements_into-end : goal.slice_bounds-elements_into-end
slice_bounds-elements_into-end g c = omega (arith, column_inside c.loop-i.i (length c.args.nonces.now) c.args.rows c.loop-i-test.true, c.loop-i.invariant.at, c.loop-i.auto.columns, c.requires)

pub slice_bounds-elements_into-start : goal.slice_bounds-elements_into-start
slice_bounds-elements_into-start g c = no_more c.loop-i.at c.args.rows

pub slice_bounds-elements_into-count : goal.slice_bounds-elements_into-count
slice_bounds-elements_into-count g c = no_more c.loop-i.at c.args.rows

use Rattle.std.proofs.Common.{refl, arith}
use Rattle.std.proofs.lemmas.List.{length-append}
use Rattle.std.proofs.lemmas.Result.{err_from_is_err_and}
use Rattle.lzk_layout.specs.Fields.{plain}
use Rattle.lzk_layout.proofs.FieldLaws.{count_stops, not_on_ok, digests_push, goes_on_same, ends_same, path_done, path_stops}
use Rattle.lzk_layout_decode.proofs.reading.path_into.Goals as goal

pub returns-in_err-digest-clause-read : goal.returns-in_err-digest-clause-read
returns-in_err-digest-clause-read c = λ s.
    let p = err_from_is_err_and c.from_residual-in_err-digest.result c.from_residual-in_err-digest.ensures.1 in
    let n = c.in_ok-number.number in
    let d = c.in_err-digest.field-0.0 in
    rw (p.1, p.2) (path_stops s c.args.bytes.now c.in_ok-number.after.now n d c.in_ok-number.ensures.few (c.in_ok-number.ensures.read s)
    (ends_same s plain n c.loop.counter _ c.loop.path.digests c.loop.rest.now d c.loop-test.true (c.loop.invariant.read s) (c.in_err-digest.ensures.read s)))

pub loop-preserved : goal.loop-preserved
loop-preserved c = rw c.push.ensures (record {
  room = c.loop.invariant.room;
  count = omega (arith, length-append c.loop.path.digests, c.loop.invariant.count);
  digests = digests_push c.loop.path.digests c.in_ok-digest.digest.now c.loop.invariant.digests c.in_ok-digest.ensures.length;
  read = λ s. goes_on_same s plain c.in_ok-number.number c.loop.counter _ c.loop.path.digests c.loop.rest.now c.in_ok-digest.digest.now c.in_ok-digest.after.now c.loop-test.true (c.loop.invariant.read s) (c.in_ok-digest.ensures.read s);
})

pub returns-clause-read : goal.returns-clause-read
returns-clause-read c = λ s.
    path_done s c.args.bytes.now c.in_ok-number.after.now c.loop.rest.now c.in_ok-number.number c.loop.counter c.loop.path.digests c.in_ok-number.ensures.few c.loop-test.false (omega arith) c.loop.invariant.count
    (c.in_ok-number.ensures.read s) (c.loop.invariant.read s)

pub returns-in_err-number-clause-room : goal.returns-in_err-number-clause-room
returns-in_err-number-clause-room c = refl

pub returns-in_err-number-clause-read : goal.returns-in_err-number-clause-read
returns-in_err-number-clause-read c = λ s.
    let p = err_from_is_err_and c.from_residual.result c.from_residual.ensures.1 in
    rw (p.1, p.2) (count_stops s c.args.bytes.now c.in_err-number.field-0.0 (c.in_err-number.ensures.read s))

pub returns-in_err-number-clause-few : goal.returns-in_err-number-clause-few
returns-in_err-number-clause-few c = not_on_ok _ c.from_residual.result _ c.from_residual.ensures.1

pub returns-in_err-number-clause-digests : goal.returns-in_err-number-clause-digests
returns-in_err-number-clause-digests c = not_on_ok _ c.from_residual.result _ c.from_residual.ensures.1

pub returns-in_err-digest-clause-few : goal.returns-in_err-digest-clause-few
returns-in_err-digest-clause-few c = not_on_ok _ c.from_residual-in_err-digest.result _ c.from_residual-in_err-digest.ensures.1

pub returns-in_err-digest-clause-digests : goal.returns-in_err-digest-clause-digests
returns-in_err-digest-clause-digests c = not_on_ok _ c.from_residual-in_err-digest.result _ c.from_residual-in_err-digest.ensures.1

pub returns-clause-digests : goal.returns-clause-digests
returns-clause-digests c = c.loop.invariant.digests

use Rattle.std.proofs.Common.{◌≡◌, ◌<◌, ◌∙◌, length, refl, sym, ap, arith, Some, get_or}
use Rattle.std.specs.Prelude.{slice_get}
use Rattle.std.proofs.lemmas.Option.{slice_get_read, slice_get-get_or}
use Rattle.lzk_policy_inputs.specs.declared.value.Value.TheVariants as values
use Rattle.lzk_policy_inputs.specs.Chosen.{HasKind}
use Rattle.lzk_policy_inputs.specs.Refused.{IsTrueWith}
use Rattle.lzk_policy_inputs.proofs.Places.{put_place, right_more}
use Rattle.lzk_policy_inputs.proofs.check.check.Goals as goal

pub loop-place-preserved : goal.loop-place-preserved
loop-place-preserved c =
    let p = c.args.policy.now in
    let m = c.args.bytes.now in
    let vs = c.args.values.now in
    let k = c.loop-place.place in
    let shows = c.shows-shows.result.now in
    let s = c.index-shows-place.result in
    let f = c.field_of.result.now in
    let v = get_or vs k (values.Number 0) in
    let inside : k < length vs = omega (arith, c.loop-place-test.true, c.loop-place.invariant.count, ap length c.shows-shows.ensures) in
    let es : slice_get p.shows k ≡ Some s =
    (λ i. slice_get (sym c.shows-shows.ensures i) k) ∙ slice_get_read shows (length shows) k s refl c.loop-place-test.true c.index-shows-place.is in
    let ev : slice_get vs k ≡ Some v = slice_get-get_or vs k (values.Number 0) inside in
    let there = c.field_of.ensures.there in
    right_more p m vs k c.loop-place.invariant
    (put_place (λ f c v. HasKind c v) p.fields p.shows vs k s v es ev f there (c.has_kind.ensures.0 c.if-not-has_kind.false))
    (put_place (λ f c v. IsTrueWith m f c v) p.fields p.shows vs k s v es ev f there (c.is_true.ensures.0 c.if-not-is_true.false))

use Rattle.std.proofs.Common.{◌≡◌, ◌<◌, length, ap, ◌∙◌, arith, length-set}
use Rattle.std.specs.Prelude.{slice_set}
use Rattle.std.proofs.lemmas.List.{get_or_default}
use Rattle.lzk_field.specs.Sums.{entry}
use Rattle.lzk_sumcheck.proofs.Filled.{refill_whole}
use Rattle.lzk_sumcheck.proofs.ProvingLaws.{times-less}
use Rattle.lzk_ligero.proofs.changing.add_at.Goals as goal

pub bounds-all-place : goal.bounds-all-place
bounds-all-place g c = omega (arith, c.requires, ap length c.as_mut_slice-all.ensures.value)

pub bounds-all-place-2 : goal.bounds-all-place-2
bounds-all-place-2 g c = omega (arith, c.requires, ap length c.as_mut_slice-all.ensures.value)

pub returns-clause-length : goal.returns-clause-length
returns-clause-length g c =
    let old = c.args.values.now in
    let lent = c.as_mut_slice-all.result.now in
    let size = length-set lent c.args.place c.add.result ∙ ap length c.as_mut_slice-all.ensures.value in
    ap length (refill_whole (length old) old (slice_set lent c.args.place c.add.result) size) ∙ size

pub offset_bounds-all-place : goal.offset_bounds-all-place
offset_bounds-all-place g c =
    let inside : c.args.place < length c.as_mut_slice-all.result.now = omega (arith, c.requires, ap length c.as_mut_slice-all.ensures.value) in
    record { fits = times-less c.args.place (length c.as_mut_slice-all.result.now) _ _ inside (omega arith) }

pub offset_bounds-all-place-2 : goal.offset_bounds-all-place-2
offset_bounds-all-place-2 g c =
    let inside : c.args.place < length c.as_mut_slice-all.result.now = omega (arith, c.requires, ap length c.as_mut_slice-all.ensures.value) in
    record { fits = times-less c.args.place (length c.as_mut_slice-all.result.now) _ _ inside (omega arith) }

pub returns-clause-values : goal.returns-clause-values
returns-clause-values g c =
    let o = g.F.Field.ops in
    let old = c.args.values.now in
    let lent = c.as_mut_slice-all.result.now in
    let n = c.args.place in
    let is = c.as_mut_slice-all.ensures.value in
    let size = length-set lent n c.add.result ∙ ap length is in
    let value : c.add.result ≡ o.plus (entry o old n) c.args.by =
    c.add.ensures ∙ ap (λ x. o.plus x c.args.by) (c.index-all-place.is ∙ get_or_default lent n c.index-all-place.result o.zero (omega (arith, c.requires, ap length is)) ∙ ap (λ xs. entry o xs n) is) in
    refill_whole (length old) old (slice_set lent n c.add.result) size ∙ ap (λ xs. slice_set xs n c.add.result) is ∙ ap (slice_set old n) value

use Rattle.std.proofs.Common.{◌≡◌, ◌+◌, ◌*◌, ◌<◌, ◌≤◌, length, ap, sym, ◌∙◌, subst, arith}
use Rattle.lzk_field.specs.Sums.{entry, minus, sum_below}
use Rattle.lzk_layout.specs.declared.params.Params.{Params}
use Rattle.lzk_layout.specs.Places.{depth, copy_place_of}
use Rattle.lzk_layout.specs.Sizes.{committed_count, place_of}
use Rattle.lzk_layout.proofs.PlaceLaws.{pads_within}
use Rattle.lzk_accept.specs.Combination.{sum_where, is_place}
use Rattle.lzk_accept.specs.Kept.{LinearForms, coefficient_in, form_at, source_in, IsWithin}
use Rattle.lzk_accept.proofs.CombinationLaws.{form_within, form_behind, source_end, list_fits_behind, rows_within, few_entries, combined_is, wanted_is}
use Rattle.lzk_accept.proofs.combination.combine_from.Goals as goal

pub overflow_mul-skip : goal.overflow_mul-skip
overflow_mul-skip g c =
    let k = c.args.combining.now in
    let p = k.params.now in
    let few = k.filled c.requires.forms.circuit c.requires.forms.params c.requires.forms.forms in
    let rows = rows_within p k.rows k.bounded (omega (arith, few, ap (λ (p : Params). p.nw) c.requires.forms.params)) in
    omega (arith, few_entries p k.rows k.bounded (omega (arith, rows, k.bounded.rows)))

pub invariant_of-kept-clause-drawn : goal.invariant_of-kept-clause-drawn
invariant_of-kept-clause-drawn g c =
    let forms = c.deref.ensures.value ∙ ap (λ (x : LinearForms g.row.F.Denot). x.forms) c.forms.view_is in
    omega (arith, ap length c.as_slice.ensures, c.args.combining.now.drawn.lambda, ap length forms, c.requires.forms.forms.count, ap (λ (p : Params). p.layers) c.requires.forms.params)

pub invariant_of-copies-clause-bounded : goal.invariant_of-copies-clause-bounded
invariant_of-copies-clause-bounded g c = c.args.combining.now.bounded

pub invariant_of-copies-clause-count : goal.invariant_of-copies-clause-count
invariant_of-copies-clause-count g c =
    let forms = c.deref-3.ensures.value ∙ ap (λ (x : LinearForms g.row.F.Denot). x.forms) c.forms.view_is in
    omega (arith, ap length forms, c.requires.forms.forms.count, ap (λ (p : Params). p.layers) c.requires.forms.params)

pub invariant_of-copies-clause-drawn : goal.invariant_of-copies-clause-drawn
invariant_of-copies-clause-drawn g c = ap length c.as_slice-2.ensures ∙ c.args.combining.now.drawn.mu

pub add_copies-requires-after_bounds : goal.add_copies-requires-after_bounds
add_copies-requires-after_bounds g c κs within = omega (arith, c.sum_forms-wanted.auto.sums, c.requires.room)

pub invariant_of-kept-clause-within : goal.invariant_of-kept-clause-within
invariant_of-kept-clause-within g c i h =
    let o = g.F.Field.ops in
    let f = c.args.combining.now.forms.now in
    let w = c.requires.forms.circuit in
    let are = c.requires.forms.forms in
    let forms = c.deref.ensures.value ∙ ap (λ (x : LinearForms g.row.F.Denot). x.forms) c.forms.view_is in
    let own = c.deref-2.ensures.value ∙ ap (λ (x : LinearForms g.row.F.Denot). x.own) c.forms.view_is in
    let some : 1 ≤ depth w = omega (arith, c.args.combining.now.bounded.some, ap (λ (p : Params). p.layers) c.requires.forms.params) in
    let size = sym (ap length own ∙ are.own) in
    let here = form_within o w f some are i (omega (arith, h, ap length forms, are.count)) in
    subst (λ n. IsWithin n (form_at o c.deref.result.now i)) size (subst (λ fs. IsWithin (committed_count w) (form_at o fs i)) (sym forms) here)

pub invariant_of-kept-clause-behind : goal.invariant_of-kept-clause-behind
invariant_of-kept-clause-behind g c i h =
    let o = g.F.Field.ops in
    let f = c.args.combining.now.forms.now in
    let w = c.requires.forms.circuit in
    let are = c.requires.forms.forms in
    let skip = c.args.combining.now.rows * c.args.combining.now.params.now.wr in
    let forms = c.deref.ensures.value ∙ ap (λ (x : LinearForms g.row.F.Denot). x.forms) c.forms.view_is in
    let some : 1 ≤ depth w = omega (arith, c.args.combining.now.bounded.some, ap (λ (p : Params). p.layers) c.requires.forms.params) in
    let few = c.args.combining.now.filled w c.requires.forms.params are in
    let here = form_behind o w f some are skip few i (omega (arith, h, ap length forms, are.count)) in
    subst (λ fs. (skip ≤ (form_at o fs i).end) × (skip ≤ (form_at o fs i).above)) (sym forms) here

pub sum_forms-wanted-requires-clause-room : goal.sum_forms-wanted-requires-clause-room
sum_forms-wanted-requires-clause-room g c κs within =
    let p = c.args.combining.now.params.now in
    let own = c.deref-2.ensures.value ∙ ap (λ (x : LinearForms g.row.F.Denot). x.own) c.forms.view_is in
    let nw = ap (λ (p : Params). p.nw) c.requires.forms.params in
    omega (arith, ap length own, c.requires.forms.forms.own, nw, list_fits_behind p c.args.combining.now.rows c.args.combining.now.bounded, c.requires.room)

pub invariant_of-copies-clause-few : goal.invariant_of-copies-clause-few
invariant_of-copies-clause-few g c =
    let p = c.args.combining.now.params.now in
    let w = c.requires.forms.circuit in
    let few = c.args.combining.now.filled w c.requires.forms.params c.requires.forms.forms in
    let nw = ap (λ (p : Params). p.nw) c.requires.forms.params in
    rows_within p c.args.combining.now.rows c.args.combining.now.bounded (omega (arith, few, nw))

pub invariant_of-copies-clause-sources : goal.invariant_of-copies-clause-sources
invariant_of-copies-clause-sources g c l h =
    let o = g.F.Field.ops in
    let f = c.args.combining.now.forms.now in
    let w = c.requires.forms.circuit in
    let are = c.requires.forms.forms in
    let forms = c.deref-3.ensures.value ∙ ap (λ (x : LinearForms g.row.F.Denot). x.forms) c.forms.view_is in
    let layers = ap (λ (p : Params). p.layers) c.requires.forms.params in
    let nw = ap (λ (p : Params). p.nw) c.requires.forms.params in
    let some : 1 ≤ depth w = omega (arith, c.args.combining.now.bounded.some, layers) in
    let inside : l < depth w = omega (arith, h, layers) in
    let few = c.args.combining.now.filled w c.requires.forms.params are in
    let end = ap (λ fs. (form_at o fs l).end) forms ∙ source_end o w f some are l inside in
    (omega (arith, end, few), omega (arith, end, pads_within w l inside, nw))

pub returns-clause-combined : goal.returns-clause-combined
returns-clause-combined g c w params are i s h k =
    let f = g.F.Field in
    let o = f.ops in
    let p = c.args.combining.now.params.now in
    let kept = c.args.combining.now.forms.now in
    let ch = c.args.combining.now.challenges.now in
    let n = i * p.wr + s in
    let j = c.args.combining.now.rows + i in
    let number : c.args.combining.now.rows * p.wr + n ≡ j * p.wr + s = omega arith in
    let view = c.forms.view_is in
    let forms = c.deref.ensures.value ∙ ap (λ (x : LinearForms g.row.F.Denot). x.forms) view in
    let own = c.deref-2.ensures.value ∙ ap (λ (x : LinearForms g.row.F.Denot). x.own) view in
    let again = c.deref-3.ensures.value ∙ ap (λ (x : LinearForms g.row.F.Denot). x.forms) view in
    let some : 1 ≤ depth w = omega (arith, c.args.combining.now.bounded.some, ap (λ (q : Params). q.layers) params) in
    let before = c.sum_forms-wanted.new.sums in
    let summed = c.sum_forms-wanted.ensures.entries n
    ∙ ap (λ xs. sum_below o (length c.deref.result.now) (λ l. o.times (entry o xs l) (coefficient_in o c.deref-2.result.now (form_at o c.deref.result.now l) (c.args.combining.now.rows * p.wr + n)))) c.as_slice.ensures
    ∙ ap (λ ys. sum_below o (length c.deref.result.now) (λ l. o.times (entry o ch.lambda l) (coefficient_in o ys (form_at o c.deref.result.now l) (c.args.combining.now.rows * p.wr + n)))) own
    ∙ ap (λ fs. sum_below o (length fs) (λ l. o.times (entry o ch.lambda l) (coefficient_in o kept.own (form_at o fs l) (c.args.combining.now.rows * p.wr + n)))) forms
    ∙ ap (λ m. sum_below o (length kept.forms) (λ l. o.times (entry o ch.lambda l) (coefficient_in o kept.own (form_at o kept.forms l) m))) number in
    let copied = c.add_copies.ensures i s k
    ∙ ap (λ xs. minus o (o.plus (entry o before n) (sum_where o (3 * p.layers) (λ m. is_place (3 + j) s (copy_place_of p m)) (entry o xs)))
    (sum_where o (3 * p.layers) (λ m. is_place (3 + j) s (place_of p (source_in o c.deref-3.result.now m))) (entry o xs))) c.as_slice-2.ensures
    ∙ ap (λ fs. minus o (o.plus (entry o before n) (sum_where o (3 * p.layers) (λ m. is_place (3 + j) s (copy_place_of p m)) (entry o ch.mu)))
    (sum_where o (3 * p.layers) (λ m. is_place (3 + j) s (place_of p (source_in o fs m))) (entry o ch.mu))) again in
    combined_is o w kept some are f.laws.ring p ch j s (entry o before n) (entry o c.add_copies.new.table n) params k summed copied

pub returns-clause-wanted : goal.returns-clause-wanted
returns-clause-wanted g c w params are =
    let o = g.F.Field.ops in
    let kept = c.args.combining.now.forms.now in
    let ch = c.args.combining.now.challenges.now in
    let forms = c.deref.ensures.value ∙ ap (λ (x : LinearForms g.row.F.Denot). x.forms) c.forms.view_is in
    let some : 1 ≤ depth w = omega (arith, c.args.combining.now.bounded.some, ap (λ (q : Params). q.layers) params) in
    c.sum_forms-wanted.ensures.rights
    ∙ ap (λ xs. sum_below o (length c.deref.result.now) (λ l. o.times (entry o xs l) (form_at o c.deref.result.now l).right)) c.as_slice.ensures
    ∙ ap (λ fs. sum_below o (length fs) (λ l. o.times (entry o ch.lambda l) (form_at o fs l).right)) forms
    ∙ wanted_is o w kept some are ch

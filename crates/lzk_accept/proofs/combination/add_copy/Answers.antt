use Rattle.std.proofs.Common.{◌≡◌, ℕ, ◌+◌, ◌-◌, ◌*◌, ◌/◌, ◌%◌, ◌≤◌, ◌<◌, ◌==◌, cond, length, ap, sym, ◌∙◌, arith}
use Rattle.std.proofs.lemmas.List.{get_or_default}
use Rattle.lzk_field.specs.Sums.{entry}
use Rattle.lzk_layout.specs.Sizes.{place_of}
use Rattle.lzk_layout.specs.Places.{copy_place_of}
use Rattle.lzk_accept.specs.Combination.{is_place}
use Rattle.lzk_accept.specs.Kept.{source_in}
use Rattle.lzk_accept.proofs.CombinationLaws.{copy_number, source_number, list_fits_behind, few_entries, copy_behind, copy_fits}
use Rattle.lzk_accept.proofs.combination.add_copy.Goals as goal

pub copy_place-row-requires-clause-params : goal.copy_place-row-requires-clause-params
copy_place-row-requires-clause-params g c = c.args.copies.now.bounded

pub copy_place-row-requires-clause-value : goal.copy_place-row-requires-clause-value
copy_place-row-requires-clause-value g c = c.requires.copy

pub overflow_sub-copy : goal.overflow_sub-copy
overflow_sub-copy g c =
    let copies = c.args.copies.now in
    let p = copies.params.now in
    let m = c.args.m in
    let row = c.copy_place-row.result.0 in
    let behind = copy_behind p.nwrow (3 * (m / 3 / p.wr)) (m % 3) row copies.rows (ap (λ (q : ℕ × ℕ). q.0) c.copy_place-row.ensures.place) copies.few in
    omega (arith, behind)

pub overflow_sub-copy-2 : goal.overflow_sub-copy-2
overflow_sub-copy-2 g c =
    let copies = c.args.copies.now in
    let p = copies.params.now in
    let m = c.args.m in
    let row = c.copy_place-row.result.0 in
    let behind = copy_behind p.nwrow (3 * (m / 3 / p.wr)) (m % 3) row copies.rows (ap (λ (q : ℕ × ℕ). q.0) c.copy_place-row.ensures.place) copies.few in
    omega (arith, behind)

pub overflow_mul-copy : goal.overflow_mul-copy
overflow_mul-copy g c =
    let copies = c.args.copies.now in
    let row = c.copy_place-row.result.0 in
    omega (arith, few_entries copies.params.now (row - 3 - copies.rows) copies.bounded (omega (arith, c.copy_place-row.ensures.row)))

pub overflow_add-copy : goal.overflow_add-copy
overflow_add-copy g c =
    let copies = c.args.copies.now in
    let row = c.copy_place-row.result.0 in
    omega (arith, few_entries copies.params.now (row - 3 - copies.rows) copies.bounded (omega (arith, c.copy_place-row.ensures.row)), c.copy_place-row.ensures.position, copies.bounded.wr)

pub offset_bounds-mu-m : goal.offset_bounds-mu-m
offset_bounds-mu-m g c = omega (arith, c.args.copies.now.drawn, c.requires.copy)

pub bounds-mu-m : goal.bounds-mu-m
bounds-mu-m g c = omega (arith, c.args.copies.now.drawn, c.requires.copy)

pub add_at-requires-after_bounds : goal.add_at-requires-after_bounds
add_at-requires-after_bounds g c κs within =
    let copies = c.args.copies.now in
    let p = copies.params.now in
    let m = c.args.m in
    let row = c.copy_place-row.result.0 in
    let behind = copy_behind p.nwrow (3 * (m / 3 / p.wr)) (m % 3) row copies.rows (ap (λ (q : ℕ × ℕ). q.0) c.copy_place-row.ensures.place) copies.few in
    omega (arith, copy_fits p.wr p.nrow copies.rows row c.copy_place-row.result.1 behind c.copy_place-row.ensures.row c.copy_place-row.ensures.position, c.requires.room)

pub offset_bounds-forms-m : goal.offset_bounds-forms-m
offset_bounds-forms-m g c = omega (arith, c.requires.copy, c.args.copies.now.count)

pub bounds-forms-m : goal.bounds-forms-m
bounds-forms-m g c = omega (arith, c.requires.copy, c.args.copies.now.count)

pub overflow_sub-source : goal.overflow_sub-source
overflow_sub-source g c =
    let o = g.F.Field.ops in
    let copies = c.args.copies.now in
    let m = c.args.m in
    let inside : m / 3 < length copies.forms.now = omega (arith, c.requires.copy, copies.count) in
    let is = get_or_default copies.forms.now (m / 3) c.index-forms-m.result (record { start = 0; end = 0; above = 0; first = o.zero; second = o.zero; right = o.zero }) inside in
    omega (arith, ap (λ x. x.end) (c.index-forms-m.is ∙ is), (copies.sources (m / 3) (omega (arith, c.requires.copy))).0)

pub overflow_add-source : goal.overflow_add-source
overflow_add-source g c =
    let o = g.F.Field.ops in
    let copies = c.args.copies.now in
    let m = c.args.m in
    let inside : m / 3 < length copies.forms.now = omega (arith, c.requires.copy, copies.count) in
    let is = get_or_default copies.forms.now (m / 3) c.index-forms-m.result (record { start = 0; end = 0; above = 0; first = o.zero; second = o.zero; right = o.zero }) inside in
    omega (arith, ap (λ x. x.end) (c.index-forms-m.is ∙ is), (copies.sources (m / 3) (omega (arith, c.requires.copy))).1, copies.bounded.nw)

pub overflow_mul-skip : goal.overflow_mul-skip
overflow_mul-skip g c =
    let copies = c.args.copies.now in
    omega (arith, few_entries copies.params.now copies.rows copies.bounded (omega (arith, copies.few, copies.bounded.rows)))

pub overflow_sub-source-2 : goal.overflow_sub-source-2
overflow_sub-source-2 g c =
    let o = g.F.Field.ops in
    let copies = c.args.copies.now in
    let m = c.args.m in
    let inside : m / 3 < length copies.forms.now = omega (arith, c.requires.copy, copies.count) in
    let is = get_or_default copies.forms.now (m / 3) c.index-forms-m.result (record { start = 0; end = 0; above = 0; first = o.zero; second = o.zero; right = o.zero }) inside in
    omega (arith, ap (λ x. x.end) (c.index-forms-m.is ∙ is), (copies.sources (m / 3) (omega (arith, c.requires.copy))).0)

pub overflow_cast-copy-2 : goal.overflow_cast-copy-2
overflow_cast-copy-2 g c = omega (arith, c.copy_place-row.ensures.position, c.args.copies.now.bounded.wr)

pub overflow_cast-form : goal.overflow_cast-form
overflow_cast-form g c = omega (arith, c.requires.copy, c.args.copies.now.bounded.layers)

pub overflow_cast-source : goal.overflow_cast-source
overflow_cast-source g c =
    let o = g.F.Field.ops in
    let copies = c.args.copies.now in
    let m = c.args.m in
    let inside : m / 3 < length copies.forms.now = omega (arith, c.requires.copy, copies.count) in
    let is = get_or_default copies.forms.now (m / 3) c.index-forms-m.result (record { start = 0; end = 0; above = 0; first = o.zero; second = o.zero; right = o.zero }) inside in
    omega (arith, ap (λ x. x.end) (c.index-forms-m.is ∙ is), (copies.sources (m / 3) (omega (arith, c.requires.copy))).1, copies.bounded.nw)

pub add_at-requires-2-after_bounds : goal.add_at-requires-2-after_bounds
add_at-requires-2-after_bounds g c κs within =
    let o = g.F.Field.ops in
    let copies = c.args.copies.now in
    let p = copies.params.now in
    let m = c.args.m in
    let inside : m / 3 < length copies.forms.now = omega (arith, c.requires.copy, copies.count) in
    let is = get_or_default copies.forms.now (m / 3) c.index-forms-m.result (record { start = 0; end = 0; above = 0; first = o.zero; second = o.zero; right = o.zero }) inside in
    let ends = c.index-forms-m.is ∙ is in
    let source = copies.sources (m / 3) (omega (arith, c.requires.copy)) in
    omega (arith, ap (λ x. x.end) ends, source.0, source.1, list_fits_behind p copies.rows copies.bounded, c.requires.room, c.add_at.auto.sums)

pub returns : goal.returns
returns g c i s h =
    let o = g.F.Field.ops in
    let copies = c.args.copies.now in
    let p = copies.params.now in
    let m = c.args.m in
    let rows = copies.rows in
    let forms = copies.forms.now in
    let k = i * p.wr + s in
    let x = c.index-mu-m.result in
    let drawn : x ≡ entry o copies.mu.now m = c.index-mu-m.is ∙ get_or_default copies.mu.now m x o.zero (omega (arith, copies.drawn, c.requires.copy)) in
    let inside : m / 3 < length forms = omega (arith, c.requires.copy, copies.count) in
    let is = get_or_default forms (m / 3) c.index-forms-m.result (record { start = 0; end = 0; above = 0; first = o.zero; second = o.zero; right = o.zero }) inside in
    let ends = c.index-forms-m.is ∙ is in
    let source = source_in o forms m in
    let here = is_place (3 + (rows + i)) s (copy_place_of p m) in
    let there = is_place (3 + (rows + i)) s (place_of p source) in
    let old = entry o c.args.table.now k in
    let middle = entry o c.add_at.new.sums k in
    let row = c.copy_place-row.result.0 in
    let position = c.copy_place-row.result.1 in
    let place = c.copy_place-row.ensures.place in
    let copy : (k == (row - 3 - rows) * p.wr + position) ≡ here =
    sym (copy_number p.wr rows row position i s (omega (arith, ap (λ (q : ℕ × ℕ). q.0) place, copies.few)) c.copy_place-row.ensures.position h) ∙ ap (is_place (3 + (rows + i)) s) place in
    let low : rows * p.wr ≤ source = omega (arith, (copies.sources (m / 3) (omega (arith, c.requires.copy))).0) in
    let own : (k == c.index-forms-m.result.end - 3 + m % 3 - rows * p.wr) ≡ there = ap (λ y. k == y.end - 3 + m % 3 - rows * p.wr) ends ∙ sym (source_number p rows source i s low h) in
    c.add_at-2.ensures k ∙ ap (λ b. o.plus middle (cond b c.neg.result o.zero)) own ∙ ap (λ y. o.plus middle (cond there y o.zero)) (c.neg.ensures ∙ ap o.neg drawn)
    ∙ ap (λ y. o.plus y (cond there (o.neg (entry o copies.mu.now m)) o.zero))
    (c.add_at.ensures k ∙ ap (λ b. o.plus old (cond b x o.zero)) copy ∙ ap (λ y. o.plus old (cond here y o.zero)) drawn)

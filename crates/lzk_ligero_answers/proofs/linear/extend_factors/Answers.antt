use Rattle.std.proofs.Common.{◌≡◌, ◌≤◌, ◌+◌, ◌-◌, ◌*◌, ℕ, ◌<◌, ◌++◌, length, take, drop, refl, arith, ap, sym, ◌∙◌, mul-le-mul_right}
use Rattle.std.proofs.lemmas.List.{length-append, length-drop, length-take-le}
use Rattle.lzk_field.specs.Sums.{entry}
use Rattle.lzk_poly.specs.Extension.{extension}
use Rattle.lzk_ligero_answers.proofs.TableLaws.{before_row, entry-front, rows_more}
use Rattle.lzk_ligero_answers.proofs.linear.extend_factors.Goals as goal

pub loop-f-preserved : goal.loop-f-preserved
loop-f-preserved g c =
    let m = g.F.Field in
    let o = m.ops in
    let p = c.args.extending.now.combined.now.table.now.params.now in
    let l = c.loop-f in
    let f = l.f in
    let size = p.dblock - p.block in
    let places = c.args.extending.now.combined.now.place_factors.now in
    let behind = l.behind in
    let start = f * size in
    let n = start + size - start in
    let same : n ≡ size = omega arith in
    let low : (f + 1) * size ≤ 4 * size = mul-le-mul_right size (omega (arith, c.loop-f-test.true)) in
    let fits : start + size ≤ length behind = omega (arith, low, l.invariant.1) in
    let front = take start behind in
    let tail = drop n (drop start behind) in
    let row = c.extend_behind.new.behind in
    let own : length (take n (drop start behind)) ≡ size = length-take-le n (drop start behind) (omega (arith, fits, same, length-drop start behind)) ∙ same in
    let many : length front ≡ f * size = length-take-le start behind (omega (arith, fits)) in
    let wide : length row ≡ size = c.extend_behind.ensures.behind ∙ own in
    let whole : length (front ++ (row ++ tail)) ≡ 4 * size =
    omega (arith, length-append front (row ++ tail), length-append row tail, many, wide, length-drop n (drop start behind), length-drop start behind, same, fits, l.invariant.1) in (
      c.extend_behind.ensures.values ∙ l.invariant.0,
      whole,
      c.extend_behind.ensures.room ∙ l.invariant.2,
      λ j list h are k q.
          rows_more o front row tail f size many wide j k (extension o m.coding.element list (p.block + k)) h q
          (λ z. entry-front o behind front start (j * size + k) refl (before_row j k f size z q) ∙ l.invariant.3 j list z are k q)
          (λ e.
          c.extend_behind.ensures.further list
          (record { count = are.count; front = are.front; back = λ s b. are.back s b ∙ ap (λ (n : ℕ). entry o places (n * p.wr + s)) e ∙ sym (c.row_of-places.ensures.values s (omega (arith, b))) }) k (omega (arith, q, own))),
    )

pub loop-f-init : goal.loop-f-init
loop-f-init g c = (c.requires.values, c.requires.behind, refl, λ f list h. absurd (omega (arith, h)))

pub row_of-places-requires-clause-inside : goal.row_of-places-requires-clause-inside
row_of-places-requires-clause-inside g c κs within =
    let p = c.args.extending.now.combined.now.table.now.params.now in
    let low : (c.loop-f.f + 1) * p.wr ≤ 4 * p.wr = mul-le-mul_right p.wr (omega (arith, c.loop-f-test.true)) in
    omega (arith, low, c.args.extending.now.combined.now.by_place)

pub invariant_of-given : goal.invariant_of-given
invariant_of-given g c = record { count = c.row_of-places.ensures.size }

pub extend_behind-requires-clause-values : goal.extend_behind-requires-clause-values
extend_behind-requires-clause-values g c κs within = c.loop-f.invariant.0

pub extend_behind-requires-clause-room : goal.extend_behind-requires-clause-room
extend_behind-requires-clause-room g c = omega (arith, c.requires.room, c.loop-f.invariant.2)

pub returns-clause-values : goal.returns-clause-values
returns-clause-values g c = c.loop-f.invariant.0 ∙ sym c.requires.values

pub returns-clause-behind : goal.returns-clause-behind
returns-clause-behind g c = c.loop-f.invariant.1 ∙ sym c.requires.behind

pub returns-clause-room : goal.returns-clause-room
returns-clause-room g c = c.loop-f.invariant.2

pub returns-clause-further : goal.returns-clause-further
returns-clause-further g c = λ f list h. c.loop-f.invariant.3 f list (omega (arith, h, c.loop-f-test.false))

pub extend_behind-requires-clause-behind : goal.extend_behind-requires-clause-behind
extend_behind-requires-clause-behind g c κs within =
    let p = c.args.extending.now.combined.now.table.now.params.now in
    let size = p.dblock - p.block in
    let low : (c.loop-f.f + 1) * size ≤ 4 * size = mul-le-mul_right size (omega (arith, c.loop-f-test.true)) in
    let b = c.args.extending.now.combined.now.table.now.bounded in
    let start = c.loop-f.f * size in
    let fits : start + size ≤ length c.loop-f.behind = omega (arith, low, c.loop-f.invariant.1) in
    let n = start + size - start in
    omega (arith, length-take-le n (drop start c.loop-f.behind) (omega (arith, fits, length-drop start c.loop-f.behind)), b.dblock, b.block, b.wide)

-- where a place is within, its number of bytes is too
bytes-within : (l n s m : ℕ) → l < n → n * s < m → l * s < m
bytes-within l n s m h b = omega (arith, b, mul-le-mul_right {m = l} {n = n} s (omega (arith, h)))

pub offset_bounds-behind-start : goal.offset_bounds-behind-start
offset_bounds-behind-start g c =
    let p = c.args.extending.now.combined.now.table.now.params.now in
    let size = p.dblock - p.block in
    let low : (c.loop-f.f + 1) * size ≤ 4 * size = mul-le-mul_right size (omega (arith, c.loop-f-test.true)) in
    let b = c.args.extending.now.combined.now.table.now.bounded in
    let start = c.loop-f.f * size in
    let inside : start < length c.args.behind.now = omega (arith, low, c.requires.behind, b.dblock, b.block, b.wide) in
    record { fits = bytes-within start (length c.args.behind.now) _ _ inside (omega arith) }

pub slice_bounds-row-count : goal.slice_bounds-row-count
slice_bounds-row-count g c = omega arith

pub slice_bounds-row-start : goal.slice_bounds-row-start
slice_bounds-row-start g c = omega arith

pub slice_bounds-row-end : goal.slice_bounds-row-end
slice_bounds-row-end g c =
    let p = c.args.extending.now.combined.now.table.now.params.now in
    let size = p.dblock - p.block in
    let low : (c.loop-f.f + 1) * size ≤ 4 * size = mul-le-mul_right size (omega (arith, c.loop-f-test.true)) in
    omega (arith, low, c.loop-f.invariant.1)

pub overflow_mul-start : goal.overflow_mul-start
overflow_mul-start g c =
    let p = c.args.extending.now.combined.now.table.now.params.now in
    let size = p.dblock - p.block in
    let low : (c.loop-f.f + 1) * size ≤ 4 * size = mul-le-mul_right size (omega (arith, c.loop-f-test.true)) in
    let inside : c.loop-f.f * size + size ≤ length c.args.behind.now = omega (arith, low, c.requires.behind) in
    omega arith

pub overflow_add-row : goal.overflow_add-row
overflow_add-row g c =
    let p = c.args.extending.now.combined.now.table.now.params.now in
    let size = p.dblock - p.block in
    let low : (c.loop-f.f + 1) * size ≤ 4 * size = mul-le-mul_right size (omega (arith, c.loop-f-test.true)) in
    let inside : c.loop-f.f * size + size ≤ length c.args.behind.now = omega (arith, low, c.requires.behind) in
    omega arith

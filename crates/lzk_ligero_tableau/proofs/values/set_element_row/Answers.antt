use Rattle.lzk_profile.specs.Profile.{opened_count}
use Rattle.std.proofs.Common.{◌≡◌, ◌+◌, ◌-◌, ◌*◌, ◌++◌, ◌≤◌, length, drop, ap, ◌∙◌, arith, length-take, length-drop}
use Rattle.std.proofs.Math.Nat.{mul-le-mul_right}
use Rattle.lzk_ligero_tableau.specs.Tableau.{low_words, randoms, rows_words}
use Rattle.lzk_ligero_tableau.proofs.FilledLaws.{part_filled}
use Rattle.lzk_ligero_tableau.proofs.values.set_element_row.Goals as goal

pub returns : goal.returns
returns g c =
    let f = g.F.Field in
    let o = f.ops in
    let e = f.coding in
    let w = low_words (g.W.Words.at c.args.row.now.given.now.words.now) in
    let p = c.args.row.now.given.now.plan.now.params in
    let i = c.args.row.now.i in
    let elements = c.args.row.now.elements.now in
    let head : c.set_random.new.out ≡ randoms o e w (rows_words p + opened_count * i) opened_count =
    c.set_random.ensures
    ∙ (ap (λ m. randoms o e w (m + opened_count * i) (length c.split_at_mut-head.result.0.now)) c.rows_first.ensures.first ∙ ap (randoms o e w (rows_words p + opened_count * i)) c.split_at_mut-head.ensures.front_len) in
    let low : (i + 1) * p.wr ≤ (p.nrow - 3) * p.wr = mul-le-mul_right p.wr (omega (arith, c.args.row.now.inside)) in
    ap (λ xs. xs ++ c.copy_from_slice.new.self) head
    ∙ ap (λ xs. randoms o e w (rows_words p + opened_count * i) opened_count ++ xs)
    (c.copy_from_slice.ensures.after ∙ part_filled o.zero elements (i * p.wr) ((i + 1) * p.wr) p.wr (omega arith) (omega (arith, low, c.args.row.now.whole)))

pub slice_bounds-copy_from_slice-end : goal.slice_bounds-copy_from_slice-end
slice_bounds-copy_from_slice-end g c =
    let r = c.args.row.now in
    let p = r.given.now.plan.now.params in
    let low : (r.i + 1) * p.wr ≤ (p.nrow - 3) * p.wr = mul-le-mul_right p.wr (omega (arith, r.inside)) in
    omega (arith, low, r.whole)

pub slice_bounds-copy_from_slice-start : goal.slice_bounds-copy_from_slice-start
slice_bounds-copy_from_slice-start g c = omega arith

pub copy_from_slice-requires : goal.copy_from_slice-requires
copy_from_slice-requires g c =
    let r = c.args.row.now in
    let b = r.given.now.plan.now.bounded in
    let p = r.given.now.plan.now.params in
    let elements = r.elements.now in
    let low : (r.i + 1) * p.wr ≤ (p.nrow - 3) * p.wr = mul-le-mul_right p.wr (omega (arith, r.inside)) in
    let size = (r.i + 1) * p.wr - r.i * p.wr in
    omega (arith, low, r.whole, length-take size (drop (r.i * p.wr) elements), length-drop (r.i * p.wr) elements, c.split_at_mut-head.ensures.back_len, c.requires.room, b.block)

pub overflow_mul-i-2 : goal.overflow_mul-i-2
overflow_mul-i-2 g c =
    let r = c.args.row.now in
    let p = r.given.now.plan.now.params in
    let low : (r.i + 1) * p.wr ≤ (p.nrow - 3) * p.wr = mul-le-mul_right p.wr (omega (arith, r.inside)) in
    omega (arith, low, r.whole)

pub overflow_mul-i-3 : goal.overflow_mul-i-3
overflow_mul-i-3 g c =
    let r = c.args.row.now in
    let p = r.given.now.plan.now.params in
    let low : (r.i + 1) * p.wr ≤ (p.nrow - 3) * p.wr = mul-le-mul_right p.wr (omega (arith, r.inside)) in
    omega (arith, low, r.whole)

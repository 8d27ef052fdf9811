use Rattle.std.proofs.Common.{◌≡◌, ℕ, ◌+◌, ◌-◌, ◌<◌, List, take, drop, length, refl, ap, ◌∙◌, arith, sym, subst, slice_set, get_or-set_other, get_or-set_same, below_more, length-take, length-drop}
use Rattle.std.proofs.Math.ListN.{length-set}
use Rattle.std.proofs.lemmas.List.{get_or-take, get_or-drop, get_or_default}
use Rattle.lzk_field.specs.Sums.{entry}
use Rattle.lzk_poly.specs.Weights.{IsWeights, parts, quotient_sum}
use Rattle.lzk_poly.proofs.Blocks.{block_adds_parts}
use Rattle.lzk_plain.proofs.extender.Row.add_parts.Goals as goal

pub returns : goal.returns
returns g c =
    let m = g.F.Field in
    let o = m.ops in
    let values = c.args.self.now.values.now in
    let ws = c.weights.result.now in
    let block = c.fill_block.new.block in
    let start = c.args.start in
    let size : length block ≡ length c.args.block.now = omega arith in
    let counted : length values ≡ c.args.self.now.weights.now.count = c.args.self.now.fits in
    let weights : IsWeights o m.coding.element (length values) ws = subst (λ (n : ℕ). IsWeights o m.coding.element n ws) (sym counted) c.weights.ensures in
    let placed : (xs : List g.row.F.Denot) (a n k : ℕ) → k < n → entry o (take n (drop a xs)) k ≡ entry o xs (a + k) =
    λ xs a n k h. get_or-take n (drop a xs) k o.zero h ∙ get_or-drop a xs k o.zero in
    let n = start + length c.args.block.now - start in
    λ k h e.
    let x = m.coding.element (c.args.from + k) in
    c.loop-t.invariant.1 k (omega arith)
    ∙ ap (λ w. o.plus w (quotient_sum o m.coding.element block (start + length c.args.block.now) x)) e
    ∙ subst (λ (n : ℕ). o.plus (parts o m.coding.element values start x) (quotient_sum o m.coding.element block (start + n) x) ≡ parts o m.coding.element values (start + n) x) size
    (block_adds_parts o m.laws.ring m.laws.field m.coding.element values ws block start x weights (omega arith)
    (λ i l.
    let at = length block - 1 - i in
    let same : start + at ≡ start + length block - 1 - i = omega arith in
    c.fill_block.ensures i l
    ∙ ap (λ w. o.times w (entry o (take n (drop start ws)) at)) (placed values start n at (omega arith) ∙ ap (entry o values) same)
    ∙ ap (o.times (entry o values (start + length block - 1 - i))) (placed ws start n at (omega arith) ∙ ap (entry o ws) same)))

pub slice_bounds-fill_block-count : goal.slice_bounds-fill_block-count
slice_bounds-fill_block-count g c = omega arith

pub fill_block-requires-clause-values : goal.fill_block-requires-clause-values
fill_block-requires-clause-values g c κs within =
    let start = c.args.start in
    let n = start + length c.args.block.now - start in
    let values = c.args.self.now.values.now in
    omega (arith, length-take n (drop start values), length-drop start values, c.requires.within)

pub fill_block-requires-clause-weights : goal.fill_block-requires-clause-weights
fill_block-requires-clause-weights g c κs within =
    let start = c.args.start in
    let n = start + length c.args.block.now - start in
    let ws = c.weights.result.now in
    omega (arith, length-take n (drop start ws), length-drop start ws, c.requires.within, c.weights.ensures.0, c.args.self.now.fits)

pub loop-t-init : goal.loop-t-init
loop-t-init g c = (c.fill_block.auto.block, λ k h. absurd (omega (arith, h)), λ k p h. refl)

pub quotients-requires-clause-enough : goal.quotients-requires-clause-enough
quotients-requires-clause-enough g c κs within = omega (arith, c.fill_block.auto.block)

pub quotients-requires-clause-within : goal.quotients-requires-clause-within
quotients-requires-clause-within g c κs within = omega (arith, c.requires.within, c.args.self.now.fits)

pub quotients-requires-clause-further : goal.quotients-requires-clause-further
quotients-requires-clause-further g c κs within = (
  omega (arith, c.requires.further.0),
  omega (arith, c.requires.further.1, c.loop-t-test.true, c.loop-t.auto.out),
)

pub loop-t-preserved : goal.loop-t-preserved
loop-t-preserved g c =
    let m = g.F.Field in
    let o = m.ops in
    let out = c.loop-t.out in
    let t = c.loop-t.t in
    let sum = c.add.result in
    let inv = c.loop-t.invariant in
    let inside : t < length out = omega (arith, c.loop-t-test.true, c.loop-t.auto.out) in
    let q : ℕ → g.row.F.Denot = λ k. quotient_sum o m.coding.element c.fill_block.new.block (c.args.start + length c.args.block.now) (m.coding.element (c.args.from + k)) in
    let old : c.index-out-t.result ≡ entry o c.args.out.now t = c.index-out-t.is ∙ get_or_default out t c.index-out-t.result o.zero inside ∙ inv.2 t (omega arith) inside in
    let here : sum ≡ o.plus (entry o c.args.out.now t) (q t) = c.add.ensures ∙ ap (λ w. o.plus w c.quotients.result) old ∙ ap (o.plus (entry o c.args.out.now t)) c.quotients.ensures in (
      inv.0,
      below_more (λ k. entry o (slice_set out t sum) k ≡ o.plus (entry o c.args.out.now k) (q k)) t
          (λ k h. get_or-set_other out t k sum o.zero (omega (arith, h)) ∙ inv.1 k h)
          (get_or-set_same out t sum o.zero inside ∙ here),
      λ k p h. get_or-set_other out t k sum o.zero (omega (arith, p)) ∙ inv.2 k (omega (arith, p)) (omega (arith, h, length-set out t sum)),
    )

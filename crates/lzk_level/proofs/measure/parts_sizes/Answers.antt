use Rattle.std.proofs.Common.{◌∙◌, ap, sym, ◌+◌, ◌-◌, ◌^◌, max, min, take, refl, arith}
use Rattle.lzk_circuit_reduce.specs.Renumbering.{at}
use Rattle.lzk_level.specs.Bounds.{at_parts, total, greatest}
use Rattle.lzk_level.proofs.GateLaws.{greatest-append, total-append, parts-more, capped-more}
use Rattle.std.proofs.lemmas.List.{take_all}
use Rattle.lzk_level.proofs.measure.parts_sizes.Goals as goal

pub loop-i-preserved : goal.loop-i-preserved
loop-i-preserved g c =
    let depths = c.args.depths.now in
    let weights = c.args.weights.now in
    let parts = c.args.parts.now in
    let i = c.loop-i.i in
    let p = c.index-parts-i.result in
    let v = c.loop-i.invariant in
    let so_far = at_parts weights (take i parts) in
    let deeper = ap (greatest 1) (parts-more depths parts i p c.loop-i-test.true c.index-parts-i.is) ∙ greatest-append 1 (at depths p.1) (at_parts depths (take i parts)) in
    let heavier = ap total (parts-more weights parts i p c.loop-i-test.true c.index-parts-i.is) ∙ total-append so_far (at weights p.1) in
    record {
      depth = c.larger-depth.ensures ∙ ap (λ n. max c.loop-i.depth n) c.of_node.ensures ∙ ap (λ m. max m (at depths p.1)) v.depth ∙ sym deeper;
      weight = capped-more c.loop-i.weight (total so_far) (at weights p.1) c.saturating_add-weight.result (total (at_parts weights (take (i + 1) parts))) v.weight
          (c.saturating_add-weight.ensures ∙ ap (λ n. min (c.loop-i.weight + n) (2 ^ 64 - 1)) c.weight_at.ensures) heavier;
    }

pub loop-i-init : goal.loop-i-init
loop-i-init g c = record { depth = refl; weight = refl }

pub offset_bounds-parts-i : goal.offset_bounds-parts-i
offset_bounds-parts-i g c = omega (arith, c.loop-i-test.true)

pub bounds-parts-i : goal.bounds-parts-i
bounds-parts-i g c = c.loop-i-test.true

pub returns-clause-depth : goal.returns-clause-depth
returns-clause-depth g c = c.loop-i.invariant.depth ∙ ap (λ ps. greatest 1 (at_parts c.args.depths.now ps)) (take_all c.loop-i.i c.args.parts.now (omega (arith, c.loop-i-test.false)))

pub returns-clause-weight : goal.returns-clause-weight
returns-clause-weight g c = c.loop-i.invariant.weight ∙ ap (λ ps. min (2 ^ 64 - 1) (total (at_parts c.args.weights.now ps))) (take_all c.loop-i.i c.args.parts.now (omega (arith, c.loop-i-test.false)))

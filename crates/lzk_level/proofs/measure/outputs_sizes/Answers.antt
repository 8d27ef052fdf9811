use Rattle.std.proofs.Common.{◌≡◌, ◌∙◌, ap, sym, ◌+◌, ◌-◌, ◌^◌, max, min, take, map}
use Rattle.std.proofs.lemmas.List.{get_or_default}
use Rattle.lzk_circuit_reduce.specs.Renumbering.{at}
use Rattle.lzk_level.specs.Bounds.{total, greatest}
use Rattle.lzk_level.proofs.GateLaws.{greatest-append, total-append, numbers-more, capped-more}
use Rattle.lzk_level.proofs.measure.outputs_sizes.Goals as goal

pub loop-i-preserved : goal.loop-i-preserved
loop-i-preserved c =
    let depths = c.args.depths.now in
    let weights = c.args.weights.now in
    let outputs = c.args.outputs.now in
    let i = c.loop-i.i in
    let k = c.index-outputs-i.result in
    let v = c.loop-i.invariant in
    let so_far = map (at weights) (take i outputs) in
    let same : k ≡ at outputs i = c.index-outputs-i.is ∙ get_or_default outputs i k 0 c.loop-i-test.true in
    let deeper = ap (greatest 1) (numbers-more depths outputs i k c.loop-i-test.true same) ∙ greatest-append 1 (at depths k) (map (at depths) (take i outputs)) in
    let heavier = ap total (numbers-more weights outputs i k c.loop-i-test.true same) ∙ total-append so_far (at weights k) in
    record {
      depth = c.larger-depth.ensures ∙ ap (λ n. max c.loop-i.depth n) c.of_node.ensures ∙ ap (λ m. max m (at depths k)) v.depth ∙ sym deeper;
      weight = capped-more c.loop-i.weight (total so_far) (at weights k) c.saturating_add-weight.result (total (map (at weights) (take (i + 1) outputs))) v.weight
          (c.saturating_add-weight.ensures ∙ ap (λ n. min (c.loop-i.weight + n) (2 ^ 64 - 1)) c.weight_at.ensures) heavier;
    }

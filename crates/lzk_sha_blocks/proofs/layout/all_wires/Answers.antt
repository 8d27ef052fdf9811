use Rattle.std.proofs.Common.{◌≡◌, ◌+◌, ◌++◌, ◌∷◌, [], ◌∙◌, ap, sym, refl, arith}
use Rattle.std.specs.List.{range_with_len}
use Rattle.lzk_sha_circuit.proofs.Written.{range_more}
use Rattle.lzk_sha_blocks.proofs.layout.all_wires.Goals as goal

pub loop-k-preserved : goal.loop-k-preserved
loop-k-preserved c =
    let k = c.loop-k.k in
    c.in_ok-push.ensures.items ∙ ap (λ l. l ++ (1 + k) ∷ []) c.loop-k.invariant ∙ sym (range_more 1 k (1 + k) refl)

pub returns : goal.returns
returns c =
    let e : c.loop-k.k ≡ c.args.count = omega arith in
    c.loop-k.invariant ∙ ap (range_with_len 1) e

use Rattle.std.proofs.Common.{ℕ, List, take, drop, ◌*◌, ap, ◌∙◌}
use Rattle.sha2.specs.Sha256.{compress}
use Rattle.lzk_sha_lanes.specs.Lanes.{lane}
use Rattle.lzk_sha_lanes.proofs.Side.{of_four-each}
use Rattle.lzk_sha_lanes.proofs.message.take_in.Goals as goal

pub returns : goal.returns
returns c j lt =
    let at : List ℕ → List ℕ = λ bytes. take 64 (drop (c.args.i * 64) bytes) in
    c.compress.ensures j lt
    ∙ ap (compress (lane j c.args.state.now))
    (rw (c.block.ensures.block, c.block-2.ensures.block, c.block-3.ensures.block, c.block-4.ensures.block)
    (of_four-each at c.args.four.now.a.now c.args.four.now.b.now c.args.four.now.c.now c.args.four.now.d.now j lt))

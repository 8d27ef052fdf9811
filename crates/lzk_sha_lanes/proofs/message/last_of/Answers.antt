use Rattle.std.proofs.Common.{ℕ, ◌*◌, replicate, sym, ap, ◌∙◌, arith}
use Rattle.std.proofs.lemmas.List.{take-replicate}
use Rattle.lzk_sha_lanes.proofs.message.last_of.Goals as goal

pub write_last-requires-clause-zeros : goal.write_last-requires-clause-zeros
write_last-requires-clause-zeros c =
    let s = c.split_at_mut-blocks.ensures in
    s.front ∙ take-replicate (64 * c.last_blocks.result) 128 0 (omega arith) ∙ ap (λ (k : ℕ). replicate k 0) (sym s.front_len)

use Rattle.std.proofs.Common.{length, sym, ap, ◌∙◌}
use Rattle.lzk_sumcheck.proofs.Filled.{refill_whole}
use Rattle.lzk_ligero_steps.proofs.opening.open_nonces.Goals as goal

pub write_nonces-requires-clause-below : goal.write_nonces-requires-clause-below
write_nonces-requires-clause-below g c κs within = c.requires.below

pub write_nonces-requires-clause-room : goal.write_nonces-requires-clause-room
write_nonces-requires-clause-room g c κs within = ap length c.as_mut_slice.ensures.value ∙ c.requires.room

pub returns-clause-room : goal.returns-clause-room
returns-clause-room g c =
    let old = c.args.nonces.now in
    ap length (refill_whole (length old) old c.write_nonces.new.nonces (c.write_nonces.ensures.room ∙ sym c.requires.room)) ∙ c.write_nonces.ensures.room

pub returns-clause-nonces : goal.returns-clause-nonces
returns-clause-nonces g c =
    let old = c.args.nonces.now in
    refill_whole (length old) old c.write_nonces.new.nonces (c.write_nonces.ensures.room ∙ sym c.requires.room) ∙ c.write_nonces.ensures.nonces

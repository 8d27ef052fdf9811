use Rattle.std.proofs.Common.{length, sym, ap, ◌∙◌}
use Rattle.lzk_sumcheck.proofs.Filled.{refill_whole}
use Rattle.lzk_ligero_steps.proofs.opening.open_columns.Goals as goal

pub write_columns-requires-clause-below : goal.write_columns-requires-clause-below
write_columns-requires-clause-below g c κs within = c.requires.below

pub write_columns-requires-clause-room : goal.write_columns-requires-clause-room
write_columns-requires-clause-room g c κs within = ap length c.as_mut_slice.ensures.value ∙ c.requires.room

pub returns-clause-room : goal.returns-clause-room
returns-clause-room g c =
    let old = c.args.out.now in
    ap length (refill_whole (length old) old c.write_columns.new.out (c.write_columns.ensures.room ∙ sym c.requires.room)) ∙ c.write_columns.ensures.room

pub returns-clause-columns : goal.returns-clause-columns
returns-clause-columns g c w private word params table =
    let old = c.args.out.now in
    refill_whole (length old) old c.write_columns.new.out (c.write_columns.ensures.room ∙ sym c.requires.room) ∙ c.write_columns.ensures.columns w private word params table

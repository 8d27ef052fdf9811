use Rattle.std.proofs.Common.{◌≡◌, take}
use Rattle.lzk_transcript.specs.Columns.{after_draws, opened}
use Rattle.lzk_transcript.proofs.tape.Tape.draw_columns.Given as goal

abbrev pub invariant-loop-k : goal.invariant-loop-k
invariant-loop-k l = (take l.k l.out ≡ opened l.mcol l.k l.initial.self) × (l.self ≡ after_draws l.k l.initial.self)

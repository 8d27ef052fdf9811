use Rattle.std.proofs.Common.{ap, ◌∙◌}
use Rattle.lzk_transcript.specs.Tape.{appended}
use Rattle.lzk_transcript.proofs.Entries.{bytes_entry_is}
use Rattle.lzk_transcript.proofs.tape.Tape.bytes.Goals as goal

pub returns : goal.returns
returns c = c.append.ensures ∙ ap (appended c.args.b.now) c.append_count.ensures ∙ bytes_entry_is c.args.b.now c.args.self.now

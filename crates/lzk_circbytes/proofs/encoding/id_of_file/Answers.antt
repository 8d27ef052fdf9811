use Rattle.std.proofs.Common.{◌∙◌}
use Rattle.lzk_circbytes.proofs.Whole.{file_gives_id}
use Rattle.lzk_circbytes.proofs.encoding.id_of_file.Goals as goal

pub returns-clause-id : goal.returns-clause-id
returns-clause-id c =
    λ circuit is. c.digest.ensures ∙ file_gives_id circuit c.args.bytes.now is

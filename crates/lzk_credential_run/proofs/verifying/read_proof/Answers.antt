use Rattle.lzk_cmd_files.specs.Seen.{seen}
use Rattle.lzk_credential_run.proofs.VerifyEnds.{proof_given}
use Rattle.lzk_credential_run.proofs.verifying.read_proof.Goals as goal

pub returns-clause-gives : goal.returns-clause-gives
returns-clause-gives g c = proof_given (seen g.S.Shelf c.args.shelf.now) (seen g.S.Shelf c.read_file.new.shelf) c.args.name.now c.read_file.result c.read_file.ensures.gives

use Rattle.std.proofs.Common.{ap, sym, subst, ◌∙◌}
use Rattle.lzk_circbytes.specs.declared.any.AnyCircuit.{AnyCircuit}
use Rattle.lzk_circbytes.specs.Files.{id_of_any}
use Rattle.lzk_cmd_files.specs.Walks.{Walks}
use Rattle.lzk_cmd_verify.specs.Verified.{VerifyAny}
use Rattle.lzk_cmd_files.specs.Seen.{seen}
use Rattle.lzk_cmd_verify.proofs.verifying.verify_any.Goals as goal

pub returns-in-Gold-clause-walks : goal.returns-in-Gold-clause-walks
returns-in-Gold-clause-walks g c =
    let old = seen g.S.Shelf c.args.shelf.now in
    let new = seen g.S.Shelf c.verify_over.new.shelf in
    subst (λ (any : AnyCircuit). Walks (VerifyAny any c.args.public_file.now c.args.proof.now c.args.session.now) 1 old new c.verify_over.result) (sym c.in-Gold.is) c.verify_over.ensures.walks

pub returns-in-Gf-clause-walks : goal.returns-in-Gf-clause-walks
returns-in-Gf-clause-walks g c =
    let old = seen g.S.Shelf c.args.shelf.now in
    let new = seen g.S.Shelf c.verify_over-in-Gf.new.shelf in
    subst (λ (any : AnyCircuit). Walks (VerifyAny any c.args.public_file.now c.args.proof.now c.args.session.now) 1 old new c.verify_over-in-Gf.result) (sym c.in-Gf.is) c.verify_over-in-Gf.ensures.walks

pub returns-in-Gold-clause-reads : goal.returns-in-Gold-clause-reads
returns-in-Gold-clause-reads g c = c.verify_over.ensures.reads

pub returns-in-Gf-clause-reads : goal.returns-in-Gf-clause-reads
returns-in-Gf-clause-reads g c = c.verify_over-in-Gf.ensures.reads

pub verify_over-requires-clause-id : goal.verify_over-requires-clause-id
verify_over-requires-clause-id g c κs within = c.requires.id ∙ ap id_of_any c.in-Gold.is

pub verify_over-requires-in-Gf-clause-id : goal.verify_over-requires-in-Gf-clause-id
verify_over-requires-in-Gf-clause-id g c κs within = c.requires.id ∙ ap id_of_any c.in-Gf.is

pub verify_over-requires-clause-session : goal.verify_over-requires-clause-session
verify_over-requires-clause-session g c κs within = c.requires.session

pub verify_over-requires-in-Gf-clause-session : goal.verify_over-requires-in-Gf-clause-session
verify_over-requires-in-Gf-clause-session g c κs within = c.requires.session

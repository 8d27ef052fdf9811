use Rattle.std.proofs.Common.{subst, ap, sym, ◌∙◌}
use Rattle.lzk_circuit.specs.Valid.{Wiring}
use Rattle.lzk_cmd_files.specs.Seen.{seen}
use Rattle.lzk_cmd_files.specs.Walks.{Walks}
use Rattle.lzk_cmd_verify.specs.Feeding.{JudgesFile}
use Rattle.lzk_cmd_files.proofs.Sights.{no_step, where_told}
use Rattle.lzk_cmd_files.specs.declared.ending.Halt.TheVariants as halts
use Rattle.lzk_cmd_files.proofs.Steps.{handed_on}
use Rattle.lzk_cmd_verify.proofs.verifying.judge_file.Goals as goal

pub returns-clause-walks : goal.returns-clause-walks
returns-clause-walks g c =
    let f = g.F.Field in
    let e = f.coding in
    subst (λ (w : Wiring _). Walks (JudgesFile f.ops e w c.args.session.now c.args.publics.now c.args.proof.now) 2 (seen g.S.Shelf c.args.shelf.now) (seen g.S.Shelf c.judge_by-ending.new.shelf) c.judge_by-ending.result) c.in_ok-desk.ensures.circuit c.judge_by-ending.ensures.walks

pub returns-in_err-desk-clause-reads : goal.returns-in_err-desk-clause-reads
returns-in_err-desk-clause-reads g c = no_step (seen g.S.Shelf c.args.shelf.now)

pub returns-clause-reads : goal.returns-clause-reads
returns-clause-reads g c = c.judge_by-ending.ensures.reads

pub with_id-requires-clause-id : goal.with_id-requires-clause-id
with_id-requires-clause-id g c κs within = c.requires.id

pub judge_by-ending-requires-clause-session : goal.judge_by-ending-requires-clause-session
judge_by-ending-requires-clause-session g c κs within = c.requires.session

pub judge_by-ending-requires-clause-publics : goal.judge_by-ending-requires-clause-publics
judge_by-ending-requires-clause-publics g c κs within = c.requires.publics ∙ ap (λ (w : Wiring _). w.publics) (sym c.in_ok-desk.ensures.circuit)

pub returns-in_err-desk-clause-walks : goal.returns-in_err-desk-clause-walks
returns-in_err-desk-clause-walks g c =
    let f = g.F.Field in
    let old = seen g.S.Shelf c.args.shelf.now in
    handed_on (Walks (JudgesFile f.ops f.coding c.args.circuit.now c.args.session.now c.args.publics.now c.args.proof.now) 2 old old) _ halts.Memory c.from_residual.ensures.1 (where_told old.files _ (λ files at. at))

use Rattle.std.proofs.Common.{List, subst, length, ap, ◌∙◌}
use Rattle.lzk_cmd_verify.specs.Feeding.{JudgesFile}
use Rattle.lzk_cmd_files.specs.Seen.{seen}
use Rattle.lzk_cmd_files.specs.Walks.{Walks}
use Rattle.lzk_cmd_verify.proofs.Verifies.{no_publics, with_publics}
use Rattle.lzk_cmd_files.proofs.Sights.{reads_then}
use Rattle.lzk_cmd_verify.proofs.verifying.verify_over.Goals as goal

pub returns-in_err-publics-clause-walks : goal.returns-in_err-publics-clause-walks
returns-in_err-publics-clause-walks g c =
    let e = g.F.Field.coding in
    let end = seen g.S.Shelf c.read_elements.new.shelf in
    no_publics g.F.Field.ops e c.args.circuit.now c.args.public_file.now c.args.proof.now c.args.session.now (seen g.S.Shelf c.args.shelf.now) end end c.publics.result c.in_err-publics.field-0.0 _ c.publics.ensures
    c.in_err-publics.ensures.reads c.in_err-publics.ensures.gives c.from_residual.ensures.1

pub returns-clause-walks : goal.returns-clause-walks
returns-clause-walks g c =
    let o = g.F.Field.ops in
    let e = g.F.Field.coding in
    let mid = seen g.S.Shelf c.read_elements.new.shelf in
    let end = seen g.S.Shelf c.judge_file.new.shelf in
    with_publics o e c.args.circuit.now c.args.public_file.now c.args.proof.now c.args.session.now (seen g.S.Shelf c.args.shelf.now) mid end c.publics.result c.in_ok-publics.publics c.judge_file.result
    c.publics.ensures c.in_ok-publics.ensures.reads c.in_ok-publics.ensures.gives
    (subst (λ (xs : List _). Walks (JudgesFile o e c.args.circuit.now c.args.session.now xs c.args.proof.now) 2 mid end c.judge_file.result) c.deref.ensures.value c.judge_file.ensures.walks)

pub returns-in_err-publics-clause-reads : goal.returns-in_err-publics-clause-reads
returns-in_err-publics-clause-reads g c = c.read_elements.ensures.reads

pub returns-clause-reads : goal.returns-clause-reads
returns-clause-reads g c = reads_then (seen g.S.Shelf c.args.shelf.now) (seen g.S.Shelf c.read_elements.new.shelf) (seen g.S.Shelf c.judge_file.new.shelf) c.read_elements.ensures.reads c.judge_file.ensures.reads

pub judge_file-requires-clause-id : goal.judge_file-requires-clause-id
judge_file-requires-clause-id g c κs within = c.requires.id

pub judge_file-requires-clause-session : goal.judge_file-requires-clause-session
judge_file-requires-clause-session g c κs within = c.requires.session

pub judge_file-requires-clause-publics : goal.judge_file-requires-clause-publics
judge_file-requires-clause-publics g c κs within = ap length c.deref.ensures.value ∙ c.in_ok-publics.ensures.count ∙ c.publics.ensures

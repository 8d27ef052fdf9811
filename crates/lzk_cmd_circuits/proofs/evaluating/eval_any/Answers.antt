use Rattle.std.proofs.Common.{sym, subst}
use Rattle.lzk_circbytes.specs.declared.any.AnyCircuit.{AnyCircuit}
use Rattle.lzk_cmd_files.specs.Seen.{seen}
use Rattle.lzk_cmd_files.specs.Walks.{Walks}
use Rattle.lzk_cmd_circuits.specs.Evaluated.{EvalAny}
use Rattle.lzk_cmd_circuits.proofs.evaluating.eval_any.Goals as goal

pub returns-in-Gold-clause-walks : goal.returns-in-Gold-clause-walks
returns-in-Gold-clause-walks g c =
    let old = seen g.S.Shelf c.args.shelf.now in
    let new = seen g.S.Shelf c.eval_over.new.shelf in
    subst (λ (any : AnyCircuit). Walks (EvalAny any c.args.public_file.now c.args.private_file.now) 1 old new c.eval_over.result) (sym c.in-Gold.is) c.eval_over.ensures.walks

pub returns-in-Gf-clause-walks : goal.returns-in-Gf-clause-walks
returns-in-Gf-clause-walks g c =
    let old = seen g.S.Shelf c.args.shelf.now in
    let new = seen g.S.Shelf c.eval_over-in-Gf.new.shelf in
    subst (λ (any : AnyCircuit). Walks (EvalAny any c.args.public_file.now c.args.private_file.now) 1 old new c.eval_over-in-Gf.result) (sym c.in-Gf.is) c.eval_over-in-Gf.ensures.walks

pub returns-in-Gold-clause-reads : goal.returns-in-Gold-clause-reads
returns-in-Gold-clause-reads g c = c.eval_over.ensures.reads

pub returns-in-Gf-clause-reads : goal.returns-in-Gf-clause-reads
returns-in-Gf-clause-reads g c = c.eval_over-in-Gf.ensures.reads

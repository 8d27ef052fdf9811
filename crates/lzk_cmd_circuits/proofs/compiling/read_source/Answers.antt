use Rattle.lzk_cmd_files.specs.Seen.{seen}
use Rattle.lzk_cmd_circuits.proofs.Compiles.{no_text, code_given}
use Rattle.lzk_cmd_circuits.proofs.compiling.read_source.Goals as goal

pub returns-in_err-text-clause-gives : goal.returns-in_err-text-clause-gives
returns-in_err-text-clause-gives g c =
    no_text c.args.name.now (seen g.S.Shelf c.args.shelf.now) (seen g.S.Shelf c.read_file.new.shelf) c.in_err-text.field-0.0 _ c.in_err-text.ensures.gives c.from_residual.ensures.1

pub returns-clause-gives : goal.returns-clause-gives
returns-clause-gives g c =
    code_given c.args.name.now (seen g.S.Shelf c.args.shelf.now) (seen g.S.Shelf c.read_file.new.shelf) c.in_ok-text.text.items c.deref.result.now _ c.deref.ensures.value c.in_ok-text.ensures.gives c.code_of.ensures

pub returns-in_err-text-clause-reads : goal.returns-in_err-text-clause-reads
returns-in_err-text-clause-reads g c = c.read_file.ensures.reads

pub returns-clause-reads : goal.returns-clause-reads
returns-clause-reads g c = c.read_file.ensures.reads

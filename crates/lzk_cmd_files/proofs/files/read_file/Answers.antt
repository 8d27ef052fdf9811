use Rattle.lzk_cmd_files.proofs.Sights.{where_told, at_told}
use Rattle.lzk_cmd_files.proofs.files.read_file.Goals as goal

pub returns-in-Ok-clause-reads : goal.returns-in-Ok-clause-reads
returns-in-Ok-clause-reads g c = c.load.ensures.reads

pub returns-in-Err-clause-reads : goal.returns-in-Err-clause-reads
returns-in-Err-clause-reads g c = c.load.ensures.reads

pub returns-in-Ok-clause-gives : goal.returns-in-Ok-clause-gives
returns-in-Ok-clause-gives g c =
    let told = g.S.Shelf.held c.args.shelf.now in
    where_told told _ (λ files at. let h = at_told told _ files at c.in-Ok.ensures.told in record { there = h.0; fits = h.1 })

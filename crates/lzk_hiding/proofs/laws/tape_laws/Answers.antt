use Rattle.lzk_hiding.proofs.Trees.{programmed_files, programmed_accepted, proofs_completed}
use Rattle.lzk_hiding.proofs.laws.tape_laws.Goals as goal

pub returns-clause-completed : goal.returns-clause-completed
returns-clause-completed g c = let m = g.F.Field in proofs_completed m.ops m.coding

pub returns-clause-programmed : goal.returns-clause-programmed
returns-clause-programmed g c = let m = g.F.Field in programmed_accepted m.ops m.coding

pub returns-clause-files : goal.returns-clause-files
returns-clause-files g c = let m = g.F.Field in λ w public t view nonces others valid are many passes count nonces_are others_are.
    programmed_files m.ops m.coding w public t view nonces others valid are many passes count nonces_are others_are

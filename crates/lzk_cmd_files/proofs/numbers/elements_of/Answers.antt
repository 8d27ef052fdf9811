use Rattle.std.proofs.Common.{refl, sym}
use Rattle.std.proofs.lemmas.Result.{IfOk-from_err}
use Rattle.lzk_cmd_files.specs.Decoded.{number_files}
use Rattle.lzk_cmd_files.specs.Walks.{Decodes}
use Rattle.lzk_cmd_files.proofs.Inputs.{items_of}
use Rattle.lzk_cmd_files.proofs.Steps.{handed_on}
use Rattle.lzk_cmd_files.specs.declared.ending.Halt.TheVariants as halts
use Rattle.lzk_cmd_files.proofs.numbers.elements_of.Goals as goal

pub returns-in-Ok-clause-decodes : goal.returns-in-Ok-clause-decodes
returns-in-Ok-clause-decodes g c = c.in-Ok.ensures.found

pub returns-in-Err-OutOfMemory-clause-decodes : goal.returns-in-Err-OutOfMemory-clause-decodes
returns-in-Err-OutOfMemory-clause-decodes g c = tt

pub returns-in-Err-OutOfMemory-clause-count : goal.returns-in-Err-OutOfMemory-clause-count
returns-in-Err-OutOfMemory-clause-count g c = tt

pub returns-in_ok-text-in-Err-Fault-clause-decodes : goal.returns-in_ok-text-in-Err-Fault-clause-decodes
returns-in_ok-text-in-Err-Fault-clause-decodes g c = (c.in-Err-Fault.fault, rw c.in-Err-Fault.field-0-is at c.in-Err-Fault.ensures.fault, record { status = refl; text = sym c.in_ok-text-in-Err-Fault.ensures })

pub returns-in_ok-text-in-Err-Fault-clause-count : goal.returns-in_ok-text-in-Err-Fault-clause-count
returns-in_ok-text-in-Err-Fault-clause-count g c = tt

pub returns-in_err-text-in-Err-Fault-clause-count : goal.returns-in_err-text-in-Err-Fault-clause-count
returns-in_err-text-in-Err-Fault-clause-count g c = IfOk-from_err _ _ c.from_residual.ensures.0

pub returns-in_err-text-in-Err-Fault-clause-decodes : goal.returns-in_err-text-in-Err-Fault-clause-decodes
returns-in_err-text-in-Err-Fault-clause-decodes g c = handed_on (Decodes (number_files g.F.Field.coding.size g.F.Field.coding.number c.args.count) items_of c.args.name.now c.args.text.now) _ halts.Memory c.from_residual.ensures.1 tt

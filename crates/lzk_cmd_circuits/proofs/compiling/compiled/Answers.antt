use Rattle.lzk_cmd_files.specs.declared.ending.Halt.TheVariants as halts
use Rattle.lzk_cmd_files.proofs.Steps.{handed_on}
use Rattle.lzk_cmd_circuits.specs.CircuitSteps.{Compiles}
use Rattle.lzk_cmd_circuits.proofs.compiling.compiled.Goals as goal

pub returns-in-Err-OutOfMemory : goal.returns-in-Err-OutOfMemory
returns-in-Err-OutOfMemory c = λ source is. tt

pub returns-in_err-file_of-in-Ok : goal.returns-in_err-file_of-in-Ok
returns-in_err-file_of-in-Ok c = λ source is. handed_on (Compiles c.args.version c.args.name.now c.args.circuit.now source) _ halts.Memory c.from_residual.ensures.1 tt

pub returns-in_err-text-in-Err-Fault : goal.returns-in_err-text-in-Err-Fault
returns-in_err-text-in-Err-Fault c = λ source is. handed_on (Compiles c.args.version c.args.name.now c.args.circuit.now source) _ halts.Memory c.from_residual-in_err-text-in-Err-Fault.ensures.1 tt

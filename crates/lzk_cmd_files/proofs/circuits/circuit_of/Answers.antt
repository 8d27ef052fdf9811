use Rattle.std.proofs.Common.{refl, sym}
use Rattle.lzk_cmd_files.proofs.circuits.circuit_of.Goals as goal

pub returns-in_ok-text-in-Err-Fault : goal.returns-in_ok-text-in-Err-Fault
returns-in_ok-text-in-Err-Fault c =
    let fault = c.in-Err-Fault.fault in
    ((fault.offset, fault.kind), rw c.in-Err-Fault.field-0-is at c.in-Err-Fault.ensures.fault, record { status = refl; text = sym c.in_ok-text-in-Err-Fault.ensures })

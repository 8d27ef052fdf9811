use Rattle.lzk_circbytes.proofs.Bounds.{fault_within}
use Rattle.lzk_circbytes.proofs.Bodies.{bytes_fit}
use Rattle.lzk_circbytes.proofs.Whole.{one_circuit, one_file, no_fault, no_circuit, circuit_bytes_from_read, fault_found}
use Rattle.lzk_circbytes.proofs.Sizes.{files_fit}
use Rattle.lzk_circbytes.proofs.decoding.decode.Goals as goal

pub overflow_sub-offset : goal.overflow_sub-offset
overflow_sub-offset c = fault_within c.args.bytes.now (record { left = c.in-Err-Stops.left; kind = c.in-Err-Stops.kind }) (rw c.in-Err-Stops.field-0-is at c.in-Err-Stops.ensures.value)

pub returns-in-Ok-clause-circuit : goal.returns-in-Ok-clause-circuit
returns-in-Ok-clause-circuit c = circuit_bytes_from_read c.in-Ok.circuit c.args.bytes.now (bytes_fit c.args.bytes.now c.type_inv.bytes) c.in-Ok.ensures.valid c.in-Ok.ensures.value

pub returns-in-Err-Stops-clause-fault : goal.returns-in-Err-Stops-clause-fault
returns-in-Err-Stops-clause-fault c = fault_found c.args.bytes.now c.in-Err-Stops.left c.in-Err-Stops.kind (rw c.in-Err-Stops.field-0-is at c.in-Err-Stops.ensures.value)

pub returns-in-Err-Stops-clause-no_circuit : goal.returns-in-Err-Stops-clause-no_circuit
returns-in-Err-Stops-clause-no_circuit c = no_circuit c.args.bytes.now (record { left = c.in-Err-Stops.left; kind = c.in-Err-Stops.kind }) (rw c.in-Err-Stops.field-0-is at c.in-Err-Stops.ensures.value)

pub returns-in-Ok-clause-one_circuit : goal.returns-in-Ok-clause-one_circuit
returns-in-Ok-clause-one_circuit c = one_circuit

pub returns-in-Ok-clause-one_file : goal.returns-in-Ok-clause-one_file
returns-in-Ok-clause-one_file c = one_file

pub returns-in-Ok-clause-no_fault : goal.returns-in-Ok-clause-no_fault
returns-in-Ok-clause-no_fault c = no_fault

pub returns-in-Ok-clause-files_fit : goal.returns-in-Ok-clause-files_fit
returns-in-Ok-clause-files_fit c = files_fit

pub returns-in-Err-Stops-clause-one_circuit : goal.returns-in-Err-Stops-clause-one_circuit
returns-in-Err-Stops-clause-one_circuit c = one_circuit

pub returns-in-Err-Stops-clause-one_file : goal.returns-in-Err-Stops-clause-one_file
returns-in-Err-Stops-clause-one_file c = one_file

pub returns-in-Err-Stops-clause-no_fault : goal.returns-in-Err-Stops-clause-no_fault
returns-in-Err-Stops-clause-no_fault c = no_fault

pub returns-in-Err-Stops-clause-files_fit : goal.returns-in-Err-Stops-clause-files_fit
returns-in-Err-Stops-clause-files_fit c = files_fit

pub returns-in-Err-OutOfMemory-clause-one_circuit : goal.returns-in-Err-OutOfMemory-clause-one_circuit
returns-in-Err-OutOfMemory-clause-one_circuit c = one_circuit

pub returns-in-Err-OutOfMemory-clause-one_file : goal.returns-in-Err-OutOfMemory-clause-one_file
returns-in-Err-OutOfMemory-clause-one_file c = one_file

pub returns-in-Err-OutOfMemory-clause-no_fault : goal.returns-in-Err-OutOfMemory-clause-no_fault
returns-in-Err-OutOfMemory-clause-no_fault c = no_fault

pub returns-in-Err-OutOfMemory-clause-files_fit : goal.returns-in-Err-OutOfMemory-clause-files_fit
returns-in-Err-OutOfMemory-clause-files_fit c = files_fit

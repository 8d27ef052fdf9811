use Rattle.lzk_circuit_faults.proofs.FirstFaults.{faults_are_first, one_first_fault, file_or_fault, never_both}
use Rattle.lzk_circuit_faults.proofs.laws.circuit_fault_laws.Goals as goal

pub returns-clause-first : goal.returns-clause-first
returns-clause-first c = faults_are_first

pub returns-clause-one : goal.returns-clause-one
returns-clause-one c = one_first_fault

pub returns-clause-some : goal.returns-clause-some
returns-clause-some c = file_or_fault

pub returns-clause-none : goal.returns-clause-none
returns-clause-none c = never_both

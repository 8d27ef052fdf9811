use Rattle.std.proofs.Common.{subst}
use Rattle.lzk_circbytes.specs.declared.any.AnyCircuit.{AnyCircuit}
use Rattle.lzk_cmd_files.specs.Decoded.{circuit_files}
use Rattle.lzk_cmd_files.specs.Walks.{Decodes}
use Rattle.lzk_cmd_files.specs.declared.circuits.Held.{Held}
use Rattle.lzk_cmd_files.proofs.Steps.{still_refused}
use Rattle.lzk_cmd_prove.proofs.circuits.held_beside.Goals as goal

pub returns-in-Err-clause-decodes : goal.returns-in-Err-clause-decodes
returns-in-Err-clause-decodes g c =
    still_refused circuit_files (λ (x : AnyCircuit). x) (λ (held : Held). held.circuit) c.args.name.now c.args.bytes.now c.in-Err.halt (subst (Decodes circuit_files (λ (x : AnyCircuit). x) c.args.name.now c.args.bytes.now) c.in-Err.is c.join-circuit.ensures.second)

pub returns-in-Err-clause-id : goal.returns-in-Err-clause-id
returns-in-Err-clause-id g c = tt

pub returns-in-Ok-clause-decodes : goal.returns-in-Ok-clause-decodes
returns-in-Ok-clause-decodes g c = subst (Decodes circuit_files (λ (x : AnyCircuit). x) c.args.name.now c.args.bytes.now) c.in-Ok.is c.join-circuit.ensures.second

pub returns-in-Ok-clause-id : goal.returns-in-Ok-clause-id
returns-in-Ok-clause-id g c = c.join-circuit.ensures.first c.in-Ok.circuit (subst (Decodes circuit_files (λ (x : AnyCircuit). x) c.args.name.now c.args.bytes.now) c.in-Ok.is c.join-circuit.ensures.second)

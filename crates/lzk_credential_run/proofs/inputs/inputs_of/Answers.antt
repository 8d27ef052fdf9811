use Rattle.std.proofs.Common.{ℕ, List, length, subst}
use Rattle.lzk_policy_inputs.specs.Placed.{IsCredentialRefusal}
use Rattle.lzk_policy_texts.specs.Paths.{placed_of}
use Rattle.lzk_credential_run.proofs.InputEnds.{halted}
use Rattle.lzk_credential_run.proofs.inputs.inputs_of.Goals as goal

pub returns-in-Err : goal.returns-in-Err
returns-in-Err c =
    let refused = subst (λ (ns : List (List ℕ)). IsCredentialRefusal c.args.policy.now c.args.bytes.now c.args.values.now c.args.path.now.leaf (length ns) c.in-Err.error) c.deref.ensures.value c.in-Err.ensures.refusal in
    halted c.args.name.now (placed_of c.args.path.now) c.args.policy.now c.args.bytes.now c.args.values.now c.in-Err.error c.halt_of.result refused c.halt_of.ensures

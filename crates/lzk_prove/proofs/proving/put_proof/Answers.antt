use Rattle.std.proofs.Common.{None, Some, Err, ap, refl, subst}
use Rattle.lzk_circuit.specs.Checks.{checks_of}
use Rattle.lzk_circuit.specs.Valid.{Wiring}
use Rattle.lzk_circuit.specs.Wires.{inputs_of, IsFirstNonzero}
use Rattle.lzk_ligero_proof.specs.Proving.{IsProofFile, words_of}
use Rattle.lzk_verify.specs.Verdict.{IsVerdict}
use Rattle.lzk_verify.specs.declared.verdict.Verdict.TheVariants.{Accepted}
use Rattle.lzk_calls.specs.declared.refusal.Refusal.TheVariants.{Unsatisfied}
use Rattle.lzk_prove.proofs.proving.put_proof.Goals as goal

pub returns-in-Ok : goal.returns-in-Ok
returns-in-Ok g c =
    let o = g.F.Field.ops in
    let e = g.F.Field.coding in
    let session = c.args.with.now.session.now in
    let publics = c.args.inputs.now.publics.now in
    let privates = c.args.inputs.now.privates.now in
    let bytes = c.in-Ok.bytes.now in
    let first = subst (λ (w : Wiring _). IsFirstNonzero o (checks_of o e.number w.layers (inputs_of o publics privates)) None) c.requires.works c.in-Ok.ensures.proved.0 in
    let file = subst (λ (w : Wiring _). IsProofFile o e w session publics privates (words_of (g.W.Words.at c.args.words.now)) bytes) c.requires.works c.in-Ok.ensures.proved.1 in
    let accepted = subst (λ (w : Wiring _). IsVerdict o e w session publics bytes Accepted) c.requires.works c.in-Ok.ensures.accepted in
    (None, first, (bytes, file, accepted, c.put.ensures))

pub returns-in-Err : goal.returns-in-Err
returns-in-Err g c =
    let o = g.F.Field.ops in
    let e = g.F.Field.coding in
    let first = c.in-Err.first in
    let is = subst (λ (w : Wiring _). IsFirstNonzero o (checks_of o e.number w.layers (inputs_of o c.args.inputs.now.publics.now c.args.inputs.now.privates.now)) (Some (first.output, first.value.now))) c.requires.works c.in-Err.ensures.proved in
    (Some (first.output, first.value.now), is, (ap (λ n. Err (Unsatisfied first.output n)) c.number.ensures, refl))

use Rattle.std.specs.Prelude.{◌<◌, length, take, Some}
use Rattle.std.proofs.Common.{refl, sym, subst, ap, ◌∙◌, arith}
use Rattle.std.proofs.lemmas.List.{length-take-le}
use Rattle.lzk_circuit.specs.Valid.{Wiring, IsValid}
use Rattle.lzk_circuit.specs.Checks.{checks_of, IsSatisfied}
use Rattle.lzk_circuit.specs.Wires.{inputs_of, IsFirstNonzero}
use Rattle.lzk_ligero_proof.specs.Proving.{IsProofFile, words_of}
use Rattle.lzk_ligero_steps.proofs.Outputs.{named-output}
use Rattle.lzk_ligero.proofs.works.WorksOver.prove.Goals as goal

pub invariant_of-plan : goal.invariant_of-plan
invariant_of-plan g c = record { are = c.self.invariant.params; bounded = c.self.invariant.bounded }

pub invariant_of-given : goal.invariant_of-given
invariant_of-given g c =
    let same = sym c.self.view_is in
    record {
      publics = c.requires.public ∙ ap (λ (w : Wiring g.row.F.Denot). w.publics) same;
      privates = c.requires.private ∙ ap (λ (w : Wiring g.row.F.Denot). w.privates) same;
    }

pub evaluate-requires-clause-parts : goal.evaluate-requires-clause-parts
evaluate-requires-clause-parts g c κs within = c.self.invariant

pub invariant_of-crew : goal.invariant_of-crew
invariant_of-crew g c = record { some = c.requires.some; few = c.requires.most }

pub write-len-requires-clause-parts : goal.write-len-requires-clause-parts
write-len-requires-clause-parts g c κs within = c.evaluate.ensures.parts

pub write-len-requires-clause-values : goal.write-len-requires-clause-values
write-len-requires-clause-values g c κs within = c.evaluate.ensures.values

pub invariant_of-self : goal.invariant_of-self
invariant_of-self g c = c.evaluate.ensures.parts

pub invariant_of-self-2 : goal.invariant_of-self-2
invariant_of-self-2 g c = c.write-len.ensures.parts

pub fault-requires-after_bounds : goal.fault-requires-after_bounds
fault-requires-after_bounds g c κs within =
    subst (λ outputs. c.in-Some.output < length outputs) (sym c.evaluate.ensures.checks) c.in-Some.ensures.outputs.0

pub returns-in-Some : goal.returns-in-Some
returns-in-Some g c =
    let f = g.F.Field in
    let o = f.ops in
    let inputs = inputs_of o c.args.public.now c.args.private.now in (
      (refl, λ _. tt, c.self.view_is),
      record {
        same = tt;
        proved = subst (λ (w : Wiring g.row.F.Denot). IsFirstNonzero o (checks_of o f.coding.number w.layers inputs) (Some (c.fault.result.output, c.fault.result.value.now))) c.self.view_is
            (named-output o _ _ c.evaluate.ensures.checks _ _ _ c.in-Some.ensures.outputs c.fault.ensures.output c.fault.ensures.value);
        accepted = tt;
      },
    )

pub returns : goal.returns
returns g c =
    let f = g.F.Field in
    let o = f.ops in
    let e = f.coding in
    let session = c.args.session.now in
    let public = c.args.public.now in
    let private = c.args.private.now in
    let word = words_of (g.W.Words.at c.args.words.now) in
    let valid = subst (IsValid o) c.self.view_is c.valid_laws.ensures in
    let satisfied = subst (λ (w : Wiring g.row.F.Denot). IsSatisfied o f.coding.number w.layers (inputs_of o public private)) c.self.view_is c.in_default.ensures.outputs in
    let written = subst (λ w. IsProofFile o e w session public private word (take c.write-len.result c.write-len.new.parts.answering.bytes.items)) c.self.view_is c.write-len.ensures.file in
    let file = subst (λ bytes. IsProofFile o e c.args.self.now session public private word (take c.write-len.result bytes)) (sym c.deref.ensures.value) written in (
      (refl, λ _. tt, c.self.view_is),
      record {
        same = tt;
        proved = (satisfied, file);
        accepted = c.accepted_laws.ensures.accepted c.args.self.now session public private word (take c.write-len.result c.deref.result.now) valid (c.requires.public, c.requires.private) satisfied file;
      },
    )

pub slice_bounds-result-end : goal.slice_bounds-result-end
slice_bounds-result-end g c = sym (length-take-le c.write-len.result c.deref.result.now (omega (arith, ap length c.deref.ensures.value, c.write-len.ensures.inside)))

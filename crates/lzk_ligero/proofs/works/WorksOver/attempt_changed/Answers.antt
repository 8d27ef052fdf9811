use Rattle.std.specs.Prelude.{take}
use Rattle.std.proofs.Common.{length, refl, sym, subst, ap, ◌∙◌, arith}
use Rattle.std.proofs.lemmas.List.{length-take-le}
use Rattle.lzk_circuit.specs.Valid.{Wiring, IsValid}
use Rattle.lzk_ligero_proof.specs.Proving.{IsChangedFile, words_of}
use Rattle.lzk_ligero.proofs.works.WorksOver.attempt_changed.Goals as goal

pub invariant_of-plan : goal.invariant_of-plan
invariant_of-plan g c = record { are = c.self.invariant.params; bounded = c.self.invariant.bounded }

pub invariant_of-given : goal.invariant_of-given
invariant_of-given g c =
    let same = sym c.self.view_is in
    record {
      publics = c.requires.public ∙ ap (λ (w : Wiring g.row.F.Denot). w.publics) same;
      privates = c.requires.private ∙ ap (λ (w : Wiring g.row.F.Denot). w.privates) same;
    }

pub evaluate-requires-clause-parts : goal.evaluate-requires-clause-parts
evaluate-requires-clause-parts g c κs within = c.self.invariant

pub invariant_of-crew : goal.invariant_of-crew
invariant_of-crew g c = record { some = c.requires.some; few = c.requires.most }

pub write-len-requires-clause-parts : goal.write-len-requires-clause-parts
write-len-requires-clause-parts g c κs within = c.evaluate.ensures.parts

pub write-len-requires-clause-values : goal.write-len-requires-clause-values
write-len-requires-clause-values g c κs within = c.evaluate.ensures.values

pub invariant_of-self : goal.invariant_of-self
invariant_of-self g c = c.write-len.ensures.parts

pub returns : goal.returns
returns g c =
    let f = g.F.Field in
    let o = f.ops in
    let e = f.coding in
    let session = c.args.session.now in
    let public = c.args.public.now in
    let private = c.args.private.now in
    let word = words_of (g.W.Words.at c.args.words.now) in
    let which = c.args.answer in
    let n = c.args.place in
    let by = c.args.by in
    let valid = subst (IsValid o) c.self.view_is c.valid_laws.ensures in
    let written = subst (λ w. IsChangedFile o e w session public private word which n by (take c.write-len.result c.write-len.new.parts.answering.bytes.items)) c.self.view_is c.write-len.ensures.file in
    let file = subst (λ bytes. IsChangedFile o e c.args.self.now session public private word which n by (take c.write-len.result bytes)) (sym c.deref.ensures.value) written in (
      (refl, λ _. tt, c.self.view_is),
      record {
        same = tt;
        file = file;
        refused = λ satisfied some. c.refused_laws.ensures.refused c.args.self.now session public private word which n by (take c.write-len.result c.deref.result.now)
            valid (c.requires.public, c.requires.private) satisfied c.requires.place some file;
      },
    )

pub slice_bounds-result-end : goal.slice_bounds-result-end
slice_bounds-result-end g c = sym (length-take-le c.write-len.result c.deref.result.now (omega (arith, ap length c.deref.ensures.value, c.write-len.ensures.inside)))

use Rattle.std.proofs.Common.{[], Some, refl, subst, ap, sym, ◌∙◌}
use Rattle.lzk_circuit.specs.Checks.{checks_of}
use Rattle.lzk_circuit.specs.Valid.{Wiring}
use Rattle.lzk_circuit.specs.Wires.{inputs_of, IsFirstNonzero}
use Rattle.lzk_ligero_proof.specs.Proving.{IsProofFile, words_of}
use Rattle.lzk_cmd_prove.proofs.DemoCounts.{none_nonzero}
use Rattle.std.proofs.lemmas.Result.{IfOk-from_err}
use Rattle.lzk_cmd_prove.proofs.demos.judge_own_proof.Goals as goal

pub unreachable-requires : goal.unreachable-requires
unreachable-requires g c =
    let o = g.F.Field.ops in
    let number = g.F.Field.coding.number in
    let first = c.in-Err.field-0 in
    let is = subst (λ (w : Wiring _). IsFirstNonzero o (checks_of o number w.layers (inputs_of o c.args.given.now.publics.now c.args.given.now.privates.now)) (Some (first.output, first.value.now))) c.requires.works c.in-Err.ensures.proved in
    none_nonzero o (checks_of o number c.args.given.now.circuit.now.layers (inputs_of o c.args.given.now.publics.now c.args.given.now.privates.now)) (first.output, first.value.now) c.args.given.now.satisfied is

pub returns : goal.returns
returns g c =
    let o = g.F.Field.ops in
    let e = g.F.Field.coding in
    let publics = c.args.given.now.publics.now in
    let privates = c.args.given.now.privates.now in
    let bytes = c.in-Ok.bytes.now in
    record {
      bytes = bytes;
      long = refl;
      file = subst (λ (w : Wiring _). IsProofFile o e w [] publics privates (words_of (g.W.Words.at c.args.words.now)) bytes) c.requires.works c.in-Ok.ensures.proved.1;
      is = c.in_ok-verdict-in-Ok.ensures.verdict;
      only = c.in_ok-verdict-in-Ok.ensures.one;
    }

pub prove-requires-clause-some : goal.prove-requires-clause-some
prove-requires-clause-some g c κs within = c.args.by.some

pub prove-requires-clause-most : goal.prove-requires-clause-most
prove-requires-clause-most g c κs within = c.args.by.few

pub prove-requires-clause-public : goal.prove-requires-clause-public
prove-requires-clause-public g c κs within = c.args.given.now.publics_fit ∙ ap (λ (w : Wiring _). w.publics) (sym c.requires.works)

pub prove-requires-clause-private : goal.prove-requires-clause-private
prove-requires-clause-private g c κs within = c.args.given.now.privates_fit ∙ ap (λ (w : Wiring _). w.privates) (sym c.requires.works)

pub verdict_on-requires-clause-id : goal.verdict_on-requires-clause-id
verdict_on-requires-clause-id g c κs within = c.requires.id

pub verdict_on-requires-clause-publics : goal.verdict_on-requires-clause-publics
verdict_on-requires-clause-publics g c κs within = c.args.given.now.publics_fit

pub returns-in_err-verdict-in-Ok : goal.returns-in_err-verdict-in-Ok
returns-in_err-verdict-in-Ok g c = IfOk-from_err _ _ c.from_residual.ensures.0

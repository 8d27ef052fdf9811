use Rattle.std.proofs.Common.{Some, None, refl, subst, ap, sym, ◌∙◌}
use Rattle.std.specs.Option.{option_copied}
use Rattle.lzk_circuit.specs.Checks.{checks_of}
use Rattle.lzk_circuit.specs.Valid.{Wiring}
use Rattle.lzk_circuit.specs.Wires.{inputs_of, IsFirstNonzero}
use Rattle.lzk_ligero_proof.specs.Proving.{IsProofFile, words_of}
use Rattle.lzk_cmd_files.specs.Seen.{seen}
use Rattle.lzk_cmd_files.specs.declared.ending.Halt.TheVariants as halts
use Rattle.lzk_cmd_prove.proofs.Proves.{no_memory, puts_proof, tells_first}
use Rattle.lzk_cmd_files.proofs.Sights.{no_step, only_moves}
use Rattle.lzk_cmd_prove.proofs.proving.put_proof.Goals as goal

pub returns-in_ok-text-in-Ok-clause-walks : goal.returns-in_ok-text-in-Ok-clause-walks
returns-in_ok-text-in-Ok-clause-walks g c =
    let o = g.F.Field.ops in
    let e = g.F.Field.coding in
    let circuit = c.args.given.now.circuit.now in
    let task = c.args.task.now in
    let bytes = c.in-Ok.bytes.now in
    let random = g.W.Words.at c.args.words.now in
    let word = words_of random in
    let first = subst (λ (w : Wiring _). IsFirstNonzero o (checks_of o e.number w.layers (inputs_of o c.args.given.now.publics.now c.args.given.now.privates.now)) None) c.requires.works c.in-Ok.ensures.proved.0 in
    let file = subst (λ (w : Wiring _). IsProofFile o e w task.session.now c.args.given.now.publics.now c.args.given.now.privates.now word bytes) c.requires.works c.in-Ok.ensures.proved.1 in
    puts_proof o e circuit task.proof.now (option_copied task.digest) task.session.now random c.args.given.now.publics.now c.args.given.now.privates.now (seen g.S.Shelf c.args.shelf.now) (seen g.S.Shelf c.put_file.new.shelf) bytes _ c.put_file.result first file
    (c.proofs_fit.ensures task.session.now c.args.given.now.publics.now c.args.given.now.privates.now word bytes file) c.in_ok-text-in-Ok.ensures c.put_file.ensures.puts

pub returns-in_ok-unsatisfied-in-Err-clause-walks : goal.returns-in_ok-unsatisfied-in-Err-clause-walks
returns-in_ok-unsatisfied-in-Err-clause-walks g c =
    let o = g.F.Field.ops in
    let e = g.F.Field.coding in
    let task = c.args.task.now in
    let first = c.in-Err.first in
    let is = subst (λ (w : Wiring _). IsFirstNonzero o (checks_of o e.number w.layers (inputs_of o c.args.given.now.publics.now c.args.given.now.privates.now)) (Some (first.output, first.value.now))) c.requires.works c.in-Err.ensures.proved in
    tells_first o e c.args.given.now.circuit.now task.proof.now (option_copied task.digest) task.session.now (g.W.Words.at c.args.words.now) c.args.given.now.publics.now c.args.given.now.privates.now (seen g.S.Shelf c.args.shelf.now) (first.output, first.value.now) c.in_ok-unsatisfied-in-Err.field-0 is c.in_ok-unsatisfied-in-Err.ensures

pub returns-in_err-text-in-Ok-clause-walks : goal.returns-in_err-text-in-Ok-clause-walks
returns-in_err-text-in-Ok-clause-walks g c =
    let e = g.F.Field.coding in
    let task = c.args.task.now in
    no_memory g.F.Field.ops e c.args.given.now.circuit.now task.proof.now (option_copied task.digest) task.session.now (g.W.Words.at c.args.words.now) c.args.given.now.publics.now c.args.given.now.privates.now (seen g.S.Shelf c.args.shelf.now) halts.Memory _ refl c.from_residual.ensures.1

pub returns-in_err-unsatisfied-in-Err-clause-walks : goal.returns-in_err-unsatisfied-in-Err-clause-walks
returns-in_err-unsatisfied-in-Err-clause-walks g c =
    let e = g.F.Field.coding in
    let task = c.args.task.now in
    no_memory g.F.Field.ops e c.args.given.now.circuit.now task.proof.now (option_copied task.digest) task.session.now (g.W.Words.at c.args.words.now) c.args.given.now.publics.now c.args.given.now.privates.now (seen g.S.Shelf c.args.shelf.now) halts.Memory _ refl c.from_residual-in_err-unsatisfied-in-Err.ensures.1

pub prove-requires-clause-session : goal.prove-requires-clause-session
prove-requires-clause-session g c κs within = c.args.task.now.short

pub prove-requires-clause-some : goal.prove-requires-clause-some
prove-requires-clause-some g c κs within = c.args.task.now.some

pub prove-requires-clause-most : goal.prove-requires-clause-most
prove-requires-clause-most g c κs within = c.args.task.now.few

pub prove-requires-clause-public : goal.prove-requires-clause-public
prove-requires-clause-public g c κs within = c.args.given.now.publics_fit ∙ ap (λ (w : Wiring _). w.publics) (sym c.requires.works)

pub prove-requires-clause-private : goal.prove-requires-clause-private
prove-requires-clause-private g c κs within = c.args.given.now.privates_fit ∙ ap (λ (w : Wiring _). w.privates) (sym c.requires.works)

pub returns-in_ok-text-in-Ok-clause-moves : goal.returns-in_ok-text-in-Ok-clause-moves
returns-in_ok-text-in-Ok-clause-moves g c = c.put_file.ensures.moves

pub returns-in_err-text-in-Ok-clause-moves : goal.returns-in_err-text-in-Ok-clause-moves
returns-in_err-text-in-Ok-clause-moves g c = only_moves (seen g.S.Shelf c.args.shelf.now) (seen g.S.Shelf c.args.shelf.now) (no_step (seen g.S.Shelf c.args.shelf.now))

pub returns-in_err-unsatisfied-in-Err-clause-moves : goal.returns-in_err-unsatisfied-in-Err-clause-moves
returns-in_err-unsatisfied-in-Err-clause-moves g c = only_moves (seen g.S.Shelf c.args.shelf.now) (seen g.S.Shelf c.args.shelf.now) (no_step (seen g.S.Shelf c.args.shelf.now))

pub returns-in_ok-unsatisfied-in-Err-clause-moves : goal.returns-in_ok-unsatisfied-in-Err-clause-moves
returns-in_ok-unsatisfied-in-Err-clause-moves g c = only_moves (seen g.S.Shelf c.args.shelf.now) (seen g.S.Shelf c.args.shelf.now) (no_step (seen g.S.Shelf c.args.shelf.now))

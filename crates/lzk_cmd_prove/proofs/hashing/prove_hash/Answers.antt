use Rattle.std.proofs.Common.{ℕ, List, subst, ◌∙◌, length, ap, sym}
use Rattle.std.specs.Option.{option_copied}
use Rattle.lzk_goldilocks.specs.Elements.{ops}
use Rattle.lzk_cmd_prove.specs.Hashed.{ProvesHash}
use Rattle.lzk_cmd_prove.specs.Proved.{Proves, gold_word}
use Rattle.lzk_cmd_verify.specs.Verified.{gold_coding}
use Rattle.lzk_cmd_files.specs.Walks.{WalksToPut}
use Rattle.lzk_cmd_files.specs.Seen.{seen}
use Rattle.lzk_cmd_prove.proofs.Hashes.{hash_proved}
use Rattle.lzk_cmd_circuits.proofs.ShaFiles.{no_memory}
use Rattle.lzk_cmd_files.proofs.Sights.{no_step, only_moves}
use Rattle.lzk_cmd_prove.proofs.hashing.prove_hash.Goals as goal

pub returns-in_err-inputs-clause-walks : goal.returns-in_err-inputs-clause-walks
returns-in_err-inputs-clause-walks g c =
    let task = c.args.task.now in
    no_memory (λ files. ProvesHash c.args.circuit.now c.args.message.now task.proof.now task.session.now task.seed) 1 (seen g.S.Shelf c.args.shelf.now) _ c.from_residual.ensures.1

pub returns-clause-walks : goal.returns-clause-walks
returns-clause-walks g c =
    let circuit = c.args.circuit.now in
    let task = c.args.task.now in
    let digest = option_copied task.digest in
    let publics = c.as_slice.result.now in
    let privates = c.as_slice-2.result.now in
    let old = seen g.S.Shelf c.args.shelf.now in
    let new = seen g.S.Shelf c.prove_inputs.new.shelf in
    let put = subst (λ (seed : List ℕ). WalksToPut (λ files. Proves ops gold_coding circuit task.proof.now digest task.session.now (gold_word seed) publics privates) 3 old new c.prove_inputs.result) c.gold_words.ensures c.prove_inputs.ensures.walks in
    hash_proved circuit c.args.message.now task.proof.now task.session.now task.seed digest publics privates old new c.prove_inputs.result
    c.requires.digest (c.as_slice.ensures.value ∙ c.in_ok-inputs.ensures.digest.words) (c.as_slice-2.ensures.value ∙ c.in_ok-inputs.ensures.exact) put

pub returns-in_err-inputs-clause-moves : goal.returns-in_err-inputs-clause-moves
returns-in_err-inputs-clause-moves g c = only_moves (seen g.S.Shelf c.args.shelf.now) (seen g.S.Shelf c.args.shelf.now) (no_step (seen g.S.Shelf c.args.shelf.now))

pub returns-clause-moves : goal.returns-clause-moves
returns-clause-moves g c = c.prove_inputs.ensures.moves

pub prove_inputs-requires-clause-id : goal.prove_inputs-requires-clause-id
prove_inputs-requires-clause-id g c κs within = c.requires.id

pub invariant_of-given : goal.invariant_of-given
invariant_of-given g c =
    record {
      publics_fit = ap length c.as_slice.ensures.value ∙ c.in_ok-inputs.ensures.publics ∙ sym c.requires.publics;
      privates_fit = ap length c.as_slice-2.ensures.value ∙ c.in_ok-inputs.ensures.privates ∙ sym c.requires.privates;
    }

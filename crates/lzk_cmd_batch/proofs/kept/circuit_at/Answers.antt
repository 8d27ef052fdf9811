use Rattle.lzk_cmd_files.proofs.Sights.{no_step}
use Rattle.lzk_cmd_batch.specs.declared.kept.CircuitFile.{CircuitFile}
use Rattle.std.specs.Prelude.{All}
use Rattle.std.proofs.lemmas.Result.{IfOk-from_err}
use Rattle.std.proofs.Common.{◌∙◌, arith, refl, subst, ◌≢◌}
use Rattle.lzk_cmd_files.specs.Seen.{seen}
use Rattle.lzk_cmd_batch.proofs.Keeping.{few_at, again_at, again_over_at, last_place, nowhere}
use Rattle.lzk_cmd_batch.specs.Gathered.{GivesPlace}
use Rattle.lzk_cmd_files.proofs.Steps.{handed_on}
use Rattle.lzk_cmd_batch.proofs.Keeping.{as_before}
use Rattle.lzk_cmd_batch.proofs.kept.circuit_at.Goals as goal

pub count_in-requires-clause-bytes : goal.count_in-requires-clause-bytes
count_in-requires-clause-bytes g c =
    let few = few_at (g.S.Shelf.held c.args.shelf.now) c.args.kept.now c.args.name.now c.in-Some.place c.deref.result.now c.index.result.now c.requires.kept c.deref.ensures.value c.in-Some.ensures.some c.index.ensures in omega (arith, few)

pub returns-in_err-taken-in-Some-clause-gives : goal.returns-in_err-taken-in-Some-clause-gives
returns-in_err-taken-in-Some-clause-gives g c =
    let s = seen g.S.Shelf c.args.shelf.now in
    again_over_at s s c.args.kept.now c.args.name.now c.args.taken c.in-Some.place c.deref.result.now c.index.result.now c.requires.kept c.deref.ensures.value c.in-Some.ensures.some c.index.ensures c.in_err-taken-in-Some.field-0.0 _ c.in_err-taken-in-Some.ensures c.from_residual.ensures.1

pub returns-in_ok-taken-in-Some-clause-gives : goal.returns-in_ok-taken-in-Some-clause-gives
returns-in_ok-taken-in-Some-clause-gives g c =
    let s = seen g.S.Shelf c.args.shelf.now in
    again_at s s c.args.kept.now c.args.name.now c.args.taken c.in-Some.place c.deref.result.now c.index.result.now c.requires.kept c.deref.ensures.value c.in-Some.ensures.some c.index.ensures c.in_ok-taken-in-Some.taken c.in_ok-taken-in-Some.ensures

pub returns-in_ok-taken-in-None-clause-gives : goal.returns-in_ok-taken-in-None-clause-gives
returns-in_ok-taken-in-None-clause-gives g c =
    last_place (seen g.S.Shelf c.args.shelf.now) (seen g.S.Shelf c.keep_circuit.new.shelf) c.args.kept.now c.keep_circuit.new.kept.all.items c.args.name.now c.args.taken c.len-place.result c.in_ok-taken-in-None.taken (c.len-place.ensures ∙ c.args.kept.now.all.ok.0) c.in_ok-taken-in-None.ensures.gives

pub count_in-requires-clause-taken : goal.count_in-requires-clause-taken
count_in-requires-clause-taken g c = c.requires.taken

pub returns-in_err-taken-in-Some-clause-kept : goal.returns-in_err-taken-in-Some-clause-kept
returns-in_err-taken-in-Some-clause-kept g c = IfOk-from_err _ _ c.from_residual.ensures.0

pub returns-in_err-taken-in-Some-clause-reads : goal.returns-in_err-taken-in-Some-clause-reads
returns-in_err-taken-in-Some-clause-reads g c = no_step (seen g.S.Shelf c.args.shelf.now)

pub returns-in_err-taken-in-Some-clause-again : goal.returns-in_err-taken-in-Some-clause-again
returns-in_err-taken-in-Some-clause-again g c = λ place is. (refl, refl)

pub keep_circuit-requires-clause-taken : goal.keep_circuit-requires-clause-taken
keep_circuit-requires-clause-taken g c = c.requires.taken

pub keep_circuit-requires-clause-kept : goal.keep_circuit-requires-clause-kept
keep_circuit-requires-clause-kept g c = c.requires.kept

pub returns-in_err-taken-in-None-clause-kept : goal.returns-in_err-taken-in-None-clause-kept
returns-in_err-taken-in-None-clause-kept g c = IfOk-from_err _ _ c.from_residual-in_err-taken-in-None.ensures.0

pub returns-in_err-taken-in-None-clause-reads : goal.returns-in_err-taken-in-None-clause-reads
returns-in_err-taken-in-None-clause-reads g c = c.keep_circuit.ensures.reads

pub returns-in_err-taken-in-None-clause-again : goal.returns-in_err-taken-in-None-clause-again
returns-in_err-taken-in-None-clause-again g c = λ place is. absurd (nowhere c.args.kept.now.files.items c.args.name.now (subst (All (λ (file : CircuitFile). file.name.now ≢ c.args.name.now)) c.deref.ensures.value c.in-None.ensures.none) place is)

pub returns-in_ok-taken-in-Some-clause-reads : goal.returns-in_ok-taken-in-Some-clause-reads
returns-in_ok-taken-in-Some-clause-reads g c = no_step (seen g.S.Shelf c.args.shelf.now)

pub returns-in_ok-taken-in-Some-clause-again : goal.returns-in_ok-taken-in-Some-clause-again
returns-in_ok-taken-in-Some-clause-again g c = λ place is. (refl, refl)

pub returns-in_ok-taken-in-None-clause-kept : goal.returns-in_ok-taken-in-None-clause-kept
returns-in_ok-taken-in-None-clause-kept g c = c.in_ok-taken-in-None.ensures.kept

pub returns-in_ok-taken-in-None-clause-reads : goal.returns-in_ok-taken-in-None-clause-reads
returns-in_ok-taken-in-None-clause-reads g c = c.keep_circuit.ensures.reads

pub returns-in_ok-taken-in-None-clause-again : goal.returns-in_ok-taken-in-None-clause-again
returns-in_ok-taken-in-None-clause-again g c = λ place is. absurd (nowhere c.args.kept.now.files.items c.args.name.now (subst (All (λ (file : CircuitFile). file.name.now ≢ c.args.name.now)) c.deref.ensures.value c.in-None.ensures.none) place is)

pub returns-in_err-taken-in-None-clause-gives : goal.returns-in_err-taken-in-None-clause-gives
returns-in_err-taken-in-None-clause-gives g c =
    handed_on (GivesPlace (seen g.S.Shelf c.args.shelf.now) (seen g.S.Shelf c.keep_circuit.new.shelf) c.keep_circuit.new.kept.all.items c.args.name.now c.args.taken) _ c.in_err-taken-in-None.field-0.0
    c.from_residual-in_err-taken-in-None.ensures.1 c.in_err-taken-in-None.ensures.gives

pub returns-in_ok-taken-in-Some-clause-kept : goal.returns-in_ok-taken-in-Some-clause-kept
returns-in_ok-taken-in-Some-clause-kept g c = as_before (g.S.Shelf.held c.args.shelf.now) c.args.kept.now c.requires.kept

use Rattle.std.proofs.Common.{ℕ, List, ◌≡◌, Err, sym, subst, ◌∙◌, arith}
use Rattle.std.proofs.lemmas.Option.{slice_get_within, get_or_from_slice_get}
use Rattle.lzk_batch.specs.Lists.{entry_view}
use Rattle.lzk_cmd_batch.specs.Gathered.{HasCircuit, GivesPlace}
use Rattle.lzk_cmd_files.specs.Seen.{seen}
use Rattle.lzk_cmd_batch.proofs.Gathers.{no_place, job_read, place_fits}
use Rattle.std.proofs.lemmas.Result.{IfOk-from_err}
use Rattle.lzk_batch.proofs.Ordering.{if_ok}
use Rattle.lzk_cmd_files.proofs.Sights.{reads_then}
use Rattle.lzk_cmd_batch.proofs.gathering.read_job.Goals as goal

pub returns-in_err-place-clause-gives : goal.returns-in_err-place-clause-gives
returns-in_err-place-clause-gives g c =
    let old = seen g.S.Shelf c.args.shelf.now in
    let new = seen g.S.Shelf c.circuit_at.new.shelf in
    let kept = c.circuit_at.new.kept.all.items in
    let h = c.in_err-place.field-0.0 in
    let gives = subst (λ (name : List ℕ). GivesPlace old new kept name c.args.taken (Err h)) c.deref.ensures c.in_err-place.ensures.gives in
    no_place old new kept (entry_view c.args.entry.now) c.args.taken _ h c.in_err-place.ensures.reads gives c.from_residual.ensures.1

pub overflow_cast-place : goal.overflow_cast-place
overflow_cast-place g c =
    let has = c.in_ok-place.ensures.gives in
    let fits = place_fits (g.S.Shelf.held c.args.shelf.now) c.args.kept.now c.circuit_at.new.kept c.in_ok-place.place c.in_ok-place.ensures.kept c.requires.room (slice_get_within c.circuit_at.new.kept.all.items c.in_ok-place.place has.circuit has.there) in
    omega (arith, fits)

pub index-requires : goal.index-requires
index-requires g c =
    let has = c.in_ok-place.ensures.gives in
    let within = slice_get_within c.circuit_at.new.kept.all.items c.in_ok-place.place has.circuit has.there in
    omega (arith, within, c.circuit_at.new.kept.all.ok.0)

pub returns-clause-gives : goal.returns-clause-gives
returns-clause-gives g c =
    let old = seen g.S.Shelf c.args.shelf.now in
    let mid = seen g.S.Shelf c.circuit_at.new.shelf in
    let new = seen g.S.Shelf c.read_any.new.shelf in
    let kept = c.circuit_at.new.kept.all.items in
    let place = c.in_ok-place.place in
    let has = subst (λ (name : List ℕ). HasCircuit old mid kept name c.args.taken place c.in_ok-place.taken) c.deref.ensures c.in_ok-place.ensures.gives in
    let same : has.circuit ≡ c.index.result.now = sym (get_or_from_slice_get kept place has.circuit c.index.result.now has.there) ∙ sym c.index.ensures in
    job_read old new kept (entry_view c.args.entry.now) c.args.taken c.read_any.result mid place c.in_ok-place.taken c.index.result.now c.in_ok-place.ensures.reads has same c.read_any.ensures.gives

pub circuit_at-requires-clause-taken : goal.circuit_at-requires-clause-taken
circuit_at-requires-clause-taken g c = c.requires.taken

pub circuit_at-requires-clause-kept : goal.circuit_at-requires-clause-kept
circuit_at-requires-clause-kept g c = c.requires.kept

pub read_any-requires-clause-short : goal.read_any-requires-clause-short
read_any-requires-clause-short g c = c.requires.short

pub read_any-requires-clause-taken : goal.read_any-requires-clause-taken
read_any-requires-clause-taken g c = let gives = c.in_ok-place.ensures.gives.gives in gives.2.2

pub returns-in_err-place-clause-kept : goal.returns-in_err-place-clause-kept
returns-in_err-place-clause-kept g c = IfOk-from_err _ _ c.from_residual.ensures.0

pub returns-in_err-place-clause-reads : goal.returns-in_err-place-clause-reads
returns-in_err-place-clause-reads g c = c.circuit_at.ensures.reads

pub returns-clause-kept : goal.returns-clause-kept
returns-clause-kept g c = if_ok c.read_any.result c.in_ok-place.ensures.kept

pub returns-clause-reads : goal.returns-clause-reads
returns-clause-reads g c = reads_then (seen g.S.Shelf c.args.shelf.now) (seen g.S.Shelf c.circuit_at.new.shelf) (seen g.S.Shelf c.read_any.new.shelf) c.circuit_at.ensures.reads c.read_any.ensures.reads

use Rattle.lzk_cmd_files.proofs.Sights.{no_step, reads_then}
use Rattle.std.proofs.Common.{◌≡◌, ℕ, List, Ok, Err, refl, subst, rules}
use Rattle.lzk_batch.specs.Lists.{entry_view}
use Rattle.lzk_cmd_batch.specs.Batched.{among}
use Rattle.lzk_cmd_files.specs.Decoded.{number_files, proof_files}
use Rattle.lzk_cmd_files.specs.Seen.{seen}
use Rattle.lzk_cmd_files.specs.Walks.{Gives}
use Rattle.lzk_cmd_batch.proofs.Gathers.{items_with, no_publics, no_proof}
use Rattle.lzk_cmd_batch.proofs.Gathers.{no_room, reads_over}
use Rattle.lzk_cmd_batch.proofs.gathering.read_over.Goals as goal

pub returns-in_err-public-clause-gives : goal.returns-in_err-public-clause-gives
returns-in_err-public-clause-gives g c =
    let f = g.F.Field in
    let old = seen g.S.Shelf c.args.shelf.now in
    let new = seen g.S.Shelf c.read_publics.new.shelf in
    let h = c.in_err-public.field-0.0 in
    let gives = subst (λ (name : List ℕ). Gives (among c.args.taken (number_files f.coding.size f.coding.number c.publics.result)) items_with old new name (Err h)) c.deref-2.ensures c.in_err-public.ensures.gives in
    no_publics f.coding c.args.circuit.now (entry_view c.args.entry.now) c.args.place c.args.taken c.publics.result c.publics.ensures old new h _ c.in_err-public.ensures.reads gives c.from_residual-in_err-public.ensures.1

pub returns-in_err-proof-clause-gives : goal.returns-in_err-proof-clause-gives
returns-in_err-proof-clause-gives g c =
    let f = g.F.Field in
    let old = seen g.S.Shelf c.args.shelf.now in
    let mid = seen g.S.Shelf c.read_publics.new.shelf in
    let new = seen g.S.Shelf c.read_proof.new.shelf in
    let h = c.in_err-proof.field-0.0 in
    let gives = subst (λ (name : List ℕ). Gives (among c.args.taken (number_files f.coding.size f.coding.number c.publics.result)) items_with old mid name (Ok (c.in_ok-public.public, c.in_ok-public.taken))) c.deref-2.ensures c.in_ok-public.ensures.gives in
    let last = subst (λ (name : List ℕ). Gives (among c.in_ok-public.taken proof_files) items_with mid new name (Err h)) c.deref-3.ensures c.in_err-proof.ensures.gives in
    no_proof f.coding c.args.circuit.now (entry_view c.args.entry.now) c.args.place c.args.taken c.publics.result c.publics.ensures old mid new (c.in_ok-public.public, c.in_ok-public.taken) h _ c.in_ok-public.ensures.reads gives c.in_err-proof.ensures.reads last
    c.from_residual-in_err-proof.ensures.1

pub returns-in_err-session-clause-reads : goal.returns-in_err-session-clause-reads
returns-in_err-session-clause-reads g c = no_step (seen g.S.Shelf c.args.shelf.now)

pub read_publics-requires-clause-taken : goal.read_publics-requires-clause-taken
read_publics-requires-clause-taken g c = λ κs within. c.requires.taken

pub returns-in_err-public-clause-reads : goal.returns-in_err-public-clause-reads
returns-in_err-public-clause-reads g c = c.read_publics.ensures.reads

pub returns-in_err-proof-clause-reads : goal.returns-in_err-proof-clause-reads
returns-in_err-proof-clause-reads g c = reads_then (seen g.S.Shelf c.args.shelf.now) (seen g.S.Shelf c.read_publics.new.shelf) (seen g.S.Shelf c.read_proof.new.shelf) c.read_publics.ensures.reads c.read_proof.ensures.reads

pub returns-clause-reads : goal.returns-clause-reads
returns-clause-reads g c = reads_then (seen g.S.Shelf c.args.shelf.now) (seen g.S.Shelf c.read_publics.new.shelf) (seen g.S.Shelf c.read_proof.new.shelf) c.read_publics.ensures.reads c.read_proof.ensures.reads

pub returns-in_err-session-clause-gives : goal.returns-in_err-session-clause-gives
returns-in_err-session-clause-gives g c =
    let s = seen g.S.Shelf c.args.shelf.now in
    no_room g.F.Field.coding c.args.circuit.now (entry_view c.args.entry.now) c.args.place c.args.taken c.args.circuit.now.publics refl s s _ c.from_residual.ensures.1

pub returns-clause-gives : goal.returns-clause-gives
returns-clause-gives g c =
    let f = g.F.Field in
    let old = seen g.S.Shelf c.args.shelf.now in
    let mid = seen g.S.Shelf c.read_publics.new.shelf in
    let new = seen g.S.Shelf c.read_proof.new.shelf in
    let gives = subst (λ (name : List ℕ). Gives (among c.args.taken (number_files f.coding.size f.coding.number c.publics.result)) items_with old mid name (Ok (c.in_ok-public.public, c.in_ok-public.taken))) c.deref-2.ensures c.in_ok-public.ensures.gives in
    let last = subst (λ (name : List ℕ). Gives (among c.in_ok-public.taken proof_files) items_with mid new name (Ok (c.in_ok-proof.proof, c.in_ok-proof.taken))) c.deref-3.ensures c.in_ok-proof.ensures.gives in
    let session : c.in_ok-session.session.items ≡ c.args.entry.now.session.items = search rules in
    reads_over f.coding c.args.circuit.now (entry_view c.args.entry.now) c.args.place c.args.taken c.publics.result c.publics.ensures old mid new (c.in_ok-public.public, c.in_ok-public.taken) (c.in_ok-proof.proof, c.in_ok-proof.taken) c.in_ok-session.session
    c.in_ok-public.ensures.reads gives last session c.requires.short c.in_ok-public.ensures.count

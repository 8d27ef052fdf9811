use Rattle.std.proofs.Common.{ℕ, List, subst}
use Rattle.std.specs.Array.{IsFirstChunk}
use Rattle.lzk_cmd_files.specs.Seen.{seen}
use Rattle.lzk_credential_run.proofs.Drawn.{drawn, unread}
use Rattle.lzk_credential_run.proofs.seeds.read_seed.Goals as goal

pub returns-in-Some-clause-gives : goal.returns-in-Some-clause-gives
returns-in-Some-clause-gives g c =
    let front = subst (λ (xs : List ℕ). IsFirstChunk xs c.in-Some.seed.now 32) c.deref.ensures.value c.in-Some.ensures.cases in
    drawn c.in-Ok.bytes c.in-Some.seed.now front.enough front.same (seen g.S.Shelf c.args.shelf.now) c.in-Ok.ensures.told

pub returns-clause-gives : goal.returns-clause-gives
returns-clause-gives g c =
    unread (seen g.S.Shelf c.args.shelf.now) (seen g.S.Shelf c.load_front.new.shelf) c.in-Err.fault c.halt_of-in-Err.result c.in-Err.ensures.told c.in-Err.ensures.never c.in-Err.ensures.missing c.in-Err.ensures.fault c.halt_of-in-Err.ensures

use Rattle.std.proofs.Common.{◌≡◌, ℕ, true, List, ◌++◌, take}
use Rattle.lzk_verify.specs.Kept as spec
use Rattle.lzk_verify.specs.Kept.{Stands}
use Rattle.lzk_calls.specs.Explained.{joined}
use Rattle.lzk_calls.proofs.pieces.feed_pieces.Given as goal

abbrev pub invariant-loop-piece : goal.invariant-loop-piece
invariant-loop-piece g l =
    let f = g.F.Field in
    let e = f.coding in
    record {
      fed : spec.is_fed l.desk ≡ true;
      circuit : l.desk.circuit ≡ l.fn.desk.circuit;
      stands : (session : List ℕ) (public : List g.row.F.Denot) (bytes : List ℕ) → Stands f.ops e session public bytes l.fn.desk → Stands f.ops e session public (bytes ++ joined (take l.piece-index l.pieces)) l.desk;
    }

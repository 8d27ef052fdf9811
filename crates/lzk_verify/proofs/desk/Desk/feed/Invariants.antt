use Rattle.std.proofs.Common.{◌≡◌, ℕ, true, List, ◌++◌, take}
use Rattle.lzk_verify.specs.Kept as spec
use Rattle.lzk_verify.specs.Kept.{Stands}
use Rattle.lzk_verify.proofs.desk.Desk.feed.Given as goal

abbrev pub invariant-loop-byte : goal.invariant-loop-byte
invariant-loop-byte g l =
    let f = g.F.Field in
    let e = f.coding in
    record {
      fed : spec.is_fed l.self ≡ true;
      circuit : l.self.circuit ≡ l.fn.self.circuit;
      stands : (session : List ℕ) (public : List g.row.F.Denot) (bytes : List ℕ) → Stands f.ops e session public bytes l.fn.self → Stands f.ops e session public (bytes ++ take l.byte-index l.piece) l.self;
    }

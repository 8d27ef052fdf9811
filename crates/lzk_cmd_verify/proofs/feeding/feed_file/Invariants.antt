use Rattle.std.proofs.Common.{◌≡◌, ◌≤◌, ◌+◌, ◌-◌, true, length}
use Rattle.lzk_verify.specs.Kept.{is_fed}
use Rattle.lzk_cmd_verify.specs.Feeding.{IsFedFront}
use Rattle.lzk_cmd_files.specs.Seen.{seen}
use Rattle.lzk_cmd_files.specs.Walks.{OnlyReads}
use Rattle.lzk_cmd_verify.proofs.feeding.feed_file.Given as goal

abbrev pub invariant-loop-at : goal.invariant-loop-at
invariant-loop-at g l =
    let f = g.F.Field in
    let e = f.coding in
    record {
      front : IsFedFront f.ops e (g.S.Shelf.held l.fn.shelf) l.name l.fn.desk l.desk l.at;
      fed : is_fed l.desk ≡ true;
      circuit : l.desk.circuit ≡ l.fn.desk.circuit;
      buffer : length l.buffer ≡ length l.fn.buffer;
      within : l.at ≤ l.limit + 65536;
      reads : OnlyReads (seen g.S.Shelf l.fn.shelf) (seen g.S.Shelf l.shelf);
    }

abbrev pub decreases-loop-at : goal.decreases-loop-at
decreases-loop-at g l = l.limit + 1 - l.at

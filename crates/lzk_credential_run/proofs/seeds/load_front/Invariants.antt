use Rattle.std.proofs.Common.{◌≡◌, ◌-◌, length}
use Rattle.std.specs.Prelude.{IfSome}
use Rattle.lzk_cmd_files.specs.Files.{IsFront}
use Rattle.lzk_cmd_files.specs.Seen.{seen}
use Rattle.lzk_cmd_files.specs.Walks.{OnlyReads}
use Rattle.lzk_credential_run.proofs.seeds.load_front.Given as goal

abbrev pub invariant-loop-chunk : goal.invariant-loop-chunk
invariant-loop-chunk g l = record {
  front : IfSome (g.S.Shelf.held l.shelf) (λ files. IsFront (files l.name) l.bytes.items);
  chunk : length l.chunk ≡ 32;
  reads : OnlyReads (seen g.S.Shelf l.fn.shelf) (seen g.S.Shelf l.shelf);
}

abbrev pub decreases-loop-chunk : goal.decreases-loop-chunk
decreases-loop-chunk g l = 32 - length l.bytes.items

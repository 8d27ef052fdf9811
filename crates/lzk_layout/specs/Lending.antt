-- Lists that are lent to be written.
use Rattle.std.specs.Prelude.{ℕ, List, length}
use Rattle.std.specs.Borrow.{Lends, MutBor, Fml, RattleType, u8, Array}
use Rattle.std.specs.List.{refill}
use Rattle.lzk_layout.specs.contracts.lists.Elements.{the_row}
use Rattle.lzk_layout.specs.contracts.lists.Blocks as blocks
use Rattle.lzk_layout.specs.contracts.lists.Path as path
use Rattle.lzk_layout.specs.Lists.{Digests}

-- the list ends with the elements that are last behind r, of which there are as many as before
abbrev pub lends_elements : (R : RattleType) → MutBor (List R.Denot) → MutBor (List R.Denot) → Fml
lends_elements R e r = Lends (the_row R) (Array R 0) e r (refill (length e.now) e.now)

-- the same of digests or nonces
abbrev pub lends_blocks : MutBor (List (List ℕ)) → MutBor (List (List ℕ)) → Fml
lends_blocks b r = Lends blocks.the_row (Array (Array u8 32) 0) b r (refill (length b.now) b.now)

-- a path of as many digests as before, and with the same room, in which these digests were written over the others
abbrev pub with_digests : Digests → List (List ℕ) → Digests
with_digests p ds = record { digests = refill (length p.digests) p.digests ds; room = p.room }

-- the path ends with the digests that are last in front of what is behind r
abbrev pub lends_path : MutBor Digests → MutBor (List (List ℕ)) → Fml
lends_path p r = Lends path.the_row (Array (Array u8 32) 0) p r (with_digests p.now)

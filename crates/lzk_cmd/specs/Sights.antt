-- What was seen before a run, and what stands after it.
use Rattle.std.specs.Prelude.{ℕ, List, String, map, string_bytes}
use Rattle.std.specs.declared.alloc.Global.{Global}
use Rattle.lzk_outside.specs.declared.outside.Shelf.{Ghosts as ShelfMembers}
use Rattle.lzk_outside.specs.declared.outside.Sink.{Ghosts as SinkMembers}
use Rattle.lzk_cmd_files.specs.Seen.{Seen, SeenSink, seen, seen_sink}

pub record Before : Type 0 where
  pub words : List (List ℕ)
  pub shelf : Seen
  pub sink : SeenSink

pub record After : Type 0 where
  pub status : ℕ
  pub shelf : Seen
  pub sink : SeenSink

-- words in memory as lists of bytes
abbrev pub texts : List (String Global) → List (List ℕ)
texts words = map (λ w. string_bytes w) words

abbrev pub before : {S K : Type 0} → ShelfMembers S → SinkMembers K → List (String Global) → S → K → Before
before of by words shelf sink = record { words = texts words; shelf = seen of shelf; sink = seen_sink by sink }

abbrev pub after : {S K : Type 0} → ShelfMembers S → SinkMembers K → ℕ → S → K → After
after of by status shelf sink = record { status = status; shelf = seen of shelf; sink = seen_sink by sink }

-- What is seen of a shelf and of a sink, and what happened between two sights.
use Rattle.std.specs.Prelude.{ℕ, Bool, List, Option}
use Rattle.lzk_outside.specs.Outside.{Files, Rose}
use Rattle.lzk_outside.specs.declared.outside.Shelf.{Ghosts as ShelfMembers}
use Rattle.lzk_outside.specs.declared.outside.Sink.{Ghosts as SinkMembers}
use Rattle.lzk_cmd_files.specs.Faults.{Faulted}

-- a shelf: its files, where it tells them, its counts, and whether none of its calls is listed to fail
pub record Seen : Type 0 where
  pub files : Option Files
  pub reads : ℕ
  pub puts : ℕ
  pub misses : ℕ
  pub never : Bool

abbrev pub seen : {S : Type 0} → ShelfMembers S → S → Seen
seen of s = record {
  files = of.held s;
  reads = of.read_faults s;
  puts = of.put_faults s;
  misses = of.misses s;
  never = of.never_fails s;
}

-- a read failed, a put failed, a name was not there
abbrev pub ReadFailed : Seen → Seen → Type 0
ReadFailed old new = Faulted old.never old.reads new.reads

abbrev pub PutFailed : Seen → Seen → Type 0
PutFailed old new = Faulted old.never old.puts new.puts

abbrev pub Missed : Seen → Seen → Type 0
Missed old new = Rose old.misses new.misses

-- a sink: its text, where it tells it, its count of faults, and whether none of its calls is listed to fail
pub record SeenSink : Type 0 where
  pub written : Option (List ℕ)
  pub faults : ℕ
  pub never : Bool

abbrev pub seen_sink : {K : Type 0} → SinkMembers K → K → SeenSink
seen_sink of k = record { written = of.written k; faults = of.faults k; never = of.never_fails k }

-- a write failed
abbrev pub WriteFailed : SeenSink → SeenSink → Type 0
WriteFailed old new = Faulted old.never old.faults new.faults

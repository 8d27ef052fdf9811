-- What the shelf and the sink in memory hold, which of their calls fail, and what they count.
use Rattle.std.specs.Prelude.{◌≡◌, take, Option, Some, None, Result, Ok, Err, Contains, Bool, true, false, ℕ, List, [], ◌∷◌, unwrap_or}
use Rattle.lzk_outside_memory.specs.Texts.{text_files}
use Rattle.lzk_outside.specs.Outside.{Files, with_file, counted}
use Rattle.lzk_outside.specs.Tallies.{Tally}
use Rattle.lzk_outside_memory.specs.declared.memory.MemShelf.{MemShelf}
use Rattle.lzk_outside_memory.specs.declared.memory.MemSink.{MemSink}
use Rattle.lzk_outside.specs.declared.outside.PutFault.{PutFault}
use Rattle.lzk_outside.specs.declared.outside.PutFault.TheVariants as put
use Rattle.lzk_outside.specs.declared.outside.SinkFault.{SinkFault}
use Rattle.lzk_outside.specs.declared.outside.SinkFault.TheVariants as sink

-- there is no call in the list
abbrev pub is_empty : List ℕ → Bool
is_empty [] = true
is_empty (call ∷ calls) = false

-- the files of a shelf
abbrev pub files_of : MemShelf → Files
files_of s = text_files s.files

-- which calls of a shelf fail, how many bytes a failing put leaves, and the number of the next call
pub record Settings : Type 0 where
  pub failing : List ℕ
  pub tear : Option ℕ
  pub calls : ℕ

abbrev pub settings_of : MemShelf → Settings
settings_of s = record { failing = s.failing.items; tear = s.tear; calls = s.calls }

-- what a shelf has counted
abbrev pub tally_of : MemShelf → Tally
tally_of s = record { read_faults = s.read_faults; put_faults = s.put_faults; misses = s.misses }

-- the next call is one of those that fail
abbrev pub IsFailing : Settings → Type 0
IsFailing s = Contains s.failing s.calls

-- no call is listed to fail
abbrev pub none_fails : Settings → Bool
none_fails s = is_empty s.failing

-- one call later
abbrev pub next_settings : Settings → Settings
next_settings s = record s { calls = counted s.calls }

-- after a put with this answer: one that wants memory takes no number
abbrev pub settings_after_put : {A : Type 0} → Settings → Result A PutFault → Settings
settings_after_put s (Ok _) = next_settings s
settings_after_put s (Err put.Failed) = next_settings s
settings_after_put s (Err put.OutOfMemory) = s

-- the bytes under a name, none where it isn't there
abbrev pub bytes_under : Files → List ℕ → List ℕ
bytes_under files name = unwrap_or (files name) []

-- what a failing put leaves: the old files, or a front of the new bytes
abbrev pub TornFiles : Files → Option ℕ → List ℕ → List ℕ → Files → Type 0
TornFiles old None name bytes new = new ≡ old
TornFiles old (Some n) name bytes new = new ≡ with_file old name (take n bytes)

-- what was written to a sink
abbrev pub bytes_of : MemSink → List ℕ
bytes_of s = s.bytes.items

-- which writes to a sink fail, how many bytes it takes at most in one, and the number of the next one
pub record SinkSettings : Type 0 where
  pub failing : List ℕ
  pub most : ℕ
  pub calls : ℕ

abbrev pub sink_settings_of : MemSink → SinkSettings
sink_settings_of s = record { failing = s.failing.items; most = s.most; calls = s.calls }

-- the faults that a sink has counted
abbrev pub faults_of : MemSink → ℕ
faults_of s = s.faults

-- the next write is one of those that fail
abbrev pub IsFailingWrite : SinkSettings → Type 0
IsFailingWrite s = Contains s.failing s.calls

-- no write is listed to fail
abbrev pub no_write_fails : SinkSettings → Bool
no_write_fails s = is_empty s.failing

-- one write later
abbrev pub next_sink_settings : SinkSettings → SinkSettings
next_sink_settings s = record s { calls = counted s.calls }

-- after a write with this answer: one that wants memory takes no number
abbrev pub settings_after_write : {A : Type 0} → SinkSettings → Result A SinkFault → SinkSettings
settings_after_write s (Ok _) = next_sink_settings s
settings_after_write s (Err sink.Failed) = next_sink_settings s
settings_after_write s (Err sink.OutOfMemory) = s

-- The counts of the shelves and sinks of this crate, and what each answer adds to them.
use Rattle.std.specs.Prelude.{ℕ, Result, Ok, Err}
use Rattle.lzk_outside.specs.Outside.{counted}
use Rattle.lzk_outside.specs.declared.outside.ShelfFault.{ShelfFault}
use Rattle.lzk_outside.specs.declared.outside.ShelfFault.TheVariants as shelf
use Rattle.lzk_outside.specs.declared.outside.PutFault.{PutFault}
use Rattle.lzk_outside.specs.declared.outside.PutFault.TheVariants as put
use Rattle.lzk_outside.specs.declared.outside.SinkFault.{SinkFault}
use Rattle.lzk_outside.specs.declared.outside.SinkFault.TheVariants as sink

-- the reads that failed, the puts that failed, and the reads of a name that wasn't there
pub record Tally : Type 0 where
  pub read_faults : ℕ
  pub put_faults : ℕ
  pub misses : ℕ

-- nothing was counted yet
abbrev pub no_tally : Tally
no_tally = record { read_faults = 0; put_faults = 0; misses = 0 }

-- after a read with this answer
abbrev pub tally_after_read : Tally → Result ℕ ShelfFault → Tally
tally_after_read t (Ok _) = t
tally_after_read t (Err shelf.Missing) = record t { misses = counted t.misses }
tally_after_read t (Err shelf.Failed) = record t { read_faults = counted t.read_faults }
tally_after_read t (Err shelf.OutOfMemory) = t

-- after a put with this answer
abbrev pub tally_after_put : {A : Type 0} → Tally → Result A PutFault → Tally
tally_after_put t (Ok _) = t
tally_after_put t (Err put.Failed) = record t { put_faults = counted t.put_faults }
tally_after_put t (Err put.OutOfMemory) = t

-- a sink's count of faults, after a write with this answer
abbrev pub faults_after_write : ℕ → Result ℕ SinkFault → ℕ
faults_after_write faults (Ok _) = faults
faults_after_write faults (Err sink.Failed) = counted faults
faults_after_write faults (Err sink.OutOfMemory) = faults

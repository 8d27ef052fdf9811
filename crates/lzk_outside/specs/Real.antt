-- What the shelf of files and standard output count.
use Rattle.std.specs.Prelude.{ℕ}
use Rattle.lzk_outside.specs.Tallies.{Tally}
use Rattle.lzk_outside.specs.declared.real.DiskShelf.{DiskShelf}
use Rattle.lzk_outside.specs.declared.real.StdoutSink.{StdoutSink}

-- what a shelf of files has counted
abbrev pub tally_of : {R File Dir : Type 0} → DiskShelf R File Dir → Tally
tally_of s = record { read_faults = s.read_faults; put_faults = s.put_faults; misses = s.misses }

-- the faults of standard output so far
abbrev pub faults_of : {R : Type 0} → StdoutSink R → ℕ
faults_of s = s.faults

-- Every text has a reading.
use Rattle.std.specs.Prelude.{ℕ, List, Result}
use Rattle.lzk_expr.specs.declared.source_fault.SourceFault.{SourceFault}
use Rattle.lzk_expr.specs.Sources.{TextReads}
use Rattle.lzk_expr.specs.Trees.{SourceTree}

-- every text is a source or has a first fault
abbrev pub SomeReading : Type 0
SomeReading = (text : List ℕ) → (read : Result SourceTree SourceFault) × TextReads text read

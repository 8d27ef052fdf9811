-- What a program is told that compiles.
use Rattle.std.specs.Prelude.{◌≡◌, ◌≢◌, ◌<◌, ◌≤◌, ◌⊎◌, ℕ, List, Option, None, Some, Result, Err, length}
use Rattle.lzk_circbytes.specs.declared.any.AnyCircuit.{AnyCircuit}
use Rattle.lzk_circbytes.specs.Files.{CircuitBytes}
use Rattle.lzk_expr.specs.Trees.{SourceTree}
use Rattle.lzk_expr.specs.Sources.{SourceText, IsSourceFault}
use Rattle.lzk_level.specs.declared.fault.LevelFault.{LevelFault}
use Rattle.lzk_level.specs.Compiled.{source_limit, source_limit_v2}
use Rattle.lzk_level.specs.SomeCircuit.{IsCircuitOf, IsCircuitOfV2}
use Rattle.lzk_calls.specs.declared.refusal.Refusal.{Refusal}
use Rattle.lzk_calls.specs.declared.refusal.Refusal.TheVariants.{TooLong, NoSource, OutOfMemory, OverLimit, NoVersion}
use Rattle.lzk_calls.specs.declared.version.Version.{Version}
use Rattle.lzk_calls.specs.declared.version.Version.TheVariants.{One, Two}
use Rattle.lzk_calls.specs.Room.{Puts}

-- the longest text
abbrev pub most_text : ℕ
most_text = 4194304

abbrev pub IsVersion : ℕ → Version → Type 0
IsVersion number One = number ≡ 1
IsVersion number Two = number ≡ 2

abbrev pub IsNoVersion : ℕ → Type 0
IsNoVersion number = (number ≢ 1) × (number ≢ 2)

-- what `compile` or `compile_v2` promises of a source's circuit
abbrev pub CompiledAs : Version → SourceTree → AnyCircuit → Type 0
CompiledAs One = IsCircuitOf
CompiledAs Two = IsCircuitOfV2

-- the first limit that the source passes in this version
abbrev pub limit_as : Version → SourceTree → Option LevelFault
limit_as One = source_limit
limit_as Two = source_limit_v2

-- why a text gives no circuit: the first cause in this order; want of memory may come at any time
abbrev pub IsUncompiled : Version → List ℕ → Refusal → Type 0
IsUncompiled version text TooLong = most_text < length text
IsUncompiled version text (NoSource fault) = (length text ≤ most_text) × IsSourceFault text fault
IsUncompiled version text (OverLimit fault) =
    (length text ≤ most_text)
    × ((source : SourceTree) × SourceText text source × (limit_as version source ≡ Some fault))
IsUncompiled version text OutOfMemory = Unit {0}
IsUncompiled version text other = ⊥

-- the text is not too long, its source passes no limit, and the bytes are the file of a circuit of it
abbrev pub IsFileOf : Version → List ℕ → List ℕ → Type 0
IsFileOf version text bytes =
    (length text ≤ most_text)
    × ((source : SourceTree) × SourceText text source × (limit_as version source ≡ None)
    × ((c : AnyCircuit) × CompiledAs version source c × CircuitBytes c bytes))

-- what is told of a text, and becomes of a room: a refusal, and the room is as it was; or the file is put
abbrev pub CompilesAs : Version → List ℕ → List ℕ → List ℕ → Result ℕ Refusal → Type 0
CompilesAs version text old new told =
    ((refusal : Refusal) × (told ≡ Err refusal) × IsUncompiled version text refusal × (new ≡ old))
    ⊎ ((bytes : List ℕ) × IsFileOf version text bytes × Puts bytes old new told)

-- the same, for the number of a version
abbrev pub Compiles : ℕ → List ℕ → List ℕ → List ℕ → Result ℕ Refusal → Type 0
Compiles number text old new told =
    ((told ≡ Err NoVersion) × IsNoVersion number × (new ≡ old))
    ⊎ ((version : Version) × IsVersion number version × CompilesAs version text old new told)

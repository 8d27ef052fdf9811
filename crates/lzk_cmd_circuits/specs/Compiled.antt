-- The circuit of a source.
use Rattle.std.specs.Prelude.{◌≡◌, ℕ, ◌+◌, ◌≤◌, Option, List, [], ◌∷◌, length, MatchOption}
use Rattle.lzk_circbytes.specs.declared.any.AnyCircuit.{AnyCircuit}
use Rattle.lzk_circbytes.specs.declared.any.AnyCircuit.TheVariants.{Gold, Gf}
use Rattle.lzk_circbytes.specs.Files.{CircuitBytes}
use Rattle.lzk_circuit.specs.declared.layer.Layer.{Layer}
use Rattle.lzk_expr.specs.Trees.{SourceTree}
use Rattle.lzk_level.specs.declared.fault.LevelFault.{LevelFault}
use Rattle.lzk_level.specs.Compiled.{depth_of, source_limit, source_limit_v2}
use Rattle.lzk_level.specs.SomeCircuit.{IsCircuitOf, IsCircuitOfV2}
use Rattle.lzk_outside.specs.Outside.{Files}
use Rattle.lzk_cmd_files.specs.Decoded.{circuit_limit, source_files, level_refused}
use Rattle.lzk_cmd_files.specs.Ends.{End, Stop, puts}
use Rattle.lzk_cmd_files.specs.Formats.{At}
use Rattle.lzk_cmd_files.specs.Lines.{compiled_line}
use Rattle.lzk_cmd_words.specs.declared.words.Version.{Version}
use Rattle.lzk_cmd_words.specs.declared.words.Version.TheVariants.{One, Two}

-- what `compile` or `compile_v2` promises of a source's circuit, by the version that is asked for
abbrev pub CompiledAs : Version → SourceTree → AnyCircuit → Type 0
CompiledAs One = IsCircuitOf
CompiledAs Two = IsCircuitOfV2

-- the first limit that the source passes in this version
abbrev pub limit_as : Version → SourceTree → Option LevelFault
limit_as One = source_limit
limit_as Two = source_limit_v2

-- the number of terms of all layers together
abbrev pub term_count : {A : Type 0} → List (Layer A) → ℕ
term_count [] = 0
term_count (layer ∷ layers) = length layer.terms + term_count layers

abbrev pub term_total : AnyCircuit → ℕ
term_total (Gold c) = term_count c.layers
term_total (Gf c) = term_count c.layers

-- what is printed of a circuit whose file has so many bytes
abbrev pub compiled_text : List ℕ → AnyCircuit → ℕ → List ℕ
compiled_text name c bytes = compiled_line name (depth_of c) (term_total c) bytes

-- the file of some circuit of the source in this version is put, and it is within the limit of circuit files
abbrev pub PutsCompiled : Version → SourceTree → List ℕ → Stop → End → Type 0
PutsCompiled version source name stop end =
    (c : AnyCircuit)
    × (bytes : List ℕ)
    × CompiledAs version source c
    × CircuitBytes c bytes
    × (length bytes ≤ circuit_limit)
    × (end ≡ puts stop name bytes (compiled_text name c (length bytes)))

-- The walk has a source: it puts the file of a circuit of it, or ends where the source passes a limit.
abbrev pub CompileTree : Version → List ℕ → List ℕ → SourceTree → Stop → End → Type 0
CompileTree version source circuit s stop end =
    MatchOption (limit_as version s) (PutsCompiled version s circuit stop end)
    (λ fault. end ≡ level_refused source fault)

unfoldable pub CompileRun : Version → List ℕ → List ℕ → Files → Stop → End → Type 0
CompileRun version source circuit files stop end =
    At source_files files stop 0 source end (λ s. CompileTree version source circuit s stop end)

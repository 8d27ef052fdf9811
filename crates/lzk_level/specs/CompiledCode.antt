-- The circuit of code, in a version.
use Rattle.std.specs.Prelude.{ℕ, List, Option}
use Rattle.lzk_field.specs.Ring.{Ops}
use Rattle.lzk_circuit.specs.Valid.{Wiring}
use Rattle.lzk_circbytes.specs.declared.any.AnyCircuit.{AnyCircuit}
use Rattle.lzk_expr.specs.Trees.{Statement, SourceTree}
use Rattle.lzk_level.specs.declared.compiling.Version.{Version}
use Rattle.lzk_level.specs.declared.compiling.Version.TheVariants.{One, Two}
use Rattle.lzk_level.specs.declared.fault.LevelFault.{LevelFault}
use Rattle.lzk_level.specs.Compiled.{limit_passed, limit_passed_v2, source_limit, source_limit_v2}
use Rattle.lzk_level.specs.Compiling.{MadeOutputs}
use Rattle.lzk_level.specs.Finished.{IsCircuitOver, IsCircuitOverV2}
use Rattle.lzk_level.specs.SomeCircuit.{IsCircuitOf, IsCircuitOfV2}

-- the circuit is that of the source in the version
abbrev pub IsCompiled : Version → SourceTree → AnyCircuit → Type 0
IsCompiled One source c = IsCircuitOf source c
IsCompiled Two source c = IsCircuitOfV2 source c

-- the first limit that the source's nodes pass in it
abbrev pub limit_of : Version → SourceTree → Option LevelFault
limit_of One source = source_limit source
limit_of Two source = source_limit_v2 source

-- the circuit over one field is that of the statements in the version
abbrev pub IsCircuitIn : {A : Type 0} → Version → Ops A → (A → ℕ) → (ℕ → A) → List Statement → Wiring A → Type 0
IsCircuitIn One o number element ss c = IsCircuitOver o element ss c
IsCircuitIn Two o number element ss c = IsCircuitOverV2 o number element ss c

-- the first limit that nodes with their outputs pass in it
abbrev pub limit_of_made : {A : Type 0} → Version → MadeOutputs A → Option LevelFault
limit_of_made One m = limit_passed m
limit_of_made Two m = limit_passed_v2 m

-- When a depth has no circuit.
use Rattle.std.specs.Prelude.{◌≡◌, ℕ, ◌<◌, ◌⊎◌, List}
use Rattle.lzk_profile.specs.Profile.{most_levels}
use Rattle.lzk_circuit_beside.specs.Levels.{IsCause}
use Rattle.lzk_circuit.specs.Valid.{Wiring}
use Rattle.lzk_goldilocks.specs.declared.element.Gold.{Gold}
use Rattle.lzk_level.specs.Bounds.{IsLevelError}
use Rattle.lzk_level.specs.Nodes.{Nodes}
use Rattle.lzk_sha_path.specs.declared.error.PathError.{PathError}
use Rattle.lzk_sha_path.specs.declared.error.PathError.TheVariants.{Depth, Statement, Beside, OutOfMemory}

-- there is no level or there are too many, or a statement passes a limit of circuits, or two circuits do side by
-- side, or memory ran out
abbrev pub IsPathCause : ℕ → PathError → Type 0
IsPathCause depth Depth = (depth ≡ 0) ⊎ (most_levels < depth)
IsPathCause depth (Statement e) = (nodes : Nodes Gold) × (outputs : List ℕ) × IsLevelError nodes outputs e
IsPathCause depth (Beside e) = (first : Wiring Gold) × (second : Wiring Gold) × IsCause first second e
IsPathCause depth OutOfMemory = Unit {0}

-- so many nodes beside a path have no inputs
abbrev pub IsInputCause : ℕ → PathError → Type 0
IsInputCause depth Depth = (depth ≡ 0) ⊎ (most_levels < depth)
IsInputCause depth (Statement e) = ⊥
IsInputCause depth (Beside e) = ⊥
IsInputCause depth OutOfMemory = Unit {0}

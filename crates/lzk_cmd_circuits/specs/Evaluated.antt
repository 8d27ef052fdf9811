-- What `eval` and `show` do.
use Rattle.std.specs.Prelude.{◌≡◌, ◌^◌, ℕ, ◌+◌, List, [], ◌∷◌, ◌++◌, length, map, codes, Option, Some, None}
use Rattle.lzk_profile.specs.Profile.{field_word}
use Rattle.lzk_circbytes.specs.declared.any.AnyCircuit.{AnyCircuit}
use Rattle.lzk_circbytes.specs.declared.any.AnyCircuit.TheVariants.{Gold, Gf}
use Rattle.lzk_circbytes.specs.Files.{circuit_id, goldilocks, gf128}
use Rattle.lzk_circbytes.specs.Numbered.{numbered}
use Rattle.lzk_circuit.specs.declared.layer.Layer.{Layer}
use Rattle.lzk_circuit.specs.Valid.{Wiring}
use Rattle.lzk_circuit.specs.Checks.{checks_of}
use Rattle.lzk_circuit.specs.Wires.{inputs_of, IsFirstNonzero}
use Rattle.lzk_field.specs.Ring.{Ops}
use Rattle.lzk_goldilocks.specs.Prime.{p}
use Rattle.lzk_goldilocks.specs.Elements as gold
use Rattle.lzk_gf128.specs.Elements as gf
use Rattle.lzk_outside.specs.Outside.{Files}
use Rattle.lzk_cmd_files.specs.Decoded.{circuit_files, number_files}
use Rattle.lzk_cmd_files.specs.Formats.{At}
use Rattle.lzk_cmd_files.specs.Lines.{output_line, satisfied_line, unsatisfied_line, counts_lines, layer_line}
use Rattle.lzk_cmd_files.specs.Ends.{End, says, Stop}

-- the lines of the checks, from check k on
abbrev pub output_lines : ℕ → List ℕ → List ℕ
output_lines k [] = []
output_lines k (value ∷ values) = output_line k value ++ output_lines (k + 1) values

-- satisfied where no check is other than 0
abbrev pub verdict : {A : Type 0} → List ℕ → Option (ℕ × A) → End
verdict lines None = says 0 (lines ++ satisfied_line)
verdict lines (Some first) = says 1 (lines ++ unsatisfied_line first.0)

-- what is printed of these checks: those of layer 0 are the circuit's outputs
abbrev pub Evaluated : {A : Type 0} → Ops A → (A → ℕ) → List A → End → Type 0
Evaluated {A} o number checks end =
    (first : Option (ℕ × A))
    × IsFirstNonzero o checks first
    × (end ≡ verdict (output_lines 0 (map number checks)) first)

-- a circuit over a field, on the inputs of two number files
unfoldable pub EvalOver : {A : Type 0} → Ops A → ℕ → (A → ℕ) → Wiring A → List ℕ → List ℕ → Files → Stop → End → Type 0
EvalOver o size number c public private files stop end =
    At (number_files size number c.publics) files stop 1 public end (λ publics.
    At (number_files size number c.privates) files stop 2 private end (λ privates.
    Evaluated o number (checks_of o number c.layers (inputs_of o publics privates)) end))

abbrev pub EvalAny : AnyCircuit → List ℕ → List ℕ → Files → Stop → End → Type 0
EvalAny (Gold c) = EvalOver gold.ops p gold.number c
EvalAny (Gf c) = EvalOver gf.ops (2 ^ 128) gf.number c

unfoldable pub EvalRun : List ℕ → List ℕ → List ℕ → Files → Stop → End → Type 0
EvalRun circuit public private files stop end =
    At circuit_files files stop 0 circuit end (λ c. EvalAny c public private files stop end)

-- the layers' lines, from layer l on
abbrev pub layer_lines : {A : Type 0} → ℕ → List (Layer A) → List ℕ
layer_lines l [] = []
layer_lines l (layer ∷ layers) = layer_line l layer.wires (length layer.terms) ++ layer_lines (l + 1) layers

-- what is printed of a circuit over a field with this name, with this id
abbrev pub shown : {A : Type 0} → List ℕ → List ℕ → Wiring A → List ℕ
shown field id c = counts_lines field c.version id c.publics c.privates (length c.layers) ++ layer_lines 0 c.layers

abbrev pub shown_any : AnyCircuit → List ℕ
shown_any (Gold c) = shown field_word (circuit_id goldilocks (numbered gold.number c)) c
shown_any (Gf c) = shown (codes "gf2_128") (circuit_id gf128 (numbered gf.number c)) c

unfoldable pub ShowRun : List ℕ → Files → Stop → End → Type 0
ShowRun circuit files stop end = At circuit_files files stop 0 circuit end (λ c. end ≡ says 0 (shown_any c))

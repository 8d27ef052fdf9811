-- What is written of a circuit's file.
use Rattle.std.specs.Prelude.{◌≡◌, ◌⊎◌, ℕ, List, [], length, replicate}
use Rattle.sha2.specs.Sha256.{sha256}
use Rattle.lzk_circbytes.specs.Files.{CircuitBytes}
use Rattle.lzk_circbytes.specs.declared.any.AnyCircuit.{AnyCircuit}
use Rattle.lzk_circbytes.specs.declared.any.AnyCircuit.TheVariants.{Gold, Gf}
use Rattle.lzk_circuit.specs.Checks.{check_count}
use Rattle.lzk_circuit.specs.Valid.{Wiring}
use Rattle.lzk_goldilocks.specs.Elements as gold
use Rattle.lzk_goldilocks.specs.Prime.{field_byte}
use Rattle.lzk_gf128.specs.Elements as gf
use Rattle.lzk_calls.specs.declared.info.Info.{Info}
use Rattle.lzk_calls.specs.declared.refusal.Refusal.{Refusal}
use Rattle.lzk_calls.specs.declared.refusal.Refusal.TheVariants.{NoCircuit}
use Rattle.lzk_calls.specs.Inputs.{IsUnread}
use Rattle.lzk_circbytes.specs.Kinds.{rule_number}

abbrev pub info_over : {A : Type 0} → (A → ℕ) → ℕ → List ℕ → Wiring A → Info
info_over number field id c = record {
  answer = 0;
  kind = 0;
  offset = 0;
  field = field;
  version = c.version;
  publics = c.publics;
  privates = c.privates;
  layers = length c.layers;
  checks = check_count number c.layers;
  id = id;
}

-- of no circuit: its field, its id and its counts are zeros
abbrev pub info_of_none : Info
info_of_none =
    info_over gold.number 0 (replicate 32 0) (record { version = 0; publics = 0; privates = 0; layers = [] })

-- a file is refused for a rule that it breaks, or for want of memory
abbrev pub refusal_info : Refusal → Info
refusal_info (NoCircuit fault) =
    record info_of_none { answer = 3; kind = rule_number fault.kind; offset = fault.offset }
refusal_info other = record info_of_none { answer = 6 }

abbrev pub info_any : List ℕ → AnyCircuit → Info
info_any id (Gold c) = info_over gold.number field_byte id c
info_any id (Gf c) = info_over gf.number 2 id c

-- what is written of a circuit's file: its id is SHA-256 of it
abbrev pub Shows : List ℕ → Info → Type 0
Shows circuit info =
    ((refusal : Refusal) × IsUnread circuit refusal × (info ≡ refusal_info refusal))
    ⊎ ((c : AnyCircuit) × CircuitBytes c circuit × (info ≡ info_any (sha256 circuit) c))

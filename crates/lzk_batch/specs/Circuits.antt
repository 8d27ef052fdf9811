-- The circuits of a batch.
use Rattle.std.specs.Prelude.{◌≡◌, ℕ, List, slice_get, Some}
use Rattle.lzk_circuit.specs.Valid.{Wiring}
use Rattle.lzk_circbytes.specs.declared.any.AnyCircuit.{AnyCircuit}
use Rattle.lzk_circbytes.specs.declared.any.AnyCircuit.TheVariants as circuits
use Rattle.lzk_goldilocks.specs.declared.element.Gold.{Gold}
use Rattle.lzk_gf128.specs.declared.element.Gf128.{Gf128}

-- this circuit over Goldilocks stands at the place
abbrev pub IsGoldAt : List AnyCircuit → ℕ → Wiring Gold → Type 0
IsGoldAt batch place circuit = slice_get batch place ≡ Some (circuits.Gold circuit)

-- this circuit over GF(2^128) stands at the place
abbrev pub IsGfAt : List AnyCircuit → ℕ → Wiring Gf128 → Type 0
IsGfAt batch place circuit = slice_get batch place ≡ Some (circuits.Gf circuit)

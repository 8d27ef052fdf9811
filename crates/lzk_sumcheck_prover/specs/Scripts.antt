-- Lists of layers' scripts.
use Rattle.std.specs.Prelude.{◌≡◌, ℕ, List, Some, length, slice_get}
use Rattle.lzk_circuit.specs.Valid.{Wiring}
use Rattle.lzk_layout.specs.Places.{depth, bits_under}
use Rattle.lzk_sumcheck.specs.declared.script.LayerScript.{LayerScript}
use Rattle.lzk_sumcheck.specs.Script.{HasBits}

-- one for each layer of a circuit, with a challenge of each kind for each bit that numbers the wires below
pub record HaveBits {A : Type 0} (c : Wiring A) (layers : List (LayerScript A)) : Type 0 where
  pub count : length layers ≡ depth c
  pub each : (l : ℕ) (layer : LayerScript A) → slice_get layers l ≡ Some layer → HasBits (bits_under c l) layer

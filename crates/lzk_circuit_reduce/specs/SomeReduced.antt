-- Layers have a reduced form.
use Rattle.std.specs.Prelude.{◌≡◌, ℕ, ◌≤◌, List, length}
use Rattle.lzk_field.specs.Ring.{Ops}
use Rattle.lzk_circuit.specs.declared.layer.Layer.{Layer}
use Rattle.lzk_circuit.specs.Valid.{AreLayers}
use Rattle.lzk_circuit_reduce.specs.Reduced.{HaveOnes, IsReduced, AreSameOutputs, output_count}

-- reduced layers with the same outputs as others
pub record IsReducedForm {A : Type 0} (o : Ops A) (inputs : ℕ) (layers kept : List (Layer A)) : Type 0 where
  pub count : length kept ≡ length layers
  pub valid : AreLayers o inputs kept
  pub outputs : output_count kept ≡ output_count layers
  pub values : AreSameOutputs o inputs kept layers
  pub reduced : IsReduced o kept

-- layers whose first wires go on from each other have a reduced form
abbrev pub SomeReduced : {A : Type 0} → Ops A → Type 0
SomeReduced {A} o =
    (inputs : ℕ) (layers : List (Layer A)) → 1 ≤ length layers → AreLayers o inputs layers → HaveOnes o layers
    → (kept : List (Layer A)) × IsReducedForm o inputs layers kept

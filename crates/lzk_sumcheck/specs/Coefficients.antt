-- The coefficients and the weights of a circuit's layers.
use Rattle.std.specs.Prelude.{◌≡◌, ℕ, ◌+◌, ◌<◌, List, [], length, map, slice_index_or}
use Rattle.std.specs.List.{range_with_len}
use Rattle.lzk_field.specs.Ring.{Ops}
use Rattle.lzk_field.specs.Sums.{entry}
use Rattle.lzk_circuit.specs.declared.layer.Term.{Term}
use Rattle.lzk_circuit.specs.Valid.{Wiring}
use Rattle.lzk_circuit.specs.Wires.{layer_coefficient}
use Rattle.lzk_sumcheck.specs.declared.script.Script.{Script}
use Rattle.lzk_mle.specs.Multilinear.{eq}
use Rattle.lzk_sumcheck.specs.Rounds.{bound_coefficient}
use Rattle.lzk_sumcheck.specs.Script.{layer_at, point_a, point_b}
use Rattle.lzk_layout.specs.Places.{depth, width_at}

-- the terms of layer l
abbrev pub terms_at : {A : Type 0} → Wiring A → ℕ → List (Term A)
terms_at c l = slice_index_or (map (λ layer. layer.terms) c.layers) l []

-- The coefficient of layer l at (g, a, b), with the layer's beta for an assertion term. Only here is said which
-- coefficients a circuit's layers have.
unfoldable pub coefficients : {A : Type 0} → Ops A → Wiring A → Script A → ℕ → ℕ → ℕ → ℕ → A
coefficients o c s l = layer_coefficient o (terms_at c l) (layer_at o s l).beta

-- the weight of each wire of layer l: eq at the one point, plus alpha times eq at the other
abbrev pub weights_at : {A : Type 0} → Ops A → Wiring A → Script A → ℕ → List A
weights_at o c s l =
    map (λ g. o.plus (eq o g (point_a o s l)) (o.times (layer_at o s l).alpha (eq o g (point_b o s l))))
    (range_with_len 0 (width_at c l))

-- the weighted sum of layer l's coefficients at its challenges, for any coefficients q of the layers
unfoldable pub bound_at : {A : Type 0} → Ops A → Wiring A → (ℕ → ℕ → ℕ → ℕ → A) → Script A → ℕ → A
bound_at o c q s l =
    bound_coefficient o (q l) (weights_at o c s l) (width_at c (l + 1)) (layer_at o s l).ra (layer_at o s l).rb

-- a list of these sums, one a layer, of the circuit's own coefficients
pub record AreBounds {A : Type 0} (o : Ops A) (c : Wiring A) (s : Script A) (bounds : List A) : Type 0 where
  pub count : length bounds ≡ depth c
  pub each : (l : ℕ) → l < depth c → entry o bounds l ≡ bound_at o c (coefficients o c s) s l

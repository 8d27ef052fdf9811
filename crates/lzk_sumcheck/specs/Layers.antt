-- What terms, and a circuit's layers, sum in their rounds.
use Rattle.std.specs.Prelude.{◌≡◌, ℕ, ◌+◌, ◌<◌, List, [], length}
use Rattle.lzk_field.specs.Ring.{Ops}
use Rattle.lzk_circuit.specs.declared.layer.Term.{Term}
use Rattle.lzk_circuit.specs.Checks.{IsSatisfied}
use Rattle.lzk_field.specs.Sums.{sum_below, entry}
use Rattle.lzk_circuit.specs.Valid.{Wiring, IsValid}
use Rattle.lzk_circuit.specs.Wires.{coef, zero_at, layer_coefficient, wire, all_values, inputs_of, list_at}
use Rattle.lzk_layout.specs.Places.{depth, width_at, bits_under}
use Rattle.lzk_sumcheck.specs.Coefficients.{terms_at}
use Rattle.lzk_sumcheck.specs.Rounds.{Layered, claim}

-- a layer with these terms, and beta for those whose coefficient is 0, with weights of its wires, over values whose
-- numbers have so many bits
abbrev pub layer_of_terms : {A : Type 0} → Ops A → List (Term A) → A → List A → List A → ℕ → Layered A
layer_of_terms o terms beta weights values bits = record {
  coefficient = layer_coefficient o terms beta;
  weights = weights;
  values = values;
  bits = bits;
}

-- layer l of a circuit, with beta for its assertion terms and weights of its wires, over the values of all layers
abbrev pub weighted_layer : {A : Type 0} → Ops A → Wiring A → List (List A) → ℕ → List A → A → Layered A
weighted_layer o c values l weights beta =
    layer_of_terms o (terms_at c l) beta weights (list_at values (l + 1)) (bits_under c l)

-- the claim with nothing bound is the weighted sum of the wires, each with beta times what its assertion terms count
abbrev pub BeginsWithChecks : {A : Type 0} → Ops A → List (Term A) → A → List A → List A → ℕ → Type 0
BeginsWithChecks o terms beta weights values bits =
    claim o (layer_of_terms o terms beta weights values bits) []
    ≡ sum_below o (length weights) (λ g.
    o.times (entry o weights g)
    (o.plus (wire o (coef o terms) values g) (o.times beta (wire o (zero_at o terms) values g))))

-- for satisfying inputs the assertion terms count nothing, so the claim with which a layer begins is the weighted sum
-- of its wires whatever beta is
abbrev pub SatisfiedClaims : {A : Type 0} → Ops A → (A → ℕ) → Type 0
SatisfiedClaims {A} o number =
    (c : Wiring A) (public private : List A) (l : ℕ) (weights : List A) (beta : A) → IsValid o c
    → length public ≡ c.publics → length private ≡ c.privates
    → IsSatisfied o number c.layers (inputs_of o public private) → l < depth c → length weights ≡ width_at c l
    → (let values = all_values o c.layers (inputs_of o public private) in
    claim o (weighted_layer o c values l weights beta) []
    ≡ sum_below o (width_at c l) (λ g. o.times (entry o weights g) (entry o (list_at values l) g)))

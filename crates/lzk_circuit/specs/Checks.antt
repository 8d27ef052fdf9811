-- The checks of a circuit: its outputs, and what the assertion terms of its inner layers count.
use Rattle.std.specs.Prelude.{◌≡◌, ℕ, ◌+◌, ◌==◌, Bool, None, List, [], ◌∷◌, ◌++◌, length, map}
use Rattle.std.specs.List.{filter, range_with_len}
use Rattle.lzk_circuit.specs.declared.layer.Term.{Term}
use Rattle.lzk_circuit.specs.declared.layer.Layer.{Layer}
use Rattle.lzk_field.specs.Ring.{Ops}
use Rattle.lzk_circuit.specs.Valid.{Wiring, HaveWidths}
use Rattle.lzk_circuit.specs.Wires.{coef, zero_at, wire, wires_of, IsFirstNonzero}

-- an assertion term has the coefficient 0
abbrev pub is_assertion : {A : Type 0} → (A → ℕ) → Term A → Bool
is_assertion number t = number t.coef == 0

-- the wires of the assertion terms, in order
abbrev pub assertion_wires : {A : Type 0} → (A → ℕ) → List (Term A) → List ℕ
assertion_wires number ts = map (λ t. t.g) (filter (is_assertion number) ts)

-- what the assertion terms count for a wire
abbrev pub asserted : {A : Type 0} → Ops A → List (Term A) → List A → ℕ → A
asserted o ts below g = wire o (zero_at o ts) below g

-- a check for each wire of layer 0: the wire, and what an assertion term counts for it
abbrev pub output_checks : {A : Type 0} → Ops A → Layer A → List A → List A
output_checks o layer below =
    map (λ g. o.plus (wire o (coef o layer.terms) below g) (asserted o layer.terms below g))
    (range_with_len 0 layer.wires)

-- for each assertion wire of these layers what its term counts
abbrev pub inner_checks : {A : Type 0} → Ops A → (A → ℕ) → List (Layer A) → List A → List A
inner_checks o number [] inputs = []
inner_checks o number (layer ∷ layers) inputs =
    map (asserted o layer.terms (wires_of o layers inputs)) (assertion_wires number layer.terms)
    ++ inner_checks o number layers inputs

-- all checks over the inputs: the outputs' come first, and then those of each layer from 1 on
abbrev pub checks_of : {A : Type 0} → Ops A → (A → ℕ) → List (Layer A) → List A → List A
checks_of o number [] inputs = []
checks_of o number (layer ∷ layers) inputs =
    output_checks o layer (wires_of o layers inputs) ++ inner_checks o number layers inputs

-- how many assertion wires these layers have
abbrev pub assertion_count : {A : Type 0} → (A → ℕ) → List (Layer A) → ℕ
assertion_count number [] = 0
assertion_count number (layer ∷ layers) = length (assertion_wires number layer.terms) + assertion_count number layers

-- how many checks there are
abbrev pub check_count : {A : Type 0} → (A → ℕ) → List (Layer A) → ℕ
check_count number [] = 0
check_count number (layer ∷ layers) = layer.wires + assertion_count number layers

-- every check is 0
abbrev pub IsSatisfied : {A : Type 0} → Ops A → (A → ℕ) → List (Layer A) → List A → Type 0
IsSatisfied o number layers inputs = IsFirstNonzero o (checks_of o number layers inputs) None

-- what is known of a circuit's wires and checks: a list for each layer, the inputs' last, and one for the checks
pub record Valuation (A : Type 0) : Type 0 where
  pub wires : List (List A)
  pub checks : List A

-- each list is as long as its layer is wide, and there are as many checks as the circuit has
abbrev pub HasRoom : {A : Type 0} → (A → ℕ) → Wiring A → Valuation A → Type 0
HasRoom number c v = HaveWidths c v.wires × (length v.checks ≡ check_count number c.layers)

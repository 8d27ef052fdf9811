-- The assertion terms of layers that stand side by side.
use Rattle.std.specs.Prelude.{◌≡◌, ◌≢◌, ℕ, ◌<◌, ◌==◌, ◌&&◌, ◌||◌, true, false, cond, Bool, Option, Some, None}
use Rattle.std.specs.Prelude.{List, [], ◌∷◌, map}
use Rattle.lzk_field.specs.Ring.{Ops}
use Rattle.lzk_field.specs.Sums.{entry}
use Rattle.lzk_circuit.specs.declared.layer.Term.{Term}
use Rattle.lzk_circuit.specs.declared.layer.Layer.{Layer}
use Rattle.lzk_circuit.specs.Checks.{asserted}
use Rattle.lzk_circuit.specs.Wires.{coef, wire, wires_of, weighed}
use Rattle.lzk_circuit_reduce.specs.Renumbering.{of_wire}

-- some assertion term is of wire g
abbrev pub is_asserted : {A : Type 0} → (A → ℕ) → List (Term A) → ℕ → Bool
is_asserted number [] g = false
is_asserted number (t ∷ ts) g = ((number t.coef == 0) && (t.g == g)) || is_asserted number ts g

-- the same of the first of these layers; inputs are never asserted
abbrev pub first_asserted : {A : Type 0} → (A → ℕ) → List (Layer A) → ℕ → Bool
first_asserted number [] g = false
first_asserted number (layer ∷ layers) g = is_asserted number layer.terms g

-- what assertion terms count for wire g of the first of these layers
abbrev pub first_asserts : {A : Type 0} → Ops A → List (Layer A) → List A → ℕ → A
first_asserts o [] inputs g = o.zero
first_asserts o (layer ∷ layers) inputs g = asserted o layer.terms (wires_of o layers inputs) g

-- wire g of the first of these layers where assertion terms have the coefficient 1
abbrev pub first_sum : {A : Type 0} → Ops A → List (Layer A) → List A → ℕ → A
first_sum o [] inputs g = entry o inputs g
first_sum o (layer ∷ layers) inputs g = wire o (coef o (weighed o o.one layer.terms)) (wires_of o layers inputs) g

-- what assertion terms count is 0 for every wire of every layer
abbrev pub AreAssertsZero : {A : Type 0} → Ops A → List (Layer A) → List A → Type 0
AreAssertsZero o [] inputs = Unit {0}
AreAssertsZero o (layer ∷ layers) inputs =
    ((g : ℕ) → g < layer.wires → asserted o layer.terms (wires_of o layers inputs) g ≡ o.zero)
    × AreAssertsZero o layers inputs

-- the term with the coefficient 0 where its wire is marked
abbrev pub cleared_term : {A : Type 0} → Ops A → (ℕ → Bool) → Term A → Term A
cleared_term o marks t = record { g = t.g; a = t.a; b = t.b; coef = cond (marks t.g) o.zero t.coef }

abbrev pub cleared : {A : Type 0} → Ops A → (ℕ → Bool) → List (Term A) → List (Term A)
cleared o marks ts = map (cleared_term o marks) ts

-- the term before is of another wire
abbrev pub IsOfAnother : {A : Type 0} → Option (Term A) → ℕ → Type 0
IsOfAnother None g = Unit {0}
IsOfAnother (Some s) g = s.g ≢ g

-- each term of a marked wire has the coefficient 1, and is the only one of its wire
abbrev pub AreLone : {A : Type 0} → Ops A → (ℕ → Bool) → Option (Term A) → List (Term A) → Type 0
AreLone o marks before [] = Unit {0}
AreLone o marks before (t ∷ ts) =
    (marks t.g ≡ true → (t.coef ≡ o.one) × IsOfAnother before t.g) × AreLone o marks (Some t) ts

-- wire g has one term, with the coefficient 1
pub record HasLone {A : Type 0} (o : Ops A) (ts : List (Term A)) (g : ℕ) : Type 0 where
  pub term : Term A
  pub own : of_wire g ts ≡ term ∷ []
  pub coef : term.coef ≡ o.one

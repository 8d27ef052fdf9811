-- The values of a layered circuit's wires, over the operations of a field.
use Rattle.std.specs.Prelude.{◌≡◌, ◌≢◌, ℕ, ◌+◌, ◌<◌, ◌==◌, ◌&&◌, ◌++◌, Bool, Option, Some, None, List, [], ◌∷◌, length, map, cond, slice_get, slice_index_or}
use Rattle.std.specs.List.{range_with_len}
use Rattle.lzk_circuit.specs.declared.layer.Term.{Term}
use Rattle.lzk_circuit.specs.declared.layer.Layer.{Layer}
use Rattle.lzk_field.specs.Ring.{Ops}
use Rattle.lzk_field.specs.Sums.{minus}
use Rattle.lzk_circuit.specs.Sums.{sum_pairs}

abbrev pub is_at : {A : Type 0} → Term A → ℕ → ℕ → ℕ → Bool
is_at t g a b = (g == t.g) && ((a == t.a) && (b == t.b))

-- the coefficient of the term with these three numbers, and 0 where there is none
abbrev pub coef : {A : Type 0} → Ops A → List (Term A) → ℕ → ℕ → ℕ → A
coef o [] g a b = o.zero
coef o (t ∷ ts) g a b = cond (is_at t g a b) t.coef (coef o ts g a b)

-- 1 for 0, and 0 for any other: in a field an element other than 0 times its inverse is 1
abbrev pub zero_of : {A : Type 0} → Ops A → A → A
zero_of o x = minus o o.one (o.times x (o.inverse x))

-- 1 where an assertion term has these three numbers, and 0 elsewhere: an assertion term is one with the coefficient 0
abbrev pub zero_at : {A : Type 0} → Ops A → List (Term A) → ℕ → ℕ → ℕ → A
zero_at o [] g a b = o.zero
zero_at o (t ∷ ts) g a b = cond (is_at t g a b) (zero_of o t.coef) (zero_at o ts g a b)

-- the coefficient, and beta for an assertion term
abbrev pub layer_coefficient : {A : Type 0} → Ops A → List (Term A) → A → ℕ → ℕ → ℕ → A
layer_coefficient o terms beta g a b = o.plus (coef o terms g a b) (o.times beta (zero_at o terms g a b))

-- the same terms, each with its coefficient, and beta for an assertion term: the coefficients of these are
-- `layer_coefficient`
abbrev pub weighed_term : {A : Type 0} → Ops A → A → Term A → Term A
weighed_term o beta t = record { g = t.g; a = t.a; b = t.b; coef = o.plus t.coef (o.times beta (zero_of o t.coef)) }

abbrev pub weighed : {A : Type 0} → Ops A → A → List (Term A) → List (Term A)
weighed o beta ts = map (weighed_term o beta) ts

-- wire g, over the values of the wires below, for any coefficients q
unfoldable pub wire : {A : Type 0} → Ops A → (ℕ → ℕ → ℕ → A) → List A → ℕ → A
wire o q values g =
    sum_pairs o (length values)
    (λ a b. o.times (o.times (q g a b) (slice_index_or values a o.zero)) (slice_index_or values b o.zero))

-- the values of a layer's wires, over those of the layer below
abbrev pub layer_values : {A : Type 0} → Ops A → Layer A → List A → List A
layer_values o layer below = map (wire o (coef o layer.terms) below) (range_with_len 0 layer.wires)

-- the values of the uppermost of these layers, over the inputs
abbrev pub wires_of : {A : Type 0} → Ops A → List (Layer A) → List A → List A
wires_of o [] inputs = inputs
wires_of o (layer ∷ layers) inputs = layer_values o layer (wires_of o layers inputs)

-- each layer's values, and the inputs last
abbrev pub all_values : {A : Type 0} → Ops A → List (Layer A) → List A → List (List A)
all_values o [] inputs = inputs ∷ []
all_values o (layer ∷ layers) inputs = wires_of o (layer ∷ layers) inputs ∷ all_values o layers inputs

-- what the input layer holds
abbrev pub inputs_of : {A : Type 0} → Ops A → List A → List A → List A
inputs_of o public private = o.one ∷ (public ++ private)

-- the wires of a layer, the outputs being those of layer 0
abbrev pub list_at : {A : Type 0} → List (List A) → ℕ → List A
list_at values l = slice_index_or values l []

-- each layer has the values of its wires over those of the layer below
abbrev pub AreLayerValues : {A : Type 0} → Ops A → List (Layer A) → List (List A) → Type 0
AreLayerValues {A} o layers values =
    (l : ℕ) (layer : Layer A) → slice_get layers l ≡ Some layer
    → list_at values l ≡ layer_values o layer (list_at values (l + 1))

-- the least number whose value is not 0, with the value; none where all are 0
abbrev pub IsFirstNonzero : {A : Type 0} → Ops A → List A → Option (ℕ × A) → Type 0
IsFirstNonzero o outputs None = (g : ℕ) → g < length outputs → slice_index_or outputs g o.zero ≡ o.zero
IsFirstNonzero o outputs (Some (g, v)) =
    (g < length outputs)
    × (slice_index_or outputs g o.zero ≡ v)
    × (v ≢ o.zero)
    × ((k : ℕ) → k < g → slice_index_or outputs k o.zero ≡ o.zero)

-- every wire is 0
abbrev pub AreZeros : {A : Type 0} → Ops A → List (List A) → Type 0
AreZeros o values = (l g : ℕ) → slice_index_or (list_at values l) g o.zero ≡ o.zero

-- no later term has the same three numbers, and all are below the numbers of wires, k in the layer and n below it
abbrev pub AreDistinct : {A : Type 0} → Ops A → ℕ → ℕ → List (Term A) → Type 0
AreDistinct o k n [] = Unit {0}
AreDistinct o k n (t ∷ ts) = (t.g < k) × (t.a < n) × (t.b < n) × (coef o ts t.g t.a t.b ≡ o.zero) × AreDistinct o k n ts

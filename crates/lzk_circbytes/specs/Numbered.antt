-- Circuits by the numbers of their coefficients, as a file has them.
use Rattle.std.specs.Prelude.{ℕ, ◌==◌, nat_lt, Bool, cond, List, [], ◌∷◌, map, flat_map}
use Rattle.std.specs.List.{list_any, filter}
use Rattle.lzk_circuit.specs.declared.layer.Term.{Term}
use Rattle.lzk_circuit.specs.declared.layer.Layer.{Layer}
use Rattle.lzk_circuit.specs.Valid.{Wiring, wiring_of}

-- how a field's elements are written: by which byte the field is named, in how many bytes an element, and how many
-- elements there are
pub record Shape : Type 0 where
  pub id : ℕ
  pub bytes : ℕ
  pub size : ℕ

abbrev pub shape : ℕ → ℕ → ℕ → Shape
shape id bytes size = record { id = id; bytes = bytes; size = size }

abbrev pub numbered_term : {A : Type 0} → (A → ℕ) → Term A → Term ℕ
numbered_term number t = record { g = t.g; a = t.a; b = t.b; coef = number t.coef }

abbrev pub numbered_layer : {A : Type 0} → (A → ℕ) → Layer A → Layer ℕ
numbered_layer number layer = record { wires = layer.wires; terms = map (numbered_term number) layer.terms }

-- the same circuit, with each coefficient's number in its place
abbrev pub numbered : {A : Type 0} → (A → ℕ) → Wiring A → Wiring ℕ
numbered number c = wiring_of c.version c.publics c.privates (map (numbered_layer number) c.layers)

-- whether n is a coefficient of these terms, or layers
abbrev pub is_in_terms : List (Term ℕ) → ℕ → Bool
is_in_terms terms n = list_any (λ t. n == t.coef) terms

abbrev pub is_coefficient : List (Layer ℕ) → ℕ → Bool
is_coefficient layers n = list_any (λ layer. is_in_terms layer.terms n) layers

abbrev pub coefficients : List (Layer ℕ) → List ℕ
coefficients layers = flat_map (λ layer. map (λ t. t.coef) layer.terms) layers

-- the numbers other than 0
abbrev pub nonzero : List ℕ → List ℕ
nonzero ns = filter (λ n. nat_lt 0 n) ns

-- What a term's last number counts among: the constants, and in version 2 zero before them. So it is 0 there for an
-- assertion term, and 1 + the number of the constant for another.
abbrev pub coefs_of : ℕ → List ℕ → List ℕ
coefs_of version cs = cond (version == 2) (0 ∷ cs) cs

-- how many of these stand before the constants
abbrev pub zeros_of : ℕ → ℕ
zeros_of version = cond (version == 2) 1 0

-- an ascending list with n put into it, unless n is there
abbrev pub with_number : ℕ → List ℕ → List ℕ
with_number n [] = n ∷ []
with_number n (x ∷ xs) = cond (nat_lt n x) (n ∷ x ∷ xs) (cond (n == x) (x ∷ xs) (x ∷ with_number n xs))

-- the numbers of a list, each once, ascending
abbrev pub ascending : List ℕ → List ℕ
ascending [] = []
ascending (n ∷ ns) = with_number n (ascending ns)

-- the numbers of a circuit's coefficients other than 0, each once, ascending
abbrev pub constants_of : Wiring ℕ → List ℕ
constants_of c = ascending (nonzero (coefficients c.layers))

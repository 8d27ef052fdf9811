-- The one spelling of each circuit.
use Rattle.std.specs.Prelude.{ℕ, zero, suc, ◌+◌, ◌-◌, ◌/◌, ◌%◌, List, [], ◌∷◌, ◌++◌, length, reverse, Option, None, nat_lt, nat_eq, if◌then◌else◌}
use Rattle.std.specs.Int.{w32, to_le_bytes}
use Rattle.lzk_profile.specs.Profile.{file_letter}
use Rattle.lzk_field.specs.Bytes.{bytes_of}
use Rattle.lzk_circuit.specs.declared.layer.Term.{Term}
use Rattle.lzk_circuit.specs.declared.layer.Layer.{Layer}
use Rattle.lzk_circuit.specs.Valid.{Under, above_inputs, above_layer, Wiring}
use Rattle.lzk_circbytes.specs.Numbered.{Shape, coefs_of, constants_of}
use Rattle.lzk_circbytes.specs.Reading.{wire_before, as_before, as_last}

-- each item, spelled with what the items before it left
unfoldable pub spells : {S A : Type 0} → (S → A → S) → (S → A → List ℕ) → S → List A → List ℕ
spells next spell s [] = []
spells next spell s (x ∷ xs) = spell s x ++ spells next spell (next s x) xs

-- seven bits a byte, the lowest first, in at most k bytes
unfoldable pub septets : ℕ → ℕ → List ℕ
septets zero n = []
septets (suc k) n = if nat_lt n 128 then n ∷ [] else (128 + n % 128) ∷ septets k (n / 128)

abbrev pub varint : ℕ → List ℕ
varint n = septets 5 n

-- where a coefficient stands among the constants
abbrev pub index_of : List ℕ → ℕ → ℕ
index_of [] c = 0
index_of (x ∷ xs) c = if nat_eq x c then 0 else suc (index_of xs c)

-- the step of g, then a, then b less a, then the number of the constant
unfoldable pub term_bytes : List ℕ → Option (Term ℕ) → Term ℕ → List ℕ
term_bytes coefs before t =
    varint (t.g - wire_before before) ++ (varint t.a ++ (varint (t.b - t.a) ++ varint (index_of coefs t.coef)))

unfoldable pub layer_bytes : List ℕ → Under → Layer ℕ → List ℕ
layer_bytes coefs under layer =
    to_le_bytes w32 layer.wires
    ++ (to_le_bytes w32 (length layer.terms) ++ spells as_before (term_bytes coefs) None layer.terms)

-- the layers from the inputs up
abbrev pub layers_bytes : List ℕ → ℕ → List (Layer ℕ) → List ℕ
layers_bytes coefs inputs layers = spells above_layer (layer_bytes coefs) (above_inputs inputs) layers

unfoldable pub constants_bytes : Shape → List ℕ → List ℕ
constants_bytes shape cs = spells as_last (λ before c. bytes_of shape.bytes c) 0 cs

-- what stands behind the field's byte
abbrev pub tail_bytes : Shape → Wiring ℕ → List ℕ → List ℕ
tail_bytes shape c cs =
    to_le_bytes w32 c.publics ++ (to_le_bytes w32 c.privates ++ (to_le_bytes w32 (length c.layers)
    ++ (to_le_bytes w32 (length cs) ++ (constants_bytes shape cs
    ++ layers_bytes (coefs_of c.version cs) (1 + c.publics + c.privates) (reverse c.layers)))))

-- the letters `LZC1` or `LZC2`, of which the second is the profile's, the field's byte and the rest, with these
-- constants
abbrev pub file_bytes : Shape → Wiring ℕ → List ℕ → List ℕ
file_bytes shape c cs = 76 ∷ file_letter ∷ 67 ∷ (48 + c.version) ∷ shape.id ∷ tail_bytes shape c cs

-- the one file of a circuit
abbrev pub file_of : Shape → Wiring ℕ → List ℕ
file_of shape c = file_bytes shape c (constants_of c)

-- Reading from left to right, with the first check that fails.
use Rattle.std.specs.Prelude.{ℕ, zero, suc, ◌+◌, ◌*◌, ◌-◌, ◌^◌, List, [], ◌∷◌, length, take, drop, reverse, slice_index, Option, Some, None, Result, Ok, Err, nat_lt, nat_le, ◌==◌, ◌&&◌, ◌||◌, Bool, true, if◌then◌else◌}
use Rattle.std.specs.Int.{w32, from_le_bytes}
use Rattle.lzk_circuit.specs.Limits.{most_publics, most_privates, most_layers, most_wires, most_total}
use Rattle.lzk_field.specs.Bytes.{number_from}
use Rattle.lzk_circuit.specs.declared.layer.Term.{Term}
use Rattle.lzk_circuit.specs.declared.layer.Layer.{Layer}
use Rattle.lzk_circuit.specs.Valid.{Under, above_inputs, above_layer, Wiring, wiring_of}
use Rattle.lzk_circuit.specs.Faults.{are_apart}
use Rattle.lzk_circbytes.specs.declared.fault.ByteKind.{ByteKind}
use Rattle.lzk_circbytes.specs.declared.fault.ByteKind.TheVariants.{Truncated, Limit, Varint, Order, Range, Constant, Trailing, Assertion}
use Rattle.lzk_circbytes.specs.Numbered.{Shape, is_coefficient, coefs_of}

-- the first check that fails, and how many bytes are left from the field that it is of
pub record Stop : Type 0 where
  pub left : ℕ
  pub kind : ByteKind

infixl 10 ◌>>=◌
abbrev pub ◌>>=◌ : {A B : Type 0} → Result A Stop → (A → Result B Stop) → Result B Stop
(Ok x) >>= f = f x
(Err e) >>= f = Err e

-- the field that begins these bytes fails a check
abbrev pub stops : {A : Type 0} → ByteKind → List ℕ → Result A Stop
stops kind bytes = Err (record { left = length bytes; kind = kind })

-- a check of the field that begins these bytes
abbrev pub must : Bool → ByteKind → List ℕ → Result (Unit {0}) Stop
must holds kind bytes = if holds then Ok tt else stops kind bytes

-- so many items, each read with what the items before it left
unfoldable pub many : {S A : Type 0} → (S → A → S) → (S → List ℕ → Result (A × List ℕ) Stop) → ℕ → S → List ℕ
    → Result (List A × List ℕ) Stop
many next item zero s bytes = Ok ([], bytes)
many next item (suc n) s bytes = do
  x ← item s bytes
  xs ← many next item n (next s x.0) x.1
  Ok (x.0 ∷ xs.0, xs.1)

-- four bytes
unfoldable pub word_at : List ℕ → Result (ℕ × List ℕ) Stop
word_at bytes =
    if nat_lt (length bytes) 4 then stops Truncated bytes else Ok (from_le_bytes w32 (take 4 bytes), drop 4 bytes)

-- a word from low to high
unfoldable pub limited_at : ℕ → ℕ → List ℕ → Result (ℕ × List ℕ) Stop
limited_at low high bytes = do
  n ← word_at bytes
  if nat_le low n.0 && nat_le n.0 high then Ok n else stops Limit bytes

-- Seven bits a byte, the lowest first, in at most k bytes; the top bit says that another follows. field is what the
-- number begins.
unfoldable pub septets_at : ℕ → List ℕ → List ℕ → Result (ℕ × List ℕ) Stop
septets_at zero field bytes = stops Varint field
septets_at (suc k) field [] = stops Truncated field
septets_at (suc k) field (b ∷ bytes) = if nat_lt b 128 then Ok (b, bytes) else do
  high ← septets_at k field bytes
  if high.0 == 0 then stops Varint field else Ok (b - 128 + 128 * high.0, high.1)

-- the shortest form of a number below 2 ^ 32
unfoldable pub varint_at : List ℕ → Result (ℕ × List ℕ) Stop
varint_at bytes = do
  n ← septets_at 5 bytes bytes
  if nat_lt n.0 (2 ^ 32) then Ok n else stops Varint bytes

-- base and a number, below limit
unfoldable pub step_at : ℕ → ℕ → List ℕ → Result (ℕ × List ℕ) Stop
step_at base limit bytes = do
  n ← varint_at bytes
  if nat_lt (base + n.0) limit then Ok (base + n.0, n.1) else stops Range bytes

-- an element's number, above the one before it, and above 0
unfoldable pub constant_at : Shape → ℕ → List ℕ → Result (ℕ × List ℕ) Stop
constant_at shape before bytes =
    if nat_lt (length bytes) shape.bytes then stops Truncated bytes else
    let n = number_from (take shape.bytes bytes) in
    if nat_lt before n && nat_lt n shape.size then Ok (n, drop shape.bytes bytes) else stops Constant bytes

-- each constant goes by the one before it
abbrev pub as_last : ℕ → ℕ → ℕ
as_last before n = n

abbrev pub constants_at : Shape → ℕ → List ℕ → Result (List ℕ × List ℕ) Stop
constants_at shape count bytes = many as_last (constant_at shape) count 0 bytes

-- these three numbers come after those of the term before, if there is one
abbrev pub stands_behind : Option (Term ℕ) → ℕ → ℕ → ℕ → Bool
stands_behind None g a b = true
stands_behind (Some t) g a b = nat_lt t.g g || ((t.g == g) && (nat_lt t.a a || ((t.a == a) && nat_lt t.b b)))

-- the wire of the term before, and 0 for the first
abbrev pub wire_before : Option (Term ℕ) → ℕ
wire_before None = 0
wire_before (Some t) = t.g

-- a term behind the one before, of a layer of so many wires over one of so many, with one of these coefficients
unfoldable pub term_at : List ℕ → ℕ → ℕ → Option (Term ℕ) → List ℕ → Result (Term ℕ × List ℕ) Stop
term_at coefs wires below before bytes = do
  g ← step_at (wire_before before) wires bytes
  a ← step_at 0 below g.1
  b ← step_at a.0 below a.1
  _ ← must (stands_behind before g.0 a.0 b.0) Order a.1
  k ← step_at 0 (length coefs) b.1
  _ ← must (are_apart (λ n. n) before (record { g = g.0; a = a.0; b = b.0; coef = slice_index coefs k.0 }))
      Assertion b.1
  Ok (record { g = g.0; a = a.0; b = b.0; coef = slice_index coefs k.0 }, k.1)

abbrev pub as_before : Option (Term ℕ) → Term ℕ → Option (Term ℕ)
as_before before t = Some t

abbrev pub terms_at : List ℕ → ℕ → ℕ → ℕ → List ℕ → Result (List (Term ℕ) × List ℕ) Stop
terms_at coefs wires below count bytes = many as_before (term_at coefs wires below) count None bytes

-- a layer on the layers under it
unfoldable pub layer_at : List ℕ → Under → List ℕ → Result (Layer ℕ × List ℕ) Stop
layer_at coefs under bytes = do
  wires ← word_at bytes
  _ ← must (nat_le 1 wires.0 && (nat_le wires.0 most_wires && nat_le (under.wires + wires.0) most_total)) Limit bytes
  count ← word_at wires.1
  _ ← must (nat_le (under.terms + count.0) most_total) Limit wires.1
  terms ← terms_at coefs wires.0 under.width count.0 count.1
  Ok (record { wires = wires.0; terms = terms.0 }, terms.1)

-- so many layers, from the inputs up
abbrev pub layers_at : List ℕ → ℕ → ℕ → List ℕ → Result (List (Layer ℕ) × List ℕ) Stop
layers_at coefs inputs count bytes = many above_layer (layer_at coefs) count (above_inputs inputs) bytes

-- the bytes from the first constant on that no term uses
abbrev pub unused_from : ℕ → List (Layer ℕ) → List ℕ → List ℕ → Option (List ℕ)
unused_from width layers [] bytes = None
unused_from width layers (c ∷ cs) bytes =
    if is_coefficient layers c then unused_from width layers cs (drop width bytes) else Some bytes

abbrev pub all_used : Option (List ℕ) → Result (Unit {0}) Stop
all_used None = Ok tt
all_used (Some bytes) = stops Constant bytes

-- the constants and the layers, from the inputs up: each constant is used, and no byte is left
unfoldable pub body_at : Shape → ℕ → ℕ → ℕ → ℕ → List ℕ → Result (List (Layer ℕ)) Stop
body_at shape version inputs depth count bytes = do
  cs ← constants_at shape count bytes
  layers ← layers_at (coefs_of version cs.0) inputs depth cs.1
  _ ← all_used (unused_from shape.bytes layers.0 cs.0 bytes)
  _ ← must (length layers.1 == 0) Trailing layers.1
  Ok layers.0

-- what stands behind the field's byte, in a file of this version
unfoldable pub wiring_at : Shape → ℕ → List ℕ → Result (Wiring ℕ) Stop
wiring_at shape version bytes = do
  publics ← limited_at 0 most_publics bytes
  privates ← limited_at 0 most_privates publics.1
  depth ← limited_at 1 most_layers privates.1
  count ← limited_at 0 most_total depth.1
  layers ← body_at shape version (1 + publics.0 + privates.0) depth.0 count.0 count.1
  Ok (wiring_of version publics.0 privates.0 (reverse layers))

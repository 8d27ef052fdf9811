-- The fields of a circuit's file, in order, each with its checks.
use Rattle.std.specs.Prelude.{ℕ, ◌+◌, List, [], ◌∷◌, length, slice_index, Option, Some, None, Bool, nat_lt, nat_le, ◌&&◌, ◌||◌, if◌then◌else◌}
use Rattle.std.specs.Int.{w32, from_le_bytes}
use Rattle.lzk_profile.specs.Profile.{file_letter}
use Rattle.lzk_goldilocks.specs.Prime.{field_byte}
use Rattle.lzk_circuit.specs.Limits.{most_publics, most_privates, most_layers, most_wires, most_total}
use Rattle.lzk_field.specs.Bytes.{number_from}
use Rattle.lzk_circuit.specs.declared.layer.Term.{Term}
use Rattle.lzk_circuit.specs.declared.layer.Layer.{Layer}
use Rattle.lzk_circuit.specs.Valid.{Under, above_inputs, above_layer}
use Rattle.lzk_circuit.specs.Faults.{are_apart}
use Rattle.lzk_circbytes.specs.declared.fault.ByteKind.{ByteKind}
use Rattle.lzk_circbytes.specs.declared.fault.ByteKind.TheVariants as kinds
use Rattle.lzk_circbytes.specs.Numbered.{Shape, is_coefficient, coefs_of}
use Rattle.lzk_circbytes.specs.Reading.{stands_behind, wire_before, as_before, as_last}
use Rattle.lzk_circbytes.specs.Files.{goldilocks, gf128, begins_with}
use Rattle.lzk_circuit_faults.specs.Fields.{Fields, field, varint, ends, items, must_be, then_check}

-- a count of four bytes, the lowest first, from low to high
unfoldable pub count_field : ℕ → ℕ → (ℕ → Fields) → Fields
count_field low high next =
    field 4 (λ f. must_be (nat_le low (from_le_bytes w32 f) && nat_le (from_le_bytes w32 f) high) kinds.Limit) (λ f.
    next (from_le_bytes w32 f))

-- a constant: above the one before it, and above 0, and below the field's size
unfoldable pub constant_field : Shape → ℕ → (ℕ → Fields) → Fields
constant_field shape before next =
    let fits : ℕ → Bool = λ n. nat_lt before n && nat_lt n shape.size in
    field shape.bytes (λ f. must_be (fits (number_from f)) kinds.Constant) (λ f.
    next (number_from f))

-- a varint that is a step from base to below limit; then one more check, of where it leads
unfoldable pub step_field : ℕ → ℕ → (ℕ → Option ByteKind) → (ℕ → Fields) → Fields
step_field base limit check next =
    varint (λ n. then_check (must_be (nat_lt (base + n) limit) kinds.Range) (check (base + n))) (λ n.
    next (base + n))

abbrev pub no_check : ℕ → Option ByteKind
no_check n = None

abbrev pub term : ℕ → ℕ → ℕ → ℕ → Term ℕ
term g a b coef = record { g = g; a = a; b = b; coef = coef }

-- A term of a layer of so many wires over one of so many. First the step of g from the term before, to below the wires.
-- Then a, and the step of b from a, to below the width below; with b the three stand behind those of the term before.
-- Last the number of its constant, by which an assertion term is alone on its wire.
unfoldable pub term_fields : List ℕ → ℕ → ℕ → Option (Term ℕ) → (Term ℕ → Fields) → Fields
term_fields coefs wires below before next =
    step_field (wire_before before) wires no_check (λ g.
    step_field 0 below no_check (λ a.
    step_field a below (λ b. must_be (stands_behind before g a b) kinds.Order) (λ b.
    let made : ℕ → Term ℕ = λ k. term g a b (slice_index coefs k) in
    step_field 0 (length coefs) (λ k. must_be (are_apart (λ n. n) before (made k)) kinds.Assertion) (λ k.
    next (made k)))))

-- whether a layer may have so many wires, with the running total
abbrev pub may_have : Under → ℕ → Bool
may_have under wires = nat_le 1 wires && (nat_le wires most_wires && nat_le (under.wires + wires) most_total)

-- A layer on those under it: its wires and its number of terms, with the running totals in their limits, and its terms.
unfoldable pub layer_fields : List ℕ → Under → (Layer ℕ → Fields) → Fields
layer_fields coefs under next =
    field 4 (λ f. must_be (may_have under (from_le_bytes w32 f)) kinds.Limit) (λ f.
    field 4 (λ h. must_be (nat_le (under.terms + from_le_bytes w32 h) most_total) kinds.Limit) (λ h.
    items as_before (term_fields coefs (from_le_bytes w32 f) under.width) (from_le_bytes w32 h) None (λ terms.
    next (record { wires = from_le_bytes w32 f; terms = terms }))))

-- where the first constant stands that no term uses, of constants that begin at this place
abbrev pub unused_place : ℕ → List (Layer ℕ) → List ℕ → ℕ → Option ℕ
unused_place width layers [] place = None
unused_place width layers (c ∷ cs) place =
    if is_coefficient layers c then unused_place width layers cs (place + width) else Some place

-- Constants from byte 21 on, and layers from the inputs up; then each constant is used.
unfoldable pub body_fields : Shape → ℕ → ℕ → ℕ → ℕ → Fields
body_fields shape version inputs depth count =
    items as_last (constant_field shape) count 0 (λ cs.
    items above_layer (layer_fields (coefs_of version cs)) depth (above_inputs inputs) (λ layers.
    ends (unused_place shape.bytes layers cs 21)))

-- what stands behind the field's byte: four counts and the rest
unfoldable pub counts_fields : Shape → ℕ → Fields
counts_fields shape version =
    count_field 0 most_publics (λ publics.
    count_field 0 most_privates (λ privates.
    count_field 1 most_layers (λ depth.
    count_field 0 most_total (λ count.
    body_fields shape version (1 + publics + privates) depth count))))

-- the field's byte, which is that of one of the two, and the rest
unfoldable pub field_fields : ℕ → Fields
field_fields version =
    field 1 (λ f. must_be (begins_with (field_byte ∷ []) f || begins_with (2 ∷ []) f) kinds.FieldId) (λ f.
    counts_fields (if begins_with (field_byte ∷ []) f then goldilocks else gf128) version)

-- `LZC1`, with the profile's letter
abbrev pub magic_1 : List ℕ
magic_1 = 76 ∷ file_letter ∷ 67 ∷ 49 ∷ []

-- `LZC2`, with the profile's letter
abbrev pub magic_2 : List ℕ
magic_2 = 76 ∷ file_letter ∷ 67 ∷ 50 ∷ []

-- the magic of one of the two versions, and the rest
unfoldable pub file_fields : Fields
file_fields =
    field 4 (λ f. must_be (begins_with magic_1 f || begins_with magic_2 f) kinds.Magic) (λ f.
    field_fields (if begins_with magic_1 f then 1 else 2))

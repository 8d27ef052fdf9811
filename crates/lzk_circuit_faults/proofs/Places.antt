-- A fault stands within the bytes.
use Rattle.std.proofs.Common.{◌≡◌, ℕ, zero, suc, ◌+◌, ◌≤◌, List, [], ◌∷◌, length, Option, Some, None, ap, subst, ◌∙◌, arith, inl, inr}
use Rattle.std.specs.Int.{w32, from_le_bytes}
use Rattle.std.proofs.lemmas.List.{length-append}
use Rattle.lzk_field.specs.Bytes.{number_from}
use Rattle.lzk_circuit.specs.declared.layer.Term.{Term}
use Rattle.lzk_circuit.specs.declared.layer.Layer.{Layer}
use Rattle.lzk_circuit.specs.Valid.{Under, above_inputs, above_layer}
use Rattle.lzk_circbytes.specs.declared.fault.ByteKind.{ByteKind}
use Rattle.lzk_circbytes.specs.Numbered.{Shape, is_coefficient, coefs_of}
use Rattle.lzk_circbytes.specs.Reading.{as_last, as_before}
use Rattle.lzk_circuit_faults.specs.Fields.{Fields, field, varint, ends, items, septets_number, FirstFault}
use Rattle.lzk_circuit_faults.specs.Circuits.{count_field, constant_field, step_field, term_fields, layer_fields, unused_place, body_fields, counts_fields, field_fields, file_fields}
use Rattle.lzk_circuit_faults.proofs.Ties.{by_bool}

-- a place that is named at the end is no later than the end
abbrev pub Within : Fields → ℕ → Type 0
Within (field width check next) here = (f : List ℕ) → Within (next f) (here + width)
Within (varint check next) here = (n m : ℕ) → Within (next n) (here + m)
Within (ends None) here = Unit {0}
Within (ends (Some place)) here = place ≤ here

pub within_bytes : (fields : Fields) (here : ℕ) (bytes : List ℕ) (offset : ℕ) (kind : ByteKind) → Within fields here → FirstFault fields here bytes offset kind → offset ≤ here + length bytes
within_bytes (field width check next) here bytes offset kind w (inl h) = omega (arith, h.0)
within_bytes (field width check next) here bytes offset kind w (inr (f, rest, are, long, inl h)) = omega (arith, h.0)
within_bytes (field width check next) here bytes offset kind w (inr (f, rest, are, long, inr h)) =
    omega (arith, within_bytes (next f) (here + width) rest offset kind (w f) h.1, ap length are, length-append f rest, long)
within_bytes (varint check next) here bytes offset kind w (inl h) = omega (arith, h.0)
within_bytes (varint check next) here bytes offset kind w (inr (high, last, rest, b, short, inl h)) = omega (arith, h.0)
within_bytes (varint check next) here bytes offset kind w (inr (high, last, rest, b, short, inr h)) =
    let n : ℕ = septets_number high last in
    let long : length bytes ≡ length high + length (last ∷ rest) = ap length b.are ∙ length-append high (last ∷ rest) in
    omega (arith, within_bytes (next n) (here + (length high + 1)) rest offset kind (w n (length high + 1)) h.1, long)
within_bytes (ends (Some place)) here bytes offset kind w h = omega (arith, w, h.0)
within_bytes (ends None) here bytes offset kind w h = omega (arith, h.0)

moved : (fields : Fields) (m n : ℕ) → m ≡ n → Within fields m → Within fields n
moved fields m n e w = subst (λ (k : ℕ). Within fields k) e w

abbrev widths : {A : Type 0} → ℕ → List A → ℕ
widths width [] = 0
widths width (x ∷ xs) = width + widths width xs

-- an item takes at least so many bytes
abbrev Takes : {A : Type 0} → ℕ → ((A → Fields) → Fields) → Type 0
Takes {A} least item = (k : A → Fields) (here : ℕ) → ((x : A) (more : ℕ) → Within (k x) (here + least + more)) → Within (item k) here

module _ {S A : Type 0} (least : ℕ) (next : S → A → S) (item : S → (A → Fields) → Fields) (each : (s : S) → Takes least (item s)) where
  items_take : (n : ℕ) (s : S) (k : List A → Fields) (here : ℕ) → ((xs : List A) (more : ℕ) → Within (k xs) (here + widths least xs + more)) → Within (items next item n s k) here
  items_take zero s k here w = moved (k []) (here + 0 + 0) here (omega arith) (w [] 0)
  items_take (suc n) s k here w =
      each s (λ x. items next item n (next s x) (λ xs. k (x ∷ xs))) here (λ x more.
      items_take n (next s x) (λ xs. k (x ∷ xs)) (here + least + more) (λ xs further.
      moved (k (x ∷ xs)) (here + (least + widths least xs) + (more + further)) (here + least + more + widths least xs + further) (omega arith) (w (x ∷ xs) (more + further))))

constant_takes : (shape : Shape) (before : ℕ) → Takes shape.bytes (constant_field shape before)
unfolding constant_field
constant_takes shape before k here w f = moved (k (number_from f)) (here + shape.bytes + 0) (here + shape.bytes) (omega arith) (w (number_from f) 0)

term_takes : (coefs : List ℕ) (wires below : ℕ) (before : Option (Term ℕ)) → Takes 0 (term_fields coefs wires below before)
unfolding term_fields step_field
term_takes coefs wires below before k here w g m a n b i c j = moved _ (here + 0 + (m + n + i + j)) (here + m + n + i + j) (omega arith) (w _ (m + n + i + j))

layer_takes : (coefs : List ℕ) (under : Under) → Takes 0 (layer_fields coefs under)
unfolding layer_fields
layer_takes coefs under k here w f h =
    items_take 0 as_before (term_fields coefs (from_le_bytes w32 f) under.width) (λ s. term_takes coefs (from_le_bytes w32 f) under.width s) (from_le_bytes w32 h) None
    (λ terms. k (record { wires = from_le_bytes w32 f; terms = terms })) (here + 4 + 4) (λ terms more.
    moved (k (record { wires = from_le_bytes w32 f; terms = terms })) (here + 0 + (8 + widths 0 terms + more)) (here + 4 + 4 + widths 0 terms + more) (omega arith)
    (w (record { wires = from_le_bytes w32 f; terms = terms }) (8 + widths 0 terms + more)))

unused_within : (width : ℕ) (layers : List (Layer ℕ)) (cs : List ℕ) (place here : ℕ) → place + widths width cs ≤ here → Within (ends (unused_place width layers cs place)) here
unused_within width layers [] place here le = tt
unused_within width layers (c ∷ cs) place here le =
    by_bool (is_coefficient layers c) (λ e. rw e (unused_within width layers cs (place + width) here (omega (arith, le)))) (λ e. rw e (omega (arith, le)))

body_within : (shape : Shape) (version inputs depth count here : ℕ) → 21 ≤ here → Within (body_fields shape version inputs depth count) here
unfolding body_fields
body_within shape version inputs depth count here le =
    items_take shape.bytes as_last (constant_field shape) (λ s. constant_takes shape s) count 0
    (λ cs. items above_layer (layer_fields (coefs_of version cs)) depth (above_inputs inputs) (λ layers. ends (unused_place shape.bytes layers cs 21))) here (λ cs more.
    items_take 0 above_layer (layer_fields (coefs_of version cs)) (λ s. layer_takes (coefs_of version cs) s) depth (above_inputs inputs)
    (λ layers. ends (unused_place shape.bytes layers cs 21)) (here + widths shape.bytes cs + more) (λ layers further.
    unused_within shape.bytes layers cs 21 (here + widths shape.bytes cs + more + widths 0 layers + further) (omega (arith, le))))

counts_within : (shape : Shape) (version : ℕ) → Within (counts_fields shape version) 5
unfolding counts_fields count_field
counts_within shape version f g h i =
    body_within shape version (1 + from_le_bytes w32 f + from_le_bytes w32 g) (from_le_bytes w32 h) (from_le_bytes w32 i) 21 (omega arith)

pub file_within : Within file_fields 0
unfolding file_fields field_fields
file_within f g = counts_within _ _

-- A fault leaves no more bytes than there were.
use Rattle.std.proofs.Common.{◌≡◌, ℕ, zero, suc, ◌+◌, ◌-◌, ◌*◌, ◌≤◌, Bool, true, false, cond, ltb, leb, eqb, ◌&&◌, List, [], ◌∷◌, length, take, drop, Option, Some, None, Result, Ok, Err, subst, arith, length-drop, slice_index}
use Rattle.std.specs.Int.{w32, from_le_bytes}
use Rattle.lzk_profile.specs.Profile.{file_letter}
use Rattle.lzk_goldilocks.specs.Prime.{field_byte}
use Rattle.lzk_circuit.specs.Limits.{most_publics, most_privates, most_layers, most_wires, most_total}
use Rattle.lzk_field.specs.Bytes.{number_from}
use Rattle.lzk_circuit.specs.declared.layer.Term.{Term}
use Rattle.lzk_circuit.specs.declared.layer.Layer.{Layer}
use Rattle.lzk_circuit.specs.Valid.{Under, above_layer}
use Rattle.lzk_circbytes.specs.declared.fault.ByteKind.{ByteKind}
use Rattle.lzk_circbytes.specs.declared.fault.ByteKind.TheVariants as kinds
use Rattle.lzk_circuit.specs.Faults.{are_apart}
use Rattle.lzk_circbytes.specs.Numbered.{Shape, is_coefficient, coefs_of}
use Rattle.lzk_circbytes.specs.Reading.{Stop, ◌>>=◌, stops, must, many, word_at, limited_at, septets_at, varint_at, step_at, constant_at, constants_at, as_last, stands_behind, wire_before, term_at, terms_at, as_before, layer_at, layers_at, unused_from, all_used, body_at, wiring_at}
use Rattle.lzk_circbytes.specs.Files.{goldilocks, gf128, begins_with, field_at, circuit_at}

-- at most n bytes are left, also at a fault
abbrev pub Stays : {A : Type 0} → ℕ → Result (A × List ℕ) Stop → Type 0
Stays n (Ok x) = length x.1 ≤ n
Stays n (Err e) = e.left ≤ n

abbrev pub Ends : {A : Type 0} → ℕ → Result A Stop → Type 0
Ends n (Ok x) = Unit {0}
Ends n (Err e) = e.left ≤ n

stays_then : {A B : Type 0} (n : ℕ) (r : Result (A × List ℕ) Stop) (f : A × List ℕ → Result (B × List ℕ) Stop) → Stays n r → ((x : A × List ℕ) → length x.1 ≤ n → Stays n (f x)) → Stays n (r >>= f)
stays_then n (Ok x) f h k = k x h
stays_then n (Err e) f h k = h

ends_then : {A B : Type 0} (n : ℕ) (r : Result (A × List ℕ) Stop) (f : A × List ℕ → Result B Stop) → Stays n r → ((x : A × List ℕ) → length x.1 ≤ n → Ends n (f x)) → Ends n (r >>= f)
ends_then n (Ok x) f h k = k x h
ends_then n (Err e) f h k = h

ends_with : {A B : Type 0} (n : ℕ) (r : Result A Stop) (f : A → Result B Stop) → Ends n r → ((x : A) → Ends n (f x)) → Ends n (r >>= f)
ends_with n (Ok x) f h k = k x
ends_with n (Err e) f h k = h

must_stays : {B : Type 0} (n : ℕ) (b : Bool) (kind : ByteKind) (bytes : List ℕ) (f : Unit {0} → Result (B × List ℕ) Stop) → length bytes ≤ n → Stays n (f tt) → Stays n (must b kind bytes >>= f)
must_stays n true kind bytes f h k = k
must_stays n false kind bytes f h k = h

must_ends : {B : Type 0} (n : ℕ) (b : Bool) (kind : ByteKind) (bytes : List ℕ) (f : Unit {0} → Result B Stop) → length bytes ≤ n → Ends n (f tt) → Ends n (must b kind bytes >>= f)
must_ends n true kind bytes f h k = k
must_ends n false kind bytes f h k = h

stays_if : {A : Type 0} (n : ℕ) (b : Bool) (x y : Result (A × List ℕ) Stop) → Stays n x → Stays n y → Stays n (cond b x y)
stays_if n true x y h k = h
stays_if n false x y h k = k

ends_if : {A : Type 0} (n : ℕ) (b : Bool) (x y : Result A Stop) → Ends n x → Ends n y → Ends n (cond b x y)
ends_if n true x y h k = h
ends_if n false x y h k = k

dropped : (k n : ℕ) (bytes : List ℕ) → length bytes ≤ n → length (drop k bytes) ≤ n
dropped k n bytes h = omega (arith, h, length-drop k bytes)

many_stays : {S A : Type 0} (next : S → A → S) (item : S → List ℕ → Result (A × List ℕ) Stop) → ((s : S) (bytes : List ℕ) (n : ℕ) → length bytes ≤ n → Stays n (item s bytes))
    → (k : ℕ) (s : S) (bytes : List ℕ) (n : ℕ) → length bytes ≤ n → Stays n (many next item k s bytes)
unfolding many
many_stays next item one zero s bytes n h = h
many_stays next item one (suc k) s bytes n h =
    stays_then n (item s bytes) _ (one s bytes n h) (λ x le. stays_then n (many next item k (next s x.0) x.1) _ (many_stays next item one k (next s x.0) x.1 n le) (λ xs less. less))

word_stays : (bytes : List ℕ) (n : ℕ) → length bytes ≤ n → Stays n (word_at bytes)
unfolding word_at
word_stays bytes n h = stays_if n (ltb (length bytes) 4) (stops kinds.Truncated bytes) (Ok (from_le_bytes w32 (take 4 bytes), drop 4 bytes)) h (dropped 4 n bytes h)

limited_stays : (low high : ℕ) (bytes : List ℕ) (n : ℕ) → length bytes ≤ n → Stays n (limited_at low high bytes)
unfolding limited_at
limited_stays low high bytes n h = stays_then n (word_at bytes) _ (word_stays bytes n h) (λ x le. stays_if n (leb low x.0 && leb x.0 high) (Ok x) (stops kinds.Limit bytes) le h)

septets_stays : (k : ℕ) (field bytes : List ℕ) (n : ℕ) → length field ≤ n → length bytes ≤ n → Stays n (septets_at k field bytes)
unfolding septets_at
septets_stays zero field bytes n f h = f
septets_stays (suc k) field [] n f h = f
septets_stays (suc k) field (b ∷ bytes) n f h =
    let le : length bytes ≤ n = omega (arith, h) in
    stays_if n (ltb b 128) (Ok (b, bytes)) _ le
    (stays_then n (septets_at k field bytes) _ (septets_stays k field bytes n f le)
    (λ x less. stays_if n (eqb x.0 0) (stops kinds.Varint field) (Ok (b - 128 + 128 * x.0, x.1)) f less))

varint_stays : (bytes : List ℕ) (n : ℕ) → length bytes ≤ n → Stays n (varint_at bytes)
unfolding varint_at
varint_stays bytes n h = stays_then n (septets_at 5 bytes bytes) _ (septets_stays 5 bytes bytes n h h) (λ x le. stays_if n (ltb x.0 4294967296) (Ok x) (stops kinds.Varint bytes) le h)

step_stays : (base limit : ℕ) (bytes : List ℕ) (n : ℕ) → length bytes ≤ n → Stays n (step_at base limit bytes)
unfolding step_at
step_stays base limit bytes n h = stays_then n (varint_at bytes) _ (varint_stays bytes n h) (λ x le. stays_if n (ltb (base + x.0) limit) (Ok (base + x.0, x.1)) (stops kinds.Range bytes) le h)

constant_stays : (shape : Shape) (before : ℕ) (bytes : List ℕ) (n : ℕ) → length bytes ≤ n → Stays n (constant_at shape before bytes)
unfolding constant_at
constant_stays shape before bytes n h =
    let k = number_from (take shape.bytes bytes) in
    stays_if n (ltb (length bytes) shape.bytes) (stops kinds.Truncated bytes) _ h
    (stays_if n (ltb before k && ltb k shape.size) (Ok (k, drop shape.bytes bytes)) (stops kinds.Constant bytes) (dropped shape.bytes n bytes h) h)

term_stays : (coefs : List ℕ) (wires below : ℕ) (before : Option (Term ℕ)) (bytes : List ℕ) (n : ℕ) → length bytes ≤ n → Stays n (term_at coefs wires below before bytes)
unfolding term_at
term_stays coefs wires below before bytes n h =
    stays_then n (step_at (wire_before before) wires bytes) _ (step_stays (wire_before before) wires bytes n h) (λ g hg.
    stays_then n (step_at 0 below g.1) _ (step_stays 0 below g.1 n hg) (λ a ha.
    stays_then n (step_at a.0 below a.1) _ (step_stays a.0 below a.1 n ha) (λ b hb.
    must_stays n (stands_behind before g.0 a.0 b.0) kinds.Order a.1 _ ha
    (stays_then n (step_at 0 (length coefs) b.1) _ (step_stays 0 (length coefs) b.1 n hb)
    (λ k hk. must_stays n (are_apart (λ n. n) before (record { g = g.0; a = a.0; b = b.0; coef = slice_index coefs k.0 })) kinds.Assertion b.1 _ hb hk)))))

layer_stays : (coefs : List ℕ) (under : Under) (bytes : List ℕ) (n : ℕ) → length bytes ≤ n → Stays n (layer_at coefs under bytes)
unfolding layer_at
layer_stays coefs under bytes n h =
    stays_then n (word_at bytes) _ (word_stays bytes n h) (λ wires hw.
    must_stays n (leb 1 wires.0 && (leb wires.0 most_wires && leb (under.wires + wires.0) most_total)) kinds.Limit bytes _ h
    (stays_then n (word_at wires.1) _ (word_stays wires.1 n hw) (λ count hc.
    must_stays n (leb (under.terms + count.0) most_total) kinds.Limit wires.1 _ hw
    (stays_then n (terms_at coefs wires.0 under.width count.0 count.1) _ (many_stays as_before (term_at coefs wires.0 under.width) (term_stays coefs wires.0 under.width) count.0 None count.1 n hc) (λ ts ht. ht)))))

unused_ends : (width : ℕ) (layers : List (Layer ℕ)) (cs bytes : List ℕ) (n : ℕ) → length bytes ≤ n → Ends n (all_used (unused_from width layers cs bytes))
unused_ends width layers [] bytes n h = tt
unused_ends width layers (c ∷ cs) bytes n h = by_use (is_coefficient layers c) (unused_ends width layers cs (drop width bytes) n (dropped width n bytes h))
  where
    by_use : (b : Bool) → Ends n (all_used (unused_from width layers cs (drop width bytes))) → Ends n (all_used (cond b (unused_from width layers cs (drop width bytes)) (Some bytes)))
    by_use true k = k
    by_use false k = h

body_ends : (shape : Shape) (version inputs depth count : ℕ) (bytes : List ℕ) (n : ℕ) → length bytes ≤ n → Ends n (body_at shape version inputs depth count bytes)
unfolding body_at
body_ends shape version inputs depth count bytes n h =
    ends_then n (constants_at shape count bytes) _ (many_stays as_last (constant_at shape) (constant_stays shape) count 0 bytes n h) (λ cs hc.
    ends_then n (layers_at (coefs_of version cs.0) inputs depth cs.1) _ (many_stays above_layer (layer_at (coefs_of version cs.0)) (layer_stays (coefs_of version cs.0)) depth (record { width = inputs; wires = 0; terms = 0 }) cs.1 n hc) (λ layers hl.
    ends_with n (all_used (unused_from shape.bytes layers.0 cs.0 bytes)) _ (unused_ends shape.bytes layers.0 cs.0 bytes n h) (λ u.
    must_ends n (eqb (length layers.1) 0) kinds.Trailing layers.1 _ hl tt)))

wiring_ends : (shape : Shape) (version : ℕ) (bytes : List ℕ) (n : ℕ) → length bytes ≤ n → Ends n (wiring_at shape version bytes)
unfolding wiring_at
wiring_ends shape version bytes n h =
    ends_then n (limited_at 0 most_publics bytes) _ (limited_stays 0 most_publics bytes n h) (λ publics h1.
    ends_then n (limited_at 0 most_privates publics.1) _ (limited_stays 0 most_privates publics.1 n h1) (λ privates h2.
    ends_then n (limited_at 1 most_layers privates.1) _ (limited_stays 1 most_layers privates.1 n h2) (λ depth h3.
    ends_then n (limited_at 0 most_total depth.1) _ (limited_stays 0 most_total depth.1 n h3) (λ count h4.
    ends_with n (body_at shape version (1 + publics.0 + privates.0) depth.0 count.0 count.1) _ (body_ends shape version (1 + publics.0 + privates.0) depth.0 count.0 count.1 n h4) (λ layers. tt)))))

field_ends : (version : ℕ) (bytes : List ℕ) (n : ℕ) → length bytes ≤ n → Ends n (field_at version bytes)
field_ends version [] n h = h
field_ends version (id ∷ bytes) n h =
    let le : length bytes ≤ n = omega (arith, h) in
    ends_if n (eqb id field_byte) _ _ (ends_with n (wiring_at goldilocks version bytes) _ (wiring_ends goldilocks version bytes n le) (λ c. tt))
    (ends_if n (eqb id 2) _ (stops kinds.FieldId (id ∷ bytes)) (ends_with n (wiring_at gf128 version bytes) _ (wiring_ends gf128 version bytes n le) (λ c. tt)) h)

pub circuit_ends : (bytes : List ℕ) → Ends (length bytes) (circuit_at bytes)
unfolding circuit_at
circuit_ends bytes =
    let all : length bytes ≤ length bytes = omega arith in
    ends_if (length bytes) (ltb (length bytes) 4) (stops kinds.Truncated bytes) _ all
    (ends_if (length bytes) (begins_with (76 ∷ file_letter ∷ 67 ∷ 49 ∷ []) bytes) (field_at 1 (drop 4 bytes)) _ (field_ends 1 (drop 4 bytes) (length bytes) (dropped 4 (length bytes) bytes all))
    (ends_if (length bytes) (begins_with (76 ∷ file_letter ∷ 67 ∷ 50 ∷ []) bytes) (field_at 2 (drop 4 bytes)) (stops kinds.Magic bytes) (field_ends 2 (drop 4 bytes) (length bytes) (dropped 4 (length bytes) bytes all)) all))

pub fault_within : (bytes : List ℕ) (e : Stop) → circuit_at bytes ≡ Err e → e.left ≤ length bytes
fault_within bytes e h = subst (λ (r : Result _ Stop). Ends (length bytes) r) h (circuit_ends bytes)

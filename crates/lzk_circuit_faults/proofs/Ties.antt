-- Reading the fields of a circuit's file, and the file's reader.
use Rattle.std.proofs.Common.{◌≡◌, ℕ, zero, suc, ◌+◌, ◌-◌, Bool, true, false, ltb, eqb, ◌&&◌, List, [], ◌∷◌, length, take, drop, Option, None, Result, Ok, Err, refl, sym, ap, subst, ◌∙◌, arith}
use Rattle.std.specs.Prelude.{nat_le, reverse, slice_index}
use Rattle.std.specs.Int.{w32, from_le_bytes}
use Rattle.std.proofs.lemmas.Bool.{le-ltb, eqb-true, eqb-false, ne_eqb}
use Rattle.std.proofs.lemmas.List.{length-drop}
use Rattle.lzk_profile.specs.Profile.{file_letter}
use Rattle.lzk_goldilocks.specs.Prime.{field_byte}
use Rattle.lzk_circuit.specs.Limits.{most_publics, most_privates, most_layers, most_wires, most_total}
use Rattle.lzk_field.specs.Bytes.{number_from}
use Rattle.lzk_circuit.specs.declared.layer.Term.{Term}
use Rattle.lzk_circuit.specs.declared.layer.Layer.{Layer}
use Rattle.lzk_circuit.specs.Valid.{Under, above_inputs, above_layer, Wiring, wiring_of}
use Rattle.lzk_circuit.specs.Faults.{are_apart}
use Rattle.lzk_circbytes.specs.declared.fault.ByteKind.{ByteKind}
use Rattle.lzk_circbytes.specs.declared.fault.ByteKind.TheVariants as kinds
use Rattle.lzk_circbytes.specs.Numbered.{Shape, is_coefficient, coefs_of}
use Rattle.lzk_circbytes.specs.Reading.{Stop, ◌>>=◌, must, many, word_at, limited_at, varint_at, step_at, constant_at, constants_at, as_last, as_before, stands_behind, wire_before, term_at, terms_at, layer_at, layers_at, unused_from, all_used, body_at, wiring_at}
use Rattle.lzk_circbytes.specs.Files.{goldilocks, gf128, begins_with, field_at, circuit_at}
use Rattle.lzk_circuit_faults.specs.Fields.{Fields, ends, items}
use Rattle.lzk_circuit_faults.specs.Circuits.{count_field, constant_field, step_field, term, term_fields, layer_fields, unused_place, body_fields, counts_fields, field_fields, file_fields}
use Rattle.lzk_circuit_faults.proofs.Runs.{Run, stop_at, judged, at_end, run}

-- whether a reader stops, and where
abbrev pub void : {A : Type 0} → Result A Stop → Run
void (Ok x) = Ok tt
void (Err e) = Err e

pub by_bool : {G : Type 0} (b : Bool) → (b ≡ true → G) → (b ≡ false → G) → G
by_bool true f g = f refl
by_bool false f g = g refl

pub by_result : {A G : Type 0} (r : Result A Stop) → ((x : A) → r ≡ Ok x → G) → ((e : Stop) → r ≡ Err e → G) → G
by_result (Ok x) f g = f x refl
by_result (Err e) f g = g e refl

module _ (total : ℕ) where
  -- what a reader gives is what stands there, and what follows goes on with it
  abbrev Reads : {A : Type 0} → ((A → Fields) → Fields) → (List ℕ → Result (A × List ℕ) Stop) → Type 0
  Reads {A} item reader = (k : A → Fields) (bytes : List ℕ) → run total (item k) bytes ≡ (reader bytes >>= λ x. run total (k x.0) x.1)

  mapped : {A B : Type 0} (r : Result (A × List ℕ) Stop) (f : A → B) (k : B → Fields)
      → (r >>= λ x. run total (k (f x.0)) x.1) ≡ ((r >>= λ x. Ok (f x.0, x.1)) >>= λ (y : B × List ℕ). run total (k y.0) y.1)
  mapped (Ok x) f k = refl
  mapped (Err e) f k = refl

  constant_reads : (shape : Shape) (before : ℕ) → Reads (constant_field shape before) (constant_at shape before)
  unfolding run constant_field constant_at
  constant_reads shape before k bytes =
      let n : ℕ = number_from (take shape.bytes bytes) in
      by_bool (ltb (length bytes) shape.bytes) (λ e. rw e refl) (λ e. by_bool (ltb before n && ltb n shape.size) (λ h. rw (e, h) refl) (λ h. rw (e, h) refl))

  step_reads : (base limit : ℕ) (check : ℕ → Option ByteKind) (k : ℕ → Fields) (bytes : List ℕ)
      → run total (step_field base limit check k) bytes ≡ (step_at base limit bytes >>= λ x. judged (check x.0) bytes (run total (k x.0) x.1))
  unfolding run step_field step_at
  step_reads base limit check k bytes =
      by_result (varint_at bytes) (λ n e. by_bool (ltb (base + n.0) limit) (λ h. rw (e, h) refl) (λ h. rw (e, h) refl)) (λ stop e. rw e refl)

  module _ {S A : Type 0} (next : S → A → S) (item : S → (A → Fields) → Fields) (reader : S → List ℕ → Result (A × List ℕ) Stop) (each : (s : S) → Reads (item s) (reader s)) where
    one_more : (n : ℕ) (s : S) (k : List A → Fields) → ((x : A × List ℕ) → run total (items next item n (next s x.0) (λ xs. k (x.0 ∷ xs))) x.1 ≡ (many next reader n (next s x.0) x.1 >>= λ xs. run total (k (x.0 ∷ xs.0)) xs.1))
        → (r : Result (A × List ℕ) Stop)
        → (r >>= λ x. run total (items next item n (next s x.0) (λ xs. k (x.0 ∷ xs))) x.1)
        ≡ ((r >>= λ x. (many next reader n (next s x.0) x.1 >>= λ xs. Ok (x.0 ∷ xs.0, xs.1))) >>= λ (y : List A × List ℕ). run total (k y.0) y.1)
    one_more n s k later (Err e) = refl
    one_more n s k later (Ok x) = later x ∙ mapped (many next reader n (next s x.0) x.1) (λ xs. x.0 ∷ xs) k

    items_read : (n : ℕ) (s : S) → Reads (items next item n s) (many next reader n s)
    unfolding many
    items_read zero s k bytes = refl
    items_read (suc n) s k bytes =
        each s (λ x. items next item n (next s x) (λ xs. k (x ∷ xs))) bytes ∙ one_more n s k (λ x. items_read n (next s x.0) (λ xs. k (x.0 ∷ xs)) x.1) (reader s bytes)

  -- ---- a term

  module _ (coefs : List ℕ) (wires below : ℕ) (before : Option (Term ℕ)) where
    term_reads : Reads (term_fields coefs wires below before) (term_at coefs wires below before)
    unfolding run term_fields step_field term_at step_at
    term_reads k bytes =
        by_result (varint_at bytes) (λ g g_is.
        by_bool (ltb (wire_before before + g.0) wires) (λ g_low.
        by_result (varint_at g.1) (λ a a_is.
        by_bool (ltb (0 + a.0) below) (λ a_low.
        by_result (varint_at a.1) (λ b b_is.
        by_bool (ltb (0 + a.0 + b.0) below) (λ b_low.
        by_bool (stands_behind before (wire_before before + g.0) (0 + a.0) (0 + a.0 + b.0)) (λ behind.
        by_result (varint_at b.1) (λ c c_is.
        by_bool (ltb (0 + c.0) (length coefs)) (λ c_low.
        by_bool (are_apart (λ n. n) before (term (wire_before before + g.0) (0 + a.0) (0 + a.0 + b.0) (slice_index coefs (0 + c.0))))
        (λ apart. rw (g_is, g_low, a_is, a_low, b_is, b_low, behind, c_is, c_low, apart) refl)
        (λ apart. rw (g_is, g_low, a_is, a_low, b_is, b_low, behind, c_is, c_low, apart) refl))
        (λ c_low. rw (g_is, g_low, a_is, a_low, b_is, b_low, behind, c_is, c_low) refl))
        (λ e c_is. rw (g_is, g_low, a_is, a_low, b_is, b_low, behind, c_is) refl))
        (λ behind. rw (g_is, g_low, a_is, a_low, b_is, b_low, behind) refl))
        (λ b_low. rw (g_is, g_low, a_is, a_low, b_is, b_low) refl))
        (λ e b_is. rw (g_is, g_low, a_is, a_low, b_is) refl))
        (λ a_low. rw (g_is, g_low, a_is, a_low) refl))
        (λ e a_is. rw (g_is, g_low, a_is) refl))
        (λ g_low. rw (g_is, g_low) refl))
        (λ e g_is. rw g_is refl)

  -- ---- a layer

  module _ (coefs : List ℕ) (under : Under) where
    layer_reads : Reads (layer_fields coefs under) (layer_at coefs under)
    unfolding run layer_fields layer_at word_at
    layer_reads k bytes =
        let w : ℕ = from_le_bytes w32 (take 4 bytes) in
        let later : List ℕ = drop 4 bytes in
        let n : ℕ = from_le_bytes w32 (take 4 later) in
        let made : List (Term ℕ) → Layer ℕ = λ terms. record { wires = w; terms = terms } in
        by_bool (ltb (length bytes) 4) (λ e. rw e refl) (λ e.
        by_bool (nat_le 1 w && (nat_le w most_wires && nat_le (under.wires + w) most_total)) (λ h.
        by_bool (ltb (length later) 4) (λ f. rw (e, h, f) refl) (λ f.
        by_bool (nat_le (under.terms + n) most_total)
        (λ i. rw (e, h, f, i) (
        items_read as_before (term_fields coefs w under.width) (term_at coefs w under.width) (λ s. term_reads coefs w under.width s) n None (λ terms. k (made terms)) (drop 4 later)
        ∙ mapped (terms_at coefs w under.width n (drop 4 later)) made k
        ))
        (λ i. rw (e, h, f, i) refl)))
        (λ h. rw (e, h) refl))

  -- ---- behind the layers

  unused_same : (width : ℕ) (layers : List (Layer ℕ)) (rest cs bytes : List ℕ) (place : ℕ) → length bytes ≡ total - place
      → at_end total (unused_place width layers cs place) rest
      ≡ void (all_used (unused_from width layers cs bytes) >>= λ _. (must (eqb (length rest) 0) kinds.Trailing rest >>= λ _. Ok layers))
  unused_same width layers rest [] bytes place e = by_bool (eqb (length rest) 0) (λ h. rw h refl) (λ h. rw h refl)
  unused_same width layers rest (c ∷ cs) bytes place e =
      by_bool (is_coefficient layers c)
      (λ h. rw h (unused_same width layers rest cs (drop width bytes) (place + width) (omega (arith, length-drop width bytes, e))))
      (λ h. rw h (ap (λ (n : ℕ). stop_at n kinds.Constant) (sym e)))

  ends_there : (place : Option ℕ) (rest : List ℕ) → run total (ends place) rest ≡ at_end total place rest
  unfolding run
  ends_there place rest = refl

  module _ (shape : Shape) (version inputs depth count : ℕ) (bytes : List ℕ) (long : length bytes ≡ total - 21) where
    abbrev end_of : List ℕ → List (Layer ℕ) → Fields
    end_of cs layers = ends (unused_place shape.bytes layers cs 21)

    layers_same : (cs rest : List ℕ) (r : Result (List (Layer ℕ) × List ℕ) Stop)
        → (r >>= λ x. run total (end_of cs x.0) x.1)
        ≡ void (r >>= λ x. (all_used (unused_from shape.bytes x.0 cs bytes) >>= λ _. (must (eqb (length x.1) 0) kinds.Trailing x.1 >>= λ _. Ok x.0)))
    layers_same cs rest (Err e) = refl
    layers_same cs rest (Ok x) = ends_there (unused_place shape.bytes x.0 cs 21) x.1 ∙ unused_same shape.bytes x.0 x.1 cs bytes 21 long

    constants_same : (r : Result (List ℕ × List ℕ) Stop)
        → (r >>= λ cs. run total (items above_layer (layer_fields (coefs_of version cs.0)) depth (above_inputs inputs) (end_of cs.0)) cs.1)
        ≡ void (r >>= λ cs. (layers_at (coefs_of version cs.0) inputs depth cs.1
        >>= λ x. (all_used (unused_from shape.bytes x.0 cs.0 bytes) >>= λ _. (must (eqb (length x.1) 0) kinds.Trailing x.1 >>= λ _. Ok x.0))))
    constants_same (Err e) = refl
    constants_same (Ok cs) =
        let coefs : List ℕ = coefs_of version cs.0 in
        items_read above_layer (layer_fields coefs) (layer_at coefs) (λ under. layer_reads coefs under) depth (above_inputs inputs) (end_of cs.0) cs.1
        ∙ layers_same cs.0 cs.1 (layers_at coefs inputs depth cs.1)

    body_same : run total (body_fields shape version inputs depth count) bytes ≡ void (body_at shape version inputs depth count bytes)
    unfolding body_fields body_at
    body_same =
        items_read as_last (constant_field shape) (constant_at shape) (λ before. constant_reads shape before) count 0
        (λ cs. items above_layer (layer_fields (coefs_of version cs)) depth (above_inputs inputs) (end_of cs)) bytes
        ∙ constants_same (constants_at shape count bytes)

  -- ---- behind the field's byte

  mapped_void : {A B : Type 0} (r : Result A Stop) (f : A → B) → void r ≡ void (r >>= λ x. Ok (f x))
  mapped_void (Ok x) f = refl
  mapped_void (Err e) f = refl

  count_then : {A : Type 0} (low high : ℕ) (k : ℕ → Fields) (reader : ℕ × List ℕ → Result A Stop) (bytes : List ℕ) → ((n : ℕ) → run total (k n) (drop 4 bytes) ≡ void (reader (n, drop 4 bytes)))
      → run total (count_field low high k) bytes ≡ void (limited_at low high bytes >>= reader)
  unfolding run count_field limited_at word_at
  count_then low high k reader bytes later =
      let n : ℕ = from_le_bytes w32 (take 4 bytes) in
      by_bool (ltb (length bytes) 4) (λ e. rw e refl) (λ e.
      by_bool (nat_le low n && nat_le n high) (λ h. rw (e, h) (later n)) (λ h. rw (e, h) refl))

  module _ (shape : Shape) (version : ℕ) where
    abbrev end_at : ℕ → ℕ → ℕ → ℕ × List ℕ → Result (Wiring ℕ) Stop
    end_at publics privates depth count =
        body_at shape version (1 + publics + privates) depth count.0 count.1 >>= λ layers. Ok (wiring_of version publics privates (reverse layers))

    abbrev count_at : ℕ → ℕ → ℕ × List ℕ → Result (Wiring ℕ) Stop
    count_at publics privates depth = limited_at 0 most_total depth.1 >>= end_at publics privates depth.0

    abbrev depth_at : ℕ → ℕ × List ℕ → Result (Wiring ℕ) Stop
    depth_at publics privates = limited_at 1 most_layers privates.1 >>= count_at publics privates.0

    abbrev privates_at : ℕ × List ℕ → Result (Wiring ℕ) Stop
    privates_at publics = limited_at 0 most_privates publics.1 >>= depth_at publics.0

    counts_same : (bytes : List ℕ) → length bytes ≡ total - 5 → run total (counts_fields shape version) bytes ≡ void (wiring_at shape version bytes)
    unfolding counts_fields wiring_at
    counts_same bytes long =
        let b : List ℕ = drop 4 bytes in
        let c : List ℕ = drop 4 b in
        let d : List ℕ = drop 4 c in
        let e : List ℕ = drop 4 d in
        let left : length e ≡ total - 21 = omega (arith, long, length-drop 4 bytes, length-drop 4 b, length-drop 4 c, length-drop 4 d) in
        let depths : ℕ → ℕ → ℕ → Fields = λ publics privates depth. count_field 0 most_total (λ count. body_fields shape version (1 + publics + privates) depth count) in
        let privates_then : ℕ → ℕ → Fields = λ publics privates. count_field 1 most_layers (depths publics privates) in
        let publics_then : ℕ → Fields = λ publics. count_field 0 most_privates (privates_then publics) in
        count_then 0 most_publics publics_then privates_at bytes (λ publics.
        count_then 0 most_privates (privates_then publics) (depth_at publics) b (λ privates.
        count_then 1 most_layers (depths publics privates) (count_at publics privates) c (λ depth.
        count_then 0 most_total (λ count. body_fields shape version (1 + publics + privates) depth count) (end_at publics privates depth) d (λ count.
        body_same shape version (1 + publics + privates) depth count e left
        ∙ mapped_void (body_at shape version (1 + publics + privates) depth count e) (λ layers. wiring_of version publics privates (reverse layers))))))

  -- ---- a whole file

  other_number : (m n : ℕ) → eqb m n ≡ false → eqb n m ≡ false
  other_number m n e = ne_eqb n m (λ same. eqb-false m n e (sym same))

  module _ (version : ℕ) (rest : List ℕ) (long : length rest ≡ total - 5) where
    field_one : run total (field_fields version) (field_byte ∷ rest) ≡ void (field_at version (field_byte ∷ rest))
    unfolding run field_fields
    field_one =
        let some : ltb (length (field_byte ∷ rest)) 1 ≡ false = le-ltb (length (field_byte ∷ rest)) 1 (omega arith) in
        rw some (counts_same goldilocks version rest long ∙ mapped_void (wiring_at goldilocks version rest) (λ c. (field_byte, c)))

    field_two : run total (field_fields version) (2 ∷ rest) ≡ void (field_at version (2 ∷ rest))
    unfolding run field_fields
    field_two =
        let some : ltb (length (2 ∷ rest)) 1 ≡ false = le-ltb (length (2 ∷ rest)) 1 (omega arith) in
        rw some (counts_same gf128 version rest long ∙ mapped_void (wiring_at gf128 version rest) (λ c. (2, c)))

    no_field : (id : ℕ) → eqb id field_byte ≡ false → eqb id 2 ≡ false → run total (field_fields version) (id ∷ rest) ≡ void (field_at version (id ∷ rest))
    unfolding run field_fields
    no_field id one two =
        let some : ltb (length (id ∷ rest)) 1 ≡ false = le-ltb (length (id ∷ rest)) 1 (omega arith) in
        rw (some, one, two, other_number id field_byte one, other_number id 2 two) refl

  no_byte : (version : ℕ) → run total (field_fields version) [] ≡ void (field_at version [])
  unfolding run field_fields
  no_byte version = refl

  field_same : (version : ℕ) (bytes : List ℕ) → length bytes ≡ total - 4 → run total (field_fields version) bytes ≡ void (field_at version bytes)
  field_same version [] long = no_byte version
  field_same version (id ∷ rest) long =
      let left : length rest ≡ total - 5 = omega (arith, long) in
      let Same : ℕ → Type 0 = λ i. run total (field_fields version) (i ∷ rest) ≡ void (field_at version (i ∷ rest)) in
      by_bool (eqb id field_byte) (λ e. subst Same (sym (eqb-true id field_byte e)) (field_one version rest left)) (λ e.
      by_bool (eqb id 2) (λ f. subst Same (sym (eqb-true id 2 f)) (field_two version rest left)) (λ f. no_field version rest left id e f))

  begins_take : (xs bytes : List ℕ) → begins_with xs (take (length xs) bytes) ≡ begins_with xs bytes
  begins_take [] bytes = refl
  begins_take (x ∷ xs) [] = refl
  begins_take (x ∷ xs) (b ∷ bytes) = ap (λ (t : Bool). eqb x b && t) (begins_take xs bytes)

  pub file_same : (bytes : List ℕ) → length bytes ≡ total → run total file_fields bytes ≡ void (circuit_at bytes)
  unfolding run file_fields circuit_at
  file_same bytes long =
      let left : length (drop 4 bytes) ≡ total - 4 = omega (arith, length-drop 4 bytes, long) in
      let first = begins_take (76 ∷ file_letter ∷ 67 ∷ 49 ∷ []) bytes in
      let second = begins_take (76 ∷ file_letter ∷ 67 ∷ 50 ∷ []) bytes in
      by_bool (ltb (length bytes) 4) (λ e. rw e refl) (λ e.
      by_bool (begins_with (76 ∷ file_letter ∷ 67 ∷ 49 ∷ []) bytes) (λ f. rw (e, f, first ∙ f) (field_same 1 (drop 4 bytes) left)) (λ f.
      by_bool (begins_with (76 ∷ file_letter ∷ 67 ∷ 50 ∷ []) bytes) (λ g. rw (e, f, first ∙ f, g, second ∙ g) (field_same 2 (drop 4 bytes) left))
      (λ g. rw (e, f, first ∙ f, g, second ∙ g) refl)))

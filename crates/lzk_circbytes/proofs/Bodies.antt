-- What stands behind the counts, as it is read.
use Rattle.std.proofs.Common.{◌≡◌, ℕ, zero, suc, ◌+◌, ◌*◌, ◌<◌, ◌≤◌, cond, Bool, true, false, eqb, ◌||◌, List, [], ◌∷◌, ◌++◌, Option, None, Some, Result, length, get_or, map, reverse, Ok, refl, sym, ap, subst, ◌∙◌, arith, length-append, take, drop, Fits, w8}
use Rattle.std.specs.Prelude.{replicate, slice_index}
use Rattle.std.specs.List.Sorted.{IsStrictlyIncreasing}
use Rattle.std.proofs.lemmas.List.{get_or-replicate, length-drop, nil_from_length, take_all, append-nil}
use Rattle.lzk_circuit.specs.Limits.{most_publics, most_privates, most_layers, most_total}
use Rattle.lzk_field.specs.Bytes.{bytes_of}
use Rattle.lzk_field.proofs.ByteForms.{length-bytes_of}
use Rattle.lzk_circuit.specs.declared.layer.Layer.{Layer}
use Rattle.lzk_circuit.specs.Valid.{wiring_of}
use Rattle.lzk_circbytes.specs.declared.fault.ByteKind.TheVariants.{Trailing}
use Rattle.lzk_circbytes.specs.declared.fault.ReadError.{ReadError}
use Rattle.lzk_circbytes.specs.declared.fault.ReadError.TheVariants as errors
use Rattle.lzk_circbytes.specs.Numbered.{Shape, numbered_layer, numbered, is_coefficient, coefs_of, zeros_of}
use Rattle.lzk_circbytes.specs.Reading.{Stop, ◌>>=◌, must, as_last, constants_at, layers_at, unused_from, all_used, limited_at, body_at, wiring_at}
use Rattle.lzk_circbytes.specs.Spelling.{spells, constants_bytes}
use Rattle.lzk_circbytes.specs.Answers.{Fails, Marks, unmarked_from, end_at}
use Rattle.lzk_circbytes.proofs.Steps.{IsBytes}
use Rattle.lzk_circbytes.proofs.Fields.{constants_take}
use Rattle.lzk_circbytes.proofs.Ascending.{Above, increasing-from_Above}
use Rattle.lzk_circbytes.proofs.Validity.{Above-constants}
use Rattle.lzk_circbytes.proofs.Marking.{unmarked_is}
use Rattle.lzk_circbytes.proofs.FileLaws.{map-reverse}

pub length-constants : (shape : Shape) (before : ℕ) (cs : List ℕ) → length (spells as_last (λ b c. bytes_of shape.bytes c) before cs) ≡ length cs * shape.bytes
unfolding spells
length-constants shape before [] = (let z : 0 ≡ 0 * shape.bytes = grind arith in z)
length-constants shape before (c ∷ cs) =
    let k : length (bytes_of shape.bytes c) ≡ shape.bytes = length-bytes_of shape.bytes c in
    let ih = length-constants shape c cs in
    length-append (bytes_of shape.bytes c) (spells as_last (λ b x. bytes_of shape.bytes x) c cs) ∙ (let m : length (bytes_of shape.bytes c) + length (spells as_last (λ b x. bytes_of shape.bytes x) c cs) ≡ suc (length cs) * shape.bytes = grind (arith, k, ih) in m)

pub record Constants (shape : Shape) (count : ℕ) (bytes cs : List ℕ) : Type 0 where
  pub many : length cs ≡ count
  pub above : Above 0 cs
  pub room : length cs * shape.bytes ≤ length bytes

pub constants_are : (shape : Shape) (count : ℕ) (bytes cs rest : List ℕ) → IsBytes bytes → constants_at shape count bytes ≡ Ok (cs, rest) → Constants shape count bytes cs
unfolding constants_bytes
constants_are shape count bytes cs rest fits e =
    let t = constants_take shape count bytes (cs, rest) fits e in
    let sum = length-append (constants_bytes shape cs) rest in
    record {
      many = t.1;
      above = Above-constants shape 0 cs t.2;
      room = omega (arith, ap length t.0.parts, sum, length-constants shape 0 cs);
    }

-- flags that were all false before, after the layers were read; the first of them is that of zero in version 2
flags_all : (shape : Shape) (layers : List (Layer ℕ)) (numbers : List ℕ) (old new : List Bool) (bytes : List ℕ) → old ≡ replicate (length numbers) false → length new ≡ length numbers
    → Marks numbers (is_coefficient layers) old new → unmarked_from shape.bytes new bytes ≡ unused_from shape.bytes layers numbers bytes
flags_all shape layers numbers old new bytes none len marks =
    unmarked_is shape.bytes layers numbers new bytes len
    (λ i lt. marks i lt ∙ ap (λ b. b || is_coefficient layers (slice_index numbers i)) (ap (λ us. get_or us i false) none ∙ get_or-replicate (length numbers) i false false lt))

flags_behind : (shape : Shape) (layers : List (Layer ℕ)) (numbers : List ℕ) (old new : List Bool) (bytes : List ℕ) → old ≡ replicate (suc (length numbers)) false → length new ≡ suc (length numbers)
    → Marks (0 ∷ numbers) (is_coefficient layers) old new → unmarked_from shape.bytes (drop 1 new) bytes ≡ unused_from shape.bytes layers numbers bytes
flags_behind shape layers numbers old [] bytes none len marks = absurd (omega (arith, len))
flags_behind shape layers numbers old (u ∷ us) bytes none len marks =
    unmarked_is shape.bytes layers numbers us bytes (omega (arith, len))
    (λ i lt. marks (suc i) (omega (arith, lt)) ∙ ap (λ b. b || is_coefficient layers (slice_index numbers i)) (ap (λ vs. get_or vs (suc i) false) none ∙ get_or-replicate (length numbers) i false false lt))

pub flags_are : (shape : Shape) (version : ℕ) (layers : List (Layer ℕ)) (cs : List ℕ) (old new : List Bool) (bytes : List ℕ) → old ≡ replicate (length (coefs_of version cs)) false
    → length new ≡ length (coefs_of version cs) → Marks (coefs_of version cs) (is_coefficient layers) old new
    → unmarked_from shape.bytes (drop (zeros_of version) new) bytes ≡ unused_from shape.bytes layers cs bytes
flags_are shape version layers cs old new bytes = go (eqb version 2)
  where
    go : (b : Bool) → old ≡ replicate (length (cond b (0 ∷ cs) cs)) false → length new ≡ length (cond b (0 ∷ cs) cs) → Marks (cond b (0 ∷ cs) cs) (is_coefficient layers) old new
        → unmarked_from shape.bytes (drop (cond b 1 0) new) bytes ≡ unused_from shape.bytes layers cs bytes
    go true none len marks = flags_behind shape layers cs old new bytes none len marks
    go false none len marks = flags_all shape layers cs old new bytes none len marks

module _ (shape : Shape) (version inputs depth count : ℕ) (bytes cs r1 r2 : List ℕ) (layers : List (Layer ℕ)) (at_cs : constants_at shape count bytes ≡ Ok (cs, r1)) (at_layers : layers_at (coefs_of version cs) inputs depth r1 ≡ Ok (layers, r2)) where
  body_is : body_at shape version inputs depth count bytes ≡ (end_at (unused_from shape.bytes layers cs bytes) r2 >>= λ _. Ok layers)
  unfolding body_at
  body_is = rw (at_cs, at_layers) (go (unused_from shape.bytes layers cs bytes) (must (eqb (length r2) 0) Trailing r2))
    where
      go : (unused : Option (List ℕ)) (last : Result (Unit {0}) Stop) → ◌≡◌ {A = Result (List (Layer ℕ)) Stop} (all_used unused >>= λ _. last >>= λ _. Ok layers) ((all_used unused >>= λ _. last) >>= λ _. Ok layers)
      go None last = refl
      go (Some left) last = refl

  pub body_fails : (e : ReadError) → Fails e (end_at (unused_from shape.bytes layers cs bytes) r2) → Fails e (body_at shape version inputs depth count bytes)
  body_fails errors.OutOfMemory h = tt
  body_fails (errors.Stops left kind) h = body_is ∙ ap (λ (r : Result (Unit {0}) Stop). r >>= λ _. Ok layers) h

  pub body_whole : end_at (unused_from shape.bytes layers cs bytes) r2 ≡ Ok tt → body_at shape version inputs depth count bytes ≡ Ok layers
  body_whole h = body_is ∙ ap (λ (r : Result (Unit {0}) Stop). r >>= λ _. Ok layers) h

pub bytes_fit : (bytes : List ℕ) → ((i : ℕ) → Fits w8 (get_or bytes i 0)) → IsBytes bytes
bytes_fit bytes h i = omega (arith, h i)

-- a list that was lent whole, and came back
pub lent_back : {A : Type 0} (n : ℕ) (new old : List A) → length new ≡ length old → n ≡ length old → take n (new ++ drop (length new) old) ≡ new
lent_back n new old same all =
    let none : drop (length new) old ≡ [] = nil_from_length (drop (length new) old) (omega (arith, same, length-drop (length new) old)) in
    ap (λ (r : List _). take n (new ++ r)) none ∙ ap (take n) (append-nil new) ∙ take_all n new (omega (arith, same, all))

-- the same, where lists and width are given by equations
pub flags_read : (shape : Shape) (version : ℕ) (layers : List (Layer ℕ)) (cs given : List ℕ) (old before new after : List Bool) (width : ℕ) (bytes : List ℕ) → given ≡ coefs_of version cs → before ≡ old
    → after ≡ drop (zeros_of version) new → width ≡ shape.bytes
    → old ≡ replicate (length (coefs_of version cs)) false → length new ≡ length (coefs_of version cs) → Marks given (is_coefficient layers) before new
    → unmarked_from width after bytes ≡ unused_from shape.bytes layers cs bytes
flags_read shape version layers cs given old before new after width bytes e1 e2 e3 e4 none len marks =
    let one : Marks (coefs_of version cs) (is_coefficient layers) before new = subst (λ (ns : List ℕ). Marks ns (is_coefficient layers) before new) e1 marks in
    let two : Marks (coefs_of version cs) (is_coefficient layers) old new = subst (λ (us : List Bool). Marks (coefs_of version cs) (is_coefficient layers) us new) e2 one in
    ap (λ (us : List Bool). unmarked_from width us bytes) e3 ∙ ap (λ (n : ℕ). unmarked_from n (drop (zeros_of version) new) bytes) e4
    ∙ flags_are shape version layers cs old new bytes none len two

-- zero stands before constants, which are above it
pub coefs_rise : (version : ℕ) (cs : List ℕ) → Above 0 cs → IsStrictlyIncreasing (coefs_of version cs)
coefs_rise version cs h = go (eqb version 2)
  where
    first : (xs : List ℕ) → Above 0 xs → IsStrictlyIncreasing (0 ∷ xs)
    first [] up k lt = absurd (omega (arith, lt))
    first (x ∷ xs) up zero lt = up.0
    first (x ∷ xs) up (suc k) lt =
        let e : suc (k + 1) ≡ suc k + 1 = omega arith in
        subst (λ (j : ℕ). slice_index (x ∷ xs) k < slice_index (0 ∷ x ∷ xs) j) e (increasing-from_Above 0 (x ∷ xs) up k (omega (arith, lt)))

    go : (b : Bool) → IsStrictlyIncreasing (cond b (0 ∷ cs) cs)
    go true = first cs h
    go false = increasing-from_Above 0 cs h

pub coefs_behind : (version : ℕ) (cs : List ℕ) → drop (zeros_of version) (coefs_of version cs) ≡ cs
coefs_behind version cs = go (eqb version 2)
  where
    go : (b : Bool) → drop (cond b 1 0) (cond b (0 ∷ cs) cs) ≡ cs
    go true = refl
    go false = refl

-- an item pushed behind
pub coefs_push : (version : ℕ) (cs : List ℕ) (c : ℕ) → cs ≡ coefs_of version (drop (zeros_of version) cs)
    → (drop (zeros_of version) (cs ++ c ∷ []) ≡ drop (zeros_of version) cs ++ c ∷ []) × (cs ++ c ∷ [] ≡ coefs_of version (drop (zeros_of version) (cs ++ c ∷ [])))
coefs_push version cs c = go (eqb version 2) cs
  where
    go : (b : Bool) (xs : List ℕ) → xs ≡ cond b (0 ∷ drop (cond b 1 0) xs) (drop (cond b 1 0) xs)
        → (drop (cond b 1 0) (xs ++ c ∷ []) ≡ drop (cond b 1 0) xs ++ c ∷ []) × (xs ++ c ∷ [] ≡ cond b (0 ∷ drop (cond b 1 0) (xs ++ c ∷ [])) (drop (cond b 1 0) (xs ++ c ∷ [])))
    go false xs h = (refl, refl)
    go true [] h = absurd (omega (arith, ap length h))
    go true (x ∷ xs) h = (refl, ap (λ (ys : List ℕ). ys ++ c ∷ []) h)

pub length-behind : (version : ℕ) (cs : List ℕ) (flags : List Bool) → length flags ≡ length (coefs_of version cs) → length (drop (zeros_of version) flags) ≡ length cs
length-behind version cs flags = go (eqb version 2)
  where
    go : (b : Bool) → length flags ≡ length (cond b (0 ∷ cs) cs) → length (drop (cond b 1 0) flags) ≡ length cs
    go true e = omega (arith, e, length-drop 1 flags)
    go false e = e

pub zeros_few : (version : ℕ) (cs : List ℕ) → zeros_of version ≤ length (coefs_of version cs)
zeros_few version cs = go (eqb version 2)
  where
    go : (b : Bool) → cond b 1 0 ≤ length (cond b (0 ∷ cs) cs)
    go true = omega arith
    go false = omega arith

pub wiring_done : (shape : Shape) (version publics privates depth count : ℕ) (bytes r1 r2 r3 r4 : List ℕ) (layers : List (Layer ℕ)) → limited_at 0 most_publics bytes ≡ Ok (publics, r1) → limited_at 0 most_privates r1 ≡ Ok (privates, r2) → limited_at 1 most_layers r2 ≡ Ok (depth, r3)
    → limited_at 0 most_total r3 ≡ Ok (count, r4) → body_at shape version (1 + publics + privates) depth count r4 ≡ Ok layers → wiring_at shape version bytes ≡ Ok (wiring_of version publics privates (reverse layers))
unfolding wiring_at
wiring_done shape version publics privates depth count bytes r1 r2 r3 r4 layers e1 e2 e3 e4 e5 = rw (e1, e2, e3, e4, e5) refl

-- the circuit of layers that were read and turned
pub turned : {A : Type 0} (number : A → ℕ) (shape : Shape) (version publics privates : ℕ) (bytes : List ℕ) (layers back : List (Layer A)) → back ≡ reverse layers → wiring_at shape version bytes ≡ Ok (wiring_of version publics privates (reverse (map (numbered_layer number) layers)))
    → wiring_at shape version bytes ≡ Ok (numbered number (wiring_of version publics privates back))
turned number shape version publics privates bytes layers back e read =
    read ∙ ap (λ (ls : List (Layer ℕ)). Ok (wiring_of version publics privates ls)) (sym (map-reverse (numbered_layer number) layers)) ∙ ap (λ (ls : List (Layer _)). Ok (numbered number (wiring_of version publics privates ls))) (sym e)

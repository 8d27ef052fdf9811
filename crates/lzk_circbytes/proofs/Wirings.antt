-- What stands behind the field's byte.
use Rattle.std.proofs.Common.{◌≡◌, ℕ, ◌+◌, ◌^◌, ◌<◌, ◌≤◌, Bool, true, false, cond, leb, eqb, ◌&&◌, ◌||◌, List, [], ◌∷◌, ◌++◌, length, drop, reverse, Option, Some, None, Ok, refl, sym, ap, subst, ◌∙◌, arith, IsTrue, nat_eq, lit<}
use Rattle.std.specs.Int.{w32, to_le_bytes}
use Rattle.std.specs.List.{list_any}
use Rattle.std.proofs.lemmas.Bool.{le-leb, leb-true, and_parts, eqb-true, eq-eqb, cond-true, or_left, or_right}
use Rattle.std.proofs.lemmas.List.{append-nil, nil_from_length}
use Rattle.lzk_circuit.specs.Limits.{most_publics, most_privates, most_layers, most_total}
use Rattle.lzk_circuit.specs.declared.layer.Layer.{Layer}
use Rattle.lzk_circuit.specs.Valid.{Under, above_inputs, above_layer, Wiring, wiring_of}
use Rattle.lzk_circbytes.specs.declared.fault.ByteKind.TheVariants.{Trailing}
use Rattle.lzk_circbytes.specs.Numbered.{Shape, is_coefficient, coefs_of}
use Rattle.lzk_circbytes.specs.Reading.{must, word_at, limited_at, constants_at, layer_at, layers_at, unused_from, all_used, body_at, wiring_at}
use Rattle.lzk_circbytes.specs.Spelling.{spells, constants_bytes, layer_bytes, layers_bytes}
use Rattle.lzk_circbytes.specs.Fits.{FitAlong, FitsLayer, AreConstants, FitsWiring}
use Rattle.lzk_circbytes.proofs.Steps.{IsBytes, from, passed, must_ok, ok_is, Takes, Takes-then, many_takes, many_again}
use Rattle.lzk_circbytes.proofs.Fields.{word_take, word_again, constants_take, constants_again}
use Rattle.lzk_circbytes.proofs.Layers.{coefs_indexed, layer_take, layer_again}

pub limited_take : (low high : ℕ) (bytes : List ℕ) (x : ℕ × List ℕ) → IsBytes bytes → limited_at low high bytes ≡ Ok x → Takes bytes (to_le_bytes w32 x.0) x.1 × (low ≤ x.0) × (x.0 ≤ high)
unfolding limited_at
limited_take low high bytes x fits e =
    from (word_at bytes) _ x e (λ n at_n end.
    let g = passed (leb low n.0 && leb n.0 high) _ (Ok n) x end in
    let two = and_parts (leb low n.0) (leb n.0 high) g.0 in
    let w = word_take bytes n fits at_n in
    subst (λ (y : ℕ × List ℕ). Takes bytes (to_le_bytes w32 y.0) y.1 × (low ≤ y.0) × (y.0 ≤ high)) (ok_is n x g.1) (w.0, leb-true low n.0 two.0, leb-true n.0 high two.1))

pub limited_again : (low high n : ℕ) (rest : List ℕ) → high < 2 ^ 32 → low ≤ n → n ≤ high → limited_at low high (to_le_bytes w32 n ++ rest) ≡ Ok (n, rest)
unfolding limited_at
limited_again low high n rest small ge le = rw (word_again n rest (omega arith), le-leb low n ge, le-leb n high le) refl

-- each constant is used
used_step : (width : ℕ) (layers : List (Layer ℕ)) (c : ℕ) (cs bytes : List ℕ) (b : Bool) → is_coefficient layers c ≡ b → cond b (unused_from width layers cs (drop width bytes)) (Some bytes) ≡ None → (is_coefficient layers c ≡ true) × (unused_from width layers cs (drop width bytes) ≡ None)
used_step width layers c cs bytes true e h = (e, h)
used_step width layers c cs bytes false e h = absurd cc

member_at : (layers : List (Layer ℕ)) (d c : ℕ) (cs : List ℕ) (b : Bool) → eqb d c ≡ b → is_coefficient layers c ≡ true → (IsTrue (list_any (eqb d) cs) → IsTrue (is_coefficient layers d)) → IsTrue (b || list_any (eqb d) cs) → IsTrue (is_coefficient layers d)
member_at layers d c cs true e h rest m = let same : d ≡ c = eqb-true d c e in subst (λ (n : ℕ). IsTrue (is_coefficient layers n)) (sym same) h
member_at layers d c cs false e h rest m = rest m

used_none : (o : Option (List ℕ)) (y : Unit {0}) → all_used o ≡ Ok y → o ≡ None
used_none None y e = refl
used_none (Some bytes) y e = absurd cc

pub all_members : (width : ℕ) (layers : List (Layer ℕ)) (cs bytes : List ℕ) → unused_from width layers cs bytes ≡ None → (d : ℕ) → IsTrue (list_any (nat_eq d) cs) → IsTrue (is_coefficient layers d)
all_members width layers [] bytes h d m = absurd cc
all_members width layers (c ∷ cs) bytes h d m =
    let s = used_step width layers c cs bytes (is_coefficient layers c) refl h in
    member_at layers d c cs (eqb d c) refl s.0 (all_members width layers cs (drop width bytes) s.1 d) m

-- the fields behind the field's byte, with the layers from the inputs up
abbrev pub pieces : Shape → ℕ → ℕ → ℕ → List (Layer ℕ) → List ℕ → List ℕ
pieces shape version publics privates layers cs =
    to_le_bytes w32 publics ++ (to_le_bytes w32 privates ++ (to_le_bytes w32 (length layers) ++ (to_le_bytes w32 (length cs)
    ++ (constants_bytes shape cs ++ layers_bytes (coefs_of version cs) (1 + publics + privates) layers))))

pub record Spelled (shape : Shape) (version : ℕ) (bytes : List ℕ) (w : Wiring ℕ) : Type 0 where
  pub publics : ℕ
  pub privates : ℕ
  pub layers : List (Layer ℕ)
  pub cs : List ℕ
  pub fits : FitsWiring shape version publics privates layers cs
  pub bytes_are : bytes ≡ pieces shape version publics privates layers cs
  pub is : w ≡ wiring_of version publics privates (reverse layers)

two : (a b r1 r2 bytes : List ℕ) → Takes bytes a r1 → Takes r1 b r2 → r2 ≡ [] → bytes ≡ a ++ b
two a b r1 r2 bytes t1 t2 none = (Takes-then bytes a r1 b r2 t1 t2).parts ∙ ap (λ (r : List ℕ). (a ++ b) ++ r) none ∙ append-nil (a ++ b)

-- what the constants and the layers were
record Body (shape : Shape) (version inputs depth count : ℕ) (bytes : List ℕ) (layers : List (Layer ℕ)) : Type 0 where
  cs : List ℕ
  many : length layers ≡ depth
  few : length cs ≡ count
  rising : AreConstants shape 0 cs
  each : FitAlong above_layer (FitsLayer (coefs_of version cs)) (above_inputs inputs) layers
  used : (c : ℕ) → IsTrue (list_any (nat_eq c) cs) → IsTrue (is_coefficient layers c)
  bytes_are : bytes ≡ constants_bytes shape cs ++ layers_bytes (coefs_of version cs) inputs layers

body_take : (shape : Shape) (version inputs depth count : ℕ) (bytes : List ℕ) (ls : List (Layer ℕ)) → IsBytes bytes → body_at shape version inputs depth count bytes ≡ Ok ls → Body shape version inputs depth count bytes ls
unfolding body_at
body_take shape version inputs depth count bytes ls fits e =
    from (constants_at shape count bytes) _ ls e (λ cs at_cs e1.
    from (layers_at (coefs_of version cs.0) inputs depth cs.1) _ ls e1 (λ layers at_layers e2.
    from (all_used (unused_from shape.bytes layers.0 cs.0 bytes)) _ ls e2 (λ u at_u e3.
    from (must (eqb (length layers.1) 0) Trailing layers.1) _ ls e3 (λ v at_v end.
    let t5 = constants_take shape count bytes cs fits at_cs in
    let t6 = many_takes above_layer (layer_at (coefs_of version cs.0)) (layer_bytes (coefs_of version cs.0)) (FitsLayer (coefs_of version cs.0)) (layer_take (coefs_of version cs.0) (coefs_indexed shape version cs.0 t5.2)) depth (above_inputs inputs) cs.1 layers t5.0.rest_fits at_layers in
    let none : layers.1 ≡ [] = nil_from_length layers.1 (eqb-true _ _ (must_ok (eqb (length layers.1) 0) Trailing layers.1 v at_v)) in
    subst (Body shape version inputs depth count bytes) (ok_is layers.0 ls end) (record {
      cs = cs.0;
      many = t6.1;
      few = t5.1;
      rising = t5.2;
      each = t6.2;
      used = all_members shape.bytes layers.0 cs.0 bytes (used_none _ u at_u);
      bytes_are = two (constants_bytes shape cs.0) (layers_bytes (coefs_of version cs.0) inputs layers.0) cs.1 layers.1 bytes t5.0 t6.0 none;
    })))))

five : (a b c d e r1 r2 r3 r4 bytes : List ℕ) → Takes bytes a r1 → Takes r1 b r2 → Takes r2 c r3 → Takes r3 d r4 → r4 ≡ e → bytes ≡ a ++ (b ++ (c ++ (d ++ e)))
five a b c d e r1 r2 r3 r4 bytes t1 t2 t3 t4 last =
    t1.parts ∙ ap (λ (r : List ℕ). a ++ r) (t2.parts ∙ ap (λ (r : List ℕ). b ++ r) (t3.parts ∙ ap (λ (r : List ℕ). c ++ r) (t4.parts ∙ ap (λ (r : List ℕ). d ++ r) last)))

pub wiring_take : (shape : Shape) (version : ℕ) (bytes : List ℕ) (w : Wiring ℕ) → IsBytes bytes → wiring_at shape version bytes ≡ Ok w → Spelled shape version bytes w
unfolding wiring_at
wiring_take shape version bytes w fits e =
    from (limited_at 0 most_publics bytes) _ w e (λ publics at_publics e1.
    from (limited_at 0 most_privates publics.1) _ w e1 (λ privates at_privates e2.
    from (limited_at 1 most_layers privates.1) _ w e2 (λ depth at_depth e3.
    from (limited_at 0 most_total depth.1) _ w e3 (λ count at_count e4.
    from (body_at shape version (1 + publics.0 + privates.0) depth.0 count.0 count.1) _ w e4 (λ layers at_layers end.
    let t1 = limited_take 0 most_publics bytes publics fits at_publics in
    let t2 = limited_take 0 most_privates publics.1 privates t1.0.rest_fits at_privates in
    let t3 = limited_take 1 most_layers privates.1 depth t2.0.rest_fits at_depth in
    let t4 = limited_take 0 most_total depth.1 count t3.0.rest_fits at_count in
    let body = body_take shape version (1 + publics.0 + privates.0) depth.0 count.0 count.1 layers t4.0.rest_fits at_layers in
    let t3' : Takes privates.1 (to_le_bytes w32 (length layers)) depth.1 = subst (λ (n : ℕ). Takes privates.1 (to_le_bytes w32 n) depth.1) (sym body.many) t3.0 in
    let t4' : Takes depth.1 (to_le_bytes w32 (length body.cs)) count.1 = subst (λ (n : ℕ). Takes depth.1 (to_le_bytes w32 n) count.1) (sym body.few) t4.0 in
    let good : FitsWiring shape version publics.0 privates.0 layers body.cs = record {
      few_publics = t1.2;
      few_privates = t2.2;
      some = omega (arith, t3.1, body.many);
      depth = omega (arith, t3.2, body.many);
      few_constants = omega (arith, t4.2, body.few);
      rising = body.rising;
      each = body.each;
      used = body.used;
    } in
    record {
      publics = publics.0;
      privates = privates.0;
      layers = layers;
      cs = body.cs;
      fits = good;
      bytes_are = five _ _ _ _ _ publics.1 privates.1 depth.1 count.1 bytes t1.0 t2.0 t3' t4' body.bytes_are;
      is = sym (ok_is (wiring_of version publics.0 privates.0 (reverse layers)) w end);
    })))))

-- there is no more than zero before the constants
pub coefs_few : (version : ℕ) (cs : List ℕ) → length (coefs_of version cs) ≤ length cs + 1
coefs_few version cs = go (eqb version 2)
  where
    go : (b : Bool) → length (cond b (0 ∷ cs) cs) ≤ length cs + 1
    go true = omega arith
    go false = omega arith

record Narrow (ks : List ℕ) (under : Under) (l : Layer ℕ) : Type 0 where
  fits : FitsLayer ks under l
  width : under.width ≤ 2 ^ 32

narrow : (ks : List ℕ) (ls : List (Layer ℕ)) (under : Under) → under.width ≤ 2 ^ 32 → FitAlong above_layer (FitsLayer ks) under ls → FitAlong above_layer (Narrow ks) under ls
narrow ks [] under w h = tt
narrow ks (l ∷ ls) under w h = (record { fits = h.0; width = w }, narrow ks ls (above_layer under l) (omega (arith, h.0.wires)) h.1)

unused_none : (width : ℕ) (layers : List (Layer ℕ)) (cs bytes : List ℕ) → ((d : ℕ) → IsTrue (list_any (nat_eq d) cs) → IsTrue (is_coefficient layers d)) → unused_from width layers cs bytes ≡ None
unused_none width layers [] bytes h = refl
unused_none width layers (c ∷ cs) bytes h =
    let here : is_coefficient layers c ≡ true = h c (or_left (eqb c c) (list_any (eqb c) cs) (eq-eqb c c refl)) in
    cond-true (is_coefficient layers c) (unused_from width layers cs (drop width bytes)) (Some bytes) here
    ∙ unused_none width layers cs (drop width bytes) (λ d m. h d (or_right (eqb d c) (list_any (eqb d) cs) m))

pub wiring_again : (shape : Shape) → shape.size ≤ 256 ^ shape.bytes → (version publics privates : ℕ) (layers : List (Layer ℕ)) (cs : List ℕ) → FitsWiring shape version publics privates layers cs
    → wiring_at shape version (pieces shape version publics privates layers cs) ≡ Ok (wiring_of version publics privates (reverse layers))
unfolding wiring_at body_at
wiring_again shape room version publics privates layers cs fits =
    let under : Under = above_inputs (1 + publics + privates) in
    let ks : List ℕ = coefs_of version cs in
    let vl : List ℕ = spells above_layer (layer_bytes ks) under layers in
    let vc : List ℕ = constants_bytes shape cs in
    let w4 : List ℕ = to_le_bytes w32 (length cs) ++ (vc ++ vl) in
    let w3 : List ℕ = to_le_bytes w32 (length layers) ++ w4 in
    let w2 : List ℕ = to_le_bytes w32 privates ++ w3 in
    let r1 = limited_again 0 most_publics publics w2 (lit< tt) (omega arith) fits.few_publics in
    let r2 = limited_again 0 most_privates privates w3 (lit< tt) (omega arith) fits.few_privates in
    let r3 = limited_again 1 most_layers (length layers) w4 (lit< tt) fits.some fits.depth in
    let r4 = limited_again 0 most_total (length cs) (vc ++ vl) (lit< tt) (omega arith) fits.few_constants in
    let r5 = constants_again shape room cs vl fits.rising in
    let slim = narrow ks layers under (omega (arith, fits.few_publics, fits.few_privates)) fits.each in
    let few : length ks ≤ 2 ^ 32 = omega (arith, fits.few_constants, coefs_few version cs) in
    let r6 : layers_at ks (1 + publics + privates) (length layers) vl ≡ Ok (layers, []) =
    ap (layers_at ks (1 + publics + privates) (length layers)) (sym (append-nil vl))
    ∙ many_again above_layer (layer_at ks) (layer_bytes ks) (Narrow ks) (λ u l rest h. layer_again ks few u l rest h.width h.fits) layers under [] slim in
    let r7 = unused_none shape.bytes layers cs (vc ++ vl) fits.used in
    rw (r1, r2, r3, r4, r5, r6, r7) refl

-- How long a circuit's file is at most.
use Rattle.std.proofs.Common.{◌≡◌, ℕ, zero, suc, ◌+◌, ◌-◌, ◌*◌, ◌/◌, ◌^◌, ◌<◌, ◌≤◌, List, [], ◌∷◌, ◌++◌, length, reverse, Option, None, ap, arith, inl, inr, length-append}
use Rattle.std.specs.Int.{w32, to_le_bytes}
use Rattle.std.proofs.lemmas.Bool.{le-ltb, lt-ltb, cases_lt}
use Rattle.std.proofs.lemmas.Nat.{mul-le}
use Rattle.std.proofs.Math.Nat.{pow-succ'}
use Rattle.lzk_circuit.specs.Limits.{most_layers, most_wires, most_total, most_width}
use Rattle.lzk_circuit.specs.declared.layer.Term.{Term}
use Rattle.lzk_circuit.specs.declared.layer.Layer.{Layer}
use Rattle.lzk_circuit.specs.Valid.{Under, Wiring, above_inputs, above_layer}
use Rattle.lzk_goldilocks.specs.Prime.{p, element_bytes, field_byte}
use Rattle.lzk_goldilocks.specs.Elements as gold
use Rattle.lzk_gf128.specs.Elements as gf
use Rattle.lzk_circbytes.specs.declared.any.AnyCircuit.TheVariants.{Gold, Gf}
use Rattle.lzk_circbytes.specs.Numbered.{Shape, numbered, coefs_of}
use Rattle.lzk_circbytes.specs.Reading.{wire_before, as_before}
use Rattle.lzk_circbytes.specs.Spelling.{spells, septets, varint, index_of, term_bytes, layer_bytes, layers_bytes, constants_bytes, file_bytes}
use Rattle.lzk_circbytes.specs.Fits.{FitAlong, FitsTerm, FitsLayer, FitsWiring}
use Rattle.lzk_circbytes.specs.Files.{goldilocks, gf128, most_file, FilesFit}
use Rattle.lzk_circbytes.proofs.Bodies.{length-constants}
use Rattle.lzk_circbytes.proofs.FileLaws.{fits_from_file}
use Rattle.lzk_circbytes.proofs.Wirings.{coefs_few}

-- a number below 128^j has at most j bytes
septets_few : (k j n : ℕ) → 1 ≤ j → n < 128 ^ j → length (septets k n) ≤ j
unfolding septets
septets_few zero j n some h = omega arith
septets_few (suc k) zero n some h = absurd (omega arith)
septets_few (suc k) (suc zero) n some h =
    let short : n < 128 = omega (arith, h) in
    rw (lt-ltb n 128 short) (omega arith)
septets_few (suc k) (suc (suc j)) n some h =
    elim (cases_lt n 128) [
      | inl short ↦ rw (lt-ltb n 128 short) (omega arith)
      | inr long ↦
          let e : 128 ^ suc (suc j) ≡ 128 * 128 ^ suc j = pow-succ' 128 (suc j) in
          let rest = septets_few k (suc j) (n / 128) (omega arith) (omega (arith, e, h)) in
          rw (le-ltb n 128 long) (omega (arith, rest))
    ]

varint_few : (n : ℕ) → n < 2097152 → length (varint n) ≤ 3
varint_few n h = septets_few 5 3 n (omega arith) (omega (arith, h))

varint_some : (n : ℕ) → n < 268435456 → length (varint n) ≤ 4
varint_some n h = septets_few 5 4 n (omega arith) (omega (arith, h))

term_few : (cs : List ℕ) (wires below : ℕ) (before : Option (Term ℕ)) (t : Term ℕ) → wires ≤ most_wires → below ≤ most_width → length cs ≤ most_total + 1 → FitsTerm cs wires below before t → length (term_bytes cs before t) ≤ 13
unfolding term_bytes
term_few cs wires below before t hw hb hc fits =
    let vg = varint (t.g - wire_before before) in
    let va = varint t.a in
    let vb = varint (t.b - t.a) in
    let vk = varint (index_of cs t.coef) in
    let g : length vg ≤ 3 = varint_few _ (omega (arith, fits.g, hw)) in
    let a : length va ≤ 3 = varint_few _ (omega (arith, fits.a, fits.b, hb)) in
    let b : length vb ≤ 3 = varint_few _ (omega (arith, fits.b, hb)) in
    let k : length vk ≤ 4 = varint_some _ (omega (arith, fits.number, hc)) in
    omega (arith, g, a, b, k, length-append vg (va ++ (vb ++ vk)), length-append va (vb ++ vk), length-append vb vk)

terms_few : (cs : List ℕ) (wires below : ℕ) → wires ≤ most_wires → below ≤ most_width → length cs ≤ most_total + 1
    → (ts : List (Term ℕ)) (before : Option (Term ℕ)) → FitAlong as_before (FitsTerm cs wires below) before ts → length (spells as_before (term_bytes cs) before ts) ≤ 13 * length ts
unfolding spells
terms_few cs wires below hw hb hc [] before fits = omega arith
terms_few cs wires below hw hb hc (t ∷ ts) before fits =
    omega (arith, term_few cs wires below before t hw hb hc fits.0, terms_few cs wires below hw hb hc ts (as_before before t) fits.1, length-append (term_bytes cs before t) (spells as_before (term_bytes cs) (as_before before t) ts))

layer_few : (cs : List ℕ) (under : Under) (l : Layer ℕ) → under.width ≤ most_width → length cs ≤ most_total + 1 → FitsLayer cs under l → length (layer_bytes cs under l) ≤ 8 + 13 * length l.terms
unfolding layer_bytes
layer_few cs under l hu hc fits =
    let terms = spells as_before (term_bytes cs) None l.terms in
    let count = to_le_bytes w32 (length l.terms) in
    omega (arith, terms_few cs l.wires under.width fits.wires hu hc l.terms None fits.terms, length-append (to_le_bytes w32 l.wires) (count ++ terms), length-append count terms)

layers_few : (cs : List ℕ) → length cs ≤ most_total + 1 → (ls : List (Layer ℕ)) (under : Under) → under.width ≤ most_width → under.terms ≤ most_total → FitAlong above_layer (FitsLayer cs) under ls
    → length (spells above_layer (layer_bytes cs) under ls) + 13 * under.terms ≤ 8 * length ls + 13 * most_total
unfolding spells
layers_few cs hc [] under hu ht fits = omega (arith, ht)
layers_few cs hc (l ∷ ls) under hu ht fits =
    omega (arith, layer_few cs under l hu hc fits.0, layers_few cs hc ls (above_layer under l) (omega (arith, fits.0.wires)) fits.0.all_terms fits.1, length-append (layer_bytes cs under l) (spells above_layer (layer_bytes cs) (above_layer under l) ls))

wiring_few : (shape : Shape) (c : Wiring ℕ) (cs : List ℕ) → shape.bytes ≤ 16 → FitsWiring shape c.version c.publics c.privates (reverse c.layers) cs → length (file_bytes shape c cs) ≤ most_file
unfolding constants_bytes
wiring_few shape c cs narrow fits =
    let inputs = 1 + c.publics + c.privates in
    let ls = layers_bytes (coefs_of c.version cs) inputs (reverse c.layers) in
    let ks = constants_bytes shape cs in
    let w : ℕ → List ℕ = λ n. to_le_bytes w32 n in
    let few : length cs ≤ most_total = fits.few_constants in
    let constants : length ks ≡ length cs * shape.bytes = length-constants shape 0 cs in
    let most : length cs * shape.bytes ≤ most_total * 16 = mul-le (length cs) shape.bytes most_total 16 few narrow in
    let layers = layers_few (coefs_of c.version cs) (omega (arith, few, coefs_few c.version cs)) (reverse c.layers) (above_inputs inputs) (omega (arith, fits.few_publics, fits.few_privates)) (omega arith) fits.each in
    let depth : length (reverse c.layers) ≤ most_layers = fits.depth in
    omega (
      arith,
      constants,
      most,
      layers,
      depth,
      length-append (w c.publics) (w c.privates ++ (w (length c.layers) ++ (w (length cs) ++ (ks ++ ls)))),
      length-append (w c.privates) (w (length c.layers) ++ (w (length cs) ++ (ks ++ ls))),
      length-append (w (length c.layers)) (w (length cs) ++ (ks ++ ls)),
      length-append (w (length cs)) (ks ++ ls),
      length-append ks ls,
    )

pub files_fit : FilesFit
files_fit (Gold c) bytes f =
    let few = wiring_few goldilocks (numbered (λ x. x.n) c) f.constants (omega arith) (fits_from_file gold.ops p (λ x. x.n) gold.of_number element_bytes gold.laws field_byte c bytes f) in
    omega (arith, few, ap length f.bytes_are)
files_fit (Gf c) bytes f =
    let few = wiring_few gf128 (numbered (λ x. x.n) c) f.constants (omega arith) (fits_from_file gf.ops (2 ^ 128) (λ x. x.n) gf.of_number 16 gf.laws 2 c bytes f) in
    omega (arith, few, ap length f.bytes_are)

-- Bytes that are read have a circuit.
use Rattle.std.proofs.Common.{◌≡◌, ℕ, ◌+◌, ◌^◌, ◌<◌, ◌≤◌, Bool, true, false, cond, ltb, eqb, List, [], ◌∷◌, length, map, drop, Option, Some, None, Result, Ok, Err, refl, sym, ap, ◌∙◌, arith, inl, inr, ◌⊎◌}
use Rattle.std.specs.Prelude.{reverse}
use Rattle.std.proofs.Math.Nat.{mod-eq_of_lt}
use Rattle.std.specs.List.{list_any}
use Rattle.std.proofs.lemmas.Bool.{eqb-true, or_cases}
use Rattle.lzk_profile.specs.Profile.{file_letter}
use Rattle.lzk_field.specs.Ring.{Ops, Laws}
use Rattle.lzk_circuit.specs.declared.layer.Term.{Term}
use Rattle.lzk_circuit.specs.declared.layer.Layer.{Layer}
use Rattle.lzk_circuit.specs.Valid.{Under, above_inputs, above_layer, Wiring, wiring_of, IsValid}
use Rattle.lzk_goldilocks.specs.Prime.{p, element_bytes, field_byte}
use Rattle.lzk_goldilocks.specs.Elements as gold
use Rattle.lzk_gf128.specs.Elements as gf
use Rattle.lzk_circbytes.specs.declared.any.AnyCircuit.{AnyCircuit}
use Rattle.lzk_circbytes.specs.declared.any.AnyCircuit.TheVariants.{Gold, Gf}
use Rattle.lzk_circbytes.specs.declared.fault.ByteKind.TheVariants.{Truncated, Magic, FieldId}
use Rattle.lzk_circbytes.specs.Numbered.{Shape, shape, numbered_term, numbered_layer, numbered, coefs_of}
use Rattle.lzk_circbytes.specs.Reading.{Stop, ◌>>=◌, wiring_at, as_before}
use Rattle.lzk_circbytes.specs.Fits.{FitAlong, FitsTerm, FitsLayer, AreConstants}
use Rattle.lzk_circbytes.specs.Files.{goldilocks, gf128, begins_with, field_at, circuit_at, CircuitBytes}
use Rattle.lzk_circbytes.specs.Answers.{numbers_of, IsValidCircuit}
use Rattle.lzk_circbytes.proofs.Steps.{IsBytes, IsBytes-rest, IsBytes-drop, bind_ok}
use Rattle.lzk_circbytes.proofs.Ascending.{Has}
use Rattle.lzk_circbytes.proofs.Validity.{index_has}
use Rattle.lzk_circbytes.proofs.Wirings.{wiring_take}
use Rattle.lzk_circbytes.proofs.FileLaws.{map-reverse, valid_from_read}
use Rattle.lzk_circbytes.proofs.Whole.{circuit_bytes_from_read}
use Rattle.lzk_circuit_faults.proofs.Ties.{by_bool}

-- ---- coefficients are below the field's size

below_size : (s : Shape) (m : ℕ) (cs : List ℕ) (n : ℕ) → AreConstants s m cs → Has cs n → n < s.size
below_size s m [] n h has = absurd cc
below_size s m (c ∷ cs) n h has =
    elim (or_cases (eqb n c) (list_any (eqb n) cs) has) [
      | inl same ↦ omega (arith, eqb-true n c same, h.0.below)
      | inr later ↦ below_size s c cs n h.1 later
    ]

coef_below : (s : Shape) (version : ℕ) (cs : List ℕ) (n : ℕ) → 1 ≤ s.size → AreConstants s 0 cs → Has (coefs_of version cs) n → n < s.size
coef_below s version cs n some h has = go (eqb version 2) has
  where
    go : (b : Bool) → Has (cond b (0 ∷ cs) cs) n → n < s.size
    go false h2 = below_size s 0 cs n h h2
    go true h2 = elim (or_cases (eqb n 0) (list_any (eqb n) cs) h2) [
      | inl same ↦ omega (arith, eqb-true n 0 same, some)
      | inr later ↦ below_size s 0 cs n h later
    ]

module _ {A : Type 0} (o : Ops A) (size : ℕ) (number : A → ℕ) (element : ℕ → A) (bytes : ℕ) (laws : Laws o size number element bytes) (id : ℕ) where
  abbrev here : Shape
  here = shape id bytes size

  back_term : Term ℕ → Term A
  back_term t = record { g = t.g; a = t.a; b = t.b; coef = element t.coef }

  back_layer : Layer ℕ → Layer A
  back_layer layer = record { wires = layer.wires; terms = map back_term layer.terms }

  module _ (version : ℕ) (cs : List ℕ) (up : AreConstants here 0 cs) where
    term_back : (t : Term ℕ) → t.coef < size → numbered_term number (back_term t) ≡ t
    unfolding back_term
    term_back t lt =
        let e : number (element t.coef) ≡ t.coef = laws.numbers.number_element t.coef ∙ mod-eq_of_lt lt in
        ap (λ (n : ℕ). record { g = t.g; a = t.a; b = t.b; coef = n }) e

    terms_back : (wires below : ℕ) (before : Option (Term ℕ)) (terms : List (Term ℕ)) → FitAlong as_before (FitsTerm (coefs_of version cs) wires below) before terms
        → map (numbered_term number) (map back_term terms) ≡ terms
    terms_back wires below before [] h = refl
    terms_back wires below before (t ∷ ts) h =
        let some : 1 ≤ size = omega (arith, laws.numbers.points) in
        let lt : t.coef < size = coef_below here version cs t.coef some up (index_has (coefs_of version cs) t.coef h.0.number) in
        rw (term_back t lt, terms_back wires below (Some t) ts h.1) refl

    layers_back : (under : Under) (layers : List (Layer ℕ)) → FitAlong above_layer (FitsLayer (coefs_of version cs)) under layers → map (numbered_layer number) (map back_layer layers) ≡ layers
    unfolding back_layer
    layers_back under [] h = refl
    layers_back under (layer ∷ layers) h =
        let e : numbered_layer number (back_layer layer) ≡ layer =
        ap (λ (ts : List (Term ℕ)). record { wires = layer.wires; terms = ts }) (terms_back layer.wires under.width None layer.terms h.0.terms) in
        rw (e, layers_back (above_layer under layer) layers h.1) refl

  -- what was read are the numbers of a valid circuit
  some_wiring : (version : ℕ) (rest : List ℕ) (w : Wiring ℕ) → (version ≡ 1) ⊎ (version ≡ 2) → IsBytes rest → wiring_at here version rest ≡ Ok w
      → (c : Wiring A) × IsValid o c × (numbered number c ≡ w)
  some_wiring version rest w is fits e =
      let s = wiring_take here version rest w fits e in
      let layers : List (Layer A) = map back_layer s.layers in
      let c : Wiring A = wiring_of version s.publics s.privates (reverse layers) in
      let back : map (numbered_layer number) layers ≡ s.layers = layers_back version s.cs s.fits.rising (above_inputs (1 + s.publics + s.privates)) s.layers s.fits.each in
      let turned : map (numbered_layer number) (reverse layers) ≡ reverse s.layers = map-reverse (numbered_layer number) layers ∙ ap reverse back in
      let same : numbered number c ≡ w = ap (λ (ls : List (Layer ℕ)). wiring_of version s.publics s.privates ls) turned ∙ sym s.is in
      let read : wiring_at here version rest ≡ Ok (numbered number c) = e ∙ ap (λ (v : Wiring ℕ). Ok v) (sym same) in
      (c, valid_from_read o size number element bytes laws id version s.publics s.privates layers rest is fits read, same)

-- ---- over either field

abbrev SomeRead : Result (ℕ × Wiring ℕ) Stop → Type 0
SomeRead r = (c : AnyCircuit) × IsValidCircuit c × (r ≡ Ok (numbers_of c))

no_stop : (r : Result (ℕ × Wiring ℕ) Stop) (x : ℕ × Wiring ℕ) (stop : Stop) → r ≡ Ok x → r ≡ Err stop → ⊥
no_stop r x stop e f = let z : ◌≡◌ {A = Result (ℕ × Wiring ℕ) Stop} (Ok x) (Err stop) = sym e ∙ f in cc

field_some : (version : ℕ) → (version ≡ 1) ⊎ (version ≡ 2) → (bytes : List ℕ) → IsBytes bytes → (x : ℕ × Wiring ℕ) → field_at version bytes ≡ Ok x → SomeRead (field_at version bytes)
field_some version is [] fits x e = absurd cc
field_some version is (id ∷ rest) fits x e =
    let behind : IsBytes rest = IsBytes-rest id rest fits in
    by_bool (eqb id field_byte) (λ one.
    let there : field_at version (id ∷ rest) ≡ (wiring_at goldilocks version rest >>= λ w. Ok (field_byte, w)) = rw one refl in
    let r = bind_ok (wiring_at goldilocks version rest) (λ w. Ok (field_byte, w)) x (sym there ∙ e) in
    let c = some_wiring gold.ops p (λ g. g.n) gold.of_number element_bytes gold.laws field_byte version rest r.0 is behind r.1 in
    (Gold c.0, c.1, there ∙ ap (λ (y : Result (Wiring ℕ) Stop). y >>= λ w. Ok (field_byte, w)) r.1 ∙ ap (λ (w : Wiring ℕ). Ok (field_byte, w)) (sym c.2))) (λ other.
    by_bool (eqb id 2) (λ two.
    let there : field_at version (id ∷ rest) ≡ (wiring_at gf128 version rest >>= λ w. Ok (2, w)) = rw (other, two) refl in
    let r = bind_ok (wiring_at gf128 version rest) (λ w. Ok (2, w)) x (sym there ∙ e) in
    let c = some_wiring gf.ops (2 ^ 128) (λ g. g.n) gf.of_number 16 gf.laws 2 version rest r.0 is behind r.1 in
    (Gf c.0, c.1, there ∙ ap (λ (y : Result (Wiring ℕ) Stop). y >>= λ w. Ok (2, w)) r.1 ∙ ap (λ (w : Wiring ℕ). Ok (2, w)) (sym c.2))) (λ neither.
    absurd (let z : field_at version (id ∷ rest) ≡ Err (record { left = length (id ∷ rest); kind = FieldId }) = rw (other, neither) refl in no_stop (field_at version (id ∷ rest)) x _ e z)))

file_some : (bytes : List ℕ) → IsBytes bytes → (x : ℕ × Wiring ℕ) → circuit_at bytes ≡ Ok x → SomeRead (circuit_at bytes)
unfolding circuit_at
file_some bytes fits x e =
    let behind : IsBytes (drop 4 bytes) = IsBytes-drop 4 bytes fits in
    by_bool (ltb (length bytes) 4) (λ short.
    absurd (no_stop (circuit_at bytes) x (record { left = length bytes; kind = Truncated }) e (rw short refl))) (λ long.
    by_bool (begins_with (76 ∷ file_letter ∷ 67 ∷ 49 ∷ []) bytes) (λ one.
    let there : circuit_at bytes ≡ field_at 1 (drop 4 bytes) = rw (long, one) refl in
    let r = field_some 1 (inl refl) (drop 4 bytes) behind x (sym there ∙ e) in
    (r.0, r.1, there ∙ r.2)) (λ other.
    by_bool (begins_with (76 ∷ file_letter ∷ 67 ∷ 50 ∷ []) bytes) (λ two.
    let there : circuit_at bytes ≡ field_at 2 (drop 4 bytes) = rw (long, other, two) refl in
    let r = field_some 2 (inr refl) (drop 4 bytes) behind x (sym there ∙ e) in
    (r.0, r.1, there ∙ r.2)) (λ neither.
    absurd (no_stop (circuit_at bytes) x (record { left = length bytes; kind = Magic }) e (rw (long, other, neither) refl)))))

pub some_circuit : (bytes : List ℕ) → IsBytes bytes → (x : ℕ × Wiring ℕ) → circuit_at bytes ≡ Ok x → (c : AnyCircuit) × CircuitBytes c bytes
some_circuit bytes fits x e = let s = file_some bytes fits x e in (s.0, circuit_bytes_from_read s.0 bytes fits s.1 s.2)

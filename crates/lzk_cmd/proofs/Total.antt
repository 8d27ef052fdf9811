-- Bytes of a format mean something, or have a fault.
use Rattle.std.proofs.Common.{◌≡◌, ◌⊎◌, ℕ, ◌+◌, ◌<◌, ◌-◌, ◌^◌, Bool, true, false, cond, ltb, eqb, ◌&&◌, List, [], ◌∷◌, length, map, reverse, Option, None, Result, Ok, Err, inl, inr, refl, sym, ap, subst, ◌∙◌, arith, mod-eq_of_lt}
use Rattle.std.specs.List.{AllByRecursion, list_any}
use Rattle.std.proofs.lemmas.Bool.{eqb-true, and_parts, or_cases}
use Rattle.lzk_profile.specs.Profile.{file_letter}
use Rattle.lzk_circbytes.specs.declared.any.AnyCircuit.{AnyCircuit}
use Rattle.lzk_circbytes.specs.declared.any.AnyCircuit.TheVariants.{Gold, Gf}
use Rattle.lzk_circbytes.specs.declared.fault.ByteKind.{ByteKind}
use Rattle.lzk_circbytes.specs.declared.fault.ByteKind.TheVariants.{Magic, FieldId}
use Rattle.lzk_circbytes.specs.Fits.{FitAlong, FitsTerm, FitsLayer, AreConstants, FitsWiring}
use Rattle.lzk_circbytes.specs.Files.{IsFile, goldilocks, gf128, CircuitBytes, CircuitFaultAt, begins_with, field_at, circuit_at}
use Rattle.lzk_circbytes.specs.Numbered.{Shape, shape, numbered_term, numbered_layer, numbered, coefs_of}
use Rattle.lzk_circbytes.specs.Reading.{Stop as Left, ◌>>=◌, stops, wiring_at, as_before}
use Rattle.lzk_circbytes.proofs.Ascending.{Has}
use Rattle.lzk_circbytes.proofs.FileLaws.{map-reverse, valid_from_fits, file_from_read}
use Rattle.lzk_circbytes.proofs.Steps.{IsBytes, IsBytes-rest, from, not_refused}
use Rattle.lzk_circbytes.proofs.Validity.{index_has}
use Rattle.lzk_circbytes.proofs.Whole.{begins, fault_found}
use Rattle.lzk_circbytes.proofs.Wirings.{wiring_take}
use Rattle.lzk_circuit.specs.declared.layer.Term.{Term}
use Rattle.lzk_circuit.specs.declared.layer.Layer.{Layer}
use Rattle.lzk_circuit.specs.Valid.{Under, above_layer, Wiring, wiring_of, IsValid}
use Rattle.lzk_expr.specs.declared.fault.NumberFault.{NumberFault}
use Rattle.lzk_expr.specs.Numbers.{NumberText, IsNumberFault, numbers_of}
use Rattle.lzk_expr.proofs.NumberLaws.{text_take}
use Rattle.lzk_field.specs.Ring.{Ops, Laws}
use Rattle.lzk_goldilocks.specs.Prime.{p, element_bytes, field_byte}
use Rattle.lzk_goldilocks.specs.Elements as gold
use Rattle.lzk_gf128.specs.Elements as gf

-- each constant is below the size
constants_below : (shape : Shape) (m : ℕ) (cs : List ℕ) → AreConstants shape m cs → (n : ℕ) → Has cs n → n < shape.size
constants_below shape m [] h n e = absurd cc
constants_below shape m (c ∷ cs) h n e = elim (or_cases (eqb n c) (list_any (eqb n) cs) e) [
  | inl same ↦ subst (λ k. k < shape.size) (sym (eqb-true n c same)) h.0.below
  | inr later ↦ constants_below shape c cs h.1 n later
]

module _ {A : Type 0} (o : Ops A) (size : ℕ) (number : A → ℕ) (element : ℕ → A) (bytes : ℕ) (laws : Laws o size number element bytes) (id : ℕ) where
  -- ---- circuits of their numbers

  abbrev of_term : Term ℕ → Term A
  of_term t = record { g = t.g; a = t.a; b = t.b; coef = element t.coef }

  abbrev of_layer : Layer ℕ → Layer A
  of_layer layer = record { wires = layer.wires; terms = map of_term layer.terms }

  number_again : (n : ℕ) → n < size → number (element n) ≡ n
  number_again n less = laws.numbers.number_element n ∙ mod-eq_of_lt less

  coefs_below : (version : ℕ) (cs : List ℕ) → ((n : ℕ) → Has cs n → n < size) → (n : ℕ) → Has (coefs_of version cs) n → n < size
  coefs_below version cs small n = go (eqb version 2)
    where
      some : 0 < size
      some = let points = laws.numbers.points in omega (arith, points)

      go : (b : Bool) → Has (cond b (0 ∷ cs) cs) n → n < size
      go true h = elim (or_cases (eqb n 0) (list_any (eqb n) cs) h) [ inl same ↦ subst (λ k. k < size) (sym (eqb-true n 0 same)) some | inr later ↦ small n later ]
      go false h = small n h

  terms_again : (cs : List ℕ) → ((n : ℕ) → Has cs n → n < size) → (wires below : ℕ) (before : Option (Term ℕ)) (ts : List (Term ℕ)) → FitAlong as_before (FitsTerm cs wires below) before ts → map (numbered_term number) (map of_term ts) ≡ ts
  terms_again cs small wires below before [] h = refl
  terms_again cs small wires below before (t ∷ ts) h =
      let e : number (element t.coef) ≡ t.coef = number_again t.coef (small t.coef (index_has cs t.coef h.0.number)) in
      ap (λ c. record { g = t.g; a = t.a; b = t.b; coef = c } ∷ map (numbered_term number) (map of_term ts)) e ∙ ap (λ us. t ∷ us) (terms_again cs small wires below (as_before before t) ts h.1)

  layers_again : (cs : List ℕ) → ((n : ℕ) → Has cs n → n < size) → (under : Under) (ls : List (Layer ℕ)) → FitAlong above_layer (FitsLayer cs) under ls → map (numbered_layer number) (map of_layer ls) ≡ ls
  layers_again cs small under [] h = refl
  layers_again cs small under (l ∷ ls) h =
      let e = terms_again cs small l.wires under.width None l.terms h.0.terms in
      ap (λ ts. record { wires = l.wires; terms = ts } ∷ map (numbered_layer number) (map of_layer ls)) e ∙ ap (λ ks. l ∷ ks) (layers_again cs small (above_layer under l) ls h.1)

  abbrev here : Shape
  here = shape id bytes size

  -- what is read is a circuit's
  pub some_file : (version : ℕ) → (version ≡ 1) ⊎ (version ≡ 2) → (rest : List ℕ) (w : Wiring ℕ) → IsBytes rest → wiring_at here version rest ≡ Ok w → (c : Wiring A) × IsFile o number here c (76 ∷ file_letter ∷ 67 ∷ (48 + version) ∷ id ∷ rest)
  some_file version known rest w fits e =
      let s = wiring_take here version rest w fits e in
      let layers = map of_layer s.layers in
      let same : map (numbered_layer number) layers ≡ s.layers = layers_again (coefs_of version s.cs) (coefs_below version s.cs (constants_below here 0 s.cs s.fits.rising)) _ s.layers s.fits.each in
      let c = wiring_of version s.publics s.privates (reverse layers) in
      let valid : IsValid o c = valid_from_fits o size number element bytes laws id version s.publics s.privates layers s.cs known (subst (λ ls. FitsWiring here version s.publics s.privates ls s.cs) (sym same) s.fits) in
      let numbers : numbered number c ≡ w = ap (λ ls. wiring_of version s.publics s.privates ls) (map-reverse (numbered_layer number) layers ∙ ap reverse same) ∙ sym s.is in
      (c, file_from_read o size number element bytes laws id c rest fits valid (e ∙ ap (λ v. Ok v) (sym numbers)))

  -- ---- elements of their numbers

  values_again : (list : List ℕ) → AllByRecursion (λ n. n < size) list → map number (map element list) ≡ list
  values_again [] h = refl
  values_again (n ∷ list) h = ap (λ m. m ∷ map number (map element list)) (number_again n h.0) ∙ ap (λ ns. n ∷ ns) (values_again list h.1)

  pub numbers_total : (count : ℕ) (text : List ℕ) → ((values : List A) × NumberText size count text (map number values)) ⊎ ((fault : NumberFault) × IsNumberFault size count text fault)
  numbers_total count text = go (numbers_of size count text) refl
    where
      go : (r : Result (List ℕ) NumberFault) → numbers_of size count text ≡ r → ((values : List A) × NumberText size count text (map number values)) ⊎ ((fault : NumberFault) × IsNumberFault size count text fault)
      go (Ok list) e = let is = text_take size count text list e in inl (map element list, subst (NumberText size count text) (sym (values_again list is.below)) is)
      go (Err fault) e = inr (fault, e)

-- ---- a circuit's whole file

-- the field's byte, and the circuit of this version behind it
abbrev IsRead : ℕ → ℕ → List ℕ → Type 0
IsRead version id rest = ((w : Wiring ℕ) × (id ≡ field_byte) × (wiring_at goldilocks version rest ≡ Ok w)) ⊎ ((w : Wiring ℕ) × (id ≡ 2) × (wiring_at gf128 version rest ≡ Ok w))

field_read : (version id : ℕ) (rest : List ℕ) (x : ℕ × Wiring ℕ) → field_at version (id ∷ rest) ≡ Ok x → IsRead version id rest
field_read version id rest x e = one (eqb id field_byte) (eqb id 2) refl refl e
  where
    one : (p q : Bool) → eqb id field_byte ≡ p → eqb id 2 ≡ q → cond p (wiring_at goldilocks version rest >>= λ w. Ok (field_byte, w)) (cond q (wiring_at gf128 version rest >>= λ w. Ok (2, w)) (stops FieldId (id ∷ rest))) ≡ Ok x → IsRead version id rest
    one true q ep eq h = from (wiring_at goldilocks version rest) _ x h (λ w read end. inl (w, eqb-true id field_byte ep, read))
    one false true ep eq h = from (wiring_at gf128 version rest) _ x h (λ w read end. inr (w, eqb-true id 2 eq, read))
    one false false ep eq h = absurd cc

circuit_of : (version : ℕ) → (version ≡ 1) ⊎ (version ≡ 2) → (id : ℕ) (rest : List ℕ) → IsBytes rest → IsRead version id rest → (c : AnyCircuit) × CircuitBytes c (76 ∷ file_letter ∷ 67 ∷ (48 + version) ∷ id ∷ rest)
circuit_of version known id rest fits (inl (w, is, e)) =
    let made = some_file gold.ops p (λ x. x.n) gold.of_number element_bytes gold.laws field_byte version known rest w fits e in
    (Gold made.0, subst (λ n. IsFile gold.ops (λ x. x.n) goldilocks made.0 (76 ∷ file_letter ∷ 67 ∷ (48 + version) ∷ n ∷ rest)) (sym is) made.1)
circuit_of version known id rest fits (inr (w, is, e)) =
    let made = some_file gf.ops (2 ^ 128) (λ x. x.n) gf.of_number 16 gf.laws 2 version known rest w fits e in
    (Gf made.0, subst (λ n. IsFile gf.ops (λ x. x.n) gf128 made.0 (76 ∷ file_letter ∷ 67 ∷ (48 + version) ∷ n ∷ rest)) (sym is) made.1)

found : (bytes : List ℕ) (x : ℕ × Wiring ℕ) → IsBytes bytes → circuit_at bytes ≡ Ok x → (c : AnyCircuit) × CircuitBytes c bytes
found bytes x fits e = let b = begins bytes x e in go b.version b.known b.rest b.is b.read
  where
    behind : (magic id : ℕ) (rest : List ℕ) → bytes ≡ 76 ∷ file_letter ∷ 67 ∷ magic ∷ id ∷ rest → IsBytes rest
    behind magic id rest is =
        let w : IsBytes (76 ∷ file_letter ∷ 67 ∷ magic ∷ id ∷ rest) = subst IsBytes is fits in
        IsBytes-rest id rest (IsBytes-rest magic (id ∷ rest) (IsBytes-rest 67 (magic ∷ id ∷ rest) (IsBytes-rest file_letter (67 ∷ magic ∷ id ∷ rest) (IsBytes-rest 76 (file_letter ∷ 67 ∷ magic ∷ id ∷ rest) w))))

    go : (version : ℕ) → (version ≡ 1) ⊎ (version ≡ 2) → (rest : List ℕ) → bytes ≡ 76 ∷ file_letter ∷ 67 ∷ (48 + version) ∷ rest → field_at version rest ≡ Ok x → (c : AnyCircuit) × CircuitBytes c bytes
    go version known [] is read = absurd cc
    go version known (id ∷ rest) is read =
        let c = circuit_of version known id rest (behind (48 + version) id rest is) (field_read version id rest x read) in
        (c.0, subst (λ bs. CircuitBytes c.0 bs) (sym is) c.1)

pub circuits_total : (bytes : List ℕ) → IsBytes bytes → ((c : AnyCircuit) × CircuitBytes c bytes) ⊎ ((fault : ℕ × ByteKind) × CircuitFaultAt bytes fault.0 fault.1)
circuits_total bytes fits = go (circuit_at bytes) refl
  where
    go : (r : Result (ℕ × Wiring ℕ) Left) → circuit_at bytes ≡ r → ((c : AnyCircuit) × CircuitBytes c bytes) ⊎ ((fault : ℕ × ByteKind) × CircuitFaultAt bytes fault.0 fault.1)
    go (Ok x) e = inl (found bytes x fits e)
    go (Err stop) e = inr ((length bytes - stop.left, stop.kind), fault_found bytes stop.left stop.kind e)

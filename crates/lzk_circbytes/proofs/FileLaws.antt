-- What is read from a circuit's file is the circuit, and a circuit has one file.
use Rattle.std.proofs.Common.{◌≡◌, ◌⊎◌, inl, inr, ℕ, zero, suc, ◌+◌, ◌<◌, ◌≤◌, Bool, true, false, cond, eqb, List, [], ◌∷◌, ◌++◌, length, map, Ok, refl, sym, ap, subst, ◌∙◌, arith, reverse, lit≤}
use mathlib.Core.List.{reverse_aux}
use Rattle.std.specs.Int.{w32, to_le_bytes}
use Rattle.std.specs.List.{list_any, AllByRecursion}
use Rattle.std.proofs.lemmas.Bool.{eqb-true, eq-eqb, or_left, or_right, or_cases}
use Rattle.std.proofs.lemmas.List.{length-reverse, length-map, reverse-reverse}
use Rattle.lzk_profile.specs.Profile.{file_letter}
use Rattle.lzk_circuit.specs.Limits.{most_total}
use Rattle.lzk_field.specs.Ring.{Ops, Laws}
use Rattle.lzk_circuit.specs.declared.layer.Term.{Term}
use Rattle.lzk_circuit.specs.declared.layer.Layer.{Layer}
use Rattle.lzk_circuit.specs.Valid.{Under, above_inputs, under_of, Wiring, wiring_of, input_width, AreLayersOf, IsValid}
use Rattle.lzk_circuit.proofs.VersionLaws.{layers-two}
use Rattle.lzk_circbytes.specs.Numbered.{Shape, shape, is_coefficient, numbered_term, numbered_layer, numbered, coefficients, nonzero, coefs_of, ascending, constants_of}
use Rattle.lzk_circbytes.specs.Reading.{wiring_at}
use Rattle.lzk_circbytes.specs.Spelling.{tail_bytes, file_bytes, file_of, constants_bytes, layers_bytes}
use Rattle.lzk_circbytes.specs.Files.{IsFile}
use Rattle.lzk_circbytes.specs.Fits.{FitsWiring}
use Rattle.lzk_circbytes.proofs.Steps.{IsBytes}
use Rattle.lzk_circbytes.proofs.Ascending.{Above, Has, above_each, Has-from_Contains, Contains-from_Has, same_list, has-ascending, Above-ascending, length-ascending, Above-from_increasing, increasing-from_Above}
use Rattle.lzk_circbytes.proofs.Validity.{Above-constants, constants-from_Above, under_same, layers_valid, layers_fit}
use Rattle.lzk_circbytes.proofs.Coefficients.{has-coefficients, is_coefficient-reverse, nonzero_to, nonzero_from, nonzero_length, layers_in, length-coefficients, IsNumber, layers_small, layers_some, layers_are_in}
use Rattle.lzk_circbytes.proofs.Wirings.{pieces, wiring_take, wiring_again}

map-reverse_aux : {A B : Type 0} (f : A → B) (xs ys : List A) → map f (reverse_aux xs ys) ≡ reverse_aux (map f xs) (map f ys)
map-reverse_aux f [] ys = refl
map-reverse_aux f (x ∷ xs) ys = map-reverse_aux f xs (x ∷ ys)

pub map-reverse : {A B : Type 0} (f : A → B) (xs : List A) → map f (reverse xs) ≡ reverse (map f xs)
map-reverse f xs = map-reverse_aux f xs []

-- the fields behind the field's byte, with the layers turned
pieces-tail : (s : Shape) (w : Wiring ℕ) (cs : List ℕ) → pieces s w.version w.publics w.privates (reverse w.layers) cs ≡ tail_bytes s w cs
pieces-tail s w cs =
    ap (λ (n : ℕ). to_le_bytes w32 w.publics ++ (to_le_bytes w32 w.privates ++ (to_le_bytes w32 n ++ (to_le_bytes w32 (length cs)
    ++ (constants_bytes s cs ++ layers_bytes (coefs_of w.version cs) (1 + w.publics + w.privates) (reverse w.layers)))))) (length-reverse w.layers)

pub all_numbers : (xs : List ℕ) → ((n : ℕ) → Has xs n → 0 < n) → AllByRecursion (λ n. 0 < n) xs
all_numbers [] h = tt
all_numbers (x ∷ xs) h =
    (h x (or_left (eqb x x) (list_any (eqb x) xs) (eq-eqb x x refl)), all_numbers xs (λ n e. h n (or_right (eqb n x) (list_any (eqb n) xs) e)))

-- a number other than 0 that is there is a constant
coefs_without : (version : ℕ) (cs : List ℕ) (n : ℕ) → 0 < n → Has (coefs_of version cs) n → Has cs n
coefs_without version cs n some = go (eqb version 2)
  where
    go : (b : Bool) → Has (cond b (0 ∷ cs) cs) n → Has cs n
    go true h = elim (or_cases (eqb n 0) (list_any (eqb n) cs) h) [ inl same ↦ absurd (omega (arith, some, eqb-true n 0 same)) | inr later ↦ later ]
    go false h = h

top_terms : {A : Type 0} (o : Ops A) (version inputs : ℕ) (layers : List (Layer A)) → AreLayersOf o version inputs layers → (under_of inputs layers).terms ≤ most_total
top_terms o version inputs [] h = lit≤ tt
top_terms o version inputs (layer ∷ layers) h = h.0.terms

module _ {A : Type 0} (o : Ops A) (size : ℕ) (number : A → ℕ) (element : ℕ → A) (bytes : ℕ) (laws : Laws o size number element bytes) (id : ℕ) where
  -- a circuit of its numbers
  back_term : Term ℕ → Term A
  back_term t = record { g = t.g; a = t.a; b = t.b; coef = element t.coef }

  back_layer : Layer ℕ → Layer A
  back_layer layer = record { wires = layer.wires; terms = map back_term layer.terms }

  back : Wiring ℕ → Wiring A
  back w = wiring_of w.version w.publics w.privates (map back_layer w.layers)

  terms_back : (ts : List (Term A)) → map back_term (map (numbered_term number) ts) ≡ ts
  unfolding back_term
  terms_back [] = refl
  terms_back (t ∷ ts) =
      let e : element (number t.coef) ≡ t.coef = laws.numbers.element_number t.coef in
      ap (λ (c : A). record { g = t.g; a = t.a; b = t.b; coef = c } ∷ map back_term (map (numbered_term number) ts)) e ∙ ap (λ us. t ∷ us) (terms_back ts)

  layers_back : (layers : List (Layer A)) → map back_layer (map (numbered_layer number) layers) ≡ layers
  unfolding back_layer
  layers_back [] = refl
  layers_back (layer ∷ layers) =
      ap (λ (ts : List (Term A)). record { wires = layer.wires; terms = ts } ∷ map back_layer (map (numbered_layer number) layers)) (terms_back layer.terms)
      ∙ ap (λ ls. layer ∷ ls) (layers_back layers)

  back_numbered : (c : Wiring A) → back (numbered number c) ≡ c
  unfolding back
  back_numbered c = ap (λ (ls : List (Layer A)). wiring_of c.version c.publics c.privates ls) (layers_back c.layers)

  -- a circuit is what its numbers are
  pub same_numbers : (c d : Wiring A) → numbered number c ≡ numbered number d → c ≡ d
  same_numbers c d e = sym (back_numbered c) ∙ ap back e ∙ back_numbered d

  abbrev here : Shape
  here = shape id bytes size

  -- ---- what a file's constants are

  pub coefficients_small : (c : Wiring A) → (n : ℕ) → Has (nonzero (coefficients (numbered number c).layers)) n → IsNumber o size number element bytes laws n
  coefficients_small c n e =
      let h = nonzero_to (coefficients (numbered number c).layers) n e in
      record { some = h.0; below = layers_small o size number element bytes laws c.layers n (sym (has-coefficients (numbered number c).layers n) ∙ h.1) }

  -- the ascending constants with these members
  pub one_list : (c : Wiring A) → (cs : List ℕ) → Above 0 cs → ((n : ℕ) → Has cs n → Has (nonzero (coefficients (numbered number c).layers)) n) → ((n : ℕ) → Has (nonzero (coefficients (numbered number c).layers)) n → Has cs n)
      → cs ≡ constants_of (numbered number c)
  one_list c cs up to from =
      let ks = nonzero (coefficients (numbered number c).layers) in
      same_list 0 cs (ascending ks) up (Above-ascending ks (all_numbers ks (λ n e. (coefficients_small c n e).some)))
      (λ n e. has-ascending ks n ∙ to n e) (λ n e. from n (sym (has-ascending ks n) ∙ e))

  above_zero : (c : Wiring A) (file : List ℕ) (f : IsFile o number here c file) → Above 0 f.constants
  above_zero c file f =
      Above-from_increasing 0 f.constants
      (all_numbers f.constants (λ n e. (coefficients_small c n (Has-from_Contains _ n ((f.exact n).0 (Contains-from_Has f.constants n e)))).some)) f.ascending

  pub constants_are : (c : Wiring A) (file : List ℕ) (f : IsFile o number here c file) → f.constants ≡ constants_of (numbered number c)
  constants_are c file f =
      one_list c f.constants (above_zero c file f)
      (λ n e. Has-from_Contains _ n ((f.exact n).0 (Contains-from_Has f.constants n e)))
      (λ n e. Has-from_Contains _ n ((f.exact n).1 (Contains-from_Has _ n e)))

  -- a circuit's file is the one
  pub file_is : (c : Wiring A) (file : List ℕ) → IsFile o number here c file → file ≡ file_of here (numbered number c)
  file_is c file f = f.bytes_are ∙ ap (file_bytes here (numbered number c)) (constants_are c file f)

  -- ---- a file fits

  pub few_constants : (c : Wiring A) → IsValid o c → length (constants_of (numbered number c)) ≤ most_total
  few_constants c valid =
      let ls = (numbered number c).layers in
      omega (arith, length-ascending (nonzero (coefficients ls)), nonzero_length (coefficients ls), length-coefficients (input_width c) ls, ap (λ (u : Under). u.terms) (under_same o number size element bytes laws.numbers c.version (input_width c) c.layers), top_terms o c.version (input_width c) c.layers valid.layers)

  -- each coefficient is one that a term's last number counts among
  pub coefs_have : (c : Wiring A) → IsValid o c → (cs : List ℕ) → ((n : ℕ) → Has (nonzero (coefficients (numbered number c).layers)) n → Has cs n)
      → (n : ℕ) → is_coefficient (map (numbered_layer number) c.layers) n ≡ true → Has (coefs_of c.version cs) n
  coefs_have c valid cs from n e = elim valid.version [
    | inl one ↦
        let some = layers_some o size number element bytes laws (input_width c) c.layers (subst (λ v. AreLayersOf o v (input_width c) c.layers) one valid.layers) n e in
        subst (λ v. Has (coefs_of v cs) n) (sym one) (from n (nonzero_from (coefficients (numbered number c).layers) n some (has-coefficients (numbered number c).layers n ∙ e)))
    | inr two ↦ subst (λ v. Has (coefs_of v cs) n) (sym two) (with_zero n (has-coefficients (numbered number c).layers n ∙ e))
  ]
    where
      with_zero : (n : ℕ) → Has (coefficients (numbered number c).layers) n → Has (0 ∷ cs) n
      with_zero zero h = refl
      with_zero (suc n) h = or_right (eqb (suc n) 0) (list_any (eqb (suc n)) cs) (from (suc n) (nonzero_from (coefficients (numbered number c).layers) (suc n) (omega arith) h))

  pub fits_from_file : (c : Wiring A) (file : List ℕ) (f : IsFile o number here c file) → FitsWiring here c.version c.publics c.privates (reverse (numbered number c).layers) f.constants
  fits_from_file c file f =
      let ls = (numbered number c).layers in
      let cs = f.constants in
      let to : (n : ℕ) → Has cs n → Has (nonzero (coefficients ls)) n = λ n e. Has-from_Contains _ n ((f.exact n).0 (Contains-from_Has cs n e)) in
      let from : (n : ℕ) → Has (nonzero (coefficients ls)) n → Has cs n = λ n e. Has-from_Contains _ n ((f.exact n).1 (Contains-from_Has _ n e)) in
      let in_cs = layers_are_in o size number element bytes laws (coefs_of c.version cs) c.layers (coefs_have c f.valid cs from) in
      record {
        few_publics = f.valid.publics;
        few_privates = f.valid.privates;
        some = omega (arith, f.valid.some, length-reverse ls, length-map c.layers (numbered_layer number));
        depth = omega (arith, f.valid.depth, length-reverse ls, length-map c.layers (numbered_layer number));
        few_constants = omega (arith, few_constants c f.valid, ap length (constants_are c file f));
        rising = constants-from_Above here 0 cs (above_zero c file f) (λ n e. (coefficients_small c n (to n e)).below);
        each = layers_fit o number size element bytes laws.numbers c.version (coefs_of c.version cs) (input_width c) c.layers [] (layers-two o c.version (input_width c) c.layers f.valid.version f.valid.layers) in_cs tt;
        used = λ n e. let h = nonzero_to (coefficients ls) n (to n e) in is_coefficient-reverse ls n ∙ sym (has-coefficients ls n) ∙ h.1;
      }

  pub wiring_read : (c : Wiring A) (file : List ℕ) (f : IsFile o number here c file) → wiring_at here c.version (tail_bytes here (numbered number c) f.constants) ≡ Ok (numbered number c)
  wiring_read c file f =
      let w = numbered number c in
      ap (wiring_at here c.version) (sym (pieces-tail here w f.constants))
      ∙ wiring_again here laws.numbers.fits c.version c.publics c.privates (reverse w.layers) f.constants (fits_from_file c file f)
      ∙ ap (λ (ls : List (Layer ℕ)). Ok (wiring_of c.version c.publics c.privates ls)) (reverse-reverse w.layers)

  -- ---- what fits is a file

  pub valid_from_fits : (version publics privates : ℕ) (layers : List (Layer A)) (cs : List ℕ) → (version ≡ 1) ⊎ (version ≡ 2) → FitsWiring here version publics privates (map (numbered_layer number) layers) cs → IsValid o (wiring_of version publics privates (reverse layers))
  valid_from_fits version publics privates layers cs is fits = record {
    version = is;
    publics = fits.few_publics;
    privates = fits.few_privates;
    some = omega (arith, fits.some, length-reverse layers, length-map layers (numbered_layer number));
    depth = omega (arith, fits.depth, length-reverse layers, length-map layers (numbered_layer number));
    layers = layers_valid o number size element bytes laws.numbers version cs (Above-constants here 0 cs fits.rising) (1 + publics + privates) layers [] tt fits.each;
  }

  pub file_from_fits : (c : Wiring A) (cs rest : List ℕ) → IsValid o c → FitsWiring here c.version c.publics c.privates (reverse (numbered number c).layers) cs → rest ≡ tail_bytes here (numbered number c) cs
      → IsFile o number here c (76 ∷ file_letter ∷ 67 ∷ (48 + c.version) ∷ id ∷ rest)
  file_from_fits c cs rest valid fits e =
      let ls = (numbered number c).layers in
      let up = Above-constants here 0 cs fits.rising in
      record {
        valid = valid;
        constants = cs;
        ascending = increasing-from_Above 0 cs up;
        exact = λ n. (
          (λ h.
              let has = Has-from_Contains cs n h in
              Contains-from_Has _ n (nonzero_from (coefficients ls) n (above_each 0 cs n up has) (has-coefficients ls n ∙ sym (is_coefficient-reverse ls n) ∙ fits.used n has))),
          (λ h.
              let has = nonzero_to (coefficients ls) n (Has-from_Contains _ n h) in
              Contains-from_Has cs n (coefs_without c.version cs n has.0
              (layers_in (coefs_of c.version cs) (above_inputs (1 + c.publics + c.privates)) (reverse ls) fits.each n (is_coefficient-reverse ls n ∙ sym (has-coefficients ls n) ∙ has.1)))),
        );
        bytes_are = ap (λ (t : List ℕ). 76 ∷ file_letter ∷ 67 ∷ (48 + c.version) ∷ id ∷ t) e;
      }

  -- what was read is a circuit's file
  pub file_from_read : (c : Wiring A) (rest : List ℕ) → IsBytes rest → IsValid o c → wiring_at here c.version rest ≡ Ok (numbered number c) → IsFile o number here c (76 ∷ file_letter ∷ 67 ∷ (48 + c.version) ∷ id ∷ rest)
  file_from_read c rest fits valid e =
      let w = numbered number c in
      let s = wiring_take here c.version rest w fits e in
      let publics : s.publics ≡ c.publics = sym (ap (λ (v : Wiring ℕ). v.publics) s.is) in
      let privates : s.privates ≡ c.privates = sym (ap (λ (v : Wiring ℕ). v.privates) s.is) in
      let layers : s.layers ≡ reverse w.layers = sym (reverse-reverse s.layers) ∙ sym (ap (λ (v : Wiring ℕ). reverse v.layers) s.is) in
      let good : FitsWiring here c.version c.publics c.privates (reverse w.layers) s.cs =
      subst (λ (n : ℕ). FitsWiring here c.version n c.privates (reverse w.layers) s.cs) publics
      (subst (λ (n : ℕ). FitsWiring here c.version s.publics n (reverse w.layers) s.cs) privates
      (subst (λ (ls : List (Layer ℕ)). FitsWiring here c.version s.publics s.privates ls s.cs) layers s.fits)) in
      let bytes_are : rest ≡ pieces here c.version c.publics c.privates (reverse w.layers) s.cs =
      s.bytes_are ∙ ap (λ (n : ℕ). pieces here c.version n s.privates s.layers s.cs) publics ∙ ap (λ (n : ℕ). pieces here c.version c.publics n s.layers s.cs) privates ∙ ap (λ (ls : List (Layer ℕ)). pieces here c.version c.publics c.privates ls s.cs) layers in
      file_from_fits c s.cs rest valid good (bytes_are ∙ pieces-tail here w s.cs)

  -- the circuit that its layers make, where they were read
  pub valid_from_read : (version publics privates : ℕ) (layers : List (Layer A)) (rest : List ℕ) → (version ≡ 1) ⊎ (version ≡ 2) → IsBytes rest
      → wiring_at here version rest ≡ Ok (numbered number (wiring_of version publics privates (reverse layers))) → IsValid o (wiring_of version publics privates (reverse layers))
  valid_from_read version publics privates layers rest vs fits e =
      let w = numbered number (wiring_of version publics privates (reverse layers)) in
      let s = wiring_take here version rest w fits e in
      let mapped : map (numbered_layer number) (reverse layers) ≡ reverse (map (numbered_layer number) layers) = map-reverse (numbered_layer number) layers in
      let p : s.publics ≡ publics = sym (ap (λ (v : Wiring ℕ). v.publics) s.is) in
      let q : s.privates ≡ privates = sym (ap (λ (v : Wiring ℕ). v.privates) s.is) in
      let r : s.layers ≡ map (numbered_layer number) layers =
      sym (reverse-reverse s.layers) ∙ sym (ap (λ (v : Wiring ℕ). reverse v.layers) s.is) ∙ ap reverse mapped ∙ reverse-reverse (map (numbered_layer number) layers) in
      let good : FitsWiring here version publics privates (map (numbered_layer number) layers) s.cs =
      subst (λ (n : ℕ). FitsWiring here version n privates (map (numbered_layer number) layers) s.cs) p
      (subst (λ (n : ℕ). FitsWiring here version s.publics n (map (numbered_layer number) layers) s.cs) q
      (subst (λ (ls : List (Layer ℕ)). FitsWiring here version s.publics s.privates ls s.cs) r s.fits)) in
      valid_from_fits version publics privates layers s.cs vs good

-- The file of a valid circuit, as it is written.
use Rattle.std.proofs.Common.{◌≡◌, ◌≢◌, inl, inr, ℕ, ◌+◌, ◌<◌, ◌≤◌, Bool, true, false, cond, eqb, List, [], ◌∷◌, ◌++◌, length, map, Option, None, Some, refl, sym, ap, subst, ◌∙◌, append_assoc, arith, reverse}
use Rattle.std.specs.Prelude.{Contains, IsPermutation, IsSorted, nat_eq}
use Rattle.std.specs.Int.{w32, to_le_bytes}
use Rattle.std.specs.List.{dedup, list_any}
use Rattle.std.proofs.lemmas.Bool.{eqb-true, eqb-false, or_right, or_cases}
use Rattle.std.specs.List.Retain.{IsFiltered, DiffersFromLast}
use Rattle.std.specs.List.Sorted.{IsStrictlyIncreasing}
use Rattle.std.specs.Ordering.{nat_cmp}
use Rattle.std.proofs.lemmas.List.{length-map}
use Rattle.std.proofs.lemmas.List.Filters.{dedup_is}
use Rattle.std.proofs.lemmas.List.Kept.{Contains-dedup_nat, Contains-from_dedup}
use Rattle.std.proofs.lemmas.List.Sorted.{Contains-permutation, IsPermutation-sym}
use Rattle.std.proofs.lemmas.Map.Keys.{IsStrictlyIncreasing-dedup}
use Rattle.lzk_circuit.specs.Limits.{most_total}
use Rattle.lzk_profile.specs.Profile.{file_letter}
use Rattle.lzk_field.specs.Ring.{Ops, Laws}
use Rattle.lzk_circuit.specs.declared.layer.Term.{Term}
use Rattle.lzk_circuit.specs.declared.layer.Layer.{Layer}
use Rattle.lzk_circuit.specs.Valid.{under_of, Wiring, input_width, AreLayersOf, IsValid}
use Rattle.lzk_circuit.proofs.VersionLaws.{layers-two}
use Rattle.lzk_circbytes.specs.Numbered.{Shape, shape, numbered_term, numbered_layer, numbered, coefficients, nonzero, coefs_of, ascending, constants_of}
use Rattle.lzk_circbytes.specs.Reading.{as_before}
use Rattle.lzk_circbytes.specs.Spelling.{file_bytes, file_of, constants_bytes, layers_bytes}
use Rattle.lzk_circbytes.specs.Fits.{FitAlong, FitsTerm, CanWrite, CanWriteLayers, head_bytes}
use Rattle.lzk_circbytes.specs.Files.{IsFile}
use Rattle.lzk_circbytes.specs.Recent.{HaveSame}
use Rattle.lzk_circbytes.proofs.Ascending.{Above, above_each, rises, Has, Has-from_Contains, Contains-from_Has, has-ascending, Above-ascending, same_list, Above-from_increasing, increasing-from_Above}
use Rattle.lzk_circbytes.proofs.Validity.{AreAllIn, terms_fit}
use Rattle.lzk_circbytes.proofs.Coefficients.{has-coefficients, nonzero_to, nonzero_from, layers_some, layers_are_in}
use Rattle.lzk_circbytes.proofs.FileLaws.{coefficients_small, all_numbers, few_constants, coefs_have}
use Rattle.lzk_circbytes.proofs.Bodies.{coefs_rise}
use Rattle.lzk_circbytes.proofs.Wirings.{coefs_few}
use Rattle.lzk_circbytes.proofs.Written.{layers_bytes_state}

-- what a sort and a `dedup` leave of the same numbers
rising_members : (ks met sorted out : List ℕ) → HaveSame met ks → IsPermutation met sorted → IsSorted nat_cmp sorted → IsFiltered (DiffersFromLast nat_eq) [] sorted out
    → IsStrictlyIncreasing out × ((n : ℕ) → Has out n → Has ks n) × ((n : ℕ) → Has ks n → Has out n)
rising_members ks met sorted out same moved in_order kept =
    let is : out ≡ dedup eqb sorted = dedup_is eqb sorted out kept in
    let rising : IsStrictlyIncreasing out = subst IsStrictlyIncreasing (sym is) (IsStrictlyIncreasing-dedup sorted in_order) in
    let to : (n : ℕ) → Has out n → Has ks n =
    λ n h. sym (same n) ∙ Has-from_Contains met n (Contains-permutation sorted met n (IsPermutation-sym met sorted moved) (Contains-from_dedup eqb sorted n (subst (λ (xs : List ℕ). Contains xs n) is (Contains-from_Has out n h)))) in
    let from : (n : ℕ) → Has ks n → Has out n =
    λ n h. Has-from_Contains out n (subst (λ (xs : List ℕ). Contains xs n) (sym is) (Contains-dedup_nat sorted n (Contains-permutation met sorted n moved (Contains-from_Has met n (same n ∙ h))))) in
    (rising, to, from)

-- a list that rises, and has 0 and the same others
zero_first : (ks out : List ℕ) → IsStrictlyIncreasing out → ((n : ℕ) → Has out n → Has (0 ∷ ks) n) → ((n : ℕ) → Has (0 ∷ ks) n → Has out n) → out ≡ 0 ∷ ascending (nonzero ks)
zero_first ks [] rising to from = absurd (let e : false ≡ true = from 0 refl in cc)
zero_first ks (x ∷ xs) rising to from =
    let up = rises x xs rising in
    let first : x ≡ 0 = elim (or_cases (eqb 0 x) (list_any (eqb 0) xs) (from 0 refl)) [ inl same ↦ sym (eqb-true 0 x same) | inr later ↦ absurd (omega (arith, above_each x xs 0 up later)) ] in
    let up' : Above 0 xs = subst (λ k. Above k xs) first up in
    let ns = nonzero ks in
    let rest = same_list 0 xs (ascending ns) up' (Above-ascending ns (all_numbers ns (λ n h. let m = nonzero_to ks n h in m.0)))
    (λ n h.
    let some = above_each 0 xs n up' h in
    has-ascending ns n ∙ nonzero_from ks n some (elim (or_cases (eqb n 0) (list_any (eqb n) ks) (to n (or_right (eqb n x) (list_any (eqb n) xs) h))) [ inl same ↦ absurd (omega (arith, some, eqb-true n 0 same)) | inr later ↦ later ]))
    (λ n h.
    let m = nonzero_to ks n (sym (has-ascending ns n) ∙ h) in
    elim (or_cases (eqb n x) (list_any (eqb n) xs) (from n (or_right (eqb n 0) (list_any (eqb n) ks) m.1))) [ inl same ↦ absurd (let some = m.0 in omega (arith, some, eqb-true n x same, first)) | inr later ↦ later ]) in
    ap (λ k. k ∷ xs) first ∙ ap (λ ys. 0 ∷ ys) rest

none_zero : (ks out : List ℕ) → ((n : ℕ) → Has ks n → 0 < n) → IsStrictlyIncreasing out → ((n : ℕ) → Has out n → Has ks n) → ((n : ℕ) → Has ks n → Has out n) → out ≡ ascending (nonzero ks)
none_zero ks out some rising to from =
    let ns = nonzero ks in
    same_list 0 out (ascending ns) (Above-from_increasing 0 out (all_numbers out (λ n h. some n (to n h))) rising) (Above-ascending ns (all_numbers ns (λ n h. let m = nonzero_to ks n h in m.0)))
    (λ n h. has-ascending ns n ∙ nonzero_from ks n (some n (to n h)) (to n h)) (λ n h. let m = nonzero_to ks n (sym (has-ascending ns n) ∙ h) in from n m.1)

-- the same for the numbers of a circuit of either version
pub coefs_made : (version : ℕ) (ks met sorted out : List ℕ) → (version ≢ 2 → (n : ℕ) → Has ks n → 0 < n) → HaveSame met (coefs_of version ks) → IsPermutation met sorted → IsSorted nat_cmp sorted
    → IsFiltered (DiffersFromLast nat_eq) [] sorted out → out ≡ coefs_of version (ascending (nonzero ks))
coefs_made version ks met sorted out some same moved in_order kept =
    let h = rising_members (coefs_of version ks) met sorted out same moved in_order kept in
    go (eqb version 2) refl h.0 h.1 h.2
  where
    go : (b : Bool) → eqb version 2 ≡ b → IsStrictlyIncreasing out → ((n : ℕ) → Has out n → Has (cond b (0 ∷ ks) ks) n) → ((n : ℕ) → Has (cond b (0 ∷ ks) ks) n → Has out n)
        → out ≡ cond b (0 ∷ ascending (nonzero ks)) (ascending (nonzero ks))
    go true e rising to from = zero_first ks out rising to from
    go false e rising to from = none_zero ks out (some (eqb-false version 2 e)) rising to from

can_write : (cs : List ℕ) (wires below : ℕ) (before : Option (Term ℕ)) (ts : List (Term ℕ)) → FitAlong as_before (FitsTerm cs wires below) before ts → FitAlong as_before (CanWrite cs) before ts
can_write cs wires below before [] h = tt
can_write cs wires below before (t ∷ ts) h = (record { rising = h.0.rising; a = h.0.a; number = h.0.number }, can_write cs wires below (Some t) ts h.1)

-- the parts before the layers, one after the other
pub head_assembled : (s : Shape) (w : Wiring ℕ) (cs o o0 o1 o2 o3 o4 o5 : List ℕ) → o0 ≡ o ++ 76 ∷ file_letter ∷ 67 ∷ (48 + w.version) ∷ s.id ∷ [] → o1 ≡ o0 ++ to_le_bytes w32 w.publics → o2 ≡ o1 ++ to_le_bytes w32 w.privates
    → o3 ≡ o2 ++ to_le_bytes w32 (length w.layers) → o4 ≡ o3 ++ to_le_bytes w32 (length cs) → o5 ≡ o4 ++ constants_bytes s cs → o5 ≡ o ++ head_bytes s w cs
head_assembled s w cs o o0 o1 o2 o3 o4 o5 e0 e1 e2 e3 e4 e5 =
    let m : List ℕ = 76 ∷ file_letter ∷ 67 ∷ (48 + w.version) ∷ s.id ∷ [] in
    let a = to_le_bytes w32 w.publics in
    let b = to_le_bytes w32 w.privates in
    let c = to_le_bytes w32 (length w.layers) in
    let d = to_le_bytes w32 (length cs) in
    let k = constants_bytes s cs in
    e5 ∙ ap (λ (x : List ℕ). x ++ k) (e4 ∙ ap (λ (x : List ℕ). x ++ d) (e3 ∙ ap (λ (x : List ℕ). x ++ c) (e2 ∙ ap (λ (x : List ℕ). x ++ b) (e1 ∙ ap (λ (x : List ℕ). x ++ a) e0)))) ∙ regroup o m a b c d k
  where
    regroup : (o' m' a' b' c' d' k' : List ℕ) → (((((o' ++ m') ++ a') ++ b') ++ c') ++ d') ++ k' ≡ o' ++ (m' ++ (a' ++ (b' ++ (c' ++ (d' ++ k')))))
    regroup o' m' a' b' c' d' k' = simp append_assoc

-- a file is what stands before the layers, and the layers
pub file_parts : (s : Shape) (w : Wiring ℕ) (cs : List ℕ) → head_bytes s w cs ++ layers_bytes (coefs_of w.version cs) 0 (reverse w.layers) ≡ file_bytes s w cs
file_parts s w cs =
    let m : List ℕ = 76 ∷ file_letter ∷ 67 ∷ (48 + w.version) ∷ s.id ∷ [] in
    let a = to_le_bytes w32 w.publics in
    let b = to_le_bytes w32 w.privates in
    let c = to_le_bytes w32 (length w.layers) in
    let d = to_le_bytes w32 (length cs) in
    let k = constants_bytes s cs in
    regroup m a b c d k (layers_bytes (coefs_of w.version cs) 0 (reverse w.layers)) ∙ ap (λ (x : List ℕ). m ++ (a ++ (b ++ (c ++ (d ++ (k ++ x)))))) (layers_bytes_state (coefs_of w.version cs) 0 (1 + w.publics + w.privates) (reverse w.layers))
  where
    regroup : (m' a' b' c' d' k' l' : List ℕ) → (m' ++ (a' ++ (b' ++ (c' ++ (d' ++ k'))))) ++ l' ≡ m' ++ (a' ++ (b' ++ (c' ++ (d' ++ (k' ++ l')))))
    regroup m' a' b' c' d' k' l' = simp append_assoc

module _ {A : Type 0} (o : Ops A) (size : ℕ) (number : A → ℕ) (element : ℕ → A) (bytes : ℕ) (laws : Laws o size number element bytes) (id : ℕ) where
  pub coefficients_some : (c : Wiring A) → IsValid o c → c.version ≢ 2 → (n : ℕ) → Has (coefficients (numbered number c).layers) n → 0 < n
  coefficients_some c valid other n h = elim valid.version [
    | inl one ↦ layers_some o size number element bytes laws (input_width c) c.layers (subst (λ v. AreLayersOf o v (input_width c) c.layers) one valid.layers) n (sym (has-coefficients (numbered number c).layers n) ∙ h)
    | inr two ↦ absurd (other two)
  ]

  layers_can : (cs : List ℕ) (inputs : ℕ) (layers : List (Layer A)) → AreLayersOf o 2 inputs layers → AreAllIn o number cs layers → CanWriteLayers cs (map (numbered_layer number) layers)
  layers_can cs inputs [] valid in_cs = tt
  layers_can cs inputs (layer ∷ layers) valid in_cs =
      let under = under_of inputs layers in (
        can_write cs layer.wires under.width None (map (numbered_term number) layer.terms) (terms_fit o number size element bytes laws.numbers 2 cs layer.wires under.width None layer.terms valid.0.each valid.0.coefs in_cs.0),
        omega (arith, valid.0.terms, length-map layer.terms (numbered_term number)),
        layers_can cs inputs layers valid.1 in_cs.1,
      )

  pub can_write_layers : (c : Wiring A) → IsValid o c → CanWriteLayers (coefs_of c.version (constants_of (numbered number c))) (map (numbered_layer number) c.layers)
  can_write_layers c valid =
      let cs = constants_of (numbered number c) in
      let ks = coefs_of c.version cs in
      layers_can ks (input_width c) c.layers (layers-two o c.version (input_width c) c.layers valid.version valid.layers)
      (layers_are_in o size number element bytes laws ks c.layers
      (coefs_have o size number element bytes laws id c valid cs (λ n h. has-ascending (nonzero (coefficients (numbered number c).layers)) n ∙ h)))

  constants_above : (c : Wiring A) → Above 0 (constants_of (numbered number c))
  constants_above c =
      let ks = nonzero (coefficients (numbered number c).layers) in
      Above-ascending ks (all_numbers ks (λ n h. (coefficients_small o size number element bytes laws id c n h).some))

  pub constants_rise : (c : Wiring A) → IsStrictlyIncreasing (coefs_of c.version (constants_of (numbered number c)))
  constants_rise c = coefs_rise c.version (constants_of (numbered number c)) (constants_above c)

  pub few : (c : Wiring A) → IsValid o c → length (constants_of (numbered number c)) ≤ most_total
  few c valid = few_constants o size number element bytes laws id c valid

  pub few_coefs : (c : Wiring A) → IsValid o c → length (coefs_of c.version (constants_of (numbered number c))) ≤ most_total + 1
  few_coefs c valid = omega (arith, few c valid, coefs_few c.version (constants_of (numbered number c)))

  -- the one file of a valid circuit is its file
  pub file_of-IsFile : (c : Wiring A) → IsValid o c → IsFile o number (shape id bytes size) c (file_of (shape id bytes size) (numbered number c))
  file_of-IsFile c valid =
      let ks = nonzero (coefficients (numbered number c).layers) in
      record {
        valid = valid;
        constants = ascending ks;
        ascending = increasing-from_Above 0 (ascending ks) (constants_above c);
        exact = λ n. (
          (λ h. Contains-from_Has ks n (sym (has-ascending ks n) ∙ Has-from_Contains (ascending ks) n h)),
          (λ h. Contains-from_Has (ascending ks) n (has-ascending ks n ∙ Has-from_Contains ks n h)),
        );
        bytes_are = refl;
      }

-- The levels of a circuit, and two of them side by side.
use Rattle.std.specs.Prelude.{◌≡◌, ℕ, ◌+◌, ◌-◌, ◌<◌, ◌≤◌, true, false, Some, None, List, [], ◌∷◌, ◌++◌, length, drop, slice_get}
use Rattle.std.proofs.Common.{zero, suc, refl, inl, inr, sym, ap, ◌∙◌, arith, subst, get_or}
use Rattle.std.proofs.lemmas.Bool.{cases_lt}
use Rattle.std.proofs.lemmas.List.{drop_more, drop_all, ext_get_or, get_or_append_left, get_or-append-add, length-append}
use Rattle.std.proofs.lemmas.List.FromFn.{length-map-range_with_len, get_or-map-range_with_len}
use Rattle.std.proofs.lemmas.Option.{slice_get_within, get_or_from_slice_get}
use Rattle.lzk_field.specs.Ring.{Ops, Laws}
use Rattle.lzk_field.specs.Sums.{entry}
use Rattle.lzk_circuit.specs.declared.layer.Term.{Term}
use Rattle.lzk_circuit.specs.declared.layer.Layer.{Layer}
use Rattle.lzk_circuit.specs.Limits.{most_wires}
use Rattle.lzk_circuit.specs.Checks.{asserted}
use Rattle.lzk_circuit.specs.Valid.{Wiring, wiring_of, input_width, under_of, ArePlaced, MayEachStand, IsLayerOf, AreLayersOf, IsValid}
use Rattle.lzk_circuit.specs.Wires.{coef, wire, wires_of, layer_values, weighed}
use Rattle.lzk_circuit.proofs.PlaceLaws.{layer-at}
use Rattle.lzk_circuit.proofs.VersionLaws.{layers-two, upgraded-valid}
use Rattle.lzk_circuit_beside.specs.Asserts.{is_asserted, first_asserted, first_asserts, first_sum, HasLone}
use Rattle.lzk_circuit_beside.specs.Levels.{first_wires, first_terms, level_wires, level_terms}
use Rattle.lzk_circuit_beside.proofs.AssertLaws.{IsOneOf, layer-parts, has-lone, asserted-within, asserted-none}
use Rattle.lzk_circuit_beside.proofs.RowLaws.{true-false}

module _ {A : Type 0} where
  pub under-first : (n : ℕ) (layers : List (Layer A)) → (under_of n layers).width ≡ first_wires n layers
  under-first n [] = refl
  under-first n (layer ∷ layers) = refl

module _ {A : Type 0} (o : Ops A) where
  -- what is known of a layer of a circuit
  pub record LayerAt (c : Wiring A) (l : ℕ) (layer : Layer A) : Type 0 where
    pub drops : drop l c.layers ≡ layer ∷ drop (l + 1) c.layers
    pub terms : ArePlaced layer.wires (level_wires c (l + 1)) None layer.terms
    pub coefs : MayEachStand o 2 None layer.terms
    pub first : c.version ≡ 1 → MayEachStand o 1 None layer.terms
    pub wires : level_wires c l ≡ layer.wires
    pub size : level_terms c l ≡ length layer.terms
    pub most : layer.wires ≤ most_wires

  abbrev upgraded : Wiring A → Wiring A
  upgraded c = wiring_of 2 c.publics c.privates c.layers

  layer-is : (c : Wiring A) (l : ℕ) (layer : Layer A) → IsValid o c → slice_get c.layers l ≡ Some layer → IsLayerOf o c.version (under_of (input_width c) (drop (l + 1) c.layers)) layer
  layer-is c l layer valid is =
      let within = slice_get_within c.layers l layer is in
      subst (λ x. IsLayerOf o c.version (under_of (input_width c) (drop (l + 1) c.layers)) x) (get_or_from_slice_get c.layers l layer layer is) (layer-at o c l layer within valid)

  pub layer-of : (c : Wiring A) (l : ℕ) (layer : Layer A) → IsValid o c → slice_get c.layers l ≡ Some layer → LayerAt c l layer
  layer-of c l layer valid is =
      let within = slice_get_within c.layers l layer is in
      let same : get_or c.layers l layer ≡ layer = get_or_from_slice_get c.layers l layer layer is in
      let drops : drop l c.layers ≡ layer ∷ drop (l + 1) c.layers = drop_more c.layers l layer within ∙ ap (λ x. x ∷ drop (l + 1) c.layers) same in
      let h = layer-is c l layer valid is in
      let h2 = layer-is (upgraded c) l layer (upgraded-valid o c valid) is in
      record {
        drops = drops;
        terms = subst (λ w. ArePlaced layer.wires w None layer.terms) (under-first (input_width c) (drop (l + 1) c.layers)) h.each;
        coefs = h2.coefs;
        first = λ one. subst (λ v. MayEachStand o v None layer.terms) one h.coefs;
        wires = ap (first_wires (input_width c)) drops;
        size = ap (first_terms (input_width c)) drops;
        most = h.most;
      }

  -- past the last layer stand the inputs
  pub record PastAt (c : Wiring A) (l : ℕ) : Type 0 where
    pub drops : drop l c.layers ≡ []
    pub after : drop (l + 1) c.layers ≡ []
    pub wires : level_wires c l ≡ input_width c
    pub size : level_terms c l ≡ input_width c
    pub below : level_wires c (l + 1) ≡ input_width c

  pub past : (c : Wiring A) (l : ℕ) → length c.layers ≤ l → PastAt c l
  past c l h =
      let drops : drop l c.layers ≡ [] = drop_all l c.layers h in
      let after : drop (l + 1) c.layers ≡ [] = drop_all (l + 1) c.layers (omega (arith, h)) in
      record {
        drops = drops;
        after = after;
        wires = ap (first_wires (input_width c)) drops;
        size = ap (first_terms (input_width c)) drops;
        below = ap (first_wires (input_width c)) after;
      }

  pub wires-count : (layers : List (Layer A)) (inputs : List A) (n : ℕ) → length inputs ≡ n → length (wires_of o layers inputs) ≡ first_wires n layers
  wires-count [] inputs n e = e
  wires-count (layer ∷ layers) inputs n e = length-map-range_with_len (wire o (coef o layer.terms) (wires_of o layers inputs)) 0 layer.wires

  pub layer-entry : (layer : Layer A) (below : List A) (g : ℕ) → g < layer.wires → entry o (layer_values o layer below) g ≡ wire o (coef o layer.terms) below g
  layer-entry layer below g l = get_or-map-range_with_len (wire o (coef o layer.terms) below) 0 layer.wires g g o.zero l (omega arith)

  -- the wires of a layer as those of what stands above
  pub of-layer : (c : Wiring A) (l : ℕ) (layer : Layer A) → LayerAt c l layer → (inputs new : List A) (ts : List (Term A)) (start : ℕ)
      → ((g : ℕ) → g < layer.wires → wire o (coef o ts) new (start + g) ≡ wire o (coef o (weighed o o.one layer.terms)) (wires_of o (drop (l + 1) c.layers) inputs) g)
      → (g : ℕ) → g < layer.wires → wire o (coef o ts) new (start + g) ≡ first_sum o (drop l c.layers) inputs g
  of-layer c l layer at inputs new ts start h g lt = h g lt ∙ ap (λ ls. first_sum o ls inputs g) (sym at.drops)

  -- a layer whose wires are those of two lists, one behind the other
  pub two-blocks : (layer : Layer A) (below xs ys : List A) → layer.wires ≡ length xs + length ys
      → ((g : ℕ) → g < length xs → wire o (coef o layer.terms) below g ≡ entry o xs g)
      → ((g : ℕ) → g < length ys → wire o (coef o layer.terms) below (length xs + g) ≡ entry o ys g)
      → layer_values o layer below ≡ xs ++ ys
  two-blocks layer below xs ys w left right =
      let long : length (layer_values o layer below) ≡ layer.wires = length-map-range_with_len (wire o (coef o layer.terms) below) 0 layer.wires in
      ext_get_or o.zero (layer_values o layer below) (xs ++ ys) (long ∙ w ∙ sym (length-append xs ys)) (λ i l.
      let lt : i < layer.wires = omega (arith, l, long) in
      layer-entry layer below i lt ∙ elim (cases_lt i (length xs)) [
        | inl m ↦ left i m ∙ sym (get_or_append_left xs ys o.zero i m)
        | inr m ↦
            let k = i - length xs in
            let is : length xs + k ≡ i = omega (arith, m) in
            subst (λ j. wire o (coef o layer.terms) below j ≡ entry o (xs ++ ys) j) is (right k (omega (arith, lt, w, m)) ∙ sym (get_or-append-add xs ys k o.zero))
      ])

-- ---- the first of some layers: its wires, and what is asserted of them

module _ {A : Type 0} (o : Ops A) (size : ℕ) (number : A → ℕ) (element : ℕ → A) (bytes : ℕ) (laws : Laws o size number element bytes) where
  -- past the last layer too
  pub level-parts : (c : Wiring A) (l g : ℕ) (inputs : List A) → IsValid o c → length inputs ≡ input_width c → g < level_wires c l
      → IsOneOf o (first_asserted number (drop l c.layers) g) (entry o (wires_of o (drop l c.layers) inputs) g) (first_asserts o (drop l c.layers) inputs g) (first_sum o (drop l c.layers) inputs g)
  level-parts c l g inputs valid n lt =
      go (drop l c.layers) (drop-layers 2 (input_width c) l c.layers (layers-two o c.version (input_width c) c.layers valid.version valid.layers)) lt
    where
      drop-layers : (version n l : ℕ) (layers : List (Layer A)) → AreLayersOf o version n layers → AreLayersOf o version n (drop l layers)
      drop-layers version n zero layers h = h
      drop-layers version n (suc l) [] h = tt
      drop-layers version n (suc l) (layer ∷ layers) h = drop-layers version n l layers h.1

      go : (layers : List (Layer A)) → AreLayersOf o 2 (input_width c) layers → g < first_wires (input_width c) layers
          → IsOneOf o (first_asserted number layers g) (entry o (wires_of o layers inputs) g) (first_asserts o layers inputs g) (first_sum o layers inputs g)
      go [] h l = record { yes = λ e. absurd (true-false false e refl); no = λ e. (refl, refl) }
      go (layer ∷ layers) h l =
          let one = h.0 in
          let below = wires_of o layers inputs in
          let wide : (under_of (input_width c) layers).width ≡ length below = under-first (input_width c) layers ∙ sym (wires-count o layers inputs (input_width c) n) in
          subst (λ w. IsOneOf o (is_asserted number layer.terms g) w (asserted o layer.terms below g) (wire o (coef o (weighed o o.one layer.terms)) below g)) (sym (layer-entry o layer below g l))
          (layer-parts o size number element bytes laws layer.wires layer.terms below g (subst (λ w. ArePlaced layer.wires w None layer.terms) wide one.each) one.coefs)

  pub first-lone : (c : Wiring A) (l g : ℕ) (layer : Layer A) → LayerAt o c l layer → first_asserted number (drop l c.layers) g ≡ true → HasLone o (weighed o o.one layer.terms) g
  first-lone c l g layer at e =
      has-lone o size number element bytes laws layer.wires (level_wires c (l + 1)) g layer.terms at.terms at.coefs (ap (λ ls. first_asserted number ls g) (sym at.drops) ∙ e)

  -- wires past the last are not asserted
  pub first-within : (c : Wiring A) (l g : ℕ) → IsValid o c → level_wires c l ≤ g → first_asserted number (drop l c.layers) g ≡ false
  first-within c l g valid h = go l c.layers valid.layers h
    where
      go : (l : ℕ) (layers : List (Layer A)) → AreLayersOf o c.version (input_width c) layers → first_wires (input_width c) (drop l layers) ≤ g → first_asserted number (drop l layers) g ≡ false
      go zero [] h k = refl
      go zero (layer ∷ layers) h k = let one = h.0 in asserted-within o size number element bytes laws layer.wires (under_of (input_width c) layers).width g None layer.terms one.each k
      go (suc l) [] h k = refl
      go (suc l) (layer ∷ layers) h k = go l layers h.1 k

  -- in version 1 no wire is
  pub first-none : (c : Wiring A) (l g : ℕ) → IsValid o c → c.version ≡ 1 → first_asserted number (drop l c.layers) g ≡ false
  first-none c l g valid e = go l c.layers (subst (λ v. AreLayersOf o v (input_width c) c.layers) e valid.layers)
    where
      go : (l : ℕ) (layers : List (Layer A)) → AreLayersOf o 1 (input_width c) layers → first_asserted number (drop l layers) g ≡ false
      go zero [] h = refl
      go zero (layer ∷ layers) h = let one = h.0 in asserted-none o size number element bytes laws g None layer.terms one.coefs
      go (suc l) [] h = refl
      go (suc l) (layer ∷ layers) h = go l layers h.1

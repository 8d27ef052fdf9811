-- Where all outputs are 0, and what the assertion terms of each layer count for each of its wires, all checks are 0.
use Rattle.std.specs.Prelude.{◌≡◌, ℕ, ◌<◌, ◌+◌, Bool, true, false, cond, Option, None, Some, List, [], ◌∷◌, ◌++◌, length, map, slice_index_or}
use Rattle.std.specs.List.{AllByRecursion, filter, range_with_len}
use Rattle.std.proofs.Common.{zero, suc, inl, inr, refl, sym, ap, ◌∙◌, arith}
use Rattle.std.proofs.lemmas.Bool.{cases_lt}
use Rattle.std.proofs.lemmas.List.{get_or_past, get_or_append_left}
use Rattle.std.proofs.lemmas.List.FromFn.{length-map-range_with_len, get_or-map-range_with_len}
use Rattle.lzk_field.specs.Ring.{Ops, RingLaws}
use Rattle.lzk_field.specs.Sums.{entry}
use Rattle.lzk_circuit.specs.declared.layer.Term.{Term}
use Rattle.lzk_circuit.specs.declared.layer.Layer.{Layer}
use Rattle.lzk_circuit.specs.Checks.{is_assertion, assertion_wires, asserted, output_checks, inner_checks, checks_of, IsSatisfied}
use Rattle.lzk_circuit.specs.Valid.{Wiring, input_width, ArePlaced, AreLayersOf, IsValid}
use Rattle.lzk_circuit.specs.Wires.{coef, wire, wires_of, all_values, inputs_of, list_at}
use Rattle.lzk_circuit.proofs.DepthLaws.{first-values}
use Rattle.lzk_sumcheck.specs.Coefficients.{terms_at}
use Rattle.lzk_layout.specs.Places.{depth, width_at}
use Rattle.lzk_soundness.specs.Sumchecks.Bad.{AreZero}

module _ {A : Type 0} (o : Ops A) where
  join_zero : (xs ys : List A) → AreZero o (entry o xs) → AreZero o (entry o ys) → AreZero o (entry o (xs ++ ys))
  join_zero [] ys p q i = q i
  join_zero (x ∷ xs) ys p q zero = p 0
  join_zero (x ∷ xs) ys p q (suc i) = join_zero xs ys (λ j. p (suc j)) q i

  -- a function's values at numbers below n, where they are 0
  map_zero : (f : ℕ → A) (n : ℕ) (gs : List ℕ) → ((g : ℕ) → g < n → f g ≡ o.zero) → AllByRecursion (λ (g : ℕ). g < n) gs → AreZero o (entry o (map f gs))
  map_zero f n [] z all i = refl
  map_zero f n (g ∷ gs) z all zero = z g all.0
  map_zero f n (g ∷ gs) z all (suc i) = map_zero f n gs z all.1 i

  range_zero : (f : ℕ → A) (n : ℕ) → ((g : ℕ) → g < n → f g ≡ o.zero) → AreZero o (entry o (map f (range_with_len 0 n)))
  range_zero f n z i = elim (cases_lt i n) [
    | inl l ↦ get_or-map-range_with_len f 0 n i i o.zero l (omega arith) ∙ z i l
    | inr l ↦ get_or_past (map f (range_with_len 0 n)) i o.zero (omega (arith, l, length-map-range_with_len f 0 n))
  ]

  -- and back
  range_is_zero : (f : ℕ → A) (n g : ℕ) → g < n → AreZero o (entry o (map f (range_with_len 0 n))) → f g ≡ o.zero
  range_is_zero f n g l z = sym (get_or-map-range_with_len f 0 n g g o.zero l (omega arith)) ∙ z g

  module _ (r : RingLaws o) (number : A → ℕ) where
    -- an assertion wire is one of the layer's
    wires_below : (wires width : ℕ) (before : Option (Term A)) (ts : List (Term A)) → ArePlaced wires width before ts → AllByRecursion (λ (g : ℕ). g < wires) (assertion_wires number ts)
    wires_below wires width before [] placed = tt
    wires_below wires width before (t ∷ ts) placed = go (is_assertion number t) (wires_below wires width (Some t) ts placed.2)
      where
        go : (b : Bool) → AllByRecursion (λ (g : ℕ). g < wires) (assertion_wires number ts)
            → AllByRecursion (λ (g : ℕ). g < wires) (map (λ (t : Term A). t.g) (cond b (t ∷ filter (is_assertion number) ts) (filter (is_assertion number) ts)))
        go true rest = let one = placed.0 in (one.g, rest)
        go false rest = rest

    -- what the assertion terms of each of these layers count is 0
    abbrev AssertedZero : List (Layer A) → List A → Type 0
    AssertedZero layers inputs =
        (l g : ℕ) → l < length layers → g < slice_index_or (map (λ layer. layer.wires) layers) l 0
        → asserted o (slice_index_or (map (λ layer. layer.terms) layers) l []) (list_at (all_values o layers inputs) (l + 1)) g ≡ o.zero

    below_first : (layer : Layer A) (layers : List (Layer A)) (inputs : List A) → AssertedZero (layer ∷ layers) inputs → (g : ℕ) → g < layer.wires → asserted o layer.terms (wires_of o layers inputs) g ≡ o.zero
    below_first layer layers inputs z g h = ap (λ xs. asserted o layer.terms xs g) (sym (first-values o layers inputs)) ∙ z 0 g (omega arith) h

    later : (layer : Layer A) (layers : List (Layer A)) (inputs : List A) → AssertedZero (layer ∷ layers) inputs → AssertedZero layers inputs
    later layer layers inputs z l g h k =
        let next : suc (l + 1) ≡ suc l + 1 = omega arith in
        ap (λ (i : ℕ). asserted o (slice_index_or (map (λ layer. layer.terms) layers) l []) (list_at (all_values o (layer ∷ layers) inputs) i) g) next
        ∙ z (suc l) g (omega (arith, h)) k

    inner_zero : (version n : ℕ) (layers : List (Layer A)) (inputs : List A) → AreLayersOf o version n layers → AssertedZero layers inputs → AreZero o (entry o (inner_checks o number layers inputs))
    inner_zero version n [] inputs valid z = λ i. refl
    inner_zero version n (layer ∷ layers) inputs valid z =
        let one = valid.0 in
        let below = wires_of o layers inputs in
        join_zero (map (asserted o layer.terms below) (assertion_wires number layer.terms)) (inner_checks o number layers inputs)
        (map_zero (asserted o layer.terms below) layer.wires (assertion_wires number layer.terms) (below_first layer layers inputs z) (wires_below layer.wires _ None layer.terms one.each))
        (inner_zero version n layers inputs valid.1 (later layer layers inputs z))

    checks_zero : (version n : ℕ) (layers : List (Layer A)) (inputs : List A) → AreLayersOf o version n layers → AreZero o (entry o (list_at (all_values o layers inputs) 0)) → AssertedZero layers inputs
        → AreZero o (entry o (checks_of o number layers inputs))
    checks_zero version n [] inputs valid outputs z = λ i. refl
    checks_zero version n (layer ∷ layers) inputs valid outputs z =
        let below = wires_of o layers inputs in
        let v = wire o (coef o layer.terms) below in
        let a = asserted o layer.terms below in
        join_zero (output_checks o layer below) (inner_checks o number layers inputs)
        (range_zero (λ g. o.plus (v g) (a g)) layer.wires
        (λ g h. ap (λ x. o.plus x (a g)) (range_is_zero v layer.wires g h outputs) ∙ ap (o.plus o.zero) (below_first layer layers inputs z g h) ∙ r.plus_zero o.zero))
        (inner_zero version n layers inputs valid.1 (later layer layers inputs z))

    -- the tables of all layers are 0
    pub satisfied_by : (c : Wiring A) (public private : List A) → IsValid o c → AreZero o (entry o (list_at (all_values o c.layers (inputs_of o public private)) 0))
        → ((l : ℕ) → l < depth c → AreZero o (entry o (map (asserted o (terms_at c l) (list_at (all_values o c.layers (inputs_of o public private)) (l + 1))) (range_with_len 0 (width_at c l)))))
        → IsSatisfied o number c.layers (inputs_of o public private)
    satisfied_by c public private valid outputs asserts =
        let inputs = inputs_of o public private in
        let V = all_values o c.layers inputs in
        let each : AssertedZero c.layers inputs =
        λ l g h k.
        let wide : slice_index_or (map (λ layer. layer.wires) c.layers) l 0 ≡ width_at c l = sym (get_or_append_left (map (λ layer. layer.wires) c.layers) (input_width c ∷ []) 0 l (omega (arith, h, length_map c.layers))) in
        range_is_zero (asserted o (terms_at c l) (list_at V (l + 1))) (width_at c l) g (omega (arith, k, wide)) (asserts l h) in
        λ g h. checks_zero c.version (input_width c) c.layers inputs valid.layers outputs each g
      where
        length_map : (layers : List (Layer A)) → length (map (λ layer. layer.wires) layers) ≡ length layers
        length_map [] = refl
        length_map (x ∷ xs) = ap suc (length_map xs)

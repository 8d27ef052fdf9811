-- The checks of two circuits side by side, in version 1.
use Rattle.std.specs.Prelude.{◌≡◌, ℕ, zero, suc, ◌+◌, ◌-◌, ◌<◌, ◌↔◌, true, false, cond, Bool, Some, None, Option, List, [], ◌∷◌, ◌++◌, length, map}
use Rattle.std.proofs.Common.{inl, inr, sym, ap, ◌∙◌, arith, subst, get_or}
use Rattle.std.specs.List.{filter}
use Rattle.std.proofs.Math.ListN.{get_or-eq_default}
use Rattle.std.proofs.lemmas.Bool.{cases_lt}
use Rattle.std.proofs.lemmas.List.{length-append, length-map, get_or_append_left, get_or-append-add}
use Rattle.std.proofs.lemmas.List.FromFn.{length-map-range_with_len, get_or-map-range_with_len}
use Rattle.lzk_field.specs.Ring.{Ops, RingLaws, Laws}
use Rattle.lzk_field.specs.Sums.{entry}
use Rattle.lzk_circuit.specs.declared.layer.Term.{Term}
use Rattle.lzk_circuit.specs.declared.layer.Layer.{Layer}
use Rattle.lzk_circuit.specs.Checks.{is_assertion, assertion_wires, asserted, output_checks, inner_checks, checks_of, IsSatisfied}
use Rattle.lzk_circuit.specs.Valid.{Wiring, input_width, under_of, ArePlaced, AreLayersOf, IsValid}
use Rattle.lzk_circuit.specs.Wires.{coef, wire, wires_of, all_values, list_at, inputs_of, IsFirstNonzero}
use Rattle.lzk_circuit.proofs.CheckLaws.{one-checks, satisfied-outputs, satisfied-asserts}
use Rattle.lzk_circuit.proofs.DepthLaws.{first-values}
use Rattle.lzk_circuit.proofs.VersionLaws.{valid-one}
use Rattle.lzk_circuit_beside.specs.Asserts.{AreAssertsZero}
use Rattle.lzk_circuit_beside.specs.Chosen.{chosen, chosen_outputs, chosen_checks}
use Rattle.lzk_circuit_beside.proofs.JoinLaws.{all-joined}

module _ {A : Type 0} (o : Ops A) where
  pub input-length : (public private : List A) (publics privates : ℕ) → length public ≡ publics → length private ≡ privates → length (inputs_of o public private) ≡ 1 + publics + privates
  input-length public private publics privates p q = omega (arith, length-append public private, p, q)

  chosen-length : (c : Wiring A) (places : List ℕ) (inputs : List A) → length places ≡ c.publics + c.privates → length (chosen o places inputs) ≡ input_width c
  chosen-length c places inputs n = omega (arith, length-map places (entry o inputs), n)

module _ {A : Type 0} (o : Ops A) (size : ℕ) (number : A → ℕ) (element : ℕ → A) (bytes : ℕ) (laws : Laws o size number element bytes) where
  own-checks : (c : Wiring A) (inputs : List A) → IsValid o c → c.version ≡ 1 → length inputs ≡ input_width c → checks_of o number c.layers inputs ≡ wires_of o c.layers inputs
  own-checks c inputs valid one n = one-checks o size number element bytes laws (input_width c) c.layers inputs n valid.some (valid-one o c one valid)

  pub checks-joined : (c d w : Wiring A) (p q : List ℕ) (inputs : List A) → IsValid o c → IsValid o d → IsValid o w → c.version ≡ 1 → d.version ≡ 1 → w.version ≡ 1
      → length p ≡ c.publics + c.privates → length q ≡ d.publics + d.privates → length inputs ≡ input_width w
      → wires_of o w.layers inputs ≡ chosen_outputs o c.layers p inputs ++ chosen_outputs o d.layers q inputs
      → checks_of o number w.layers inputs ≡ chosen_checks o number c.layers p inputs ++ chosen_checks o number d.layers q inputs
  checks-joined c d w p q inputs vc vd vw ec ed ew np nq n e =
      own-checks w inputs vw ew n ∙ e
      ∙ sym (ap (λ xs. xs ++ chosen_checks o number d.layers q inputs) (own-checks c (chosen o p inputs) vc ec (chosen-length o c p inputs np))
      ∙ ap (λ ys. chosen_outputs o c.layers p inputs ++ ys) (own-checks d (chosen o q inputs) vd ed (chosen-length o d q inputs nq)))

  pub satisfied-joined : (c d w : Wiring A) (p q : List ℕ) (inputs : List A)
      → checks_of o number w.layers inputs ≡ chosen_checks o number c.layers p inputs ++ chosen_checks o number d.layers q inputs
      → IsSatisfied o number w.layers inputs ↔ (IsSatisfied o number c.layers (chosen o p inputs) × IsSatisfied o number d.layers (chosen o q inputs))
  satisfied-joined c d w p q inputs e =
      subst (λ xs. IsFirstNonzero o xs None ↔ (IsFirstNonzero o (chosen_checks o number c.layers p inputs) None × IsFirstNonzero o (chosen_checks o number d.layers q inputs) None)) (sym e)
      (all-joined o (chosen_checks o number c.layers p inputs) (chosen_checks o number d.layers q inputs))

-- ---- in either version: the outputs are 0, and what is asserted is

module _ {A : Type 0} (o : Ops A) where
  abbrev AreOutputsZero : List A → Type 0
  AreOutputsZero xs = (g : ℕ) → entry o xs g ≡ o.zero

  one-more : (x : A) (xs : List A) → x ≡ o.zero → IsFirstNonzero o xs None → IsFirstNonzero o (x ∷ xs) None
  one-more x xs e h zero l = e
  one-more x xs e h (suc g) l = h g (omega (arith, l))

  asserted-zero : (number : A → ℕ) (f : ℕ → A) (wires width : ℕ) (before : Option (Term A)) (ts : List (Term A)) → ArePlaced wires width before ts → ((g : ℕ) → g < wires → f g ≡ o.zero)
      → IsFirstNonzero o (map f (assertion_wires number ts)) None
  asserted-zero number f wires width before [] h zeros = λ g l. absurd (omega (arith, l))
  asserted-zero number f wires width before (t ∷ ts) h zeros = let one = h.0 in go (is_assertion number t) (filter (is_assertion number) ts) (zeros t.g one.g) (asserted-zero number f wires width (Some t) ts h.2 zeros)
    where
      go : (b : Bool) (us : List (Term A)) → f t.g ≡ o.zero → IsFirstNonzero o (map f (map (λ t. t.g) us)) None → IsFirstNonzero o (map f (map (λ t. t.g) (cond b (t ∷ us) us))) None
      go true us e h = one-more (f t.g) (map f (map (λ t. t.g) us)) e h
      go false us e h = h

  inner-zero : (number : A → ℕ) (version n : ℕ) (layers : List (Layer A)) (inputs : List A) → AreLayersOf o version n layers → AreAssertsZero o layers inputs → IsFirstNonzero o (inner_checks o number layers inputs) None
  inner-zero number version n [] inputs h zeros = λ g l. absurd (omega (arith, l))
  inner-zero number version n (layer ∷ layers) inputs h zeros =
      let one = h.0 in
      (all-joined o (map (asserted o layer.terms (wires_of o layers inputs)) (assertion_wires number layer.terms)) (inner_checks o number layers inputs)).1
      (asserted-zero number (asserted o layer.terms (wires_of o layers inputs)) layer.wires (under_of n layers).width None layer.terms one.each zeros.0, inner-zero number version n layers inputs h.1 zeros.1)

  outputs-zero : RingLaws o → (layer : Layer A) (layers : List (Layer A)) (inputs : List A) → AreOutputsZero (wires_of o (layer ∷ layers) inputs)
      → ((g : ℕ) → g < layer.wires → asserted o layer.terms (wires_of o layers inputs) g ≡ o.zero) → IsFirstNonzero o (output_checks o layer (wires_of o layers inputs)) None
  outputs-zero r layer layers inputs outputs zeros g l =
      let below = wires_of o layers inputs in
      let v = wire o (coef o layer.terms) below in
      let f : ℕ → A = λ k. o.plus (v k) (asserted o layer.terms below k) in
      let m : g < layer.wires = omega (arith, l, length-map-range_with_len f 0 layer.wires) in
      get_or-map-range_with_len f 0 layer.wires g g o.zero m (omega arith)
      ∙ ap (o.plus (v g)) (zeros g m) ∙ r.plus_zero (v g) ∙ sym (get_or-map-range_with_len v 0 layer.wires g g o.zero m (omega arith)) ∙ outputs g

  asserts-are : (layers : List (Layer A)) (inputs : List A)
      → ((l g : ℕ) → l < length layers → asserted o (get_or (map (λ layer. layer.terms) layers) l []) (list_at (all_values o layers inputs) (l + 1)) g ≡ o.zero)
      → AreAssertsZero o layers inputs
  asserts-are [] inputs h = tt
  asserts-are (layer ∷ layers) inputs h = (
    λ g l. ap (λ xs. asserted o layer.terms xs g) (sym (first-values o layers inputs)) ∙ h 0 g (omega arith),
    asserts-are layers inputs (λ l g lt.
        let next : suc l + 1 ≡ suc (l + 1) = omega arith in
        ap (λ (k : ℕ). asserted o (get_or (map (λ layer. layer.terms) layers) l []) (list_at (all_values o (layer ∷ layers) inputs) k) g) (sym next) ∙ h (suc l) g (omega (arith, lt))),
  )

module _ {A : Type 0} (o : Ops A) (size : ℕ) (number : A → ℕ) (element : ℕ → A) (bytes : ℕ) (laws : Laws o size number element bytes) where
  satisfied-is : (c : Wiring A) (inputs : List A) → IsValid o c → length inputs ≡ input_width c
      → IsSatisfied o number c.layers inputs ↔ (AreOutputsZero o (wires_of o c.layers inputs) × AreAssertsZero o c.layers inputs)
  satisfied-is c inputs valid n = (
    λ h. (
      λ g. satisfied-outputs o size number element bytes laws c inputs g valid n h,
      asserts-are o c.layers inputs (λ l g lt. satisfied-asserts o size number element bytes laws c inputs l g valid n h lt),
    ),
    λ h. go c.layers valid.layers h.0 h.1,
  )
    where
      go : (layers : List (Layer A)) → AreLayersOf o c.version (input_width c) layers → AreOutputsZero o (wires_of o layers inputs) → AreAssertsZero o layers inputs → IsSatisfied o number layers inputs
      go [] h outputs zeros = λ g l. absurd (omega (arith, l))
      go (layer ∷ layers) h outputs zeros =
          (all-joined o (output_checks o layer (wires_of o layers inputs)) (inner_checks o number layers inputs)).1
          (outputs-zero o laws.ring layer layers inputs outputs zeros.0, inner-zero o number c.version (input_width c) layers inputs h.1 zeros.1)

  zero-joined : (xs ys zs : List A) → zs ≡ xs ++ ys → AreOutputsZero o zs ↔ (AreOutputsZero o xs × AreOutputsZero o ys)
  zero-joined xs ys zs e = (
    λ h. (
      λ g. elim (cases_lt g (length xs)) [ inl l ↦ sym (get_or_append_left xs ys o.zero g l) ∙ ap (λ vs. entry o vs g) (sym e) ∙ h g | inr l ↦ get_or-eq_default xs o.zero l ],
      λ g. sym (get_or-append-add xs ys g o.zero) ∙ ap (λ vs. entry o vs (length xs + g)) (sym e) ∙ h (length xs + g),
    ),
    λ h g. ap (λ vs. entry o vs g) e ∙ elim (cases_lt g (length xs)) [
      | inl l ↦ get_or_append_left xs ys o.zero g l ∙ h.0 g
      | inr l ↦
          let k = g - length xs in
          let is : length xs + k ≡ g = omega (arith, l) in
          ap (entry o (xs ++ ys)) (sym is) ∙ get_or-append-add xs ys k o.zero ∙ h.1 k
    ],
  )

  pub any-satisfied : (c d w : Wiring A) (p q : List ℕ) (inputs : List A) → IsValid o c → IsValid o d → IsValid o w
      → length p ≡ c.publics + c.privates → length q ≡ d.publics + d.privates → length inputs ≡ input_width w
      → wires_of o w.layers inputs ≡ chosen_outputs o c.layers p inputs ++ chosen_outputs o d.layers q inputs
      → AreAssertsZero o w.layers inputs ↔ (AreAssertsZero o c.layers (chosen o p inputs) × AreAssertsZero o d.layers (chosen o q inputs))
      → IsSatisfied o number w.layers inputs ↔ (IsSatisfied o number c.layers (chosen o p inputs) × IsSatisfied o number d.layers (chosen o q inputs))
  any-satisfied c d w p q inputs vc vd vw np nq n outputs asserts =
      let sc = satisfied-is c (chosen o p inputs) vc (chosen-length o c p inputs np) in
      let sd = satisfied-is d (chosen o q inputs) vd (chosen-length o d q inputs nq) in
      let sw = satisfied-is w inputs vw n in
      let both = zero-joined (chosen_outputs o c.layers p inputs) (chosen_outputs o d.layers q inputs) (wires_of o w.layers inputs) outputs in (
        λ h. let all = sw.0 h in
            let zeros = both.0 all.0 in
            let none = asserts.0 all.1 in
            (sc.1 (zeros.0, none.0), sd.1 (zeros.1, none.1)),
        λ h. let one = sc.0 h.0 in
            let other = sd.0 h.1 in
            sw.1 (both.1 (one.0, other.0), asserts.1 (one.1, other.1)),
      )

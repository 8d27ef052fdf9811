-- What the walks over assertion terms keep, and what the checks are.
use Rattle.std.specs.Prelude.{◌≡◌, ◌≢◌, ◌⊎◌, ℕ, ◌+◌, ◌<◌, ◌≤◌, ◌==◌, ◌++◌, Bool, true, false, cond, Option, Some, None, List, [], ◌∷◌, length, map, drop, take, slice_set, Vec}
use Rattle.std.specs.declared.alloc.Global.{Global}
use Rattle.std.proofs.Common.{zero, suc, inl, inr, refl, sym, ap, ◌∙◌, arith, subst, get_or}
use Rattle.std.specs.List.{AllByRecursion, filter, range_with_len}
use Rattle.std.proofs.Math.ListN.{get_or-eq_default}
use Rattle.std.proofs.lemmas.List.{get_or_append_left, get_or-append-add, length-map, length-append, map-append, get_or-map, drop_more, drop_all, take-append-drop, take_more_set, ext_get_or}
use Rattle.std.proofs.lemmas.List.Elements.{filter_more, filter-append}
use Rattle.std.proofs.lemmas.List.FromFn.{length-map-range_with_len, get_or-map-range_with_len}
use Rattle.std.proofs.lemmas.Bool.{cases_eq, cases_lt, eq-eqb, ne_eqb}
use Rattle.lzk_field.specs.Ring.{Ops, RingLaws, FieldLaws, Laws}
use Rattle.lzk_field.specs.Sums.{entry}
use Rattle.lzk_field.proofs.RingBasics.{zero_plus, zero_times, times_zero, one_times}
use Rattle.lzk_circuit.specs.declared.layer.Term.{Term}
use Rattle.lzk_circuit.specs.declared.layer.Layer.{Layer}
use Rattle.lzk_circuit.specs.Checks.{is_assertion, assertion_wires, asserted, output_checks, inner_checks, checks_of, assertion_count, check_count, IsSatisfied}
use Rattle.lzk_circuit.specs.Limits.{most_wires, most_total}
use Rattle.lzk_circuit.specs.Sums.{sum_list}
use Rattle.lzk_circuit.specs.Valid.{Wiring, input_width, under_of, IsPlaced, ArePlaced, AreTerms, AreLayers, MayStand, MayEachStand, AreLayersOf, IsValid}
use Rattle.lzk_circuit.specs.Wires.{coef, zero_of, zero_at, wire, wires_of, layer_values, all_values, list_at, IsFirstNonzero}
use Rattle.lzk_circuit.proofs.AssertLaws.{again, zeros, zeros-at, zeros-distinct, zero_of-zero, zero_of-other, wire-ext}
use Rattle.lzk_circuit.proofs.LayerLaws.{walk-step}
use Rattle.lzk_circuit.proofs.DepthLaws.{nothing, items_of, wires-width, first-values}
use Rattle.lzk_circuit.proofs.OrderLaws.{Before, AllAfter, before_from, all_after, placed-at, placed-distinct, terms-placed, term-at}
use Rattle.lzk_circuit.proofs.ValidLaws.{zero-only}
use Rattle.lzk_circuit.proofs.VersionLaws.{layers-two}
use Rattle.lzk_circuit.proofs.TermSums.{share, wire-terms}

append-none : {X : Type 0} (xs : List X) → xs ++ [] ≡ xs
append-none [] = refl
append-none (x ∷ xs) = ap (λ ys. x ∷ ys) (append-none xs)

-- ---- the assertion wires among the first terms

module _ {A : Type 0} (number : A → ℕ) where
  pub wires-more : (ts : List (Term A)) (i : ℕ) (t : Term A) → i < length ts → t ≡ get_or ts i t → number t.coef ≡ 0 → assertion_wires number (take (i + 1) ts) ≡ assertion_wires number (take i ts) ++ t.g ∷ []
  wires-more ts i t l is z =
      ap (map (λ t. t.g)) (filter_more (is_assertion number) ts i t l ∙ ap (λ (x : Term A). filter (is_assertion number) (take i ts) ++ cond (is_assertion number x) (x ∷ []) []) (sym is)
      ∙ ap (λ b. filter (is_assertion number) (take i ts) ++ cond b (t ∷ []) []) (eq-eqb (number t.coef) 0 z))
      ∙ map-append (λ t. t.g) (filter (is_assertion number) (take i ts)) (t ∷ [])

  pub wires-same : (ts : List (Term A)) (i : ℕ) (t : Term A) → i < length ts → t ≡ get_or ts i t → number t.coef ≢ 0 → assertion_wires number (take (i + 1) ts) ≡ assertion_wires number (take i ts)
  wires-same ts i t l is n =
      ap (map (λ t. t.g)) (filter_more (is_assertion number) ts i t l ∙ ap (λ (x : Term A). filter (is_assertion number) (take i ts) ++ cond (is_assertion number x) (x ∷ []) []) (sym is)
      ∙ ap (λ b. filter (is_assertion number) (take i ts) ++ cond b (t ∷ []) []) (ne_eqb (number t.coef) 0 n))
      ∙ map-append (λ t. t.g) (filter (is_assertion number) (take i ts)) [] ∙ append-none (assertion_wires number (take i ts))

  pub count-more : (ts : List (Term A)) (i : ℕ) (t : Term A) → i < length ts → t ≡ get_or ts i t → number t.coef ≡ 0 → length (assertion_wires number (take (i + 1) ts)) ≡ length (assertion_wires number (take i ts)) + 1
  count-more ts i t l is z = ap length (wires-more ts i t l is z) ∙ length-append (assertion_wires number (take i ts)) (t.g ∷ [])

  wires-part : (ts : List (Term A)) (i : ℕ) → length (assertion_wires number (take i ts)) ≤ length (assertion_wires number ts)
  wires-part ts i =
      let front = filter (is_assertion number) (take i ts) in
      let back = filter (is_assertion number) (drop i ts) in
      let all : assertion_wires number ts ≡ map (λ t. t.g) front ++ map (λ t. t.g) back =
      ap (assertion_wires number) (sym (take-append-drop i ts)) ∙ ap (map (λ t. t.g)) (filter-append (is_assertion number) (take i ts) (drop i ts)) ∙ map-append (λ t. t.g) front back in
      omega (arith, ap length all, length-append (map (λ (t : Term A). t.g) front) (map (λ (t : Term A). t.g) back))

  -- there is a place left for the wire of one more assertion term
  pub wires-within : (ts : List (Term A)) (i : ℕ) (t : Term A) → i < length ts → t ≡ get_or ts i t → number t.coef ≡ 0 → length (assertion_wires number (take i ts)) < length (assertion_wires number ts)
  wires-within ts i t l is z =
      omega (arith, wires-part ts (i + 1), ap length (wires-more ts i t l is z), length-append (assertion_wires number (take i ts)) (t.g ∷ []))

  pub wires-few : (ts : List (Term A)) → length (assertion_wires number ts) ≤ length ts
  wires-few [] = omega arith
  wires-few (t ∷ ts) = one-more (is_assertion number t) (filter (is_assertion number) ts) (wires-few ts)
    where
      one-more : (b : Bool) (us : List (Term A)) → length (map (λ (t : Term A). t.g) us) ≤ length ts → length (map (λ (t : Term A). t.g) (cond b (t ∷ us) us)) ≤ suc (length ts)
      one-more true us h = omega (arith, h)
      one-more false us h = omega (arith, h)

  -- there are no more assertion wires than terms
  pub few-asserted : (o : Ops A) (version inputs : ℕ) (layers : List (Layer A)) → AreLayersOf o version inputs layers → assertion_count number layers ≤ (under_of inputs layers).terms
  few-asserted o version inputs [] h = omega arith
  few-asserted o version inputs (layer ∷ layers) h = omega (arith, wires-few layer.terms, few-asserted o version inputs layers h.1)

  pub asserted-most : (o : Ops A) (version inputs : ℕ) (layers : List (Layer A)) → AreLayersOf o version inputs layers → (under_of inputs layers).terms ≤ most_total
  asserted-most o version inputs [] h = omega arith
  asserted-most o version inputs (layer ∷ layers) h = let one = h.0 in one.terms

-- ---- what assertion terms count

module _ {A : Type 0} (o : Ops A) (r : RingLaws o) where
  open o use {plus, times}

  -- a term counts for its wire alone
  share-other : (below : List A) (k : ℕ) (t : Term A) → t.g ≢ k → share o r below k t ≡ o.zero
  share-other below k t n = ap (λ p. times t.coef (cond p (times (entry o below t.a) (entry o below t.b)) o.zero)) (ne_eqb t.g k n) ∙ times_zero o r t.coef

  share-own : (below : List A) (k : ℕ) (t : Term A) → t.g ≡ k → share o r below k t ≡ times t.coef (times (entry o below t.a) (entry o below t.b))
  share-own below k t e = ap (λ p. times t.coef (cond p (times (entry o below t.a) (entry o below t.b)) o.zero)) (eq-eqb t.g k e)

  pub asserted-sum : (m : ℕ) (ts : List (Term A)) (below : List A) (k : ℕ) → k < m → ArePlaced m (length below) None ts → asserted o ts below k ≡ sum_list o (zeros o ts) (share o r below k)
  asserted-sum m ts below k l h = wire-ext o r (zero_at o ts) (coef o (zeros o ts)) below k (λ a b. zeros-at o ts k a b) ∙ wire-terms o r m (zeros o ts) below k l (zeros-distinct o m (length below) ts h)

  -- ---- each term's share is added to its wire

  pub adding-starts : (ts : List (Term A)) (below out : List A) (k : ℕ) → k < length out → ArePlaced (length out) (length below) None ts
      → plus (entry o out k) (sum_list o (drop 0 (zeros o ts)) (share o r below k)) ≡ plus (entry o out k) (asserted o ts below k)
  adding-starts ts below out k l h = ap (plus (entry o out k)) (sym (asserted-sum (length out) ts below k l h))

  zeros-get : (ts : List (Term A)) (i : ℕ) (t : Term A) → i < length ts → t ≡ get_or ts i t → again (zero_of o) t ≡ get_or (zeros o ts) i (again (zero_of o) t)
  zeros-get ts i t l is = ap (again (zero_of o)) is ∙ sym (get_or-map (again (zero_of o)) ts i t (again (zero_of o) t) l)

  pub adding-step : (ts : List (Term A)) (below old new : List A) (i k : ℕ) (t : Term A) (all : A) → i < length ts → t ≡ get_or ts i t → t.g < length old → t.coef ≡ o.zero
      → new ≡ slice_set old t.g (plus (entry o old t.g) (times (entry o below t.a) (entry o below t.b)))
      → plus (entry o old k) (sum_list o (drop i (zeros o ts)) (share o r below k)) ≡ all → plus (entry o new k) (sum_list o (drop (i + 1) (zeros o ts)) (share o r below k)) ≡ all
  adding-step ts below old new i k t all li is l z e h =
      walk-step o r (zeros o ts) below old new i k (again (zero_of o) t) all (omega (arith, length-map ts (again (zero_of o)))) (zeros-get ts i t li is) l
      (e ∙ ap (λ x. slice_set old t.g (plus (entry o old t.g) (times x (entry o below t.b)))) (sym (one_times o r (entry o below t.a)) ∙ ap (λ x. times x (entry o below t.a)) (sym (zero_of-zero o r t.coef z)))) h

  pub adding-skips : FieldLaws o → (ts : List (Term A)) (below old new : List A) (i k : ℕ) (t : Term A) (all : A) → i < length ts → t ≡ get_or ts i t → t.coef ≢ o.zero → new ≡ old
      → plus (entry o old k) (sum_list o (drop i (zeros o ts)) (share o r below k)) ≡ all → plus (entry o new k) (sum_list o (drop (i + 1) (zeros o ts)) (share o r below k)) ≡ all
  adding-skips f ts below old new i k t all li is n e h =
      let u = again (zero_of o) t in
      let s = share o r below k in
      let front : drop i (zeros o ts) ≡ u ∷ drop (i + 1) (zeros o ts) =
      drop_more (zeros o ts) i u (omega (arith, li, length-map ts (again (zero_of o)))) ∙ ap (λ x. x ∷ drop (i + 1) (zeros o ts)) (sym (zeros-get ts i t li is)) in
      let none : s u ≡ o.zero = ap (λ x. times x (cond (t.g == k) (times (entry o below t.a) (entry o below t.b)) o.zero)) (zero_of-other o r f t.coef n) ∙ zero_times o r _ in
      ap (λ xs. plus (entry o xs k) (sum_list o (drop (i + 1) (zeros o ts)) s)) e
      ∙ ap (plus (entry o old k)) (sym (zero_plus o r _) ∙ ap (λ x. plus x (sum_list o (drop (i + 1) (zeros o ts)) s)) (sym none) ∙ ap (λ us. sum_list o us s) (sym front)) ∙ h

  pub adding-ends : (ts : List (Term A)) (below out : List A) (i k : ℕ) (all : A) → length ts ≤ i
      → plus (entry o out k) (sum_list o (drop i (zeros o ts)) (share o r below k)) ≡ all → entry o out k ≡ all
  adding-ends ts below out i k all l h =
      sym (r.plus_zero (entry o out k)) ∙ ap (plus (entry o out k)) (sym (ap (λ us. sum_list o us (share o r below k)) (drop_all i (zeros o ts) (omega (arith, l, length-map ts (again (zero_of o))))))) ∙ h

  -- ---- an assertion term is the only one of its wire

  not_one : ◌≢◌ {A = ℕ} 2 1
  not_one e = omega (arith, e)

  later : (t u : Term A) → Before t u → t.g ≤ u.g
  later t u h = elim h.cases [ inl l ↦ omega (arith, l) | inr l ↦ omega (arith, l.0) ]

  all-later : (k : ℕ) (u : Term A) (us : List (Term A)) → k < u.g → AllAfter u us → AllByRecursion (λ (w : Term A). k < w.g) us
  all-later k u [] l h = tt
  all-later k u (w ∷ us) l h = (omega (arith, l, later u w h.0), all-later k u us l h.1)

  -- the next term has a later wire, where either has the coefficient 0
  above-first : (t u : Term A) → Before t u → MayStand o 2 (Some t) u → (t.coef ≡ o.zero) ⊎ (u.coef ≡ o.zero) → t.g < u.g
  above-first t u h stand none =
      let le = later t u h in
      elim (cases_eq t.g u.g) [
        | inl same ↦ let p = stand.apart not_one same in absurd (elim none [ inl z ↦ p.0 z | inr z ↦ p.1 z ])
        | inr other ↦ omega (arith, le, other)
      ]

  all-above : (wires width : ℕ) (t : Term A) (ts : List (Term A)) → t.coef ≡ o.zero → ArePlaced wires width (Some t) ts → MayEachStand o 2 (Some t) ts → AllByRecursion (λ (w : Term A). t.g < w.g) ts
  all-above wires width t [] z h coefs = tt
  all-above wires width t (u ∷ us) z h coefs =
      let l = above-first t u (before_from t u h.1) coefs.0 (inl z) in
      (l, all-later t.g u us l (all_after wires width u us h.2))

  below-it : (wires width : ℕ) (u : Term A) (us : List (Term A)) (i : ℕ) (d : Term A) → i < length us → (get_or us i d).coef ≡ o.zero → ArePlaced wires width (Some u) us → MayEachStand o 2 (Some u) us
      → u.g < (get_or us i d).g
  below-it wires width u [] i d l z h coefs = absurd (omega (arith, l))
  below-it wires width u (w ∷ ws) zero d l z h coefs = above-first u w (before_from u w h.1) coefs.0 (inr z)
  below-it wires width u (w ∷ ws) (suc i) d l z h coefs = omega (arith, later u w (before_from u w h.1), below-it wires width w ws i d (omega (arith, l)) z h.2 coefs.1)

  above-none : (f : A → A) (below : List A) (k : ℕ) (ts : List (Term A)) → AllByRecursion (λ (w : Term A). k < w.g) ts → sum_list o (map (again f) ts) (share o r below k) ≡ o.zero
  above-none f below k [] h = refl
  above-none f below k (t ∷ ts) h =
      let l = h.0 in
      ap (λ x. plus x (sum_list o (map (again f) ts) (share o r below k))) (share-other below k (again f t) (λ e. omega (arith, l, e))) ∙ zero_plus o r _ ∙ above-none f below k ts h.1

  -- of the terms with other coefficients, the one that is an assertion term counts alone for its wire
  alone : (f : A → A) (wires width : ℕ) (below : List A) (before : Option (Term A)) (ts : List (Term A)) (i : ℕ) (d : Term A) → i < length ts → (get_or ts i d).coef ≡ o.zero → ArePlaced wires width before ts → MayEachStand o 2 before ts
      → sum_list o (map (again f) ts) (share o r below (get_or ts i d).g) ≡ times (f (get_or ts i d).coef) (times (entry o below (get_or ts i d).a) (entry o below (get_or ts i d).b))
  alone f wires width below before [] i d l z h coefs = absurd (omega (arith, l))
  alone f wires width below before (t ∷ ts) zero d l z h coefs =
      ap (plus (share o r below t.g (again f t))) (above-none f below t.g ts (all-above wires width t ts z h.2 coefs.1)) ∙ r.plus_zero _ ∙ share-own below t.g (again f t) refl
  alone f wires width below before (t ∷ ts) (suc i) d l z h coefs =
      let k = (get_or ts i d).g in
      let less = below-it wires width t ts i d (omega (arith, l)) z h.2 coefs.1 in
      ap (λ x. plus x (sum_list o (map (again f) ts) (share o r below k))) (share-other below k (again f t) (λ e. omega (arith, less, e))) ∙ zero_plus o r _
      ∙ alone f wires width below (Some t) ts i d (omega (arith, l)) z h.2 coefs.1

  pub asserted-alone : (m : ℕ) (ts : List (Term A)) (below : List A) (i : ℕ) (t : Term A) → i < length ts → t ≡ get_or ts i t → t.coef ≡ o.zero → ArePlaced m (length below) None ts → MayEachStand o 2 None ts
      → IsPlaced m (length below) t → asserted o ts below t.g ≡ times (entry o below t.a) (entry o below t.b)
  asserted-alone m ts below i t l is z h coefs one =
      asserted-sum m ts below t.g one.g h
      ∙ subst (λ (u : Term A). sum_list o (zeros o ts) (share o r below u.g) ≡ times (zero_of o u.coef) (times (entry o below u.a) (entry o below u.b))) (sym is)
      (alone (zero_of o) m (length below) below None ts i t l (ap (λ (u : Term A). u.coef) (sym is) ∙ z) h coefs)
      ∙ ap (λ x. times x (times (entry o below t.a) (entry o below t.b))) (zero_of-zero o r t.coef z) ∙ one_times o r _

  again-same : (ts : List (Term A)) → map (again (λ x. x)) ts ≡ ts
  again-same [] = refl
  again-same (t ∷ ts) = ap (λ us. t ∷ us) (again-same ts)

  -- the coefficients count nothing for an assertion wire
  pub asserted-no-wire : (m : ℕ) (ts : List (Term A)) (below : List A) (i : ℕ) (d : Term A) → i < length ts → (get_or ts i d).coef ≡ o.zero → ArePlaced m (length below) None ts → MayEachStand o 2 None ts
      → wire o (coef o ts) below (get_or ts i d).g ≡ o.zero
  asserted-no-wire m ts below i d l z h coefs =
      let t = get_or ts i d in
      let one = placed-at m (length below) i None ts d h l in
      wire-terms o r m ts below t.g one.g (placed-distinct o m (length below) None ts h) ∙ ap (λ us. sum_list o us (share o r below t.g)) (sym (again-same ts))
      ∙ alone (λ x. x) m (length below) below None ts i d l z h coefs ∙ ap (λ x. times x (times (entry o below t.a) (entry o below t.b))) z ∙ zero_times o r _

-- ---- the walk that sets what assertion terms count

module _ {A : Type 0} (number : A → ℕ) where
  pub setting-step : (f : ℕ → A) (ts : List (Term A)) (old new : List A) (i next : ℕ) (t : Term A) (v : A) → i < length ts → t ≡ get_or ts i t → number t.coef ≡ 0 → next < length old → new ≡ slice_set old next v → v ≡ f t.g
      → take next old ≡ map f (assertion_wires number (take i ts)) → take (next + 1) new ≡ map f (assertion_wires number (take (i + 1) ts))
  setting-step f ts old new i next t v l is z room e value h =
      ap (take (next + 1)) e ∙ take_more_set old next v room ∙ ap (λ xs. xs ++ v ∷ []) h ∙ ap (λ x. map f (assertion_wires number (take i ts)) ++ x ∷ []) value
      ∙ sym (map-append f (assertion_wires number (take i ts)) (t.g ∷ [])) ∙ ap (map f) (sym (wires-more number ts i t l is z))

  pub setting-skips : (f : ℕ → A) (ts : List (Term A)) (old new : List A) (i next : ℕ) (t : Term A) → i < length ts → t ≡ get_or ts i t → number t.coef ≢ 0 → new ≡ old
      → take next old ≡ map f (assertion_wires number (take i ts)) → take next new ≡ map f (assertion_wires number (take (i + 1) ts))
  setting-skips f ts old new i next t l is n e h = ap (take next) e ∙ h ∙ ap (map f) (sym (wires-same number ts i t l is n))

-- ---- the lists of the layers, the inputs' last

module _ {A : Type 0} (o : Ops A) where
  -- there is nothing to set where no layer is left
  pub none-set : (number : A → ℕ) (layers : List (Layer A)) (inputs out : List A) → length layers ≡ 0 → length out ≡ assertion_count number layers → out ≡ inner_checks o number layers inputs
  none-set number layers inputs out e room = let none = nothing layers e in nothing out (room ∙ ap (assertion_count number) none) ∙ sym (ap (λ ls. inner_checks o number ls inputs) none)

  pub no-checks : (number : A → ℕ) (layers : List (Layer A)) (inputs out : List A) → length layers ≡ 0 → length out ≡ check_count number layers → out ≡ checks_of o number layers inputs
  no-checks number layers inputs out e room = let none = nothing layers e in nothing out (room ∙ ap (check_count number) none) ∙ sym (ap (λ ls. checks_of o number ls inputs) none)

  tail_is : {X : Type 0} (x y : X) (xs ys : List X) → x ∷ xs ≡ y ∷ ys → xs ≡ ys
  tail_is x y xs ys e = cc

  pub under-values : (layers rest : List (Layer A)) (layer : Layer A) (lists under : List (Vec A Global)) (v : Vec A Global) (inputs : List A) → layers ≡ layer ∷ rest → lists ≡ v ∷ under
      → items_of lists ≡ all_values o layers inputs → items_of under ≡ all_values o rest inputs
  under-values layers rest layer lists under v inputs front first e =
      tail_is v.items (wires_of o (layer ∷ rest) inputs) (items_of under) (all_values o rest inputs) (ap items_of (sym first) ∙ e ∙ ap (λ ls. all_values o ls inputs) front)

  pub top-values : (layers : List (Layer A)) (lists under : List (Vec A Global)) (v : Vec A Global) (inputs : List A) → lists ≡ v ∷ under → items_of lists ≡ all_values o layers inputs → v.items ≡ wires_of o layers inputs
  top-values layers lists under v inputs first e = ap (λ vs. list_at vs 0) (ap items_of (sym first) ∙ e) ∙ first-values o layers inputs

  pub some-values : (layers : List (Layer A)) (lists : List (Vec A Global)) (inputs : List A) → items_of lists ≡ all_values o layers inputs → length lists ≡ 0 → ⊥
  some-values [] lists inputs e n = omega (arith, n, ap length e, length-map lists (λ (v : Vec A Global). v.items))
  some-values (layer ∷ layers) lists inputs e n = omega (arith, n, ap length e, length-map lists (λ (v : Vec A Global). v.items))

  -- the uppermost of the layers is in its places over the list below it
  pub placed-over : (n : ℕ) (layer : Layer A) (rest : List (Layer A)) (below inputs : List A) → length inputs ≡ n → AreLayersOf o 2 n (layer ∷ rest) → below ≡ wires_of o rest inputs → ArePlaced layer.wires (length below) None layer.terms
  placed-over n layer rest below inputs e h same =
      let one = h.0 in
      subst (λ m. ArePlaced layer.wires m None layer.terms) (ap (λ m. (under_of m rest).width) (sym e) ∙ sym (wires-width o rest inputs) ∙ ap length (sym same)) one.each

-- ---- the outputs' checks

module _ {A : Type 0} (o : Ops A) where
  pub outputs-are : (layer : Layer A) (below old out : List A) → old ≡ layer_values o layer below → length out ≡ layer.wires
      → ((k : ℕ) → k < length out → entry o out k ≡ o.plus (entry o old k) (asserted o layer.terms below k)) → out ≡ output_checks o layer below
  outputs-are layer below old out same n h =
      let w = wire o (coef o layer.terms) below in
      let f : ℕ → A = λ k. o.plus (w k) (asserted o layer.terms below k) in
      ext_get_or o.zero out (map f (range_with_len 0 layer.wires)) (n ∙ sym (length-map-range_with_len f 0 layer.wires))
      (λ k l. h k l ∙ ap (λ (x : A). o.plus x (asserted o layer.terms below k)) (ap (λ xs. entry o xs k) same ∙ get_or-map-range_with_len w 0 layer.wires k k o.zero (omega (arith, l, n)) (omega arith))
      ∙ sym (get_or-map-range_with_len f 0 layer.wires k k o.zero (omega (arith, l, n)) (omega arith)))

  -- the list that is copied is as long as the layer is wide
  pub top-length : (layers rest : List (Layer A)) (layer : Layer A) (lists under : List (Vec A Global)) (v : Vec A Global) (inputs : List A) → layers ≡ layer ∷ rest → lists ≡ v ∷ under
      → items_of lists ≡ all_values o layers inputs → length v.items ≡ layer.wires
  top-length layers rest layer lists under v inputs front first e =
      ap length (top-values o layers lists under v inputs first e ∙ ap (λ ls. wires_of o ls inputs) front) ∙ wires-width o (layer ∷ rest) inputs

  pub outputs-set : (layers rest : List (Layer A)) (layer : Layer A) (lists under more : List (Vec A Global)) (v below : Vec A Global) (inputs old out low : List A) (terms : List (Term A)) → layers ≡ layer ∷ rest → lists ≡ v ∷ under
      → under ≡ below ∷ more → items_of lists ≡ all_values o layers inputs → old ≡ v.items → terms ≡ layer.terms → low ≡ below.items → length out ≡ length old
      → ((k : ℕ) → k < length old → entry o out k ≡ o.plus (entry o old k) (asserted o terms low k)) → out ≡ output_checks o layer (wires_of o rest inputs)
  outputs-set layers rest layer lists under more v below inputs old out low terms front first second e copied te le n h =
      let is = le ∙ top-values o rest under more below inputs second (under-values o layers rest layer lists under v inputs front first e) in
      let olds = copied ∙ top-values o layers lists under v inputs first e ∙ ap (λ ls. wires_of o ls inputs) front in
      outputs-are layer (wires_of o rest inputs) old out olds (n ∙ ap length copied ∙ top-length layers rest layer lists under v inputs front first e)
      (λ k l. h k (omega (arith, l, n)) ∙ ap (λ ts. o.plus (entry o old k) (asserted o ts low k)) te ∙ ap (λ xs. o.plus (entry o old k) (asserted o layer.terms xs k)) is)

  -- a circuit has no more checks than this
  pub few-checks : (number : A → ℕ) (c : Wiring A) → IsValid o c → check_count number c.layers ≤ most_wires + most_total
  few-checks number c valid = go c.layers valid.layers
    where
      go : (layers : List (Layer A)) → AreLayersOf o c.version (input_width c) layers → check_count number layers ≤ most_wires + most_total
      go [] h = omega arith
      go (layer ∷ layers) h =
          let one = h.0 in
          omega (arith, one.most, few-asserted number o c.version (input_width c) layers h.1, asserted-most number o c.version (input_width c) layers h.1)

  -- ---- how many checks there are

  pub length-inner : (number : A → ℕ) (layers : List (Layer A)) (inputs : List A) → length (inner_checks o number layers inputs) ≡ assertion_count number layers
  length-inner number [] inputs = refl
  length-inner number (layer ∷ layers) inputs =
      let f = asserted o layer.terms (wires_of o layers inputs) in
      length-append (map f (assertion_wires number layer.terms)) (inner_checks o number layers inputs)
      ∙ ap (λ n. n + length (inner_checks o number layers inputs)) (length-map (assertion_wires number layer.terms) f) ∙ ap (λ n. length (assertion_wires number layer.terms) + n) (length-inner number layers inputs)

  pub length-checks : (number : A → ℕ) (layers : List (Layer A)) (inputs : List A) → length (checks_of o number layers inputs) ≡ check_count number layers
  length-checks number [] inputs = refl
  length-checks number (layer ∷ layers) inputs =
      let below = wires_of o layers inputs in
      let f : ℕ → A = λ k. o.plus (wire o (coef o layer.terms) below k) (asserted o layer.terms below k) in
      length-append (output_checks o layer below) (inner_checks o number layers inputs)
      ∙ ap (λ n. n + length (inner_checks o number layers inputs)) (length-map-range_with_len f 0 layer.wires) ∙ ap (λ n. layer.wires + n) (length-inner number layers inputs)

-- ---- where all checks are 0

module _ {A : Type 0} (o : Ops A) where
  -- each entry is 0, and what stands past the end counts as 0
  abbrev AreAllZero : List A → Type 0
  AreAllZero xs = (k : ℕ) → entry o xs k ≡ o.zero

  all-from : (xs : List A) → IsFirstNonzero o xs None → AreAllZero xs
  all-from xs h k = elim (cases_lt k (length xs)) [ inl l ↦ h k l | inr l ↦ get_or-eq_default xs o.zero l ]

  zero-front : (xs ys : List A) → AreAllZero (xs ++ ys) → AreAllZero xs
  zero-front xs ys h k = elim (cases_lt k (length xs)) [ inl l ↦ sym (get_or_append_left xs ys o.zero k l) ∙ h k | inr l ↦ get_or-eq_default xs o.zero l ]

  zero-back : (xs ys : List A) → AreAllZero (xs ++ ys) → AreAllZero ys
  zero-back xs ys h k = sym (get_or-append-add xs ys k o.zero) ∙ h (length xs + k)

  zero-wires : (number : A → ℕ) (f : ℕ → A) (ts : List (Term A)) (i : ℕ) (d : Term A) → i < length ts → number (get_or ts i d).coef ≡ 0 → AreAllZero (map f (assertion_wires number ts)) → f (get_or ts i d).g ≡ o.zero
  zero-wires number f [] i d l z h = absurd (omega (arith, l))
  zero-wires number f (t ∷ ts) zero d l z h =
      ap (λ b. entry o (map f (map (λ (t : Term A). t.g) (cond b (t ∷ filter (is_assertion number) ts) (filter (is_assertion number) ts)))) 0) (sym (eq-eqb (number t.coef) 0 z)) ∙ h 0
  zero-wires number f (t ∷ ts) (suc i) d l z h = zero-wires number f ts i d (omega (arith, l)) z (rest (is_assertion number t) (filter (is_assertion number) ts) h)
    where
      rest : (b : Bool) (us : List (Term A)) → AreAllZero (map f (map (λ (t : Term A). t.g) (cond b (t ∷ us) us))) → AreAllZero (map f (map (λ (t : Term A). t.g) us))
      rest true us h k = h (suc k)
      rest false us h k = h k

module _ {A : Type 0} (o : Ops A) (size : ℕ) (number : A → ℕ) (element : ℕ → A) (bytes : ℕ) (laws : Laws o size number element bytes) where
  open o use {plus, times}

  is-zero : (x : A) → number x ≡ 0 → x ≡ o.zero
  is-zero x e = zero-only o size number element bytes laws.numbers x e

  -- an assertion term of wire k, or none counts for it
  pub record Asserts (ts : List (Term A)) (d : Term A) (k : ℕ) : Type 0 where
    pub i : ℕ
    pub within : i < length ts
    pub wire_is : (get_or ts i d).g ≡ k
    pub coef_is : number (get_or ts i d).coef ≡ 0

  later-asserts : (t : Term A) (ts : List (Term A)) (d : Term A) (k : ℕ) → Asserts ts d k → Asserts (t ∷ ts) d k
  later-asserts t ts d k h = record { i = suc h.i; within = omega (arith, h.within); wire_is = h.wire_is; coef_is = h.coef_is }

  term-asserts : (below : List A) (k : ℕ) (t : Term A) → ((t.g ≡ k) × (number t.coef ≡ 0)) ⊎ (share o laws.ring below k (again (zero_of o) t) ≡ o.zero)
  term-asserts below k t = elim (cases_eq t.g k) [
    | inl same ↦ elim (cases_eq (number t.coef) 0) [
      | inl z ↦ inl (same, z)
      | inr n ↦ inr (ap (λ x. times x (cond (t.g == k) (times (entry o below t.a) (entry o below t.b)) o.zero)) (zero_of-other o laws.ring laws.field t.coef (λ z. n (ap number z ∙ laws.numbers.zero_number))) ∙ zero_times o laws.ring _)
    ]
    | inr other ↦ inr (share-other o laws.ring below k (again (zero_of o) t) other)
  ]

  asserts : (below : List A) (k : ℕ) (d : Term A) (ts : List (Term A)) → Asserts ts d k ⊎ (sum_list o (zeros o ts) (share o laws.ring below k) ≡ o.zero)
  asserts below k d [] = inr refl
  asserts below k d (t ∷ ts) = elim (term-asserts below k t) [
    | inl h ↦ inl (record { i = 0; within = omega arith; wire_is = h.0; coef_is = h.1 })
    | inr first ↦ elim (asserts below k d ts) [
      | inl h ↦ inl (later-asserts t ts d k h)
      | inr rest ↦ inr (ap (λ x. plus x (sum_list o (zeros o ts) (share o laws.ring below k))) first ∙ zero_plus o laws.ring _ ∙ rest)
    ]
  ]

  wider : (wires m width : ℕ) (before : Option (Term A)) (ts : List (Term A)) → wires ≤ m → ArePlaced wires width before ts → ArePlaced m width before ts
  wider wires m width before [] l h = tt
  wider wires m width before (t ∷ ts) l h = let one = h.0 in (record { g = omega (arith, one.g, l); a = one.a; b = one.b }, h.1, wider wires m width (Some t) ts l h.2)

  -- for any number of a wire, also past the last
  asserts-or-none : (wires : ℕ) (ts : List (Term A)) (below : List A) (k : ℕ) (d : Term A) → ArePlaced wires (length below) None ts → Asserts ts d k ⊎ (asserted o ts below k ≡ o.zero)
  asserts-or-none wires ts below k d h =
      let m = wires + (k + 1) in
      let h' = wider wires m (length below) None ts (omega arith) h in
      elim (asserts below k d ts) [ inl a ↦ inl a | inr n ↦ inr (asserted-sum o laws.ring m ts below k (omega arith) h' ∙ n) ]

  -- what assertion terms count is 0 for each wire of a layer, where it is for each assertion wire
  layer-asserts : (wires : ℕ) (ts : List (Term A)) (below : List A) (k : ℕ) (d : Term A) → ArePlaced wires (length below) None ts → AreAllZero o (map (asserted o ts below) (assertion_wires number ts)) → asserted o ts below k ≡ o.zero
  layer-asserts wires ts below k d h zeros = elim (asserts-or-none wires ts below k d h) [
    | inl a ↦ subst (λ n. asserted o ts below n ≡ o.zero) a.wire_is (zero-wires o number (asserted o ts below) ts a.i d a.within a.coef_is zeros)
    | inr none ↦ none
  ]

  -- a wire of layer 0, and what is asserted of it
  output-zero : (layer : Layer A) (below : List A) (k : ℕ) (d : Term A) → k < layer.wires → ArePlaced layer.wires (length below) None layer.terms → MayEachStand o 2 None layer.terms → AreAllZero o (output_checks o layer below)
      → (wire o (coef o layer.terms) below k ≡ o.zero) × (asserted o layer.terms below k ≡ o.zero)
  output-zero layer below k d l h coefs zeros =
      let v = wire o (coef o layer.terms) below in
      let z = asserted o layer.terms below in
      let f : ℕ → A = λ g. plus (v g) (z g) in
      let both : plus (v k) (z k) ≡ o.zero = sym (get_or-map-range_with_len f 0 layer.wires k k o.zero l (omega arith)) ∙ zeros k in
      elim (asserts-or-none layer.wires layer.terms below k d h) [
        | inl a ↦
            let none : v k ≡ o.zero = subst (λ n. v n ≡ o.zero) a.wire_is (asserted-no-wire o laws.ring layer.wires layer.terms below a.i d a.within (is-zero _ a.coef_is) h coefs) in
            (none, sym (zero_plus o laws.ring (z k)) ∙ ap (λ x. plus x (z k)) (sym none) ∙ both)
        | inr none ↦ (sym (laws.ring.plus_zero (v k)) ∙ ap (plus (v k)) (sym none) ∙ both, none)
      ]

  inner-zero : (n l g : ℕ) (layers : List (Layer A)) (inputs : List A) (d : Term A) → length inputs ≡ n → l < length layers → AreLayersOf o 2 n layers → AreAllZero o (inner_checks o number layers inputs)
      → asserted o (get_or (map (λ layer. layer.terms) layers) l []) (list_at (all_values o layers inputs) (l + 1)) g ≡ o.zero
  inner-zero n l g [] inputs d e less h zeros = absurd (omega (arith, less))
  inner-zero n zero g (layer ∷ layers) inputs d e less h zeros =
      let below = wires_of o layers inputs in
      let one = h.0 in
      let placed : ArePlaced layer.wires (length below) None layer.terms = subst (λ m. ArePlaced layer.wires m None layer.terms) (ap (λ m. (under_of m layers).width) (sym e) ∙ sym (wires-width o layers inputs)) one.each in
      ap (λ xs. asserted o layer.terms xs g) (first-values o layers inputs)
      ∙ layer-asserts layer.wires layer.terms below g d placed (zero-front o (map (asserted o layer.terms below) (assertion_wires number layer.terms)) (inner_checks o number layers inputs) zeros)
  inner-zero n (suc l) g (layer ∷ layers) inputs d e less h zeros =
      let below = wires_of o layers inputs in
      let next : suc l + 1 ≡ suc (l + 1) = omega arith in
      ap (λ (k : ℕ). asserted o (get_or (map (λ layer. layer.terms) layers) l []) (list_at (all_values o (layer ∷ layers) inputs) k) g) next
      ∙ inner-zero n l g layers inputs d e (omega (arith, less)) h.1 (zero-back o (map (asserted o layer.terms below) (assertion_wires number layer.terms)) (inner_checks o number layers inputs) zeros)

  first-zero : (n g : ℕ) (layer : Layer A) (layers : List (Layer A)) (inputs : List A) (d : Term A) → length inputs ≡ n → AreLayersOf o 2 n (layer ∷ layers) → AreAllZero o (output_checks o layer (wires_of o layers inputs))
      → (entry o (wires_of o (layer ∷ layers) inputs) g ≡ o.zero) × (asserted o layer.terms (wires_of o layers inputs) g ≡ o.zero)
  first-zero n g layer layers inputs d e h zeros =
      let below = wires_of o layers inputs in
      let one = h.0 in
      let v = wire o (coef o layer.terms) below in
      let placed : ArePlaced layer.wires (length below) None layer.terms = subst (λ m. ArePlaced layer.wires m None layer.terms) (ap (λ m. (under_of m layers).width) (sym e) ∙ sym (wires-width o layers inputs)) one.each in
      elim (cases_lt g layer.wires) [
        | inl l ↦ let both = output-zero layer below g d l placed one.coefs zeros in (get_or-map-range_with_len v 0 layer.wires g g o.zero l (omega arith) ∙ both.0, both.1)
        | inr l ↦ (
          get_or-eq_default (wires_of o (layer ∷ layers) inputs) o.zero (omega (arith, l, length-map-range_with_len v 0 layer.wires)),
          elim (asserts-or-none layer.wires layer.terms below g d placed) [
            | inl a ↦ let t = placed-at layer.wires (length below) a.i None layer.terms d placed a.within in absurd (omega (arith, t.g, a.wire_is, l))
            | inr none ↦ none
          ],
        )
      ]

  -- satisfying inputs make each output 0
  pub satisfied-outputs : (c : Wiring A) (inputs : List A) (g : ℕ) → IsValid o c → length inputs ≡ input_width c → IsSatisfied o number c.layers inputs → entry o (wires_of o c.layers inputs) g ≡ o.zero
  satisfied-outputs c inputs g valid e all = go c.layers valid.some (layers-two o c.version (input_width c) c.layers valid.version valid.layers) (all-from o (checks_of o number c.layers inputs) all)
    where
      d : Term A
      d = record { g = 0; a = 0; b = 0; coef = o.zero }

      go : (layers : List (Layer A)) → 1 ≤ length layers → AreLayersOf o 2 (input_width c) layers → AreAllZero o (checks_of o number layers inputs) → entry o (wires_of o layers inputs) g ≡ o.zero
      go [] some h zeros = absurd (omega (arith, some))
      go (layer ∷ layers) some h zeros = let both = first-zero (input_width c) g layer layers inputs d e h (zero-front o (output_checks o layer (wires_of o layers inputs)) (inner_checks o number layers inputs) zeros) in both.0

  -- satisfying inputs make 0 what assertion terms count, for each wire of each layer
  pub satisfied-asserts : (c : Wiring A) (inputs : List A) (l g : ℕ) → IsValid o c → length inputs ≡ input_width c → IsSatisfied o number c.layers inputs → l < length c.layers
      → wire o (zero_at o (get_or (map (λ layer. layer.terms) c.layers) l [])) (list_at (all_values o c.layers inputs) (l + 1)) g ≡ o.zero
  satisfied-asserts c inputs l g valid e all less = go c.layers l less (layers-two o c.version (input_width c) c.layers valid.version valid.layers) (all-from o (checks_of o number c.layers inputs) all)
    where
      d : Term A
      d = record { g = 0; a = 0; b = 0; coef = o.zero }

      go : (layers : List (Layer A)) (l : ℕ) → l < length layers → AreLayersOf o 2 (input_width c) layers → AreAllZero o (checks_of o number layers inputs)
          → asserted o (get_or (map (λ layer. layer.terms) layers) l []) (list_at (all_values o layers inputs) (l + 1)) g ≡ o.zero
      go [] l less h zeros = absurd (omega (arith, less))
      go (layer ∷ layers) zero less h zeros =
          let both = first-zero (input_width c) g layer layers inputs d e h (zero-front o (output_checks o layer (wires_of o layers inputs)) (inner_checks o number layers inputs) zeros) in
          ap (λ xs. asserted o layer.terms xs g) (first-values o layers inputs) ∙ both.1
      go (layer ∷ layers) (suc l) less h zeros =
          let next : suc l + 1 ≡ suc (l + 1) = omega arith in
          ap (λ (k : ℕ). asserted o (get_or (map (λ layer. layer.terms) layers) l []) (list_at (all_values o (layer ∷ layers) inputs) k) g) next
          ∙ inner-zero (input_width c) l g layers inputs d e (omega (arith, less)) h.1 (zero-back o (output_checks o layer (wires_of o layers inputs)) (inner_checks o number layers inputs) zeros)

  -- ---- in version 1 the checks are the outputs

  no-asserts : (wires width : ℕ) (before : Option (Term A)) (ts : List (Term A)) (d : Term A) (k : ℕ) → AreTerms o wires width before ts → Asserts ts d k → ⊥
  no-asserts wires width before ts d k h a = let t = term-at o wires width a.i before ts d h a.within in t.coef (is-zero (get_or ts a.i d).coef a.coef_is)

  no-wires : (wires width : ℕ) (before : Option (Term A)) (ts : List (Term A)) → AreTerms o wires width before ts → assertion_wires number ts ≡ []
  no-wires wires width before [] h = refl
  no-wires wires width before (t ∷ ts) h =
      let one = h.0 in
      ap (λ b. map (λ (t : Term A). t.g) (cond b (t ∷ filter (is_assertion number) ts) (filter (is_assertion number) ts))) (ne_eqb (number t.coef) 0 (λ z. one.coef (is-zero t.coef z))) ∙ no-wires wires width (Some t) ts h.2

  no-inner : (n : ℕ) (layers : List (Layer A)) (inputs : List A) → AreLayers o n layers → inner_checks o number layers inputs ≡ []
  no-inner n [] inputs h = refl
  no-inner n (layer ∷ layers) inputs h =
      let one = h.0 in
      ap (λ ws. map (asserted o layer.terms (wires_of o layers inputs)) ws ++ inner_checks o number layers inputs) (no-wires layer.wires (under_of n layers).width None layer.terms one.each) ∙ no-inner n layers inputs h.1

  pub one-checks : (n : ℕ) (layers : List (Layer A)) (inputs : List A) → length inputs ≡ n → 1 ≤ length layers → AreLayers o n layers → checks_of o number layers inputs ≡ wires_of o layers inputs
  one-checks n [] inputs e some h = absurd (omega (arith, some))
  one-checks n (layer ∷ layers) inputs e some h =
      let below = wires_of o layers inputs in
      let one = h.0 in
      let v = wire o (coef o layer.terms) below in
      let f : ℕ → A = λ k. plus (v k) (asserted o layer.terms below k) in
      let d : Term A = record { g = 0; a = 0; b = 0; coef = o.zero } in
      let placed : ArePlaced layer.wires (length below) None layer.terms =
      subst (λ m. ArePlaced layer.wires m None layer.terms) (ap (λ m. (under_of m layers).width) (sym e) ∙ sym (wires-width o layers inputs)) (terms-placed o layer.wires (under_of n layers).width None layer.terms one.each) in
      ap (λ xs. map f (range_with_len 0 layer.wires) ++ xs) (no-inner n layers inputs h.1) ∙ append-none (map f (range_with_len 0 layer.wires))
      ∙ ext_get_or o.zero (map f (range_with_len 0 layer.wires)) (map v (range_with_len 0 layer.wires)) (length-map-range_with_len f 0 layer.wires ∙ sym (length-map-range_with_len v 0 layer.wires))
      (λ k l. get_or-map-range_with_len f 0 layer.wires k k o.zero (omega (arith, l, length-map-range_with_len f 0 layer.wires)) (omega arith)
      ∙ ap (plus (v k)) (elim (asserts-or-none layer.wires layer.terms below k d placed) [ inl a ↦ absurd (no-asserts layer.wires (under_of n layers).width None layer.terms d k one.each a) | inr none ↦ none ])
      ∙ laws.ring.plus_zero (v k) ∙ sym (get_or-map-range_with_len v 0 layer.wires k k o.zero (omega (arith, l, length-map-range_with_len f 0 layer.wires)) (omega arith)))

-- Sums over terms that are weighted wire by wire.
use Rattle.std.specs.Prelude.{◌≡◌, ℕ, ◌<◌, ◌≤◌, ◌+◌, List, [], ◌∷◌, length, drop, slice_index_or, slice_get, Some, None}
use Rattle.std.proofs.Common.{zero, suc, refl, sym, ap, ◌∙◌, get_or, subst, arith}
use Rattle.std.proofs.lemmas.Option.{get_or_from_slice_get, slice_get_within}
use Rattle.std.proofs.lemmas.List.{drop_more, drop_all}
use Rattle.lzk_field.specs.Ring.{Ops, RingLaws}
use Rattle.lzk_field.specs.Sums.{entry}
use Rattle.lzk_field.proofs.Solve.{var, null, ◌⊞◌, ◌⊠◌, solve}
use Rattle.lzk_circuit.specs.Sums.{sum_list}
use Rattle.lzk_circuit.specs.declared.layer.Layer.{Layer}
use Rattle.lzk_circuit.specs.declared.layer.Term.{Term}
use Rattle.lzk_circuit.specs.Valid.{Wiring, ArePlaced, IsValid}
use Rattle.lzk_circuit.specs.Wires.{weighed_term, AreDistinct}
use Rattle.lzk_sumcheck.proofs.LayerShapes.{terms-placed-at}
use Rattle.lzk_circuit.proofs.OrderLaws.{placed-distinct}
use Rattle.lzk_layout.specs.Places.{width_at}
use Rattle.lzk_mle.specs.Multilinear.{eq}
use Rattle.lzk_sumcheck.specs.declared.script.Script.{Script}
use Rattle.lzk_sumcheck.specs.Script.{layer_at, point_a, point_b}
use Rattle.lzk_sumcheck.specs.Coefficients.{coefficients, bound_at}
use Rattle.lzk_accept.specs.declared.terms.Walk.{Walk}
use Rattle.lzk_accept.specs.Bound.{counts_at}
use Rattle.lzk_accept.specs.Walks.{counted, counted_so_far}
use Rattle.lzk_accept.proofs.BoundLaws.{bound_sum}
use Rattle.lzk_accept.proofs.ShapeLaws.{wires_is, terms_is}

module _ {A : Type 0} (o : Ops A) (r : RingLaws o) where
  open o use {plus, times}

  -- the wire before gets its weight
  pub weighted : (sum other z : A) → plus sum (times other (plus o.zero (times z o.zero))) ≡ sum
  weighted sum other z = solve o r (sum ∷ other ∷ z ∷ []) (var 0 ⊞ var 1 ⊠ (null ⊞ var 2 ⊠ null)) (var 0) refl

  -- a term of the same wire
  pub term_added : (total weight inner z linear x coef y : A)
      → plus total (times weight (plus (plus inner (times x (times coef y))) (times z linear))) ≡ plus (plus total (times weight (plus inner (times z linear)))) (times coef (times weight (times x y)))
  term_added total weight inner z linear x coef y =
      let T = var 0 in let W = var 1 in let I = var 2 in let Z = var 3 in let L = var 4 in let X = var 5 in let C = var 6 in let Y = var 7 in
      solve o r (total ∷ weight ∷ inner ∷ z ∷ linear ∷ x ∷ coef ∷ y ∷ []) (T ⊞ W ⊠ ((I ⊞ X ⊠ (C ⊠ Y)) ⊞ Z ⊠ L)) ((T ⊞ W ⊠ (I ⊞ Z ⊠ L)) ⊞ C ⊠ (W ⊠ (X ⊠ Y))) refl

  -- one whose first wire is wire 0
  pub linear_added : (total weight inner z linear coef y : A)
      → plus total (times weight (plus inner (times z (plus linear (times coef y))))) ≡ plus (plus total (times weight (plus inner (times z linear)))) (times coef (times weight (times z y)))
  linear_added total weight inner z linear coef y =
      let T = var 0 in let W = var 1 in let I = var 2 in let Z = var 3 in let L = var 4 in let C = var 5 in let Y = var 6 in
      solve o r (total ∷ weight ∷ inner ∷ z ∷ linear ∷ coef ∷ y ∷ []) (T ⊞ W ⊠ (I ⊞ Z ⊠ (L ⊞ C ⊠ Y))) ((T ⊞ W ⊠ (I ⊞ Z ⊠ L)) ⊞ C ⊠ (W ⊠ (Z ⊠ Y))) refl

  module _ (beta : A) (weights first second : List A) where
    abbrev pub count : Term A → A
    count = counted o beta weights first second

    pub walk_starts : (ts : List (Term A)) (z : A) (walk : Walk A) → walk.total ≡ o.zero → walk.linear ≡ o.zero → walk.inner ≡ o.zero → plus (counted_so_far o weights z walk) (sum_list o ts count) ≡ sum_list o ts count
    walk_starts ts z walk et el ei =
        let w = entry o weights walk.wire in
        let s = sum_list o ts count in
        ap (λ x. plus (plus x (times w (plus walk.inner (times z walk.linear)))) s) et ∙ ap (λ x. plus (plus o.zero (times w (plus x (times z walk.linear)))) s) ei ∙ ap (λ x. plus (plus o.zero (times w (plus o.zero (times z x)))) s) el
        ∙ solve o r (w ∷ s ∷ z ∷ []) ((null ⊞ var 0 ⊠ (null ⊞ var 2 ⊠ null)) ⊞ var 1) (var 1) refl

    pub walk_more : (ts : List (Term A)) (old new all : A) (i : ℕ) (t : Term A) → i < length ts → t ≡ get_or ts i t
        → new ≡ plus old (count t) → plus old (sum_list o (drop i ts) count) ≡ all → plus new (sum_list o (drop (i + 1) ts) count) ≡ all
    walk_more ts old new all i t li is e h =
        let front : drop i ts ≡ t ∷ drop (i + 1) ts = drop_more ts i t li ∙ ap (λ x. x ∷ drop (i + 1) ts) (sym is) in
        ap (λ x. plus x (sum_list o (drop (i + 1) ts) count)) e ∙ r.plus_assoc old (count t) (sum_list o (drop (i + 1) ts) count)
        ∙ sym (ap (λ xs. plus old (sum_list o xs count)) front) ∙ h

    pub walk_ends : (ts : List (Term A)) (sum all : A) (i : ℕ) → length ts ≤ i → plus sum (sum_list o (drop i ts) count) ≡ all → sum ≡ all
    walk_ends ts sum all i li h = sym (r.plus_zero sum) ∙ sym (ap (λ xs. plus sum (sum_list o xs count)) (drop_all i ts li)) ∙ h

module _ {A : Type 0} (o : Ops A) (r : RingLaws o) where
  open o use {plus, times}

  counted_counts : (k n : ℕ) (weights first second : List A) (alpha beta : A) (pa pb ra rb : List A) (ts : List (Term A)) → AreDistinct o k n ts
      → ((g : ℕ) → g < k → entry o weights g ≡ plus (eq o g pa) (times alpha (eq o g pb))) → ((a : ℕ) → a < n → entry o first a ≡ eq o a ra) → ((b : ℕ) → b < n → entry o second b ≡ eq o b rb)
      → sum_list o ts (counted o beta weights first second) ≡ sum_list o ts (counts_at o alpha beta pa pb ra rb)
  counted_counts k n weights first second alpha beta pa pb ra rb [] h ew ea eb = refl
  counted_counts k n weights first second alpha beta pa pb ra rb (t ∷ ts) h ew ea eb =
      let rest = sum_list o ts (counted o beta weights first second) in
      let y = (weighed_term o beta t).coef in
      let w = plus (eq o t.g pa) (times alpha (eq o t.g pb)) in
      ap (λ x. plus (times y (times x (times (entry o first t.a) (entry o second t.b)))) rest) (ew t.g h.0)
      ∙ ap (λ x. plus (times y (times w (times x (entry o second t.b)))) rest) (ea t.a h.1)
      ∙ ap (λ x. plus (times y (times w (times (eq o t.a ra) x))) rest) (eb t.b h.2)
      ∙ ap (λ x. plus (times y x) rest) (sym (r.times_assoc w (eq o t.a ra) (eq o t.b rb)))
      ∙ ap (plus (counts_at o alpha beta pa pb ra rb t)) (counted_counts k n weights first second alpha beta pa pb ra rb ts h.4 ew ea eb)

  -- a layer's terms are in their places, below the two widths
  pub layer_placed : (c : Wiring A) (l : ℕ) (layer : Layer A) → IsValid o c → slice_get c.layers l ≡ Some layer → ArePlaced (width_at c l) (width_at c (l + 1)) None layer.terms
  layer_placed c l layer valid is =
      let here : layer ≡ slice_index_or c.layers l layer = sym (get_or_from_slice_get c.layers l layer layer is) in
      subst (λ n. ArePlaced n (width_at c (l + 1)) None layer.terms) (wires_is c l layer is)
      (subst (λ (x : Layer A). ArePlaced x.wires (width_at c (l + 1)) None x.terms) (sym here) (terms-placed-at o c l layer (slice_get_within c.layers l layer is) valid))

  -- they have each three numbers once
  pub layer_distinct : (c : Wiring A) (l : ℕ) (layer : Layer A) → IsValid o c → slice_get c.layers l ≡ Some layer → AreDistinct o (width_at c l) (width_at c (l + 1)) layer.terms
  layer_distinct c l layer valid is = placed-distinct o (width_at c l) (width_at c (l + 1)) None layer.terms (layer_placed c l layer valid is)

  -- by tables of the weights and of both points, the sum over a layer's terms is its bound coefficient
  pub bound_by_tables : (c : Wiring A) (s : Script A) (l : ℕ) (layer : Layer A) (weights first second : List A) → IsValid o c → slice_get c.layers l ≡ Some layer
      → ((g : ℕ) → g < width_at c l → entry o weights g ≡ plus (eq o g (point_a o s l)) (times (layer_at o s l).alpha (eq o g (point_b o s l))))
      → ((a : ℕ) → a < width_at c (l + 1) → entry o first a ≡ eq o a (layer_at o s l).ra)
      → ((b : ℕ) → b < width_at c (l + 1) → entry o second b ≡ eq o b (layer_at o s l).rb)
      → sum_list o layer.terms (counted o (layer_at o s l).beta weights first second) ≡ bound_at o c (coefficients o c s) s l
  bound_by_tables c s l layer weights first second valid is ew ef es =
      let distinct = layer_distinct c l layer valid is in
      counted_counts (width_at c l) (width_at c (l + 1)) weights first second (layer_at o s l).alpha (layer_at o s l).beta (point_a o s l) (point_b o s l) (layer_at o s l).ra (layer_at o s l).rb layer.terms distinct ew ef es
      ∙ bound_sum o r c s l layer.terms (terms_is c l layer is) (layer_placed c l layer valid is)

-- each term is below the widths
pub distinct_within : {A : Type 0} (o : Ops A) (k n : ℕ) (ts : List (Term A)) → AreDistinct o k n ts → (i : ℕ) (t : Term A) → slice_get ts i ≡ Some t → (t.g < k) × (t.a < n) × (t.b < n)
distinct_within o k n [] h i t e = absurd (let l = slice_get_within [] i t e in omega (arith, l))
distinct_within o k n (u ∷ ts) h zero t e = subst (λ (x : Term _). (x.g < k) × (x.a < n) × (x.b < n)) (some_is u t e) (h.0, h.1, h.2)
  where
    some_is : {X : Type 0} (x y : X) → Some x ≡ Some y → x ≡ y
    some_is x y e = cc
distinct_within o k n (u ∷ ts) h (suc i) t e = distinct_within o k n ts h.4 i t e

-- Lists in another order.
use Rattle.lzk_profile.specs.Profile.{most_total}
use Rattle.std.specs.Prelude.{◌≡◌, ℕ, ◌+◌, ◌%◌, ◌<◌, ◌≤◌, Bool, true, false, not, cond, Option, Some, None, List, [], ◌∷◌, ◌++◌, ◌-◌, length, map, slice_get, slice_index_or, slice_set}
use Rattle.std.specs.List.{range_with_len, AllByRecursion, swap}
use Rattle.std.specs.List.Sorted.{IsPermutation}
use Rattle.std.proofs.Common.{zero, suc, refl, sym, ap, ◌∙◌, get_or, arith, subst, inl, inr}
use Rattle.std.proofs.lemmas.List.{length-set, get_or-set_same, get_or-set_other, get_or_append_left, get_or-append_right, length-append, append_assoc}
use Rattle.std.proofs.lemmas.List.Elements.{recursion_from_All, All-from_recursion}
use Rattle.std.proofs.lemmas.List.FromFn.{length-range_with_len, get_or-range_with_len, map-range_with_len_more}
use Rattle.std.proofs.lemmas.Option.{slice_get-get_or}
use Rattle.std.proofs.lemmas.List.Sorted.{IsPermutation-refl, IsPermutation-trans, IsPermutation-append_left, IsPermutation-append_right, IsPermutation-append_comm, IsPermutation-keeps, IsPermutation-map, All-permutation, length_permutation}
use Rattle.std.proofs.lemmas.Bool.{cases_eq}
use native.Mathlib.Decide.{dec_lt}
use Rattle.lzk_field.specs.Ring.{Ops, RingLaws}
use Rattle.lzk_field.proofs.RingBasics.{plus_cancel}
use Rattle.lzk_field.proofs.Solve.{var, ◌⊞◌, solve}
use Rattle.lzk_circuit.specs.Sums.{sum_list}
use Rattle.lzk_circuit.specs.Valid.{Wiring}
use Rattle.lzk_circuit.specs.declared.layer.Term.{Term}
use Rattle.lzk_sumcheck_rounds.specs.declared.pairs.Pair.{Pair}
use Rattle.lzk_layout.specs.Places.{depth}
use Rattle.lzk_sumcheck.specs.Coefficients.{terms_at}
use Rattle.lzk_sumcheck_rounds.specs.Orders.{places, IsOrderOf, AreOrders}
use Rattle.lzk_sumcheck_rounds.specs.Pairs.{ArePairs}
use Rattle.lzk_sumcheck_rounds.proofs.LayerSends.{mapped}

-- one number more
same_numbers : (xs : List ℕ) → map (λ k. k) xs ≡ xs
same_numbers [] = refl
same_numbers (x ∷ xs) = ap (λ ys. x ∷ ys) (same_numbers xs)

pub range_more : (n : ℕ) → range_with_len 0 (n + 1) ≡ range_with_len 0 n ++ n ∷ []
range_more n =
    sym (same_numbers (range_with_len 0 (n + 1))) ∙ map-range_with_len_more (λ k. k) 0 n n (omega arith) ∙ ap (λ xs. xs ++ n ∷ []) (same_numbers (range_with_len 0 n))

-- ---- the places that pass a test, and behind them the others

-- whether a term's first wire is wire 0
abbrev pub is_zero : ℕ → Bool
is_zero zero = true
is_zero (suc n) = false

abbrev pub zero_first : {A : Type 0} → Option (Term A) → Bool
zero_first None = false
zero_first (Some t) = is_zero t.a

abbrev pub is_linear : {A : Type 0} → List (Term A) → ℕ → Bool
is_linear ts i = zero_first (slice_get ts i)

module _ {A : Type 0} (ts : List (Term A)) (i : ℕ) (t : Term A) (h : i < length ts) (is : t ≡ get_or ts i t) where
  here : is_linear ts i ≡ is_zero t.a
  here = ap zero_first (slice_get-get_or ts i t h ∙ ap Some (sym is))

  pub linear_at : t.a ≡ 0 → is_linear ts i ≡ true
  linear_at e = here ∙ ap is_zero e

  pub other_at : 0 < t.a → is_linear ts i ≡ false
  other_at n = let e : t.a ≡ suc (t.a - 1) = omega arith in here ∙ ap is_zero e

-- the places below n that pass
abbrev pub places_where : (ℕ → Bool) → ℕ → List ℕ
places_where f zero = []
places_where f (suc n) = cond (f n) (places_where f n ++ n ∷ []) (places_where f n)

pub place_passed : (f : ℕ → Bool) (n : ℕ) → f n ≡ true → places_where f (n + 1) ≡ places_where f n ++ n ∷ []
place_passed f n e =
    let next : n + 1 ≡ suc n = omega arith in
    ap (places_where f) next ∙ ap (λ b. cond b (places_where f n ++ n ∷ []) (places_where f n)) e

pub place_failed : (f : ℕ → Bool) (n : ℕ) → f n ≡ false → places_where f (n + 1) ≡ places_where f n
place_failed f n e =
    let next : n + 1 ≡ suc n = omega arith in
    ap (places_where f) next ∙ ap (λ b. cond b (places_where f n ++ n ∷ []) (places_where f n)) e

one_placed : (b : Bool) (ps qs rs : List ℕ) (n : ℕ) → IsPermutation rs (ps ++ qs) → IsPermutation (rs ++ n ∷ []) (cond b (ps ++ n ∷ []) ps ++ cond (not b) (qs ++ n ∷ []) qs)
one_placed true ps qs rs n h =
    IsPermutation-trans (rs ++ n ∷ []) (ps ++ (qs ++ n ∷ [])) ((ps ++ n ∷ []) ++ qs)
    (subst (IsPermutation (rs ++ n ∷ [])) (append_assoc ps qs (n ∷ [])) (IsPermutation-append_left (n ∷ []) rs (ps ++ qs) h))
    (subst (IsPermutation (ps ++ (qs ++ n ∷ []))) (sym (append_assoc ps (n ∷ []) qs)) (IsPermutation-append_right ps (qs ++ n ∷ []) ((n ∷ []) ++ qs) (IsPermutation-append_comm qs (n ∷ []))))
one_placed false ps qs rs n h = subst (IsPermutation (rs ++ n ∷ [])) (append_assoc ps qs (n ∷ [])) (IsPermutation-append_left (n ∷ []) rs (ps ++ qs) h)

all_placed : (f : ℕ → Bool) (n : ℕ) → IsPermutation (range_with_len 0 n) (places_where f n ++ places_where (λ i. not (f i)) n)
all_placed f zero = IsPermutation-refl []
all_placed f (suc n) =
    let next : n + 1 ≡ suc n = omega arith in
    subst (λ xs. IsPermutation xs (places_where f (suc n) ++ places_where (λ i. not (f i)) (suc n))) (sym (range_more n) ∙ ap (range_with_len 0) next)
    (one_placed (f n) (places_where f n) (places_where (λ i. not (f i)) n) (range_with_len 0 n) n (all_placed f n))

-- no fewer places pass below a greater number
placed-more : (f : ℕ → Bool) (j n : ℕ) → j ≤ n → length (places_where f j) ≤ length (places_where f n)
placed-more f j zero h = let none : j ≡ 0 = omega (arith, h) in omega (arith, ap (λ k. length (places_where f k)) none)
placed-more f j (suc n) h =
    elim (dec_lt j (suc n)) [
      | yes l ↦ omega (arith, placed-more f j n (omega (arith, l)), one_longer (f n) (places_where f n) n)
      | no l ↦ let all : j ≡ suc n = omega (arith, h, l) in omega (arith, ap (λ k. length (places_where f k)) all)
    ]
  where
    one_longer : (b : Bool) (ps : List ℕ) (n : ℕ) → length ps ≤ length (cond b (ps ++ n ∷ []) ps)
    one_longer true ps n = omega (arith, length-append ps (n ∷ []))
    one_longer false ps n = omega arith

-- all that pass below n and those that fail below a number are no more than n
pub placed-few : (f : ℕ → Bool) (n j : ℕ) → j ≤ n → length (places_where f n) + length (places_where (λ i. not (f i)) j) ≤ n
placed-few f n j h =
    let passed = places_where f n in
    let failed = places_where (λ i. not (f i)) n in
    omega (arith, placed-more (λ i. not (f i)) j n h, length-append passed failed, length_permutation (range_with_len 0 n) (passed ++ failed) (all_placed f n), length-range_with_len 0 n)

-- a place more passes below n
pub passed-below : (f : ℕ → Bool) (n j : ℕ) → j < n → f j ≡ true → length (places_where f j) < n
passed-below f n j h e =
    omega (arith, placed-few f n 0 (omega arith), placed-more f (j + 1) n (omega (arith, h)), ap length (place_passed f j e), length-append (places_where f j) (j ∷ []))

-- a place more fails below n
pub failed-below : (f : ℕ → Bool) (n j : ℕ) → j < n → f j ≡ false → length (places_where f n) + length (places_where (λ i. not (f i)) j) < n
failed-below f n j h e =
    let failed = places_where (λ i. not (f i)) j in
    omega (arith, placed-few f n (j + 1) (omega (arith, h)), ap length (place_passed (λ i. not (f i)) j (ap not e)), length-append failed (j ∷ []))

-- so an order, however these are sorted
pub order_sorted : {A : Type 0} (ts : List (Term A)) (ps qs : List ℕ)
    → places ps ≡ places_where (is_linear ts) (length ts) ++ places_where (λ i. not (is_linear ts i)) (length ts)
    → IsPermutation ps qs → IsOrderOf ts (places qs)
order_sorted ts ps qs is h =
    IsPermutation-trans (range_with_len 0 (length ts)) (places ps) (places qs)
    (subst (IsPermutation (range_with_len 0 (length ts))) (sym is) (all_placed (is_linear ts) (length ts)))
    (IsPermutation-map (λ w. w % most_total) ps qs h)

-- as many places as entries, and each of an entry
pub order_length : {X : Type 0} (xs : List X) (ks : List ℕ) → IsOrderOf xs ks → length ks ≡ length xs
order_length xs ks h = length_permutation (range_with_len 0 (length xs)) ks h ∙ length-range_with_len 0 (length xs)

pub place_below : {X : Type 0} (xs : List X) (ks : List ℕ) → IsOrderOf xs ks → (i d : ℕ) → i < length ks → slice_index_or ks i d < length xs
place_below xs ks h i d l =
    let n = length xs in
    All-permutation (λ k. k < n) (range_with_len 0 n) ks h (λ j e q. omega (arith, q, length-range_with_len 0 n, get_or-range_with_len 0 n j e (omega (arith, q, length-range_with_len 0 n)))) i d l

-- orders of the first n layers
pub record AreOrdersBelow {A : Type 0} (c : Wiring A) (n : ℕ) (orders : List (List ℕ)) : Type 0 where
  pub count : length orders ≡ n
  pub each : (l : ℕ) → l < n → IsOrderOf (terms_at c l) (slice_index_or orders l [])

pub orders_more : {A : Type 0} (c : Wiring A) (n : ℕ) (orders new : List (List ℕ)) (x : List ℕ) → AreOrdersBelow c n orders → new ≡ orders ++ x ∷ [] → IsOrderOf (terms_at c n) x → AreOrdersBelow c (n + 1) new
orders_more c n orders new x h e is = record {
  count = ap length e ∙ length-append orders (x ∷ []) ∙ (let k = h.count in omega arith);
  each = λ l q.
      elim (dec_lt l n) [
        | yes p ↦
            subst (IsOrderOf (terms_at c l))
            (sym (ap (λ xs. slice_index_or xs l []) e ∙ get_or_append_left orders (x ∷ []) [] l (omega (arith, p, h.count)))) (h.each l p)
        | no p ↦
            let z : n ≡ l = omega (arith, p, q) in
            let none : n - n ≡ 0 = omega arith in
            let here : slice_index_or new n [] ≡ x =
            ap (λ xs. slice_index_or xs n []) e ∙ get_or-append_right orders (x ∷ []) n n [] h.count (omega arith) ∙ ap (λ k. slice_index_or (x ∷ []) k []) none in
            subst (λ k. IsOrderOf (terms_at c k) (slice_index_or new k [])) z (subst (IsOrderOf (terms_at c n)) (sym here) is)
      ];
}

pub orders_whole : {A : Type 0} (c : Wiring A) (n : ℕ) (orders : List (List ℕ)) → AreOrdersBelow c n orders → n ≡ depth c → AreOrders c orders
orders_whole c n orders h e = record {
  count = h.count ∙ e;
  each = λ l q. h.each l (omega (arith, q, e));
}

-- a list by its places
pub picked : {X Y : Type 0} (f : X → Y) (d : X) (xs : List X) (ks : List ℕ) → IsOrderOf xs ks → IsPermutation (map f xs) (map (λ k. f (slice_index_or xs k d)) ks)
picked f d xs ks h =
    let g = λ (k : ℕ). f (slice_index_or xs k d) in
    subst (λ ys. IsPermutation ys (map g ks)) (mapped f d xs) (IsPermutation-map g (range_with_len 0 (length xs)) ks h)

module _ {A : Type 0} (o : Ops A) (r : RingLaws o) {X : Type 0} (f : X → A) where
  open o use {plus}

  sum-set : (xs : List X) (i : ℕ) (y d : X) → i < length xs → plus (sum_list o (slice_set xs i y) f) (f (slice_index_or xs i d)) ≡ plus (sum_list o xs f) (f y)
  sum-set [] i y d l = absurd (omega arith)
  sum-set (x ∷ xs) zero y d l = solve o r (f y ∷ sum_list o xs f ∷ f x ∷ []) ((var 0 ⊞ var 1) ⊞ var 2) ((var 2 ⊞ var 1) ⊞ var 0) refl
  sum-set (x ∷ xs) (suc i) y d l = r.plus_assoc _ _ _ ∙ ap (plus (f x)) (sum-set xs i y d (omega arith)) ∙ sym (r.plus_assoc _ _ _)

  sum-swap : (l : List X) (i j : ℕ) → i < length l → j < length l → sum_list o (swap l i j) f ≡ sum_list o l f
  sum-swap [] i j p q = absurd (omega arith)
  sum-swap (d ∷ ys) i j p q =
      let l = d ∷ ys in
      let x = slice_index_or l i d in
      let y = slice_index_or l j d in
      let w = slice_set l i y in
      let there : slice_index_or w j d ≡ y = elim (cases_eq j i) [
        | inl e ↦ ap (λ n. slice_index_or w n d) e ∙ get_or-set_same l i y d p
        | inr e ↦ get_or-set_other l i j y d e
      ] in
      let inside : j < length w = omega (arith, q, length-set l i y) in
      plus_cancel o r (f y) (sum_list o (slice_set w j x) f) (sum_list o l f)
      (r.plus_comm (f y) (sum_list o (slice_set w j x) f) ∙ ap (λ z. plus (sum_list o (slice_set w j x) f) (f z)) (sym there)
      ∙ sum-set w j x d inside ∙ sum-set l i y d p ∙ r.plus_comm (sum_list o l f) (f y))

  -- a sum does not depend on the order
  pub sum-permuted : (xs ys : List X) → IsPermutation xs ys → sum_list o ys f ≡ sum_list o xs f
  sum-permuted xs ys h = IsPermutation-keeps xs (λ l. sum_list o l f ≡ sum_list o xs f) refl (λ l i j p q e. sum-swap l i j p q ∙ e) ys h

module _ {A : Type 0} (n m : ℕ) where
  to_all : (ps : List (Pair A)) → ArePairs n m ps → AllByRecursion (λ (p : Pair A). (p.a < n) × (p.b < m)) ps
  to_all [] h = tt
  to_all (p ∷ ps) h = ((h.0, h.1), to_all ps h.2)

  of_all : (ps : List (Pair A)) → AllByRecursion (λ (p : Pair A). (p.a < n) × (p.b < m)) ps → ArePairs n m ps
  of_all [] h = tt
  of_all (p ∷ ps) h = (h.0.0, h.0.1, of_all ps h.1)

  pub pairs-permuted : (ps qs : List (Pair A)) → IsPermutation ps qs → ArePairs n m ps → ArePairs n m qs
  pairs-permuted ps qs s h =
      let P = λ (p : Pair A). (p.a < n) × (p.b < m) in
      of_all qs (recursion_from_All P qs (All-permutation P ps qs s (All-from_recursion P ps (to_all ps h))))

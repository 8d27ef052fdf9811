-- Each step keeps the rule.
use Rattle.std.proofs.Common.{All, ◌≡◌, ℕ, zero, suc, ◌+◌, ◌-◌, ◌%◌, ◌^◌, ◌<◌, ◌≤◌, true, false, List, [], ◌∷◌, ◌++◌, set, refl, sym, ap, ◌∙◌, inl, inr, arith}
use Rattle.std.specs.Prelude.{slice_index, slice_index_or, sum_by, flat_map}
use mathlib.Core.Option.{some, some-injective, some-ne-none}
use lib.ListN.{get_elem?}
use Rattle.std.proofs.lemmas.Bool.{cases_lt, cases_Bool, le-ltb, true≢false}
use Rattle.std.proofs.lemmas.List.{get_or-set_same, length-set}
use Rattle.std.proofs.lemmas.List.Sums.{sum_by-cons, sum_by-append, sum_by_push}
use Rattle.atomic_table.proofs.Lists.{at_set, at_snoc, set_else}
use Rattle.atomic_table.specs.Table.{State, Allows, Splits, Joins, keeps}
use Rattle.lzk_batch.specs.declared.rule.View.{View}
use Rattle.lzk_batch.specs.Tickets.{view_of, times, once_below, HasEachBelowOnce, late, drawn_unless_spent, shares_unless_spent, IsEachDrawnOnce, Rule}
use Rattle.lzk_batch.proofs.Weights.{mark, late_mark, sum_below, weighs_below, once_from_weights, late_once, late_below, stands, sum_flat}

-- the total after a change of one view
sum_set : (f : View → ℕ) (views : List View) (id : ℕ) (v w : View) → get_elem? views id ≡ some v → sum_by f (set views id w) + f v ≡ sum_by f views + f w
sum_set f [] id v w e = absurd (some-ne-none v (sym e))
sum_set f (x ∷ xs) zero v w e =
    let same : f x ≡ f v = ap f (some-injective x v e) in omega (arith, sum_by-cons f w xs, sum_by-cons f x xs)
sum_set f (x ∷ xs) (suc id) v w e = omega (arith, sum_by-cons f x (set xs id w), sum_by-cons f x xs, sum_set f xs id v w e)

sum_le : (f g : View → ℕ) (views : List View) → ((id : ℕ) (v : View) → get_elem? views id ≡ some v → f v ≤ g v) → sum_by f views ≤ sum_by g views
sum_le f g [] h = omega arith
sum_le f g (x ∷ xs) h =
    let head = h 0 x refl in
    omega (arith, head, sum_by-cons f x xs, sum_by-cons g x xs, sum_le f g xs (λ id v e. h (suc id) v e))

-- what a view's numbers weigh
abbrev weight : (ℕ → ℕ) → View → ℕ
weight h v = sum_by h (drawn_unless_spent v)

weight_live : (h : ℕ → ℕ) (v : View) → v.is_spent ≡ false → weight h v ≡ sum_by h v.drawn
weight_live h v live = rw live refl

share_live : (v : View) → v.is_spent ≡ false → shares_unless_spent v ≡ 1 + v.spare
share_live v live = rw live refl

-- the views' numbers weigh what the numbers below the word weigh
weighs : (words : List ℕ) (views : List View) (h : ℕ → ℕ) → Rule words views → sum_by (weight h) views ≡ sum_below h (slice_index words 0)
weighs words views h k = sym (sum_flat h drawn_unless_spent views) ∙ weighs_below h (slice_index words 0) (flat_map drawn_unless_spent views) k.drawn_once

once : (n : ℕ) (views : List View) → ((h : ℕ → ℕ) → sum_by (weight h) views ≡ sum_below h n) → IsEachDrawnOnce n views
once n views w = once_from_weights n (flat_map drawn_unless_spent views) (λ h. sum_flat h drawn_unless_spent views ∙ w h)

-- the word stays small
word_small : (words : List ℕ) (views : List View) → Rule words views → slice_index words 0 ≤ 320
word_small words views k =
    let each : (id : ℕ) (v : View) → get_elem? views id ≡ some v → weight late_mark v ≤ shares_unless_spent v =
    λ id v e. elim (cases_Bool v.is_spent) [
      | inl s ↦ rw s (omega arith)
      | inr s ↦ rw s (k.few_late id v e s)
    ] in
    let all = sum_le (weight late_mark) shares_unless_spent views each in
    omega (arith, all, weighs words views late_mark k, k.shared_out, late_below (slice_index words 0))

-- the words and views after a draw by the seat id, whose view is v
draws_keep : (words : List ℕ) (views : List View) (id : ℕ) (v : View) → Rule words views → get_elem? views id ≡ some v → v.is_spent ≡ false → late v.drawn ≤ v.spare
    → Rule (set words 0 ((slice_index words 0 + 1) % 2 ^ 64)) (set views id (view_of (v.drawn ++ slice_index words 0 ∷ []) v.spare v.is_spent))
draws_keep words views id v k at live early =
    let n = slice_index words 0 in
    let w = view_of (v.drawn ++ n ∷ []) v.spare v.is_spent in
    let small : n ≤ 320 = word_small words views k in
    let word : slice_index (set words 0 ((n + 1) % 2 ^ 64)) 0 ≡ suc n =
    let h : (n + 1) % 2 ^ 64 ≡ suc n = omega arith in
    get_or-set_same words 0 ((n + 1) % 2 ^ 64) 0 (omega (arith, k.one_word)) ∙ h in
    let late_more : late (v.drawn ++ n ∷ []) ≤ 1 + v.spare = omega (arith, sum_by_push late_mark v.drawn n, late_once n, early) in
    let more : IsEachDrawnOnce (suc n) (set views id w) = once (suc n) (set views id w) (λ h.
    omega (arith, sum_set (weight h) views id v w at, weight_live h v live, weight_live h w live, sum_by_push h v.drawn n, weighs words views h k)) in
    record {
      one_word = length-set words 0 ((n + 1) % 2 ^ 64) ∙ k.one_word;
      drawn_once = rw word more;
      few_late = λ j u e s. elim (at_set views id j w u e) [
        | inl p ↦
            let is : u ≡ w = sym p.1 in rw is late_more
        | inr p ↦ k.few_late j u p.1 s
      ];
      shared_out =
          let same : shares_unless_spent v ≡ shares_unless_spent w = refl in
          omega (arith, sum_set shares_unless_spent views id v w at, same, k.shared_out);
    }

-- what a view has drawn lies below the word
word_above : (words : List ℕ) (views : List View) (id : ℕ) (v : View) → Rule words views → get_elem? views id ≡ some v → v.is_spent ≡ false → All (λ x. x < slice_index words 0) v.drawn
word_above words views id v k at live i d inside =
    let n = slice_index words 0 in
    let x = slice_index_or v.drawn i d in
    let mine : weight (mark x) v ≡ times x v.drawn = weight_live (mark x) v live in
    let part : weight (mark x) v ≤ sum_by (weight (mark x)) views = part_of (weight (mark x)) views id v at in
    let all : sum_by (weight (mark x)) views ≡ once_below n x = sym (sum_flat (mark x) drawn_unless_spent views) ∙ k.drawn_once x in
    elim (cases_lt x n) [
      | inl lt ↦ lt
      | inr le ↦
          let none : once_below n x ≡ 0 = rw (le-ltb x n le) refl in
          absurd (omega (arith, mine, part, all, none, stands v.drawn i d inside))
    ]
  where
    part_of : (f : View → ℕ) (views : List View) (id : ℕ) (v : View) → get_elem? views id ≡ some v → f v ≤ sum_by f views
    part_of f [] id v at = absurd (some-ne-none v (sym at))
    part_of f (x ∷ xs) zero v at = let e : f x ≡ f v = ap f (some-injective x v at) in omega (arith, sum_by-cons f x xs)
    part_of f (x ∷ xs) (suc id) v at = omega (arith, sum_by-cons f x xs, part_of f xs id v at)

pub draws_allowed : (slots id : ℕ) (v : View) → v.is_spent ≡ false → late v.drawn ≤ v.spare
    → Allows {S = ℕ} {V = View} (λ s. Rule s.words s.views) slots id (v, []) 0 (λ n. (n + 1) % 2 ^ 64) (λ n after. All (λ x. x < n) v.drawn × (after ≡ (view_of (v.drawn ++ n ∷ []) v.spare v.is_spent, [])))
draws_allowed slots id v live early s k homes at fits =
    (view_of (v.drawn ++ slice_index s.words 0 ∷ []) v.spare v.is_spent, keeps, tt, draws_keep s.words s.views id v k at live early, (word_above s.words s.views id v k at live, refl))

-- a seat gives one of its shares to a new seat
splits_keep : (words : List ℕ) (views : List View) (id : ℕ) (v : View) → Rule words views → get_elem? views id ≡ some v → v.is_spent ≡ false → 1 ≤ v.spare → late v.drawn ≤ v.spare
    → Rule words (set views id (view_of v.drawn (v.spare - 1) v.is_spent) ++ view_of [] 0 false ∷ [])
splits_keep words views id v k at live some_spare early =
    let w = view_of v.drawn (v.spare - 1) v.is_spent in
    let new = view_of [] 0 false in
    record {
      one_word = k.one_word;
      drawn_once = once (slice_index words 0) (set views id w ++ new ∷ []) (λ h.
          let same : weight h v ≡ weight h w = refl in
          omega (arith, sum_by_push (weight h) (set views id w) new, sum_set (weight h) views id v w at, same, weighs words views h k));
      few_late = λ j u e s. elim (at_snoc (set views id w) new u j e) [
        | inl p ↦
            elim (at_set views id j w u p) [
              | inl q ↦
                  let is : u ≡ w = sym q.1 in rw is (omega (arith, early, some_spare))
              | inr q ↦ k.few_late j u q.1 s
            ]
        | inr p ↦
            let is : u ≡ new = sym p in rw is (omega arith)
      ];
      shared_out = omega (arith, sum_by_push shares_unless_spent (set views id w) new, sum_set shares_unless_spent views id v w at, share_live v live, share_live w live, k.shared_out, some_spare);
    }

pub splits_allowed : (id : ℕ) (v : View) → v.is_spent ≡ false → 1 ≤ v.spare → late v.drawn ≤ v.spare
    → Splits {S = ℕ} {V = View} (λ s. Rule s.words s.views) id v (view_of v.drawn (v.spare - 1) v.is_spent) (view_of [] 0 false)
splits_allowed id v live some_spare early s k at = splits_keep s.words s.views id v k at live some_spare early

-- a seat takes in another, which is spent
joins_keep : (words : List ℕ) (views : List View) (id : ℕ) (v : View) (other : ℕ) (w : View) → Rule words views → get_elem? views id ≡ some v → ¬ (other ≡ id)
    → get_elem? (set views id (view_of (v.drawn ++ w.drawn) (v.spare + w.spare + 1) false)) other ≡ some w → v.is_spent ≡ false → w.is_spent ≡ false
    → Rule words (set (set views id (view_of (v.drawn ++ w.drawn) (v.spare + w.spare + 1) false)) other (view_of [] 0 true))
joins_keep words views id v other w k at apart at_other live live_other =
    let both = view_of (v.drawn ++ w.drawn) (v.spare + w.spare + 1) false in
    let spent = view_of [] 0 true in
    let middle = set views id both in
    let was : get_elem? views other ≡ some w = sym (set_else views id other both apart) ∙ at_other in
    record {
      one_word = k.one_word;
      drawn_once = once (slice_index words 0) (set middle other spent) (λ h.
          omega (
            arith,
            sum_set (weight h) views id v both at,
            sum_set (weight h) middle other w spent at_other,
            weight_live h v live,
            weight_live h w live_other,
            sum_by-append h v.drawn w.drawn,
            weighs words views h k,
          ));
      few_late = λ j u e s. elim (at_set middle other j spent u e) [
        | inl p ↦
            let is : spent ≡ u = p.1 in
            let no : true ≡ false = ap (λ (x : View). x.is_spent) is ∙ s in absurd (true≢false no)
        | inr p ↦
            elim (at_set views id j both u p.1) [
              | inl q ↦
                  let is : u ≡ both = sym q.1 in
                  rw is (omega (arith, sum_by-append late_mark v.drawn w.drawn, k.few_late id v at live, k.few_late other w was live_other))
              | inr q ↦ k.few_late j u q.1 s
            ]
      ];
      shared_out = omega (arith, sum_set shares_unless_spent views id v both at, sum_set shares_unless_spent middle other w spent at_other, share_live v live, share_live w live_other, k.shared_out);
    }

pub joins_allowed : (id : ℕ) (v : View) (other : ℕ) (w : View) → v.is_spent ≡ false → w.is_spent ≡ false
    → Joins {S = ℕ} {V = View} (λ s. Rule s.words s.views) id v other w (view_of (v.drawn ++ w.drawn) (v.spare + w.spare + 1) false) (view_of [] 0 true)
joins_allowed id v other w live live_other s k at apart at_other = joins_keep s.words s.views id v other w k at apart at_other live live_other

-- where no view has a share, all of them weigh nothing
nothing_left : (h : ℕ → ℕ) (views : List View) → sum_by shares_unless_spent views ≡ 0 → sum_by (weight h) views ≡ 0
nothing_left h [] none = refl
nothing_left h (x ∷ xs) none =
    let parts = sum_by-cons shares_unless_spent x xs in
    elim (cases_Bool x.is_spent) [
      | inl s ↦ let a : weight h x ≡ 0 = rw s refl in omega (arith, a, sum_by-cons (weight h) x xs, nothing_left h xs (omega (arith, parts, none)))
      | inr s ↦ absurd (omega (arith, parts, none, share_live x s))
    ]

-- where one view has all shares, it weighs all
only_view : (h : ℕ → ℕ) (views : List View) (id : ℕ) (v : View) → get_elem? views id ≡ some v
    → v.is_spent ≡ false → sum_by shares_unless_spent views ≡ 1 + v.spare → sum_by (weight h) views ≡ weight h v
only_view h [] id v at live whole = absurd (some-ne-none v (sym at))
only_view h (x ∷ xs) zero v at live whole =
    let is : x ≡ v = some-injective x v at in
    let same : weight h x ≡ weight h v = ap (weight h) is in
    let share : shares_unless_spent x ≡ 1 + v.spare = ap shares_unless_spent is ∙ share_live v live in
    omega (arith, sum_by-cons (weight h) x xs, same, nothing_left h xs (omega (arith, sum_by-cons shares_unless_spent x xs, share, whole)))
only_view h (x ∷ xs) (suc id) v at live whole = elim (cases_Bool x.is_spent) [
  | inl s ↦
      let a : shares_unless_spent x ≡ 0 = rw s refl in
      let b : weight h x ≡ 0 = rw s refl in
      omega (arith, b, sum_by-cons (weight h) x xs, only_view h xs id v at live (omega (arith, a, sum_by-cons shares_unless_spent x xs, whole)))
  | inr s ↦ absurd (omega (arith, share_live x s, sum_by-cons shares_unless_spent x xs, whole, part_of xs id at))
]
  where
    part_of : (views : List View) (id : ℕ) → get_elem? views id ≡ some v → 1 + v.spare ≤ sum_by shares_unless_spent views
    part_of [] id at = absurd (some-ne-none v (sym at))
    part_of (x ∷ xs) zero at =
        let e : shares_unless_spent x ≡ 1 + v.spare = ap shares_unless_spent (some-injective x v at) ∙ share_live v live in omega (arith, e, sum_by-cons shares_unless_spent x xs)
    part_of (x ∷ xs) (suc id) at = omega (arith, sum_by-cons shares_unless_spent x xs, part_of xs id at)

first_word : (ws : List ℕ) (n : ℕ) → get_elem? ws 0 ≡ some n → slice_index ws 0 ≡ n
first_word [] n e = absurd (some-ne-none n (sym e))
first_word (x ∷ xs) n e = some-injective x n e

-- at the end the view that has all shares has drawn each number below the word once
pub closes : (s : State ℕ View) (id : ℕ) (v : View) (ws : List ℕ) (n : ℕ) → Rule s.words s.views → get_elem? s.views id ≡ some v → s.words ≡ ws → get_elem? ws 0 ≡ some n
    → v.is_spent ≡ false → v.spare ≡ 63 → HasEachBelowOnce n v.drawn
closes s id v ws n k at words last live whole =
    let word : slice_index s.words 0 ≡ n = ap (λ l. slice_index l 0) words ∙ first_word ws n last in
    once_from_weights n v.drawn (λ h.
    let all = only_view h s.views id v at live (omega (arith, k.shared_out, whole)) in
    sym (weight_live h v live) ∙ (sym all ∙ (weighs s.words s.views h k ∙ ap (sum_below h) word)))

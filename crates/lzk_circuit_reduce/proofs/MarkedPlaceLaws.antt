-- Each wire's number among the marked ones.
use Rattle.std.specs.Prelude.{◌≡◌, ℕ, ◌+◌, ◌<◌, ◌≤◌, cond, true, false, Bool, List, [], ◌∷◌, ◌++◌, length}
use Rattle.std.proofs.Common.{zero, suc, inl, inr, refl, sym, ap, ◌∙◌, arith}
use Rattle.std.proofs.lemmas.Bool.{cases_Bool, cases_order, cases_lt, both_ways}
use Rattle.std.proofs.lemmas.List.{get_or_past, get_or_append_left}
use Rattle.std.proofs.lemmas.List.FromFn.{length-map-range_with_len, get_or-map-range_with_len}
use Rattle.lzk_circuit_reduce.specs.Renumbering.{at}
use Rattle.lzk_circuit_reduce.specs.Marks.{is_marked, marked_before}
use Rattle.lzk_circuit_reduce.specs.Used.{all_true}

pub before-marked : (marks : List Bool) (k : ℕ) → is_marked marks k ≡ true → marked_before marks (suc k) ≡ suc (marked_before marks k)
before-marked marks k m = ap (λ b. cond b 1 0 + marked_before marks k) m ∙ omega arith

pub before-unmarked : (marks : List Bool) (k : ℕ) → is_marked marks k ≡ false → marked_before marks (suc k) ≡ marked_before marks k
before-unmarked marks k m = ap (λ b. cond b 1 0 + marked_before marks k) m ∙ omega arith

pub places-up : (marks : List Bool) (k l : ℕ) → k ≤ l → marked_before marks k ≤ marked_before marks l
places-up marks k zero h = let e : k ≡ 0 = omega (arith, h) in omega (arith, ap (marked_before marks) e)
places-up marks k (suc l) h = elim (cases_lt l k) [
  | inl above ↦ let e : k ≡ suc l = omega (arith, h, above) in omega (arith, ap (marked_before marks) e)
  | inr below ↦ elim (cases_Bool (is_marked marks l)) [
    | inl m ↦ omega (arith, before-marked marks l m, places-up marks k l below)
    | inr m ↦ omega (arith, before-unmarked marks l m, places-up marks k l below)
  ]
]

pub places-most : (marks : List Bool) (k : ℕ) → marked_before marks k ≤ k
places-most marks zero = omega arith
places-most marks (suc k) = elim (cases_Bool (is_marked marks k)) [
  | inl m ↦ omega (arith, before-marked marks k m, places-most marks k)
  | inr m ↦ omega (arith, before-unmarked marks k m, places-most marks k)
]

-- the next number where a wire is marked, and where it is not
pub next-marked : (marks : List Bool) (k next more : ℕ) → next ≡ marked_before marks k → is_marked marks k ≡ true → more ≡ next + 1 → more ≡ marked_before marks (k + 1)
next-marked marks k next more is m e = let up : suc k ≡ k + 1 = omega arith in omega (arith, e, is, before-marked marks k m, ap (marked_before marks) up)

pub next-unmarked : (marks : List Bool) (k next more : ℕ) → next ≡ marked_before marks k → is_marked marks k ≡ false → more ≡ next → more ≡ marked_before marks (k + 1)
next-unmarked marks k next more is m e = let up : suc k ≡ k + 1 = omega arith in omega (arith, e, is, before-unmarked marks k m, ap (marked_before marks) up)

last-of : (ns : List ℕ) (n i : ℕ) → i ≡ length ns → at (ns ++ n ∷ []) i ≡ n
last-of [] n i e = ap (at (n ∷ [])) e
last-of (m ∷ ns) n i e = ap (at (m ∷ (ns ++ n ∷ []))) e ∙ last-of ns n (length ns) refl

pub places-more : (marks : List Bool) (places more : List ℕ) (k next : ℕ) → more ≡ places ++ next ∷ [] → length places ≡ k → next ≡ marked_before marks k → ((j : ℕ) → j < k → at places j ≡ marked_before marks j)
    → (j : ℕ) → j < k + 1 → at more j ≡ marked_before marks j
places-more marks places more k next e count is each j l =
    ap (λ ps. at ps j) e
    ∙ elim (cases_lt j k) [
      | inl m ↦ get_or_append_left places (next ∷ []) 0 j (omega (arith, m, count)) ∙ each j m
      | inr m ↦ let same : j ≡ k = omega (arith, l, m) in last-of places next j (omega (arith, same, count)) ∙ is ∙ ap (marked_before marks) (sym same)
    ]

-- the places of marked wires keep their order
pub places-ascend : (marks : List Bool) (k l : ℕ) → is_marked marks k ≡ true → k < l → marked_before marks k < marked_before marks l
places-ascend marks k l m h = omega (arith, before-marked marks k m, places-up marks (suc k) l (omega arith))

pub places-differ : (marks : List Bool) (k l : ℕ) → is_marked marks k ≡ true → is_marked marks l ≡ true → marked_before marks k ≡ marked_before marks l → k ≡ l
places-differ marks k l mk ml e = elim (cases_order k l) [
  | inl same ↦ same
  | inr other ↦ elim other [ inl less ↦ absurd (omega (arith, e, places-ascend marks k l mk less)) | inr more ↦ absurd (omega (arith, e, places-ascend marks l k ml more)) ]
]

pub marked-within : (marks : List Bool) (k : ℕ) → is_marked marks k ≡ true → k < length marks
marked-within marks k m = elim (cases_lt k (length marks)) [ inl l ↦ l | inr l ↦ absurd (both_ways (is_marked marks k) (get_or_past marks k false l) m) ]

pub marked-place : (marks : List Bool) (k : ℕ) → is_marked marks k ≡ true → marked_before marks k < marked_before marks (length marks)
marked-place marks k m = places-ascend marks k (length marks) m (marked-within marks k m)

-- the marked wire with a place
pub record MarkedAt (marks : List Bool) (n place : ℕ) : Type 0 where
  pub wire : ℕ
  pub within : wire < n
  pub marked : is_marked marks wire ≡ true
  pub place_is : marked_before marks wire ≡ place

pub marked-at : (marks : List Bool) (n place : ℕ) → place < marked_before marks n → MarkedAt marks n place
marked-at marks zero place l = absurd (omega (arith, l))
marked-at marks (suc n) place l = elim (cases_Bool (is_marked marks n)) [
  | inl m ↦ elim (cases_lt place (marked_before marks n)) [
    | inl less ↦ let w = marked-at marks n place less in record { wire = w.wire; within = omega (arith, w.within); marked = w.marked; place_is = w.place_is }
    | inr more ↦ record { wire = n; within = omega arith; marked = m; place_is = omega (arith, l, more, before-marked marks n m) }
  ]
  | inr m ↦ let w = marked-at marks n place (omega (arith, l, before-unmarked marks n m)) in record { wire = w.wire; within = omega (arith, w.within); marked = w.marked; place_is = w.place_is }
]

pub all-count : (n : ℕ) → length (all_true n) ≡ n
all-count n = length-map-range_with_len (λ k. true) 0 n

pub all-marked : (n k : ℕ) → k < n → is_marked (all_true n) k ≡ true
all-marked n k l = get_or-map-range_with_len (λ j. true) 0 n k k false l (omega arith)

-- where all are marked, each keeps its number
pub all-places : (n k : ℕ) → k ≤ n → marked_before (all_true n) k ≡ k
all-places n zero l = refl
all-places n (suc k) l = omega (arith, before-marked (all_true n) k (all-marked n k (omega (arith, l))), all-places n k (omega (arith, l)))

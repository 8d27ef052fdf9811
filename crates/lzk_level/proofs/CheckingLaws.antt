-- Where asserted nodes stand when they are sorted by depth.
use Rattle.std.specs.Prelude.{◌≡◌, ℕ, ◌+◌, ◌<◌, ◌≤◌, ◌==◌, ◌&&◌, nat_lt, cond, true, false, Bool, List, [], ◌∷◌, ◌++◌, length, map, take, count_by}
use Rattle.std.proofs.Common.{zero, suc, inl, inr, refl, sym, ap, ◌∙◌, arith, subst}
use Rattle.std.proofs.lemmas.Bool.{cases_Bool, cases_lt, cases_order, lt-ltb, le-ltb, eq-eqb, ne_eqb, eqb-true}
use Rattle.std.proofs.lemmas.List.{append-nil, length-append, get_or_append_left, get_or-append-add}
use Rattle.std.proofs.lemmas.List.Sums.{sum_by-cons}
use Rattle.std.proofs.lemmas.List.Elements.{filter_more}
use Rattle.lzk_circuit_reduce.specs.Renumbering.{at}
use Rattle.lzk_level.specs.Bounds.{total, greatest}
use Rattle.lzk_level.specs.Checking.{check_of, of_depth, by_depth}

count-cons : (p : ℕ → Bool) (d : ℕ) (ds : List ℕ) → count_by p (d ∷ ds) ≡ cond (p d) 1 0 + count_by p ds
count-cons p d ds = sum_by-cons (λ x. cond (p x) 1 0) d ds

-- how many are deeper than d, but less deep than n
abbrev between : ℕ → ℕ → List ℕ → ℕ
between n d [] = 0
between n d (e ∷ es) = cond (nat_lt d e && nat_lt e n) 1 0 + between n d es

-- no number is as much as n
abbrev AreUnder : ℕ → List ℕ → Type 0
AreUnder n [] = Unit {0}
AreUnder n (d ∷ ds) = (d < n) × AreUnder n ds

and-true : (p q : Bool) → q ≡ true → (p && q) ≡ p
and-true true q e = e
and-true false q e = refl

and-false : (p q : Bool) → q ≡ false → (p && q) ≡ false
and-false true q e = e
and-false false q e = refl

-- where all are less deep than n, all the deeper ones are
between-all : (n d : ℕ) (ds : List ℕ) → AreUnder n ds → count_by (nat_lt d) ds ≡ between n d ds
between-all n d [] h = refl
between-all n d (e ∷ es) h = count-cons (nat_lt d) e es ∙ ap (λ b. cond b 1 0 + count_by (nat_lt d) es) (sym (and-true (nat_lt d e) (nat_lt e n) (lt-ltb e n h.0))) ∙ ap (λ k. cond (nat_lt d e && nat_lt e n) 1 0 + k) (between-all n d es h.1)

-- none is deeper than n and less deep than n + 1
between-none : (n : ℕ) (ds : List ℕ) → between (suc n) n ds ≡ 0
between-none n [] = refl
between-none n (e ∷ es) = elim (cases_lt n e) [
  | inl deep ↦ omega (arith, ap (λ b. cond b 1 0 + between (suc n) n es) (and-false (nat_lt n e) (nat_lt e (suc n)) (le-ltb e (suc n) (omega (arith, deep)))), between-none n es)
  | inr up ↦ omega (arith, ap (λ b. cond (b && nat_lt e (suc n)) 1 0 + between (suc n) n es) (le-ltb n e up), between-none n es)
]

-- one level more
between-more : (n d : ℕ) (ds : List ℕ) → d < n → between (suc n) d ds ≡ count_by (λ e. e == n) ds + between n d ds
between-more n d [] l = refl
between-more n d (e ∷ es) l =
    let rest = between-more n d es l in
    let all = between (suc n) d es in
    let here = between n d es in
    let counted = count-cons (λ x. x == n) e es in
    elim (cases_order e n) [
      | inl same ↦ omega (
        arith,
        rest,
        counted,
        ap (λ b. cond b 1 0 + count_by (λ x. x == n) es) (eq-eqb e n same),
        ap (λ b. cond (b && nat_lt e (suc n)) 1 0 + all) (lt-ltb d e (omega (arith, l, same))),
        ap (λ b. cond b 1 0 + all) (lt-ltb e (suc n) (omega (arith, same))),
        ap (λ b. cond b 1 0 + here) (and-false (nat_lt d e) (nat_lt e n) (le-ltb e n (omega (arith, same)))),
      )
      | inr other ↦
          let none = ap (λ b. cond b 1 0 + count_by (λ x. x == n) es) (ne_eqb e n (λ q. elim other [ inl a ↦ omega (arith, a, q) | inr a ↦ omega (arith, a, q) ])) in
          elim other [
            | inl less ↦ omega (
              arith,
              rest,
              counted,
              none,
              ap (λ b. cond b 1 0 + all) (and-true (nat_lt d e) (nat_lt e (suc n)) (lt-ltb e (suc n) (omega (arith, less)))),
              ap (λ b. cond b 1 0 + here) (and-true (nat_lt d e) (nat_lt e n) (lt-ltb e n less)),
            )
            | inr more ↦ omega (
              arith,
              rest,
              counted,
              none,
              ap (λ b. cond b 1 0 + all) (and-false (nat_lt d e) (nat_lt e (suc n)) (le-ltb e (suc n) (omega (arith, more)))),
              ap (λ b. cond b 1 0 + here) (and-false (nat_lt d e) (nat_lt e n) (le-ltb e n (omega (arith, more)))),
            )
          ]
    ]

module _ (depths : List ℕ) where
  -- one node more
  pub depth-here : (d : ℕ) (ks : List ℕ) (i : ℕ) → i < length ks → at depths (at ks i) ≡ d → of_depth depths d (take (i + 1) ks) ≡ of_depth depths d (take i ks) ++ at ks i ∷ []
  depth-here d ks i l e = filter_more (λ k. at depths k == d) ks i 0 l ∙ ap (λ b. of_depth depths d (take i ks) ++ cond b (at ks i ∷ []) []) (eq-eqb (at depths (at ks i)) d e)

  pub depth-other : (d : ℕ) (ks : List ℕ) (i : ℕ) → i < length ks → (at depths (at ks i) ≡ d → ⊥) → of_depth depths d (take (i + 1) ks) ≡ of_depth depths d (take i ks)
  depth-other d ks i l n =
      filter_more (λ k. at depths k == d) ks i 0 l ∙ ap (λ b. of_depth depths d (take i ks) ++ cond b (at ks i ∷ []) []) (ne_eqb (at depths (at ks i)) d n) ∙ append-nil (of_depth depths d (take i ks))

  pub depth-count : (d : ℕ) (ks : List ℕ) → length (of_depth depths d ks) ≡ count_by (λ e. e == d) (map (at depths) ks)
  depth-count d [] = refl
  depth-count d (k ∷ ks) =
      let rest = of_depth depths d ks in
      let counted = count-cons (λ e. e == d) (at depths k) (map (at depths) ks) in
      elim (cases_Bool (at depths k == d)) [
        | inl e ↦ ap length (ap (λ b. cond b (k ∷ rest) rest) e) ∙ omega (arith, depth-count d ks, counted, ap (λ b. cond b 1 0 + count_by (λ e. e == d) (map (at depths) ks)) e)
        | inr n ↦ ap length (ap (λ b. cond b (k ∷ rest) rest) n) ∙ omega (arith, depth-count d ks, counted, ap (λ b. cond b 1 0 + count_by (λ e. e == d) (map (at depths) ks)) n)
      ]

  -- the place of a node
  record Placed (found : List ℕ) (place node : ℕ) : Type 0 where
    pub within : place < length found
    pub there : at found place ≡ node

  -- among those of its own depth
  own-place : (d : ℕ) (ks : List ℕ) (i : ℕ) → i < length ks → at depths (at ks i) ≡ d → Placed (of_depth depths d ks) (count_by (λ e. e == d) (take i (map (at depths) ks))) (at ks i)
  own-place d [] i l e = absurd (omega (arith, l))
  own-place d (k ∷ ks) zero l e =
      let rest = of_depth depths d ks in
      let first : of_depth depths d (k ∷ ks) ≡ k ∷ rest = ap (λ b. cond b (k ∷ rest) rest) (eq-eqb (at depths k) d e) in
      record { within = omega (arith, ap length first); there = ap (λ xs. at xs 0) first }
  own-place d (k ∷ ks) (suc i) l e =
      let rest = of_depth depths d ks in
      let before = take i (map (at depths) ks) in
      let p = own-place d ks i (omega (arith, l)) e in
      let counted = count-cons (λ x. x == d) (at depths k) before in
      elim (cases_Bool (at depths k == d)) [
        | inl same ↦
            let first : of_depth depths d (k ∷ ks) ≡ k ∷ rest = ap (λ b. cond b (k ∷ rest) rest) same in
            let place : count_by (λ x. x == d) (at depths k ∷ before) ≡ suc (count_by (λ x. x == d) before) = omega (arith, counted, ap (λ b. cond b 1 0 + count_by (λ x. x == d) before) same) in
            record { within = omega (arith, place, ap length first, p.within); there = ap (λ n. at (of_depth depths d (k ∷ ks)) n) place ∙ ap (λ xs. at xs (suc (count_by (λ x. x == d) before))) first ∙ p.there }
        | inr other ↦
            let first : of_depth depths d (k ∷ ks) ≡ rest = ap (λ b. cond b (k ∷ rest) rest) other in
            let place : count_by (λ x. x == d) (at depths k ∷ before) ≡ count_by (λ x. x == d) before = omega (arith, counted, ap (λ b. cond b 1 0 + count_by (λ x. x == d) before) other) in
            record { within = omega (arith, place, ap length first, p.within); there = ap (λ n. at (of_depth depths d (k ∷ ks)) n) place ∙ ap (λ xs. at xs (count_by (λ x. x == d) before)) first ∙ p.there }
      ]

  -- among those of less depth than n
  place-under : (n : ℕ) (ks : List ℕ) (i : ℕ) → i < length ks → at depths (at ks i) < n
      → Placed (by_depth depths ks n) (between n (at depths (at ks i)) (map (at depths) ks) + count_by (λ e. e == at depths (at ks i)) (take i (map (at depths) ks))) (at ks i)
  place-under zero ks i l h = absurd (omega (arith, h))
  place-under (suc m) ks i l h =
      let d = at depths (at ks i) in
      let ds = map (at depths) ks in
      let own = count_by (λ e. e == d) (take i ds) in
      let front = of_depth depths m ks in
      let back = by_depth depths ks m in
      elim (cases_lt d m) [
        | inl less ↦
            let p = place-under m ks i l less in
            let more : between (suc m) d ds + own ≡ length front + (between m d ds + own) = omega (arith, between-more m d ds less, depth-count m ks) in
            record { within = omega (arith, more, p.within, length-append front back); there = ap (at (front ++ back)) more ∙ get_or-append-add front back (between m d ds + own) 0 ∙ p.there }
        | inr most ↦
            let e : d ≡ m = omega (arith, h, most) in
            let p = own-place m ks i l e in
            let place : between (suc m) d ds + own ≡ count_by (λ x. x == m) (take i ds) = omega (arith, ap (λ x. between (suc m) x ds) e, between-none m ds, ap (λ x. count_by (λ y. y == x) (take i ds)) e) in
            record { within = omega (arith, place, p.within, length-append front back); there = ap (at (front ++ back)) place ∙ get_or_append_left front back 0 (count_by (λ x. x == m) (take i ds)) p.within ∙ p.there }
      ]

  under-all : (n : ℕ) (ks : List ℕ) → ((i : ℕ) → i < length ks → at depths (at ks i) < n) → AreUnder n (map (at depths) ks)
  under-all n [] h = tt
  under-all n (k ∷ ks) h = (h 0 (omega arith), under-all n ks (λ i l. h (suc i) (omega (arith, l))))

  mapped-depth : (ks : List ℕ) (i : ℕ) → i < length ks → at (map (at depths) ks) i ≡ at depths (at ks i)
  mapped-depth [] i l = absurd (omega (arith, l))
  mapped-depth (k ∷ ks) zero l = refl
  mapped-depth (k ∷ ks) (suc i) l = mapped-depth ks i (omega (arith, l))

  -- each node stands at the place of its check
  pub check-place : (n : ℕ) (ks : List ℕ) (i : ℕ) → i < length ks → ((i : ℕ) → i < length ks → at depths (at ks i) < n)
      → (check_of (map (at depths) ks) i < length (by_depth depths ks n)) × (at (by_depth depths ks n) (check_of (map (at depths) ks) i) ≡ at ks i)
  check-place n ks i l h =
      let ds = map (at depths) ks in
      let d = at depths (at ks i) in
      let p = place-under n ks i l (h i l) in
      let place : check_of ds i ≡ between n d ds + count_by (λ e. e == d) (take i ds) =
      ap (λ x. count_by (nat_lt x) ds + count_by (λ e. e == x) (take i ds)) (mapped-depth ks i l) ∙ ap (λ k. k + count_by (λ e. e == d) (take i ds)) (between-all n d ds (under-all n ks h)) in
      (omega (arith, place, p.within), ap (at (by_depth depths ks n)) place ∙ p.there)

  -- ---- how many there are

  under-cons : (n k : ℕ) (ks : List ℕ) → length (by_depth depths (k ∷ ks) n) ≡ cond (nat_lt (at depths k) n) 1 0 + length (by_depth depths ks n)
  under-cons zero k ks = omega (arith, ap {B = ℕ} (λ b. cond b 1 0) (le-ltb (at depths k) 0 (omega arith)))
  under-cons (suc m) k ks =
      let rest = of_depth depths m ks in
      let d = at depths k in
      let all = length-append (of_depth depths m (k ∷ ks)) (by_depth depths (k ∷ ks) m) in
      let old = length-append rest (by_depth depths ks m) in
      let back = under-cons m k ks in
      let more = length (by_depth depths ks m) in
      elim (cases_order d m) [
        | inl same ↦ omega (
          arith,
          all,
          old,
          back,
          ap length (ap (λ b. cond b (k ∷ rest) rest) (eq-eqb d m same)),
          ap (λ b. cond b 1 0 + more) (le-ltb d m (omega (arith, same))),
          ap {B = ℕ} (λ b. cond b 1 0) (lt-ltb d (suc m) (omega (arith, same))),
        )
        | inr other ↦
            let none = ap length (ap (λ b. cond b (k ∷ rest) rest) (ne_eqb d m (λ q. elim other [ inl a ↦ omega (arith, a, q) | inr a ↦ omega (arith, a, q) ]))) in
            elim other [
              | inl less ↦ omega (arith, all, old, back, none, ap (λ b. cond b 1 0 + more) (lt-ltb d m less), ap {B = ℕ} (λ b. cond b 1 0) (lt-ltb d (suc m) (omega (arith, less))))
              | inr deep ↦ omega (arith, all, old, back, none, ap (λ b. cond b 1 0 + more) (le-ltb d m (omega (arith, deep))), ap {B = ℕ} (λ b. cond b 1 0) (le-ltb d (suc m) (omega (arith, deep))))
            ]
      ]

  pub all-placed : (n : ℕ) (ks : List ℕ) → ((i : ℕ) → i < length ks → at depths (at ks i) < n) → length (by_depth depths ks n) ≡ length ks
  all-placed n [] h = none n
    where
      none : (n : ℕ) → length (by_depth depths [] n) ≡ 0
      none zero = refl
      none (suc m) = omega (arith, length-append (of_depth depths m []) (by_depth depths [] m), none m)
  all-placed n (k ∷ ks) h = omega (arith, under-cons n k ks, ap {B = ℕ} (λ b. cond b 1 0) (lt-ltb (at depths k) n (h 0 (omega arith))), all-placed n ks (λ i l. h (suc i) (omega (arith, l))))

  pub depth-few : (d : ℕ) (ks : List ℕ) → length (of_depth depths d ks) ≤ length ks
  depth-few d [] = omega arith
  depth-few d (k ∷ ks) =
      let rest = of_depth depths d ks in
      elim (cases_Bool (at depths k == d)) [
        | inl e ↦ omega (arith, depth-few d ks, ap length (ap (λ b. cond b (k ∷ rest) rest) e))
        | inr n ↦ omega (arith, depth-few d ks, ap length (ap (λ b. cond b (k ∷ rest) rest) n))
      ]

  -- some node has the largest depth, where that is not the least one
  pub deepest : (m : ℕ) (ks : List ℕ) → m < greatest m (map (at depths) ks) → 1 ≤ length (of_depth depths (greatest m (map (at depths) ks)) ks)
  deepest m [] l = absurd (omega (arith, l))
  deepest m (k ∷ ks) l =
      let d = at depths k in
      let g = greatest m (map (at depths) ks) in
      let top = greatest m (map (at depths) (k ∷ ks)) in
      let rest = of_depth depths top ks in
      elim (cases_lt d g) [
        | inl less ↦
            let e : top ≡ g = omega (arith, less) in
            let more = deepest m ks (omega (arith, l, e)) in
            omega (arith, subst (λ n. 1 ≤ length (of_depth depths n ks)) (sym e) more, ap length (ap (λ b. cond b (k ∷ rest) rest) (ne_eqb d top (λ q. omega (arith, q, e, less)))))
        | inr most ↦ let e : d ≡ top = omega (arith, most) in omega (arith, ap length (ap (λ b. cond b (k ∷ rest) rest) (eq-eqb d top e)))
      ]

  -- those of a depth weigh no more than all
  pub depth-light : (weights : List ℕ) (d : ℕ) (ks : List ℕ) → total (map (at weights) (of_depth depths d ks)) ≤ total (map (at weights) ks)
  depth-light weights d [] = omega arith
  depth-light weights d (k ∷ ks) =
      let rest = of_depth depths d ks in
      elim (cases_Bool (at depths k == d)) [
        | inl e ↦ omega (arith, depth-light weights d ks, ap (λ xs. total (map (at weights) xs)) (ap (λ b. cond b (k ∷ rest) rest) e))
        | inr n ↦ omega (arith, depth-light weights d ks, ap (λ xs. total (map (at weights) xs)) (ap (λ b. cond b (k ∷ rest) rest) n))
      ]

  -- what holds of all holds of those of a depth, which have it
  pub depth-each : (P : ℕ → Type 0) (d : ℕ) (ks : List ℕ) → ((i : ℕ) → i < length ks → P (at ks i)) → (i : ℕ) → i < length (of_depth depths d ks) → P (at (of_depth depths d ks) i) × (at depths (at (of_depth depths d ks) i) ≡ d)
  depth-each P d [] h i l = absurd (omega (arith, l))
  depth-each P d (k ∷ ks) h i l =
      let rest = of_depth depths d ks in
      let later : (j : ℕ) → j < length rest → P (at rest j) × (at depths (at rest j) ≡ d) = depth-each P d ks (λ i m. h (suc i) (omega (arith, m))) in
      elim (cases_Bool (at depths k == d)) [
        | inl e ↦
            let first : of_depth depths d (k ∷ ks) ≡ k ∷ rest = ap (λ b. cond b (k ∷ rest) rest) e in
            subst (λ xs. P (at xs i) × (at depths (at xs i) ≡ d)) (sym first) (front i k rest (omega (arith, l, ap length first)) (h 0 (omega arith), eqb-true (at depths k) d e) later)
        | inr n ↦
            let first : of_depth depths d (k ∷ ks) ≡ rest = ap (λ b. cond b (k ∷ rest) rest) n in
            subst (λ xs. P (at xs i) × (at depths (at xs i) ≡ d)) (sym first) (later i (omega (arith, l, ap length first)))
      ]
    where
      front : (i k : ℕ) (xs : List ℕ) → i < length (k ∷ xs) → P k × (at depths k ≡ d) → ((j : ℕ) → j < length xs → P (at xs j) × (at depths (at xs j) ≡ d)) → P (at (k ∷ xs) i) × (at depths (at (k ∷ xs) i) ≡ d)
      front zero k xs l own later = own
      front (suc i) k xs l own later = later i (omega (arith, l))

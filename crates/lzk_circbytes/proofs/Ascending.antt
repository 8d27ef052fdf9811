-- Ascending lists of numbers are what they contain.
use Rattle.std.proofs.Common.{◌≡◌, ℕ, zero, suc, ◌+◌, ◌<◌, ◌≤◌, ◌⊎◌, Bool, true, false, cond, ltb, eqb, ◌||◌, List, [], ◌∷◌, length, refl, sym, ap, subst, ◌∙◌, arith, inl, inr, ltb-true, slice_index}
use Rattle.std.specs.Prelude.{Contains}
use Rattle.std.specs.List.{list_any, AllByRecursion}
use Rattle.std.specs.List.Sorted.{IsStrictlyIncreasing}
use Rattle.std.proofs.lemmas.Bool.{ltb-false, eqb-true, eqb-false, eq-eqb, or_left, or_right, or_cases}
use Rattle.std.proofs.lemmas.Map.Views.{Contains-from_any, list_any-from_Contains}
use Rattle.std.proofs.lemmas.Cmp.{nat_eq_equiv}
use Rattle.lzk_circbytes.specs.Numbered.{with_number, ascending}

-- each is above the one before it, and the first above m
abbrev pub Above : ℕ → List ℕ → Type 0
Above m [] = Unit {0}
Above m (x ∷ xs) = (m < x) × Above x xs

abbrev pub Has : List ℕ → ℕ → Type 0
Has xs n = list_any (eqb n) xs ≡ true

pub Has-from_Contains : (xs : List ℕ) (n : ℕ) → Contains xs n → Has xs n
Has-from_Contains xs n h = list_any-from_Contains nat_eq_equiv n xs h

pub Contains-from_Has : (xs : List ℕ) (n : ℕ) → Has xs n → Contains xs n
Contains-from_Has xs n h = Contains-from_any (λ x y e. eqb-true x y e) n xs h

pub above_each : (m : ℕ) (xs : List ℕ) (n : ℕ) → Above m xs → Has xs n → m < n
above_each m [] n h e = absurd cc
above_each m (x ∷ xs) n h e =
    elim (or_cases (eqb n x) (list_any (eqb n) xs) e) [
      | inl same ↦ omega (arith, h.0, eqb-true n x same)
      | inr later ↦ omega (arith, h.0, above_each x xs n h.1 later)
    ]

-- what is above m, and not the first, is in the rest
behind_first : (x : ℕ) (xs : List ℕ) (n : ℕ) → x < n → Has (x ∷ xs) n → Has xs n
behind_first x xs n lt e =
    elim (or_cases (eqb n x) (list_any (eqb n) xs) e) [
      | inl same ↦ absurd (omega (arith, lt, eqb-true n x same))
      | inr later ↦ later
    ]

first_in : (x : ℕ) (xs : List ℕ) → Has (x ∷ xs) x
first_in x xs = or_left (eqb x x) (list_any (eqb x) xs) (eq-eqb x x refl)

-- what an ascending list has is at least its first
first_least : (m : ℕ) (x : ℕ) (xs : List ℕ) (n : ℕ) → Above m (x ∷ xs) → Has (x ∷ xs) n → x ≤ n
first_least m x xs n h e =
    elim (or_cases (eqb n x) (list_any (eqb n) xs) e) [
      | inl same ↦ omega (arith, eqb-true n x same)
      | inr later ↦ omega (arith, above_each x xs n h.1 later)
    ]

pub same_list : (m : ℕ) (xs ys : List ℕ) → Above m xs → Above m ys → ((n : ℕ) → Has xs n → Has ys n) → ((n : ℕ) → Has ys n → Has xs n) → xs ≡ ys
same_list m [] [] hx hy to back = refl
same_list m [] (y ∷ ys) hx hy to back = absurd (let e : false ≡ true = back y (first_in y ys) in cc)
same_list m (x ∷ xs) [] hx hy to back = absurd (let e : false ≡ true = to x (first_in x xs) in cc)
same_list m (x ∷ xs) (y ∷ ys) hx hy to back =
    let low : y ≤ x = first_least m y ys x hy (to x (first_in x xs)) in
    let high : x ≤ y = first_least m x xs y hx (back y (first_in y ys)) in
    let e : y ≡ x = omega (arith, low, high) in
    let hy' : Above x ys = subst (λ (k : ℕ). Above k ys) e hy.1 in
    let to' : (n : ℕ) → Has xs n → Has ys n =
    λ n h. behind_first y ys n (omega (arith, e, above_each x xs n hx.1 h)) (to n (or_right (eqb n x) (list_any (eqb n) xs) h)) in
    let back' : (n : ℕ) → Has ys n → Has xs n =
    λ n h. behind_first x xs n (above_each x ys n hy' h) (back n (or_right (eqb n y) (list_any (eqb n) ys) h)) in
    ap (λ k. k ∷ xs) (sym e) ∙ ap (λ ks. y ∷ ks) (same_list x xs ys hx.1 hy' to' back')

-- ---- the numbers of a list

put_above : (m n x : ℕ) (xs : List ℕ) (b c : Bool) → ltb n x ≡ b → eqb n x ≡ c → m < n → Above m (x ∷ xs) → Above x (with_number n xs) ⊎ (n ≤ x) → Above m (cond b (n ∷ x ∷ xs) (cond c (x ∷ xs) (x ∷ with_number n xs)))
put_above m n x xs true c eb ec lt h rest = (lt, (omega (arith, ltb-true n x eb), h.1))
put_above m n x xs false true eb ec lt h rest = h
put_above m n x xs false false eb ec lt h (inl rest) = (h.0, rest)
put_above m n x xs false false eb ec lt h (inr le) = absurd (omega (arith, le, ltb-false n x eb, eqb-false n x ec))

above_or_not : (n x : ℕ) → (x < n) ⊎ (n ≤ x)
above_or_not n x = elim (ltb x n) as (λ b. ltb x n ≡ b → (x < n) ⊎ (n ≤ x)) [ true ↦ λ e. inl (omega (arith, ltb-true x n e)) | false ↦ λ e. inr (ltb-false x n e) ] refl

pub Above-with_number : (m n : ℕ) (xs : List ℕ) → m < n → Above m xs → Above m (with_number n xs)
Above-with_number m n [] lt h = (lt, tt)
Above-with_number m n (x ∷ xs) lt h =
    put_above m n x xs (ltb n x) (eqb n x) refl refl lt h
    (elim (above_or_not n x) [ inl more ↦ inl (Above-with_number x n xs more h.1) | inr le ↦ inr le ])

put_has : (n x k : ℕ) (xs : List ℕ) (b c : Bool) → eqb n x ≡ c → list_any (eqb k) (with_number n xs) ≡ (eqb k n || list_any (eqb k) xs)
    → list_any (eqb k) (cond b (n ∷ x ∷ xs) (cond c (x ∷ xs) (x ∷ with_number n xs))) ≡ (eqb k n || (eqb k x || list_any (eqb k) xs))
put_has n x k xs true c e ih = refl
put_has n x k xs false true e ih = let same : n ≡ x = eqb-true n x e in rw same (again (eqb k x) (list_any (eqb k) xs))
  where
    again : (p q : Bool) → (p || q) ≡ (p || (p || q))
    again true q = refl
    again false q = refl
put_has n x k xs false false e ih = ap (λ b. eqb k x || b) ih ∙ turn (eqb k x) (eqb k n) (list_any (eqb k) xs)
  where
    turn : (p q r : Bool) → (p || (q || r)) ≡ (q || (p || r))
    turn true true r = refl
    turn true false r = refl
    turn false q r = refl

pub has-with_number : (n k : ℕ) (xs : List ℕ) → list_any (eqb k) (with_number n xs) ≡ (eqb k n || list_any (eqb k) xs)
has-with_number n k [] = refl
has-with_number n k (x ∷ xs) = put_has n x k xs (ltb n x) (eqb n x) refl (has-with_number n k xs)

put_length : (n x : ℕ) (xs : List ℕ) (b c : Bool) → length (with_number n xs) ≤ suc (length xs) → length (cond b (n ∷ x ∷ xs) (cond c (x ∷ xs) (x ∷ with_number n xs))) ≤ suc (suc (length xs))
put_length n x xs true c ih = omega arith
put_length n x xs false true ih = omega arith
put_length n x xs false false ih = omega (arith, ih)

pub length-with_number : (n : ℕ) (xs : List ℕ) → length (with_number n xs) ≤ suc (length xs)
length-with_number n [] = omega arith
length-with_number n (x ∷ xs) = put_length n x xs (ltb n x) (eqb n x) (length-with_number n xs)

pub has-ascending : (ns : List ℕ) (k : ℕ) → list_any (eqb k) (ascending ns) ≡ list_any (eqb k) ns
has-ascending [] k = refl
has-ascending (n ∷ ns) k = has-with_number n k (ascending ns) ∙ ap (λ b. eqb k n || b) (has-ascending ns k)

pub Above-ascending : (ns : List ℕ) → AllByRecursion (λ n. 0 < n) ns → Above 0 (ascending ns)
Above-ascending [] h = tt
Above-ascending (n ∷ ns) h = Above-with_number 0 n (ascending ns) h.0 (Above-ascending ns h.1)

pub length-ascending : (ns : List ℕ) → length (ascending ns) ≤ length ns
length-ascending [] = omega arith
length-ascending (n ∷ ns) = omega (arith, length-with_number n (ascending ns), length-ascending ns)

-- ---- in std's words

rest_rises : (x : ℕ) (xs : List ℕ) → IsStrictlyIncreasing (x ∷ xs) → IsStrictlyIncreasing xs
rest_rises x xs up k lt =
    let e : suc k + 1 ≡ suc (k + 1) = omega arith in
    subst (λ (j : ℕ). slice_index xs k < slice_index (x ∷ xs) j) e (up (suc k) (omega (arith, lt)))

first_rises : (x y : ℕ) (xs : List ℕ) → IsStrictlyIncreasing (x ∷ y ∷ xs) → x < y
first_rises x y xs up = up 0 (omega arith)

pub rises : (x : ℕ) (xs : List ℕ) → IsStrictlyIncreasing (x ∷ xs) → Above x xs
rises x [] up = tt
rises x (y ∷ xs) up = (first_rises x y xs up, rises y xs (rest_rises x (y ∷ xs) up))

pub Above-from_increasing : (m : ℕ) (xs : List ℕ) → AllByRecursion (λ n. m < n) xs → IsStrictlyIncreasing xs → Above m xs
Above-from_increasing m [] h up = tt
Above-from_increasing m (x ∷ xs) h up = (h.0, rises x xs up)

pub increasing-from_Above : (m : ℕ) (xs : List ℕ) → Above m xs → IsStrictlyIncreasing xs
increasing-from_Above m [] h k lt = absurd (omega arith)
increasing-from_Above m (x ∷ []) h k lt = absurd (omega arith)
increasing-from_Above m (x ∷ y ∷ xs) h zero lt = h.1.0
increasing-from_Above m (x ∷ y ∷ xs) h (suc k) lt =
    let e : suc (k + 1) ≡ suc k + 1 = omega arith in
    subst (λ (j : ℕ). slice_index (y ∷ xs) k < slice_index (x ∷ y ∷ xs) j) e (increasing-from_Above x (y ∷ xs) h.1 k (omega (arith, lt)))

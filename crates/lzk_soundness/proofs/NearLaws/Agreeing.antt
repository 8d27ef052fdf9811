-- Polynomials that agree at all columns but few are the same.
use Rattle.std.specs.Prelude.{◌≡◌, ◌≢◌, ℕ, ◌<◌, ◌≤◌, ◌+◌, ◌||◌, Bool, true, false, cond, List, [], ◌∷◌, length}
use Rattle.std.specs.List.{AllByRecursion, range_with_len}
use Rattle.std.proofs.Common.{zero, suc, refl, sym, arith}
use Rattle.std.proofs.lemmas.Bool.{false≢true}
use Rattle.std.proofs.lemmas.List.FromFn.{length-range_with_len}
use Rattle.lzk_field.specs.Ring.{Ops, RingLaws, FieldLaws}
use Rattle.lzk_field.specs.Sums.{entry}
use Rattle.lzk_poly.specs.Polynomial.{eval}
use Rattle.lzk_poly.proofs.Polynomials.{same_everywhere}
use Rattle.lzk_soundness.specs.Chance.Few.{AreDistinct}
use Rattle.lzk_soundness.specs.Chance.Draws.{count}
use Rattle.lzk_soundness.proofs.ChanceLaws.FewLaws.{apart_entry}
use Rattle.lzk_soundness.specs.Near.Near.{AreApart}

pub all_entry : {A : Type 0} (o : Ops A) (P : A → Type 0) (xs : List A) → AllByRecursion P xs → (i : ℕ) → i < length xs → P (entry o xs i)
all_entry o P [] all i h = absurd (omega arith)
all_entry o P (x ∷ xs) all zero h = all.0
all_entry o P (x ∷ xs) all (suc i) h = all_entry o P xs all.1 i (omega arith)

pub all_range : (P : ℕ → Type 0) (a k : ℕ) → ((j : ℕ) → a ≤ j → j < a + k → P j) → AllByRecursion P (range_with_len a k)
all_range P a zero each = tt
all_range P a (suc k) each = (each a (omega arith) (omega arith), all_range P (a + 1) k (λ j l h. each j (omega (arith, l)) (omega (arith, h))))

pub or_false : (a b : Bool) → (a || b) ≡ false → (a ≡ false) × (b ≡ false)
or_false true b e = absurd (false≢true (sym e))
or_false false b e = (refl, e)

pub count_or : {X : Type 0} (p q : X → Bool) (xs : List X) → count (λ x. p x || q x) xs ≤ count p xs + count q xs
count_or p q [] = omega arith
count_or p q (x ∷ xs) = omega (arith, one (p x) (q x), count_or p q xs)
  where
    one : (a b : Bool) → cond (a || b) 1 0 ≤ cond a 1 0 + cond b 1 0
    one true b = omega arith
    one false b = omega arith

module _ {A : Type 0} (o : Ops A) (at : ℕ → A) (bad : ℕ → Bool) where
  -- the points of the columns that are not bad
  abbrev good : List ℕ → List A
  good [] = []
  good (j ∷ js) = cond (bad j) (good js) (at j ∷ good js)

  length_good : (js : List ℕ) → length (good js) + count bad js ≡ length js
  length_good [] = omega arith
  length_good (j ∷ js) = go (bad j) (length_good js)
    where
      go : (b : Bool) → length (good js) + count bad js ≡ length js → length (cond b (good js) (at j ∷ good js)) + (cond b 1 0 + count bad js) ≡ suc (length js)
      go true rest = omega (arith, rest)
      go false rest = omega (arith, rest)

  all_good : (P : A → Type 0) (js : List ℕ) → AllByRecursion (λ (j : ℕ). bad j ≡ false → P (at j)) js → AllByRecursion P (good js)
  all_good P [] all = tt
  all_good P (j ∷ js) all = go (bad j) refl (all_good P js all.1)
    where
      go : (b : Bool) → bad j ≡ b → AllByRecursion P (good js) → AllByRecursion P (cond b (good js) (at j ∷ good js))
      go true is rest = rest
      go false is rest = (all.0 is, rest)

  distinct_good : (k a : ℕ) → AreApart at (a + k) → AreDistinct (good (range_with_len a k))
  distinct_good zero a apart = tt
  distinct_good (suc k) a apart =
      go (bad a) (distinct_good k (a + 1) (λ i j l h. apart i j l (omega (arith, h))))
      (all_good (λ y. at a ≢ y) (range_with_len (a + 1) k) (all_range (λ (j : ℕ). bad j ≡ false → at a ≢ at j) (a + 1) k (λ j l h _. apart a j (omega (arith, l)) (omega (arith, h)))))
    where
      go : (b : Bool) → AreDistinct (good (range_with_len (a + 1) k)) → AllByRecursion (λ y. at a ≢ y) (good (range_with_len (a + 1) k)) → AreDistinct (cond b (good (range_with_len (a + 1) k)) (at a ∷ good (range_with_len (a + 1) k)))
      go true rest differ = rest
      go false rest differ = (differ, rest)

  pub same_but_few : RingLaws o → FieldLaws o → (n end : ℕ) (cs ds : List A) → length cs ≤ n → length ds ≤ n → AreApart at end → count bad (range_with_len 0 end) + n ≤ end
      → ((j : ℕ) → j < end → bad j ≡ false → eval o cs (at j) ≡ eval o ds (at j)) → (t : A) → eval o cs t ≡ eval o ds t
  same_but_few r f n end cs ds short brief apart few agree t =
      let points = good (range_with_len 0 end) in
      let many : n ≤ length points = omega (arith, few, length_good (range_with_len 0 end), length-range_with_len 0 end) in
      let distinct : AreDistinct points = distinct_good end 0 (λ i j l h. apart i j l (omega (arith, h))) in
      let all : AllByRecursion (λ s. eval o cs s ≡ eval o ds s) points =
      all_good (λ s. eval o cs s ≡ eval o ds s) (range_with_len 0 end) (all_range (λ (j : ℕ). bad j ≡ false → eval o cs (at j) ≡ eval o ds (at j)) 0 end (λ j l h not. agree j (omega (arith, h)) not)) in
      same_everywhere o r f n cs ds (entry o points) short brief (λ i j p q. apart_entry o points distinct i j p (omega (arith, q, many)))
      (λ i h. all_entry o (λ s. eval o cs s ≡ eval o ds s) points all i (omega (arith, h, many))) t

-- Oracles of which some answers are known, and all that complete them.
use Rattle.std.specs.Prelude.{◌≡◌, ℕ, ◌+◌, ◌*◌, ◌^◌, ◌<◌, Bool, Option, Some, None, List, [], ◌∷◌, ◌++◌, length, map, flat_map, replicate}
use Rattle.std.specs.List.{AllByRecursion}
use Rattle.std.proofs.Common.{zero, suc, inl, inr, refl, sym, ap, ◌∙◌, arith, subst, add-mul, mul_comm, pow-suc, zero-mul, length-append}
use Rattle.std.proofs.lemmas.List.{length-map}
use Rattle.std.proofs.Math.Nat.{pow-zero}
use Rattle.lzk_soundness.specs.Chance.Draws.{count, draws_from}
use Rattle.lzk_soundness.specs.Chance.Few.{IsIn}
use Rattle.lzk_soundness.proofs.ChanceLaws.Alls.{added, fronts_added}
use Rattle.lzk_soundness.proofs.ChanceLaws.Counting.{count-map}
use Rattle.lzk_soundness.proofs.ChanceLaws.Lists.{join_all}
use Rattle.lzk_soundness.specs.Oracle.Oracle.{IsOracle, answer, put}

-- ---- sums

pub added_same : {X : Type 0} (g h : X → ℕ) (xs : List X) → ((x : X) → g x ≡ h x) → added g xs ≡ added h xs
added_same g h [] same = refl
added_same g h (x ∷ xs) same = omega (arith, same x, added_same g h xs same)

added_none : {X : Type 0} (xs : List X) → added (λ x. 0) xs ≡ 0
added_none [] = refl
added_none (x ∷ xs) = omega (arith, added_none xs)

added_both : {X : Type 0} (g h : X → ℕ) (xs : List X) → added (λ x. g x + h x) xs ≡ added g xs + added h xs
added_both g h [] = refl
added_both g h (x ∷ xs) = omega (arith, added_both g h xs)

added_turned : {X Y : Type 0} (h : X → Y → ℕ) (xs : List X) (ys : List Y) → added (λ x. added (h x) ys) xs ≡ added (λ y. added (λ x. h x y) xs) ys
added_turned h [] ys = sym (added_none ys)
added_turned h (x ∷ xs) ys = ap (λ (n : ℕ). added (h x) ys + n) (added_turned h xs ys) ∙ sym (added_both (h x) (λ y. added (λ x. h x y) xs) ys)

-- ---- entries

pub in_left : {X : Type 0} (y : X) (xs ys : List X) → IsIn y xs → IsIn y (xs ++ ys)
in_left y [] ys is = absurd is
in_left y (x ∷ xs) ys (inl e) = inl e
in_left y (x ∷ xs) ys (inr i) = inr (in_left y xs ys i)

pub in_right : {X : Type 0} (y : X) (xs ys : List X) → IsIn y ys → IsIn y (xs ++ ys)
in_right y [] ys is = is
in_right y (x ∷ xs) ys is = inr (in_right y xs ys is)

pub in_map : {X Y : Type 0} (f : X → Y) (x : X) (xs : List X) → IsIn x xs → IsIn (f x) (map f xs)
in_map f x [] is = absurd is
in_map f x (y ∷ ys) (inl e) = inl (ap f e)
in_map f x (y ∷ ys) (inr i) = inr (in_map f x ys i)

in_fronts : {X : Type 0} (x : X) (f : List X) (fs : List (List X)) (es : List X) → IsIn x es → IsIn f fs → IsIn (x ∷ f) (flat_map (λ d. map (λ f. d ∷ f) fs) es)
in_fronts x f fs [] is there = absurd is
in_fronts x f fs (e ∷ es) (inl same) there =
    in_left (x ∷ f) (map (λ f. e ∷ f) fs) (flat_map (λ d. map (λ f. d ∷ f) fs) es)
    (subst (λ y. IsIn (y ∷ f) (map (λ f. e ∷ f) fs)) same (in_map (λ f. e ∷ f) f fs there))
in_fronts x f fs (e ∷ es) (inr i) there =
    in_right (x ∷ f) (map (λ f. e ∷ f) fs) (flat_map (λ d. map (λ f. d ∷ f) fs) es) (in_fronts x f fs es i there)

pub each_in : {X : Type 0} (P : X → Type 0) (xs : List X) → ((x : X) → IsIn x xs → P x) → AllByRecursion P xs
each_in P [] all = tt
each_in P (x ∷ xs) all = (all x (inl refl), each_in P xs (λ y i. all y (inr i)))

pub one_in : {X : Type 0} (P : X → Type 0) (x : X) (xs : List X) → AllByRecursion P xs → IsIn x xs → P x
one_in P x [] all is = absurd is
one_in P x (y ∷ ys) all (inl e) = subst P e all.0
one_in P x (y ∷ ys) all (inr i) = one_in P x ys all.1 i

-- ---- answers

pub length-put : {X : Type 0} (n : ℕ) (x : X) (f : List X) → length (put n x f) ≡ length f
length-put n x [] = refl
length-put zero x (y ∷ ys) = refl
length-put (suc n) x (y ∷ ys) = ap suc (length-put n x ys)

pub answer-put : {X : Type 0} (none : X) (n : ℕ) (x : X) (f : List X) → n < length f → answer none (put n x f) n ≡ x
answer-put none n x [] h = absurd (omega (arith, h))
answer-put none zero x (y ∷ ys) h = refl
answer-put none (suc n) x (y ∷ ys) h = answer-put none n x ys (omega (arith, h))

pub answer-other : {X : Type 0} (none : X) (n m : ℕ) (x : X) (f : List X) → (n ≡ m → ⊥) → answer none (put n x f) m ≡ answer none f m
answer-other none n m x [] differ = refl
answer-other none zero zero x (y ∷ ys) differ = absurd (differ refl)
answer-other none zero (suc m) x (y ∷ ys) differ = refl
answer-other none (suc n) zero x (y ∷ ys) differ = refl
answer-other none (suc n) (suc m) x (y ∷ ys) differ = answer-other none n m x ys (λ e. differ (ap suc e))

-- ---- what is known of an oracle

abbrev pub fill : {X : Type 0} → ℕ → X → List (Option X) → List (Option X)
fill n x [] = []
fill zero x (p ∷ ps) = Some x ∷ ps
fill (suc n) x (p ∷ ps) = p ∷ fill n x ps

-- the answer to question n is not known yet
abbrev pub IsFree : {X : Type 0} → ℕ → List (Option X) → Type 0
IsFree n [] = ⊥
IsFree zero (Some x ∷ ps) = ⊥
IsFree zero (None ∷ ps) = Unit {0}
IsFree (suc n) (p ∷ ps) = IsFree n ps

-- how many are not
abbrev pub free : {X : Type 0} → List (Option X) → ℕ
free [] = 0
free (Some x ∷ ps) = free ps
free (None ∷ ps) = suc (free ps)

pub length-fill : {X : Type 0} (n : ℕ) (x : X) (p : List (Option X)) → length (fill n x p) ≡ length p
length-fill n x [] = refl
length-fill zero x (q ∷ qs) = refl
length-fill (suc n) x (q ∷ qs) = ap suc (length-fill n x qs)

pub free-fill : {X : Type 0} (n : ℕ) (x : X) (p : List (Option X)) → IsFree n p → free p ≡ suc (free (fill n x p))
free-fill n x [] is = absurd is
free-fill zero x (Some y ∷ qs) is = absurd is
free-fill zero x (None ∷ qs) is = refl
free-fill (suc n) x (Some y ∷ qs) is = free-fill n x qs is
free-fill (suc n) x (None ∷ qs) is = ap suc (free-fill n x qs is)

pub still_free : {X : Type 0} (n m : ℕ) (x : X) (p : List (Option X)) → (n ≡ m → ⊥) → IsFree m p → IsFree m (fill n x p)
still_free n m x [] differ is = is
still_free zero zero x (q ∷ qs) differ is = absurd (differ refl)
still_free zero (suc m) x (q ∷ qs) differ is = is
still_free (suc n) zero x (Some y ∷ qs) differ is = is
still_free (suc n) zero x (None ∷ qs) differ is = is
still_free (suc n) (suc m) x (q ∷ qs) differ is = still_free n m x qs (λ e. differ (ap suc e)) is

pub filled : {X : Type 0} (n : ℕ) (x : X) (p : List (Option X)) → IsFree n (fill n x p) → ⊥
filled n x [] is = is
filled zero x (q ∷ qs) is = is
filled (suc n) x (q ∷ qs) is = filled n x qs is

pub free_before : {X : Type 0} (n m : ℕ) (x : X) (p : List (Option X)) → IsFree m (fill n x p) → IsFree m p
free_before n m x [] is = is
free_before zero zero x (q ∷ qs) is = absurd is
free_before zero (suc m) x (q ∷ qs) is = is
free_before (suc n) zero x (Some y ∷ qs) is = is
free_before (suc n) zero x (None ∷ qs) is = is
free_before (suc n) (suc m) x (q ∷ qs) is = free_before n m x qs is

pub dec_free : {X : Type 0} (n : ℕ) (p : List (Option X)) → Dec (IsFree n p)
dec_free n [] = no (λ is. is)
dec_free zero (Some x ∷ qs) = no (λ is. is)
dec_free zero (None ∷ qs) = yes tt
dec_free (suc n) (q ∷ qs) = dec_free n qs

module _ {X : Type 0} (ds : List X) where
  -- the oracle has what is known, and answers from the list
  abbrev pub Fits : List (Option X) → List X → Type 0
  Fits [] [] = Unit {0}
  Fits [] (y ∷ ys) = ⊥
  Fits (p ∷ ps) [] = ⊥
  Fits (Some x ∷ ps) (y ∷ ys) = (x ≡ y) × Fits ps ys
  Fits (None ∷ ps) (y ∷ ys) = IsIn y ds × Fits ps ys

  -- all these oracles
  abbrev pub completions : List (Option X) → List (List X)
  completions [] = [] ∷ []
  completions (Some x ∷ ps) = map (λ f. x ∷ f) (completions ps)
  completions (None ∷ ps) = flat_map (λ d. map (λ f. d ∷ f) (completions ps)) ds

  length-fronts : (ts : List (List X)) (es : List X) → length (flat_map (λ e. map (λ rest. e ∷ rest) ts) es) ≡ length es * length ts
  length-fronts ts [] = omega (arith, zero-mul (length ts))
  length-fronts ts (e ∷ es) =
      length-append (map (λ rest. e ∷ rest) ts) (flat_map (λ e. map (λ rest. e ∷ rest) ts) es)
      ∙ omega (arith, length-map ts (λ rest. e ∷ rest), length-fronts ts es, add-mul 1 (length es) (length ts))

  pub length-completions : (p : List (Option X)) → length (completions p) ≡ length ds ^ free p
  length-completions [] = sym (pow-zero (length ds))
  length-completions (Some x ∷ qs) = length-map (completions qs) (λ f. x ∷ f) ∙ length-completions qs
  length-completions (None ∷ qs) =
      length-fronts (completions qs) ds ∙ ap (λ (n : ℕ). length ds * n) (length-completions qs)
      ∙ omega (arith, pow-suc (length ds) (free qs), mul_comm (length ds) (length ds ^ free qs))

  fits_mapped : (x : X) (p : List (Option X)) (fs : List (List X)) → AllByRecursion (Fits p) fs → AllByRecursion (Fits (Some x ∷ p)) (map (λ f. x ∷ f) fs)
  fits_mapped x p [] all = tt
  fits_mapped x p (f ∷ fs) all = ((refl, all.0), fits_mapped x p fs all.1)

  fits_front : (x : X) (p : List (Option X)) (fs : List (List X)) → IsIn x ds → AllByRecursion (Fits p) fs → AllByRecursion (Fits (None ∷ p)) (map (λ f. x ∷ f) fs)
  fits_front x p [] is all = tt
  fits_front x p (f ∷ fs) is all = ((is, all.0), fits_front x p fs is all.1)

  fits_fronts : (p : List (Option X)) (fs : List (List X)) → AllByRecursion (Fits p) fs → (es : List X) → ((x : X) → IsIn x es → IsIn x ds)
      → AllByRecursion (Fits (None ∷ p)) (flat_map (λ d. map (λ f. d ∷ f) fs) es)
  fits_fronts p fs all [] inside = tt
  fits_fronts p fs all (e ∷ es) inside =
      join_all (Fits (None ∷ p)) (map (λ f. e ∷ f) fs) (flat_map (λ d. map (λ f. d ∷ f) fs) es)
      (fits_front e p fs (inside e (inl refl)) all) (fits_fronts p fs all es (λ x i. inside x (inr i)))

  pub completions_fit : (p : List (Option X)) → AllByRecursion (Fits p) (completions p)
  completions_fit [] = (tt, tt)
  completions_fit (Some x ∷ qs) = fits_mapped x qs (completions qs) (completions_fit qs)
  completions_fit (None ∷ qs) = fits_fronts qs (completions qs) (completions_fit qs) ds (λ x i. i)

  pub in_completions : (p : List (Option X)) (f : List X) → Fits p f → IsIn f (completions p)
  in_completions [] [] fit = inl refl
  in_completions [] (y ∷ ys) fit = absurd fit
  in_completions (q ∷ qs) [] fit = absurd (none q fit)
    where
      none : (q : Option X) → Fits (q ∷ qs) [] → ⊥
      none (Some x) fit = fit
      none None fit = fit
  in_completions (Some x ∷ qs) (y ∷ ys) fit =
      subst (λ z. IsIn (z ∷ ys) (map (λ f. x ∷ f) (completions qs))) fit.0 (in_map (λ f. x ∷ f) ys (completions qs) (in_completions qs ys fit.1))
  in_completions (None ∷ qs) (y ∷ ys) fit = in_fronts y ys (completions qs) ds fit.0 (in_completions qs ys fit.1)

  pub length-fits : (p : List (Option X)) (f : List X) → Fits p f → length f ≡ length p
  length-fits [] [] fit = refl
  length-fits [] (y ∷ ys) fit = absurd fit
  length-fits (Some x ∷ qs) [] fit = absurd fit
  length-fits (None ∷ qs) [] fit = absurd fit
  length-fits (Some x ∷ qs) (y ∷ ys) fit = ap suc (length-fits qs ys fit.1)
  length-fits (None ∷ qs) (y ∷ ys) fit = ap suc (length-fits qs ys fit.1)

  -- one more answer is known
  pub fits_fill : (none : X) (n : ℕ) (x : X) (p : List (Option X)) (f : List X) → IsFree n p → IsIn x ds → Fits (fill n x p) f → Fits p f × (answer none f n ≡ x)
  fits_fill none n x [] f is there fit = absurd is
  fits_fill none zero x (Some q ∷ qs) f is there fit = absurd is
  fits_fill none zero x (None ∷ qs) [] is there fit = absurd fit
  fits_fill none zero x (None ∷ qs) (y ∷ ys) is there fit = ((subst (λ z. IsIn z ds) fit.0 there, fit.1), sym fit.0)
  fits_fill none (suc n) x (Some q ∷ qs) [] is there fit = absurd fit
  fits_fill none (suc n) x (None ∷ qs) [] is there fit = absurd fit
  fits_fill none (suc n) x (Some q ∷ qs) (y ∷ ys) is there fit = let rest = fits_fill none n x qs ys is there fit.1 in ((fit.0, rest.0), rest.1)
  fits_fill none (suc n) x (None ∷ qs) (y ∷ ys) is there fit = let rest = fits_fill none n x qs ys is there fit.1 in ((fit.0, rest.0), rest.1)

  -- what is known is the answer
  pub known : (none : X) (n : ℕ) (p : List (Option X)) → n < length p → (IsFree n p → ⊥) → (x : X) × ((f : List X) → Fits p f → answer none f n ≡ x)
  known none n [] h taken = absurd (omega (arith, h))
  known none zero (Some x ∷ qs) h taken = (x, here)
    where
      here : (f : List X) → Fits (Some x ∷ qs) f → answer none f 0 ≡ x
      here [] fit = absurd fit
      here (y ∷ ys) fit = sym fit.0
  known none zero (None ∷ qs) h taken = absurd (taken tt)
  known none (suc n) (q ∷ qs) h taken = let rest = known none n qs (omega (arith, h)) taken in (rest.0, there q rest.0 rest.1)
    where
      there : (q : Option X) (x : X) → ((f : List X) → Fits qs f → answer none f n ≡ x) → (f : List X) → Fits (q ∷ qs) f → answer none f (suc n) ≡ x
      there (Some z) x is [] fit = absurd fit
      there None x is [] fit = absurd fit
      there (Some z) x is (y ∷ ys) fit = is ys fit.1
      there None x is (y ∷ ys) fit = is ys fit.1

  -- ---- nothing is known

  abbrev pub blank : ℕ → List (Option X)
  blank m = replicate m None

  pub blank_completions : (m : ℕ) → completions (blank m) ≡ draws_from ds m
  blank_completions zero = refl
  blank_completions (suc m) = ap (λ ts. flat_map (λ d. map (λ rest. d ∷ rest) ts) ds) (blank_completions m)

  pub blank_free : (m n : ℕ) → n < m → IsFree n (blank m)
  blank_free zero n h = absurd (omega (arith, h))
  blank_free (suc m) zero h = tt
  blank_free (suc m) (suc n) h = blank_free m n (omega (arith, h))

  pub blank_count : (m : ℕ) → free (blank m) ≡ m
  blank_count zero = refl
  blank_count (suc m) = ap suc (blank_count m)

  pub blank_fits : (m : ℕ) (f : List X) → Fits (blank m) f → IsOracle ds m f
  blank_fits zero [] fit = record { count = refl; each = tt }
  blank_fits zero (y ∷ ys) fit = absurd fit
  blank_fits (suc m) [] fit = absurd fit
  blank_fits (suc m) (y ∷ ys) fit = let rest = blank_fits m ys fit.1 in record { count = ap suc rest.count; each = (fit.0, rest.each) }

  -- ---- counting by the answer to one question

  pub by_answer : (test : List X → Bool) (n : ℕ) (p : List (Option X)) → IsFree n p → count test (completions p) ≡ added (λ x. count test (completions (fill n x p))) ds
  by_answer test n [] is = absurd is
  by_answer test zero (Some y ∷ qs) is = absurd is
  by_answer test zero (None ∷ qs) is =
      fronts_added test (completions qs) ds
      ∙ added_same (λ d. count (λ rest. test (d ∷ rest)) (completions qs)) (λ x. count test (map (λ f. x ∷ f) (completions qs))) ds (λ x. sym (count-map (λ f. x ∷ f) test (completions qs)))
  by_answer test (suc n) (Some y ∷ qs) is =
      count-map (λ f. y ∷ f) test (completions qs) ∙ by_answer (λ f. test (y ∷ f)) n qs is
      ∙ added_same (λ x. count (λ f. test (y ∷ f)) (completions (fill n x qs))) (λ x. count test (map (λ f. y ∷ f) (completions (fill n x qs)))) ds (λ x. sym (count-map (λ f. y ∷ f) test (completions (fill n x qs))))
  by_answer test (suc n) (None ∷ qs) is =
      let one : X → X → ℕ = λ d x. count (λ rest. test (d ∷ rest)) (completions (fill n x qs)) in
      fronts_added test (completions qs) ds
      ∙ added_same (λ d. count (λ rest. test (d ∷ rest)) (completions qs)) (λ d. added (one d) ds) ds (λ d. by_answer (λ rest. test (d ∷ rest)) n qs is)
      ∙ added_turned one ds ds
      ∙ added_same (λ x. added (λ d. one d x) ds) (λ x. count test (completions (fill (suc n) x (None ∷ qs)))) ds (λ x. sym (fronts_added test (completions (fill n x qs)) ds))

  -- where one answer is known, the others are those where another is
  pub by_others : (test : List X → Bool) (n : ℕ) (x z : X) (p : List (Option X)) → IsFree n p → count test (completions (fill n x p)) ≡ count (λ g. test (put n x g)) (completions (fill n z p))
  by_others test n x z [] is = absurd is
  by_others test zero x z (Some y ∷ qs) is = absurd is
  by_others test zero x z (None ∷ qs) is =
      count-map (λ f. x ∷ f) test (completions qs) ∙ sym (count-map (λ f. z ∷ f) (λ g. test (put 0 x g)) (completions qs))
  by_others test (suc n) x z (Some y ∷ qs) is =
      count-map (λ f. y ∷ f) test (completions (fill n x qs)) ∙ by_others (λ f. test (y ∷ f)) n x z qs is
      ∙ sym (count-map (λ f. y ∷ f) (λ g. test (put (suc n) x g)) (completions (fill n z qs)))
  by_others test (suc n) x z (None ∷ qs) is =
      fronts_added test (completions (fill n x qs)) ds
      ∙ added_same (λ d. count (λ rest. test (d ∷ rest)) (completions (fill n x qs))) (λ d. count (λ g. test (put (suc n) x (d ∷ g))) (completions (fill n z qs))) ds
      (λ d. by_others (λ rest. test (d ∷ rest)) n x z qs is)
      ∙ sym (fronts_added (λ g. test (put (suc n) x g)) (completions (fill n z qs)) ds)

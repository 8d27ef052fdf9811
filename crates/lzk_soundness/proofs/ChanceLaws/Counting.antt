-- How many lists of draws have a bad one.
use Rattle.std.specs.Prelude.{◌≡◌, ℕ, ◌≤◌, ◌+◌, ◌*◌, ◌^◌, ◌||◌, Bool, true, false, cond, List, [], ◌∷◌, ◌++◌, length, map, flat_map}
use Rattle.std.proofs.Common.{zero, suc, refl, sym, ap, ◌∙◌, arith, add-mul, mul_assoc, mul_comm, pow-suc, mul-le-mul_right, zero-mul, suc-mul, subst, length-append}
use Rattle.std.proofs.lemmas.List.{length-map}
use Rattle.std.proofs.Math.Nat.{pow-zero}
use Rattle.lzk_soundness.specs.Chance.Draws.{count, draws_from, has_bad, total_from}
use Rattle.lzk_soundness.specs.Chance.Laws.{BadDrawsAreFew}

pub count-most : {X : Type 0} (test : X → Bool) (xs : List X) → count test xs ≤ length xs
count-most test [] = omega arith
count-most test (x ∷ xs) = omega (arith, one (test x), count-most test xs)
  where
    one : (b : Bool) → cond b 1 0 ≤ 1
    one true = omega arith
    one false = omega arith

pub count-append : {X : Type 0} (test : X → Bool) (xs ys : List X) → count test (xs ++ ys) ≡ count test xs + count test ys
count-append test [] ys = omega arith
count-append test (x ∷ xs) ys = omega (arith, count-append test xs ys)

pub count-map : {X Y : Type 0} (f : Y → X) (test : X → Bool) (ys : List Y) → count test (map f ys) ≡ count (λ y. test (f y)) ys
count-map f test [] = refl
count-map f test (y ∷ ys) = ap (λ (n : ℕ). cond (test (f y)) 1 0 + n) (count-map f test ys)

module _ {X : Type 0} (ds : List X) where
  length-fronts : (n : ℕ) (ts : List (List X)) (es : List X) → length ts ≡ length ds ^ n → length (flat_map (λ e. map (λ rest. e ∷ rest) ts) es) ≡ length es * length ds ^ n
  length-fronts n ts [] is = omega (arith, zero-mul (length ds ^ n))
  length-fronts n ts (e ∷ es) is =
      length-append (map (λ rest. e ∷ rest) ts) (flat_map (λ e. map (λ rest. e ∷ rest) ts) es)
      ∙ omega (arith, length-map ts (λ rest. e ∷ rest), is, length-fronts n ts es is, add-mul 1 (length es) (length ds ^ n))

  pub length-draws : (n : ℕ) → length (draws_from ds n) ≡ length ds ^ n
  length-draws zero = sym (pow-zero (length ds))
  length-draws (suc n) = length-fronts n (draws_from ds n) ds (length-draws n) ∙ omega (arith, pow-suc (length ds) n, mul_comm (length ds) (length ds ^ n))

module _ {X : Type 0} (bad : List X → X → Bool) (d : ℕ → ℕ) (ds : List X) (few : (before : List X) → count (bad before) ds ≤ d (length before)) where
  abbrev N : ℕ
  N = length ds

  -- behind one draw: all lists where it is bad, and else those with a bad draw among the rest
  one : (before : List X) (x : X) (ts : List (List X)) (T S : ℕ) → length ts ≡ T → count (has_bad bad (before ++ x ∷ [])) ts * N ≤ S
      → count (λ t. has_bad bad before (x ∷ t)) ts * N ≤ cond (bad before x) 1 0 * (T * N) + S
  one before x ts T S long rest = go (bad before x)
    where
      go : (b : Bool) → count (λ t. b || has_bad bad (before ++ x ∷ []) t) ts * N ≤ cond b 1 0 * (T * N) + S
      go true =
          let most : count (λ t. true || has_bad bad (before ++ x ∷ []) t) ts ≤ T = omega (arith, count-most (λ t. true || has_bad bad (before ++ x ∷ []) t) ts, long) in
          omega (arith, mul-le-mul_right N most)
      go false = omega (arith, rest)

  fronts : (before : List X) (ts : List (List X)) (T S : ℕ) → length ts ≡ T → ((x : X) → count (has_bad bad (before ++ x ∷ [])) ts * N ≤ S)
      → (es : List X) → count (has_bad bad before) (flat_map (λ e. map (λ rest. e ∷ rest) ts) es) * N ≤ count (bad before) es * (T * N) + length es * S
  fronts before ts T S long rest [] = omega arith
  fronts before ts T S long rest (e ∷ es) =
      let front = map (λ rest. e ∷ rest) ts in
      let behind = flat_map (λ e. map (λ rest. e ∷ rest) ts) es in
      let a = count (λ t. has_bad bad before (e ∷ t)) ts in
      let b = count (has_bad bad before) behind in
      let c = count (bad before) es in
      let i = cond (bad before e) 1 0 in
      let both : count (has_bad bad before) (flat_map (λ e. map (λ rest. e ∷ rest) ts) (e ∷ es)) ≡ a + b =
      count-append (has_bad bad before) front behind ∙ ap (λ (n : ℕ). n + b) (count-map (λ rest. e ∷ rest) (has_bad bad before) ts) in
      let first : a * N ≤ i * (T * N) + S = one before e ts T S long (rest e) in
      let others : b * N ≤ c * (T * N) + length es * S = fronts before ts T S long rest es in
      let wide : (a + b) * N ≤ (i + c) * (T * N) + suc (length es) * S = omega (arith, add-mul a b N, first, others, add-mul i c (T * N), suc-mul (length es) S) in
      subst (λ (k : ℕ). k * N ≤ (i + c) * (T * N) + suc (length es) * S) (sym both) wide

  bound : (n : ℕ) (before : List X) → count (has_bad bad before) (draws_from ds n) * N ≤ total_from d (length before) n * N ^ n
  bound zero before = omega arith
  bound (suc n) before =
      let k = length before in
      let T = N ^ n in
      let R = total_from d (suc k) n in
      let rest : (x : X) → count (has_bad bad (before ++ x ∷ [])) (draws_from ds n) * N ≤ R * T =
      λ x.
      let more : length (before ++ x ∷ []) ≡ suc k = omega (arith, length-append before (x ∷ [])) in
      omega (arith, bound n (before ++ x ∷ []), ap (λ (j : ℕ). total_from d j n * T) more) in
      let all = fronts before (draws_from ds n) T (R * T) (length-draws ds n) rest ds in
      let head : count (bad before) ds * (T * N) ≤ d k * (T * N) = mul-le-mul_right (T * N) (few before) in
      omega (arith, all, head, add-mul (d k) R (T * N), ap (λ (j : ℕ). (d k + R) * j) (pow-suc N n), mul_comm N (R * T), mul_assoc R T N)

pub bad_draws_few : (X : Type 0) → BadDrawsAreFew X
bad_draws_few X = λ bad d ds n few. (length-draws ds n, bound bad d ds few n [])

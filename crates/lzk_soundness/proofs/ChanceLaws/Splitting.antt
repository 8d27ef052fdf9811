-- Lists of draws in two parts, where few of the second pass unless the first passes another test.
use Rattle.std.specs.Prelude.{◌≡◌, ℕ, ◌≤◌, ◌+◌, ◌*◌, ◌^◌, Bool, true, false, cond, List, [], ◌∷◌, ◌++◌, length, map, flat_map}
use Rattle.std.proofs.Common.{zero, suc, refl, sym, ap, ◌∙◌, arith, subst, add-mul, mul_assoc, mul_comm, pow-suc, mul-le-mul_right, suc-mul, zero-mul, length-append}
use Rattle.std.proofs.Math.Nat.{pow-zero, one-mul}
use Rattle.lzk_soundness.specs.Chance.Draws.{count, draws_from}
use Rattle.lzk_soundness.proofs.ChanceLaws.Counting.{count-most, count-append, count-map, length-draws}

pub count-ext : {X : Type 0} (p q : X → Bool) (xs : List X) → ((x : X) → p x ≡ q x) → count p xs ≡ count q xs
count-ext p q [] same = refl
count-ext p q (x ∷ xs) same = ap (λ (b : Bool). cond {A = ℕ} b 1 0 + count p xs) (same x) ∙ ap (λ (n : ℕ). cond (q x) 1 0 + n) (count-ext p q xs same)

append_one : {X : Type 0} (ys zs : List X) (y : X) → (ys ++ y ∷ []) ++ zs ≡ ys ++ (y ∷ zs)
append_one [] zs y = refl
append_one (u ∷ ys) zs y = ap (λ vs. u ∷ vs) (append_one ys zs y)

module _ {X : Type 0} (ds : List X) (P Q : List X → Bool) (n T : ℕ) where
  abbrev N : ℕ
  N = length ds

  abbrev S : ℕ
  S = N ^ n

  -- with so many draws left before the second part
  module _ (first : ℕ) (rest : (r : List X) → length r ≡ first → Q r ≡ false → count (λ t. P (r ++ t)) (draws_from ds n) * N ≤ T) where
    abbrev fronts : List (List X) → List X → List (List X)
    fronts ts es = flat_map (λ e. map (λ t. e ∷ t) ts) es

    over : (before : List X) (us ts : List (List X)) (K : ℕ)
        → ((e : X) → count (λ t. P ((before ++ e ∷ []) ++ t)) us * N ≤ count (λ t. Q ((before ++ e ∷ []) ++ t)) ts * (S * N) + K)
        → (es : List X) → count (λ t. P (before ++ t)) (fronts us es) * N ≤ count (λ t. Q (before ++ t)) (fronts ts es) * (S * N) + length es * K
    over before us ts K each [] = omega (arith, zero-mul N, zero-mul K)
    over before us ts K each (e ∷ es) =
        let p : List X → Bool = λ t. P (before ++ t) in
        let q : List X → Bool = λ t. Q (before ++ t) in
        let a = count (λ t. P ((before ++ e ∷ []) ++ t)) us in
        let b = count p (fronts us es) in
        let a' = count (λ t. Q ((before ++ e ∷ []) ++ t)) ts in
        let b' = count q (fronts ts es) in
        let left : count p (fronts us (e ∷ es)) ≡ a + b =
        count-append p (map (λ t. e ∷ t) us) (fronts us es)
        ∙ ap (λ (k : ℕ). k + b) (count-map (λ t. e ∷ t) p us ∙ count-ext (λ t. P (before ++ e ∷ t)) (λ t. P ((before ++ e ∷ []) ++ t)) us (λ t. ap P (sym (append_one before t e)))) in
        let right : count q (fronts ts (e ∷ es)) ≡ a' + b' =
        count-append q (map (λ t. e ∷ t) ts) (fronts ts es)
        ∙ ap (λ (k : ℕ). k + b') (count-map (λ t. e ∷ t) q ts ∙ count-ext (λ t. Q (before ++ e ∷ t)) (λ t. Q ((before ++ e ∷ []) ++ t)) ts (λ t. ap Q (sym (append_one before t e)))) in
        let here : a * N ≤ a' * (S * N) + K = each e in
        let others : b * N ≤ b' * (S * N) + length es * K = over before us ts K each es in
        let sum : (a + b) * N ≤ (a' + b') * (S * N) + suc (length es) * K = omega (arith, add-mul a b N, add-mul a' b' (S * N), suc-mul (length es) K, here, others) in
        subst (λ (k : ℕ). k * N ≤ count q (fronts ts (e ∷ es)) * (S * N) + suc (length es) * K) (sym left)
        (subst (λ (k : ℕ). (a + b) * N ≤ k * (S * N) + suc (length es) * K) (sym right) sum)

    split : (m : ℕ) (before : List X) → length before + m ≡ first
        → count (λ t. P (before ++ t)) (draws_from ds (m + n)) * N ≤ count (λ t. Q (before ++ t)) (draws_from ds m) * (S * N) + N ^ m * T
    split zero before is =
        let whole : 0 + n ≡ n = omega arith in
        let nil : before ++ [] ≡ before = append_nil before in
        subst (λ (k : ℕ). count (λ t. P (before ++ t)) (draws_from ds k) * N ≤ (cond (Q (before ++ [])) 1 0 + 0) * (S * N) + N ^ 0 * T) (sym whole)
        (subst (λ ys. count (λ t. P (before ++ t)) (draws_from ds n) * N ≤ (cond (Q ys) 1 0 + 0) * (S * N) + N ^ 0 * T) (sym nil) (go (Q before) refl))
      where
        append_nil : {Y : Type 0} (ys : List Y) → ys ++ [] ≡ ys
        append_nil [] = refl
        append_nil (y ∷ ys) = ap (λ zs. y ∷ zs) (append_nil ys)

        go : (b : Bool) → Q before ≡ b → count (λ t. P (before ++ t)) (draws_from ds n) * N ≤ (cond b 1 0 + 0) * (S * N) + N ^ 0 * T
        go true e =
            let most : count (λ t. P (before ++ t)) (draws_from ds n) ≤ S = omega (arith, count-most (λ t. P (before ++ t)) (draws_from ds n), length-draws ds n) in
            omega (arith, mul-le-mul_right N most)
        go false e =
            let few = rest before (omega (arith, is)) e in
            let once : N ^ 0 * T ≡ T = ap (λ (k : ℕ). k * T) (pow-zero N) ∙ one-mul T in
            omega (arith, few, once)
    split (suc m) before is =
        let turned : suc m + n ≡ suc (m + n) = omega arith in
        let K = N ^ m * T in
        let each : (e : X) → count (λ t. P ((before ++ e ∷ []) ++ t)) (draws_from ds (m + n)) * N ≤ count (λ t. Q ((before ++ e ∷ []) ++ t)) (draws_from ds m) * (S * N) + K =
        λ e. split m (before ++ e ∷ []) (omega (arith, is, length-append before (e ∷ []))) in
        let all = over before (draws_from ds (m + n)) (draws_from ds m) K each ds in
        let more : N ^ suc m * T ≡ N * K = ap (λ (k : ℕ). k * T) (pow-suc N m ∙ mul_comm (N ^ m) N) ∙ mul_assoc N (N ^ m) T in
        subst (λ (k : ℕ). count (λ t. P (before ++ t)) (draws_from ds k) * N ≤ count (λ t. Q (before ++ t)) (draws_from ds (suc m)) * (S * N) + N ^ suc m * T) (sym turned)
        (omega (arith, all, more))

  pub two_parts : (first : ℕ) → ((r : List X) → length r ≡ first → Q r ≡ false → count (λ t. P (r ++ t)) (draws_from ds n) * N ≤ T)
      → count P (draws_from ds (first + n)) * N ≤ count Q (draws_from ds first) * (S * N) + N ^ first * T
  two_parts first rest = split first rest first [] (omega arith)

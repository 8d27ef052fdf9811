-- How many sets pass a test, and how many pairs of a list of draws and a set.
use Rattle.std.specs.Prelude.{◌≡◌, ℕ, ◌≤◌, ◌+◌, ◌-◌, ◌*◌, Bool, true, false, cond, List, [], ◌∷◌, ◌++◌, length, map}
use Rattle.std.specs.List.{AllByRecursion}
use Rattle.std.proofs.Common.{zero, suc, refl, sym, ap, ◌∙◌, arith, subst, add-mul, mul_assoc, mul_comm, mul-le-mul_right, suc-mul, zero-mul, length-append}
use Rattle.std.proofs.lemmas.List.{length-map}
use Rattle.std.proofs.Math.Nat.{le_of_mul-le-mul_right}
use Rattle.std.proofs.lemmas.Bool.{false≢true}
use Rattle.lzk_soundness.specs.Chance.Draws.{count}
use Rattle.lzk_soundness.specs.Chance.Sets.{sets_of, choose, falling, count_pairs}
use Rattle.lzk_soundness.proofs.ChanceLaws.Counting.{count-append, count-map, count-most}

pub count-none : {X : Type 0} (test : X → Bool) (xs : List X) → ((x : X) → test x ≡ true → ⊥) → count test xs ≡ 0
count-none test [] never = refl
count-none test (x ∷ xs) never = omega (arith, none (test x) refl, count-none test xs never)
  where
    none : (b : Bool) → test x ≡ b → cond b 1 0 ≤ 0
    none true is = absurd (never x is)
    none false is = omega arith

pub sets_counted : {X : Type 0} (k : ℕ) (xs : List X) → length (sets_of k xs) ≡ choose (length xs) k
sets_counted zero xs = refl
sets_counted (suc k) [] = refl
sets_counted (suc k) (x ∷ xs) =
    length-append (map (λ rest. x ∷ rest) (sets_of k xs)) (sets_of (suc k) xs)
    ∙ omega (arith, length-map (sets_of k xs) (λ rest. x ∷ rest), sets_counted k xs, sets_counted (suc k) xs)

choose-more : (n k : ℕ) → choose n k ≤ choose (suc n) k
choose-more n zero = omega arith
choose-more n (suc k) = omega arith

-- Where a test says yes only to sets of members alone, it says yes to no more sets than members have.
pub sets_few : {X : Type 0} (member : X → Bool) (k : ℕ) (xs : List X) (wins : List X → Bool)
    → ((s : List X) → wins s ≡ true → AllByRecursion (λ x. member x ≡ true) s) → count wins (sets_of k xs) ≤ choose (count member xs) k
sets_few member zero xs wins only = omega (arith, count-most wins ([] ∷ []))
sets_few member (suc k) [] wins only = omega arith
sets_few member (suc k) (x ∷ xs) wins only =
    let with_x : ℕ = count (λ rest. wins (x ∷ rest)) (sets_of k xs) in
    let both : count wins (map (λ rest. x ∷ rest) (sets_of k xs) ++ sets_of (suc k) xs) ≡ with_x + count wins (sets_of (suc k) xs) =
    count-append wins (map (λ rest. x ∷ rest) (sets_of k xs)) (sets_of (suc k) xs)
    ∙ ap (λ (n : ℕ). n + count wins (sets_of (suc k) xs)) (count-map (λ rest. x ∷ rest) wins (sets_of k xs)) in
    go (member x) refl both (sets_few member k xs (λ rest. wins (x ∷ rest)) (λ s won. (only (x ∷ s) won).1)) (sets_few member (suc k) xs wins only)
  where
    go : (b : Bool) → member x ≡ b → count wins (map (λ rest. x ∷ rest) (sets_of k xs) ++ sets_of (suc k) xs) ≡ count (λ rest. wins (x ∷ rest)) (sets_of k xs) + count wins (sets_of (suc k) xs)
        → count (λ rest. wins (x ∷ rest)) (sets_of k xs) ≤ choose (count member xs) k → count wins (sets_of (suc k) xs) ≤ choose (count member xs) (suc k)
        → count wins (map (λ rest. x ∷ rest) (sets_of k xs) ++ sets_of (suc k) xs) ≤ choose (cond b 1 0 + count member xs) (suc k)
    go true is both first others = subst (λ (n : ℕ). count wins (sets_of (suc k) (x ∷ xs)) ≤ choose n (suc k)) one (omega (arith, both, first, others))
      where
        one : suc (count member xs) ≡ 1 + count member xs
        one = omega arith
    go false is both first others =
        let none : count (λ rest. wins (x ∷ rest)) (sets_of k xs) ≡ 0 = count-none (λ rest. wins (x ∷ rest)) (sets_of k xs) (λ s won. false≢true (sym is ∙ (only (x ∷ s) won).0)) in
        subst (λ (n : ℕ). count wins (sets_of (suc k) (x ∷ xs)) ≤ choose n (suc k)) zero_more (omega (arith, both, none, others))
      where
        zero_more : count member xs ≡ 0 + count member xs
        zero_more = omega arith

choose-up : (m d k : ℕ) → choose m k ≤ choose (d + m) k
choose-up m zero k = subst (λ (n : ℕ). choose m k ≤ choose n k) same (omega arith)
  where
    same : m ≡ 0 + m
    same = omega arith
choose-up m (suc d) k = subst (λ (n : ℕ). choose m k ≤ choose n k) same (omega (arith, choose-up m d k, choose-more (d + m) k))
  where
    same : suc (d + m) ≡ suc d + m
    same = omega arith

pub choose-mono : (m n k : ℕ) → m ≤ n → choose m k ≤ choose n k
choose-mono m n k h = subst (λ (j : ℕ). choose m k ≤ choose j k) back (choose-up m (n - m) k)
  where
    back : n - m + m ≡ n
    back = omega (arith, h)

-- Pairs pass seldom where, but for a few first entries, few of the second list's entries pass.
pub pairs_few : {X Y : Type 0} (test : X → Y → Bool) (bad : X → Bool) (ys : List Y) (most : ℕ) (xs : List X)
    → AllByRecursion (λ x. bad x ≡ false → count (test x) ys ≤ most) xs → count_pairs test xs ys ≤ count bad xs * length ys + length xs * most
pairs_few test bad ys most [] all = omega arith
pairs_few test bad ys most (x ∷ xs) all =
    let c = count bad xs in
    let S = length ys in
    omega (arith, go (bad x) refl, pairs_few test bad ys most xs all.1, add-mul (cond (bad x) 1 0) c S, suc-mul (length xs) most)
  where
    go : (b : Bool) → bad x ≡ b → count (test x) ys ≤ cond b 1 0 * length ys + most
    go true is = omega (arith, count-most (test x) ys)
    go false is = omega (arith, all.0 is)

-- ---- how many sets there are, by products

-- k + 1 of n + 1 things: one of them first, and k of the others
choose-step : (n k : ℕ) → suc k * choose (suc n) (suc k) ≡ suc n * choose n k
choose-step zero zero = refl
choose-step zero (suc k) = omega (arith, zero-mul (suc (suc k)))
choose-step (suc n) zero = omega (arith, choose-step n zero)
choose-step (suc n) (suc k) =
    let a = choose (suc n) (suc k) in
    let b = choose (suc n) (suc (suc k)) in
    omega (arith, choose-step n k, choose-step n (suc k))

-- the number of sets times that of the orders of each is that of the lists
pub choose_lists : (n k : ℕ) → choose n k * falling k k ≡ falling n k
choose_lists n zero = refl
choose_lists zero (suc k) = omega arith
choose_lists (suc n) (suc k) =
    let c = choose (suc n) (suc k) in
    let f = falling k k in
    let g = falling n k in
    let down : suc k - 1 ≡ k = omega arith in
    let less : suc n - 1 ≡ n = omega arith in
    ap (λ (j : ℕ). c * (suc k * falling j k)) down
    ∙ sym (mul_assoc c (suc k) f) ∙ ap (λ (j : ℕ). j * f) (mul_comm c (suc k) ∙ choose-step n k)
    ∙ mul_assoc (suc n) (choose n k) f ∙ ap (λ (j : ℕ). suc n * j) (choose_lists n k)
    ∙ ap (λ (j : ℕ). suc n * falling j k) (sym less)

pub falling-some : (n k : ℕ) → k ≤ n → 1 ≤ falling n k
falling-some n zero h = omega arith
falling-some n (suc k) h =
    let rest = falling-some (n - 1) k (omega (arith, h)) in
    let some : 1 * falling (n - 1) k ≤ n * falling (n - 1) k = mul-le-mul_right (falling (n - 1) k) (omega (arith, h)) in
    omega (arith, rest, some)

-- Where lists of different things are so much fewer, sets are.
pub fewer_sets : (m n k by : ℕ) → falling m k * by ≤ falling n k → choose m k * by ≤ choose n k
fewer_sets m n k by less =
    let f = falling k k in
    let cm = choose m k in
    let both : cm * by * f ≤ choose n k * f = omega (arith, less, turned cm by f, ap (λ (j : ℕ). j * by) (choose_lists m k), choose_lists n k) in
    le_of_mul-le-mul_right {m = cm * by} {n = choose n k} {k = f} both (omega (arith, falling-some k k (omega arith)))
  where
    turned : (a b c : ℕ) → a * b * c ≡ a * c * b
    turned a b c = mul_assoc a b c ∙ ap (λ (j : ℕ). a * j) (mul_comm b c) ∙ sym (mul_assoc a c b)

pub four : (a b c d : ℕ) → a * b * (c * d) ≡ a * c * (b * d)
four a b c d =
    mul_assoc a b (c * d) ∙ ap (λ (j : ℕ). a * j) (sym (mul_assoc b c d) ∙ ap (λ (j : ℕ). j * d) (mul_comm b c) ∙ mul_assoc c b d)
    ∙ sym (mul_assoc a c (b * d))

mul-le-mul : (a b c d : ℕ) → a ≤ b → c ≤ d → a * c ≤ b * d
mul-le-mul a b c d h k =
    let first : a * c ≤ b * c = mul-le-mul_right c h in
    let second : c * b ≤ d * b = mul-le-mul_right b k in
    omega (arith, first, second, mul_comm b c, mul_comm d b)

-- of two factors that are three quarters of each other at most, adding 3 d and 4 d raises the first the more
one_ratio : (a b d : ℕ) → 4 * a ≤ 3 * b → a * (b + 4 * d) ≤ (a + 3 * d) * b
one_ratio a b d h =
    let left : a * (b + 4 * d) ≡ a * b + 4 * a * d = mul_comm a (b + 4 * d) ∙ add-mul b (4 * d) a ∙ omega (arith, mul_comm b a, mul_assoc 4 d a, mul_comm d a, mul_assoc 4 a d) in
    let right : (a + 3 * d) * b ≡ a * b + 3 * b * d = add-mul a (3 * d) b ∙ omega (arith, mul_assoc 3 d b, mul_comm d b, mul_assoc 3 b d) in
    let more : 4 * a * d ≤ 3 * b * d = mul-le-mul_right d h in
    omega (arith, left, right, more)

-- The share of the lists of k of a things among those of b, a being three quarters of b at most, is no more where 3 d and 4 d things are added.
pub shares_rise : (k a b d : ℕ) → 4 * a ≤ 3 * b → k ≤ a → falling a k * falling (b + 4 * d) k ≤ falling (a + 3 * d) k * falling b k
shares_rise zero a b d h l = omega arith
shares_rise (suc k) a b d h l =
    let a' = a - 1 in
    let b' = b - 1 in
    let rest = shares_rise k a' b' d (omega (arith, h, l)) (omega (arith, l)) in
    let up : b + 4 * d - 1 ≡ b' + 4 * d = omega (arith, h, l) in
    let over : a + 3 * d - 1 ≡ a' + 3 * d = omega (arith, l) in
    let both = mul-le-mul (a * (b + 4 * d)) ((a + 3 * d) * b) (falling a' k * falling (b' + 4 * d) k) (falling (a' + 3 * d) k * falling b' k) (one_ratio a b d h) rest in
    let left : a * falling a' k * ((b + 4 * d) * falling (b' + 4 * d) k) ≡ a * (b + 4 * d) * (falling a' k * falling (b' + 4 * d) k) =
    four a (falling a' k) (b + 4 * d) (falling (b' + 4 * d) k) in
    let right : (a + 3 * d) * falling (a' + 3 * d) k * (b * falling b' k) ≡ (a + 3 * d) * b * (falling (a' + 3 * d) k * falling b' k) =
    four (a + 3 * d) (falling (a' + 3 * d) k) b (falling b' k) in
    subst (λ (j : ℕ). a * falling a' k * ((b + 4 * d) * falling j k) ≤ (a + 3 * d) * falling (a + 3 * d - 1) k * (b * falling b' k)) (sym up)
    (subst (λ (j : ℕ). a * falling a' k * ((b + 4 * d) * falling (b' + 4 * d) k) ≤ (a + 3 * d) * falling j k * (b * falling b' k)) (sym over)
    (omega (arith, both, left, right)))

pub share_at : (k by a b d : ℕ) → 4 * a ≤ 3 * b → k ≤ a → falling (a + 3 * d) k * by ≤ falling (b + 4 * d) k → falling a k * by ≤ falling b k
share_at k by a b d h l known =
    let w = falling (b + 4 * d) k in
    let x = falling (a + 3 * d) k in
    let y = falling a k in
    let z = falling b k in
    let first : y * w * by ≤ x * z * by = mul-le-mul_right by (shares_rise k a b d h l) in
    let second : x * by * z ≤ w * z = mul-le-mul_right z known in
    let whole : y * by * w ≤ z * w = omega (arith, first, second, turned y w by, turned x z by, mul_comm w z) in
    le_of_mul-le-mul_right {m = y * by} {n = z} {k = w} whole (omega (arith, falling-some (b + 4 * d) k (omega (arith, h, l))))
  where
    turned : (a b c : ℕ) → a * b * c ≡ a * c * b
    turned a b c = mul_assoc a b c ∙ ap (λ (j : ℕ). a * j) (mul_comm b c) ∙ sym (mul_assoc a c b)

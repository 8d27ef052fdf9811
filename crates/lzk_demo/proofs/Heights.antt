-- How deep and how heavy the last entry is when entries are joined in rounds, and what all joins cost.
use Rattle.std.proofs.Common.{◌≡◌, ℕ, zero, suc, ◌+◌, ◌-◌, ◌*◌, ◌/◌, ◌^◌, ◌≤◌, Bool, true, false, cond, List, [], ◌∷◌, length, refl, ◌∙◌, ap, subst, arith}
use Rattle.std.specs.Prelude.{max, nat_le}
use Rattle.std.proofs.lemmas.Bool.Decides.{nat_tests}
use Rattle.lzk_demo.specs.Demo.{IsLogarithm}
use Rattle.lzk_demo.proofs.Rounds.{pair_with, rounds_with, round_cost, rounds_cost, length-pair_with}

-- how many of n rounds join a pair, where there are m entries
abbrev pub height : ℕ → ℕ → ℕ
height zero m = 0
height (suc n) m = cond (nat_le m 1) 0 (1 + height n (m - m / 2))

le_one : (m : ℕ) → m ≤ 1 → nat_le m 1 ≡ true
le_one m h = grind (arith, nat_tests)

above_one : (m : ℕ) → 2 ≤ m → nat_le m 1 ≡ false
above_one m h = grind (arith, nat_tests)

height-one : (n m : ℕ) → m ≤ 1 → height n m ≡ 0
height-one zero m h = refl
height-one (suc n) m h = rw (le_one m h) refl

height-more : (n m : ℕ) → 2 ≤ m → height (suc n) m ≡ 1 + height n (m - m / 2)
height-more n m h = rw (above_one m h) refl

double : (k : ℕ) → 2 ^ (1 + k) ≡ 2 * 2 ^ k
double k =
    let one : 1 + k ≡ suc k = omega arith in
    let two : 2 ^ suc k ≡ 2 * 2 ^ k = omega arith in
    ap (λ w. 2 ^ w) one ∙ two

reaches_at : (n m : ℕ) (b : Bool) → nat_le m 1 ≡ b → (m - m / 2 ≤ n + 1 → m - m / 2 ≤ 2 ^ height n (m - m / 2)) → m ≤ suc n + 1 → m ≤ 2 ^ cond b 0 (1 + height n (m - m / 2))
reaches_at n m true e rest few = let h : m ≤ 1 = le_of m e in h
  where
    le_of : (m : ℕ) → nat_le m 1 ≡ true → m ≤ 1
    le_of m e = grind (arith, nat_tests)
reaches_at n m false e rest few =
    let h : 2 ≤ m = gt_of m e in
    omega (arith, rest (omega arith), double (height n (m - m / 2)))
  where
    gt_of : (m : ℕ) → nat_le m 1 ≡ false → 2 ≤ m
    gt_of m e = grind (arith, nat_tests)

reaches : (n m : ℕ) → m ≤ n + 1 → m ≤ 2 ^ height n m
reaches zero m few = few
reaches (suc n) m few = reaches_at n m (nat_le m 1) refl (reaches n (m - m / 2)) few

least_at : (n m k : ℕ) (b : Bool) → nat_le m 1 ≡ b → ((j : ℕ) → m - m / 2 ≤ 2 ^ j → height n (m - m / 2) ≤ j) → m ≤ 2 ^ k → cond b 0 (1 + height n (m - m / 2)) ≤ k
least_at n m k true e rest h = omega arith
least_at n m zero false e rest h = absurd (no m e h)
  where
    no : (m : ℕ) → nat_le m 1 ≡ false → m ≤ 1 → ⊥
    no m e h = grind (arith, nat_tests)
least_at n m (suc j) false e rest h =
    let k = double j in
    let one : suc j ≡ 1 + j = omega arith in
    let again : m ≤ 2 ^ (1 + j) = subst (λ w. m ≤ 2 ^ w) one h in
    omega (arith, rest j (omega (arith, again, k)))

pub least : (n m k : ℕ) → m ≤ 2 ^ k → height n m ≤ k
least zero m k h = omega arith
least (suc n) m k h = least_at n m k (nat_le m 1) refl (least n (m - m / 2)) h

pub height_is : (n m : ℕ) → m ≤ n + 1 → IsLogarithm m (height n m)
height_is n m few = (reaches n m few, least n m)

-- ---- depth and weight of an entry

pub record Size : Type 0 where
  pub depth : ℕ
  pub weight : ℕ

-- of a pair's let name
abbrev pub over : Size → Size → Size
over x y = record { depth = 1 + max x.depth y.depth; weight = x.weight + y.weight + 1 }

-- the weights of the three nodes that a pair makes
abbrev pub price : Size → ℕ
price x = x.weight + 2

abbrev pub AllBelow : ℕ → List Size → Type 0
AllBelow d [] = Unit {0}
AllBelow d (x ∷ xs) = (x.depth ≤ d) × AllBelow d xs

abbrev pub first_depth : List Size → ℕ
first_depth [] = 0
first_depth (x ∷ xs) = x.depth

round_below : (d : ℕ) (xs : List Size) → AllBelow d xs → AllBelow (1 + d) (pair_with over xs)
round_below d [] h = tt
round_below d (x ∷ []) h = (omega (arith, h.0), tt)
round_below d (x ∷ y ∷ xs) h = (omega (arith, h.0, h.1.0), round_below d xs h.1.1)

-- where no entry is deeper than the first one, each round makes the first one deeper by one
pub rounds_depth : (n d : ℕ) (xs : List Size) → 1 ≤ length xs → AllBelow d xs → first_depth xs ≡ d → first_depth (rounds_with over n xs) ≡ d + height n (length xs)
rounds_depth zero d xs some h e = omega (arith, e)
rounds_depth (suc n) d [] some h e = absurd (omega arith)
rounds_depth (suc n) d (x ∷ []) some h e = omega (arith, rounds_depth n d (x ∷ []) some h e, height-one n 1 (omega arith), height-one (suc n) 1 (omega arith))
rounds_depth (suc n) d (x ∷ y ∷ xs) some h e =
    let zs = pair_with over (x ∷ y ∷ xs) in
    let m = length (x ∷ y ∷ xs) in
    let long : length zs ≡ m - m / 2 = omega (arith, length-pair_with over (x ∷ y ∷ xs)) in
    let first : first_depth zs ≡ 1 + d = omega (arith, e, h.0, h.1.0) in
    let rest = rounds_depth n (1 + d) zs (omega (arith, long)) (round_below d (x ∷ y ∷ xs) h) first in
    let same : height n (length zs) ≡ height n (m - m / 2) = ap (height n) long in
    omega (arith, rest, same, height-more n m (omega arith))

abbrev pub all_weights : List Size → ℕ
all_weights [] = 0
all_weights (x ∷ xs) = x.weight + all_weights xs

-- weights and entries together stay as many
round_weight : (xs : List Size) → all_weights (pair_with over xs) + length (pair_with over xs) ≡ all_weights xs + length xs
round_weight [] = refl
round_weight (x ∷ []) = refl
round_weight (x ∷ y ∷ xs) = omega (arith, round_weight xs)

pub rounds_weight : (n : ℕ) (xs : List Size) → all_weights (rounds_with over n xs) + length (rounds_with over n xs) ≡ all_weights xs + length xs
rounds_weight zero xs = refl
rounds_weight (suc n) xs = rounds_weight n (pair_with over xs) ∙ round_weight xs

round_price : (xs : List Size) → round_cost over price xs ≤ all_weights (pair_with over xs) + 2 * (length xs / 2)
round_price [] = omega arith
round_price (x ∷ []) = omega arith
round_price (x ∷ y ∷ xs) = omega (arith, round_price xs)

no_price : (n : ℕ) (x : Size) → rounds_cost over price n (x ∷ []) ≡ 0
no_price zero x = refl
no_price (suc n) x = omega (arith, no_price n x)

spread : (h k : ℕ) → (1 + h) * k ≡ k + h * k
spread h k = omega arith

-- all joins cost no more than the weights at the beginning for each round that joins, and two for each pair
pub rounds_price : (n k : ℕ) (xs : List Size) → 1 ≤ length xs → all_weights xs + length xs ≡ k → rounds_cost over price n xs ≤ height n (length xs) * k + 2 * (length xs - 1)
rounds_price zero k xs some e = omega arith
rounds_price (suc n) k [] some e = absurd (omega arith)
rounds_price (suc n) k (x ∷ []) some e = omega (arith, no_price (suc n) x)
rounds_price (suc n) k (x ∷ y ∷ xs) some e =
    let all = x ∷ y ∷ xs in
    let zs = pair_with over all in
    let m = length all in
    let pairs = length-pair_with over all in
    let long : length zs ≡ m - m / 2 = omega (arith, pairs) in
    let rest = rounds_price n k zs (omega (arith, long)) (round_weight all ∙ e) in
    let same : height n (length zs) * k ≡ height n (m - m / 2) * k = ap (λ w. height n w * k) long in
    let more : height (suc n) m * k ≡ k + height n (m - m / 2) * k = ap (λ w. w * k) (height-more n m (omega arith)) ∙ spread (height n (m - m / 2)) k in
    let one = round_price all in
    let weights = round_weight all in
    last (rounds_cost over price n zs) (round_cost over price all) (all_weights zs) (height n (m - m / 2) * k) (height (suc n) m * k) k m (length zs) (omega (arith, rest, same)) one (omega (arith, weights, e)) more (omega (arith, pairs)) (omega (arith, long))
  where
    last : (c r w g h k m z : ℕ) → c ≤ g + 2 * (z - 1) → r ≤ w + 2 * (m / 2) → w + z ≡ k → h ≡ k + g → z + m / 2 ≡ m → 1 ≤ z → r + c ≤ h + 2 * (m - 1)
    last c r w g h k m z a b d e f p = omega arith

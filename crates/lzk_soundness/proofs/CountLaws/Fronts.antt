-- Lists of draws of which a front, a back or a part is seldom such that a test passes.
use Rattle.std.specs.Prelude.{◌≡◌, ℕ, ◌≤◌, ◌<◌, ◌+◌, ◌*◌, ◌^◌, ◌||◌, Bool, true, false, cond, List, [], ◌∷◌, ◌++◌, length}
use Rattle.std.specs.List.{AllByRecursion}
use Rattle.std.proofs.Common.{refl, sym, ap, ◌∙◌, arith, add-mul, mul_assoc, mul_comm, mul-le-mul_right, zero-mul, pow-add}
use Rattle.std.proofs.lemmas.Bool.{false≢true}
use Rattle.lzk_soundness.specs.Chance.Draws.{count, draws_from}
use Rattle.lzk_soundness.proofs.ChanceLaws.Lists.{all_long}
use Rattle.lzk_soundness.proofs.ChanceLaws.Sets.{count-none}
use Rattle.lzk_soundness.proofs.ChanceLaws.Splitting.{two_parts}

-- an entry that passes, with a property that all have
pub found : {X : Type 0} (K : X → Type 0) (test : X → Bool) (xs : List X) → AllByRecursion K xs → 0 < count test xs → (x : X) × (K x × (test x ≡ true))
found K test [] all h = absurd (omega (arith, h))
found {X} K test (x ∷ xs) all h = go (test x) refl h (found K test xs all.1)
  where
    go : (b : Bool) → test x ≡ b → 0 < cond b 1 0 + count test xs → (0 < count test xs → (x : X) × (K x × (test x ≡ true))) → (x : X) × (K x × (test x ≡ true))
    go true is more rest = (x, (all.0, is))
    go false is more rest = rest (omega (arith, more))

-- some entry passes
abbrev pub some_pass : {X : Type 0} → (X → Bool) → List X → Bool
some_pass test [] = false
some_pass test (x ∷ xs) = test x || some_pass test xs

pub passing : {X : Type 0} (K : X → Type 0) (test : X → Bool) (xs : List X) → AllByRecursion K xs → some_pass test xs ≡ true → (x : X) × (K x × (test x ≡ true))
passing K test [] all is = absurd (false≢true is)
passing {X} K test (x ∷ xs) all is = go (test x) refl is (passing K test xs all.1)
  where
    go : (b : Bool) → test x ≡ b → (b || some_pass test xs) ≡ true → (some_pass test xs ≡ true → (x : X) × (K x × (test x ≡ true))) → (x : X) × (K x × (test x ≡ true))
    go true here is rest = (x, (all.0, here))
    go false not is rest = rest is

none_pass : {X : Type 0} (test : X → Bool) (xs : List X) → some_pass test xs ≡ false → count test xs ≡ 0
none_pass test [] is = refl
none_pass test (x ∷ xs) is = go (test x) is (none_pass test xs)
  where
    go : (b : Bool) → (b || some_pass test xs) ≡ false → (some_pass test xs ≡ false → count test xs ≡ 0) → cond b 1 0 + count test xs ≡ 0
    go true is rest = absurd (false≢true (sym is))
    go false is rest = omega (arith, rest is)

module _ {X : Type 0} (ds : List X) (P : List X → Bool) (a b K : ℕ) where
  abbrev N : ℕ
  N = length ds

  -- behind each front few pass
  pub backs_few : ((u : List X) → length u ≡ a → count (λ v. P (u ++ v)) (draws_from ds b) * N ≤ K * N ^ b) → count P (draws_from ds (a + b)) * N ≤ K * N ^ (a + b)
  backs_few few =
      let T = K * N ^ b in
      let Q : List X → Bool = λ r. false in
      let split = two_parts ds P Q b T a (λ r long is. few r long) in
      let nothing : count Q (draws_from ds a) ≡ 0 = count-none Q (draws_from ds a) (λ x is. false≢true is) in
      let none : count Q (draws_from ds a) * (N ^ b * N) ≡ 0 = ap (λ (j : ℕ). j * (N ^ b * N)) nothing ∙ zero-mul (N ^ b * N) in
      let turned : N ^ a * T ≡ K * (N ^ a * N ^ b) = sym (mul_assoc (N ^ a) K (N ^ b)) ∙ ap (λ (j : ℕ). j * N ^ b) (mul_comm (N ^ a) K) ∙ mul_assoc K (N ^ a) (N ^ b) in
      let whole : K * N ^ (a + b) ≡ K * (N ^ a * N ^ b) = ap (λ (j : ℕ). K * j) (pow-add N a b) in
      omega (arith, split, none, turned, whole)

  -- few fronts have something behind them that passes
  abbrev pub front : List X → Bool
  front u = some_pass (λ v. P (u ++ v)) (draws_from ds b)

  pub behind : (u : List X) → front u ≡ true → (v : List X) × ((length v ≡ b) × (P (u ++ v) ≡ true))
  behind u is = passing (λ v. length v ≡ b) (λ v. P (u ++ v)) (draws_from ds b) (all_long ds b) is

  pub fronts_few : count front (draws_from ds a) * N ≤ K * N ^ a → count P (draws_from ds (a + b)) * N ≤ K * N ^ (a + b)
  fronts_few few =
      let split = two_parts ds P front b 0 a (λ r long is. omega (arith, ap (λ (j : ℕ). j * N) (none_pass (λ v. P (r ++ v)) (draws_from ds b) is))) in
      let Q = count front (draws_from ds a) in
      let turned : Q * (N ^ b * N) ≡ Q * N * N ^ b = ap (λ (j : ℕ). Q * j) (mul_comm (N ^ b) N) ∙ sym (mul_assoc Q N (N ^ b)) in
      let more : Q * N * N ^ b ≤ K * N ^ a * N ^ b = mul-le-mul_right (N ^ b) few in
      let whole : K * N ^ (a + b) ≡ K * N ^ a * N ^ b = ap (λ (j : ℕ). K * j) (pow-add N a b) ∙ sym (mul_assoc K (N ^ a) (N ^ b)) in
      let nil : N ^ a * 0 ≡ 0 = mul_comm (N ^ a) 0 ∙ zero-mul (N ^ a) in
      omega (arith, split, turned, more, whole, nil)

-- what passes a test, passes one of two others
pub either_counts : {X : Type 0} (P Q R : X → Bool) (xs : List X) → ((x : X) → P x ≡ true → Q x ≡ false → R x ≡ true) → count P xs ≤ count Q xs + count R xs
either_counts P Q R [] h = omega arith
either_counts P Q R (x ∷ xs) h = omega (arith, one (P x) refl (Q x) refl (R x) refl, either_counts P Q R xs h)
  where
    one : (a : Bool) → P x ≡ a → (b : Bool) → Q x ≡ b → (c : Bool) → R x ≡ c → cond a 1 0 ≤ cond b 1 0 + cond c 1 0
    one false p b q c r = omega arith
    one true p true q c r = omega arith
    one true p false q true r = omega arith
    one true p false q false r = absurd (false≢true (sym r ∙ h x p q))

-- a test, and its contrary, count all
pub contrary : {X : Type 0} (P Q : X → Bool) (xs : List X) → ((x : X) → P x ≡ false → Q x ≡ true) → length xs ≤ count P xs + count Q xs
contrary P Q [] h = omega arith
contrary P Q (x ∷ xs) h = omega (arith, one (P x) refl (Q x) refl, contrary P Q xs h)
  where
    one : (a : Bool) → P x ≡ a → (b : Bool) → Q x ≡ b → 1 ≤ cond a 1 0 + cond b 1 0
    one true p b q = omega arith
    one false p true q = omega arith
    one false p false q = absurd (false≢true (sym q ∙ h x p))

-- few pass some one of many tests, where few pass each
pub union_few : {X Y : Type 0} (test : Y → X → Bool) (is : Y → Bool) (size S : ℕ) (xs : List X) (ys : List Y)
    → ((y : Y) → count (test y) xs * size ≤ cond (is y) 1 0 * S) → count (λ x. some_pass (λ y. test y x) ys) xs * size ≤ count is ys * S
union_few test is size S xs [] few = omega (arith, ap (λ (j : ℕ). j * size) (count-none (λ x. false) xs (λ x e. false≢true e)))
union_few {X} test is size S xs (y ∷ ys) few =
    let all : count (λ x. some_pass (λ y. test y x) (y ∷ ys)) xs ≤ count (test y) xs + count (λ x. some_pass (λ y. test y x) ys) xs =
    either_counts (λ x. some_pass (λ y. test y x) (y ∷ ys)) (test y) (λ x. some_pass (λ y. test y x) ys) xs (λ x p q. go x (test y x) p q) in
    let rest = union_few test is size S xs ys few in
    let here = few y in
    let whole = mul-le-mul_right size all in
    omega (arith, whole, add-mul (count (test y) xs) (count (λ x. some_pass (λ y. test y x) ys) xs) size, rest, here, add-mul (cond (is y) 1 0) (count is ys) S)
  where
    go : (x : X) (b : Bool) → (b || some_pass (λ y. test y x) ys) ≡ true → b ≡ false → some_pass (λ y. test y x) ys ≡ true
    go x true p q = absurd (false≢true (sym q))
    go x false p q = p

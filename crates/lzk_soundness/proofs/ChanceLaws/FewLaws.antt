-- Sets with few members: roots, and where lines meet.
use Rattle.std.specs.Prelude.{◌≡◌, ◌≢◌, ℕ, ◌<◌, ◌≤◌, ◌-◌, ◌+◌, Bool, true, false, cond, List, [], ◌∷◌, length, filter}
use Rattle.std.specs.List.{AllByRecursion}
use Rattle.std.proofs.Common.{zero, suc, refl, sym, ap, ◌∙◌, arith}
use native.Mathlib.Decide.{dec_lt}
use Rattle.lzk_field.specs.Ring.{Ops, RingLaws, FieldLaws}
use Rattle.lzk_field.specs.Sums.{entry, minus}
use Rattle.lzk_field.proofs.RingBasics.{plus_cancel, same_from_difference, no_divisors, times_zero}
use Rattle.lzk_field.proofs.Solve.{var, ◌⊞◌, ◌⊟◌, ◌⊠◌, solve}
use Rattle.lzk_poly.specs.Polynomial.{eval}
use Rattle.lzk_poly.proofs.Roots.{Zeros, roots}
use Rattle.lzk_poly.proofs.Polynomials.{same_everywhere}
use Rattle.lzk_soundness.specs.Chance.Few.{AreDistinct, HasAtMost}
use Rattle.lzk_soundness.specs.Chance.Draws.{count}
use Rattle.lzk_soundness.specs.Chance.Laws.{RootsAreFew, AgreesRarely, SlopesAreFew, ShiftsAreFew}

-- ---- lists by recursion and by places

all_entry : {A : Type 0} (o : Ops A) (P : A → Type 0) (xs : List A) → AllByRecursion P xs → (i : ℕ) → i < length xs → P (entry o xs i)
all_entry o P [] all i h = absurd (omega arith)
all_entry o P (x ∷ xs) all zero h = all.0
all_entry o P (x ∷ xs) all (suc i) h = all_entry o P xs all.1 i (omega arith)

pub apart_entry : {A : Type 0} (o : Ops A) (xs : List A) → AreDistinct xs → (i j : ℕ) → i < j → j < length xs → entry o xs i ≢ entry o xs j
apart_entry o [] d i j l h = absurd (omega arith)
apart_entry o (x ∷ xs) d i zero l h = absurd (omega arith)
apart_entry o (x ∷ xs) d zero (suc j) l h = all_entry o (λ y. x ≢ y) xs d.0 j (omega arith)
apart_entry o (x ∷ xs) d (suc i) (suc j) l h = apart_entry o xs d.1 i j (omega arith) (omega arith)

-- ---- a filtered list

-- the first entry of a filtered list
all_chosen : {X : Type 0} (P : X → Type 0) (b : Bool) (x : X) (ys : List X) → (b ≡ true → P x) → AllByRecursion P ys → AllByRecursion P (cond b (x ∷ ys) ys)
all_chosen P true x ys p all = (p refl, all)
all_chosen P false x ys p all = all

all_filtered : {X : Type 0} (P : X → Type 0) (test : X → Bool) (xs : List X) → AllByRecursion P xs → AllByRecursion P (filter test xs)
all_filtered P test [] all = tt
all_filtered P test (x ∷ xs) all = all_chosen P (test x) x (filter test xs) (λ _. all.0) (all_filtered P test xs all.1)

distinct_chosen : {X : Type 0} (b : Bool) (x : X) (ys : List X) → AllByRecursion (λ y. x ≢ y) ys → AreDistinct ys → AreDistinct (cond b (x ∷ ys) ys)
distinct_chosen true x ys p d = (p, d)
distinct_chosen false x ys p d = d

distinct_filtered : {X : Type 0} (test : X → Bool) (xs : List X) → AreDistinct xs → AreDistinct (filter test xs)
distinct_filtered test [] d = tt
distinct_filtered test (x ∷ xs) d = distinct_chosen (test x) x (filter test xs) (all_filtered (λ y. x ≢ y) test xs d.0) (distinct_filtered test xs d.1)

filtered_pass : {X : Type 0} (P : X → Type 0) (test : X → Bool) (xs : List X) → ((x : X) → test x ≡ true → P x) → AllByRecursion P (filter test xs)
filtered_pass P test [] only = tt
filtered_pass P test (x ∷ xs) only = all_chosen P (test x) x (filter test xs) (only x) (filtered_pass P test xs only)

length_chosen : {X : Type 0} (b : Bool) (x : X) (ys : List X) → length (cond b (x ∷ ys) ys) ≡ cond b 1 0 + length ys
length_chosen true x ys = omega arith
length_chosen false x ys = omega arith

length_filtered : {X : Type 0} (test : X → Bool) (xs : List X) → length (filter test xs) ≡ count test xs
length_filtered test [] = refl
length_filtered test (x ∷ xs) = length_chosen (test x) x (filter test xs) ∙ ap (λ (n : ℕ). cond (test x) 1 0 + n) (length_filtered test xs)

-- what passes a test only with a property of few members, is counted few times in a list without repetition
pub counts_few : {X : Type 0} (d : ℕ) (P : X → Type 0) (test : X → Bool) (ds : List X) → HasAtMost d P → ((x : X) → test x ≡ true → P x) → AreDistinct ds → count test ds ≤ d
counts_few d P test ds few only distinct =
    let short : length (filter test ds) ≤ d = few (filter test ds) (distinct_filtered test ds distinct) (filtered_pass P test ds only) in
    omega (arith, short, length_filtered test ds)

-- ---- one member, and none

pub at_most_one : {X : Type 0} (P : X → Type 0) → ((x y : X) → P x → P y → x ≡ y) → HasAtMost 1 P
at_most_one P one [] d all = omega arith
at_most_one P one (x ∷ []) d all = omega arith
at_most_one P one (x ∷ y ∷ xs) d all = absurd (d.0.0 (one x y all.0 all.1.0))

-- two different members are too many
pub no_two : {X : Type 0} (P : X → Type 0) → ((x y : X) → x ≢ y → P x → P y → ⊥) → HasAtMost 1 P
no_two P never [] d all = omega arith
no_two P never (x ∷ []) d all = omega arith
no_two P never (x ∷ y ∷ xs) d all = absurd (never x y d.0.0 all.0 all.1.0)

-- where a member shows what makes the members few
pub few_by : {X : Type 0} (d : ℕ) (K : Type 0) (P : X → Type 0) → ((x : X) → P x → K) → (K → HasAtMost d P) → HasAtMost d P
few_by d K P shows few [] distinct all = omega arith
few_by d K P shows few (x ∷ xs) distinct all = few (shows x all.0) (x ∷ xs) distinct all

weaker : {X : Type 0} (P Q : X → Type 0) → ((x : X) → Q x → P x) → (xs : List X) → AllByRecursion Q xs → AllByRecursion P xs
weaker P Q stronger [] all = tt
weaker P Q stronger (x ∷ xs) all = (stronger x all.0, weaker P Q stronger xs all.1)

-- fewer members, where a property is stronger
pub fewer : {X : Type 0} (d e : ℕ) (P Q : X → Type 0) → d ≤ e → ((x : X) → Q x → P x) → HasAtMost d P → HasAtMost e Q
fewer d e P Q le stronger few xs distinct all =
    let h : length xs ≤ d = few xs distinct (weaker P Q stronger xs all) in
    omega (arith, h, le)

-- no members
pub none_at_all : {X : Type 0} (d : ℕ) (P : X → Type 0) → ((x : X) → P x → ⊥) → HasAtMost d P
none_at_all d P never [] distinct all = omega arith
none_at_all d P never (x ∷ xs) distinct all = absurd (never x all.0)

-- ---- roots

zeros_entry : {A : Type 0} (o : Ops A) (cs : List A) (k : ℕ) → Zeros o cs → entry o cs k ≡ o.zero
zeros_entry o [] k z = refl
zeros_entry o (c ∷ cs) zero z = z.0
zeros_entry o (c ∷ cs) (suc k) z = zeros_entry o cs k z.1

module _ {A : Type 0} (o : Ops A) (r : RingLaws o) (f : FieldLaws o) where
  pub roots_few : RootsAreFew o
  roots_few n cs k short some xs distinct all =
      elim (dec_lt (n - 1) (length xs)) [
        | yes more ↦ absurd (some (zeros_entry o cs k (roots o r f (length cs) cs (entry o xs) refl
            (λ i j p q. apart_entry o xs distinct i j p (omega (arith, more, short, q)))
            (λ i h. all_entry o (λ t. eval o cs t ≡ o.zero) xs all i (omega (arith, more, short, h))))))
        | no few ↦ omega (arith, few)
      ]

  pub agree_few : AgreesRarely o
  agree_few n cs ds short brief differ xs distinct all =
      elim (dec_lt (n - 1) (length xs)) [
        | yes more ↦ absurd (differ (same_everywhere o r f n cs ds (entry o xs) short brief
            (λ i j p q. apart_entry o xs distinct i j p (omega (arith, more, q)))
            (λ i h. all_entry o (λ t. eval o cs t ≡ eval o ds t) xs all i (omega (arith, more, h)))))
        | no few ↦ omega (arith, few)
      ]

  -- two elements with the same multiple of something that is not 0
  same_multiple : (b x y : A) → b ≢ o.zero → o.times x b ≡ o.times y b → x ≡ y
  same_multiple b x y some e =
      same_from_difference o r x y
      (no_divisors o r f b (minus o x y) some
      (solve o r (b ∷ x ∷ y ∷ []) (var 0 ⊠ (var 1 ⊟ var 2)) (var 1 ⊠ var 0 ⊟ var 2 ⊠ var 0) refl
      ∙ ap (λ w. minus o w (o.times y b)) e ∙ r.plus_neg (o.times y b)))

  pub slopes_few : SlopesAreFew o
  slopes_few a b c some = at_most_one (λ x. o.plus a (o.times x b) ≡ c) (λ x y p q. same_multiple b x y some (plus_cancel o r a (o.times x b) (o.times y b) (p ∙ sym q)))

  pub shifts_few : ShiftsAreFew o
  shifts_few a b c d differ = at_most_one (λ x. o.plus a (o.times x b) ≡ o.plus c (o.times x d)) one
    where
      -- (a - c) + x * (b - d) is zero
      left : (x : A) → o.plus a (o.times x b) ≡ o.plus c (o.times x d) → o.plus (minus o a c) (o.times x (minus o b d)) ≡ o.zero
      left x p =
          solve o r (a ∷ b ∷ c ∷ d ∷ x ∷ []) ((var 0 ⊟ var 2) ⊞ var 4 ⊠ (var 1 ⊟ var 3)) ((var 0 ⊞ var 4 ⊠ var 1) ⊟ (var 2 ⊞ var 4 ⊠ var 3)) refl
          ∙ ap (λ w. minus o w (o.plus c (o.times x d))) p ∙ r.plus_neg (o.plus c (o.times x d))

      one : (x y : A) → o.plus a (o.times x b) ≡ o.plus c (o.times x d) → o.plus a (o.times y b) ≡ o.plus c (o.times y d) → x ≡ y
      one x y p q =
          let u = minus o a c in
          let v = minus o b d in
          let same : o.times x v ≡ o.times y v = plus_cancel o r u (o.times x v) (o.times y v) (left x p ∙ sym (left y q)) in
          same_from_difference o r x y
          (no_divisors o r f v (minus o x y)
          (λ z. differ (same_from_difference o r a c (sym (r.plus_zero u) ∙ ap (o.plus u) (sym (times_zero o r x) ∙ ap (o.times x) (sym z)) ∙ left x p)) (same_from_difference o r b d z))
          (solve o r (v ∷ x ∷ y ∷ []) (var 0 ⊠ (var 1 ⊟ var 2)) (var 1 ⊠ var 0 ⊟ var 2 ⊠ var 0) refl
          ∙ ap (λ w. minus o w (o.times y v)) same ∙ r.plus_neg (o.times y v)))

-- Few lists of weights make a combination close of words that are not.
use Rattle.std.specs.Prelude.{◌≡◌, ◌≢◌, ℕ, ◌<◌, ◌≤◌, ◌+◌, ◌*◌, ◌^◌, Bool, true, false, cond, List, [], ◌∷◌, length, map, flat_map}
use Rattle.std.specs.List.{AllByRecursion}
use Rattle.std.proofs.Common.{zero, suc, refl, sym, ap, ◌∙◌, arith, add-mul, mul_assoc, mul_comm, pow-suc, mul-le-mul_right, suc-mul}
use native.Mathlib.Decide.{dec_lt}
use Rattle.lzk_field.specs.Ring.{Ops, RingLaws, FieldLaws}
use Rattle.lzk_field.specs.Sums.{sum_below, entry}
use Rattle.lzk_field.proofs.SumLaws.{sum-first}
use Rattle.lzk_soundness.specs.Chance.Draws.{count, draws_from}
use Rattle.lzk_soundness.specs.Chance.Few.{AreDistinct, HasAtMost}
use Rattle.lzk_soundness.proofs.ChanceLaws.Counting.{count-append, count-map, count-most, length-draws}
use Rattle.lzk_soundness.specs.Near.Near.{AreApart, AreClose}
use Rattle.lzk_soundness.specs.Near.Mixes.{headed, mixed}
use Rattle.lzk_soundness.specs.Near.Laws.{MixesAreRare}
use Rattle.lzk_soundness.proofs.NearLaws.Mixes.{close_same, step_few, stepped}

-- Lists with a first entry: where the property of the first entry has few members, and without it few lists pass.
module _ {A : Type 0} (P : A → Type 0) (wins : List A → Bool) (ts : List (List A)) (N T S : ℕ) (long : length ts ≡ T)
    (rest : (x : A) → (P x → ⊥) → count (λ t. wins (x ∷ t)) ts * N ≤ S) where
  abbrev fronted : List A → List (List A)
  fronted es = flat_map (λ x. map (λ t. x ∷ t) ts) es

  abbrev Found : List A → Type 0
  Found es = (ys : List A) → AreDistinct ys → AllByRecursion P ys → ((x : A) → AllByRecursion (λ y. x ≢ y) es → AllByRecursion (λ y. x ≢ y) ys)
      → count wins (fronted es) * N ≤ length ys * (T * N) + length es * S → ⊥

  both_counts : (x : A) (es : List A) → count wins (fronted (x ∷ es)) ≡ count (λ t. wins (x ∷ t)) ts + count wins (fronted es)
  both_counts x es = count-append wins (map (λ t. x ∷ t) ts) (fronted es) ∙ ap (λ (n : ℕ). n + count wins (fronted es)) (count-map (λ t. x ∷ t) wins ts)

  find : (es : List A) → AreDistinct es → Found es → ⊥
  find [] distinct found = found [] tt tt (λ x all. tt) (omega arith)
  find (x ∷ es) distinct found =
      find es distinct.1
      (λ ys apart all keep bound.
      let a = count (λ t. wins (x ∷ t)) ts in
      let b = count wins (fronted es) in
      let sum : (a + b) * N ≡ a * N + b * N = add-mul a b N in
      let none : P x → ⊥ =
      λ p. found (x ∷ ys) (keep x distinct.0, apart) (p, all) (λ y differ. (differ.0, keep y differ.1))
      (let most : a * N ≤ T * N = mul-le-mul_right N (omega (arith, count-most (λ t. wins (x ∷ t)) ts, long)) in
      omega (arith, ap (λ (c : ℕ). c * N) (both_counts x es), sum, most, bound, suc-mul (length ys) (T * N), suc-mul (length es) S)) in
      found ys apart all (λ y differ. keep y differ.1) (omega (arith, ap (λ (c : ℕ). c * N) (both_counts x es), sum, rest x none, bound, suc-mul (length es) S)))

  pub fronts_few : (d : ℕ) → HasAtMost d P → (es : List A) → AreDistinct es → count wins (fronted es) * N ≤ d * (T * N) + length es * S
  fronts_few d few es distinct =
      elim (dec_lt (d * (T * N) + length es * S) (count wins (fronted es) * N)) [
        | yes more ↦ absurd (find es distinct (λ ys apart all keep bound. (let most : length ys * (T * N) ≤ d * (T * N) = mul-le-mul_right (T * N) (few ys apart all) in omega (arith, most, bound, more))))
        | no less ↦ omega (arith, less)
      ]

module _ {A : Type 0} (o : Ops A) (r : RingLaws o) (f : FieldLaws o) (at : ℕ → A) (n end e : ℕ) (apart : AreApart at end) (small : 3 * e + n ≤ end) (ds : List A) (distinct : AreDistinct ds) where
  abbrev N : ℕ
  N = length ds

  abbrev Wins : ℕ → (ℕ → A) → (ℕ → ℕ → A) → (List A → Bool) → Type 0
  Wins m constant rows wins = (ws : List A) → length ws ≡ m → wins ws ≡ true → (AreClose o at n end e 1 (λ i. mixed o constant rows (entry o ws) m) → ⊥) → ⊥

  first_is : (m : ℕ) (constant : ℕ → A) (rows : ℕ → ℕ → A) (x : A) (ws : List A) (j : ℕ)
      → mixed o (λ j. o.plus (constant j) (o.times x (rows 0 j))) (λ i. rows (suc i)) (entry o ws) m j ≡ mixed o constant rows (entry o (x ∷ ws)) (suc m) j
  first_is m constant rows x ws j =
      let g : ℕ → A = λ i. o.times (entry o (x ∷ ws) i) (rows i j) in
      r.plus_assoc (constant j) (o.times x (rows 0 j)) (sum_below o m (λ i. g (suc i))) ∙ ap (o.plus (constant j)) (sym (sum-first o r m g))

  pub rare : (m : ℕ) (constant : ℕ → A) (rows : ℕ → ℕ → A) (wins : List A → Bool) → (AreClose o at n end e (m + 1) (headed constant rows) → ⊥) → Wins m constant rows wins
      → count wins (draws_from ds m) * N ≤ m * (e + 1) * N ^ m
  rare zero constant rows wins far only = go (wins []) refl
    where
      only_one : (i j : ℕ) → i < 0 + 1 → headed constant rows i j ≡ mixed o constant rows (entry o []) 0 j
      only_one zero j h = sym (r.plus_zero (constant j))
      only_one (suc i) j h = absurd (omega (arith, h))

      go : (b : Bool) → wins [] ≡ b → (cond b 1 0 + 0) * N ≤ 0 * (e + 1) * N ^ 0
      go true is = absurd (only [] refl is (λ c. far (close_same o at n end e 1 (0 + 1) (λ i. mixed o constant rows (entry o []) 0) (headed constant rows) (omega arith) only_one c)))
      go false is = omega arith
  rare (suc m) constant rows wins far only =
      let T = N ^ m in
      let S = m * (e + 1) * T in
      let P : A → Type 0 = λ x. AreClose o at n end e (m + 1) (stepped o r at n end e m constant rows x) in
      let few : HasAtMost (e + 1) P = step_few o r at n end e m constant rows f apart small (λ c. far (close_same o at n end e (m + 2) (suc m + 1) (headed constant rows) (headed constant rows) (omega arith) (λ i j h. refl) c)) in
      let rest : (x : A) → (P x → ⊥) → count (λ t. wins (x ∷ t)) (draws_from ds m) * N ≤ S =
      λ x none. rare m (λ j. o.plus (constant j) (o.times x (rows 0 j))) (λ i. rows (suc i)) (λ t. wins (x ∷ t)) none
      (λ ws is won never.
      only (x ∷ ws) (ap suc is) won
      (λ c. never
      (close_same o at n end e 1 1 (λ i. mixed o constant rows (entry o (x ∷ ws)) (suc m)) (λ i. mixed o (λ j. o.plus (constant j) (o.times x (rows 0 j))) (λ i. rows (suc i)) (entry o ws) m) (omega arith)
      (λ i j h. first_is m constant rows x ws j) c))) in
      let all = fronts_few P wins (draws_from ds m) N T S (length-draws ds m) rest (e + 1) few ds distinct in
      let power : N ^ suc m ≡ T * N = pow-suc N m ∙ omega (arith, mul_comm T N) in
      let right : suc m * (e + 1) * N ^ suc m ≡ (e + 1) * (T * N) + m * (e + 1) * (T * N) =
      ap (λ (k : ℕ). suc m * (e + 1) * k) power ∙ ap (λ (k : ℕ). k * (T * N)) (suc-mul m (e + 1)) ∙ add-mul (m * (e + 1)) (e + 1) (T * N) ∙ omega arith in
      let left : N * S ≡ m * (e + 1) * (T * N) = mul_comm N S ∙ mul_assoc (m * (e + 1)) T N in
      omega (arith, all, right, left)

pub mixes_rare : {A : Type 0} (o : Ops A) → RingLaws o → FieldLaws o → MixesAreRare o
mixes_rare o r f = λ at n end e m constant rows wins ds test distinct. rare o r f at n end e test.apart test.few ds distinct m constant rows wins test.far (λ ws is won never. never (test.only ws is won))

-- Few weights are bad at each place, and without a bad one the combination of words that are not close is not close.
use Rattle.std.specs.Prelude.{◌≡◌, ℕ, ◌<◌, ◌≤◌, ◌+◌, ◌-◌, ◌*◌, false, List, length}
use Rattle.std.proofs.Common.{zero, suc, refl, sym, ap, ◌∙◌, arith}
use Rattle.lzk_field.specs.Ring.{Ops, RingLaws, FieldLaws}
use Rattle.lzk_field.specs.Sums.{sum_below}
use Rattle.lzk_field.proofs.RingBasics.{times_zero}
use Rattle.lzk_poly.specs.Polynomial.{eval}
use Rattle.lzk_soundness.specs.Chance.Few.{HasAtMost}
use Rattle.lzk_soundness.proofs.ChanceLaws.FewLaws.{fewer, few_by}
use Rattle.lzk_soundness.specs.Near.Near.{AreApart, AreClose, AreBothClose, on_line}
use Rattle.lzk_soundness.specs.Near.Mixes.{headed, mixed, IsBadMix}
use Rattle.lzk_soundness.specs.Near.Laws.{MixesAreFew, FarUnlessBad}
use Rattle.lzk_soundness.proofs.NearLaws.Lines.{lines_few}

-- the same words are as close
pub close_same : {A : Type 0} (o : Ops A) (at : ℕ → A) (n end e m k : ℕ) (V W : ℕ → ℕ → A) → k ≤ m → ((i j : ℕ) → i < k → W i j ≡ V i j) → AreClose o at n end e m V → AreClose o at n end e k W
close_same o at n end e m k V W less same c = record {
  outside = c.outside;
  code = c.code;
  few = c.few;
  short = λ i h. c.short i (omega (arith, h, less));
  agree = λ i j h l is. same i j h ∙ c.agree i j (omega (arith, h, less)) l is;
}

module _ {A : Type 0} (o : Ops A) (r : RingLaws o) (at : ℕ → A) (n end e : ℕ) where
  -- one more word than m, and a line through two of them
  module _ (m : ℕ) (constant : ℕ → A) (rows : ℕ → ℕ → A) where
    abbrev pub next : ℕ → ℕ → A
    next i = rows (suc i)

    abbrev U : ℕ → ℕ → A
    U = headed constant next

    abbrev V : ℕ → ℕ → A
    V = headed (rows 0) (λ i j. o.zero)

    abbrev pub stepped : A → ℕ → ℕ → A
    stepped x = headed (λ j. o.plus (constant j) (o.times x (rows 0 j))) next

    line_is : (x : A) (i j : ℕ) → on_line o at n end e U V x i j ≡ stepped x i j
    line_is x zero j = refl
    line_is x (suc i) j = ap (o.plus (rows (suc i) j)) (times_zero o r x) ∙ r.plus_zero (rows (suc i) j)

    codes : AreBothClose o at n end e (m + 1) U V → ℕ → List A
    codes b zero = b.first_code 0
    codes b (suc zero) = b.second_code 0
    codes b (suc (suc i)) = b.first_code (suc i)

    together : AreBothClose o at n end e (m + 1) U V → AreClose o at n end e (m + 2) (headed constant rows)
    unfolding codes
    together b = record {
      outside = b.outside;
      code = codes b;
      few = b.few;
      short = short;
      agree = agree;
    }
      where
        short : (i : ℕ) → i < m + 2 → length (codes b i) ≤ n
        short zero h = b.first_short 0 (omega arith)
        short (suc zero) h = b.second_short 0 (omega arith)
        short (suc (suc i)) h = b.first_short (suc i) (omega (arith, h))

        agree : (i j : ℕ) → i < m + 2 → j < end → b.outside j ≡ false → headed constant rows i j ≡ eval o (codes b i) (at j)
        agree zero j h l is = b.first_agree 0 j (omega arith) l is
        agree (suc zero) j h l is = b.second_agree 0 j (omega arith) l is
        agree (suc (suc i)) j h l is = b.first_agree (suc i) j (omega (arith, h)) l is

    pub step_few : FieldLaws o → AreApart at end → 3 * e + n ≤ end → (AreClose o at n end e (m + 2) (headed constant rows) → ⊥) → HasAtMost (e + 1) (λ x. AreClose o at n end e (m + 1) (stepped x))
    step_few f apart small far =
        fewer (e + 1) (e + 1) (λ x. AreClose o at n end e (m + 1) (on_line o at n end e U V x)) (λ x. AreClose o at n end e (m + 1) (stepped x)) (omega arith)
        (λ x c. close_same o at n end e (m + 1) (m + 1) (stepped x) (on_line o at n end e U V x) (omega arith) (λ i j h. line_is x i j) c)
        (lines_few o r f at n end e (m + 1) U V apart small (λ b. far (together b)))

  module _ (m : ℕ) (constant : ℕ → A) (rows : ℕ → ℕ → A) (weight : ℕ → A) where
    abbrev M : ℕ → ℕ → A
    M = mixed o constant rows weight

    step_is : (k : ℕ) (x : A) (i j : ℕ) → stepped 0 (M k) (λ i. rows (k + i)) x i j ≡ headed (λ j. o.plus (M k j) (o.times x (rows k j))) (λ i. rows (k + 1 + i)) i j
    step_is k x zero j = let z : k + 0 ≡ k = omega arith in ap (λ (a : ℕ). o.plus (M k j) (o.times x (rows a j))) z
    step_is k x (suc i) j = let z : k + suc i ≡ k + 1 + i = omega arith in ap (λ (a : ℕ). rows a j) z

    pub mixes_few_at : FieldLaws o → (k : ℕ) → AreApart at end → 3 * e + n ≤ end → k < m → HasAtMost (e + 1) (IsBadMix o constant rows weight at n end e m k)
    mixes_few_at f k apart small h =
        let d = m - (k + 1) in
        let R : ℕ → ℕ → A = λ i. rows (k + i) in
        few_by (e + 1) (AreClose o at n end e (m - k + 1) (headed (M k) R) → ⊥) (IsBadMix o constant rows weight at n end e m k) (λ x b. b.far)
        (λ far.
        fewer (e + 1) (e + 1) (λ x. AreClose o at n end e (d + 1) (stepped d (M k) R x)) (IsBadMix o constant rows weight at n end e m k) (omega arith)
        (λ x b. close_same o at n end e (d + 1) (d + 1) (headed (λ j. o.plus (M k j) (o.times x (rows k j))) (λ i. rows (k + 1 + i))) (stepped d (M k) R x) (omega arith) (λ i j l. step_is k x i j) b.near)
        (step_few d (M k) R f apart small
        (λ c. far (close_same o at n end e (d + 2) (m - k + 1) (headed (M k) R) (headed (M k) R) (omega (arith, h)) (λ i j l. refl) c))))

    abbrev Far : ℕ → Type 0
    Far k = AreClose o at n end e (m - k + 1) (headed (M k) (λ i. rows (k + i))) → ⊥

    start_is : (i j : ℕ) → headed constant rows i j ≡ headed (M 0) (λ i. rows (0 + i)) i j
    start_is zero j = sym (r.plus_zero (constant j))
    start_is (suc i) j = let z : i ≡ 0 + i = omega arith in ap (λ (a : ℕ). rows a j) z

    more_is : (k : ℕ) (i j : ℕ) → headed (λ j. o.plus (M k j) (o.times (weight k) (rows k j))) (λ i. rows (k + 1 + i)) i j ≡ headed (M (suc k)) (λ i. rows (suc k + i)) i j
    more_is k zero j = r.plus_assoc (constant j) (sum_below o k (λ i. o.times (weight i) (rows i j))) (o.times (weight k) (rows k j))
    more_is k (suc i) j = let z : k + 1 + i ≡ suc k + i = omega arith in ap (λ (a : ℕ). rows a j) z

    module _ (far : AreClose o at n end e (m + 1) (headed constant rows) → ⊥) (good : (k : ℕ) → k < m → IsBadMix o constant rows weight at n end e m k (weight k) → ⊥) where
      all_far : (k : ℕ) → k ≤ m → Far k
      all_far zero h c = far (close_same o at n end e (m - 0 + 1) (m + 1) (headed (M 0) (λ i. rows (0 + i))) (headed constant rows) (omega arith) (λ i j l. start_is i j) c)
      all_far (suc k) h c =
          good k (omega (arith, h)) (record {
            far = all_far k (omega (arith, h));
            near = close_same o at n end e (m - suc k + 1) (m - (k + 1) + 1) (headed (M (suc k)) (λ i. rows (suc k + i))) (headed (λ j. o.plus (M k j) (o.times (weight k) (rows k j))) (λ i. rows (k + 1 + i)))
                (omega arith) (λ i j l. more_is k i j) c;
          })

      one_is : (i j : ℕ) → i < 1 → headed (M m) (λ i. rows (m + i)) i j ≡ M m j
      one_is zero j h = refl
      one_is (suc i) j h = absurd (omega (arith, h))

      pub whole_far : AreClose o at n end e 1 (λ i. M m) → ⊥
      whole_far c = all_far m (omega arith) (close_same o at n end e 1 (m - m + 1) (λ i. M m) (headed (M m) (λ i. rows (m + i))) (omega arith) (λ i j h. one_is i j (omega (arith, h))) c)

pub mixes_few : {A : Type 0} (o : Ops A) → RingLaws o → FieldLaws o → MixesAreFew o
mixes_few o r f = λ at n end e m constant rows weight k apart small h. mixes_few_at o r at n end e m constant rows weight f k apart small h

pub far_unless_bad : {A : Type 0} (o : Ops A) → RingLaws o → FarUnlessBad o
far_unless_bad o r = λ at n end e m constant rows weight far good c. whole_far o r at n end e m constant rows weight far good c

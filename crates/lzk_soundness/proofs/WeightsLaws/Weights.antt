-- Few lists of weights make a combination 0 that is not one of zeros.
use Rattle.std.specs.Prelude.{◌≡◌, ◌≢◌, ℕ, ◌*◌, ◌^◌, ◌<◌, ◌≤◌, ◌==◌, cond, Bool, true, false, List, [], length, take}
use Rattle.std.specs.List.{AllByRecursion}
use Rattle.std.proofs.Common.{zero, suc, refl, sym, ap, ◌∙◌, arith, mul-le-mul_right}
use Rattle.std.proofs.lemmas.Bool.{eq-eqb, ne_eqb, false≢true}
use Rattle.std.proofs.lemmas.List.{get_or-take, length-take-le}
use native.Mathlib.Decide.{ℕ_discrete, dec_lt}
use Rattle.lzk_field.specs.Ring.{Ops, Laws}
use Rattle.lzk_field.specs.Sums.{sum_below, entry}
use Rattle.lzk_field.proofs.RingBasics.{times_zero}
use Rattle.lzk_field.proofs.SumLaws.{sum-ext, sum-tail}
use Rattle.lzk_soundness.specs.Chance.Draws.{count, draws_from, has_bad, total_from}
use Rattle.lzk_soundness.specs.Chance.Few.{AreDistinct, HasAtMost}
use Rattle.lzk_soundness.proofs.ChanceLaws.Counting.{bad_draws_few}
use Rattle.lzk_soundness.proofs.ChanceLaws.Lists.{none_bad, all_long, count_more, all_of}
use Rattle.lzk_soundness.proofs.ChanceLaws.FewLaws.{counts_few, fewer, none_at_all, slopes_few}
use Rattle.lzk_soundness.proofs.DrawsLaws.Deciding.{is_yes, from_yes, from_no, dec_same}
use Rattle.lzk_soundness.specs.Rows.Weights.{combination}

-- ---- the one place that counts

one_at : ℕ → ℕ → ℕ
one_at i k = cond (k == i) 1 0

none_behind : (i k n : ℕ) → i < k → total_from (one_at i) k n ≡ 0
unfolding one_at
none_behind i k zero h = refl
none_behind i k (suc n) h = omega (arith, ap (λ (b : Bool). cond {A = ℕ} b 1 0) (ne_eqb k i (λ e. omega (arith, e, h))), none_behind i (suc k) n (omega (arith, h)))

one_in_all : (i k n : ℕ) → k ≤ i → total_from (one_at i) k n ≤ 1
unfolding one_at
one_in_all i k zero h = omega arith
one_in_all i k (suc n) h =
    elim (dec_lt k i) [
      | yes before ↦ omega (arith, ap (λ (b : Bool). cond {A = ℕ} b 1 0) (ne_eqb k i (λ e. omega (arith, e, before))), one_in_all i (suc k) n (omega (arith, before)))
      | no here ↦ omega (arith, ap (λ (b : Bool). cond {A = ℕ} b 1 0) (eq-eqb k i (omega (arith, h, here))), none_behind i (suc k) n (omega (arith, h, here)))
    ]

both : {P Q : Type 0} → Dec P → Dec Q → Dec (P × Q)
both (yes p) (yes q) = yes (p, q)
both (yes p) (no n) = no (λ b. n b.1)
both (no n) q = no (λ b. n b.0)

-- the last of n gaps that is not 0
record Last {A : Type 0} (o : Ops A) (gap : ℕ → A) (n : ℕ) : Type 0 where
  pub place : ℕ
  pub inside : place < n
  pub some : gap place ≢ o.zero
  pub rest : (k : ℕ) → place < k → k < n → gap k ≡ o.zero

module _ {A : Type 0} {o : Ops A} {size : ℕ} {number_of : A → ℕ} {element : ℕ → A} {bytes : ℕ} (laws : Laws o size number_of element bytes) (constant : A) (gap : ℕ → A) where
  last_gap : (n i : ℕ) → i < n → gap i ≢ o.zero → Last o gap n
  last_gap zero i h some = absurd (omega (arith, h))
  last_gap (suc n) i h some = elim (dec_same laws.numbers (gap n) o.zero) [
    | no here ↦ record { place = n; inside = omega arith; some = here; rest = λ k l q. absurd (omega (arith, l, q)) }
    | yes none ↦
        let less : i < n = elim (dec_lt i n) [ yes l ↦ l | no l ↦ let same : i ≡ n = omega (arith, h, l) in absurd (some (ap gap same ∙ none)) ] in
        let before = last_gap n i less some in
        record {
          place = before.place;
          inside = omega (arith, before.inside);
          some = before.some;
          rest = λ k l q. elim (dec_lt k n) [ yes m ↦ before.rest k l m | no m ↦ let same : k ≡ n = omega (arith, q, m) in ap gap same ∙ none ];
        }
  ]

  module _ (n : ℕ) (last : Last o gap n) where
    abbrev i : ℕ
    i = last.place

    abbrev sum_at : List A → A → A
    sum_at p x = o.plus (combination o constant gap (entry o p) i) (o.times x (gap i))

    abbrev IsBad : List A → A → Type 0
    IsBad p x = (length p ≡ i) × (sum_at p x ≡ o.zero)

    decide : (p : List A) (x : A) → Dec (IsBad p x)
    decide p x = both (ℕ_discrete (length p) i) (dec_same laws.numbers (sum_at p x) o.zero)

    bad : List A → A → Bool
    bad p x = is_yes (decide p x)

    few_at : (p : List A) (b : Bool) → (length p == i) ≡ b → HasAtMost (cond b 1 0) (IsBad p)
    few_at p true is = fewer 1 1 (λ x. sum_at p x ≡ o.zero) (IsBad p) (omega arith) (λ x q. q.1) (slopes_few o laws.ring laws.field (combination o constant gap (entry o p) i) (gap i) o.zero last.some)
    few_at p false is = none_at_all 0 (IsBad p) (λ x q. false≢true (sym is ∙ eq-eqb (length p) i q.0))

    few_next : (ds : List A) → AreDistinct ds → (before : List A) → count (bad before) ds ≤ one_at i (length before)
    unfolding bad one_at
    few_next ds distinct before = counts_few (cond (length before == i) 1 0) (IsBad before) (bad before) ds (few_at before (length before == i) refl) (λ x is. from_yes (decide before x) is) distinct

    -- a combination that is 0 has a bad weight at that place
    caught : (ws : List A) → length ws ≡ n → combination o constant gap (entry o ws) n ≡ o.zero → has_bad bad [] ws ≡ false → ⊥
    unfolding bad
    caught ws long whole none =
        let r = laws.ring in
        let front = take i ws in
        let inside = last.inside in
        let w : ℕ → A = entry o ws in
        let f : ℕ → A = λ k. o.times (w k) (gap k) in
        let g : ℕ → A = λ k. o.times (entry o front k) (gap k) in
        let short : length front ≡ i = length-take-le i ws (omega (arith, long, inside)) in
        let same : sum_below o i g ≡ sum_below o i f = sum-ext o r i g f (λ k h. ap (λ x. o.times x (gap k)) (get_or-take i ws k o.zero h)) in
        let tail : sum_below o n f ≡ sum_below o (suc i) f = sum-tail o r (suc i) n f (omega (arith, inside)) (λ k l h. ap (o.times (w k)) (last.rest k l h) ∙ times_zero o r (w k)) in
        let zero_here : sum_at front (w i) ≡ o.zero =
        ap (λ x. o.plus (o.plus constant x) (f i)) same ∙ r.plus_assoc constant (sum_below o i f) (f i) ∙ ap (o.plus constant) (sym tail) ∙ whole in
        from_no (decide front (w i)) (none_bad o bad [] ws none i (omega (arith, long, inside))) (short, zero_here)

    few_lists : (wins : List A → Bool) → ((ws : List A) → length ws ≡ n → wins ws ≡ true → combination o constant gap (entry o ws) n ≡ o.zero) → (ds : List A) → AreDistinct ds
        → count wins (draws_from ds n) * length ds ≤ length ds ^ n
    few_lists wins only ds distinct =
        let N = length ds in
        let all = draws_from ds n in
        let each : AllByRecursion (λ ws. wins ws ≡ true → has_bad bad [] ws ≡ true) all =
        all_of (λ ws. length ws ≡ n) (λ ws. wins ws ≡ true → has_bad bad [] ws ≡ true) (λ ws long won. by_case ws long won (has_bad bad [] ws) refl) all (all_long ds n) in
        let few = (bad_draws_few A bad (one_at i) ds n (few_next ds distinct)).1 in
        let once : total_from (one_at i) 0 n * N ^ n ≤ 1 * N ^ n = mul-le-mul_right (N ^ n) (one_in_all i 0 n (omega arith)) in
        omega (arith, mul-le-mul_right N (count_more wins (has_bad bad []) all each), few, once)
      where
        by_case : (ws : List A) → length ws ≡ n → wins ws ≡ true → (b : Bool) → has_bad bad [] ws ≡ b → has_bad bad [] ws ≡ true
        by_case ws long won true is = is
        by_case ws long won false is = absurd (caught ws long (only ws long won) is)

  pub combinations_few : (n i : ℕ) (wins : List A → Bool) (ds : List A) → i < n → gap i ≢ o.zero
      → ((ws : List A) → length ws ≡ n → wins ws ≡ true → combination o constant gap (entry o ws) n ≡ o.zero) → AreDistinct ds
      → count wins (draws_from ds n) * length ds ≤ length ds ^ n
  combinations_few n i wins ds h some only distinct = few_lists n (last_gap n i h some) wins only ds distinct

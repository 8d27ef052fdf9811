-- Bad weights are few, and without them a combination that is 0 is one of zeros.
use Rattle.std.specs.Prelude.{◌≡◌, ◌≢◌, ℕ, ◌<◌, ◌≤◌, ◌+◌}
use Rattle.std.proofs.Common.{zero, suc, sym, ap, ◌∙◌, arith}
use native.Mathlib.Decide.{dec_lt}
use Rattle.lzk_field.specs.Coding.{Coding}
use Rattle.lzk_field.specs.Ring.{Ops, RingLaws, FieldLaws, Laws}
use Rattle.lzk_field.specs.Sums.{sum_below}
use Rattle.lzk_field.proofs.RingBasics.{times_zero}
use Rattle.lzk_soundness.proofs.ChanceLaws.FewLaws.{fewer, few_by, slopes_few}
use Rattle.lzk_soundness.proofs.SumchecksLaws.Bindings.{stable}
use Rattle.lzk_soundness.specs.Rows.Weights.{combination, IsBadWeight, AreGoodWeights}
use Rattle.lzk_soundness.specs.Rows.Laws.{WeightsAreFew, GapsUnlessBad}

pub weights_few : {A : Type 0} (o : Ops A) → RingLaws o → FieldLaws o → WeightsAreFew o
weights_few o r f = λ constant gap weight n i.
    few_by 1 (gap i ≢ o.zero) (IsBadWeight o constant gap weight n i) (λ x p. p.some)
    (λ some. fewer 1 1 (λ x. o.plus (combination o constant gap weight i) (o.times x (gap i)) ≡ o.zero) (IsBadWeight o constant gap weight n i) (omega arith) (λ x p. p.cancels)
    (slopes_few o r f (combination o constant gap weight i) (gap i) o.zero some))

module _ {A : Type 0} (o : Ops A) (e : Coding A) (laws : Laws o e.size e.number e.element e.bytes) (constant : A) (gap weight : ℕ → A) (n : ℕ) (good : AreGoodWeights o constant gap weight n) where
  -- the gaps from i on are 0, and so is the combination of those before
  pub record AreDone (i : ℕ) : Type 0 where
    pub rest : (j : ℕ) → i ≤ j → j < n → gap j ≡ o.zero
    pub front : combination o constant gap weight i ≡ o.zero

  down : (i : ℕ) → i < n → AreDone (suc i) → AreDone i
  down i h done =
      let r = laws.ring in
      let C = combination o constant gap weight i in
      let all : o.plus C (o.times (weight i) (gap i)) ≡ o.zero = r.plus_assoc constant (sum_below o i (λ k. o.times (weight k) (gap k))) (o.times (weight i) (gap i)) ∙ done.front in
      let none : gap i ≡ o.zero = stable laws.numbers (gap i) o.zero (λ some. good i h (record { some = some; last = λ j l k. done.rest j l k; cancels = all })) in
      record {
        rest = λ j l k. elim (dec_lt i j) [
          | yes more ↦ done.rest j more k
          | no here ↦ let same : j ≡ i = omega (arith, l, here) in ap gap same ∙ none
        ];
        front = sym (r.plus_zero C) ∙ ap (o.plus C) (sym (times_zero o r (weight i))) ∙ ap (λ y. o.plus C (o.times (weight i) y)) (sym none) ∙ all;
      }

  all_down : (d i : ℕ) → i + d ≡ n → combination o constant gap weight n ≡ o.zero → AreDone i
  all_down zero i is whole =
      let last : i ≡ n = omega (arith, is) in
      record { rest = λ j l k. absurd (omega (arith, l, k, last)); front = ap (combination o constant gap weight) last ∙ whole }
  all_down (suc d) i is whole = down i (omega (arith, is)) (all_down d (suc i) (omega (arith, is)) whole)

pub gaps_unless_bad : {A : Type 0} (o : Ops A) (e : Coding A) → Laws o e.size e.number e.element e.bytes → GapsUnlessBad o e
gaps_unless_bad o e laws = λ constant gap weight n whole good.
    let done = all_down o e laws constant gap weight n good n 0 (omega arith) whole in
    (λ i h. done.rest i (omega arith) h, sym (laws.ring.plus_zero constant) ∙ done.front)

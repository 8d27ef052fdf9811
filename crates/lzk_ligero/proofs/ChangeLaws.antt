-- A change of a quadratic answer, as its two parts have it.
use Rattle.std.specs.Prelude.{◌≡◌, ℕ, ◌+◌, ◌-◌, ◌<◌, ◌≤◌, List, take, drop, slice_set}
use Rattle.std.proofs.Common.{sym, ap, ◌∙◌, arith}
use Rattle.std.proofs.Math.Seq.{take-set-lt}
use Rattle.std.proofs.lemmas.List.{take-set-le, drop-set-lt, drop-set-add, get_or-take, get_or-drop}
use Rattle.lzk_field.specs.Ring.{Ops}
use Rattle.lzk_field.specs.Sums.{entry}
use Rattle.lzk_ligero_answers.specs.Answers.{changed}

module _ {A : Type 0} (o : Ops A) (n : ℕ) (by : A) (values part : List A) where
  abbrev sum : A
  sum = o.plus (entry o values n) by

  -- of one of the first m values
  pub front_changes : (m : ℕ) → n < m → part ≡ take m values → changed o part n by ≡ take m (changed o values n by)
  front_changes m h is =
      ap (λ xs. changed o xs n by) is ∙ ap (λ x. slice_set (take m values) n (o.plus x by)) (get_or-take m values n o.zero h) ∙ sym (take-set-lt m values n sum h)

  -- of a value behind them
  pub front_stays : (m : ℕ) → m ≤ n → part ≡ take m values → part ≡ take m (changed o values n by)
  front_stays m h is = is ∙ sym (take-set-le m values n sum h)

  -- of a value behind the first m
  pub back_changes : (m : ℕ) → m ≤ n → part ≡ drop m values → changed o part (n - m) by ≡ drop m (changed o values n by)
  back_changes m h is =
      let k = n - m in
      let here : m + k ≡ n = omega (arith, h) in
      ap (λ xs. changed o xs k by) is
      ∙ ap (λ x. slice_set (drop m values) k (o.plus x by)) (get_or-drop m values k o.zero)
      ∙ sym (drop-set-add m values k (o.plus (entry o values (m + k)) by))
      ∙ ap (λ (i : ℕ). drop m (changed o values i by)) here

  -- of one of them
  pub back_stays : (m : ℕ) → n < m → part ≡ drop m values → part ≡ drop m (changed o values n by)
  back_stays m h is = is ∙ sym (drop-set-lt m values n sum h)

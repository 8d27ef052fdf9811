-- Two lists of values agree at few columns.
use Rattle.std.specs.Prelude.{◌≡◌, ◌≢◌, ℕ, ◌<◌, ◌≤◌, ◌+◌, ◌-◌, List, [], ◌∷◌, length, map}
use Rattle.std.specs.List.{AllByRecursion}
use Rattle.std.proofs.Common.{sym, ap, ◌∙◌, arith}
use Rattle.std.proofs.lemmas.List.{ext_get_or, length-map}
use native.Mathlib.Decide.{dec_lt}
use Rattle.lzk_field.specs.Ring.{Ops, NumberLaws, Laws}
use Rattle.lzk_field.specs.Sums.{entry}
use Rattle.lzk_field.proofs.Numbering.{points_apart}
use Rattle.lzk_poly.specs.Polynomial.{eval}
use Rattle.lzk_poly.specs.Through.{through}
use Rattle.lzk_poly.proofs.Through.{is_through, eval-through, length-through}
use Rattle.lzk_soundness.specs.Chance.Few.{AreDistinct}
use Rattle.lzk_soundness.proofs.ChanceLaws.FewLaws.{agree_few}
use Rattle.lzk_soundness.proofs.SumchecksLaws.Bindings.{stable}
use Rattle.lzk_soundness.specs.Rows.Weights.{AgreesAt}
use Rattle.lzk_soundness.specs.Rows.Laws.{ColumnsAreFew}

-- lists that cannot differ are the same
pub stable_list : {A : Type 0} {o : Ops A} {size : ℕ} {number_of : A → ℕ} {element : ℕ → A} {bytes : ℕ} (laws : NumberLaws o size number_of element bytes) (xs ys : List A) → length xs ≡ length ys → (xs ≢ ys → ⊥) → xs ≡ ys
stable_list {o = o} laws xs ys long never = ext_get_or o.zero xs ys long (λ k h. stable laws (entry o xs k) (entry o ys k) (λ differ. never (λ same. differ (ap (λ zs. entry o zs k) same))))

module _ {A : Type 0} {o : Ops A} {size : ℕ} {number_of : A → ℕ} {element : ℕ → A} {bytes : ℕ} (laws : Laws o size number_of element bytes) where
  any_apart : (n : ℕ) → n ≤ 65536 → (i j : ℕ) → i < n → j < n → i ≢ j → element i ≢ element j
  any_apart n few i j p q differ same = elim (dec_lt i j) [
    | yes l ↦ points_apart laws n few i j l q same
    | no l ↦ points_apart laws n few j i (omega (arith, l, differ)) p (sym same)
  ]

  module _ (sent right : List A) (before end : ℕ) (few : before + end ≤ 65536) where
    abbrev Agrees : ℕ → Type 0
    Agrees j = (j < end) × AgreesAt o element before sent right j

    at : ℕ → A
    at j = element (before + j)

    others_apart : (j : ℕ) (js : List ℕ) → j < end → AllByRecursion (λ (i : ℕ). j ≢ i) js → AllByRecursion Agrees js → AllByRecursion (λ y. at j ≢ y) (map at js)
    unfolding at
    others_apart j [] h differ all = tt
    others_apart j (i ∷ js) h differ all =
        (any_apart (before + end) few (before + j) (before + i) (omega (arith, h)) (omega (arith, all.0.0)) (λ e. differ.0 (omega (arith, e))), others_apart j js h differ.1 all.1)

    all_apart : (js : List ℕ) → AreDistinct js → AllByRecursion Agrees js → AreDistinct (map at js)
    all_apart [] distinct all = tt
    all_apart (j ∷ js) distinct all = (others_apart j js all.0.0 distinct.0 all.1, all_apart js distinct.1 all.1)

    all_agree : (js : List ℕ) → AllByRecursion Agrees js → AllByRecursion (λ t. eval o (through o element sent) t ≡ eval o (through o element right) t) (map at js)
    unfolding at
    all_agree [] all = tt
    all_agree (j ∷ js) all =
        (eval-through o laws.ring element sent (element (before + j)) ∙ all.0.1 ∙ sym (eval-through o laws.ring element right (element (before + j))), all_agree js all.1)

  pub columns_few : ColumnsAreFew o element
  columns_few sent right n before end ns nr small few differ js distinct all =
      let ps = through o element sent in
      let qs = through o element right in
      let sent_is = is_through o laws.ring laws.field element sent (points_apart laws (length sent) (omega (arith, ns, small))) in
      let right_is = is_through o laws.ring laws.field element right (points_apart laws (length right) (omega (arith, nr, small))) in
      let same : ((s : A) → eval o ps s ≡ eval o qs s) → sent ≡ right =
      λ every. ext_get_or o.zero sent right (ns ∙ sym nr) (λ k h. sym (sent_is.meets k h) ∙ every (element k) ∙ right_is.meets k (omega (arith, h, ns, nr))) in
      let short : length (map (at sent right before end few) js) ≤ n - 1 =
      agree_few o laws.ring laws.field n ps qs (omega (arith, length-through o element sent, ns)) (omega (arith, length-through o element right, nr)) (λ every. differ (same every))
      (map (at sent right before end few) js) (all_apart sent right before end few js distinct all) (all_agree sent right before end few js all) in
      omega (arith, short, length-map js (at sent right before end few))

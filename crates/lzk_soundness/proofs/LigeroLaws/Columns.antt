-- What is not let through often is let through by few sets of columns.
use Rattle.lzk_shares.specs.Shares.{column_share}
use Rattle.lzk_profile.specs.Profile.{opened_count}
use Rattle.std.specs.Prelude.{◌≡◌, ℕ, ◌-◌, ◌*◌, ◌^◌, ◌<◌, ◌≤◌, Bool, true, List, length}
use Rattle.std.specs.List.{range_with_len}
use Rattle.std.proofs.Common.{ap, ◌∙◌, arith, mul-le-mul_right}
use Rattle.std.proofs.lemmas.List.FromFn.{length-range_with_len}
use native.Mathlib.Decide.{dec_lt}
use Rattle.lzk_field.specs.Coding.{Coding}
use Rattle.lzk_field.specs.Ring.{Ops}
use Rattle.lzk_soundness.specs.Chance.Draws.{count}
use Rattle.lzk_soundness.specs.Chance.Sets.{choose}
use Rattle.lzk_soundness.proofs.ChanceLaws.Sets.{sets_counted}
use Rattle.lzk_circuit.specs.Valid.{Wiring, IsValid}
use Rattle.lzk_layout.specs.Sizes.{params_of}
use Rattle.lzk_soundness.specs.Count.Game.{column_sets, Strategy, IsPassed}
use Rattle.lzk_soundness.proofs.CountLaws.Numbers.{columns_miss}
use Rattle.lzk_soundness.specs.Ligero.States.{IsPassedOften}

-- over variables, so that no number is computed
share_of : (a m all by : ℕ) → a ≤ m → m * by ≤ all → a * by ≤ all
share_of a m all by le few = let up : a * by ≤ m * by = mul-le-mul_right by le in omega (arith, up, few)

at_most : (a b : ℕ) → ((a < b) → ⊥) → b ≤ a
at_most a b h = omega (arith, h)

whole : (a m l all by : ℕ) → a ≤ m → l ≡ all → m * by ≤ all → a * by ≤ l
whole a m l all by le is few = let up = share_of a m all by le few in omega (arith, up, is)

-- for any share that the sets among three quarters of the columns, but for one, do not exceed
pub columns_by : {A : Type 0} (o : Ops A) (e : Coding A) (c : Wiring A) (public : List A) (strategy : Strategy A) (draws : List A) (test : List ℕ → Bool) (by : ℕ)
    → choose (3 * (params_of c).block - 1) opened_count * by ≤ choose (params_of c).mcol opened_count
    → (IsPassedOften o e c public strategy draws → ⊥)
    → ((columns : List ℕ) → length columns ≡ opened_count → test columns ≡ true → IsPassed o e c public strategy draws columns)
    → count test (column_sets c) * by ≤ length (column_sets c)
columns_by o e c public strategy draws test by miss not only =
    let m = choose (3 * (params_of c).block - 1) opened_count in
    let many : length (column_sets c) ≡ choose (params_of c).mcol opened_count =
    sets_counted opened_count (range_with_len 0 (params_of c).mcol) ∙ ap (λ (k : ℕ). choose k opened_count) (length-range_with_len 0 (params_of c).mcol) in
    let less : count test (column_sets c) ≤ m =
    elim (dec_lt m (count test (column_sets c))) [
      | yes more ↦ absurd (not (record { test = test; only = only; often = more }))
      | no few ↦ at_most m (count test (column_sets c)) few
    ] in
    whole (count test (column_sets c)) m (length (column_sets c)) (choose (params_of c).mcol opened_count) by less many miss

pub columns_few : {A : Type 0} (o : Ops A) (e : Coding A) (c : Wiring A) (public : List A) (strategy : Strategy A) (draws : List A) (test : List ℕ → Bool) → IsValid o c
    → (IsPassedOften o e c public strategy draws → ⊥)
    → ((columns : List ℕ) → length columns ≡ opened_count → test columns ≡ true → IsPassed o e c public strategy draws columns)
    → count test (column_sets c) * column_share ≤ length (column_sets c)
columns_few o e c public strategy draws test valid not only = columns_by o e c public strategy draws test column_share (columns_miss o c valid) not only

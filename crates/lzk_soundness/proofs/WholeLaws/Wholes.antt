-- Few draws and weights let a prover through, whose rows hold a list by which a target is not 0.
use Rattle.std.specs.Prelude.{◌≡◌, ◌≢◌, ◌⊎◌, ℕ, ◌+◌, ◌-◌, ◌*◌, ◌^◌, ◌<◌, ◌≤◌, cond, Bool, true, false, List, ◌++◌, length, take, drop}
use Rattle.std.proofs.Common.{zero, suc, inl, inr, sym, ap, ◌∙◌, arith, add-mul, mul_assoc, mul_comm, mul-le-mul_right, pow-add, take_at, drop_at}
use Rattle.std.proofs.lemmas.Bool.{lt-ltb, false≢true}
use Rattle.std.proofs.lemmas.List.FromFn.{length-map-range_with_len, get_or-map-range_with_len}
use native.Mathlib.Decide.{dec_lt}
use Rattle.lzk_field.specs.Coding.{Coding}
use Rattle.lzk_field.specs.Ring.{Ops, Laws}
use Rattle.lzk_field.specs.Sums.{sum_below, entry}
use Rattle.lzk_field.proofs.SumLaws.{sum-ext}
use Rattle.lzk_soundness.specs.Chance.Draws.{count, draws_from}
use Rattle.lzk_soundness.specs.Chance.Few.{AreDistinct}
use Rattle.lzk_circuit.specs.Valid.{Wiring}
use Rattle.lzk_layout.specs.Sizes.{committed_count}
use Rattle.lzk_layout.specs.Places.{depth}
use Rattle.lzk_sumcheck.specs.Coefficients.{coefficients}
use Rattle.lzk_accept.specs.Checks.{coefficient_of, right_of}
use Rattle.lzk_accept.specs.Residuals.{residual}
use Rattle.lzk_accept.proofs.ResidualLaws.{residual-form}
use Rattle.lzk_soundness.specs.Sumchecks.Bad.{AreZero}
use Rattle.lzk_soundness.specs.Sumchecks.Claims.{Vanish}
use Rattle.lzk_soundness.specs.Draws.Schedule.{draw_count, script_of}
use Rattle.lzk_soundness.specs.Draws.Game.{Target, table_of}
use Rattle.lzk_soundness.specs.Draws.Laws.{most, IsForger, IsOf}
use Rattle.lzk_soundness.proofs.DrawsLaws.Forgers.{forgers_few}
use Rattle.lzk_soundness.proofs.DrawsLaws.Looking.{Found, is_none, none_from, some_from, look}
use Rattle.lzk_soundness.specs.Rows.Held.{placed, held, second_sum, copy_gap}
use Rattle.lzk_soundness.proofs.WeightsLaws.Weights.{combinations_few}
use Rattle.lzk_soundness.specs.Whole.Whole.{weight_count, line_gap, gap_at, IsWholeForger, WholeIsRare}
use Rattle.lzk_soundness.proofs.ChanceLaws.Splitting.{two_parts}

module _ {A : Type 0} (o : Ops A) (e : Coding A) (laws : Laws o e.size e.number e.element e.bytes) where
  module _ (c : Wiring A) (public : List A) (rows : List (List A)) (send : List A → List A) (wins : List A → List A → Bool) (target : Target) (ds : List A) (forger : IsWholeForger o e c public rows send wins) (is : IsOf c target) (wrong : AreZero o (entry o (table_of o c public (held o c rows) target)) → ⊥) (distinct : AreDistinct ds) where
    abbrev w : List A
    w = held o c rows

    abbrev residual_at : List A → ℕ → A
    residual_at draws i = residual o e.element c (coefficients o c (script_of o c draws)) public (script_of o c draws) (send draws) w i

    abbrev vanishes : List A → Bool
    vanishes draws = is_none o (residual_at draws) (depth c + 1) (look o e laws (residual_at draws) (depth c + 1))

    long : length w ≡ committed_count c
    long = length-map-range_with_len (placed o c rows) 0 (committed_count c)

    -- by draws of the sumchecks alone few residuals are all 0
    few_vanish : count vanishes (draws_from ds (draw_count c)) * length ds ≤ most c target * length ds ^ draw_count c
    few_vanish =
        let only : (draws : List A) → length draws ≡ draw_count c → vanishes draws ≡ true → Vanish o c public w e.element (script_of o c draws) (send draws) =
        λ draws size yes_all i h. none_from o (residual_at draws) (depth c + 1) (look o e laws (residual_at draws) (depth c + 1)) yes_all i (omega (arith, h)) in
        let plain : IsForger o e c public w send vanishes = record { valid = forger.valid; publics = forger.publics; count = long; products = forger.products; prover = forger.prover; only = only } in
        forgers_few o e laws c public w send vanishes target ds plain is wrong distinct

    -- a residual that is not 0 is a gap that is not 0
    gap_is : (draws : List A) (i : ℕ) → i < depth c + 1
        → residual_at draws i ≡ gap_at o c rows (coefficient_of o e.element c public (script_of o c draws) (send draws)) (right_of o e.element c public (script_of o c draws) (send draws)) i
    gap_is draws i h =
        let s = script_of o c draws in
        let coefficient = coefficient_of o e.element c public s (send draws) in
        let right = right_of o e.element c public s (send draws) in
        let form = residual-form o laws.ring e.element c (coefficients o c s) public s (send draws) i (omega (arith, h)) in
        form.is w long
        ∙ ap (o.plus (o.neg (right i)))
        (sum-ext o laws.ring (committed_count c) (λ j. o.times (coefficient i j) (entry o w j)) (λ j. o.times (coefficient i j) (placed o c rows j))
        (λ j q. ap (o.times (coefficient i j)) (get_or-map-range_with_len (placed o c rows) 0 (committed_count c) j j o.zero q (omega arith))))
        ∙ laws.ring.plus_comm (o.neg (right i)) (sum_below o (committed_count c) (λ j. o.times (coefficient i j) (placed o c rows j)))
        ∙ ap (λ b. cond b (line_gap o c rows coefficient right i) (copy_gap o c rows (i - (depth c + 1)))) (sym (lt-ltb i (depth c + 1) h))

    abbrev both : List A → Bool
    both r = wins (take (draw_count c) r) (drop (draw_count c) r)

    few_weights : (draws : List A) → length draws ≡ draw_count c → vanishes draws ≡ false → count (λ t. both (draws ++ t)) (draws_from ds (weight_count c)) * length ds ≤ length ds ^ weight_count c
    few_weights draws size not_all =
        let found = some_from o (residual_at draws) (depth c + 1) (look o e laws (residual_at draws) (depth c + 1)) not_all in
        let i = found.0 in
        let h : i < depth c + 1 = found.1.0 in
        let gap = gap_at o c rows (coefficient_of o e.element c public (script_of o c draws) (send draws)) (right_of o e.element c public (script_of o c draws) (send draws)) in
        let some : gap i ≢ o.zero = λ none. found.1.1 (gap_is draws i h ∙ none) in
        combinations_few laws (second_sum o c rows) gap (weight_count c) i (λ t. both (draws ++ t)) ds (omega (arith, h)) some
        (λ t many won. forger.only draws t size many (sym (parts draws t size) ∙ won)) distinct
      where
        parts : (xs ys : List A) → length xs ≡ draw_count c → wins (take (draw_count c) (xs ++ ys)) (drop (draw_count c) (xs ++ ys)) ≡ wins xs ys
        parts xs ys size =
            let n = draw_count c in
            ap (λ zs. wins zs (drop n (xs ++ ys))) (take_at xs ys n size) ∙ ap (wins xs) (drop_at xs ys n size)

    pub rare : count both (draws_from ds (draw_count c + weight_count c)) * length ds ≤ (most c target + 1) * length ds ^ (draw_count c + weight_count c)
    rare =
        let n = draw_count c in
        let m = weight_count c in
        let N = length ds in
        let S = N ^ m in
        let Q = count vanishes (draws_from ds n) in
        let split : count both (draws_from ds (n + m)) * N ≤ Q * (S * N) + N ^ n * S = two_parts ds both vanishes m S n few_weights in
        let turned : Q * (S * N) ≡ (Q * N) * S = ap (λ (k : ℕ). Q * k) (mul_comm S N) ∙ sym (mul_assoc Q N S) in
        let first : (Q * N) * S ≤ (most c target * N ^ n) * S = mul-le-mul_right S few_vanish in
        let whole : N ^ (n + m) ≡ N ^ n * S = pow-add N n m in
        let sum : (most c target + 1) * N ^ (n + m) ≡ most c target * (N ^ n * S) + 1 * (N ^ n * S) = ap (λ (k : ℕ). (most c target + 1) * k) whole ∙ add-mul (most c target) 1 (N ^ n * S) in
        omega (arith, split, turned, first, mul_assoc (most c target) (N ^ n) S, sum)

pub whole_rare : {A : Type 0} (o : Ops A) (e : Coding A) → Laws o e.size e.number e.element e.bytes → WholeIsRare o e
whole_rare o e laws = λ c public rows send wins target ds forger is wrong distinct. rare o e laws c public rows send wins target ds forger is wrong distinct

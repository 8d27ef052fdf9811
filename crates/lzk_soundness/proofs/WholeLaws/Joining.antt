-- The combination of all gaps is that of the linear constraints, and then of the copies.
use Rattle.std.specs.Prelude.{◌≡◌, ℕ, ◌+◌, ◌-◌, ◌*◌, cond}
use Rattle.std.proofs.Common.{sym, ap, ◌∙◌, arith}
use Rattle.std.proofs.lemmas.Bool.{lt-ltb, le-ltb}
use Rattle.lzk_field.specs.Ring.{Ops, RingLaws}
use Rattle.lzk_field.specs.Sums.{sum_below, entry}
use Rattle.lzk_field.proofs.SumLaws.{sum-ext, sum-split}
use Rattle.lzk_layout.specs.Places.{depth}
use Rattle.lzk_soundness.specs.Rows.Held.{second_sum, copy_gap}
use Rattle.lzk_soundness.specs.Whole.Whole.{line_gap, gap_at, weight_at, GapsJoin}

pub gaps_join : {A : Type 0} (o : Ops A) → RingLaws o → GapsJoin o
gaps_join {A} o r = λ c rows coefficient right ch.
    let L = depth c + 1 in
    let M = 3 * depth c in
    let gap : ℕ → A = gap_at o c rows coefficient right in
    let w : ℕ → A = weight_at o c ch in
    let f : ℕ → A = λ k. o.times (w k) (gap k) in
    let lines : ℕ → A = λ k. o.times (entry o ch.lambda k) (line_gap o c rows coefficient right k) in
    let copies : ℕ → A = λ k. o.times (entry o ch.mu k) (copy_gap o c rows k) in
    let front : sum_below o L f ≡ sum_below o L lines =
    sum-ext o r L f lines (λ k h.
    ap (λ b. o.times (cond b (entry o ch.lambda k) (entry o ch.mu (k - L))) (gap k)) (lt-ltb k L h)
    ∙ ap (λ b. o.times (entry o ch.lambda k) (cond b (line_gap o c rows coefficient right k) (copy_gap o c rows (k - L)))) (lt-ltb k L h)) in
    let back : sum_below o M (λ k. f (L + k)) ≡ sum_below o M copies =
    sum-ext o r M (λ k. f (L + k)) copies (λ k h.
    let less : L + k - L ≡ k = omega arith in
    ap (λ b. o.times (cond b (entry o ch.lambda (L + k)) (entry o ch.mu (L + k - L))) (gap (L + k))) (le-ltb (L + k) L (omega arith))
    ∙ ap (λ b. o.times (entry o ch.mu (L + k - L)) (cond b (line_gap o c rows coefficient right (L + k)) (copy_gap o c rows (L + k - L)))) (le-ltb (L + k) L (omega arith))
    ∙ ap copies less) in
    let second = second_sum o c rows in
    ap (o.plus second) (sum-split o r L M f) ∙ ap (λ x. o.plus second (o.plus x (sum_below o M (λ k. f (L + k))))) front
    ∙ ap (λ x. o.plus second (o.plus (sum_below o L lines) x)) back ∙ sym (r.plus_assoc second (sum_below o L lines) (sum_below o M copies))

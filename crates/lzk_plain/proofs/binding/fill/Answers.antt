use Rattle.std.proofs.Common.{◌≡◌, ℕ, ◌+◌, ◌<◌, List, length, sym, ap, ◌∙◌, arith, slice_set, get_or-set_other, get_or-set_same, below_more}
use Rattle.std.proofs.Math.ListN.{get_or-eq_default}
use Rattle.std.proofs.lemmas.List.{get_or_default}
use native.Mathlib.Decide.{dec_lt}
use Rattle.lzk_field.specs.Ring.{Ops}
use Rattle.lzk_field.specs.Sums.{entry}
use Rattle.lzk_plain.proofs.binding.fill.Goals.{then-i-values, else-i-values}
use Rattle.lzk_plain.proofs.binding.fill.Goals as goal

-- one entry more is that of the values
filled-more : {A : Type 0} (o : Ops A) (values room new : List A) (i : ℕ) (y : A) → i < length room → ((k : ℕ) → k < i → entry o room k ≡ entry o values k) → new ≡ slice_set room i y → y ≡ entry o values i → (k : ℕ) → k < i + 1 → entry o new k ≡ entry o values k
filled-more o values room new i y inside old is here k h =
    ap (λ xs. entry o xs k) is
    ∙ below_more (λ k. entry o (slice_set room i y) k ≡ entry o values k) i (λ k l. get_or-set_other room i k y o.zero (omega (arith, l)) ∙ old k l) (get_or-set_same room i y o.zero inside ∙ here) k h

pub loop-i-preserved : goal.loop-i-preserved
loop-i-preserved g c =
    let o = g.F.Field.ops in
    let values = c.args.values.now in
    let room = c.loop-i.room in
    let i = c.loop-i.i in
    let inside : i < length room = omega (arith, c.loop-i-test.true, c.loop-i.auto.room) in
    elim c.if-i-values.branch [
      | then-i-values w ↦
          filled-more o values room c.if-i-values.room i w.index-values-i.result inside c.loop-i.invariant w.room-is (w.index-values-i.is ∙ get_or_default values i w.index-values-i.result o.zero w.if-i-values.true)
      | else-i-values w ↦
          filled-more o values room c.if-i-values.room i w.zero.result inside c.loop-i.invariant w.room-is (w.zero.ensures ∙ sym (get_or-eq_default values o.zero {n = i} w.if-i-values.false))
    ]

pub returns-clause-entries : goal.returns-clause-entries
returns-clause-entries g c =
    let o = g.F.Field.ops in
    let values = c.args.values.now in
    let room = c.loop-i.room in
    λ i. elim (dec_lt i (length room)) [
      | yes l ↦ c.loop-i.invariant i (omega (arith, l, c.loop-i-test.false, c.loop-i.auto.room))
      | no l ↦ get_or-eq_default room o.zero {n = i} (omega (arith, l)) ∙ sym (get_or-eq_default values o.zero {n = i} (omega (arith, l, c.requires, c.loop-i.auto.room)))
    ]

use Rattle.std.proofs.Common.{◌≡◌, ◌+◌, ◌*◌, ◌<◌, ℕ, List, length, refl, ap, ◌∙◌, arith}
use Rattle.std.specs.Prelude.{slice_set}
use Rattle.std.proofs.lemmas.List.{get_or_default, get_or-set_same, get_or-set_other, length-set}
use native.Mathlib.Decide.{dec_lt}
use Rattle.lzk_field.specs.Ring.{Ops}
use Rattle.lzk_field.specs.Sums.{minus, entry}
use Rattle.lzk_mle.proofs.LoopStates.{IsBoundUpTo}
use Rattle.lzk_sumcheck_rounds.specs.Pairs.{bound_entry}
use Rattle.lzk_sumcheck.proofs.ProvingLaws.{times-less}
use Rattle.lzk_sumcheck_rounds.proofs.kept.bind_table.Goals as goal

-- one place more is bound
bound_more : {A : Type 0} (o : Ops A) (x v : A) (old table : List A) (i : ℕ) → i < length table → v ≡ bound_entry o x table i → IsBoundUpTo o x old i table → IsBoundUpTo o x old (i + 1) (slice_set table i v)
bound_more o x v old table i inside is b = record {
  low = λ k h.
      elim (dec_lt k i) [
        | yes l ↦ get_or-set_other table i k v o.zero (λ e. omega (arith, l, e)) ∙ b.low k l
        | no l ↦
            let same : k ≡ i = omega (arith, h, l) in
            let s = minus o o.one x in
            ap (entry o (slice_set table i v)) same ∙ get_or-set_same table i v o.zero inside ∙ is
            ∙ ap (λ w. o.plus (o.times s w) (o.times x (entry o table (2 * i + 1)))) (b.high (2 * i) (omega arith))
            ∙ ap (λ w. o.plus (o.times s (entry o old (2 * i))) (o.times x w)) (b.high (2 * i + 1) (omega arith))
            ∙ ap (λ (n : ℕ). o.plus (o.times s (entry o old (2 * n))) (o.times x (entry o old (2 * n + 1)))) (omega (arith, same))
      ];
  high = λ k h. get_or-set_other table i k v o.zero (λ e. omega (arith, h, e)) ∙ b.high k (omega (arith, h));
}

pub loop-i-init : goal.loop-i-init
loop-i-init g c = (refl, record { low = λ k h. absurd (omega (arith, h)); high = λ k h. refl })

pub loop-i-preserved : goal.loop-i-preserved
loop-i-preserved g c =
    let o = g.F.Field.ops in
    let l = c.loop-i in
    let x = c.args.x in
    let twice : 2 * l.i < length l.table = omega (arith, c.loop-i-test.true, l.invariant.0) in
    let low = c.index-table-i.is ∙ get_or_default l.table (2 * l.i) c.index-table-i.result o.zero twice in (
      length-set l.table l.i c.between.result ∙ l.invariant.0,
      bound_more o x c.between.result c.args.table.now l.table l.i (omega (arith, twice))
          (c.between.ensures ∙ ap (λ w. o.plus (o.times (minus o o.one x) w) (o.times x c.entry_at.result)) low
          ∙ ap (λ w. o.plus (o.times (minus o o.one x) (entry o l.table (2 * l.i))) (o.times x w)) c.entry_at.ensures) l.invariant.1,
    )

pub returns-clause-half : goal.returns-clause-half
returns-clause-half g c = refl

pub returns-clause-entries : goal.returns-clause-entries
returns-clause-entries g c = λ i h. c.loop-i.invariant.1.low i (omega (arith, h, c.loop-i-test.false))

pub offset_bounds-table-i : goal.offset_bounds-table-i
offset_bounds-table-i g c = record { fits = times-less (2 * c.loop-i.i) (length c.args.table.now) _ _ (omega (arith, c.loop-i-test.true)) (omega arith) }

pub offset_bounds-table-i-in-loop-i : goal.offset_bounds-table-i-in-loop-i
offset_bounds-table-i-in-loop-i g c = record { fits = times-less c.loop-i.i (length c.args.table.now) _ _ (omega (arith, c.loop-i-test.true)) (omega arith) }

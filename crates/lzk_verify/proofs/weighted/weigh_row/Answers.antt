use Rattle.std.proofs.Common.{◌≡◌, ◌+◌, ◌<◌, refl, length, ap, sym, ◌∙◌, arith}
use Rattle.std.proofs.lemmas.List.{length-set, get_or_default, get_or-set_same, get_or-set_other}
use Rattle.std.specs.Prelude.{slice_set}
use native.Mathlib.Decide.{dec_lt}
use Rattle.lzk_field.specs.Sums.{entry}
use Rattle.lzk_verify.proofs.weighted.weigh_row.Goals as goal

pub loop-s-init : goal.loop-s-init
loop-s-init g c = (refl, λ k h. absurd (omega (arith, h)), λ k h. refl, λ k h. refl)

pub loop-s-preserved : goal.loop-s-preserved
loop-s-preserved g c =
    let o = g.F.Field.ops in
    let l = c.loop-s in
    let i = l.invariant in
    let start = c.args.start in
    let own = c.args.own.now in
    let old = c.args.table.now in
    let x = c.mul.result in
    let at = start + l.s in
    let within : at < length l.table = omega (arith, i.0, c.requires, c.loop-s-test.true) in
    let factor = c.index-own-s.is ∙ get_or_default own l.s c.index-own-s.result o.zero c.loop-s-test.true in
    let was = c.index-table-start.is ∙ get_or_default l.table at c.index-table-start.result o.zero within ∙ i.3 at (omega arith) in (
      length-set l.table at x ∙ i.0,
      λ k h. elim (dec_lt k l.s) [
        | yes b ↦ get_or-set_other l.table at (start + k) x o.zero (omega (arith, b)) ∙ i.1 k b
        | no b ↦ let same : k ≡ l.s = omega (arith, h, b) in
            ap (λ j. entry o (slice_set l.table at x) (start + j)) same ∙ get_or-set_same l.table at x o.zero within
            ∙ c.mul.ensures ∙ (λ j. o.times (was j) (factor j)) ∙ ap (λ j. o.times (entry o old (start + j)) (entry o own j)) (sym same)
      ],
      λ k h. get_or-set_other l.table at k x o.zero (omega (arith, h)) ∙ i.2 k h,
      λ k h. get_or-set_other l.table at k x o.zero (omega (arith, h)) ∙ i.3 k (omega (arith, h)),
    )

pub returns-clause-length : goal.returns-clause-length
returns-clause-length g c = c.loop-s.invariant.0

pub returns-clause-here : goal.returns-clause-here
returns-clause-here g c = λ s h. c.loop-s.invariant.1 s (omega (arith, h, c.loop-s-test.false))

pub returns-clause-before : goal.returns-clause-before
returns-clause-before g c = c.loop-s.invariant.2

pub returns-clause-behind : goal.returns-clause-behind
returns-clause-behind g c = λ k h. c.loop-s.invariant.3 k (omega (arith, h, c.loop-s.auto.s-end))

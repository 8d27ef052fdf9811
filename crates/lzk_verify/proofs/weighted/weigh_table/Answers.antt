use Rattle.std.proofs.Common.{◌≡◌, ◌+◌, ◌*◌, length, ap, sym, ◌∙◌, arith}
use Rattle.std.proofs.lemmas.Nat.{mul-add-lt}
use native.Mathlib.Decide.{dec_lt}
use Rattle.lzk_field.specs.Sums.{entry}
use Rattle.std.proofs.Common.{◌≤◌, refl}
use Rattle.std.proofs.lemmas.Nat.{mul-le}
use Rattle.lzk_verify.proofs.weighted.weigh_table.Goals as goal

pub loop-i-preserved : goal.loop-i-preserved
loop-i-preserved g c =
    let o = g.F.Field.ops in
    let own = c.args.own.now in
    let i = c.loop-i.i in
    let width = length own in
    let new = c.weigh_row.new.table in
    let before = c.loop-i.invariant in
    let next : (i + 1) * width ≡ i * width + width = omega arith in (
      c.weigh_row.ensures.length ∙ before.0,
      λ j s h q. elim (dec_lt j i) [
        | yes l ↦ c.weigh_row.ensures.before (j * width + s) (omega (arith, mul-add-lt j width s i l q)) ∙ before.1 j s l q
        | no l ↦ let same : j ≡ i = omega arith in
            ap (λ n. entry o new (n * width + s)) same ∙ c.weigh_row.ensures.here s q
            ∙ ap (λ z. o.times z (entry o own s)) (before.2 (i * width + s) (omega arith) ∙ ap (λ n. entry o c.args.table.now (n * width + s)) (sym same))
      ],
      λ k h. c.weigh_row.ensures.behind k (omega (arith, next, h)) ∙ before.2 k (omega (arith, next, h)),
    )

pub loop-i-init : goal.loop-i-init
loop-i-init g c = (refl, λ j s h. absurd (omega (arith, h)), λ k h. refl)

pub weigh_row-requires-after_bounds : goal.weigh_row-requires-after_bounds
weigh_row-requires-after_bounds g c κs within =
    let width = length c.args.own.now in
    let i = c.loop-i.i in
    let next : (i + 1) * width ≡ i * width + width = omega arith in
    let rows : (i + 1) * width ≤ c.args.count * width = mul-le (i + 1) width c.args.count width (omega (arith, c.loop-i-test.true)) (omega arith) in
    omega (arith, next, rows, c.loop-i.invariant.0, c.requires)

pub returns-clause-length : goal.returns-clause-length
returns-clause-length g c = c.loop-i.invariant.0

pub returns-clause-each : goal.returns-clause-each
returns-clause-each g c = λ i s h q. c.loop-i.invariant.1 i s (omega (arith, h, c.loop-i-test.false)) q

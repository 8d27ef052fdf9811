use Rattle.std.proofs.Common.{◌≡◌, ℕ, ◌+◌, ◌*◌, ◌^◌, ◌<◌, ◌≤◌, length, sym, ap, ◌∙◌, arith, subst}
use Rattle.std.proofs.Math.ListN.{get_or-eq_default}
use Rattle.lzk_field.specs.Sums.{entry}
use Rattle.lzk_afft.specs.Basis.{basis_sum}
use Rattle.lzk_afft.proofs.Writes.{read_at, written_more}
use Rattle.lzk_afft.proofs.points.interpolate.Goals.{then-i-values, else-i-values}
use Rattle.lzk_afft.proofs.points.interpolate.Goals as goal

pub backward-requires-clause-factors : goal.backward-requires-clause-factors
backward-requires-clause-factors g c κs within =
    let same : length c.loop-i.room ≡ length c.args.room.now = omega (arith, c.loop-i.auto.room) in
    subst (λ (n : ℕ). (n ≡ 2 ^ c.args.bits) × ((c.args.node + 1) * n ≤ 2 * length c.args.twiddles.now) × (length c.args.twiddles.now ≤ 65536)) (sym same) c.requires.factors

pub loop-i-preserved : goal.loop-i-preserved
loop-i-preserved g c =
    let o = g.F.Field.ops in
    let values = c.args.values.now in
    let i = c.loop-i.i in
    let new : c.if-i-values.room ≡ entry o values i = elim c.if-i-values.branch [
      | then-i-values w ↦ w.room-is ∙ read_at o values i w.index-values-i.result w.if-i-values.true w.index-values-i.is
      | else-i-values w ↦ w.room-is ∙ w.zero.ensures ∙ sym (get_or-eq_default values o.zero {n = i} w.if-i-values.false)
    ] in
    written_more o (λ k y. y ≡ entry o values k) c.loop-i.room i c.if-i-values.room (omega (arith, c.loop-i-test.true, c.loop-i.auto.room)) c.loop-i.invariant new

pub returns-clause-meets : goal.returns-clause-meets
returns-clause-meets g c =
    let m = g.F.Field in
    λ block j h.
    let start : j ≡ 0 + j = omega arith in
    ap (λ n. basis_sum m.ops m.coding.element (entry m.ops c.backward.new.values) (2 ^ c.args.bits) (m.coding.element n)) start
    ∙ c.backward.ensures.values 0 block j h ∙ c.loop-i.invariant j (omega (arith, h, c.requires.fits, c.loop-i-test.false))

pub returns-clause-rest : goal.returns-clause-rest
returns-clause-rest g c = λ j p h.
    let before : j < length c.loop-i.room = omega (arith, h, c.backward.auto.values) in
    c.backward.ensures.rest j p before ∙ c.loop-i.invariant j (omega (arith, before, c.loop-i.auto.room, c.loop-i-test.false)) ∙ get_or-eq_default c.args.values.now g.F.Field.ops.zero {n = j} p

pub backward-requires-clause-known : goal.backward-requires-clause-known
backward-requires-clause-known g c κs within = omega (arith, c.requires.fits, c.loop-i.auto.room)

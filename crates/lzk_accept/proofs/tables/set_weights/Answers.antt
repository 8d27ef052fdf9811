use Rattle.std.proofs.Common.{refl, ap, ◌∙◌, arith}
use Rattle.std.proofs.lemmas.List.{length-set}
use Rattle.lzk_field.specs.Sums.{entry}
use Rattle.lzk_accept.proofs.TableLaws.{bounds_more}
use Rattle.lzk_accept.proofs.tables.set_weights.Goals as goal

pub loop-g-init : goal.loop-g-init
loop-g-init g c = record { length = refl; entries = λ k h. absurd (omega (arith, h)) }

pub bounds-weights-g : goal.bounds-weights-g
bounds-weights-g g c = omega (arith, c.loop-g-test.true, c.requires.room, c.loop-g.invariant.length)

pub loop-g-preserved : goal.loop-g-preserved
loop-g-preserved g c =
    let o = g.F.Field.ops in
    let a = c.args in
    let first = a.first.now in
    let second = a.second.now in
    let k = c.loop-g.g in
    let weights = c.loop-g.weights in
    let inv = c.loop-g.invariant in
    record {
      length = length-set weights k c.add.result ∙ inv.length;
      entries = bounds_more o (λ i. o.plus (entry o first i) (o.times a.alpha (entry o second i))) weights k c.add.result (omega (arith, c.loop-g-test.true, c.requires.room, inv.length)) inv.entries
          (c.add.ensures ∙ ap (λ y. o.plus y c.mul.result) c.entry_at.ensures ∙ ap (o.plus (entry o first k)) (c.mul.ensures ∙ ap (o.times a.alpha) c.entry_at-in-loop-g.ensures));
    }

pub returns-clause-length : goal.returns-clause-length
returns-clause-length g c = c.loop-g.invariant.length

pub returns-clause-entries : goal.returns-clause-entries
returns-clause-entries g c k h = c.loop-g.invariant.entries k (omega (arith, h, c.loop-g-test.false))

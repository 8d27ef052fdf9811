use Rattle.std.proofs.Common.{◌+◌, ap, ◌∙◌, drop}
use Rattle.lzk_circuit.specs.Sums.{sum_list}
use Rattle.lzk_accept.specs.Bound.{counts_at}
use Rattle.lzk_residual.proofs.BoundLaws.{sum_step, sum_start, sum_end}
use Rattle.lzk_residual.proofs.bound.sum_at.Goals as goal

pub loop-i-init : goal.loop-i-init
loop-i-init g c =
    let s = c.args.layer.now in
    sum_start g.F.Field.ops g.F.Field.laws.ring (counts_at g.F.Field.ops s.alpha s.beta c.args.first.now c.args.second.now s.ra s.rb) c.args.terms.now c.zero-sum.result c.zero-sum.ensures

pub bounds-terms-i : goal.bounds-terms-i
bounds-terms-i g c = c.loop-i-test.true

pub loop-i-preserved : goal.loop-i-preserved
loop-i-preserved g c =
    let o = g.F.Field.ops in
    let l = c.loop-i in
    let ts = c.args.terms.now in
    let s = c.args.layer.now in
    let f = counts_at o s.alpha s.beta c.args.first.now c.args.second.now s.ra s.rb in
    let t = c.index-terms-i.result in
    ap (λ y. o.plus y (sum_list o (drop (l.i + 1) ts) f)) (c.add-sum.ensures ∙ ap (o.plus l.sum) c.count_of.ensures)
    ∙ sum_step o g.F.Field.laws.ring f ts l.i t l.sum (sum_list o ts f) c.loop-i-test.true c.index-terms-i.is l.invariant

pub returns : goal.returns
returns g c =
    let o = g.F.Field.ops in
    let l = c.loop-i in
    let ts = c.args.terms.now in
    let s = c.args.layer.now in
    let f = counts_at o s.alpha s.beta c.args.first.now c.args.second.now s.ra s.rb in
    sum_end o g.F.Field.laws.ring f ts l.i l.sum (sum_list o ts f) c.loop-i-test.false l.invariant

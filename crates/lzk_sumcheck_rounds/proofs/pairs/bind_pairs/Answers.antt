use Rattle.std.proofs.Common.{◌<◌, ◌≤◌, [], ◌∷◌, length, map, take, refl, ap, ◌∙◌, sym, arith, subst}
use Rattle.std.proofs.lemmas.List.{drop_all, length-map}
use Rattle.lzk_field.proofs.RingBasics.{zero_plus}
use Rattle.lzk_sumcheck_rounds.specs.Pairs.{bind_pair, spread, ArePairs}
use Rattle.lzk_sumcheck_rounds.proofs.MergeLaws.{merged_more}
use Rattle.lzk_sumcheck.proofs.ProvingLaws.{times-less}
use Rattle.lzk_sumcheck_rounds.proofs.pairs.bind_pairs.Goals as goal

pub loop-i-init : goal.loop-i-init
loop-i-init g c =
    let m = g.F.Field in
    record {
      count = omega arith;
      same_length = refl;
      rest = refl;
      sums = λ a b. zero_plus m.ops m.laws.ring (spread m.ops (map (bind_pair m.ops c.args.x) c.args.pairs.now) a b);
      within = λ n m h. (tt, h);
    }

pub loop-i-preserved : goal.loop-i-preserved
loop-i-preserved g c =
    let m = g.F.Field in
    let o = m.ops in
    let e = c.absorb-kept.ensures in
    let now = c.loop-i.pairs in
    let p = c.index-pairs-i.result in
    let inside : c.loop-i.i < length now = omega (arith, c.loop-i-test.true, c.loop-i.invariant.same_length) in
    merged_more o m.laws.ring (bind_pair o c.args.x) c.args.pairs.now now c.absorb-kept.new.pairs c.loop-i.i c.loop-i.kept c.absorb-kept.result p c.loop-i.invariant inside c.index-pairs-i.is e.count c.absorb-kept.auto.pairs e.rest
    (λ a b. e.sums a b ∙ ap (λ q. o.plus (spread o (take c.loop-i.kept now) a b) (spread o (q ∷ []) a b)) c.bound_pair-p.ensures)
    (λ n k h hp. e.within n k h (subst (λ q. ArePairs n k (q ∷ [])) (sym c.bound_pair-p.ensures) hp))

pub returns-clause-count : goal.returns-clause-count
returns-clause-count g c = omega (arith, c.loop-i.invariant.count, c.loop-i.auto.i-end)

pub returns-clause-sums : goal.returns-clause-sums
returns-clause-sums g c = λ a b.
    let m = g.F.Field in
    let o = m.ops in
    let old = map (bind_pair o c.args.x) c.args.pairs.now in
    let n = spread o (take c.loop-i.kept c.loop-i.pairs) a b in
    let past : length old ≤ c.loop-i.i = omega (arith, c.loop-i-test.false, length-map c.args.pairs.now (bind_pair o c.args.x)) in
    sym (m.laws.ring.plus_zero n) ∙ sym (ap (λ ps. o.plus n (spread o ps a b)) (drop_all c.loop-i.i old past)) ∙ c.loop-i.invariant.sums a b

pub returns-clause-within : goal.returns-clause-within
returns-clause-within g c = λ n m h. let w = c.loop-i.invariant.within n m h in w.0

pub offset_bounds-pairs-i : goal.offset_bounds-pairs-i
offset_bounds-pairs-i g c = record { fits = times-less c.loop-i.i (length c.args.pairs.now) _ _ c.loop-i-test.true (omega arith) }

pub bounds-pairs-i : goal.bounds-pairs-i
bounds-pairs-i g c = omega (arith, c.loop-i-test.true, c.loop-i.auto.pairs)

pub absorb-kept-requires-after_bounds : goal.absorb-kept-requires-after_bounds
absorb-kept-requires-after_bounds g c = omega (arith, c.loop-i-test.true, c.loop-i.auto.pairs, c.loop-i.invariant.count)

use Rattle.std.proofs.Common.{◌≡◌, ◌++◌, length, take, drop, ap, sym, ◌∙◌, arith, subst}
use Rattle.std.specs.Prelude.{None}
use Rattle.std.proofs.lemmas.List.{length-take-le, take-append-le}
use Rattle.std.proofs.Math.Seq.{take-append_seam}
use Rattle.lzk_circuit.specs.Wires.{weighed}
use Rattle.lzk_circuit.proofs.AssertLaws.{weighed-placed}
use Rattle.lzk_circuit.proofs.OrderLaws.{placed-distinct}
use Rattle.lzk_sumcheck_rounds.specs.Pairs.{ArePairs}
use Rattle.lzk_sumcheck_rounds.specs.Rows.{counted}
use Rattle.lzk_sumcheck_rounds.proofs.KeptLaws.{terms-within}
use Rattle.lzk_sumcheck_rounds.proofs.LayerSends.{place_below}
use Rattle.lzk_sumcheck_rounds.proofs.terms.set_fronts.Goals as goal

pub set_terms-requires-clause-linear : goal.set_terms-requires-clause-linear
set_terms-requires-clause-linear g c κs within = λ i t is.
    let a = c.args in
    let ts = a.of.now.terms.now in
    omega (arith, place_below g.F.Field.ops (length a.weights.now) (length a.of.now.values.now) ts (placed-distinct g.F.Field.ops (length a.weights.now) (length a.of.now.values.now) None ts c.requires.terms) i t is, (length-take-le c.args.size c.args.linear.now c.requires.size), c.requires.values)

pub returns-clause-sums : goal.returns-clause-sums
returns-clause-sums g c = λ i j.
    let o = g.F.Field.ops in
    let s = c.set_terms in
    let rest = drop c.args.size c.args.linear.now in
    let size : length s.new.linear ≡ c.args.size = omega (arith, s.auto.linear, (length-take-le c.args.size c.args.linear.now c.requires.size)) in
    let front : take c.args.size (s.new.linear ++ rest) ≡ s.new.linear = ap (λ n. take n (s.new.linear ++ rest)) (sym size) ∙ take-append_seam s.new.linear rest in
    ap (λ ps. counted o ps (take c.args.size (s.new.linear ++ rest)) i j) (take-append-le s.result s.new.pairs (drop (length c.args.of.now.terms.now) c.args.pairs.now) (omega (arith, s.ensures.count, s.auto.pairs)))
    ∙ ap (λ ls. counted o (take s.result s.new.pairs) ls i j) front ∙ s.ensures.sums i j

pub returns-clause-within : goal.returns-clause-within
returns-clause-within g c = λ n m hn hm.
    let o = g.F.Field.ops in
    let a = c.args in
    let s = c.set_terms in
    let ts = a.of.now.terms.now in
    subst (ArePairs n m) (sym (take-append-le s.result s.new.pairs (drop (length c.args.of.now.terms.now) c.args.pairs.now) (omega (arith, s.ensures.count, s.auto.pairs))))
    (s.ensures.within n m (terms-within o g.F.Field.laws.ring (length a.weights.now) (length a.of.now.values.now) n m a.weights.now (weighed o a.beta ts)
    (placed-distinct o (length a.weights.now) (length a.of.now.values.now) None (weighed o a.beta ts) (weighed-placed o a.beta (length a.weights.now) (length a.of.now.values.now) ts c.requires.terms)) (omega (arith, hn, c.requires.values)) (omega (arith, hm, c.requires.values))))

pub set_terms-requires-clause-room : goal.set_terms-requires-clause-room
set_terms-requires-clause-room g c κs within = (length-take-le (length c.args.of.now.terms.now) c.args.pairs.now c.requires.room)

pub set_terms-requires-clause-order : goal.set_terms-requires-clause-order
set_terms-requires-clause-order g c κs within = c.requires.order

pub returns-clause-count : goal.returns-clause-count
returns-clause-count g c = omega (arith, c.set_terms.ensures.count, (length-take-le (length c.args.of.now.terms.now) c.args.pairs.now c.requires.room), c.requires.room)

pub slice_bounds-pairs-end : goal.slice_bounds-pairs-end
slice_bounds-pairs-end g c = c.requires.room

pub slice_bounds-pairs-end-2 : goal.slice_bounds-pairs-end-2
slice_bounds-pairs-end-2 g c = sym (length-take-le (length c.args.of.now.terms.now) c.args.pairs.now c.requires.room)

pub slice_bounds-set_terms-end : goal.slice_bounds-set_terms-end
slice_bounds-set_terms-end g c = c.requires.size

pub slice_bounds-set_terms-end-2 : goal.slice_bounds-set_terms-end-2
slice_bounds-set_terms-end-2 g c = sym (length-take-le c.args.size c.args.linear.now c.requires.size)

use Rattle.std.proofs.Common.{◌≡◌, suc, ◌+◌, ◌*◌, ◌/◌, ◌%◌, ◌<◌, ◌≤◌, ap, refl, arith}
use Rattle.std.proofs.Math.Nat.{suc-mul, mul-le-mul_right}
use Rattle.lzk_layout.specs.Places.{depth, factors_at}
use Rattle.lzk_layout.proofs.PlaceLaws.{pads_within}
use Rattle.lzk_ligero_tableau.proofs.ChunkLaws.{chunk_of}
use Rattle.lzk_ligero_tableau.proofs.CopyLaws.{copies_more}
use Rattle.lzk_ligero_tableau.proofs.elements.set_copies.Goals as goal

pub part-requires-after_bounds : goal.part-requires-after_bounds
part-requires-after_bounds g c =
    let circuit = c.args.plan.now.circuit.now in
    let l = c.loop-l.l in
    let below : l < depth circuit = omega (arith, c.depth-l-end.ensures.depth, c.loop-l-test.true) in
    let factors : c.loop-l.places.factors ≡ factors_at circuit l = ap (λ q. q.factors) c.loop-l.invariant.places in
    omega (arith, factors, pads_within circuit l below, c.requires.list)

pub set_three-requires-clause-inside : goal.set_three-requires-clause-inside
set_three-requires-clause-inside g c =
    let circuit = c.args.plan.now.circuit.now in
    let p = c.args.plan.now.params in
    let b = c.args.plan.now.bounded in
    let l = c.loop-l.l in
    let layers : p.layers ≡ depth circuit = ap (λ q. q.layers) c.args.plan.now.are in
    let below : l < p.layers = omega (arith, layers, c.depth-l-end.ensures.depth, c.loop-l-test.true) in
    let some : 0 < p.wr = omega (arith, b.wide) in
    let t = l / p.wr in
    let inside : t < p.ntriple = omega (arith, chunk_of p.layers p.wr some l below, b.ntriple) in
    let low : suc t * (3 * p.wr) ≤ p.ntriple * (3 * p.wr) = mul-le-mul_right (3 * p.wr) inside in
    let short : l % p.wr < p.wr = omega (arith, some) in
    omega (arith, low, short, suc-mul t (3 * p.wr), c.loop-l.invariant.length, c.requires.room)

pub loop-l-preserved : goal.loop-l-preserved
loop-l-preserved g c =
    let o = g.F.Field.ops in
    let circuit = c.args.plan.now.circuit.now in
    let p = c.args.plan.now.params in
    let l = c.loop-l.l in
    let at = c.loop-l.places.factors in
    let some : 0 < p.wr = omega (arith, c.args.plan.now.bounded.wide) in
    let factors : at ≡ factors_at circuit l = ap (λ q. q.factors) c.loop-l.invariant.places in
    let n = c.set_three.ensures in
    record {
      places = c.next-places.ensures.places;
      length = omega (arith, n.length, c.loop-l.invariant.length);
      set = λ r s hr hs.
          copies_more o circuit c.args.list.now p.wr l some c.loop-l.copies c.set_three.new.list c.part.result.now (l + 1) at (l / p.wr * (3 * p.wr) + l % p.wr) (omega arith) factors refl c.part.ensures.part
          n.first n.second n.third n.others r s hs (c.loop-l.invariant.set r s hr hs);
    }

pub set_three-requires-clause-apart : goal.set_three-requires-clause-apart
set_three-requires-clause-apart g c κs within = omega (arith, c.args.plan.now.bounded.wide)

pub set_three-requires-clause-values : goal.set_three-requires-clause-values
set_three-requires-clause-values g c κs within = c.part.ensures.length

pub returns-clause-length : goal.returns-clause-length
returns-clause-length g c = c.loop-l.invariant.length

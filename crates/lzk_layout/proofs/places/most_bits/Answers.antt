use Rattle.std.proofs.Common.{rules, arith}
use Rattle.lzk_layout.proofs.places.most_bits.Goals as goal
use Rattle.lzk_layout.proofs.places.most_bits.Goals.{then-most-bits, else-most-bits}

pub loop-l-preserved : goal.loop-l-preserved
loop-l-preserved g c =
    let l = c.loop-l.l in
    let own = c.layer_bits-bits.ensures.bits in
    elim c.if-most-bits.branch [
      | then-most-bits w ↦ record {
        most = search rules;
        least = λ n all. omega (arith, w.most-is, own, all l (omega arith));
        few = search rules;
      }
      | else-most-bits w ↦ record {
        most = search rules;
        least = λ n all. omega (arith, w.most-is, c.loop-l.invariant.least n (λ k h. all k (omega (arith, h))));
        few = search rules;
      }
    ]

pub returns-clause-least : goal.returns-clause-least
returns-clause-least g c = λ n all. c.loop-l.invariant.least n (λ k h. all k (omega (arith, h, c.depth-l-end.ensures.depth, c.loop-l-test.false, c.loop-l.auto)))

use Rattle.std.proofs.Common.{◌∷◌, [], ap, subst, sym, arith, length, length-append}
use Rattle.lzk_level.specs.Nodes.{node_count}
use Rattle.lzk_gadgets.specs.Claims.{AreNodes}
use Rattle.lzk_gadgets.proofs.ClaimLaws.{nodes_push}
use Rattle.lzk_policy_circuit.proofs.Adding.{bits_more}
use Rattle.lzk_policy_circuit.proofs.numbers.bits_from.Goals as goal

pub loop-k-preserved : goal.loop-k-preserved
loop-k-preserved c =
    let s = c.args.s.now in
    let old = c.loop-k.bits.items in
    let node = c.private.result in
    let k = c.loop-k.k in
    let e = c.in_ok-push.ensures.items in
    record {
      count = omega (arith, ap length e, length-append old (node ∷ []), c.loop-k.invariant.count);
      nodes = subst (AreNodes (node_count s.nodes)) (sym e) (nodes_push (node_count s.nodes) old node c.loop-k.invariant.nodes c.private.ensures.node);
      values_are = λ p q a. bits_more s p q old c.push.new.self.items node c.args.at k e (c.loop-k.invariant.values_are p q a) (c.private.ensures.value p q a) (omega (arith, a.privates, c.requires));
    }

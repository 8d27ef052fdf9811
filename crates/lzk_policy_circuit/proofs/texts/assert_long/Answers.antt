use Rattle.std.proofs.Common.{subst, sym}
use Rattle.lzk_level.specs.Nodes.{node_count}
use Rattle.lzk_gadgets.specs.Claims.{AreNodes}
use Rattle.lzk_gadgets.proofs.ClaimLaws.{nodes_more}
use Rattle.lzk_policy_circuit.proofs.TextClaims.{long_claim}
use Rattle.lzk_policy_circuit.proofs.texts.assert_long.Goals as goal

pub distances-requires : goal.distances-requires
distances-requires c =
    let t = node_count c.bytes_of.new.s.nodes in
    let u = node_count c.squares.new.s.nodes in
    record {
      nodes = (
        c.in_ok-norm.ensures.makes.there,
        subst (AreNodes u) (sym c.deref-2.ensures.value) (nodes_more t u c.in_ok-bytes.bytes.items c.in_ok-norm.ensures.makes.keeps.more c.in_ok-bytes.ensures.yields.there),
      );
    }

pub returns : goal.returns
returns c =
    let bytes = c.in_ok-bytes.ensures in
    long_claim c.args.size c.args.s.now c.bytes_of.new.s c.squares.new.s c.distances.new.s c.assert_zero.new.self c.args.at c.in_ok-norm.norm c.in_ok-product.product
    c.in_ok-bytes.bytes.items c.deref.result.now c.deref-2.result.now c.args.texts.now bytes.count c.deref.ensures.value c.deref-2.ensures.value
    bytes.yields c.in_ok-norm.ensures.makes c.in_ok-product.ensures.makes c.in_ok-assert_zero.ensures bytes.values c.in_ok-norm.ensures.value c.in_ok-product.ensures.value c.requires.texts

use Rattle.std.proofs.Common.{◌≡◌, ◌+◌, ◌-◌, ◌*◌, ◌/◌, ◌<◌, arith, ap, subst, take, drop, length, length-drop}
use Rattle.std.proofs.lemmas.List.{length-take}
use Rattle.lzk_level.specs.Nodes.{node_count}
use Rattle.lzk_gadgets.proofs.ClaimLaws.{nodes_more}
use Rattle.lzk_gadgets.proofs.TextLaws.{Reading, reading-starts, reading-adds, nodes_part}
use Rattle.lzk_gadgets.proofs.statement.Statement.bytes.Goals as goal

pub loop-k-init : goal.loop-k-init
loop-k-init c = reading-starts c.args.self.now c.args.bits.now c.new-nodes.result.items c.new-nodes.ensures.items

pub byte-requires-clause-eight : goal.byte-requires-clause-eight
byte-requires-clause-eight c =
    let k = c.loop-k.k in
    let bits = c.args.bits.now in
    let below : k < length bits / 8 = omega (arith, c.loop-k-test.true) in
    omega (arith, below, length-take (8 * k + 8 - 8 * k) (drop (8 * k) bits), length-drop (8 * k) bits)

pub byte-requires-clause-nodes : goal.byte-requires-clause-nodes
byte-requires-clause-nodes c =
    let k = c.loop-k.k in
    let bits = c.args.bits.now in
    let n = node_count c.loop-k.self.nodes in
    nodes_part n (8 * k + 8 - 8 * k) (8 * k) bits (nodes_more (node_count c.args.self.now.nodes) n bits c.loop-k.invariant.yields.keeps.more c.requires.nodes)

pub loop-k-preserved : goal.loop-k-preserved
loop-k-preserved c =
    let k = c.loop-k.k in
    let bits = c.args.bits.now in
    let eight : 8 * k + 8 - 8 * k ≡ 8 = omega arith in
    reading-adds c.args.self.now c.loop-k.self c.byte.new.self bits (take (8 * k + 8 - 8 * k) (drop (8 * k) bits)) c.loop-k.nodes.items c.push.new.self.items c.in_ok-node.node k
    c.requires.nodes (ap (λ n. take n (drop (8 * k) bits)) eight) c.in_ok-push.ensures.items c.in_ok-node.ensures.makes c.in_ok-node.ensures.value c.loop-k.invariant

pub returns : goal.returns
returns c =
    let bits = c.args.bits.now in
    let all : c.loop-k.k ≡ length bits / 8 = omega (arith, c.loop-k-test.false, c.loop-k.auto.k-end) in
    let h : Reading c.args.self.now c.loop-k.self bits (length bits / 8) c.loop-k.nodes.items = subst (λ n. Reading c.args.self.now c.loop-k.self bits n c.loop-k.nodes.items) all c.loop-k.invariant in
    record { yields = h.yields; count = h.count; values = h.are }

use Rattle.std.proofs.Common.{arith, ◌∙◌, ◌≡◌, ◌+◌, ◌*◌, length}
use Rattle.std.proofs.lemmas.List.{length-map}
use Rattle.lzk_goldilocks.specs.Elements.{ops}
use Rattle.lzk_level.specs.Nodes.{node_count}
use Rattle.lzk_gadgets.specs.Claims.{value, values}
use Rattle.lzk_gadgets.specs.Spelled.{AreBits, Spells}
use Rattle.lzk_gadgets.proofs.ClaimLaws.{nodes_more, inputs_kept, values_kept, adds_behind, adds_then}
use Rattle.lzk_gadgets.proofs.SpelledLaws.{spelled_claim}
use Rattle.lzk_gadgets.proofs.statement.Statement.assert_spelled.Goals as goal

pub worth-requires : goal.worth-requires
worth-requires c = record { nodes = nodes_more (node_count c.args.self.now.nodes) (node_count c.assert_bits.new.self.nodes) c.args.bits.now c.in_ok-assert_bits.ensures.keeps.more c.requires.nodes.1 }

pub returns : goal.returns
returns c =
    let s = c.args.self.now in
    let t = c.assert_bits.new.self in
    let u = c.worth.new.self in
    let v = c.assert_equal.new.self in
    let x = c.args.x in
    let w = c.in_ok-worth.worth in
    let bits = c.args.bits.now in
    let n = length bits in
    let k = c.in_ok-assert_bits.ensures.keeps in
    let l = c.in_ok-worth.ensures.makes.keeps in
    let more = k.more in
    let there = c.requires.nodes.0.1 in
    let second = adds_behind ops (1 + n) 1 (2 + n) 1 t u v w (λ p q. value ops u p q x ≡ value ops u p q w) (λ p q. value ops u p q x ≡ value ops u p q w) c.in_ok-worth.ensures.makes c.in_ok-assert_equal.ensures (omega arith) (λ p q a. (λ h. h, λ h. h)) in
    adds_then ops (2 * n) (2 + n) (2 + 3 * n) n 1 (1 + n) s t v (λ p q. AreBits (values ops s p q bits)) (λ p q. value ops u p q x ≡ value ops u p q w) (λ p q. Spells (value ops s p q x).n (values ops s p q bits)) c.in_ok-assert_bits.ensures second (omega arith) (omega arith)
    (λ p q a.
    let b = inputs_kept ops (2 * n) s t p q k a in
    let few = c.requires.few in
    let long : length (values ops s p q bits) ≡ length bits = length-map bits (value ops s p q) in
    spelled_claim (value ops s p q x) (value ops u p q x) (value ops u p q w) (values ops s p q bits) (values ops t p q bits) (omega (arith, long, few)) (l.same p q b x (omega (arith, there, more)) ∙ k.same p q a x there) (values_kept ops (2 * n) s t p q bits k a c.requires.nodes.1) (c.in_ok-worth.ensures.value p q b))

use Rattle.std.proofs.Common.{◌≡◌, ◌+◌, ◌++◌, ◌∙◌, [], map, ap, sym, arith, append-nil}
use Rattle.std.specs.List.{range_with_len}
use Rattle.lzk_sha_circuit.proofs.Written.{entry_more}
use Rattle.lzk_sha_blocks.specs.Layout.{public_wire, private_wire, public_wires, given_count}
use Rattle.lzk_sha_blocks.proofs.layout.wires.Goals as goal

pub loop-k-preserved : goal.loop-k-preserved
loop-k-preserved c =
    entry_more (public_wire c.args.block.len c.args.block.i) [] c.loop-k.wires.items c.push.new.self.items c.public_wire.result c.loop-k.k c.loop-k.invariant c.in_ok-push.ensures.items c.public_wire.ensures

pub loop-j-init : goal.loop-j-init
loop-j-init c =
    let e : c.loop-k.k ≡ 8 = omega arith in
    c.loop-k.invariant ∙ ap (λ n. map (public_wire c.args.block.len c.args.block.i) (range_with_len 0 n)) e ∙ sym (append-nil (public_wires c.args.block.len c.args.block.i))

pub loop-j-preserved : goal.loop-j-preserved
loop-j-preserved c =
    entry_more (private_wire c.args.block.len c.args.block.i) (public_wires c.args.block.len c.args.block.i) c.loop-j.wires.items c.push-in-loop-j.new.self.items c.private_wire.result c.loop-j.j c.loop-j.invariant c.in_ok-push-2.ensures.items c.private_wire.ensures

pub returns : goal.returns
returns c =
    let own = c.held.ensures.count in
    let state = c.state_count.ensures.count in
    let e : c.loop-j.j ≡ given_count c.args.block.len c.args.block.i + 6376 = omega (arith, own, state) in
    c.loop-j.invariant ∙ ap (λ n. public_wires c.args.block.len c.args.block.i ++ map (private_wire c.args.block.len c.args.block.i) (range_with_len 0 n)) e

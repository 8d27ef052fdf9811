use Rattle.std.proofs.Common.{◌≡◌, ℕ, ◌∙◌, [], map, ap, arith}
use Rattle.std.specs.List.{range_with_len}
use Rattle.lzk_sha_circuit.proofs.Written.{entry_more}
use Rattle.lzk_sha_circuit.specs.Places.{bit_constant}
use Rattle.lzk_sha_path.specs.Levels.{node_bits}
use Rattle.lzk_sha_path.proofs.NodeBits.{node_number}
use Rattle.lzk_sha_path.proofs.level.node_bits.Goals as goal

pub loop-j-preserved : goal.loop-j-preserved
loop-j-preserved c = entry_more (λ (i : ℕ). bit_constant (node_number i)) [] c.loop-j.bits.items c.push.new.self.items c.constant.result c.loop-j.j c.loop-j.invariant c.in_ok-push.ensures.items c.constant.ensures

pub returns : goal.returns
unfolding node_bits
returns c =
    let e : c.loop-j.j ≡ 256 = omega arith in
    c.loop-j.invariant ∙ ap (λ n. map (λ (i : ℕ). bit_constant (node_number i)) (range_with_len 0 n)) e

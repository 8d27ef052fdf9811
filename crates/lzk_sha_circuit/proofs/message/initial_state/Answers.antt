use Rattle.std.proofs.Common.{◌≡◌, ℕ, ◌-◌, ◌/◌, ◌%◌, ◌∙◌, [], map, slice_index, ap, arith}
use Rattle.std.specs.List.{range_with_len}
use Rattle.std.specs.Int.{bit_at}
use Rattle.sha2.specs.Sha256.{initial_hash_256}
use Rattle.lzk_sha_circuit.specs.Places.{bit_constant, initial_state}
use Rattle.lzk_sha_circuit.proofs.Written.{entry_more}
use Rattle.lzk_sha_circuit.proofs.message.initial_state.Goals as goal

pub loop-j-preserved : goal.loop-j-preserved
loop-j-preserved c = entry_more (λ (i : ℕ). bit_constant (bit_at (slice_index initial_hash_256 (i / 32)) (31 - i % 32))) [] c.loop-j.bits.items c.push.new.self.items c.constant.result c.loop-j.j c.loop-j.invariant c.in_ok-push.ensures.items c.constant.ensures

pub returns : goal.returns
unfolding initial_state
returns c =
    let e : c.loop-j.j ≡ 256 = omega arith in
    c.loop-j.invariant ∙ ap (λ n. map (λ (i : ℕ). bit_constant (bit_at (slice_index initial_hash_256 (i / 32)) (31 - i % 32))) (range_with_len 0 n)) e

use Rattle.std.proofs.Common.{◌≡◌, ℕ, ◌∙◌, [], map, ap, refl, arith}
use Rattle.std.specs.List.{range_with_len}
use Rattle.lzk_sha_circuit.proofs.Written.{entry_more}
use Rattle.lzk_sha_circuit.specs.declared.bit.Bit.TheVariants.{Input}
use Rattle.lzk_sha_path.specs.Levels.{block_bits}
use Rattle.lzk_sha_path.proofs.level.block_bits.Goals as goal

pub loop-j-preserved : goal.loop-j-preserved
loop-j-preserved c = entry_more (λ (j : ℕ). Input j) [] c.loop-j.bits.items c.push.new.self.items (Input c.loop-j.j) c.loop-j.j c.loop-j.invariant c.in_ok-push.ensures.items refl

pub returns : goal.returns
unfolding block_bits
returns c =
    let e : c.loop-j.j ≡ 512 = omega arith in
    c.loop-j.invariant ∙ ap (λ n. map (λ (j : ℕ). Input j) (range_with_len 0 n)) e

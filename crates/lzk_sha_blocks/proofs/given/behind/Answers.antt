use Rattle.std.proofs.Common.{◌≡◌, ℕ, ◌+◌, ◌∙◌, [], map, ap, refl, arith}
use Rattle.std.specs.List.{range_with_len}
use Rattle.lzk_sha_circuit.proofs.Written.{entry_more}
use Rattle.lzk_sha_circuit.specs.declared.bit.Bit.TheVariants.{Input}
use Rattle.lzk_sha_blocks.proofs.given.behind.Goals as goal

pub loop-j-preserved : goal.loop-j-preserved
loop-j-preserved c = entry_more (λ (j : ℕ). Input (c.args.first + j)) [] c.loop-j.bits.items c.push.new.self.items (Input (c.args.first + c.loop-j.j)) c.loop-j.j c.loop-j.invariant c.in_ok-push.ensures.items refl

pub returns : goal.returns
returns c =
    let e : c.loop-j.j ≡ 256 = omega arith in
    c.loop-j.invariant ∙ ap (λ n. map (λ (j : ℕ). Input (c.args.first + j)) (range_with_len 0 n)) e

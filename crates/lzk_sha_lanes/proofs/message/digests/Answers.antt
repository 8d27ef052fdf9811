use Rattle.std.proofs.Common.{◌≡◌, ℕ, ◌+◌, ◌/◌, ◌<◌, length, refl, sym, ap, ◌∙◌, arith}
use Rattle.sha2.specs.Sha256.{hash_after, initial_hash_256, padded_message, sha256}
use Rattle.lzk_sha_lanes.specs.Lanes.{lane, of_four, last_blocks}
use Rattle.lzk_sha_lanes.proofs.Blocks.{hash_more, hash_last, last_each, digest_whole}
use Rattle.lzk_sha_lanes.proofs.Side.{length-of_four}
use Rattle.lzk_sha_lanes.proofs.message.digests.Goals as goal

pub whole-init : goal.whole-init
unfolding hash_after
whole-init c j lt = c.initial-state.ensures j lt

pub whole-preserved : goal.whole-preserved
whole-preserved c j lt =
    let m = of_four c.args.a.now c.args.b.now c.args.c.now c.args.d.now j in
    let len : length m ≡ length c.args.a.now =
    length-of_four c.args.a.now c.args.b.now c.args.c.now c.args.d.now c.requires.second c.requires.third c.requires.fourth j lt in
    c.take_in.ensures j lt ∙ hash_more initial_hash_256 m (lane j c.whole.state) c.whole.i (omega arith) (c.whole.invariant j lt)

pub last-preserved : goal.last-preserved
last-preserved c j lt =
    let m = of_four c.args.a.now c.args.b.now c.args.c.now c.args.d.now j in
    let last = of_four c.last_of-last_a.result c.last_of-last_b.result c.last_of-last_c.result c.last_of-last_d.result j in
    let len : length m ≡ length c.args.a.now =
    length-of_four c.args.a.now c.args.b.now c.args.c.now c.args.d.now c.requires.second c.requires.third c.requires.fourth j lt in
    let t = c.last.i in
    let e = last_each c.args.a.now c.args.b.now c.args.c.now c.args.d.now _ _ _ _
    c.last_of-last_a.ensures c.last_of-last_b.ensures c.last_of-last_c.ensures c.last_of-last_d.ensures j lt in
    let below : t < last_blocks (length m) = omega (arith, c.last_blocks-i-end.ensures.count) in
    let held = c.last.invariant j lt ∙ ap (λ (n : ℕ). hash_after initial_hash_256 (padded_message m) (n / 64 + t)) (sym len) in
    c.take_in-in-last.ensures j lt
    ∙ hash_last initial_hash_256 m last (lane j c.last.state) t e below held
    ∙ ap (λ (n : ℕ). hash_after initial_hash_256 (padded_message m) (n / 64 + (t + 1))) len

pub returns : goal.returns
returns c =
    let n = length c.args.a.now in
    let done : c.last.i ≡ last_blocks n = omega (arith, c.last_blocks-i-end.ensures.count) in
    let first : c.digest_of.result ≡ sha256 c.args.a.now =
    digest_whole c.args.a.now _ _ n c.last.i refl done (c.last.invariant 0 (omega arith)) c.digest_of.ensures in
    let second : c.digest_of-2.result ≡ sha256 c.args.b.now =
    digest_whole c.args.b.now _ _ n c.last.i (sym c.requires.second) done (c.last.invariant 1 (omega arith)) c.digest_of-2.ensures in
    let third : c.digest_of-3.result ≡ sha256 c.args.c.now =
    digest_whole c.args.c.now _ _ n c.last.i (sym c.requires.third) done (c.last.invariant 2 (omega arith)) c.digest_of-3.ensures in
    let fourth : c.digest_of-4.result ≡ sha256 c.args.d.now =
    digest_whole c.args.d.now _ _ n c.last.i (sym c.requires.fourth) done (c.last.invariant 3 (omega arith)) c.digest_of-4.ensures in
    rw (first, second, third, fourth) refl

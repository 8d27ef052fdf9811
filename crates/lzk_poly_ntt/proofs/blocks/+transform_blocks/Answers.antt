use Rattle.std.proofs.Common.{◌≡◌, ℕ, ◌+◌, ◌-◌, ◌*◌, ◌^◌, ◌<◌, suc, ap, ◌∙◌, arith, length}
use Rattle.std.proofs.Math.Nat.{suc-mul}
use Rattle.lzk_poly_ntt.proofs.Pieces.{next_fits}
use Rattle.lzk_poly_ntt.proofs.Spectra.{spectra_joined}
use Rattle.lzk_poly_ntt.proofs.blocks.+transform_blocks.Goals as goal

pub returns : goal.returns
returns g t c =
    let row = c.args.row.now in
    let d = row.kernels.now.transform in
    spectra_joined g.F.Field.ops d row.kernels.now.plan row.values.now row.weights.now c.args.from c.transform_block.new.out c.transform_blocks.new.spectra
    (omega (arith, c.transform_block.auto.out, c.split_at_mut-first.ensures.front_len, c.size.ensures.value))
    c.transform_block.ensures c.transform_blocks.ensures

pub returns-then-from-kernels : goal.returns-then-from-kernels
returns-then-from-kernels g t c = λ u j h. absurd (omega (arith, h, c.if-from-kernels.true))

pub split_at_mut-first-requires : goal.split_at_mut-first-requires
split_at_mut-first-requires g t c =
    let row = c.args.row.now.kernels.now in
    let left = row.plan.blocks - c.args.from in
    let n = 2 ^ row.transform.bits in
    let some : 0 < left = omega (arith, c.requires.order, c.if-from-kernels.false) in
    omega (arith, next_fits 0 left n some, c.size.ensures.value, c.requires.spectra)

pub transform_block-requires-clause-block : goal.transform_block-requires-clause-block
transform_block-requires-clause-block g t c κs within = omega (arith, c.requires.order, c.if-from-kernels.false)

pub transform_block-requires-clause-out : goal.transform_block-requires-clause-out
transform_block-requires-clause-out g t c κs within = c.split_at_mut-first.ensures.front_len ∙ c.size.ensures.value

pub transform_blocks-requires-clause-order : goal.transform_blocks-requires-clause-order
transform_blocks-requires-clause-order g t c κs within = omega (arith, c.requires.order, c.if-from-kernels.false)

pub transform_blocks-requires-clause-spectra : goal.transform_blocks-requires-clause-spectra
transform_blocks-requires-clause-spectra g t c κs within =
    let row = c.args.row.now.kernels.now in
    let rest = row.plan.blocks - (c.args.from + 1) in
    let n = 2 ^ row.transform.bits in
    let left : row.plan.blocks - c.args.from ≡ suc rest = omega (arith, c.requires.order, c.if-from-kernels.false) in
    let whole : length c.args.spectra.now ≡ rest * n + n = c.requires.spectra ∙ ap (λ k. k * n) left ∙ suc-mul rest n in
    omega (arith, whole, c.size.ensures.value, c.split_at_mut-first.ensures.back_len)

use Rattle.std.proofs.Common.{◌≡◌, ℕ, ◌<◌, List, length}
use Rattle.lzk_field.specs.Sums.{entry}
use Rattle.lzk_poly_ntt.specs.Kernels.{convolutions, AreSpectra}
use Rattle.lzk_poly_ntt.specs.Transform.{spectrum, IsRoot}
use Rattle.lzk_poly_ntt.proofs.blocks.sum_products.Given as goal

abbrev pub invariant-loop-v : goal.invariant-loop-v
invariant-loop-v g l =
    let m = g.F.Field in
    let d = l.fn.kernels.transform in
    let plan = l.fn.kernels.plan in
    (values ws : List g.row.F.Denot) → IsRoot m.ops d.bits d.root → AreSpectra m.ops d plan values ws 0 l.fn.spectra → (j : ℕ) → j < length l.out → entry m.ops l.out j ≡ spectrum m.ops d.bits d.root (convolutions m.ops m.coding.element d plan values ws l.fn.p l.v) j

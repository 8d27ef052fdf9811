use Rattle.std.proofs.Common.{◌≡◌, ℕ, ◌+◌, ◌*◌, ◌<◌, length}
use Rattle.lzk_field.specs.Sums.{entry}
use Rattle.lzk_poly.specs.Extension.{extension}
use Rattle.lzk_poly_ntt.proofs.blocks.extend_by.Given as goal

abbrev pub invariant-loop-p : goal.invariant-loop-p
invariant-loop-p g l =
    let m = g.F.Field in (k : ℕ) → k < l.p * l.plan.piece → k < length l.out → entry m.ops l.out k ≡ extension m.ops m.coding.element l.fn.row.values.now (l.fn.row.kernels.now.plan.count + k)

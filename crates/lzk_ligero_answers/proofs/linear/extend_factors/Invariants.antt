use Rattle.std.proofs.Common.{◌≡◌, ℕ, ◌+◌, ◌-◌, ◌*◌, ◌<◌, List, length}
use Rattle.lzk_field.specs.Sums.{entry}
use Rattle.lzk_poly.specs.Extension.{extension}
use Rattle.lzk_ligero_answers.specs.Coefficients.{AreCoefficients}
use Rattle.lzk_ligero_answers.proofs.linear.extend_factors.Given as goal

abbrev pub invariant-loop-f : goal.invariant-loop-f
invariant-loop-f g l =
    let o = g.F.Field.ops in
    let p = l.fn.extending.combined.now.table.now.params.now in
    let size = p.dblock - p.block in
    (length l.values ≡ p.block) × (length l.behind ≡ 4 * size) × (length l.room ≡ length l.fn.room)
    × ((f : ℕ) (list : List g.row.F.Denot) → f < l.f → AreCoefficients o p (λ s. entry o l.fn.extending.combined.now.place_factors.now (f * p.wr + s)) list → (k : ℕ) → k < size → entry o l.behind (f * size + k) ≡ extension o g.F.Field.coding.element list (p.block + k))

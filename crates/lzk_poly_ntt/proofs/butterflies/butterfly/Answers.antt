use Rattle.std.proofs.Common.{◌≡◌, ap, ◌∙◌, arith}
use Rattle.lzk_field.specs.Sums.{entry, minus}
use Rattle.lzk_poly_ntt.proofs.Writes.{both, read_at, written_two}
use Rattle.lzk_poly_ntt.proofs.butterflies.butterfly.Goals as goal

pub returns-clause-sum : goal.returns-clause-sum
returns-clause-sum g c =
    let o = g.F.Field.ops in
    let xs = c.args.values.now in
    let x0 : c.index-values-0.result ≡ entry o xs 0 = read_at o xs 0 c.index-values-0.result (omega (arith, c.requires)) c.index-values-0.is in
    let x1 : c.index-values-1.result ≡ entry o xs 1 = read_at o xs 1 c.index-values-1.result (omega (arith, c.requires)) c.index-values-1.is in
    ap (λ ys. entry o ys 0) (written_two xs c.add.result c.sub.result c.requires) ∙ c.add.ensures ∙ both o.plus c.index-values-0.result c.index-values-1.result (entry o xs 0) (entry o xs 1) x0 x1

pub returns-clause-difference : goal.returns-clause-difference
returns-clause-difference g c =
    let o = g.F.Field.ops in
    let xs = c.args.values.now in
    let x0 : c.index-values-0.result ≡ entry o xs 0 = read_at o xs 0 c.index-values-0.result (omega (arith, c.requires)) c.index-values-0.is in
    let x1 : c.index-values-1.result ≡ entry o xs 1 = read_at o xs 1 c.index-values-1.result (omega (arith, c.requires)) c.index-values-1.is in
    ap (λ ys. entry o ys 1) (written_two xs c.add.result c.sub.result c.requires) ∙ c.sub.ensures ∙ both (minus o) c.index-values-0.result c.index-values-1.result (entry o xs 0) (entry o xs 1) x0 x1

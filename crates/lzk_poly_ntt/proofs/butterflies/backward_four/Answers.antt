use Rattle.std.proofs.Common.{◌≡◌, ap, ◌∙◌, arith}
use Rattle.lzk_field.specs.Sums.{entry, minus}
use Rattle.lzk_poly_ntt.proofs.Writes.{both, read_at, written_four}
use Rattle.lzk_poly_ntt.proofs.butterflies.backward_four.Goals as goal

pub returns-clause-first : goal.returns-clause-first
returns-clause-first g c =
    let o = g.F.Field.ops in
    let xs = c.args.values.now in
    let x0 : c.index-values-0.result ≡ entry o xs 0 = read_at o xs 0 c.index-values-0.result (omega (arith, c.requires)) c.index-values-0.is in
    let x1 : c.index-values-1.result ≡ entry o xs 1 = read_at o xs 1 c.index-values-1.result (omega (arith, c.requires)) c.index-values-1.is in
    let x2 : c.index-values-2.result ≡ entry o xs 2 = read_at o xs 2 c.index-values-2.result (omega (arith, c.requires)) c.index-values-2.is in
    let x3 : c.index-values-3.result ≡ entry o xs 3 = read_at o xs 3 c.index-values-3.result (omega (arith, c.requires)) c.index-values-3.is in
    let even : c.add-even.result ≡ o.plus (entry o xs 0) (entry o xs 1) = c.add-even.ensures ∙ both o.plus c.index-values-0.result c.index-values-1.result (entry o xs 0) (entry o xs 1) x0 x1 in
    let odd : c.add-odd.result ≡ o.plus (entry o xs 2) (entry o xs 3) = c.add-odd.ensures ∙ both o.plus c.index-values-2.result c.index-values-3.result (entry o xs 2) (entry o xs 3) x2 x3 in
    ap (λ ys. entry o ys 0) (written_four xs c.add.result c.add-2.result c.sub-2.result c.sub-3.result c.requires) ∙ c.add.ensures ∙ both o.plus c.add-even.result c.add-odd.result (o.plus (entry o xs 0) (entry o xs 1)) (o.plus (entry o xs 2) (entry o xs 3)) even odd

pub returns-clause-second : goal.returns-clause-second
returns-clause-second g c =
    let o = g.F.Field.ops in
    let xs = c.args.values.now in
    let w = c.args.fourth_root in
    let x0 : c.index-values-0.result ≡ entry o xs 0 = read_at o xs 0 c.index-values-0.result (omega (arith, c.requires)) c.index-values-0.is in
    let x1 : c.index-values-1.result ≡ entry o xs 1 = read_at o xs 1 c.index-values-1.result (omega (arith, c.requires)) c.index-values-1.is in
    let x2 : c.index-values-2.result ≡ entry o xs 2 = read_at o xs 2 c.index-values-2.result (omega (arith, c.requires)) c.index-values-2.is in
    let x3 : c.index-values-3.result ≡ entry o xs 3 = read_at o xs 3 c.index-values-3.result (omega (arith, c.requires)) c.index-values-3.is in
    let left : c.sub-left.result ≡ minus o (entry o xs 0) (entry o xs 1) = c.sub-left.ensures ∙ both (minus o) c.index-values-0.result c.index-values-1.result (entry o xs 0) (entry o xs 1) x0 x1 in
    let right : c.times-right.result ≡ o.times (minus o (entry o xs 2) (entry o xs 3)) w =
    c.times-right.ensures ∙ ap (λ u. o.times u w) (c.sub.ensures ∙ both (minus o) c.index-values-2.result c.index-values-3.result (entry o xs 2) (entry o xs 3) x2 x3) in
    ap (λ ys. entry o ys 1) (written_four xs c.add.result c.add-2.result c.sub-2.result c.sub-3.result c.requires) ∙ c.add-2.ensures ∙ both o.plus c.sub-left.result c.times-right.result (minus o (entry o xs 0) (entry o xs 1)) (o.times (minus o (entry o xs 2) (entry o xs 3)) w) left right

pub returns-clause-third : goal.returns-clause-third
returns-clause-third g c =
    let o = g.F.Field.ops in
    let xs = c.args.values.now in
    let x0 : c.index-values-0.result ≡ entry o xs 0 = read_at o xs 0 c.index-values-0.result (omega (arith, c.requires)) c.index-values-0.is in
    let x1 : c.index-values-1.result ≡ entry o xs 1 = read_at o xs 1 c.index-values-1.result (omega (arith, c.requires)) c.index-values-1.is in
    let x2 : c.index-values-2.result ≡ entry o xs 2 = read_at o xs 2 c.index-values-2.result (omega (arith, c.requires)) c.index-values-2.is in
    let x3 : c.index-values-3.result ≡ entry o xs 3 = read_at o xs 3 c.index-values-3.result (omega (arith, c.requires)) c.index-values-3.is in
    let even : c.add-even.result ≡ o.plus (entry o xs 0) (entry o xs 1) = c.add-even.ensures ∙ both o.plus c.index-values-0.result c.index-values-1.result (entry o xs 0) (entry o xs 1) x0 x1 in
    let odd : c.add-odd.result ≡ o.plus (entry o xs 2) (entry o xs 3) = c.add-odd.ensures ∙ both o.plus c.index-values-2.result c.index-values-3.result (entry o xs 2) (entry o xs 3) x2 x3 in
    ap (λ ys. entry o ys 2) (written_four xs c.add.result c.add-2.result c.sub-2.result c.sub-3.result c.requires) ∙ c.sub-2.ensures ∙ both (minus o) c.add-even.result c.add-odd.result (o.plus (entry o xs 0) (entry o xs 1)) (o.plus (entry o xs 2) (entry o xs 3)) even odd

pub returns-clause-fourth : goal.returns-clause-fourth
returns-clause-fourth g c =
    let o = g.F.Field.ops in
    let xs = c.args.values.now in
    let w = c.args.fourth_root in
    let x0 : c.index-values-0.result ≡ entry o xs 0 = read_at o xs 0 c.index-values-0.result (omega (arith, c.requires)) c.index-values-0.is in
    let x1 : c.index-values-1.result ≡ entry o xs 1 = read_at o xs 1 c.index-values-1.result (omega (arith, c.requires)) c.index-values-1.is in
    let x2 : c.index-values-2.result ≡ entry o xs 2 = read_at o xs 2 c.index-values-2.result (omega (arith, c.requires)) c.index-values-2.is in
    let x3 : c.index-values-3.result ≡ entry o xs 3 = read_at o xs 3 c.index-values-3.result (omega (arith, c.requires)) c.index-values-3.is in
    let left : c.sub-left.result ≡ minus o (entry o xs 0) (entry o xs 1) = c.sub-left.ensures ∙ both (minus o) c.index-values-0.result c.index-values-1.result (entry o xs 0) (entry o xs 1) x0 x1 in
    let right : c.times-right.result ≡ o.times (minus o (entry o xs 2) (entry o xs 3)) w =
    c.times-right.ensures ∙ ap (λ u. o.times u w) (c.sub.ensures ∙ both (minus o) c.index-values-2.result c.index-values-3.result (entry o xs 2) (entry o xs 3) x2 x3) in
    ap (λ ys. entry o ys 3) (written_four xs c.add.result c.add-2.result c.sub-2.result c.sub-3.result c.requires) ∙ c.sub-3.ensures ∙ both (minus o) c.sub-left.result c.times-right.result (minus o (entry o xs 0) (entry o xs 1)) (o.times (minus o (entry o xs 2) (entry o xs 3)) w) left right

pub bounds-values-0 : goal.bounds-values-0
bounds-values-0 g c = omega (arith, c.requires)

pub bounds-values-1 : goal.bounds-values-1
bounds-values-1 g c = omega (arith, c.requires)

pub bounds-values-2 : goal.bounds-values-2
bounds-values-2 g c = omega (arith, c.requires)

pub bounds-values-3 : goal.bounds-values-3
bounds-values-3 g c = omega (arith, c.requires)

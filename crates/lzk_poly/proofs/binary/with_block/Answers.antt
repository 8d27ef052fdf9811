use Rattle.std.proofs.Common.{◌≡◌, ◌+◌, ◌<◌, length, ap, ◌∙◌, arith}
use Rattle.std.proofs.lemmas.List.{get_or_default}
use Rattle.lzk_field.specs.Sums.{entry}
use Rattle.lzk_poly.proofs.ProductLaws.{product_between}
use Rattle.lzk_poly.proofs.binary.with_block.Goals as goal

pub returns : goal.returns
returns g c =
    let m = g.F.Field in
    let o = m.ops in
    let table = c.args.table.now in
    let xs = table.running.now in
    let ys = table.inverted.now in
    let base = c.args.base in
    let size = c.args.size in
    let starts : base < length ys = omega (arith, table.paired, c.requires) in
    λ e running inverted.
    let first : c.index-running-base.result ≡ entry o xs (base + size) = c.index-running-base.is ∙ get_or_default xs (base + size) c.index-running-base.result o.zero c.requires in
    let second : c.index-inverted-base.result ≡ entry o ys base = c.index-inverted-base.is ∙ get_or_default ys base c.index-inverted-base.result o.zero starts in
    c.mul-2.ensures
    ∙ ap (o.times c.args.scale) (c.mul.ensures ∙ product_between o m.laws.ring xs ys e base size c.index-running-base.result c.index-inverted-base.result running inverted c.requires starts first second)

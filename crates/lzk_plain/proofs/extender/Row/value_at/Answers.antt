use Rattle.std.proofs.Common.{◌≡◌, ◌+◌, ◌-◌, ◌<◌, ◌≤◌, length, ap, ◌∙◌, arith, sym}
use Rattle.std.proofs.lemmas.List.{get_or_default}
use Rattle.lzk_poly.specs.Weights.{parts, passed}
use Rattle.lzk_field.proofs.Numbering.{points_apart}
use Rattle.lzk_poly.proofs.Extensions.{extension-given}
use Rattle.lzk_poly.proofs.Blocks.{parts_extension}
use Rattle.lzk_plain.proofs.extender.Row.value_at.Goals as goal

pub returns-then-j-count : goal.returns-then-j-count
returns-then-j-count g c =
    let m = g.F.Field in
    let row = c.args.self.now in
    let values = row.values.now in
    let j = c.args.j in
    let counted : length values ≡ row.weights.now.count = row.fits in
    let limit : row.weights.now.upto ≤ 65536 = row.limit in
    let below : j < length values = omega arith in
    c.index-values-j.is ∙ get_or_default values j c.index-values-j.result m.ops.zero below
    ∙ sym (extension-given m.ops m.laws.ring m.laws.field m.coding.element values (points_apart m.laws (length values) (omega arith)) j below)

pub sum_at-requires-clause-apart : goal.sum_at-requires-clause-apart
sum_at-requires-clause-apart g c κs within =
    let row = c.args.self.now in
    let counted : length row.values.now ≡ row.weights.now.count = row.fits in
    let limit : row.weights.now.upto ≤ 65536 = row.limit in
    λ i h e. points_apart g.F.Field.laws 65536 (omega arith) i c.args.j (omega arith) (omega arith) (sym e ∙ c.point.ensures)

pub returns : goal.returns
returns g c =
    let m = g.F.Field in
    let o = m.ops in
    let row = c.args.self.now in
    let values = row.values.now in
    let j = c.args.j in
    let count = row.weights.now.count in
    let counted : length values ≡ count = row.fits in
    let limit : row.weights.now.upto ≤ 65536 = row.limit in
    let products = c.passed.result.now in
    let all = c.passed.ensures in
    let at = j - c.count-count.result in
    let there : count + at ≡ j = omega arith in
    let within : at < length products = omega (arith, all.0) in
    let product : c.index-passed-j.result ≡ passed o m.coding.element (length values) (m.coding.element j) =
    c.index-passed-j.is ∙ get_or_default products at c.index-passed-j.result o.zero within ∙ all.1 at within
    ∙ ap (λ i. passed o m.coding.element count (m.coding.element i)) there ∙ ap (λ n. passed o m.coding.element n (m.coding.element j)) (sym counted) in
    c.mul.ensures ∙ ap (λ w. o.times w c.index-passed-j.result) (c.sum_at.ensures ∙ ap (λ x. parts o m.coding.element values (length values) x) c.point.ensures)
    ∙ ap (o.times (parts o m.coding.element values (length values) (m.coding.element j))) product
    ∙ parts_extension m.laws values j (omega arith) (omega arith)

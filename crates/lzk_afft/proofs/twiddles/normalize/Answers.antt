use Rattle.std.proofs.Common.{◌≡◌, ◌+◌, ◌^◌, sym, ap, ◌∙◌, arith}
use Rattle.std.proofs.lemmas.List.{get_or_default}
use Rattle.lzk_field.specs.Sums.{entry}
use Rattle.lzk_afft.specs.Basis.{normalized, vanishing}
use Rattle.lzk_afft.proofs.Writes.{read_at, written_more}
use Rattle.lzk_afft.proofs.Subspaces.{vanishing_nonzero}
use Rattle.lzk_afft.proofs.twiddles.normalize.Goals as goal

pub unreachable-requires : goal.unreachable-requires
unreachable-requires g c =
    let o = g.F.Field.ops in
    let point = g.F.Field.coding.element in
    let from = c.args.from in
    let images = c.args.images.now in
    let here = c.index-images-first.result in
    let is : here ≡ vanishing o point from (point (2 ^ from)) = c.index-images-first.is ∙ get_or_default images from here o.zero c.requires.images.0 ∙ c.requires.images.1 from c.requires.images.0 in
    vanishing_nonzero g.F.Field.laws from (omega (arith, c.requires.few, c.requires.images.0)) (sym is ∙ c.in-None.ensures)

pub returns : goal.returns
unfolding normalized
returns g c =
    let o = g.F.Field.ops in
    let point = g.F.Field.coding.element in
    let from = c.args.from in
    let images = c.args.images.now in
    let here = c.index-images-first.result in
    let is : here ≡ vanishing o point from (point (2 ^ from)) = c.index-images-first.is ∙ get_or_default images from here o.zero c.requires.images.0 ∙ c.requires.images.1 from c.requires.images.0 in
    let inverse : c.in-Some.inverse ≡ o.inverse (vanishing o point from (point (2 ^ from))) = c.in-Some.ensures.1 ∙ ap o.inverse is in
    λ i h.
    let place : from + 1 + i ≡ i + (from + 1) = omega arith in
    c.loop-i.invariant i (omega arith)
    ∙ ap (λ v. o.times v c.in-Some.inverse) (ap (entry o images) place ∙ c.requires.images.1 (i + (from + 1)) (omega arith))
    ∙ ap (o.times (vanishing o point from (point (2 ^ (i + (from + 1)))))) inverse

pub loop-i-init : goal.loop-i-init
loop-i-init g c = λ i h. absurd (omega (arith, h))

pub loop-i-preserved : goal.loop-i-preserved
loop-i-preserved g c =
    let o = g.F.Field.ops in
    let images = c.args.images.now in
    let from = c.args.from in
    let inverse = c.in-Some.inverse in
    let i = c.loop-i.i in
    written_more o (λ k y. y ≡ o.times (entry o images (from + 1 + k)) inverse) c.loop-i.scaled i c.mul.result (omega (arith, c.loop-i-test.true, c.loop-i.auto.scaled, c.requires.scaled)) c.loop-i.invariant
    (c.mul.ensures ∙ ap (λ w. o.times w inverse) (read_at o images (from + 1 + i) c.index-images-first-in-loop-i.result (omega (arith, c.loop-i-test.true)) c.index-images-first-in-loop-i.is))

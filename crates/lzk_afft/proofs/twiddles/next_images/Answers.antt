use Rattle.std.proofs.Common.{◌≡◌, ℕ, ◌+◌, ◌^◌, ◌<◌, length, suc, sym, ap, ◌∙◌, arith, subst}
use Rattle.std.proofs.lemmas.List.{get_or_default}
use Rattle.lzk_poly.specs.Products.{IsBinary}
use Rattle.lzk_field.proofs.Numbering.{zero_element}
use Rattle.lzk_afft.specs.Basis.{vanishing}
use Rattle.lzk_field.specs.Sums.{entry}
use Rattle.lzk_afft.proofs.Writes.{both, read_at, written_more, written_rest}
use Rattle.lzk_afft.proofs.TwiddleLaws.{vanishing-next}
use Rattle.lzk_afft.proofs.twiddles.next_images.Goals as goal

pub returns : goal.returns
returns g c =
    let o = g.F.Field.ops in
    let point = g.F.Field.coding.element in
    let from = c.args.from in
    let images = c.args.images.now in
    let here = c.index-images-from.result in
    let more : from + 1 ≡ suc from = omega arith in
    let is : here ≡ vanishing o point from (point (2 ^ from)) = c.index-images-from.is ∙ get_or_default images from here o.zero c.requires.images.0 ∙ c.requires.images.1 from c.requires.images.0 in
    let binary : IsBinary o point (suc from) = subst (λ (n : ℕ). IsBinary o point n) more c.requires.binary in
    λ i h.
    let v = vanishing o point from (point (2 ^ i)) in
    c.loop-i.invariant.done i (omega arith)
    ∙ ap (λ w. o.times w (o.plus w here)) (c.requires.images.1 i (omega arith))
    ∙ ap (λ w. o.times v (o.plus v w)) is
    ∙ sym (vanishing-next o g.F.Field.laws.ring point from (zero_element g.F.Field.laws.numbers) binary (point (2 ^ i)))
    ∙ ap (λ n. vanishing o point n (point (2 ^ i))) (sym more)

pub loop-i-preserved : goal.loop-i-preserved
loop-i-preserved g c =
    let o = g.F.Field.ops in
    let old = c.args.images.now in
    let here = c.index-images-from.result in
    let images = c.loop-i.images in
    let i = c.loop-i.i in
    let inv = c.loop-i.invariant in
    let inside : i < length images = omega (arith, c.loop-i-test.true, c.loop-i.auto.images) in
    let x = entry o old i in
    let a : c.index-images-i.result ≡ x = read_at o images i c.index-images-i.result inside c.index-images-i.is ∙ inv.rest i (omega arith) in
    let a_again : c.index-images-i-in-loop-i.result ≡ x = read_at o images i c.index-images-i-in-loop-i.result inside c.index-images-i-in-loop-i.is ∙ inv.rest i (omega arith) in
    record {
      done =
          written_more o (λ k y. y ≡ o.times (entry o old k) (o.plus (entry o old k) here)) images i c.mul.result inside inv.done
          (c.mul.ensures ∙ both o.times c.index-images-i.result c.add.result x (o.plus x here) a (c.add.ensures ∙ ap (λ w. o.plus w here) a_again));
      rest = written_rest o old images i c.mul.result inv.rest;
    }

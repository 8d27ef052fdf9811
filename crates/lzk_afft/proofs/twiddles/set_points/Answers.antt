use Rattle.std.proofs.Common.{◌≡◌, ◌^◌, sym, ap, ◌∙◌, arith}
use Rattle.std.proofs.lemmas.Nat.{one_shl}
use Rattle.lzk_afft.proofs.Writes.{written_more}
use Rattle.lzk_field.proofs.Numbering.{zero_element}
use Rattle.lzk_afft.proofs.Subspaces.{vanishing-single}
use Rattle.lzk_afft.proofs.twiddles.set_points.Goals as goal

pub returns : goal.returns
returns g c = λ i h. c.loop-i.invariant i (omega arith) ∙ sym (vanishing-single g.F.Field.ops g.F.Field.laws.ring g.F.Field.coding.element (zero_element g.F.Field.laws.numbers) (g.F.Field.coding.element (2 ^ i)))

pub loop-i-preserved : goal.loop-i-preserved
loop-i-preserved g c =
    let m = g.F.Field in
    let i = c.loop-i.i in
    written_more m.ops (λ k y. y ≡ m.coding.element (2 ^ k)) c.loop-i.images i c.point.result (omega (arith, c.loop-i-test.true, c.loop-i.auto.images)) c.loop-i.invariant
    (c.point.ensures ∙ ap m.coding.element (one_shl i 32 (omega (arith, c.loop-i-test.true, c.requires))))

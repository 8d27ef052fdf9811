use Rattle.std.proofs.Common.{◌≡◌, ◌+◌, ◌-◌, ◌<◌, ◌++◌, drop, length, ap, ◌∙◌, arith, length-drop, length-take}
use Rattle.std.proofs.Math.ListN.{get_or-append}
use Rattle.std.proofs.lemmas.List.{get_or-drop, get_or-take}
use Rattle.std.proofs.lemmas.Result.{IfOk-weaker}
use Rattle.lzk_field.specs.Sums.{entry}
use Rattle.lzk_field.proofs.RingBasics.{one_times}
use Rattle.lzk_poly.specs.Products.{spread}
use Rattle.lzk_poly.proofs.BinaryProducts.{aligned_first}
use Rattle.lzk_poly.proofs.binary.products_at.Goals as goal

pub returns : goal.returns
returns g c =
    let m = g.F.Field in
    let o = m.ops in
    let points = c.args.points.now in
    let n = points.given in
    let from = c.args.from in
    let to = c.args.to in
    let out = c.fill.new.out in
    let rest = drop (length out) c.in_ok-all.all.items in
    let all : c.in_ok-all.all.len ≡ points.products.now.size = c.in_ok-all.ensures.len in
    let size : length out ≡ points.products.now.size = omega (arith, c.fill.auto.out, c.deref_mut.ensures.len, all) in
    let room : length c.deref.result.now ≡ points.products.now.size = omega (arith, c.deref.ensures.len, all) in
    IfOk-weaker c.from_slice.result _ _
    (λ v is. (
      ap length is ∙ omega (arith, length-take (to - from) (drop from c.deref.result.now), length-drop from c.deref.result.now, room, c.requires.reached, points.reached),
      λ h running inverted i l.
          let j = from + i in
          let place : 0 + j ≡ j = omega arith in
          let inside : j < length out = omega (arith, size, l, c.requires.reached, points.reached) in
          ap (λ zs. entry o zs i) is
          ∙ get_or-take (to - from) (drop from c.deref.result.now) i o.zero l ∙ get_or-drop from c.deref.result.now i o.zero ∙ ap (λ zs. entry o zs j) c.deref.ensures.value
          ∙ get_or-take c.in_ok-all.all.len (out ++ rest) j o.zero (omega (arith, all, size, inside)) ∙ get_or-append out rest o.zero j inside
          ∙ c.fill.ensures h running inverted j inside
          ∙ ap (λ w. o.times w (spread o h m.coding.element n (m.coding.element (0 + j)))) c.one-2.ensures
          ∙ one_times o m.laws.ring _ ∙ ap (λ k. spread o h m.coding.element n (m.coding.element k)) place,
    )) c.from_slice.ensures.items

pub fill-requires-clause-block : goal.fill-requires-clause-block
fill-requires-clause-block g c κs within =
    let m = g.F.Field in
    let points = c.args.points.now in
    record { inside = omega (arith, points.whole, c.requires.table); binary = points.binary; aligned = aligned_first m.laws points.bits }

pub fill-requires-clause-whole : goal.fill-requires-clause-whole
fill-requires-clause-whole g c κs within = omega (arith, c.deref_mut.ensures.len, c.in_ok-all.ensures.len, c.args.points.now.whole)

pub fill-requires-clause-few : goal.fill-requires-clause-few
fill-requires-clause-few g c κs within = omega (arith, c.args.points.now.order, c.args.points.now.reached, c.deref_mut.ensures.len, c.in_ok-all.ensures.len)

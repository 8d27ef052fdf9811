use Rattle.std.proofs.Common.{◌≡◌, ◌+◌, ◌^◌, [], ◌∷◌, length, length-append, ap, sym, ◌∙◌, arith}
use Rattle.lzk_field.proofs.EntryLaws.{entries_more}
use Rattle.std.proofs.lemmas.Result.{IfOk-weaker}
use Rattle.lzk_field.specs.Sums.{entry}
use Rattle.lzk_poly_ntt.proofs.Building.{rewritten, kernel_is}
use Rattle.lzk_poly_ntt.proofs.kernels.kernel.Goals as goal

pub returns : goal.returns
returns g c =
    let m = g.F.Field in
    let o = m.ops in
    let d = c.args.cut.now.transform.now in
    let items = c.loop-t.list.items in
    let new = c.forward.new.values in
    let inv = c.loop-t.invariant in
    let whole : length items ≡ 2 ^ d.bits = omega (arith, inv.size, c.size-t-end.ensures.value) in
    let size : c.loop-t.list.len ≡ length new = omega (arith, c.forward.auto.values, c.deref_mut.ensures.len) in
    let same = c.deref.ensures.value ∙ rewritten items new c.loop-t.list.len size in
    let long : length new ≡ 2 ^ d.bits = omega (arith, c.forward.auto.values, c.deref_mut.ensures.len, c.loop-t.list.ok, whole) in
    IfOk-weaker c.prepare.result _ _
    (λ v is. (
      ap length (is ∙ same) ∙ long,
      λ j h.
          ap (λ zs. entry o zs j) (is ∙ same)
          ∙ kernel_is o m.laws.ring m.laws.field m.coding.element d.bits d.root c.args.scale c.args.first j c.args.cut.now.inverses.now c.deref_mut.result.now new c.args.cut.now.table c.requires.positive
          (λ i l. ap (λ zs. entry o zs i) c.deref_mut.ensures.value ∙ inv.entries i (omega (arith, whole)))
          (c.forward.ensures j (omega (arith, long))),
    )) c.prepare.ensures

pub loop-t-preserved : goal.loop-t-preserved
loop-t-preserved g c =
    let o = g.F.Field.ops in
    let table = c.args.cut.now.inverses.now in
    let list = c.loop-t.list.items in
    let y = c.scaled.result in
    let inv = c.loop-t.invariant in
    record {
      size = ap length c.in_ok-push.ensures.items ∙ omega (arith, length-append list (y ∷ []), inv.size);
      entries =
          entries_more o (λ i z. z ≡ o.times c.args.scale (entry o table (c.args.first + i))) list c.push.new.self.items y c.in_ok-push.ensures.items inv.entries
          (c.scaled.ensures ∙ ap (λ i. o.times c.args.scale (entry o table (c.args.first + i))) (sym inv.size));
    }

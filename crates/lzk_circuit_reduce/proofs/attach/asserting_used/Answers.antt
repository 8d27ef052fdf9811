use Rattle.std.proofs.Common.{◌≡◌, ◌∙◌, ap, sym, subst, arith, length}
use Rattle.std.proofs.lemmas.Result.{IfOk-weaker}
use Rattle.lzk_circuit.specs.Limits.{most_wires}
use Rattle.lzk_circuit_reduce.specs.Attached.{attached_layers, AreNarrowWith, IsAssertingForm}
use Rattle.lzk_circuit_reduce.proofs.AssertedForm.{single-form, reduced-form}
use Rattle.lzk_circuit_reduce.proofs.FormLaws.{still-narrow}
use Rattle.lzk_circuit_reduce.proofs.attach.asserting_used.Goals as goal

pub returns-then-len-eq1 : goal.returns-then-len-eq1
returns-then-len-eq1 g c =
    let o = g.F.Field.ops in
    let number = g.F.Field.coding.number in
    let inputs = c.args.inputs in
    let ws = c.args.targets.items in
    let layers = c.args.layers.items in
    let r = c.requires in
    let single : length layers ≡ 1 = omega (arith, c.len.ensures, c.if-len-eq1.true) in
    let form = single-form o g.F.Field.coding.size number g.F.Field.coding.element g.F.Field.coding.bytes g.F.Field.laws inputs ws layers single r.inputs r.terms r.ones r.targets r.narrow r.checks r.few_wires r.few_terms in
    let lists = c.deref-then-len-eq1.result.now in
    let same = ap (attached_layers o lists) c.deref.ensures.value ∙ ap (λ ms. attached_layers o ms layers) c.deref-then-len-eq1.ensures.value in
    IfOk-weaker c.attached-all.result (λ all. all.items ≡ attached_layers o lists c.deref.result.now) (λ all. IsAssertingForm o number inputs ws layers all.items)
    (λ all e. subst (IsAssertingForm o number inputs ws layers) (sym (e ∙ same)) form) c.attached-all.ensures

pub attached-all-requires-2-clause-few : goal.attached-all-requires-2-clause-few
attached-all-requires-2-clause-few g c κs within =
    let f = c.in-Ok.ensures.form in
    let moved = c.in-Ok.moved.items in
    let kept = c.in-Ok.kept.items in
    subst (λ ms. AreNarrowWith most_wires ms c.deref-2.result.now) (sym c.deref-3.ensures.value)
    (subst (AreNarrowWith most_wires moved) (sym c.deref-2.ensures.value) (still-narrow most_wires moved c.args.targets.items kept c.args.layers.items f.count f.fewer f.as_many c.requires.narrow))

pub returns : goal.returns
returns g c =
    let o = g.F.Field.ops in
    let number = g.F.Field.coding.number in
    let inputs = c.args.inputs in
    let ws = c.args.targets.items in
    let layers = c.args.layers.items in
    let r = c.requires in
    let e = c.in-Ok.ensures in
    let moved = c.in-Ok.moved.items in
    let kept = c.in-Ok.kept.items in
    let lists = c.deref-3.result.now in
    let form = reduced-form o g.F.Field.coding.size number g.F.Field.coding.element g.F.Field.coding.bytes g.F.Field.laws inputs ws layers moved kept r.some r.inputs r.narrow r.checks r.few_wires r.few_terms e.form e.reduced in
    let same = ap (attached_layers o lists) c.deref-2.ensures.value ∙ ap (λ ms. attached_layers o ms kept) c.deref-3.ensures.value in
    IfOk-weaker c.attached-all-2.result (λ all. all.items ≡ attached_layers o lists c.deref-2.result.now) (λ all. IsAssertingForm o number inputs ws layers all.items)
    (λ all e. subst (IsAssertingForm o number inputs ws layers) (sym (e ∙ same)) form) c.attached-all-2.ensures

use Rattle.std.proofs.Common.{◌≡◌, ℕ, List, length, subst}
use Rattle.std.proofs.lemmas.Result.{IfOk-weaker}
use Rattle.lzk_circuit.specs.declared.layer.Layer.{Layer}
use Rattle.lzk_circuit_reduce.specs.Used.{IsPruned}
use Rattle.lzk_circuit_reduce.specs.Asserting.{AreAllUsedWith, IsForm, IsReducedWith}
use Rattle.lzk_circuit_reduce.proofs.FormLaws.{form-same}
use Rattle.lzk_circuit_reduce.proofs.ReducedLaws.{are-reduced}
use Rattle.lzk_circuit_reduce.proofs.PrunedLaws.{pruned-form, pruned-lists, pruned-used, pruned-ones, pruned-different}
use Rattle.lzk_circuit_reduce.proofs.reduce.used_with.Goals as goal

pub returns-then-all-clause-form : goal.returns-then-all-clause-form
returns-then-all-clause-form g c =
    let are = c.requires.are in
    form-same g.F.Field.ops c.args.inputs c.args.targets.items c.args.layers.items are.valid are.targets

pub returns-then-all-clause-lists : goal.returns-then-all-clause-lists
returns-then-all-clause-lists g c lists = lists

pub returns-then-all-clause-reduced : goal.returns-then-all-clause-reduced
returns-then-all-clause-reduced g c =
    let layers = c.args.layers.items in
    let used = c.in-Ok.ensures c.if-all.true in
    are-reduced g.F.Field.ops c.args.targets.items layers c.requires.are.ones c.requires.different
    (subst (λ ms. AreAllUsedWith ms layers) c.deref-2.ensures.value (subst (AreAllUsedWith c.deref-2.result.now) c.deref.ensures.value used))

pruned-of : {A : Type 0} (inputs : ℕ) (ms ws : List (List ℕ)) (ls layers : List (Layer A)) (moved : List (List ℕ)) (kept : List (Layer A)) → ms ≡ ws → ls ≡ layers → IsPruned inputs ms ls moved kept → IsPruned inputs ws layers moved kept
pruned-of inputs ms ws ls layers moved kept e f p = subst (λ us. IsPruned inputs us layers moved kept) e (subst (λ xs. IsPruned inputs ms xs moved kept) f p)

pub returns-clause-form : goal.returns-clause-form
returns-clause-form g c =
    let inputs = c.args.inputs in
    let ws = c.args.targets.items in
    let layers = c.args.layers.items in
    let ls = c.deref.result.now in
    let ms = c.deref-2.result.now in
    let are = c.requires.are in
    IfOk-weaker c.pruned-kept.result (λ kept. IsPruned inputs ms ls kept.1.items kept.0.items) (λ kept. IsForm g.F.Field.ops inputs ws layers kept.1.items kept.0.items)
    (λ kept p. pruned-form g.F.Field.ops g.F.Field.laws.ring inputs ws layers kept.1.items kept.0.items (pruned-of inputs ms ws ls layers kept.1.items kept.0.items c.deref-2.ensures.value c.deref.ensures.value p) are.some are.valid are.targets) c.pruned-kept.ensures

pub returns-clause-lists : goal.returns-clause-lists
returns-clause-lists g c lists =
    let inputs = c.args.inputs in
    let ls = c.deref.result.now in
    let ms = c.deref-2.result.now in
    IfOk-weaker c.pruned-kept.result (λ kept. IsPruned inputs ms ls kept.1.items kept.0.items) (λ kept. length kept.1.items ≡ length kept.0.items)
    (λ kept p. pruned-lists inputs ms ls kept.1.items kept.0.items p) c.pruned-kept.ensures

pub returns-clause-reduced : goal.returns-clause-reduced
returns-clause-reduced g c =
    let o = g.F.Field.ops in
    let inputs = c.args.inputs in
    let ws = c.args.targets.items in
    let layers = c.args.layers.items in
    let ls = c.deref.result.now in
    let ms = c.deref-2.result.now in
    let are = c.requires.are in
    IfOk-weaker c.pruned-kept.result (λ kept. IsPruned inputs ms ls kept.1.items kept.0.items) (λ kept. IsReducedWith o kept.1.items kept.0.items)
    (λ kept p. let q = pruned-of inputs ms ws ls layers kept.1.items kept.0.items c.deref-2.ensures.value c.deref.ensures.value p in
    are-reduced o kept.1.items kept.0.items (pruned-ones o inputs ws layers kept.1.items kept.0.items q are.valid are.ones) (pruned-different o inputs ws layers kept.1.items kept.0.items q are.valid c.requires.different) (pruned-used inputs ws layers kept.1.items kept.0.items q)) c.pruned-kept.ensures

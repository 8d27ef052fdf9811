use Rattle.std.proofs.Common.{◌≡◌, ◌+◌, ◌∙◌, ap, refl, sym, subst, length, map, drop, None}
use Rattle.lzk_circuit.specs.Valid.{AreTerms, under_of}
use Rattle.lzk_circuit_reduce.specs.Renumbering.{at}
use Rattle.lzk_circuit_reduce.specs.Targets.{targets_at, AreBelow}
use Rattle.lzk_circuit_reduce.specs.Used.{used_layer, marks_of_under}
use Rattle.lzk_circuit_reduce.proofs.TargetLaws.{targets-here, places-moved}
use Rattle.lzk_circuit_reduce.proofs.UsedLayersLaws.{under-count}
use Rattle.lzk_circuit_reduce.proofs.PrunedLaws.{rest-slice, pruning-adds, pruning-terms}
use Rattle.lzk_circuit_reduce.proofs.prune.add_pruned.Goals as goal

pub marks_with-requires-clause-terms : goal.marks_with-requires-clause-terms
marks_with-requires-clause-terms g c κs within =
    let o = g.F.Field.ops in
    let given = c.args.given.now in
    let layers = given.layers.now in
    let l = c.args.l in
    let d = c.index-layers-l.result in
    let ts = d.terms in
    let marks = c.args.above.now.marks.items in
    let each = pruning-terms o given.inputs given.targets.now layers d marks ts l c.args.moved.now.items c.args.kept.now.items c.requires.there (ap (λ x. x.terms) c.index-layers-l.is) c.requires.done in
    subst (λ ls. AreTerms o (length c.deref.result.now) (under_of given.inputs ls).width None ts) (sym (rest-slice (l + 1) layers))
    (subst (λ ms. AreTerms o (length ms) (under_of given.inputs (drop (l + 1) layers)).width None ts) (sym c.deref.ensures.value) each)

pub marks_with-requires-clause-targets : goal.marks_with-requires-clause-targets
marks_with-requires-clause-targets g c κs within =
    let given = c.args.given.now in
    let layers = given.layers.now in
    let l = c.args.l in
    let own = c.targets_of-own.result.now in
    subst (λ ls. AreBelow (under_of given.inputs ls).width own) (sym (rest-slice (l + 1) layers))
    (subst (AreBelow (under_of given.inputs (drop (l + 1) layers)).width) (sym c.targets_of-own.ensures) (targets-here given.inputs l given.targets.now layers c.index-layers-l.result c.requires.there given.are.targets))

pub add_marked-requires-after_bounds : goal.add_marked-requires-after_bounds
add_marked-requires-after_bounds g c κs within =
    let o = g.F.Field.ops in
    let given = c.args.given.now in
    let layers = given.layers.now in
    let inputs = given.inputs in
    let l = c.args.l in
    let d = c.index-layers-l.result in
    let ts = d.terms in
    let marks = c.args.above.now.marks.items in
    let own = c.targets_of-own.result.now in
    let seen = c.deref.result.now in
    let count : length c.in-Ok.below.marks.items ≡ (under_of inputs (drop (l + 1) layers)).width =
    ap length (c.in-Ok.ensures ∙ ap (marks_of_under inputs seen ts own) (rest-slice (l + 1) layers)) ∙ under-count inputs seen ts own (drop (l + 1) layers) in
    subst (λ w. AreTerms o (length marks) w None ts) (sym count) (pruning-terms o inputs given.targets.now layers d marks ts l c.args.moved.now.items c.args.kept.now.items c.requires.there (ap (λ x. x.terms) c.index-layers-l.is) c.requires.done)

pub add_renumbered-requires : goal.add_renumbered-requires
add_renumbered-requires g c =
    let given = c.args.given.now in
    let layers = given.layers.now in
    let inputs = given.inputs in
    let l = c.args.l in
    let d = c.index-layers-l.result in
    let own = c.targets_of-own.result.now in
    let seen = c.deref.result.now in
    let below = c.in-Ok.below in
    let count : length c.deref-2.result.now ≡ (under_of inputs (drop (l + 1) layers)).width =
    ap length c.deref-2.ensures.value ∙ below.placed.0 ∙ ap length (c.in-Ok.ensures ∙ ap (marks_of_under inputs seen d.terms own) (rest-slice (l + 1) layers)) ∙ under-count inputs seen d.terms own (drop (l + 1) layers) in
    subst (λ n. AreBelow n own) (sym count) (subst (AreBelow (under_of inputs (drop (l + 1) layers)).width) (sym c.targets_of-own.ensures) (targets-here inputs l given.targets.now layers d c.requires.there given.are.targets))

pub returns : goal.returns
returns g c =
    let given = c.args.given.now in
    let layers = given.layers.now in
    let inputs = given.inputs in
    let l = c.args.l in
    let marks = c.args.above.now.marks.items in
    let below = c.in-Ok.below in
    let seen = c.deref.result.now in
    let own = c.targets_of-own.result.now in
    let ws = targets_at given.targets.now l in
    let rest = drop (l + 1) layers in
    let d = c.index-layers-l.result in
    let ts = d.terms in
    let own_is : own ≡ ws = c.targets_of-own.ensures in
    let is : below.marks.items ≡ marks_of_under inputs seen ts own rest = c.in-Ok.ensures ∙ ap (marks_of_under inputs seen ts own) (rest-slice (l + 1) layers) in
    let under : AreBelow (under_of inputs rest).width ws = targets-here inputs l given.targets.now layers d c.requires.there given.are.targets in
    let within : AreBelow (length below.marks.items) ws = subst (λ n. AreBelow n ws) (sym (ap length is ∙ under-count inputs seen ts own rest)) under in
    let moved = ap (λ ns. map (at ns) own) c.deref-2.ensures.value ∙ ap (map (at below.places.items)) own_is ∙ places-moved below.marks.items below.places.items ws below.placed within in
    pruning-adds g.F.Field.ops inputs given.targets.now layers d marks below.marks.items ts (used_layer marks below.marks.items d) (map (at c.deref-2.result.now) own) l c.args.moved.now.items c.add_renumbered.new.moved.items c.args.kept.now.items c.add_marked.new.kept.items
    c.requires.there (ap (λ x. x.terms) c.index-layers-l.is) (is ∙ ap (λ xs. marks_of_under inputs seen ts xs rest) own_is ∙ ap (λ ms. marks_of_under inputs ms ts ws rest) c.deref.ensures.value)
    refl refl moved c.in-Ok-add_marked.ensures c.in-Ok-add_renumbered.ensures c.requires.done

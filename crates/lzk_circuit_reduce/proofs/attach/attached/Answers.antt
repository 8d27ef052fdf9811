use Rattle.std.proofs.Common.{◌≡◌, ℕ, ◌+◌, ◌<◌, ◌∙◌, ap, sym, arith, List, length, [], ◌∷◌, ◌++◌, get_or, drop}
use Rattle.std.proofs.lemmas.List.{append_assoc, append-nil, drop_all, drop_more, length-append}
use Rattle.lzk_field.specs.Ring.{Ops}
use Rattle.lzk_circuit.specs.declared.layer.Layer.{Layer}
use Rattle.lzk_circuit.specs.Limits.{most_wires}
use Rattle.lzk_circuit_reduce.specs.Attached.{attached, attached_layers}
use Rattle.lzk_circuit_reduce.specs.Targets.{targets_at, behind}
use Rattle.lzk_circuit_reduce.proofs.AddLaws.{any-default}
use Rattle.lzk_circuit_reduce.proofs.AttachedLayers.{narrow-at}
use Rattle.lzk_circuit_reduce.proofs.TargetLaws.{behind-drop, targets-drop}
use Rattle.lzk_circuit_reduce.proofs.attach.attached.Goals as goal

-- one layer more
attached-more : {A : Type 0} (o : Ops A) (ws : List (List ℕ)) (layers before more all : List (Layer A)) (l : ℕ) (layer : Layer A) (own : List ℕ) → l < length layers → layer ≡ get_or layers l layer → own ≡ targets_at ws l → more ≡ before ++ attached o layer own ∷ []
    → before ++ attached_layers o (drop l ws) (drop l layers) ≡ all → more ++ attached_layers o (drop (l + 1) ws) (drop (l + 1) layers) ≡ all
attached-more o ws layers before more all l layer own within is own_is push h =
    let rest = drop (l + 1) layers in
    let after = attached_layers o (drop (l + 1) ws) rest in
    let front : drop l layers ≡ layer ∷ rest = drop_more layers l layer within ∙ ap (λ x. x ∷ rest) (sym is) in
    let here : attached_layers o (drop l ws) (drop l layers) ≡ attached o layer own ∷ after =
    ap (attached_layers o (drop l ws)) front ∙ ap (λ us. attached o layer us ∷ attached_layers o (behind (drop l ws)) rest) (targets-drop l ws ∙ sym own_is) ∙ ap (λ vs. attached o layer own ∷ attached_layers o vs rest) (behind-drop l ws) in
    ap (λ xs. xs ++ after) push ∙ append_assoc before (attached o layer own ∷ []) after ∙ ap (λ xs. before ++ xs) (sym here) ∙ h

pub loop-l-init : goal.loop-l-init
loop-l-init g c = record {
  all = ap (λ xs. xs ++ attached_layers g.F.Field.ops c.args.targets.now c.args.layers.now) c.in-Ok.ensures.items;
  count = ap length c.in-Ok.ensures.items;
  room = omega (arith, c.in-Ok.ensures.capacity);
}

pub push_reserved-requires : goal.push_reserved-requires
push_reserved-requires g c = omega (arith, c.loop-l.invariant.count, c.loop-l.invariant.room, c.loop-l-test.true)

pub attached_layer-requires-clause-few : goal.attached_layer-requires-clause-few
attached_layer-requires-clause-few g c κs within =
    let layers = c.args.layers.now in
    let ws = c.args.targets.now in
    let l = c.loop-l.l in
    let own = c.as_slice.ensures ∙ any-default ws l c.index-targets-l.result [] (omega (arith, c.loop-l-test.true, c.requires.lists)) c.index-targets-l.is in
    omega (arith, ap length own, ap (λ layer. layer.wires) c.index-layers-l.is, narrow-at most_wires ws layers l c.index-layers-l.result c.loop-l-test.true c.requires.few)

pub loop-l-preserved : goal.loop-l-preserved
loop-l-preserved g c =
    let o = g.F.Field.ops in
    let layers = c.args.layers.now in
    let ws = c.args.targets.now in
    let l = c.loop-l.l in
    let layer = c.index-layers-l.result in
    let own = c.as_slice.ensures ∙ any-default ws l c.index-targets-l.result [] (omega (arith, c.loop-l-test.true, c.requires.lists)) c.index-targets-l.is in
    let before = c.loop-l.all.items in
    let push = c.push_reserved.ensures in
    record {
      all =
          attached-more o ws layers before c.push_reserved.new.self.items (attached_layers o ws layers) l layer c.as_slice.result.now c.loop-l-test.true c.index-layers-l.is own
          (push.items ∙ ap (λ x. before ++ x ∷ []) c.in-Ok-attached_layer.ensures) c.loop-l.invariant.all;
      count = omega (arith, ap length push.items, length-append before (c.in-Ok-attached_layer.layer ∷ []), c.loop-l.invariant.count);
      room = omega (arith, push.capacity, c.loop-l.invariant.room);
    }

pub returns : goal.returns
returns g c =
    let o = g.F.Field.ops in
    let all = c.loop-l.all.items in
    sym (append-nil all) ∙ ap (λ ls. all ++ attached_layers o (drop c.loop-l.l c.args.targets.now) ls) (sym (drop_all c.loop-l.l c.args.layers.now c.loop-l-test.false)) ∙ c.loop-l.invariant.all

use Rattle.std.proofs.Common.{◌+◌, ◌∙◌, ◌++◌, ◌∷◌, [], List, length, map, get_or, ap, sym, subst}
use Rattle.std.specs.Prelude.{Vec}
use Rattle.std.specs.Vec.{with_items}
use Rattle.std.proofs.lemmas.List.{take_at}
use Rattle.std.specs.declared.alloc.Global.{Global}
use Rattle.lzk_circuit.specs.declared.layer.Layer.{Layer}
use Rattle.lzk_circuit.specs.Valid.{AreLayersPlaced}
use Rattle.lzk_circuit.specs.Wires.{all_values, inputs_of}
use Rattle.lzk_circuit.proofs.DepthLaws.{one-set, nothing, only-one, some-lists, others-room, first-room, stands-on, next-values, inputs-count}
use Rattle.lzk_circuit.proofs.eval.+eval_layers.Goals as goal

pub eval_list-requires-clause-terms : goal.eval_list-requires-clause-terms
eval_list-requires-clause-terms g t c = λ κs le.
    let o = g.F.Field.ops in
    let front = c.in-Some.ensures.cases in
    stands-on o c.args.layers.now c.in-Some.layers.now c.in-Some.layer.now (inputs_of o c.args.public.now c.args.private.now) _ c.eval_layers.new.lists c.index-lists-0-2.result
    front.0 (inputs-count o c.args.public.now c.args.private.now) c.requires.layers c.eval_layers.ensures

pub returns : goal.returns
returns g t c =
    let o = g.F.Field.ops in
    let front = c.in-Some.ensures.cases in
    next-values o c.args.layers.now c.in-Some.layers.now c.in-Some.layer.now (inputs_of o c.args.public.now c.args.private.now) c.eval_list.new.out.items c.eval_layers.new.lists c.index-lists-0-2.result
    front.0 c.eval_layers.ensures c.eval_list.ensures

pub set_inputs-requires-after_bounds : goal.set_inputs-requires-after_bounds
set_inputs-requires-after_bounds g t c κs within =
    let n = 1 + length c.args.public.now + length c.args.private.now in
    ap length c.deref_mut.ensures.value ∙ only-one (λ (v : Vec _ Global). length v.items) c.args.lists.now n c.index-lists-0.result (c.requires.room ∙ ap (λ (ls : List (Layer _)). map (λ layer. layer.wires) ls ++ n ∷ []) (nothing c.args.layers.now c.in_default.ensures.cases))

pub returns-in_default-split_first_mut : goal.returns-in_default-split_first_mut
returns-in_default-split_first_mut g t c = absurd (some-lists (λ (v : Vec _ Global). length v.items) c.args.lists.now (map (λ layer. layer.wires) c.args.layers.now) (1 + length c.args.public.now + length c.args.private.now) c.requires.room c.in_default-split_first_mut.ensures.cases)

pub eval_layers-requires-clause-layers : goal.eval_layers-requires-clause-layers
eval_layers-requires-clause-layers g t c κs within =
    let placed = subst (AreLayersPlaced (1 + length c.args.public.now + length c.args.private.now)) c.in-Some.ensures.cases.0 c.requires.layers in
    placed.1

pub eval_layers-requires-clause-room : goal.eval_layers-requires-clause-room
eval_layers-requires-clause-room g t c κs within =
    others-room (λ (v : Vec _ Global). length v.items) c.args.lists.now c.in-Some-split_first_mut.lists.now c.in-Some-split_first_mut.out.now c.args.layers.now c.in-Some.layers.now c.in-Some.layer.now (1 + length c.args.public.now + length c.args.private.now)
    c.in-Some.ensures.cases.0 c.in-Some-split_first_mut.ensures.cases.0 c.requires.room

pub eval_list-requires-clause-room : goal.eval_list-requires-clause-room
eval_list-requires-clause-room g t c κs within =
    first-room (λ (v : Vec _ Global). length v.items) c.args.lists.now c.in-Some-split_first_mut.lists.now c.in-Some-split_first_mut.out.now c.args.layers.now c.in-Some.layers.now c.in-Some.layer.now (1 + length c.args.public.now + length c.args.private.now)
    c.in-Some.ensures.cases.0 c.in-Some-split_first_mut.ensures.cases.0 c.requires.room

pub returns-in_default : goal.returns-in_default
returns-in_default g t c =
    let o = g.F.Field.ops in
    let n = 1 + length c.args.public.now + length c.args.private.now in
    let none = nothing c.args.layers.now c.in_default.ensures.cases in
    let inputs = inputs_of o c.args.public.now c.args.private.now in
    let v = get_or c.args.lists.now 0 c.index-lists-0.result in
    let whole = take_at c.set_inputs.new.inputs _ v.len (c.set_inputs.auto.inputs ∙ ap length c.deref_mut.ensures.value ∙ sym v.ok.0) in
    one-set c.args.lists.now (with_items v c.set_inputs.new.inputs) n inputs (c.requires.room ∙ ap (λ (ls : List (Layer _)). map (λ layer. layer.wires) ls ++ n ∷ []) none) (whole ∙ c.set_inputs.ensures) ∙ sym (ap (λ ls. all_values o ls inputs) none)

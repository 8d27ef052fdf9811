use Rattle.std.proofs.Common.{◌≡◌, ◌++◌, ◌∙◌, ◌-◌, ◌<◌, ◌≤◌, ap, sym, arith, map, reverse, ℕ, length}
use Rattle.std.specs.Prelude.{slice_get, Some}
use Rattle.std.proofs.lemmas.List.{length-map, length-reverse}
use Rattle.lzk_circbytes.specs.Numbered.{numbered_layer}
use Rattle.lzk_circbytes.specs.Spelling.{layers_bytes}
use Rattle.lzk_circbytes.specs.Answers.{under}
use Rattle.lzk_circbytes.proofs.Written.{can_write_at, at_reverse, layers_go_on, layers_end}
use Rattle.lzk_circbytes.proofs.encoding.push_layers.Goals as goal

pub push_layer-requires-clause-fit : goal.push_layer-requires-clause-fit
push_layer-requires-clause-fit g c =
    λ κs outlives. (can_write_at g.F.Field.coding.number c.args.constants.now.numbers.now c.args.circuit.now.layers (c.depth-depth.result - 1 - c.loop-i.i) c.layer.result.now c.requires c.layer.ensures).0

pub push_layer-requires-clause-terms : goal.push_layer-requires-clause-terms
push_layer-requires-clause-terms g c =
    λ κs outlives. (can_write_at g.F.Field.coding.number c.args.constants.now.numbers.now c.args.circuit.now.layers (c.depth-depth.result - 1 - c.loop-i.i) c.layer.result.now c.requires c.layer.ensures).1

pub loop-i-preserved : goal.loop-i-preserved
loop-i-preserved g c =
    let number = g.F.Field.coding.number in
    let layers = c.args.circuit.now.layers in
    let ls = reverse (map (numbered_layer number) layers) in
    let cs = c.args.constants.now.numbers.now in
    let i = c.loop-i.i in
    let layer = c.layer.result.now in
    let in_range : i < length layers = omega (arith, c.loop-i-test.true, c.depth-depth.ensures.depth) in
    let in_reverse : i < length ls = omega (arith, c.loop-i-test.true, c.depth-depth.ensures.depth, length-map layers (numbered_layer number), length-reverse (map (numbered_layer number) layers)) in
    let there : slice_get layers (length layers - 1 - i) ≡ Some layer = ap (λ (n : ℕ). slice_get layers (n - 1 - i)) (sym c.depth-depth.ensures.depth) ∙ c.layer.ensures in
    layers_go_on cs (under 0 0 0) c.loop-i.out.items c.push_layer.new.out.items c.args.out.now.items i (numbered_layer number layer) ls (layers_bytes cs 0 ls) in_reverse (at_reverse number layers i layer in_range there) c.in_ok-push_layer.ensures c.loop-i.invariant

pub returns : goal.returns
returns g c =
    let number = g.F.Field.coding.number in
    let layers = c.args.circuit.now.layers in
    let ls = reverse (map (numbered_layer number) layers) in
    let cs = c.args.constants.now.numbers.now in
    let past : length ls ≤ c.loop-i.i = omega (arith, c.loop-i-test.false, c.depth-depth.ensures.depth, length-map layers (numbered_layer number), length-reverse (map (numbered_layer number) layers)) in
    layers_end cs c.loop-i.out.items (c.args.out.now.items ++ layers_bytes cs 0 ls) c.loop-i.i ls past c.loop-i.invariant

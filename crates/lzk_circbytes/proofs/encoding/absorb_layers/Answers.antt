use Rattle.std.proofs.Common.{◌≡◌, ◌++◌, ◌∙◌, ◌-◌, ◌<◌, ◌≤◌, ap, sym, arith, map, reverse, ℕ, List, length}
use Rattle.std.specs.Prelude.{slice_get, Some}
use Rattle.std.proofs.lemmas.List.{length-map, length-reverse}
use Rattle.sha2.specs.Hashers.{Holds256}
use Rattle.lzk_circbytes.specs.Numbered.{numbered_layer}
use Rattle.lzk_circbytes.specs.Spelling.{layer_bytes}
use Rattle.lzk_circbytes.specs.Answers.{under}
use Rattle.lzk_circbytes.proofs.Written.{can_write_at, at_reverse}
use Rattle.lzk_circbytes.proofs.Absorbing.{absorb_goes_on, absorb_ends}
use Rattle.lzk_circbytes.proofs.encoding.absorb_layers.Goals as goal

pub push_layer-requires-clause-fit : goal.push_layer-requires-clause-fit
push_layer-requires-clause-fit g c =
    λ κs outlives. (can_write_at g.F.Field.coding.number c.args.constants.now.numbers.now c.args.circuit.now.layers (c.depth-depth.result - 1 - c.loop-i.i) c.layer.result.now c.requires c.layer.ensures).0

pub push_layer-requires-clause-terms : goal.push_layer-requires-clause-terms
push_layer-requires-clause-terms g c =
    λ κs outlives. (can_write_at g.F.Field.coding.number c.args.constants.now.numbers.now c.args.circuit.now.layers (c.depth-depth.result - 1 - c.loop-i.i) c.layer.result.now c.requires c.layer.ensures).1

pub loop-i-preserved : goal.loop-i-preserved
loop-i-preserved g c =
    let number = g.F.Field.coding.number in
    let layers = c.args.circuit.now.layers in
    let ls = reverse (map (numbered_layer number) layers) in
    let cs = c.args.constants.now.numbers.now in
    let i = c.loop-i.i in
    let layer = c.layer.result.now in
    let in_range : i < length layers = omega (arith, c.loop-i-test.true, c.depth-depth.ensures.depth) in
    let in_reverse : i < length ls = omega (arith, c.loop-i-test.true, c.depth-depth.ensures.depth, length-map layers (numbered_layer number), length-reverse (map (numbered_layer number) layers)) in
    let there : slice_get layers (length layers - 1 - i) ≡ Some layer = ap (λ (n : ℕ). slice_get layers (n - 1 - i)) (sym c.depth-depth.ensures.depth) ∙ c.layer.ensures in
    let written = c.in_ok-push_layer.ensures ∙ ap (λ (xs : List ℕ). xs ++ layer_bytes cs (under 0 0 0) (numbered_layer number layer)) c.clear.ensures.items in
    absorb_goes_on Holds256 cs (under 0 0 0) c.args.hasher.now c.loop-i.hasher c.update.new.self i (numbered_layer number layer) ls c.as_slice.result.now in_reverse (at_reverse number layers i layer in_range there) (c.as_slice.ensures.value ∙ written) c.update.ensures c.loop-i.invariant

pub returns : goal.returns
returns g c =
    let number = g.F.Field.coding.number in
    let layers = c.args.circuit.now.layers in
    let ls = reverse (map (numbered_layer number) layers) in
    let past : length ls ≤ c.loop-i.i = omega (arith, c.loop-i-test.false, c.depth-depth.ensures.depth, length-map layers (numbered_layer number), length-reverse (map (numbered_layer number) layers)) in
    absorb_ends Holds256 c.args.constants.now.numbers.now c.args.hasher.now c.loop-i.hasher c.loop-i.i ls past c.loop-i.invariant

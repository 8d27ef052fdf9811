use Rattle.std.proofs.Common.{◌≡◌, ◌<◌, [], length, ap, sym, ◌∙◌, subst, arith}
use Rattle.std.specs.Prelude.{slice_index_or}
use Rattle.std.proofs.lemmas.List.{get_or_default}
use Rattle.lzk_layout.specs.Places.{bits_under}
use Rattle.lzk_sumcheck.specs.declared.script.LayerScript.{LayerScript}
use Rattle.lzk_sumcheck.specs.Script.{HasBits, layer_at}
use Rattle.lzk_accept.proofs.ShapeLaws.{layer_shape}
use Rattle.lzk_accept.proofs.claims.layer_of.Goals as goal

pub offset_bounds-layers-l : goal.offset_bounds-layers-l
offset_bounds-layers-l g c = omega (arith, ap length c.as_slice-layers.ensures, c.args.scripted.now.shape.depth, c.requires.layer)

pub bounds-layers-l : goal.bounds-layers-l
bounds-layers-l g c = omega (arith, ap length c.as_slice-layers.ensures, c.args.scripted.now.shape.depth, c.requires.layer)

pub returns-clause-layer : goal.returns-clause-layer
returns-clause-layer g c =
    let o = g.F.Field.ops in
    let l = c.args.l in
    let found = c.index-layers-l in
    let none : LayerScript g.row.F.Denot = record { alpha = o.zero; beta = o.zero; ra = []; rb = [] } in
    let inside : l < length c.as_slice-layers.result.now = omega (arith, ap length c.as_slice-layers.ensures, c.args.scripted.now.shape.depth, c.requires.layer) in
    found.is ∙ get_or_default c.as_slice-layers.result.now l found.result none inside ∙ ap (λ xs. slice_index_or xs l none) c.as_slice-layers.ensures

pub returns-clause-bits : goal.returns-clause-bits
returns-clause-bits g c =
    let o = g.F.Field.ops in
    let a = c.args in
    let w = a.scripted.now.circuit.now in
    let found = c.index-layers-l in
    let none : LayerScript g.row.F.Denot = record { alpha = o.zero; beta = o.zero; ra = []; rb = [] } in
    let inside : a.l < length c.as_slice-layers.result.now = omega (arith, ap length c.as_slice-layers.ensures, a.scripted.now.shape.depth, c.requires.layer) in
    let layer : found.result ≡ layer_at o a.scripted.now.script.now a.l = found.is ∙ get_or_default c.as_slice-layers.result.now a.l found.result none inside ∙ ap (λ xs. slice_index_or xs a.l none) c.as_slice-layers.ensures in
    subst (HasBits (bits_under w a.l)) (sym layer) (layer_shape o w a.scripted.now.script.now a.scripted.now.shape a.l c.requires.layer)

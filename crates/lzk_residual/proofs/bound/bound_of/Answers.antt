use Rattle.std.proofs.Common.{◌+◌, ap, sym, ◌∙◌, arith, subst}
use Rattle.std.proofs.lemmas.Option.{get_or_from_slice_get, slice_get_within}
use Rattle.lzk_circuit.specs.Sums.{sum_list}
use Rattle.std.specs.Prelude.{None}
use Rattle.lzk_circuit.specs.Valid.{ArePlaced}
use Rattle.lzk_sumcheck.proofs.LayerShapes.{terms-placed-at}
use Rattle.lzk_layout.specs.Places.{width_at}
use Rattle.lzk_sumcheck.specs.Script.{layer_at, point_a}
use Rattle.lzk_accept.specs.Bound.{counts_at}
use Rattle.lzk_accept.proofs.BoundLaws.{bound_sum}
use Rattle.lzk_accept.proofs.ShapeLaws.{wires_is, terms_is}
use Rattle.lzk_residual.proofs.bound.bound_of.Goals as goal

pub points_on-requires-clause-layer : goal.points_on-requires-clause-layer
points_on-requires-clause-layer g c κs within = omega (arith, c.requires.layer)

pub returns : goal.returns
returns g c =
    let o = g.F.Field.ops in
    let w = c.args.scripted.now.circuit.now in
    let s = c.args.scripted.now.script.now in
    let l = c.args.l in
    let layer = c.layer.result.now in
    let L = layer_at o s l in
    let ts = c.as_slice.result.now in
    let at = get_or_from_slice_get w.layers l layer layer c.layer.ensures in
    let own = subst (λ x. ArePlaced x.wires (width_at w (l + 1)) None x.terms) at (terms-placed-at o w l layer (slice_get_within w.layers l layer c.layer.ensures) c.valid_laws.ensures) in
    let placed = subst (λ k. ArePlaced k (width_at w (l + 1)) None layer.terms) (wires_is w l layer c.layer.ensures) own in
    c.sum_at.ensures
    ∙ ap (λ x. sum_list o ts (counts_at o x.alpha x.beta c.points_on.result.0.now c.points_on.result.1.now x.ra x.rb)) c.layer_of-layer.ensures.layer
    ∙ ap (λ x. sum_list o ts (counts_at o L.alpha L.beta x c.points_on.result.1.now L.ra L.rb)) c.points_on.ensures.first
    ∙ ap (λ x. sum_list o ts (counts_at o L.alpha L.beta (point_a o s l) x L.ra L.rb)) c.points_on.ensures.second
    ∙ bound_sum o g.F.Field.laws.ring w s l ts (c.as_slice.ensures ∙ terms_is w l layer c.layer.ensures)
    (subst (λ xs. ArePlaced (width_at w l) (width_at w (l + 1)) None xs) (sym c.as_slice.ensures) placed)

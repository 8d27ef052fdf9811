use Rattle.std.proofs.Common.{◌+◌, ap, ◌∙◌}
use Rattle.lzk_field.specs.Sums.{entry}
use Rattle.lzk_layout.specs.declared.places.LayerPlaces.{LayerPlaces}
use Rattle.lzk_residual.proofs.claims.product_of.Goals as goal

pub returns : goal.returns
returns g c =
    let o = g.F.Field.ops in
    let x = c.args.witnessed.now in
    let ms = x.exchange.messages.now in
    let w = x.w.now in
    let places = c.places_at-places.result in
    let s0 = c.entry_at-s0.result in
    let s1 = c.entry_at-s1.result in
    let d0 = c.entry_at-d0.result in
    let d1 = c.entry_at-d1.result in
    let e = c.entry_at-e.result in
    let A = g.row.F.Denot in
    let sum : A → A → A → A → A → A = λ s0 s1 d0 d1 e. o.plus (o.plus (o.plus (o.times s0 s1) (o.times s0 d1)) (o.times s1 d0)) e in
    let at = λ (p : LayerPlaces). sum (entry o ms p.factors_sent) (entry o ms (p.factors_sent + 1)) (entry o w p.factors) (entry o w (p.factors + 1)) (entry o w (p.factors + 2)) in
    c.add-3.ensures ∙ ap (λ y. o.plus y e) (c.add-2.ensures ∙ ap (λ y. o.plus y c.mul-3.result) (c.add.ensures ∙ ap (λ y. o.plus y c.mul-2.result) c.mul.ensures ∙ ap (o.plus (o.times s0 s1)) c.mul-2.ensures)
    ∙ ap (o.plus (o.plus (o.times s0 s1) (o.times s0 d1))) c.mul-3.ensures)
    ∙ ap (λ y. sum y s1 d0 d1 e) c.entry_at-s0.ensures
    ∙ ap (λ y. sum (entry o ms places.factors_sent) y d0 d1 e) c.entry_at-s1.ensures
    ∙ ap (λ y. sum (entry o ms places.factors_sent) (entry o ms (places.factors_sent + 1)) y d1 e) c.entry_at-d0.ensures
    ∙ ap (λ y. sum (entry o ms places.factors_sent) (entry o ms (places.factors_sent + 1)) (entry o w places.factors) y e) c.entry_at-d1.ensures
    ∙ ap (λ y. sum (entry o ms places.factors_sent) (entry o ms (places.factors_sent + 1)) (entry o w places.factors) (entry o w (places.factors + 1)) y) c.entry_at-e.ensures
    ∙ ap at c.places_at-places.ensures.places

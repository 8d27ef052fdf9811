use Rattle.std.proofs.Common.{suc, ◌≡◌, ◌+◌, ◌^◌, ◌≤◌, length, sym, ap, ◌∙◌, arith, subst, ◌<◌}
use Rattle.std.specs.Prelude.{slice_get}
use Rattle.lzk_field.specs.Sums.{entry}
use Rattle.lzk_mle.specs.Multilinear.{eq}
use Rattle.lzk_circuit.specs.Sums.{sum_list}
use Rattle.lzk_circuit.proofs.BitLaws.{bits_enough}
use Rattle.lzk_layout.specs.Places.{width_at, bits_under}
use Rattle.lzk_sumcheck.specs.Script.{point_a, point_b}
use Rattle.lzk_accept.specs.Walks.{counted}
use Rattle.lzk_accept.proofs.ShapeLaws.{layer_shape}
use Rattle.lzk_accept.proofs.TermWalks.{bound_by_tables, layer_distinct, distinct_within}
use Rattle.lzk_accept.proofs.tables.layer_bound.Goals as goal

pub set_weights-requires-clause-room : goal.set_weights-requires-clause-room
set_weights-requires-clause-room g c κs within =
    omega (arith, c.width.ensures, bits_enough (width_at c.args.scripted.now.circuit.now c.args.l), c.requires.tables.room c.args.l (omega (arith, c.requires.layer)))

pub set_table-requires-clause-width : goal.set_table-requires-clause-width
set_table-requires-clause-width g c κs within =
    let o = g.F.Field.ops in
    let w = c.args.scripted.now.circuit.now in
    let e : length c.as_slice.result.now ≡ bits_under w c.args.l = ap length (c.as_slice.ensures ∙ ap (λ x. x.ra) c.layer_of-layer.ensures.layer) ∙ (layer_shape o w c.args.scripted.now.script.now c.args.scripted.now.shape c.args.l c.requires.layer).ra in
    omega (arith, ap (λ n. 2 ^ n) e, c.width-below.ensures, bits_enough (width_at w (c.args.l + 1)))

pub set_table-requires-clause-room : goal.set_table-requires-clause-room
set_table-requires-clause-room g c κs within =
    let o = g.F.Field.ops in
    let w = c.args.scripted.now.circuit.now in
    let e : length c.as_slice.result.now ≡ bits_under w c.args.l = ap length (c.as_slice.ensures ∙ ap (λ x. x.ra) c.layer_of-layer.ensures.layer) ∙ (layer_shape o w c.args.scripted.now.script.now c.args.scripted.now.shape c.args.l c.requires.layer).ra in
    omega (arith, ap (λ n. 2 ^ n) e, c.requires.tables.room (c.args.l + 1) (omega (arith, c.requires.layer)), c.requires.tables.first)

pub set_table-requires-2-clause-width : goal.set_table-requires-2-clause-width
set_table-requires-2-clause-width g c κs within =
    let o = g.F.Field.ops in
    let w = c.args.scripted.now.circuit.now in
    let e : length c.as_slice-2.result.now ≡ bits_under w c.args.l = ap length (c.as_slice-2.ensures ∙ ap (λ x. x.rb) c.layer_of-layer.ensures.layer) ∙ (layer_shape o w c.args.scripted.now.script.now c.args.scripted.now.shape c.args.l c.requires.layer).rb in
    omega (arith, ap (λ n. 2 ^ n) e, c.width-below.ensures, bits_enough (width_at w (c.args.l + 1)))

pub set_table-requires-2-clause-room : goal.set_table-requires-2-clause-room
set_table-requires-2-clause-room g c κs within =
    let o = g.F.Field.ops in
    let w = c.args.scripted.now.circuit.now in
    let e : length c.as_slice-2.result.now ≡ bits_under w c.args.l = ap length (c.as_slice-2.ensures ∙ ap (λ x. x.rb) c.layer_of-layer.ensures.layer) ∙ (layer_shape o w c.args.scripted.now.script.now c.args.scripted.now.shape c.args.l c.requires.layer).rb in
    omega (arith, ap (λ n. 2 ^ n) e, c.requires.tables.room (c.args.l + 1) (omega (arith, c.requires.layer)), c.requires.tables.second)

pub invariant_of-weighed : goal.invariant_of-weighed
invariant_of-weighed g c =
    record {
      placed = λ i t is.
          let o = g.F.Field.ops in
          let w = c.args.scripted.now.circuit.now in
          let l = c.args.l in
          let layer = c.layer.result.now in
          let below = distinct_within o (width_at w l) (width_at w (l + 1)) layer.terms (layer_distinct o g.F.Field.laws.ring w l layer c.valid_laws.ensures c.layer.ensures) i t
          (ap (λ ts. slice_get ts i) (sym c.as_slice-3.ensures) ∙ is) in
          let here : width_at w l ≤ length c.set_weights.new.weights = omega (arith, c.set_weights.ensures.length, bits_enough (width_at w l), c.requires.tables.room l (omega (arith, c.requires.layer))) in
          let one : width_at w (l + 1) ≤ length c.set_table.new.table = omega (arith, c.set_table.ensures.length, bits_enough (width_at w (l + 1)), c.requires.tables.room (l + 1) (omega (arith, c.requires.layer)), c.requires.tables.first) in
          let two : width_at w (l + 1) ≤ length c.set_table-2.new.table = omega (arith, c.set_table-2.ensures.length, bits_enough (width_at w (l + 1)), c.requires.tables.room (l + 1) (omega (arith, c.requires.layer)), c.requires.tables.second) in
          (omega (arith, below.0), omega (arith, below.1), omega (arith, below.2));
    }

pub returns-clause-at : goal.returns-clause-at
returns-clause-at g c =
    let o = g.F.Field.ops in
    let w = c.args.scripted.now.circuit.now in
    let s = c.args.scripted.now.script.now in
    let l = c.args.l in
    let is = c.as_slice.ensures ∙ ap (λ x. x.ra) c.layer_of-layer.ensures.layer in
    let is_b = c.as_slice-2.ensures ∙ ap (λ x. x.rb) c.layer_of-layer.ensures.layer in
    record {
      first = λ k h. c.set_table.ensures.entries k (subst (λ n. k < n) (sym c.width-below.ensures) h) ∙ ap (eq o k) is ∙ (let next : suc l ≡ l + 1 = omega arith in ap (λ n. eq o k (point_a o s n)) next);
      second = λ k h. c.set_table-2.ensures.entries k (subst (λ n. k < n) (sym c.width-below.ensures) h) ∙ ap (eq o k) is_b ∙ (let next : suc l ≡ l + 1 = omega arith in ap (λ n. eq o k (point_b o s n)) next);
    }

pub returns-clause-value : goal.returns-clause-value
returns-clause-value g c =
    let o = g.F.Field.ops in
    let w = c.args.scripted.now.circuit.now in
    let s = c.args.scripted.now.script.now in
    let l = c.args.l in
    let layer = c.layer.result.now in
    let weights = c.set_weights.new.weights in
    let first = c.set_table.new.table in
    let second = c.set_table-2.new.table in
    let ia = c.as_slice.ensures ∙ ap (λ x. x.ra) c.layer_of-layer.ensures.layer in
    let ib = c.as_slice-2.ensures ∙ ap (λ x. x.rb) c.layer_of-layer.ensures.layer in
    c.sum_terms.ensures ∙ ap (λ ts. sum_list o ts (counted o c.layer_of-layer.result.now.beta weights first second)) c.as_slice-3.ensures
    ∙ ap (λ x. sum_list o layer.terms (counted o x.beta weights first second)) c.layer_of-layer.ensures.layer
    ∙ bound_by_tables o g.F.Field.laws.ring w s l layer weights first second c.valid_laws.ensures c.layer.ensures
    (λ k h. c.set_weights.ensures.entries k (subst (λ n. k < n) (sym c.width.ensures) h)
    ∙ ap (λ x. o.plus x (o.times c.layer_of-layer.result.now.alpha (entry o c.args.second.now k))) (c.requires.at.first k h)
    ∙ ap (λ x. o.plus (eq o k (point_a o s l)) (o.times c.layer_of-layer.result.now.alpha x)) (c.requires.at.second k h)
    ∙ ap (λ x. o.plus (eq o k (point_a o s l)) (o.times x.alpha (eq o k (point_b o s l)))) c.layer_of-layer.ensures.layer)
    (λ k h. c.set_table.ensures.entries k (subst (λ n. k < n) (sym c.width-below.ensures) h) ∙ ap (eq o k) ia)
    (λ k h. c.set_table-2.ensures.entries k (subst (λ n. k < n) (sym c.width-below.ensures) h) ∙ ap (eq o k) ib)

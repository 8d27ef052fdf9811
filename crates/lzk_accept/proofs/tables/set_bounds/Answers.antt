use Rattle.std.proofs.Common.{◌≡◌, ◌^◌, ◌<◌, length, refl, sym, ap, ◌∙◌, subst, arith}
use Rattle.std.proofs.lemmas.List.{length-set}
use Rattle.lzk_mle.specs.Multilinear.{eq}
use Rattle.lzk_circuit.proofs.BitLaws.{bits_enough}
use Rattle.lzk_layout.specs.Places.{depth, width_at, output_bits}
use Rattle.lzk_sumcheck.specs.Coefficients.{coefficients, bound_at}
use Rattle.lzk_accept.specs.Kept.{AreTablesAt}
use Rattle.lzk_accept.proofs.TableLaws.{bounds_more}
use Rattle.lzk_accept.proofs.tables.set_bounds.Goals as goal

pub set_table-requires-clause-width : goal.set_table-requires-clause-width
set_table-requires-clause-width g c κs within =
    let w = c.args.scripted.now.circuit.now in
    let e : length c.as_slice-point.result.now ≡ output_bits w = ap length c.as_slice-point.ensures ∙ c.args.scripted.now.shape.out_point in
    omega (arith, ap (λ n. 2 ^ n) e, c.width-outputs.ensures, bits_enough (width_at w 0))

pub set_table-requires-2-clause-width : goal.set_table-requires-2-clause-width
set_table-requires-2-clause-width g c κs within =
    let w = c.args.scripted.now.circuit.now in
    let e : length c.as_slice-point.result.now ≡ output_bits w = ap length c.as_slice-point.ensures ∙ c.args.scripted.now.shape.out_point in
    omega (arith, ap (λ n. 2 ^ n) e, c.width-outputs.ensures, bits_enough (width_at w 0))

pub set_table-requires-clause-room : goal.set_table-requires-clause-room
set_table-requires-clause-room g c κs within =
    let w = c.args.scripted.now.circuit.now in
    let e : length c.as_slice-point.result.now ≡ output_bits w = ap length c.as_slice-point.ensures ∙ c.args.scripted.now.shape.out_point in
    omega (arith, ap (λ n. 2 ^ n) e, c.requires.tables.room 0 (omega arith), c.requires.tables.first)

pub set_table-requires-2-clause-room : goal.set_table-requires-2-clause-room
set_table-requires-2-clause-room g c κs within =
    let w = c.args.scripted.now.circuit.now in
    let e : length c.as_slice-point.result.now ≡ output_bits w = ap length c.as_slice-point.ensures ∙ c.args.scripted.now.shape.out_point in
    omega (arith, ap (λ n. 2 ^ n) e, c.requires.tables.room 0 (omega arith), c.requires.tables.second)

pub layer_bound-requires-clause-layer : goal.layer_bound-requires-clause-layer
layer_bound-requires-clause-layer g c κs within = subst (λ n. c.loop-l.l < n) c.depth-l-end.ensures.depth c.loop-l-test.true

pub bounds-bounds-l : goal.bounds-bounds-l
bounds-bounds-l g c = omega (arith, c.depth-l-end.ensures.depth, c.loop-l-test.true, c.loop-l.auto.l-end, c.requires.count, c.loop-l.invariant.bounds_length)

pub returns-clause-weights_length : goal.returns-clause-weights_length
returns-clause-weights_length g c = c.loop-l.invariant.weights_length

pub returns-clause-first_length : goal.returns-clause-first_length
returns-clause-first_length g c = c.loop-l.invariant.first_length

pub returns-clause-second_length : goal.returns-clause-second_length
returns-clause-second_length g c = c.loop-l.invariant.second_length

pub returns-clause-bounds_length : goal.returns-clause-bounds_length
returns-clause-bounds_length g c = c.loop-l.invariant.bounds_length

pub layer_bound-requires-clause-tables : goal.layer_bound-requires-clause-tables
layer_bound-requires-clause-tables g c κs within =
    let inv = c.loop-l.invariant in
    record {
      room = λ k h. omega (arith, c.requires.tables.room k h, inv.weights_length);
      first = inv.first_length ∙ c.requires.tables.first ∙ sym inv.weights_length;
      second = inv.second_length ∙ c.requires.tables.second ∙ sym inv.weights_length;
    }

pub layer_bound-requires-clause-at : goal.layer_bound-requires-clause-at
layer_bound-requires-clause-at g c κs within =
    record { first = c.loop-l.invariant.first; second = c.loop-l.invariant.second }

pub loop-l-init : goal.loop-l-init
loop-l-init g c =
    let o = g.F.Field.ops in
    record {
      bounds_length = refl;
      first_length = c.set_table.ensures.length;
      second_length = c.set_table-2.ensures.length;
      weights_length = refl;
      each = λ i h. absurd (omega (arith, h));
      first = λ k h. c.set_table.ensures.entries k (subst (λ n. k < n) (sym c.width-outputs.ensures) h) ∙ ap (eq o k) c.as_slice-point.ensures;
      second = λ k h. c.set_table-2.ensures.entries k (subst (λ n. k < n) (sym c.width-outputs.ensures) h) ∙ ap (eq o k) c.as_slice-point.ensures;
    }

pub loop-l-preserved : goal.loop-l-preserved
loop-l-preserved g c =
    let o = g.F.Field.ops in
    let w = c.args.scripted.now.circuit.now in
    let s = c.args.scripted.now.script.now in
    let l = c.loop-l.l in
    let h : l < depth w = subst (λ n. c.loop-l.l < n) c.depth-l-end.ensures.depth c.loop-l-test.true in
    let inv = c.loop-l.invariant in
    let e = c.layer_bound.ensures in
    record {
      bounds_length = length-set c.loop-l.bounds l c.layer_bound.result ∙ inv.bounds_length;
      first_length = e.first_length ∙ inv.first_length;
      second_length = e.second_length ∙ inv.second_length;
      weights_length = e.weights_length ∙ inv.weights_length;
      each = bounds_more o (bound_at o w (coefficients o w s) s) c.loop-l.bounds l c.layer_bound.result (omega (arith, inv.bounds_length, c.requires.count, h)) inv.each e.value;
      first = e.at.first;
      second = e.at.second;
    }

pub returns-clause-bounds : goal.returns-clause-bounds
returns-clause-bounds g c =
    let all : c.loop-l.l ≡ depth c.args.scripted.now.circuit.now = omega (arith, c.depth-l-end.ensures.depth, c.loop-l-test.false, c.loop-l.auto.l-end) in
    record { count = c.loop-l.invariant.bounds_length ∙ c.requires.count; each = λ i h. c.loop-l.invariant.each i (omega (arith, all, h)) }

pub returns-clause-at : goal.returns-clause-at
returns-clause-at g c =
    let o = g.F.Field.ops in
    let w = c.args.scripted.now.circuit.now in
    let all : c.loop-l.l ≡ depth w = omega (arith, c.depth-l-end.ensures.depth, c.loop-l-test.false, c.loop-l.auto.l-end) in
    subst (λ n. AreTablesAt o w c.args.scripted.now.script.now n c.loop-l.first c.loop-l.second) all
    (record { first = c.loop-l.invariant.first; second = c.loop-l.invariant.second })

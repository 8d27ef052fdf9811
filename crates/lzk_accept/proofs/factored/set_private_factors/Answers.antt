use Rattle.std.proofs.Common.{◌≡◌, ◌+◌, ◌*◌, ◌^◌, length, refl, sym, ap, ◌∙◌, arith}
use Rattle.std.proofs.lemmas.List.{with_items_is}
use Rattle.lzk_mle.specs.Multilinear.{eq}
use Rattle.lzk_circuit.specs.Bits.{bits}
use Rattle.lzk_layout.specs.Places.{depth, width_at}
use Rattle.lzk_sumcheck.specs.Script.{point_a, point_b}
use Rattle.lzk_accept.specs.Kept.{LinearForms}
use Rattle.lzk_accept.proofs.ShapeLaws.{input_bits}
use Rattle.lzk_accept.proofs.FactorLaws.{bits_within}
use Rattle.lzk_accept.proofs.factored.set_private_factors.Goals as goal

pub returns-then-rows-eq0-clause-forms : goal.returns-then-rows-eq0-clause-forms
returns-then-rows-eq0-clause-forms g c = refl

pub returns-then-rows-eq0-clause-products : goal.returns-then-rows-eq0-clause-products
returns-then-rows-eq0-clause-products g c i s hi hs = absurd (omega (arith, hi, c.if-rows-eq0.true))

pub points_on-requires-clause-layer : goal.points_on-requires-clause-layer
points_on-requires-clause-layer g c κs within = omega (arith, c.depth-depth.ensures.depth)

pub invariant_of-twice : goal.invariant_of-twice
invariant_of-twice g c = record { same = c.points_on.ensures.second_length ∙ sym c.points_on.ensures.first_length }

pub set_both_factors-requires-clause-factors : goal.set_both_factors-requires-clause-factors
set_both_factors-requires-clause-factors g c κs within = c.requires.factors

pub invariant_of-forms : goal.invariant_of-forms
invariant_of-forms g c =
    let inside = c.forms.inside in
    let set = c.set_both_factors in
    let one : length set.new.low ≡ length inside.first.items = set.auto.low ∙ ap length c.deref_mut.ensures.value in
    let other : length set.new.high ≡ length inside.second.items = set.auto.high ∙ ap length c.deref_mut-2.ensures.value in (
      ap length (with_items_is inside.first set.new.low (one ∙ sym inside.first.ok.0)) ∙ one ∙ c.forms.invariant.0,
      ap length (with_items_is inside.second set.new.high (other ∙ sym inside.second.ok.0)) ∙ other ∙ c.forms.invariant.1,
      c.forms.invariant.2,
    )

pub returns-clause-forms : goal.returns-clause-forms
returns-clause-forms g c = c.forms.view_is

pub invariant_of-taken-clause-few : goal.invariant_of-taken-clause-few
invariant_of-taken-clause-few g c =
    let d = c.depth-depth in
    let n = length c.points_on.result.0.now in
    let few = input_bits g.F.Field.ops c.args.scripted.now.circuit.now d.result n d.ensures.valid d.ensures.depth c.points_on.ensures.first_length in
    few.few

pub invariant_of-taken-clause-within : goal.invariant_of-taken-clause-within
invariant_of-taken-clause-within g c =
    let d = c.depth-depth in
    let n = length c.points_on.result.0.now in
    let few = input_bits g.F.Field.ops c.args.scripted.now.circuit.now d.result n d.ensures.valid d.ensures.depth c.points_on.ensures.first_length in
    bits_within c.args.bits n c.args.rows c.args.scripted.now.circuit.now.privates (omega (arith, c.if-rows-eq0.false)) c.requires.filled (omega (arith, few.enough))

pub invariant_of-taken-clause-numbers : goal.invariant_of-taken-clause-numbers
invariant_of-taken-clause-numbers g c =
    let d = c.depth-depth in
    let n = length c.points_on.result.0.now in
    let few = input_bits g.F.Field.ops c.args.scripted.now.circuit.now d.result n d.ensures.valid d.ensures.depth c.points_on.ensures.first_length in
    omega (arith, few.enough, c.requires.filled, c.publics.ensures)

pub set_both_factors-requires-clause-room : goal.set_both_factors-requires-clause-room
set_both_factors-requires-clause-room g c κs within =
    let w = c.args.scripted.now.circuit.now in
    let room : length c.forms.inside.weights.items ≡ c.args.forms.now.room = ap (λ (x : LinearForms g.row.F.Denot). x.room) c.forms.view_is in
    let power : 2 ^ length c.points_on.result.0.now ≡ 2 ^ bits (width_at w (depth w)) = ap (λ n. 2 ^ n) (c.points_on.ensures.first_length ∙ ap (λ l. bits (width_at w l)) c.depth-depth.ensures.depth) in
    let widest = c.requires.made.room (depth w) (omega arith) in
    record {
      first = omega (arith, power, widest, room, c.forms.invariant.0, ap length c.deref_mut.ensures.value);
      second = omega (arith, power, widest, room, c.forms.invariant.1, ap length c.deref_mut-2.ensures.value);
    }

pub returns-clause-products : goal.returns-clause-products
returns-clause-products g c i s hi hs =
    let o = g.F.Field.ops in
    let w = c.args.scripted.now.circuit.now in
    let script = c.args.scripted.now.script.now in
    let by = c.args.by in
    let n = i * 2 ^ c.args.bits + s in
    let ra : c.points_on.result.0.now ≡ point_a o script (depth w) = c.points_on.ensures.first ∙ ap (point_a o script) c.depth-depth.ensures.depth in
    let rb : c.points_on.result.1.now ≡ point_b o script (depth w) = c.points_on.ensures.second ∙ ap (point_b o script) c.depth-depth.ensures.depth in
    let first : 1 + c.publics.result ≡ 1 + w.publics = ap (λ k. 1 + k) c.publics.ensures in
    c.set_both_factors.ensures i s hi hs
    ∙ ap (λ k. o.times by (o.plus (eq o (k + n) c.points_on.result.0.now) (o.times script.gamma (eq o (k + n) c.points_on.result.1.now)))) first
    ∙ ap (λ r. o.times by (o.plus (eq o (1 + w.publics + n) r) (o.times script.gamma (eq o (1 + w.publics + n) c.points_on.result.1.now)))) ra
    ∙ ap (λ r. o.times by (o.plus (eq o (1 + w.publics + n) (point_a o script (depth w))) (o.times script.gamma (eq o (1 + w.publics + n) r)))) rb

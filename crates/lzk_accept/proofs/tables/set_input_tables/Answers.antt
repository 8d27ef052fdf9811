use Rattle.std.proofs.Common.{◌≡◌, ◌^◌, length, ap, ◌∙◌, arith, subst, ◌<◌, sym}
use Rattle.lzk_mle.specs.Multilinear.{eq}
use Rattle.lzk_circuit.specs.Bits.{bits}
use Rattle.lzk_circuit.proofs.BitLaws.{bits_enough}
use Rattle.lzk_layout.specs.Places.{depth, width_at}
use Rattle.lzk_sumcheck.specs.Script.{point_a, point_b}
use Rattle.lzk_accept.proofs.tables.set_input_tables.Goals as goal

pub set_table-requires-clause-width : goal.set_table-requires-clause-width
set_table-requires-clause-width g c κs within =
    let w = c.args.scripted.now.circuit.now in
    omega (arith, ap (λ n. 2 ^ n) c.points_on.ensures.first_length, c.width-inputs.ensures, bits_enough (width_at w c.depth-depth.result))

pub set_table-requires-clause-room : goal.set_table-requires-clause-room
set_table-requires-clause-room g c κs within =
    let w = c.args.scripted.now.circuit.now in
    let power : 2 ^ length c.points_on.result.0.now ≡ 2 ^ bits (width_at w (depth w)) = ap (λ n. 2 ^ n) (c.points_on.ensures.first_length ∙ ap (λ l. bits (width_at w l)) c.depth-depth.ensures.depth) in
    omega (arith, power, c.requires.room.first)

pub set_table-requires-2-clause-width : goal.set_table-requires-2-clause-width
set_table-requires-2-clause-width g c κs within =
    let w = c.args.scripted.now.circuit.now in
    omega (arith, ap (λ n. 2 ^ n) c.points_on.ensures.second_length, c.width-inputs.ensures, bits_enough (width_at w c.depth-depth.result))

pub set_table-requires-2-clause-room : goal.set_table-requires-2-clause-room
set_table-requires-2-clause-room g c κs within =
    let w = c.args.scripted.now.circuit.now in
    let power : 2 ^ length c.points_on.result.1.now ≡ 2 ^ bits (width_at w (depth w)) = ap (λ n. 2 ^ n) (c.points_on.ensures.second_length ∙ ap (λ l. bits (width_at w l)) c.depth-depth.ensures.depth) in
    omega (arith, power, c.requires.room.second)

pub returns-clause-at : goal.returns-clause-at
returns-clause-at g c =
    let o = g.F.Field.ops in
    let w = c.args.scripted.now.circuit.now in
    let first = c.points_on.ensures.first ∙ ap (point_a o c.args.scripted.now.script.now) c.depth-depth.ensures.depth in
    let second = c.points_on.ensures.second ∙ ap (point_b o c.args.scripted.now.script.now) c.depth-depth.ensures.depth in
    record {
      first = λ k h. c.set_table.ensures.entries k (subst (λ n. k < n) (sym (c.width-inputs.ensures ∙ ap (width_at w) c.depth-depth.ensures.depth)) h) ∙ ap (eq o k) first;
      second = λ k h. c.set_table-2.ensures.entries k (subst (λ n. k < n) (sym (c.width-inputs.ensures ∙ ap (width_at w) c.depth-depth.ensures.depth)) h) ∙ ap (eq o k) second;
    }

use Rattle.std.proofs.Common.{◌≡◌, ◌+◌, ◌-◌, ◌*◌, ◌/◌, ◌<◌, ◌≤◌, ◌^◌, length, sym, ap, ◌∙◌, subst, arith}
use Rattle.std.specs.List.{refill}
use Rattle.lzk_field.specs.Sums.{sum_below, entry}
use Rattle.lzk_circuit.specs.Bits.{bits}
use Rattle.lzk_layout.specs.declared.params.Params.{Params}
use Rattle.lzk_layout.specs.Places.{depth}
use Rattle.lzk_layout.specs.Sizes.{committed_count, params_of, AreBounded}
use Rattle.lzk_sumcheck.specs.Coefficients.{coefficients}
use Rattle.lzk_sumcheck.proofs.Filled.{refill_whole}
use Rattle.lzk_accept.specs.Challenges as drawn
use Rattle.lzk_accept.specs.Kept.{coefficient, right, private_coefficient, AreFormsOf}
use Rattle.lzk_accept.specs.Residuals.{linear_coefficient, right_side}
use Rattle.lzk_accept.proofs.FactorLaws.{width_power, row_end}
use Rattle.lzk_accept.proofs.PrivateLaws.{filled, same_privates, same_wanted, combined_behind, combined_private}
use Rattle.lzk_accept.proofs.factored.fill.Goals as goal

pub invariant_of-combining-clause-bounded : goal.invariant_of-combining-clause-bounded
invariant_of-combining-clause-bounded g c = c.of-params.ensures.bounds

pub invariant_of-combining-clause-drawn : goal.invariant_of-combining-clause-drawn
invariant_of-combining-clause-drawn g c = subst (λ (q : Params). drawn.HasShape q c.args.challenges.now) (sym c.of-params.ensures.params) c.requires.challenges

pub combine_from-wanted-requires-clause-forms : goal.combine_from-wanted-requires-clause-forms
combine_from-wanted-requires-clause-forms g c κs within =
    record { circuit = c.args.scripted.now.circuit.now; params = c.of-params.ensures.params; forms = c.requires.forms }

pub combine_from-wanted-requires-clause-room : goal.combine_from-wanted-requires-clause-room
combine_from-wanted-requires-clause-room g c κs within =
    ap length c.as_mut_slice.ensures.value ∙ c.requires.room.table ∙ ap (λ (q : Params). (q.nrow - 3 - c.args.factored.now.rows) * q.wr) (sym c.of-params.ensures.params)

pub set_private_factors-requires-clause-made : goal.set_private_factors-requires-clause-made
set_private_factors-requires-clause-made g c κs within = c.requires.forms

pub returns-clause-forms : goal.returns-clause-forms
returns-clause-forms g c = subst (AreFormsOf g.F.Field.ops c.args.scripted.now.circuit.now) (sym c.set_private_factors.ensures.forms) c.requires.forms

pub returns-clause-room : goal.returns-clause-room
returns-clause-room g c =
    let room = c.args.factored.now in
    let set = c.set_private_factors in
    let table = c.combine_from-wanted in
    let nr = set.auto.row_factors ∙ ap length c.as_mut_slice-2.ensures.value in
    let np = set.auto.place_factors ∙ ap length c.as_mut_slice-3.ensures.value in
    let nt = table.auto.table ∙ ap length c.as_mut_slice.ensures.value in
    record {
      rows = c.requires.room.rows;
      row_factors = ap length (refill_whole (length room.row_factors) room.row_factors set.new.row_factors nr) ∙ nr ∙ c.requires.room.row_factors;
      place_factors = ap length (refill_whole (length room.place_factors) room.place_factors set.new.place_factors np) ∙ np ∙ c.requires.room.place_factors;
      table = ap length (refill_whole (length room.table) room.table table.new.table nt) ∙ nt ∙ c.requires.room.table;
    }

pub invariant_of-combining-clause-filled : goal.invariant_of-combining-clause-filled
invariant_of-combining-clause-filled g c d e are =
    let o = g.F.Field.ops in
    let w = c.args.scripted.now.circuit.now in
    let wr : c.of-params.result.wr ≡ (params_of w).wr = ap (λ (q : Params). q.wr) c.of-params.ensures.params in
    let product : c.args.factored.now.rows * c.of-params.result.wr ≡ c.args.factored.now.rows * (params_of w).wr = ap (λ n. c.args.factored.now.rows * n) wr in
    let count : c.args.factored.now.rows * (params_of w).wr ≡ w.privates / (params_of w).wr * (params_of w).wr = ap (λ n. n * (params_of w).wr) c.requires.room.rows in
    let layers : depth w ≡ depth d = ap (λ (q : Params). q.layers) (sym c.of-params.ensures.params ∙ e) in
    omega (arith, product, count, filled w.privates (params_of w).wr, same_privates o w d c.args.forms.now layers c.requires.forms are)

pub set_private_factors-requires-clause-filled : goal.set_private_factors-requires-clause-filled
set_private_factors-requires-clause-filled g c κs within =
    let w = c.args.scripted.now.circuit.now in
    let wr : c.of-params.result.wr ≡ (params_of w).wr = ap (λ (q : Params). q.wr) c.of-params.ensures.params in
    let power : 2 ^ c.bits_of-bits.result ≡ (params_of w).wr = ap (λ n. 2 ^ n) (c.bits_of-bits.ensures.bits ∙ ap bits wr) ∙ width_power (committed_count w) in
    let product : c.args.factored.now.rows * 2 ^ c.bits_of-bits.result ≡ c.args.factored.now.rows * (params_of w).wr = ap (λ n. c.args.factored.now.rows * n) power in
    let count : c.args.factored.now.rows * (params_of w).wr ≡ w.privates / (params_of w).wr * (params_of w).wr = ap (λ n. n * (params_of w).wr) c.requires.room.rows in
    omega (arith, product, count, filled w.privates (params_of w).wr)

pub set_private_factors-requires-clause-factors : goal.set_private_factors-requires-clause-factors
set_private_factors-requires-clause-factors g c κs within =
    let w = c.args.scripted.now.circuit.now in
    let wr : c.of-params.result.wr ≡ (params_of w).wr = ap (λ (q : Params). q.wr) c.of-params.ensures.params in
    let power : 2 ^ c.bits_of-bits.result ≡ (params_of w).wr = ap (λ n. 2 ^ n) (c.bits_of-bits.ensures.bits ∙ ap bits wr) ∙ width_power (committed_count w) in
    record {
      of_rows = ap length c.as_mut_slice-2.ensures.value ∙ c.requires.room.row_factors;
      of_places = ap length c.as_mut_slice-3.ensures.value ∙ c.requires.room.place_factors ∙ ap (λ n. 4 * n) (sym power);
    }

pub returns-clause-combined : goal.returns-clause-combined
returns-clause-combined g c public messages rest =
    let f = g.F.Field in
    let o = f.ops in
    let w = c.args.scripted.now.circuit.now in
    let p = params_of w in
    let rows = c.args.factored.now.rows in
    let script = c.args.scripted.now.script.now in
    let ch = c.args.challenges.now in
    let q = linear_coefficient o f.coding.element w (coefficients o w script) public script messages in
    let params = c.of-params.ensures.params in
    let wr : c.of-params.result.wr ≡ p.wr = ap (λ (x : Params). x.wr) params in
    let nrow : c.of-params.result.nrow ≡ p.nrow = ap (λ (x : Params). x.nrow) params in
    let power : 2 ^ c.bits_of-bits.result ≡ p.wr = ap (λ n. 2 ^ n) (c.bits_of-bits.ensures.bits ∙ ap bits wr) ∙ width_power (committed_count w) in
    let count : rows * p.wr ≡ w.privates / p.wr * p.wr = ap (λ n. n * p.wr) c.requires.room.rows in
    let few : rows * p.wr ≤ w.privates = omega (arith, count, filled w.privates p.wr) in
    let R = c.set_private_factors.new.row_factors in
    let P = c.set_private_factors.new.place_factors in
    let table = c.combine_from-wanted.new.table in
    let room = c.args.factored.now in
    let set_rows = refill_whole (length room.row_factors) room.row_factors R (c.set_private_factors.auto.row_factors ∙ ap length c.as_mut_slice-2.ensures.value) in
    let set_places = refill_whole (length room.place_factors) room.place_factors P (c.set_private_factors.auto.place_factors ∙ ap length c.as_mut_slice-3.ensures.value) in
    let set_table = refill_whole (length room.table) room.table table (c.combine_from-wanted.auto.table ∙ ap length c.as_mut_slice.ensures.value) in
    let by = c.entry_at-by.result in
    let lambda : by ≡ entry o ch.lambda (depth w) =
    c.entry_at-by.ensures ∙ ap (λ xs. entry o xs c.depth-depth.result) c.as_slice-lambda.ensures ∙ ap (entry o ch.lambda) c.depth-depth.ensures.depth in
    record {
      private_rows = λ i s hi hs.
          ap (λ xs. sum_below o 4 (λ k. o.times (entry o xs (k * rows + i)) (entry o (refill (length room.place_factors) room.place_factors P) (k * p.wr + s)))) set_rows
          ∙ ap (λ ys. sum_below o 4 (λ k. o.times (entry o R (k * rows + i)) (entry o ys (k * p.wr + s)))) set_places
          ∙ subst (λ n. s < n → sum_below o 4 (λ k. o.times (entry o R (k * rows + i)) (entry o P (k * n + s))) ≡ o.times by (private_coefficient o w script (i * n + s))) power
          (λ h. c.set_private_factors.ensures.products i s hi h) hs
          ∙ ap (λ x. o.times x (private_coefficient o w script (i * p.wr + s))) lambda
          ∙ ap (o.times (entry o ch.lambda (depth w))) (sym (rest.inputs (i * p.wr + s) (row_end p.wr rows i s hi hs)))
          ∙ sym (combined_private o f.laws.ring w ch rows q (subst AreBounded params c.of-params.ensures.bounds) few rest.layers i s hi hs);
      other_rows = λ i s hi hs.
          ap (λ xs. entry o xs (i * p.wr + s)) set_table
          ∙ ap (λ n. entry o table (i * n + s)) (sym wr)
          ∙ c.combine_from-wanted.ensures.combined w params c.requires.forms i s (omega (arith, nrow, hi)) (omega (arith, wr, hs))
          ∙ combined_behind o f.laws.ring w ch rows (coefficient o c.args.forms.now) q rest.entries i s hs;
    }

pub returns-clause-wanted : goal.returns-clause-wanted
returns-clause-wanted g c public messages rest =
    let f = g.F.Field in
    let o = f.ops in
    let w = c.args.scripted.now.circuit.now in
    let script = c.args.scripted.now.script.now in
    let q = coefficients o w script in
    c.combine_from-wanted.ensures.wanted w c.of-params.ensures.params c.requires.forms
    ∙ same_wanted o f.laws.ring w c.args.challenges.now (right o c.args.forms.now) (right_side o f.coding.element w q public script messages) rest.rights

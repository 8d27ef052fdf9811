use Rattle.std.proofs.Common.{◌-◌, ◌*◌, ◌/◌, length, ap, ◌∙◌, arith}
use Rattle.std.proofs.lemmas.List.{length-replicate}
use Rattle.std.proofs.lemmas.Result.{IfOk-from_err}
use Rattle.lzk_layout.specs.declared.params.Params.{Params}
use Rattle.lzk_accept.proofs.CombinationLaws.{rows_within, few_entries}
use Rattle.lzk_accept.proofs.PrivateLaws.{filled}
use Rattle.lzk_accept.proofs.factored.Factored.new.Goals as goal

pub nonzero_div-rows : goal.nonzero_div-rows
nonzero_div-rows g c = omega (arith, c.of-params.ensures.bounds.wide)

pub overflow_sub-others : goal.overflow_sub-others
overflow_sub-others g c = omega (arith, c.of-params.ensures.bounds.rows)

pub overflow_sub-others-2 : goal.overflow_sub-others-2
overflow_sub-others-2 g c =
    let p = c.of-params.result in
    let bounds = c.of-params.ensures.bounds in
    let q = c.privates.result in
    let few = rows_within p (q / p.wr) bounds (omega (arith, filled q p.wr, c.privates.ensures, ap (λ (p : Params). p.nw) c.of-params.ensures.params)) in
    omega (arith, few, bounds.rows)

pub overflow_mul-others : goal.overflow_mul-others
overflow_mul-others g c =
    let p = c.of-params.result in
    omega (arith, few_entries p (p.nrow - 3 - c.privates.result / p.wr) c.of-params.ensures.bounds (omega arith))

pub returns-in_err-row_factors : goal.returns-in_err-row_factors
returns-in_err-row_factors g c = record { room = IfOk-from_err _ _ c.from_residual.ensures.0 }

pub returns-in_err-place_factors : goal.returns-in_err-place_factors
returns-in_err-place_factors g c = record { room = IfOk-from_err _ _ c.from_residual-in_err-place_factors.ensures.0 }

pub returns-in_err-table : goal.returns-in_err-table
returns-in_err-table g c = record { room = IfOk-from_err _ _ c.from_residual-in_err-table.ensures.0 }

pub returns : goal.returns
returns g c =
    let z = g.F.Field.ops.zero in
    let p = c.of-params.result in
    let params = c.of-params.ensures.params in
    let rows = c.privates.result / p.wr in
    record {
      room = record {
        rows = ap (λ n. n / p.wr) c.privates.ensures ∙ ap (λ (q : Params). c.args.circuit.now.privates / q.wr) params;
        row_factors = ap length c.in_ok-row_factors.ensures ∙ length-replicate (4 * rows) z;
        place_factors = ap length c.in_ok-place_factors.ensures ∙ length-replicate (4 * p.wr) z ∙ ap (λ (q : Params). 4 * q.wr) params;
        table = ap length c.in_ok-table.ensures ∙ length-replicate ((p.nrow - 3 - rows) * p.wr) z ∙ ap (λ (q : Params). (q.nrow - 3 - rows) * q.wr) params;
      };
    }

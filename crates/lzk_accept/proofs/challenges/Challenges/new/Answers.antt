use Rattle.std.proofs.Common.{◌+◌, ◌-◌, ◌*◌, List, length, ap, ◌∙◌, arith}
use Rattle.std.specs.Prelude.{replicate}
use Rattle.std.proofs.lemmas.List.{length-replicate}
use Rattle.std.proofs.lemmas.Result.{IfOk-from_err}
use Rattle.lzk_layout.specs.declared.params.Params.{Params}
use Rattle.lzk_accept.specs.declared.challenges.Challenges.{Challenges}
use Rattle.lzk_accept.proofs.challenges.Challenges.new.Goals as goal

pub overflow_sub-params : goal.overflow_sub-params
overflow_sub-params g c = omega (arith, ap (λ (p : Params). p.nrow) c.requires.params.are)

pub returns-in_err-u-clause-zeros : goal.returns-in_err-u-clause-zeros
returns-in_err-u-clause-zeros g c = IfOk-from_err _ _ c.from_residual.ensures.0

pub returns-in_err-u-clause-shape : goal.returns-in_err-u-clause-shape
returns-in_err-u-clause-shape g c = IfOk-from_err _ _ c.from_residual.ensures.0

pub returns-in_err-lambda-clause-zeros : goal.returns-in_err-lambda-clause-zeros
returns-in_err-lambda-clause-zeros g c = IfOk-from_err _ _ c.from_residual-in_err-lambda.ensures.0

pub returns-in_err-lambda-clause-shape : goal.returns-in_err-lambda-clause-shape
returns-in_err-lambda-clause-shape g c = IfOk-from_err _ _ c.from_residual-in_err-lambda.ensures.0

pub returns-in_err-mu-clause-zeros : goal.returns-in_err-mu-clause-zeros
returns-in_err-mu-clause-zeros g c = IfOk-from_err _ _ c.from_residual-in_err-mu.ensures.0

pub returns-in_err-mu-clause-shape : goal.returns-in_err-mu-clause-shape
returns-in_err-mu-clause-shape g c = IfOk-from_err _ _ c.from_residual-in_err-mu.ensures.0

pub returns-in_err-v-clause-zeros : goal.returns-in_err-v-clause-zeros
returns-in_err-v-clause-zeros g c = IfOk-from_err _ _ c.from_residual-in_err-v.ensures.0

pub returns-in_err-v-clause-shape : goal.returns-in_err-v-clause-shape
returns-in_err-v-clause-shape g c = IfOk-from_err _ _ c.from_residual-in_err-v.ensures.0

pub returns-clause-zeros : goal.returns-clause-zeros
returns-clause-zeros g c =
    let z = g.F.Field.ops.zero in
    let p = c.args.params.now in
    let A = g.row.F.Denot in
    let make : List A → List A → List A → List A → Challenges A = λ x y w v. record { u = x; lambda = y; mu = w; v = v } in
    ap (λ x. make x c.in_ok-lambda.lambda c.in_ok-mu.mu c.in_ok-v.v) c.in_ok-u.ensures
    ∙ ap (λ y. make (replicate (p.nrow - 3) z) y c.in_ok-mu.mu c.in_ok-v.v) c.in_ok-lambda.ensures
    ∙ ap (λ w. make (replicate (p.nrow - 3) z) (replicate (p.layers + 1) z) w c.in_ok-v.v) c.in_ok-mu.ensures
    ∙ ap (make (replicate (p.nrow - 3) z) (replicate (p.layers + 1) z) (replicate (3 * p.layers) z)) c.in_ok-v.ensures

pub returns-clause-shape : goal.returns-clause-shape
returns-clause-shape g c =
    let z = g.F.Field.ops.zero in
    let p = c.args.params.now in
    record {
      u = ap length c.in_ok-u.ensures ∙ length-replicate (p.nrow - 3) z;
      lambda = ap length c.in_ok-lambda.ensures ∙ length-replicate (p.layers + 1) z;
      mu = ap length c.in_ok-mu.ensures ∙ length-replicate (3 * p.layers) z;
      v = ap length c.in_ok-v.ensures ∙ length-replicate p.ntriple z;
    }

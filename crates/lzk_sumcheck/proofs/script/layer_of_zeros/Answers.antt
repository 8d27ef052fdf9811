use Rattle.std.proofs.Common.{List, ap, ◌∙◌}
use Rattle.std.specs.Prelude.{replicate}
use Rattle.std.proofs.lemmas.Result.{IfOk-from_err}
use Rattle.lzk_sumcheck.specs.declared.script.LayerScript.{LayerScript}
use Rattle.lzk_sumcheck.proofs.script.layer_of_zeros.Goals as goal

pub returns-in_err-ra : goal.returns-in_err-ra
returns-in_err-ra g c = IfOk-from_err _ _ c.from_residual.ensures.0

pub returns-in_err-rb : goal.returns-in_err-rb
returns-in_err-rb g c = IfOk-from_err _ _ c.from_residual-in_err-rb.ensures.0

pub returns : goal.returns
returns g c =
    let z = g.F.Field.ops.zero in
    let A = g.row.F.Denot in
    let make : A → A → List A → List A → LayerScript A = λ a b x y. record { alpha = a; beta = b; ra = x; rb = y } in
    let none = replicate c.args.bits z in
    ap (λ a. make a c.zero-2.result c.in_ok-ra.ra c.in_ok-rb.rb) c.zero.ensures
    ∙ ap (λ b. make z b c.in_ok-ra.ra c.in_ok-rb.rb) c.zero-2.ensures
    ∙ ap (λ x. make z z x c.in_ok-rb.rb) c.in_ok-ra.ensures
    ∙ ap (make z z none) c.in_ok-rb.ensures

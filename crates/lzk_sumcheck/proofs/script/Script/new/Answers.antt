use Rattle.std.proofs.Common.{List, ap, ◌∙◌}
use Rattle.std.proofs.lemmas.Result.{IfOk-from_err}
use Rattle.std.proofs.Math.ListN.{replicate}
use Rattle.lzk_layout.specs.Places.{output_bits}
use Rattle.lzk_sumcheck.specs.declared.script.LayerScript.{LayerScript}
use Rattle.lzk_sumcheck.specs.declared.script.Script.{Script}
use Rattle.lzk_sumcheck.specs.Script.{zero_script}
use Rattle.lzk_sumcheck.proofs.ShapeLaws.{zero_whole}
use Rattle.lzk_sumcheck.proofs.script.Script.new.Goals as goal

pub returns-in_err-out_point-clause-zeros : goal.returns-in_err-out_point-clause-zeros
returns-in_err-out_point-clause-zeros g c = IfOk-from_err _ _ c.from_residual.ensures.0

pub returns-in_err-out_point-clause-shape : goal.returns-in_err-out_point-clause-shape
returns-in_err-out_point-clause-shape g c = IfOk-from_err _ _ c.from_residual.ensures.0

pub returns-in_err-layers-clause-zeros : goal.returns-in_err-layers-clause-zeros
returns-in_err-layers-clause-zeros g c = IfOk-from_err _ _ c.from_residual-in_err-layers.ensures.0

pub returns-in_err-layers-clause-shape : goal.returns-in_err-layers-clause-shape
returns-in_err-layers-clause-shape g c = IfOk-from_err _ _ c.from_residual-in_err-layers.ensures.0

pub returns-clause-zeros : goal.returns-clause-zeros
returns-clause-zeros g c =
    let z = g.F.Field.ops.zero in
    let w = c.args.circuit.now in
    let A = g.row.F.Denot in
    let make : List A → List (LayerScript A) → A → Script A = λ x y a. record { out_point = x; layers = y; gamma = a } in
    ap (λ x. make x c.in_ok-layers.layers c.zero.result) (c.in_ok-out_point.ensures ∙ ap (λ n. replicate n z) c.output_bits_of.ensures)
    ∙ ap (λ y. make (replicate (output_bits w) z) y c.zero.result) c.in_ok-layers.ensures
    ∙ ap (make (replicate (output_bits w) z) (zero_script g.F.Field.ops w).layers) c.zero.ensures

pub returns-clause-shape : goal.returns-clause-shape
returns-clause-shape g c =
    let o = g.F.Field.ops in
    zero_whole o c.args.circuit.now c.in_ok-out_point.out_point c.in_ok-layers.layers c.zero.result
    (c.in_ok-out_point.ensures ∙ ap (λ n. replicate n o.zero) c.output_bits_of.ensures) c.in_ok-layers.ensures c.zero.ensures

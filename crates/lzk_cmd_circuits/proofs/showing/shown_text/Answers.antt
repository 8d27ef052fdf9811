use Rattle.std.proofs.Common.{◌++◌, ◌≤◌, length, arith, sym, ap, ◌∙◌}
use Rattle.std.proofs.lemmas.List.{append-nil, drop_all}
use Rattle.std.proofs.lemmas.Result.{IfOk-from_err}
use Rattle.std.specs.Prelude.{string_bytes}
use Rattle.lzk_cmd_files.specs.Lines.{counts_lines, layer_line}
use Rattle.lzk_cmd_circuits.specs.Evaluated.{layer_lines}
use Rattle.lzk_cmd_circuits.proofs.Outputs.{one_more_layer}
use Rattle.lzk_cmd_circuits.proofs.showing.shown_text.Goals as goal

pub loop-l-preserved : goal.loop-l-preserved
loop-l-preserved g c =
    let layer = c.layer-layer.result.now in
    one_more_layer layer c.args.circuit.now.layers c.loop-l.l (string_bytes c.loop-l.text) (string_bytes c.push_layer.new.text) _ c.layer-layer.ensures
    (c.in_ok-push_layer.ensures ∙ ap (λ terms. string_bytes c.loop-l.text ++ layer_line c.loop-l.l layer.wires (length terms)) c.as_slice.ensures) c.loop-l.invariant

pub loop-l-init : goal.loop-l-init
loop-l-init g c =
    ap (λ t. t ++ layer_lines 0 c.args.circuit.now.layers)
    (c.in_ok-text.ensures ∙ (λ j. counts_lines c.args.field.now (c.version.ensures.version j) (c.requires.id j) (c.publics.ensures j) (c.privates.ensures j) (c.depth.ensures.depth j)))

pub returns-in_err-text : goal.returns-in_err-text
returns-in_err-text g c = IfOk-from_err _ _ c.from_residual.ensures.0

pub returns-in_err-push_layer : goal.returns-in_err-push_layer
returns-in_err-push_layer g c = IfOk-from_err _ _ c.from_residual-in_err-push_layer.ensures.0

pub returns : goal.returns
returns g c =
    let layers = c.args.circuit.now.layers in
    let l = c.loop-l.l in
    let text = string_bytes c.loop-l.text in
    let end : length layers ≤ l = omega (arith, c.depth-l-end.ensures.depth, c.loop-l-test.false) in
    sym (append-nil text) ∙ ap (λ ls. text ++ layer_lines l ls) (sym (drop_all l layers end)) ∙ c.loop-l.invariant

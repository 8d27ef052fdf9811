use Rattle.std.proofs.Common.{◌≡◌, ◌++◌, ◌<◌, ◌≤◌, length, map, arith, sym, ap, ◌∙◌}
use Rattle.std.proofs.lemmas.List.{append-nil, drop_all, length-map}
use Rattle.std.proofs.lemmas.Result.{IfOk-from_err}
use Rattle.std.specs.Prelude.{string_bytes}
use Rattle.lzk_cmd_files.specs.Lines.{output_line}
use Rattle.lzk_cmd_circuits.specs.Evaluated.{output_lines}
use Rattle.lzk_cmd_circuits.proofs.Outputs.{one_more}
use Rattle.lzk_cmd_circuits.proofs.evaluating.output_lines.Goals as goal

pub loop-k-preserved : goal.loop-k-preserved
loop-k-preserved g c =
    let number = g.F.Field.coding.number in
    let checks = c.args.values.now.checks in
    let k = c.loop-k.k in
    let below : k < length checks = omega (arith, c.requires.count, c.loop-k-test.true) in
    let value : c.number.result ≡ number c.check.result = c.number.ensures in
    one_more number g.F.Field.ops.zero c.check.result checks k (string_bytes c.loop-k.text) (string_bytes c.push_output.new.text) _ below c.check.ensures
    (c.in_ok-push_output.ensures ∙ ap (λ v. string_bytes c.loop-k.text ++ output_line k v) value) c.loop-k.invariant

pub loop-k-init : goal.loop-k-init
loop-k-init g c = ap (λ t. t ++ output_lines 0 (map g.F.Field.coding.number c.args.values.now.checks)) c.new-text.ensures.bytes

pub returns-in_err-push_output : goal.returns-in_err-push_output
returns-in_err-push_output g c = IfOk-from_err _ _ c.from_residual.ensures.0

pub returns : goal.returns
returns g c =
    let numbers = map g.F.Field.coding.number c.args.values.now.checks in
    let k = c.loop-k.k in
    let text = string_bytes c.loop-k.text in
    let end : length numbers ≤ k = omega (arith, length-map c.args.values.now.checks g.F.Field.coding.number, c.requires.count, c.loop-k-test.false) in
    sym (append-nil text) ∙ ap (λ xs. text ++ output_lines k xs) (sym (drop_all k numbers end)) ∙ c.loop-k.invariant

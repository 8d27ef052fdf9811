use Rattle.std.proofs.lemmas.Result.{IfOk-from_err}
use Rattle.std.proofs.Common.{length, ap, ◌∙◌}
use Rattle.lzk_cmd_files.specs.Lines.{compiled_line}
use Rattle.lzk_cmd_circuits.specs.Compiled.{term_count}
use Rattle.lzk_cmd_circuits.proofs.compiling.file_over.Goals as goal

pub returns-in_err-bytes-clause-file : goal.returns-in_err-bytes-clause-file
returns-in_err-bytes-clause-file g c = IfOk-from_err _ _ c.from_residual.ensures.0

pub returns-in_err-bytes-clause-text : goal.returns-in_err-bytes-clause-text
returns-in_err-bytes-clause-text g c = IfOk-from_err _ _ c.from_residual.ensures.0

pub returns-in_err-text-clause-file : goal.returns-in_err-text-clause-file
returns-in_err-text-clause-file g c = IfOk-from_err _ _ c.from_residual-in_err-text.ensures.0

pub returns-in_err-text-clause-text : goal.returns-in_err-text-clause-text
returns-in_err-text-clause-text g c = IfOk-from_err _ _ c.from_residual-in_err-text.ensures.0

pub returns-clause-file : goal.returns-clause-file
returns-clause-file g c = c.in_ok-bytes.ensures.file

pub returns-clause-text : goal.returns-clause-text
returns-clause-text g c =
    let name = c.args.name.now in
    let layers = c.args.circuit.now.layers in
    c.in_ok-text.ensures ∙ ap (λ depth. compiled_line name depth c.count_terms-terms.result c.len.result) c.depth.ensures.depth
    ∙ ap (λ terms. compiled_line name (length layers) terms c.len.result) c.count_terms-terms.ensures
    ∙ ap (compiled_line name (length layers) (term_count layers)) (c.len.ensures ∙ c.in_ok-bytes.bytes.ok.0)

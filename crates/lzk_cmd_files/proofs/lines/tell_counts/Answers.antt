use Rattle.std.proofs.Common.{◌≡◌, ◌++◌, ◌∙◌, ℕ, List, ap}
use Rattle.std.proofs.lemmas.Result.{IfOk-from_err}
use Rattle.std.specs.Prelude.{codes, string_bytes}
use Rattle.hex.specs.Hex.{encode_lower}
use Rattle.lzk_cmd_files.specs.Lines.{pair_line, version_lines, count_line}
use Rattle.lzk_cmd_files.proofs.lines.tell_counts.Goals as goal

pub returns-in_err-push_pair : goal.returns-in_err-push_pair
returns-in_err-push_pair c = IfOk-from_err _ _ c.from_residual.ensures.0

pub returns-in_err-push_version : goal.returns-in_err-push_version
returns-in_err-push_version c = IfOk-from_err _ _ c.from_residual-in_err-push_version.ensures.0

pub returns-in_err-push_id : goal.returns-in_err-push_id
returns-in_err-push_id c = IfOk-from_err _ _ c.from_residual-in_err-push_id.ensures.0

pub returns-in_err-push_counts : goal.returns-in_err-push_counts
returns-in_err-push_counts c = IfOk-from_err _ _ c.from_residual-in_err-push_counts.ensures.0

pub returns : goal.returns
returns c =
    let a = c.args in
    let field = pair_line (codes "field") a.field.now in
    let version = version_lines a.version in
    let id = pair_line (codes "id") (encode_lower a.digest.now) in
    let more = λ (l : List ℕ). l ++ count_line (codes "public") a.publics ++ count_line (codes "private") a.privates ++ count_line (codes "layers") a.layers in
    let first : string_bytes c.push_pair.new.text ≡ field = c.in_ok-push_pair.ensures ∙ ap (λ l. l ++ field) c.new-text.ensures.bytes in
    let second : string_bytes c.push_version.new.text ≡ field ++ version = c.in_ok-push_version.ensures ∙ ap (λ l. l ++ version) first in
    let third : string_bytes c.push_id.new.text ≡ field ++ version ++ id = c.in_ok-push_id.ensures ∙ ap (λ l. l ++ id) second in
    c.in_ok-push_counts.ensures ∙ ap more third

use Rattle.std.proofs.Common.{◌∙◌, List, ℕ, ap}
use Rattle.std.specs.Prelude.{String, string_bytes}
use Rattle.std.specs.declared.alloc.Global.{Global}
use Rattle.std.specs.Option.{option_map}
use Rattle.lzk_cmd_words.specs.KeyViews.{keys_view, request_view}
use Rattle.lzk_cmd_words.proofs.Choices.{too_few, no_keys, fitting, unfitting}
use Rattle.lzk_cmd_words.proofs.grammar.behind_verb.Goals as goal

abbrev bytes : String Global → List ℕ
bytes w = string_bytes w

pub returns-then-words-row : goal.returns-then-words-row
returns-then-words-row c = too_few bytes c.args.words.now c.row_of-row.result c.args.verb c.row_of-row.ensures c.if-words-row.true

pub returns-in_err-keys : goal.returns-in_err-keys
returns-in_err-keys c =
    ap (option_map request_view) c.from_residual.ensures ∙ no_keys bytes c.args.words.now c.row_of-row.result c.args.verb c.row_of-row.ensures c.if-words-row.false c.in_err-keys.ensures

pub returns-then-fits : goal.returns-then-fits
returns-then-fits c = fitting bytes c.args.words.now c.row_of-row.result c.args.verb c.row_of-row.ensures c.if-words-row.false (keys_view c.in_ok-keys.keys) c.in_ok-keys.ensures c.if-fits.ensures

pub returns-else-fits : goal.returns-else-fits
returns-else-fits c = unfitting bytes c.args.words.now c.row_of-row.result c.args.verb c.row_of-row.ensures c.if-words-row.false (keys_view c.in_ok-keys.keys) c.in_ok-keys.ensures c.if-fits.ensures

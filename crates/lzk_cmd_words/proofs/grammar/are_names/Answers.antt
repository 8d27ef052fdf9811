use Rattle.std.proofs.Common.{List, ℕ, ap, ◌∙◌}
use Rattle.std.specs.Prelude.{String, string_bytes}
use Rattle.std.specs.declared.alloc.Global.{Global}
use Rattle.lzk_cmd_words.specs.Grammar.{is_first}
use Rattle.lzk_cmd_words.proofs.Choices.{named, unnamed}
use Rattle.lzk_cmd_words.proofs.grammar.are_names.Goals as goal

abbrev bytes : String Global → List ℕ
bytes w = string_bytes w

pub returns-then-is_first : goal.returns-then-is_first
returns-then-is_first c = named bytes c.args.names.now c.name-item.result c.in-len1-up.len_at_least c.name-item.is c.args.row c.are_files.result (c.if-is_first.ensures ∙ ap (is_first c.args.row.first) c.as_str.ensures.value) c.are_files.ensures

pub returns-else-is_first : goal.returns-else-is_first
returns-else-is_first c = unnamed bytes c.args.names.now c.name-item.result c.in-len1-up.len_at_least c.name-item.is c.args.row c.is_first.result (c.is_first.ensures ∙ ap (is_first c.args.row.first) c.as_str.ensures.value) c.if-is_first.false

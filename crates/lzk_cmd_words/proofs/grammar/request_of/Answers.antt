use Rattle.std.proofs.Common.{List, ℕ, ap, ◌∙◌}
use Rattle.std.specs.Prelude.{String, string_bytes}
use Rattle.std.specs.declared.alloc.Global.{Global}
use Rattle.std.specs.Option.{option_map}
use Rattle.lzk_cmd_words.specs.KeyViews.{request_view}
use Rattle.lzk_cmd_words.specs.Table.{verb_of}
use Rattle.lzk_cmd_words.proofs.Choices.{no_verb, by_verb}
use Rattle.lzk_cmd_words.proofs.grammar.request_of.Goals as goal

abbrev bytes : String Global → List ℕ
bytes w = string_bytes w

pub returns-in-None : goal.returns-in-None
returns-in-None c = no_verb bytes c.args.words.now c.word-item.result c.in-len1-up.len_at_least c.word-item.is (c.in-None.ensures ∙ ap verb_of c.as_str.ensures.value)

pub returns-in-Some : goal.returns-in-Some
returns-in-Some c = by_verb bytes c.args.words.now c.word-item.result c.in-len1-up.len_at_least c.word-item.is c.in-Some.verb (option_map request_view c.behind_verb.result) (c.in-Some.ensures ∙ ap verb_of c.as_str.ensures.value) c.behind_verb.ensures

use Rattle.std.proofs.Common.{List, ℕ, map, refl, sym, ap, ◌∙◌}
use Rattle.std.specs.Prelude.{String, string_bytes}
use Rattle.std.specs.declared.alloc.Global.{Global}
use Rattle.std.specs.Option.{option_map}
use Rattle.lzk_cmd_words.specs.Keys.{keys_of, with_key}
use Rattle.lzk_cmd_words.specs.KeyViews.{keys_view}
use Rattle.lzk_cmd_words.proofs.Choices.{keys_further, keys_stop, keys_all}
use Rattle.lzk_cmd_words.proofs.keys.keys_of.Goals as goal

abbrev bytes : String Global → List ℕ
bytes w = string_bytes w

pub loop-i-init : goal.loop-i-init
loop-i-init c = refl

pub loop-i-preserved : goal.loop-i-preserved
loop-i-preserved c =
    let one = ap (option_map keys_view) (sym c.in-Some.is) ∙ (c.with_key.ensures ∙ ap (with_key (keys_view c.loop-i.keys)) c.as_bytes.ensures.value) in
    keys_further bytes c.args.words.now c.loop-i.i (keys_view c.loop-i.keys) (keys_of (map bytes c.args.words.now)) c.loop-i.invariant c.index-words-i.result (keys_view c.in-Some.next) c.loop-i-test.true c.index-words-i.is one

pub returns-in_default : goal.returns-in_default
returns-in_default c =
    keys_stop bytes c.args.words.now c.loop-i.i (keys_view c.loop-i.keys) (keys_of (map bytes c.args.words.now)) c.loop-i.invariant c.index-words-i.result c.loop-i-test.true c.index-words-i.is
    (c.in_default.ensures ∙ ap (with_key (keys_view c.loop-i.keys)) c.as_bytes.ensures.value)

pub returns : goal.returns
returns c = keys_all bytes c.args.words.now c.loop-i.i (keys_view c.loop-i.keys) (keys_of (map bytes c.args.words.now)) c.loop-i.invariant c.loop-i-test.false

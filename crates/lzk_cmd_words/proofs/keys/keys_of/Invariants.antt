use Rattle.std.proofs.Common.{◌≡◌, map, drop}
use Rattle.std.specs.Prelude.{string_bytes}
use Rattle.lzk_cmd_words.specs.Keys as texts
use Rattle.lzk_cmd_words.specs.KeyViews.{keys_view}
use Rattle.lzk_cmd_words.proofs.keys.keys_of.Given as goal

abbrev pub invariant-loop-i : goal.invariant-loop-i
invariant-loop-i l = texts.keys_after (keys_view l.keys) (map (λ w. string_bytes w) (drop l.i l.words)) ≡ texts.keys_of (map (λ w. string_bytes w) l.words)

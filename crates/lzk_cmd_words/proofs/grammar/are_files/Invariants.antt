use Rattle.std.proofs.Common.{◌≡◌, map, drop}
use Rattle.std.specs.Prelude.{string_bytes}
use Rattle.std.specs.List.{list_all}
use Rattle.lzk_cmd_words.specs.Grammar.{is_name}
use Rattle.lzk_cmd_words.proofs.grammar.are_files.Given as goal

abbrev pub invariant-loop-i : goal.invariant-loop-i
invariant-loop-i l = list_all is_name (map (λ w. string_bytes w) (drop l.i l.names)) ≡ list_all is_name (map (λ w. string_bytes w) l.names)

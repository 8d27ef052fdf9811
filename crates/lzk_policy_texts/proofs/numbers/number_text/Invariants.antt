use Rattle.std.proofs.Common.{◌≡◌, ◌++◌, drop, map}
use Rattle.std.specs.Prelude.{string_bytes}
use Rattle.lzk_goldilocks.specs.Elements.{number}
use Rattle.lzk_policy_texts.specs.Numbers.{number_lines}
use Rattle.lzk_policy_texts.proofs.numbers.number_text.Given as goal

abbrev pub invariant-loop-element : goal.invariant-loop-element
invariant-loop-element l = string_bytes l.text ++ number_lines (map number (drop l.element-index l.elements)) ≡ number_lines (map number l.elements)

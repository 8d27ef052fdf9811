use Rattle.std.proofs.Common.{◌≡◌, ◌≤◌, ◌-◌, map, drop}
use Rattle.std.specs.Int.Digits.{number_from_digits_after}
use Rattle.lzk_cmd_words.specs.Keys as keys
use Rattle.lzk_cmd_words.proofs.keys.number_up_to.Given as goal

abbrev pub invariant-loop-i : goal.invariant-loop-i
invariant-loop-i l = record {
  small : l.number ≤ l.most;
  rest : number_from_digits_after 10 l.number (map (λ b. b - 48) (drop l.i l.text)) ≡ keys.number_of l.text;
}

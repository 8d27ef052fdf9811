use Rattle.std.proofs.Common.{◌≡◌, drop}
use Rattle.lzk_policy_texts.specs.Chosen.{entry_for}
use Rattle.lzk_policy_texts.proofs.values.entry_for.Given as goal

abbrev pub invariant-loop-i : goal.invariant-loop-i
invariant-loop-i l = entry_for (drop l.i l.entries) l.name ≡ entry_for l.entries l.name

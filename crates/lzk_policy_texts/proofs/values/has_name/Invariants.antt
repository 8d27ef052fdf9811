use Rattle.std.proofs.Common.{◌≡◌, drop}
use Rattle.lzk_policy_texts.specs.Chosen.{has_name}
use Rattle.lzk_policy_texts.proofs.values.has_name.Given as goal

abbrev pub invariant-loop-entry : goal.invariant-loop-entry
invariant-loop-entry l = has_name l.name (drop l.entry-index l.entries) ≡ has_name l.name l.entries

use Rattle.std.proofs.Common.{◌≡◌, drop}
use Rattle.lzk_policy_texts.specs.Chosen.{none_stray}
use Rattle.lzk_policy_texts.proofs.values.refuse_strays.Given as goal

abbrev pub invariant-loop-entry : goal.invariant-loop-entry
invariant-loop-entry l = none_stray l.shows (drop l.entry-index l.entries) ≡ none_stray l.shows l.entries

-- What is written, for each end of a call.
use Rattle.std.specs.Prelude.{ℕ, Result, Ok, Err}
use Rattle.lzk_calls.specs.declared.outcome.Outcome.{Outcome}
use Rattle.lzk_calls.specs.Outcomes as calls
use Rattle.lzk_policy.specs.declared.fault.PolicyKind.{PolicyKind}
use Rattle.lzk_policy.specs.declared.fault.PolicyKind.TheVariants as kinds
use Rattle.lzk_policy_texts.specs.declared.entries.ValuesKind.{ValuesKind}
use Rattle.lzk_policy_texts.specs.declared.entries.ValuesKind.TheVariants as rules
use Rattle.lzk_policy_texts.specs.declared.entries.ValuesFault.{ValuesFault}
use Rattle.lzk_policy_texts.specs.declared.entries.ValuesFault.TheVariants as faults
use Rattle.lzk_policy_calls.specs.declared.numbering.TextsPut.{TextsPut}
use Rattle.lzk_policy_calls.specs.declared.refusal.PolicyRefusal.{PolicyRefusal}
use Rattle.lzk_policy_calls.specs.declared.refusal.PolicyRefusal.TheVariants as refusals

-- an answer alone
abbrev pub told : ℕ → Outcome
told = calls.told

-- the numbers of rules, in the order in which they are declared
abbrev pub policy_kind : PolicyKind → ℕ
policy_kind kinds.Syntax = 1
policy_kind kinds.Order = 2
policy_kind kinds.Repeated = 3
policy_kind kinds.Size = 4
policy_kind kinds.Place = 5
policy_kind kinds.Unknown = 6
policy_kind kinds.Claim = 7
policy_kind kinds.Limit = 8
policy_kind kinds.Missing = 9

abbrev pub values_kind : ValuesKind → ℕ
values_kind rules.Syntax = 1
values_kind rules.Unknown = 2
values_kind rules.Repeated = 3
values_kind rules.Value = 4

-- an answer about a text: the line and the rule that it breaks, or the place of what is missing
abbrev pub faulty : ℕ → ValuesFault → Outcome
faulty answer (faults.Line line kind) = record (told answer) { kind = values_kind kind; line = line }
faulty answer (faults.Missing place) = record (told answer) { kind = 5; check = place }

-- an answer about so many
abbrev pub counted : ℕ → ℕ → Outcome
counted answer count = record (told answer) { count = count }

abbrev pub refusal_outcome : PolicyRefusal → Outcome
refusal_outcome refusals.TooLong = told 2
refusal_outcome refusals.OutOfMemory = told 6
refusal_outcome (refusals.NoRoom count) = counted 7 count
refusal_outcome (refusals.NoPolicy fault) =
    record (told 14) { kind = policy_kind fault.kind; line = fault.line }
refusal_outcome refusals.OverLimit = told 15
refusal_outcome (refusals.NoSecret size) = counted 16 size
refusal_outcome (refusals.NoPath fault) = faulty 17 fault
refusal_outcome (refusals.NoRecord size) = counted 18 size
refusal_outcome (refusals.NoValues fault) = faulty 19 fault
refusal_outcome (refusals.NoNodes depth) = counted 20 depth
refusal_outcome refusals.NoLeaf = told 21
refusal_outcome (refusals.False place) = record (told 22) { check = place }
refusal_outcome refusals.Unfit = told 23
refusal_outcome (refusals.NoShown fault) = faulty 24 fault
refusal_outcome refusals.Unsaid = told 25

abbrev pub outcome_of : Result ℕ PolicyRefusal → Outcome
outcome_of (Ok count) = counted 0 count
outcome_of (Err refusal) = refusal_outcome refusal

-- of two texts: behind so many bytes the second begins
abbrev pub texts_outcome : Result TextsPut PolicyRefusal → Outcome
texts_outcome (Ok put) = record (counted 0 put.count) { offset = put.public }
texts_outcome (Err refusal) = refusal_outcome refusal

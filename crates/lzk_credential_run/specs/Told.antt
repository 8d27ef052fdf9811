-- The line of a text of what was shown that says no public numbers.
use Rattle.std.specs.Prelude.{ℕ, List, ◌++◌, slice_get, Option, Some, None}
use Rattle.lzk_policy.specs.declared.policy.Show.{Show}
use Rattle.lzk_policy.specs.Policies.{Contents}
use Rattle.lzk_policy_texts.specs.declared.entries.ValuesFault.{ValuesFault}
use Rattle.lzk_policy_texts.specs.declared.entries.ValuesFault.TheVariants as faults
use Rattle.lzk_policy_texts.specs.Shown.{head_line, shown_of}
use Rattle.lzk_credential_run.specs.Given.{no_value_front}
use Rattle.lzk_credential_run.specs.Lines.{kind_line, values_kind_name}

abbrev pub told_line : Contents → Option Show → List ℕ
told_line p None = head_line p.depth
told_line p (Some s) = shown_of (slice_get p.fields s.field) s.claim

-- the line of what is shown at a place, or of the digest or the root behind the last
abbrev pub told_at : Contents → ℕ → List ℕ
told_at p place = told_line p (slice_get p.shows place)

-- a text that says no public numbers
abbrev pub shown_line : List ℕ → Contents → ValuesFault → List ℕ
shown_line name p (faults.Line line kind) = kind_line name line (values_kind_name kind)
shown_line name p (faults.Missing place) = no_value_front name ++ told_at p place

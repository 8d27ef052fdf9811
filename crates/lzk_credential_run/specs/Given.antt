-- The inputs of a record and values, and how they are put.
use Rattle.std.specs.Prelude.{◌≡◌, ◌⊎◌, ℕ, List, [], ◌++◌, length, map, codes, slice_get, Option, Some, None, Result, Ok, Err}
use Rattle.lzk_goldilocks.specs.Elements.{number}
use Rattle.lzk_outside.specs.Outside.{Files, Holds, Torn}
use Rattle.lzk_cmd_files.specs.declared.ending.Ending.{Ending}
use Rattle.lzk_cmd_files.specs.declared.ending.Halt.{Halt}
use Rattle.lzk_cmd_files.specs.declared.ending.Halt.TheVariants as halts
use Rattle.lzk_cmd_files.specs.Ends.{says, puts, Nowhere, AtPut}
use Rattle.lzk_cmd_files.specs.Formats.{Format}
use Rattle.lzk_cmd_files.specs.Lines.{line}
use Rattle.lzk_cmd_files.specs.Seen.{Seen, PutFailed}
use Rattle.lzk_cmd_files.specs.Walks.{IsEnding}
use Rattle.lzk_policy.specs.declared.policy.Show.{Show}
use Rattle.lzk_policy.specs.Policies.{Contents}
use Rattle.lzk_policy_inputs.specs.declared.value.Value.{Value}
use Rattle.lzk_policy_inputs.specs.declared.error.InputsError.{InputsError}
use Rattle.lzk_policy_inputs.specs.declared.error.InputsError.TheVariants as causes
use Rattle.lzk_policy_inputs.specs.Both.{Inputs}
use Rattle.lzk_policy_inputs.specs.declared.refusal.RootedInputsError.{RootedInputsError}
use Rattle.lzk_policy_inputs.specs.declared.refusal.RootedInputsError.TheVariants as refusals
use Rattle.lzk_policy_inputs.specs.Placed.{IsCredentialRefusal}
use Rattle.lzk_sha_path.specs.declared.error.PathError.{PathError}
use Rattle.lzk_sha_path.specs.declared.error.PathError.TheVariants as paths
use Rattle.lzk_policy_texts.specs.declared.entries.ValuesFault.{ValuesFault}
use Rattle.lzk_policy_texts.specs.declared.entries.ValuesFault.TheVariants as faults
use Rattle.lzk_policy_texts.specs.Chosen.{values_of}
use Rattle.lzk_policy_texts.specs.Inputs.{IsInputs}
use Rattle.lzk_policy_texts.specs.Numbers.{number_lines}
use Rattle.lzk_credential_run.specs.Ends.{Way}
use Rattle.lzk_credential_run.specs.Lines.{kind_line, values_kind_name, leaf_line, nodes_line, put_line}
use Rattle.lzk_policy_texts.specs.Paths.{Placed}
use Rattle.lzk_policy_texts.specs.Shown.{shown_of}

-- ---- lines

abbrev pub line_of : Contents → Option Show → List ℕ
line_of p None = []
line_of p (Some s) = shown_of (slice_get p.fields s.field) s.claim

-- the line of what is shown at a place
abbrev pub line_at : Contents → ℕ → List ℕ
line_at p place = line_of p (slice_get p.shows place)

-- something shown has no value in the file
abbrev pub no_value_front : List ℕ → List ℕ
no_value_front name = codes "refused: " ++ (name ++ codes " has no value: ")

abbrev pub no_value_line : List ℕ → Contents → ℕ → List ℕ
no_value_line name p place = no_value_front name ++ line_at p place

abbrev pub values_line : List ℕ → Contents → ValuesFault → List ℕ
values_line name p (faults.Line line kind) = kind_line name line (values_kind_name kind)
values_line name p (faults.Missing place) = no_value_line name p place

-- something shown is not true
abbrev pub false_line : Contents → ℕ → List ℕ
false_line p place = codes "not true: " ++ line_at p place

-- record and values do not fit the policy
abbrev pub unfit_line : List ℕ
unfit_line = line (codes "refused: record and values do not fit the policy")

-- ---- files

-- the values of a policy, beside a secret
abbrev pub value_files : Contents → List ℕ → Format (List Value) ValuesFault
value_files p secret = record {
  limit = 65536;
  means = λ text vs. values_of p secret text ≡ Ok vs;
  breaks = λ text fault. values_of p secret text ≡ Err fault;
  refused = λ name fault. says 3 (values_line name p fault);
}

-- ---- inputs

-- how a run ends whose record and values have no inputs for this cause
abbrev pub IsUnmade : Contents → InputsError → Ending → Type 0
IsUnmade p causes.Record e = IsEnding (says 3 unfit_line) e
IsUnmade p causes.Count e = IsEnding (says 3 unfit_line) e
IsUnmade p (causes.Kind place) e = IsEnding (says 3 unfit_line) e
IsUnmade p (causes.False place) e = IsEnding (says 3 (false_line p place)) e
IsUnmade p causes.OutOfMemory e = ⊥

-- how a run ends whose path of so many nodes has none for this cause
abbrev pub IsUnclimbed : List ℕ → ℕ → ℕ → PathError → Ending → Type 0
IsUnclimbed path nodes depth paths.OutOfMemory e = ⊥
IsUnclimbed path nodes depth cause e = IsEnding (says 3 (nodes_line path nodes depth)) e

-- how a run ends that has no inputs for this cause, with a path of this name and of so many nodes
abbrev pub IsNoInputs : List ℕ → Contents → ℕ → RootedInputsError → Ending → Type 0
IsNoInputs path p nodes (refusals.Policy cause) e = IsUnmade p cause e
IsNoInputs path p nodes (refusals.Path cause) e = IsUnclimbed path nodes p.depth cause e
IsNoInputs path p nodes refusals.Depth e = IsEnding (says 3 (nodes_line path nodes p.depth)) e
IsNoInputs path p nodes refusals.Index e = IsEnding (says 3 (leaf_line path)) e
IsNoInputs path p nodes refusals.OutOfMemory e = ⊥

-- the end with a line, or for want of memory none
abbrev pub IsToldEnd : List ℕ → Halt → Type 0
IsToldEnd text halts.Memory = Unit {0}
IsToldEnd text (halts.End e) = IsEnding (says 3 text) e

abbrev pub IsUnmadeFor : Contents → InputsError → Halt → Type 0
IsUnmadeFor p causes.Record h = IsToldEnd unfit_line h
IsUnmadeFor p causes.Count h = IsToldEnd unfit_line h
IsUnmadeFor p (causes.Kind place) h = IsToldEnd unfit_line h
IsUnmadeFor p (causes.False place) h = IsToldEnd (false_line p place) h
IsUnmadeFor p causes.OutOfMemory h = h ≡ halts.Memory

abbrev pub IsUnclimbedFor : List ℕ → ℕ → ℕ → PathError → Halt → Type 0
IsUnclimbedFor path nodes depth paths.OutOfMemory h = h ≡ halts.Memory
IsUnclimbedFor path nodes depth cause h = IsToldEnd (nodes_line path nodes depth) h

abbrev pub IsHaltFor : List ℕ → Contents → ℕ → RootedInputsError → Halt → Type 0
IsHaltFor path p nodes (refusals.Policy cause) h = IsUnmadeFor p cause h
IsHaltFor path p nodes (refusals.Path cause) h = IsUnclimbedFor path nodes p.depth cause h
IsHaltFor path p nodes refusals.Depth h = IsToldEnd (nodes_line path nodes p.depth) h
IsHaltFor path p nodes refusals.Index h = IsToldEnd (leaf_line path) h
IsHaltFor path p nodes refusals.OutOfMemory h = h ≡ halts.Memory

abbrev pub MakesInputs : List ℕ → Contents → List ℕ → List Value → Placed → Result Inputs Halt → Type 0
MakesInputs path p m vs x (Ok i) = IsInputs p m vs x i
MakesInputs path p m vs x (Err halts.Memory) = Unit {0}
MakesInputs path p m vs x (Err (halts.End e)) =
    (cause : RootedInputsError)
    × IsCredentialRefusal p m vs x.leaf (length x.nodes) cause × IsNoInputs path p (length x.nodes) cause e

-- ---- puts

-- the second file is put, behind these files, or its put fails
abbrev pub PutsLast : Option Files → List ℕ → List ℕ → Way
PutsLast files private bytes old new e =
    (Holds files private bytes new.files × IsEnding (puts Nowhere private bytes put_line) e)
    ⊎ (PutFailed old new × Torn files private bytes new.files × IsEnding (puts AtPut private bytes put_line) e)

-- the first file is put and then the second, or a put fails
abbrev pub PutsBoth : List ℕ → List ℕ → List ℕ → List ℕ → Way
PutsBoth public first private second old new e =
    (PutFailed old new × Torn old.files public first new.files × IsEnding (puts AtPut public first []) e)
    ⊎ ((files : Option Files) × Holds old.files public first files × PutsLast files private second old new e)

-- what want of memory leaves: all as it was, or with the first file
abbrev pub PutsOne : List ℕ → Seen → Seen → Type 0
PutsOne public old new = (new.files ≡ old.files) ⊎ ((bytes : List ℕ) × Holds old.files public bytes new.files)

-- the inputs are put, a number a line
abbrev pub PutsInputs : List ℕ → List ℕ → Inputs → Way
PutsInputs public private i =
    PutsBoth public (number_lines (map number i.public)) private (number_lines (map number i.private))

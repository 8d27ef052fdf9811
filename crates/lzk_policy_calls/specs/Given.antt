-- What is given beside a policy: a secret, a path, values.
use Rattle.std.specs.Prelude.{◌≡◌, ◌≢◌, nat_lt, ◌||◌, ℕ, Bool, true, false, List, [], ◌∷◌, length, Result, Ok, Err}
use Rattle.lzk_policy.specs.Policies.{Contents}
use Rattle.lzk_policy_inputs.specs.declared.value.Value.{Value}
use Rattle.lzk_policy_inputs.specs.declared.error.InputsError.{InputsError}
use Rattle.lzk_policy_inputs.specs.declared.error.InputsError.TheVariants as causes
use Rattle.lzk_policy_inputs.specs.declared.refusal.RootedInputsError.{RootedInputsError}
use Rattle.lzk_policy_inputs.specs.declared.refusal.RootedInputsError.TheVariants as rooted
use Rattle.lzk_sha_path.specs.declared.error.PathError.{PathError}
use Rattle.lzk_sha_path.specs.declared.error.PathError.TheVariants as paths
use Rattle.lzk_policy_texts.specs.declared.entries.ValuesFault.{ValuesFault}
use Rattle.lzk_policy_texts.specs.Chosen as chosen
use Rattle.lzk_policy_texts.specs.Paths.{Placed, alone}
use Rattle.lzk_policy_texts.specs.Paths as said
use Rattle.lzk_policy_texts.specs.Seals.{is_sealed}
use Rattle.lzk_policy_calls.specs.declared.refusal.PolicyRefusal.{PolicyRefusal}
use Rattle.lzk_policy_calls.specs.declared.refusal.PolicyRefusal.TheVariants.{NoSecret, NoPath, NoValues, NoNodes, NoLeaf, False, Unfit, OutOfMemory}
use Rattle.lzk_policy_calls.specs.Policies.{most_text}

-- how many bytes the secret has that a policy wants
abbrev pub size_if : Bool → ℕ
size_if true = 16
size_if false = 0

abbrev pub secret_size : Contents → ℕ
secret_size p = size_if (is_sealed p)

-- the secret has another number of bytes
abbrev pub IsOtherSecret : Contents → List ℕ → PolicyRefusal → Type 0
IsOtherSecret p secret (NoSecret size) = (size ≡ secret_size p) × (length secret ≢ secret_size p)
IsOtherSecret p secret other = ⊥

-- the place that a text is, or that of a leaf under no root where it is empty
abbrev pub place_of : List ℕ → Result Placed ValuesFault
place_of [] = Ok (alone [])
place_of (b ∷ bs) = said.path_of (b ∷ bs)

abbrev pub IsPlace : List ℕ → Placed → Type 0
IsPlace text x = place_of text ≡ Ok x

-- the first fault of a text, or there is no memory
abbrev pub LacksPath : List ℕ → PolicyRefusal → Type 0
LacksPath text (NoPath fault) = place_of text ≡ Err fault
LacksPath text OutOfMemory = Unit {0}
LacksPath text other = ⊥

-- the values of a text beside a secret
abbrev pub AreValues : Contents → List ℕ → List ℕ → List Value → Type 0
AreValues p secret text vs = chosen.values_of p secret text ≡ Ok vs

abbrev pub LacksValues : Contents → List ℕ → List ℕ → PolicyRefusal → Type 0
LacksValues p secret text (NoValues fault) = chosen.values_of p secret text ≡ Err fault
LacksValues p secret text OutOfMemory = Unit {0}
LacksValues p secret text other = ⊥

-- what is told where record and values have no inputs for a cause
abbrev pub unmade : InputsError → PolicyRefusal
unmade (causes.False place) = False place
unmade causes.OutOfMemory = OutOfMemory
unmade causes.Record = Unfit
unmade causes.Count = Unfit
unmade (causes.Kind place) = Unfit

-- what is told where a path has none for a cause
abbrev pub unclimbed : ℕ → PathError → PolicyRefusal
unclimbed depth paths.OutOfMemory = OutOfMemory
unclimbed depth paths.Depth = NoNodes depth
unclimbed depth (paths.Statement cause) = NoNodes depth
unclimbed depth (paths.Beside cause) = NoNodes depth

-- what is told where there are none for a cause
abbrev pub refusal_of : ℕ → RootedInputsError → PolicyRefusal
refusal_of depth (rooted.Policy cause) = unmade cause
refusal_of depth (rooted.Path cause) = unclimbed depth cause
refusal_of depth rooted.Depth = NoNodes depth
refusal_of depth rooted.Index = NoLeaf
refusal_of depth rooted.OutOfMemory = OutOfMemory

-- values or path are longer than a text may be
abbrev pub is_long : List ℕ → List ℕ → Bool
is_long values path = nat_lt most_text (length values) || nat_lt most_text (length path)

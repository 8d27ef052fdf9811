-- The public inputs of a record under a root, and when there are none.
use Rattle.std.specs.Prelude.{◌≡◌, ◌≢◌, ℕ, ◌^◌, ◌<◌, ◌≤◌, List, map}
use Rattle.lzk_goldilocks.specs.Elements.{of_number}
use Rattle.lzk_goldilocks.specs.declared.element.Gold.{Gold}
use Rattle.lzk_policy.specs.Policies.{Contents}
use Rattle.lzk_policy_inputs.specs.declared.value.Value.{Value}
use Rattle.lzk_policy_inputs.specs.Chosen.{joined, numbers_of}
use Rattle.lzk_policy_inputs.specs.Refused.{IsRefused}
use Rattle.lzk_sha_circuit.specs.Digest.{digest_words}
use Rattle.lzk_sha_path.specs.Causes.{IsInputCause}
use Rattle.lzk_sha_path.specs.Roots.{root_of}
use Rattle.lzk_policy_inputs.specs.declared.refusal.RootedInputsError.{RootedInputsError}
use Rattle.lzk_policy_inputs.specs.declared.refusal.RootedInputsError.TheVariants.{Policy, Path, Depth, Index, OutOfMemory}

-- the words of the root above the digest of a record
abbrev pub root_words : List ℕ → ℕ → List (List ℕ) → List Gold
root_words m index siblings = map of_number (root_of (digest_words m) index siblings)

-- the numbers that go with what is shown
abbrev pub shown_numbers : Contents → List ℕ → List Value → List Gold
shown_numbers p m vs = joined (numbers_of m) p.fields p.shows vs

-- Record and values are refused, of a leaf of its row; or so many levels are, or the leaf is none of its row; or memory
-- ran out. A wrong place is told before a wrong record or value.
abbrev pub IsRootedRefusal : Contents → List ℕ → List Value → ℕ → ℕ → RootedInputsError → Type 0
IsRootedRefusal p m vs index depth (Policy e) = (index < 2 ^ depth) × IsRefused p m vs e
IsRootedRefusal p m vs index depth (Path e) = IsInputCause depth e
IsRootedRefusal p m vs index depth Depth = ⊥
IsRootedRefusal p m vs index depth Index = (1 ≤ depth) × (2 ^ depth ≤ index)
IsRootedRefusal p m vs index depth OutOfMemory = Unit {0}

-- where a digest is shown, record and values are refused, or memory ran out
abbrev pub IsDigestRefusal : Contents → List ℕ → List Value → RootedInputsError → Type 0
IsDigestRefusal p m vs (Policy e) = IsRefused p m vs e
IsDigestRefusal p m vs (Path e) = ⊥
IsDigestRefusal p m vs Depth = ⊥
IsDigestRefusal p m vs Index = ⊥
IsDigestRefusal p m vs OutOfMemory = Unit {0}

-- The policy says another depth; or, where it says that there are levels, a place under a root is refused; or record
-- and values are. They are told in this order.
abbrev pub IsCredentialRefusal : Contents → List ℕ → List Value → ℕ → ℕ → RootedInputsError → Type 0
IsCredentialRefusal p m vs index depth (Policy e) =
    (depth ≡ p.depth) × (1 ≤ depth → index < 2 ^ depth) × IsRefused p m vs e
IsCredentialRefusal p m vs index depth (Path e) = (depth ≡ p.depth) × (1 ≤ depth) × IsInputCause depth e
IsCredentialRefusal p m vs index depth Depth = depth ≢ p.depth
IsCredentialRefusal p m vs index depth Index = (depth ≡ p.depth) × (1 ≤ depth) × (2 ^ depth ≤ index)
IsCredentialRefusal p m vs index depth OutOfMemory = Unit {0}

-- What a program is told that wants the digest of a record.
use Rattle.std.specs.Prelude.{◌≡◌, ◌≢◌, ◌⊎◌, ℕ, List, length, Result}
use Rattle.sha2.specs.Sha256.{sha256}
use Rattle.lzk_policy.specs.Policies.{Contents}
use Rattle.lzk_policy_calls.specs.declared.refusal.PolicyRefusal.{PolicyRefusal}
use Rattle.lzk_policy_calls.specs.declared.refusal.PolicyRefusal.TheVariants.{NoRecord}
use Rattle.lzk_policy_calls.specs.Policies.{IsPolicyText, LacksPolicy}
use Rattle.lzk_policy_calls.specs.Room.{Tells}

-- m has as many bytes as the policy of a text says
abbrev pub HasSize : List ℕ → List ℕ → Type 0
HasSize text m = (p : Contents) × IsPolicyText text p × (length m ≡ p.size)

-- m has another number of bytes than the policy says
abbrev pub IsOther : Contents → List ℕ → PolicyRefusal → Type 0
IsOther p m (NoRecord size) = (size ≡ p.size) × (length m ≢ p.size)
IsOther p m other = ⊥

-- why there is no digest of m: there is no policy, or m has another size
abbrev pub LacksDigest : List ℕ → List ℕ → PolicyRefusal → Type 0
LacksDigest text m refusal = LacksPolicy text refusal ⊎ ((p : Contents) × IsPolicyText text p × IsOther p m refusal)

-- the bytes are the digest of m, which has as many bytes as the policy of a text says
abbrev pub IsDigest : List ℕ → List ℕ → List ℕ → Type 0
IsDigest text m bytes = HasSize text m × (bytes ≡ sha256 m)

abbrev pub MakesDigest : List ℕ → List ℕ → List ℕ → List ℕ → Result ℕ PolicyRefusal → Type 0
MakesDigest text m = Tells (IsDigest text m) (LacksDigest text m)

-- How many hashes a policy's circuit has.
use Rattle.std.specs.Prelude.{ℕ, ◌+◌, ◌/◌, List, [], ◌∷◌}
use Rattle.lzk_profile.specs.Profile.{most_wires}
use Rattle.lzk_sha_blocks.specs.Layout.{blocks}
use Rattle.lzk_policy.specs.Policies.{Contents}
use Rattle.lzk_policy.specs.declared.policy.Claim.{Claim}
use Rattle.lzk_policy.specs.declared.policy.Claim.TheVariants as claims
use Rattle.lzk_policy.specs.declared.policy.Show.{Show}

-- the most that a circuit has room for: one has at most so many wires of the layer over the inputs
abbrev pub most_hashes : ℕ
most_hashes = most_wires / 16008

abbrev pub hashes_of_claim : Claim → ℕ
hashes_of_claim (claims.Pseudonym value) = 1
hashes_of_claim (claims.Sealed value) = 2
hashes_of_claim (claims.AtMost value) = 0
hashes_of_claim (claims.AtLeast value) = 0
hashes_of_claim (claims.Equal value) = 0
hashes_of_claim (claims.Spelled value) = 0
hashes_of_claim (claims.OneOf texts) = 0

-- one for each pseudonym, and one for each seal
abbrev pub hashes_of : List Show → ℕ
hashes_of [] = 0
hashes_of (s ∷ ss) = hashes_of_claim s.claim + hashes_of ss

-- one for each block of the record, one for each level, one for each pseudonym and one for each seal
abbrev pub hash_count : Contents → ℕ
hash_count p = blocks p.size + p.depth + hashes_of p.shows

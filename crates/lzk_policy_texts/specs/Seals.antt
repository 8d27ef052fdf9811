-- Whether a policy wants a secret.
use Rattle.std.specs.Prelude.{Bool, true, false, ◌||◌, List, [], ◌∷◌}
use Rattle.lzk_policy.specs.declared.policy.Claim.{Claim}
use Rattle.lzk_policy.specs.declared.policy.Claim.TheVariants as claims
use Rattle.lzk_policy.specs.declared.policy.Show.{Show}
use Rattle.lzk_policy.specs.Policies.{Contents}

-- a pseudonym is shown of a sealed secret
abbrev pub is_sealed_claim : Claim → Bool
is_sealed_claim (claims.Sealed value) = true
is_sealed_claim (claims.Pseudonym value) = false
is_sealed_claim (claims.AtMost value) = false
is_sealed_claim (claims.AtLeast value) = false
is_sealed_claim (claims.Equal value) = false
is_sealed_claim (claims.Spelled value) = false
is_sealed_claim (claims.OneOf texts) = false

abbrev pub is_any_sealed : List Show → Bool
is_any_sealed [] = false
is_any_sealed (s ∷ ss) = is_sealed_claim s.claim || is_any_sealed ss

abbrev pub is_sealed : Contents → Bool
is_sealed p = is_any_sealed p.shows

-- The policy that a text is, for the calls.
use Rattle.std.specs.Prelude.{◌≡◌, ◌<◌, ◌≤◌, ℕ, List, length, Ok, Err}
use Rattle.lzk_policy.specs.Policies.{Contents, policy_of}
use Rattle.lzk_policy_inputs.specs.Hashes.{hash_count, most_hashes}
use Rattle.lzk_policy_calls.specs.declared.refusal.PolicyRefusal.{PolicyRefusal}
use Rattle.lzk_policy_calls.specs.declared.refusal.PolicyRefusal.TheVariants.{TooLong, NoPolicy, OverLimit, OutOfMemory}

-- the longest text
abbrev pub most_text : ℕ
most_text = 65536

-- the text is not too long, and is this policy, for whose hashes a circuit has room
pub record IsPolicyText (text : List ℕ) (p : Contents) : Type 0 where
  pub short : length text ≤ most_text
  pub reads : policy_of text ≡ Ok p
  pub few : hash_count p ≤ most_hashes

-- why a text is no such policy: it is too long, or its first fault, or there are too many hashes; want of memory may
-- come at any time
abbrev pub LacksPolicy : List ℕ → PolicyRefusal → Type 0
LacksPolicy text TooLong = most_text < length text
LacksPolicy text (NoPolicy fault) = (length text ≤ most_text) × (policy_of text ≡ Err fault)
LacksPolicy text OverLimit =
    (p : Contents) × (length text ≤ most_text) × (policy_of text ≡ Ok p) × (most_hashes < hash_count p)
LacksPolicy text OutOfMemory = Unit {0}
LacksPolicy text other = ⊥

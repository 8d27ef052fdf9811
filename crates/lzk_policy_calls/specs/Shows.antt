-- What a program is told that wants to know what a policy shows.
use Rattle.std.specs.Prelude.{◌≡◌, ℕ, List, Result}
use Rattle.lzk_policy.specs.Policies.{Contents}
use Rattle.lzk_policy_texts.specs.Shown.{shown_lines}
use Rattle.lzk_policy_calls.specs.declared.refusal.PolicyRefusal.{PolicyRefusal}
use Rattle.lzk_policy_calls.specs.Policies.{IsPolicyText, LacksPolicy}
use Rattle.lzk_policy_calls.specs.Room.{Tells}

-- these are the lines of all that the policy of a text shows
abbrev pub AreShownLines : List ℕ → List ℕ → Type 0
AreShownLines text lines = (p : Contents) × IsPolicyText text p × (lines ≡ shown_lines p)

abbrev pub Shows : List ℕ → List ℕ → List ℕ → Result ℕ PolicyRefusal → Type 0
Shows text = Tells (AreShownLines text) (LacksPolicy text)

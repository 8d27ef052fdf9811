-- What a program is told that wants the public numbers of what was shown.
use Rattle.std.specs.Prelude.{◌≡◌, ◌<◌, ◌≤◌, ◌⊎◌, ℕ, List, length, map, Result, Ok, Err}
use Rattle.lzk_goldilocks.specs.Elements.{number}
use Rattle.lzk_goldilocks.specs.declared.element.Gold.{Gold}
use Rattle.lzk_policy.specs.Policies.{Contents}
use Rattle.lzk_policy_texts.specs.Numbers.{number_lines}
use Rattle.lzk_policy_texts.specs.Told as said
use Rattle.lzk_policy_calls.specs.declared.refusal.PolicyRefusal.{PolicyRefusal}
use Rattle.lzk_policy_calls.specs.declared.refusal.PolicyRefusal.TheVariants.{TooLong, NoShown, OutOfMemory}
use Rattle.lzk_policy_calls.specs.Policies.{IsPolicyText, LacksPolicy, most_text}
use Rattle.lzk_policy_calls.specs.Room.{Tells}

-- the bytes are the text of the public numbers that a text says of what was shown
abbrev pub PublicsOf : Contents → List ℕ → List ℕ → Type 0
PublicsOf p shown bytes =
    (publics : List Gold) × (said.publics_of p shown ≡ Ok publics) × (bytes ≡ number_lines (map number publics))

-- its first fault, or there is no memory
abbrev pub LacksShown : Contents → List ℕ → PolicyRefusal → Type 0
LacksShown p shown (NoShown fault) = said.publics_of p shown ≡ Err fault
LacksShown p shown OutOfMemory = Unit {0}
LacksShown p shown other = ⊥

-- the same for the policy of a text
abbrev pub ArePublics : List ℕ → List ℕ → List ℕ → Type 0
ArePublics text shown bytes =
    (length shown ≤ most_text) × ((p : Contents) × IsPolicyText text p × PublicsOf p shown bytes)

-- the text of what was shown is too long
abbrev pub IsLongShown : List ℕ → PolicyRefusal → Type 0
IsLongShown shown TooLong = most_text < length shown
IsLongShown shown other = ⊥

-- why there are no public numbers: what was shown is too long, or there is no policy, or what was shown has a fault
abbrev pub LacksPublics : List ℕ → List ℕ → PolicyRefusal → Type 0
LacksPublics text shown refusal =
    IsLongShown shown refusal
    ⊎ ((length shown ≤ most_text)
    × (LacksPolicy text refusal ⊎ ((p : Contents) × IsPolicyText text p × LacksShown p shown refusal)))

abbrev pub MakesPublics : List ℕ → List ℕ → List ℕ → List ℕ → Result ℕ PolicyRefusal → Type 0
MakesPublics text shown = Tells (ArePublics text shown) (LacksPublics text shown)

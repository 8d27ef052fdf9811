-- What a program is told that wants the numbers that show a record.
use Rattle.std.specs.Prelude.{◌≡◌, ◌⊎◌, ◌++◌, ℕ, false, IsTrue, List, length, map, Result, Ok, Err}
use Rattle.lzk_goldilocks.specs.Elements.{number}
use Rattle.lzk_policy.specs.Policies.{Contents}
use Rattle.lzk_policy_inputs.specs.declared.value.Value.{Value}
use Rattle.lzk_policy_inputs.specs.Both.{Inputs}
use Rattle.lzk_policy_inputs.specs.declared.refusal.RootedInputsError.{RootedInputsError}
use Rattle.lzk_policy_inputs.specs.Placed.{IsCredentialRefusal}
use Rattle.lzk_policy_texts.specs.Inputs.{IsInputs}
use Rattle.lzk_policy_texts.specs.Numbers.{number_lines}
use Rattle.lzk_policy_texts.specs.Paths.{Placed}
use Rattle.lzk_policy_calls.specs.declared.numbering.TextsPut.{TextsPut}
use Rattle.lzk_policy_calls.specs.declared.refusal.PolicyRefusal.{PolicyRefusal}
use Rattle.lzk_policy_calls.specs.declared.refusal.PolicyRefusal.TheVariants.{TooLong}
use Rattle.lzk_policy_calls.specs.Digests.{IsOther}
use Rattle.lzk_policy_calls.specs.Given.{AreValues, IsOtherSecret, IsPlace, LacksPath, LacksValues, is_long, refusal_of, secret_size}
use Rattle.lzk_policy_calls.specs.Policies.{IsPolicyText, LacksPolicy}
use Rattle.lzk_policy_calls.specs.Room.{Puts}

-- ---- inputs

-- the inputs of a record m, values and a leaf
abbrev pub ArePlacedInputs : Contents → List ℕ → List Value → Placed → Inputs → Type 0
ArePlacedInputs p m vs x i = IsInputs p m vs x i

-- why there are none
abbrev pub LacksPlacedInputs : Contents → List ℕ → List Value → Placed → PolicyRefusal → Type 0
LacksPlacedInputs p m vs x refusal =
    (cause : RootedInputsError) × IsCredentialRefusal p m vs x.leaf (length x.nodes) cause
    × (refusal ≡ refusal_of p.depth cause)

module _ (m values secret : List ℕ) (p : Contents) where
  -- the same for the values of a text and a record of the policy's size
  abbrev pub AreInputsFor : Placed → Inputs → Type 0
  AreInputsFor x i =
      (length m ≡ p.size) × ((vs : List Value) × AreValues p secret values vs × ArePlacedInputs p m vs x i)

  abbrev pub LacksInputsFor : Placed → PolicyRefusal → Type 0
  LacksInputsFor x refusal =
      IsOther p m refusal
      ⊎ ((length m ≡ p.size)
      × (LacksValues p secret values refusal
      ⊎ ((vs : List Value) × AreValues p secret values vs × LacksPlacedInputs p m vs x refusal)))

  -- the same for a secret of the size that the policy wants, and the leaf of a text
  abbrev pub AreGivenInputs : List ℕ → Inputs → Type 0
  AreGivenInputs path i =
      (length secret ≡ secret_size p) × ((x : Placed) × IsPlace path x × AreInputsFor x i)

  abbrev pub LacksGivenInputs : List ℕ → PolicyRefusal → Type 0
  LacksGivenInputs path refusal =
      IsOtherSecret p secret refusal
      ⊎ ((length secret ≡ secret_size p)
      × (LacksPath path refusal ⊎ ((x : Placed) × IsPlace path x × LacksInputsFor x refusal)))

-- values or path are too long
abbrev pub AreLong : List ℕ → List ℕ → PolicyRefusal → Type 0
AreLong values path TooLong = IsTrue (is_long values path)
AreLong values path other = ⊥

module _ (text m values secret path : List ℕ) where
  -- the same for the policy of a text
  abbrev pub AreInputs : Inputs → Type 0
  AreInputs i = (p : Contents) × IsPolicyText text p × AreGivenInputs m values secret p path i

  -- Why there are no inputs, the first cause in this order: values or path are too long, or there is no policy, or the
  -- secret has another size, or there is no path, or the record has another size, or there are no values, or the path
  -- is another one, or something shown is not true.
  abbrev pub LacksInputs : PolicyRefusal → Type 0
  LacksInputs refusal =
      AreLong values path refusal
      ⊎ ((is_long values path ≡ false)
      × (LacksPolicy text refusal
      ⊎ ((p : Contents) × IsPolicyText text p × LacksGivenInputs m values secret p path refusal)))

-- ---- texts

-- the text of the public numbers, of so many bytes, and behind it that of the private ones
abbrev pub TextsOf : Inputs → List ℕ → ℕ → Type 0
TextsOf i both public =
    (both ≡ number_lines (map number i.public) ++ number_lines (map number i.private))
    × (public ≡ length (number_lines (map number i.public)))

module _ (text m values secret path : List ℕ) where
  abbrev pub AreTexts : List ℕ → ℕ → Type 0
  AreTexts both public = (i : Inputs) × AreInputs text m values secret path i × TextsOf i both public

  -- what becomes of both texts and a room
  abbrev pub PutsTexts : List ℕ → ℕ → List ℕ → List ℕ → Result TextsPut PolicyRefusal → Type 0
  PutsTexts both public old new (Ok put) = Puts both old new (Ok put.count) × (put.public ≡ public)
  PutsTexts both public old new (Err refusal) = Puts both old new (Err refusal)

  -- a refusal, and the room is as it was; or both texts are put
  abbrev pub MakesInputs : List ℕ → List ℕ → Result TextsPut PolicyRefusal → Type 0
  MakesInputs old new told =
      ((refusal : PolicyRefusal) × (told ≡ Err refusal) × LacksInputs text m values secret path refusal × (new ≡ old))
      ⊎ ((both : List ℕ) × (public : ℕ) × AreTexts both public × PutsTexts both public old new told)

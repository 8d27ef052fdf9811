-- What a verifier learns, line by line.
use Rattle.std.specs.Prelude.{ℕ, ◌==◌, List, [], ◌∷◌, ◌++◌, codes, slice_get, Option, Some, None, if◌then◌else◌}
use Rattle.std.specs.Fmt.{decimal}
use Rattle.lzk_policy.specs.declared.policy.RecordField.{RecordField}
use Rattle.lzk_policy.specs.declared.policy.Claim.{Claim}
use Rattle.lzk_policy.specs.declared.policy.Claim.TheVariants as claims
use Rattle.lzk_policy.specs.declared.policy.Show.{Show}
use Rattle.lzk_policy.specs.Policies.{Contents}
use Rattle.lzk_policy_texts.specs.Bytes.{shown_bytes}

-- words of a line, one behind another
abbrev pub said : List ℕ → List ℕ → List ℕ → List ℕ
said first middle last = shown_bytes first ++ middle ++ shown_bytes last ++ 10 ∷ []

-- texts, each behind a space
abbrev pub shown_texts : List (List ℕ) → List ℕ
shown_texts [] = []
shown_texts (text ∷ texts) = codes " " ++ shown_bytes text ++ shown_texts texts

-- what is shown of a field with this name
abbrev pub shown_claim : List ℕ → Claim → List ℕ
shown_claim name (claims.AtMost value) = said name (codes " is at most ") value
shown_claim name (claims.AtLeast value) = said name (codes " is at least ") value
shown_claim name (claims.Equal value) = said name (codes " is ") value
shown_claim name (claims.Spelled value) = said name (codes " is ") value
shown_claim name (claims.OneOf texts) =
    shown_bytes name ++ codes " is one of" ++ shown_texts texts ++ 10 ∷ []
shown_claim name (claims.Pseudonym value) = codes "a pseudonym of " ++ said name (codes " for ") value
shown_claim name (claims.Sealed value) = codes "a pseudonym of " ++ said name (codes " for ") value

abbrev pub shown_of : Option RecordField → Claim → List ℕ
shown_of None claim = []
shown_of (Some f) claim = shown_claim f.name claim

-- all that is shown beside the digest or the root
abbrev pub shown_from : List RecordField → List Show → List ℕ
shown_from fields [] = []
shown_from fields (s ∷ ss) = shown_of (slice_get fields s.field) s.claim ++ shown_from fields ss

-- a root so many levels above the digest
abbrev pub root_line : ℕ → List ℕ
root_line depth = codes "a root, levels above the SHA-256 digest of the record: " ++ (decimal depth ++ 10 ∷ [])

-- the digest, where there is no level, or a root
abbrev pub head_line : ℕ → List ℕ
head_line depth = if depth == 0 then codes "the SHA-256 digest of the record" ++ 10 ∷ [] else root_line depth

-- all that is shown
abbrev pub shown_lines : Contents → List ℕ
shown_lines p = head_line p.depth ++ shown_from p.fields p.shows

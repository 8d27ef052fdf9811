-- What a policy says of a record by the depth in its text: none, where the digest is shown, or the levels to a root.
use Rattle.std.specs.Prelude.{◌≡◌, ℕ, zero, suc, List, ◌++◌, map}
use Rattle.lzk_goldilocks.specs.Elements.{of_number}
use Rattle.lzk_goldilocks.specs.declared.element.Gold.{Gold}
use Rattle.lzk_policy.specs.Policies.{Contents}
use Rattle.lzk_policy_circuit.specs.Layout as layout
use Rattle.lzk_policy_circuit.specs.Meaning.{AreBytesOf, AreTrueOf}
use Rattle.lzk_policy_circuit.specs.Met.{Satisfy}
use Rattle.lzk_sha_circuit.specs.Digest.{digest_words}
use Rattle.lzk_sha_path.specs.Climbs.{IsClimb}
use Rattle.lzk_policy_inputs.specs.Rooted.{SatisfyUnder}
use Rattle.lzk_policy_inputs.specs.Rooted as rooted

-- the words of a digest are these where there is no level, and otherwise so many levels lead from them to these
abbrev pub LeadsTo : ℕ → List Gold → List Gold → Type 0
LeadsTo zero digest words = words ≡ digest
LeadsTo (suc n) digest words = IsClimb (suc n) digest words

-- m is a record as the policy has it, these words are those of its digest, or those of a root under which its digest is
-- a leaf, and all that is shown of it is true with these numbers
pub record IsShownBy (p : Contents) (m : List ℕ) (words values : List Gold) : Type 0 where
  pub bytes : AreBytesOf p.size m
  pub words_are : LeadsTo p.depth (map of_number (digest_words m)) words
  pub lines : AreTrueOf m p.fields p.shows values

-- how many private inputs there are
abbrev pub private_count : ℕ → Contents → ℕ
private_count zero p = layout.private_count p
private_count (suc n) p = rooted.private_count p (suc n)

-- private inputs of the policy's circuit, and behind them, where there are levels, those of the path
abbrev pub SatisfyAt : ℕ → Contents → List Gold → List Gold → List Gold → Type 0
SatisfyAt zero p words values private = Satisfy p (words ++ values) private
SatisfyAt (suc n) p words values private = SatisfyUnder p (suc n) words values private

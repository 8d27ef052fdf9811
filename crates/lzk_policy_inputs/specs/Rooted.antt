-- What a policy says of a record whose digest is a leaf under a root.
use Rattle.std.specs.Prelude.{ℕ, ◌+◌, List, ◌++◌, map, take, drop}
use Rattle.lzk_goldilocks.specs.Elements.{of_number}
use Rattle.lzk_goldilocks.specs.declared.element.Gold.{Gold}
use Rattle.lzk_policy.specs.Policies.{Contents}
use Rattle.lzk_policy_circuit.specs.Layout as layout
use Rattle.lzk_policy_circuit.specs.Meaning.{AreBytesOf, AreTrueOf}
use Rattle.lzk_policy_circuit.specs.Met.{Satisfy}
use Rattle.lzk_sha_circuit.specs.Digest.{digest_words}
use Rattle.lzk_sha_path.specs.Climbs as climbs
use Rattle.lzk_sha_path.specs.Climbs.{AreClimbing, IsClimb}

-- m is a record as the policy has it, a path of so many levels leads from its digest to the root, and all that is shown
-- of it is true with these numbers
pub record IsShownUnder (p : Contents) (depth : ℕ) (m : List ℕ) (root values : List Gold) : Type 0 where
  pub bytes : AreBytesOf p.size m
  pub leaf : IsClimb depth (map of_number (digest_words m)) root
  pub lines : AreTrueOf m p.fields p.shows values

-- how many private inputs there are: those behind the digest, its words, and those of the path
abbrev pub private_count : Contents → ℕ → ℕ
private_count p depth = layout.private_count p + 8 + climbs.private_count depth

-- the words of the digest among the private inputs
abbrev pub digest_of : Contents → List Gold → List Gold
digest_of p private = take 8 (drop (layout.private_count p) private)

-- The private inputs begin with those behind the digest, then come its words, and then those of the path.
pub record SatisfyUnder (p : Contents) (depth : ℕ) (root values private : List Gold) : Type 0 where
  pub shown : Satisfy p (digest_of p private ++ values) (take (layout.private_count p) private)
  pub leaf : AreClimbing depth (digest_of p private) root (drop (layout.private_count p + 8) private)

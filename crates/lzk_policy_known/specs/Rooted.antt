-- What somebody has committed to who passes for the circuit of a policy that shows a digest, or a root above it.
use Rattle.std.specs.Prelude.{◌≡◌, ℕ, ◌*◌, ◌<◌, ◌≤◌, Bool, List, ◌++◌, length, map, take, drop}
use Rattle.lzk_goldilocks.specs.Elements.{ops, number, of_number}
use Rattle.lzk_goldilocks.specs.declared.element.Gold.{Gold}
use Rattle.lzk_circuit.specs.Valid.{Wiring}
use Rattle.lzk_circuit.specs.Wires.{inputs_of}
use Rattle.lzk_circuit.specs.Checks.{IsSatisfied}
use Rattle.lzk_policy.specs.Policies.{Contents, IsPolicy}
use Rattle.lzk_policy_circuit.specs.Held.{AreSecretsHeld}
use Rattle.lzk_policy_circuit.specs.Layout.{stated_count}
use Rattle.lzk_policy_circuit.specs.Meaning.{public_count, values_of}
use Rattle.lzk_sha_circuit.specs.Digest.{message_bits}
use Rattle.lzk_policy_inputs.specs.Rooted.{IsShownUnder, SatisfyUnder}
use Rattle.lzk_policy_inputs.specs.Rooted as rooted
use Rattle.lzk_policy_inputs.specs.Depths.{IsShownBy, SatisfyAt, private_count}
use Rattle.lzk_soundness.specs.Extract.Extraction.{extracted}
use Rattle.lzk_soundness.specs.Count.Game.{Strategy}
use Rattle.lzk_soundness.specs.Count.Laws.{IsPlayer, SaysYesRarely, bad_count}
use Rattle.lzk_soundness.specs.Count.Numbers.{SaysYesByOneIn}
use Rattle.lzk_policy_known.specs.Known.{gold_coding}

-- The private inputs begin with the bits of m, byte by byte, and m is a record whose digest is a leaf under the root,
-- of which all that is shown is true. The bits of two records are not the same, so it is the only one. Behind them
-- stand those of the sealed secrets of which a pseudonym is shown. They satisfy the circuit, so that the bits of the
-- nodes by which the digest leads to the root stand there too.
pub record HoldsUnder (p : Contents) (depth : ℕ) (root values private : List Gold) : Type 0 where
  pub m : List ℕ
  pub shown : IsShownUnder p depth m root values
  pub bits : take (8 * p.size) private ≡ map of_number (message_bits m)
  pub secrets : AreSecretsHeld m p.fields p.shows values (drop (8 * p.size) (take (stated_count p) private))
  pub satisfied : SatisfyUnder p depth root values private

-- private inputs that satisfy the circuit of a record under a root hold one
abbrev pub RecordsUnderAreHeld : Type 0
RecordsUnderAreHeld =
    (p : Contents) (depth : ℕ) (root values private : List Gold) → IsPolicy p → 0 < depth → length root ≡ 8
    → length values ≡ values_of p.shows → length private ≡ rooted.private_count p depth
    → SatisfyUnder p depth root values private → HoldsUnder p depth root values private

-- the same with the words of a digest, or of a root, as the policy says
pub record HoldsShown (p : Contents) (words values private : List Gold) : Type 0 where
  pub m : List ℕ
  pub shown : IsShownBy p m words values
  pub bits : take (8 * p.size) private ≡ map of_number (message_bits m)
  pub secrets : AreSecretsHeld m p.fields p.shows values (drop (8 * p.size) (take (stated_count p) private))
  pub satisfied : SatisfyAt p.depth p words values private

-- a circuit of the policy, as far as the clauses of `credential_circuit` say
pub record IsCredentialOf (policy : Contents) (c : Wiring Gold) : Type 0 where
  pub is_policy : IsPolicy policy
  pub publics : c.publics ≡ public_count policy
  pub privates : c.privates ≡ private_count policy.depth policy
  pub satisfied : (words values private : List Gold) → length words ≡ 8 → length values ≡ values_of policy.shows
      → length private ≡ private_count policy.depth policy
      → IsSatisfied ops number c.layers (inputs_of ops (words ++ values) private)
      → SatisfyAt policy.depth policy words values private

-- Whoever passes by more than few has a record, which stands in the private inputs that his table encodes.
abbrev pub PassersHoldShown : Type 0
PassersHoldShown =
    (policy : Contents) (c : Wiring Gold) (public : List Gold) (strategy : Strategy Gold)
    (wins : List Gold → List ℕ → Bool)
    → IsCredentialOf policy c → IsPlayer ops gold_coding c public strategy wins → (SaysYesRarely gold_coding c wins → ⊥)
    → HoldsShown policy (take 8 public) (drop 8 public) (extracted ops gold_coding c strategy.table)

-- Whoever has none there passes by at most one in 2^by, for circuits with so many bad elements at most.
abbrev pub ShownlessPassByOneIn : ℕ → ℕ → Type 0
ShownlessPassByOneIn bad by =
    (policy : Contents) (c : Wiring Gold) (public : List Gold) (strategy : Strategy Gold)
    (wins : List Gold → List ℕ → Bool)
    → IsCredentialOf policy c → IsPlayer ops gold_coding c public strategy wins
    → (HoldsShown policy (take 8 public) (drop 8 public) (extracted ops gold_coding c strategy.table) → ⊥)
    → bad_count c ≤ bad → SaysYesByOneIn gold_coding c wins by

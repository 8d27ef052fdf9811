-- The inputs of a policy's circuit for a record, values and a leaf.
use Rattle.std.specs.Prelude.{◌≡◌, ℕ, List, ◌++◌, length, take, drop}
use Rattle.lzk_policy.specs.Policies.{Contents}
use Rattle.lzk_policy_circuit.specs.Meaning.{public_count}
use Rattle.lzk_policy_inputs.specs.declared.value.Value.{Value}
use Rattle.lzk_policy_inputs.specs.Both.{Inputs}
use Rattle.lzk_policy_inputs.specs.Filled.{private_of}
use Rattle.lzk_policy_inputs.specs.Depths.{IsShownBy, SatisfyAt, private_count}
use Rattle.lzk_policy_inputs.specs.Placed.{root_words, shown_numbers}
use Rattle.lzk_policy_texts.specs.Paths.{Placed}

-- The inputs of a policy's circuit for a record, values and a leaf: all that is shown is true, and they satisfy the
-- circuit. Where a digest is shown, the private ones are laid out in one way.
pub record IsInputs (p : Contents) (m : List ℕ) (vs : List Value) (x : Placed) (i : Inputs) : Type 0 where
  pub public : i.public ≡ root_words m x.leaf x.nodes ++ shown_numbers p m vs
  pub private : p.depth ≡ 0 → i.private ≡ private_of p m vs
  pub shown : IsShownBy p m (take 8 i.public) (drop 8 i.public)
  pub publics : length i.public ≡ public_count p
  pub count : length i.private ≡ private_count p.depth p
  pub satisfied : SatisfyAt p.depth p (take 8 i.public) (drop 8 i.public) i.private

-- What policies show of records that were issued under a root.
use Rattle.std.specs.Prelude.{◌≡◌, ℕ, ◌^◌, ◌<◌, ◌⊎◌, List, map}
use Rattle.lzk_goldilocks.specs.Elements.{of_number}
use Rattle.lzk_goldilocks.specs.declared.element.Gold.{Gold}
use Rattle.lzk_policy.specs.Policies.{Contents, IsPolicy}
use Rattle.lzk_sha_path.specs.Trees.{IsIssued, Break, way_of}
use Rattle.lzk_policy_inputs.specs.Rooted.{IsShownUnder}

-- What is shown under a root over a row of records, by a policy of however many levels, is of the one that was issued
-- at its leaf, or its way to the root collides with that of one that was issued, or one of these two leads to nodes.
abbrev pub OnlyIssuedAreShown : Type 0
OnlyIssuedAreShown =
    (p : Contents) (depth levels : ℕ) (root : List ℕ) (leaf : ℕ → List ℕ) (beside : ℕ → List (List ℕ)) (m : List ℕ)
    (values : List Gold) → IsPolicy p → IsIssued depth root leaf beside
    → (s : IsShownUnder p levels m (map of_number root) values)
    → ((levels ≡ depth) × (m ≡ leaf s.leaf.index))
    ⊎ ((i : ℕ)
    × (i < 2 ^ depth)
    × Break m (way_of m s.leaf.index s.leaf.siblings) (leaf i) (way_of (leaf i) i (beside i)))

-- Rows that stand in one list of terms.
use Rattle.std.specs.Prelude.{ℕ, ◌-◌, ◌≤◌, List, [], ◌∷◌, map, take, drop}

-- what stands from one place of a list to another
abbrev pub piece : {A : Type 0} → List A → ℕ × ℕ → List A
piece ts s = take (s.1 - s.0) (drop s.0 ts)

abbrev pub pieces : {A : Type 0} → List A → List (ℕ × ℕ) → List (List A)
pieces ts spans = map (piece ts) spans

-- each span begins and ends within so many
abbrev pub AreSpans : ℕ → List (ℕ × ℕ) → Type 0
AreSpans n [] = Unit {0}
AreSpans n (s ∷ ss) = ((s.0 ≤ s.1) × (s.1 ≤ n)) × AreSpans n ss

-- A list that has no last element.
use Rattle.std.proofs.Common.{◌≡◌, ℕ, ◌-◌, List, [], ◌++◌, take, ap, ◌∙◌}

pub popped_none : {X : Type 0} (n : ℕ) (old new : List X) → n ≡ 0 → new ≡ take (n - 1) old → old ≡ new ++ [] → old ≡ []
popped_none {X = X} n old new e k h =
    let none : new ≡ [] = k ∙ ap (λ m. take (m - 1) old) e in
    h ∙ ap (λ (l : List X). l ++ []) none

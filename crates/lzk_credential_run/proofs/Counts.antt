-- Words of another number than a command has.
use Rattle.std.proofs.Common.{◌≡◌, ◌<◌, ◌≤◌, ℕ, List, [], ◌∷◌, length, map, Option, None, refl, arith}
use Rattle.lzk_credential_run.specs.Keys.{asked_in}
use Rattle.lzk_credential_run.specs.Words.{Command, named}

pub too_many : {A : Type 0} (f : A → List ℕ) (ws : List A) → 3 ≤ length ws → ◌≡◌ {A = Option (List ℕ)} None (asked_in (map f ws))
too_many f [] many = absurd (omega (arith, many))
too_many f (a ∷ []) many = absurd (omega (arith, many))
too_many f (a ∷ b ∷ []) many = absurd (omega (arith, many))
too_many f (a ∷ b ∷ c ∷ ws) many = refl

pub three_names : {A : Type 0} (f : A → List ℕ) (verb : List ℕ) (ws : List A) → 3 ≤ length ws → length ws < 4 → ◌≡◌ {A = Option Command} None (named verb (map f ws))
three_names f verb [] many few = absurd (omega (arith, many))
three_names f verb (a ∷ []) many few = absurd (omega (arith, many))
three_names f verb (a ∷ b ∷ []) many few = absurd (omega (arith, many))
three_names f verb (a ∷ b ∷ c ∷ []) many few = refl
three_names f verb (a ∷ b ∷ c ∷ d ∷ ws) many few = absurd (omega (arith, few))

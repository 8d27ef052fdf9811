-- Bytes in the room of a caller.
use Rattle.std.specs.Prelude.{◌≡◌, ◌⊎◌, ℕ, List, Result, Ok, Err}
use Rattle.lzk_calls.specs.Room.{ArePut, DoNotFit}
use Rattle.lzk_policy_calls.specs.declared.refusal.PolicyRefusal.{PolicyRefusal}
use Rattle.lzk_policy_calls.specs.declared.refusal.PolicyRefusal.TheVariants.{NoRoom}

-- what becomes of bytes and a room
abbrev pub Puts : List ℕ → List ℕ → List ℕ → Result ℕ PolicyRefusal → Type 0
Puts bytes old new (Ok count) = ArePut bytes old new count
Puts bytes old new (Err (NoRoom count)) = DoNotFit bytes old new count
Puts bytes old new (Err other) = ⊥

-- what is told of bytes, and becomes of a room: a refusal, and the room is as it was; or such bytes are put
abbrev pub Tells :
    (List ℕ → Type 0) → (PolicyRefusal → Type 0) → List ℕ → List ℕ → Result ℕ PolicyRefusal → Type 0
Tells Are Lacks old new told =
    ((refusal : PolicyRefusal) × (told ≡ Err refusal) × Lacks refusal × (new ≡ old))
    ⊎ ((bytes : List ℕ) × Are bytes × Puts bytes old new told)

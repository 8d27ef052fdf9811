-- Which wires stay where those that nothing uses go.
use Rattle.std.specs.Prelude.{◌≡◌, ℕ, ◌+◌, ◌<◌, ◌==◌, ◌&&◌, ◌||◌, cond, false, Bool, List, [], ◌∷◌, length, slice_index_or}
use Rattle.std.proofs.Common.{zero, suc}
use Rattle.lzk_circuit.specs.declared.layer.Term.{Term}
use Rattle.lzk_circuit_reduce.specs.Renumbering.{at}

abbrev pub is_marked : List Bool → ℕ → Bool
is_marked marks k = slice_index_or marks k false

-- a term of a marked wire names wire k below
abbrev pub names : {A : Type 0} → List Bool → List (Term A) → ℕ → Bool
names marks [] k = false
names marks (t ∷ ts) k = (is_marked marks t.g && ((t.a == k) || (t.b == k))) || names marks ts k

-- how many of the first k wires are marked
abbrev pub marked_before : List Bool → ℕ → ℕ
marked_before marks zero = 0
marked_before marks (suc k) = cond (is_marked marks k) 1 0 + marked_before marks k

-- each wire's number among the marked ones
abbrev pub AreMarkedPlaces : List Bool → List ℕ → Type 0
AreMarkedPlaces marks places =
    (length places ≡ length marks) × ((k : ℕ) → k < length marks → at places k ≡ marked_before marks k)

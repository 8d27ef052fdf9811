-- A tree of hashes binds, and what it binds was asked before.
use Rattle.std.specs.Prelude.{◌≡◌, ℕ, ◌*◌, ◌^◌, ◌<◌, ◌≤◌, Bool, true, List, length}
use Rattle.std.proofs.Common.{suc}
use Rattle.lzk_soundness.specs.Chance.Draws.{count, draws_from, total_from}
use Rattle.lzk_soundness.specs.Chance.Few.{AreDistinct}
use Rattle.lzk_soundness.specs.Oracle.Oracle.{IsOracle, asked}
use Rattle.lzk_soundness.specs.Trees.Trees.{Hashing, AreNames, IsLate, IsTwice}

-- Somebody asks so many questions. A test says yes only to oracles by which two different leaves are opened at one
-- place of one root, by questions of his. Of all oracles its share is at most 0 + 1 + .. + (tries - 1) over the number
-- of digests.
abbrev pub OpeningsBind : Type 0 → Type 0 → Type 0
OpeningsBind L X =
    (same : (x y : X) → Dec (x ≡ y)) (h : Hashing L X) (none : X) (answers : List X) (questions tries : ℕ)
    (ask : List X → ℕ) (wins : List X → Bool)
    → AreDistinct answers → ((before : List X) → ask before < questions)
    → ((oracle : List X) → IsOracle answers questions oracle → wins oracle ≡ true
    → IsTwice h none oracle (asked none ask oracle tries))
    → count wins (draws_from answers questions) * length answers
    ≤ total_from (λ k. k) 0 tries * length answers ^ questions

-- And of oracles by which a leaf is opened under a root of which not all was asked before a question that named the
-- root, it says yes to a share of so many digests that a question names times 1 + 2 + .. + tries at most, over the
-- number of digests. So what will be opened is known when a root is named for the first time, but for these.
abbrev pub OpeningsPrecede : Type 0 → Type 0 → Type 0
OpeningsPrecede L X =
    (same : (x y : X) → Dec (x ≡ y)) (h : Hashing L X) (none : X) (answers : List X) (questions tries most : ℕ)
    (names : ℕ → List X) (ask : List X → ℕ) (wins : List X → Bool)
    → AreDistinct answers → ((n : ℕ) → length (names n) ≤ most) → AreNames h names
    → ((before : List X) → ask before < questions)
    → ((oracle : List X) → IsOracle answers questions oracle → wins oracle ≡ true
    → IsLate h none oracle names (asked none ask oracle tries))
    → count wins (draws_from answers questions) * length answers
    ≤ total_from (λ k. most * suc k) 0 tries * length answers ^ questions

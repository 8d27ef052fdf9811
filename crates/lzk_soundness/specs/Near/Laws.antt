-- How few places of a line, and lists of weights, are close to codewords, and how few columns then agree.
use Rattle.std.specs.Prelude.{◌≡◌, ℕ, ◌+◌, ◌-◌, ◌*◌, ◌^◌, ◌<◌, ◌≤◌, Bool, true, List, length}
use Rattle.lzk_field.specs.Ring.{Ops}
use Rattle.lzk_field.specs.Sums.{entry}
use Rattle.lzk_poly.specs.Polynomial.{eval}
use Rattle.lzk_soundness.specs.Chance.Draws.{count, draws_from}
use Rattle.lzk_soundness.specs.Chance.Few.{AreDistinct, HasAtMost, HasAll}
use Rattle.lzk_soundness.specs.Near.Near.{AreApart, AreClose, AreBothClose, on_line}
use Rattle.lzk_soundness.specs.Near.Mixes.{headed, mixed, IsBadMix}

-- Where two lists of m words are not close to codewords together, for at most e + 1 elements x the first and x times
-- the second are.
abbrev pub LinesAreFew : {A : Type 0} → Ops A → Type 0
LinesAreFew {A} o =
    (at : ℕ → A) (n end e m : ℕ) (first second : ℕ → ℕ → A) → AreApart at end → 3 * e + n ≤ end
    → (AreBothClose o at n end e m first second → ⊥)
    → HasAtMost (e + 1) (λ x. AreClose o at n end e m (on_line o at n end e first second x))

-- At each place of a combination at most e + 1 weights are bad.
abbrev pub MixesAreFew : {A : Type 0} → Ops A → Type 0
MixesAreFew {A} o =
    (at : ℕ → A) (n end e m : ℕ) (constant : ℕ → A) (rows : ℕ → ℕ → A) (weight : ℕ → A) (k : ℕ) → AreApart at end
    → 3 * e + n ≤ end → k < m
    → HasAtMost (e + 1) (IsBadMix o constant rows weight at n end e m k)

-- Where the words are not close together, and no weight is bad, the combination of all is not close.
abbrev pub FarUnlessBad : {A : Type 0} → Ops A → Type 0
FarUnlessBad {A} o =
    (at : ℕ → A) (n end e m : ℕ) (constant : ℕ → A) (rows : ℕ → ℕ → A) (weight : ℕ → A)
    → (AreClose o at n end e (m + 1) (headed constant rows) → ⊥)
    → ((k : ℕ) → k < m → IsBadMix o constant rows weight at n end e m k (weight k) → ⊥)
    → AreClose o at n end e 1 (λ i. mixed o constant rows weight m) → ⊥

-- The words stand before the weights are drawn, and are not close together. The test says yes only to weights by
-- which the combination is close.
pub record IsFarTest {A : Type 0} (o : Ops A) (at : ℕ → A) (n end e m : ℕ) (constant : ℕ → A) (rows : ℕ → ℕ → A)
    (wins : List A → Bool) : Type 0 where
  pub apart : AreApart at end
  pub few : 3 * e + n ≤ end
  pub far : AreClose o at n end e (m + 1) (headed constant rows) → ⊥
  pub only : (ws : List A) → length ws ≡ m → wins ws ≡ true
      → AreClose o at n end e 1 (λ i. mixed o constant rows (entry o ws) m)

-- Of all lists of m weights from a list without repetition, the share of such a test is at most m times e + 1 over the
-- list's length.
abbrev pub MixesAreRare : {A : Type 0} → Ops A → Type 0
MixesAreRare {A} o =
    (at : ℕ → A) (n end e m : ℕ) (constant : ℕ → A) (rows : ℕ → ℕ → A) (wins : List A → Bool) (ds : List A)
    → IsFarTest o at n end e m constant rows wins → AreDistinct ds
    → count wins (draws_from ds m) * length ds ≤ m * (e + 1) * length ds ^ m

-- The same for weights from a list of all elements, of which there are more than m times e + 1: the share is at most
-- e + 2 over their number, however many words there are. For on each line through a combination that is far few are
-- close.
abbrev pub CombinationsAreRare : {A : Type 0} → Ops A → Type 0
CombinationsAreRare {A} o =
    (at : ℕ → A) (n end e m : ℕ) (constant : ℕ → A) (rows : ℕ → ℕ → A) (wins : List A → Bool) (ds : List A)
    → IsFarTest o at n end e m constant rows wins → AreDistinct ds → HasAll ds → m * (e + 1) < length ds
    → count wins (draws_from ds m) * length ds ≤ (e + 2) * length ds ^ m

-- A word that is not close to a codeword has the values of a given polynomial at fewer than all but e of the columns.
abbrev pub FarAgreesRarely : {A : Type 0} → Ops A → Type 0
FarAgreesRarely {A} o =
    (at : ℕ → A) (n end e : ℕ) (word : ℕ → A) (cs : List A) → (AreClose o at n end e 1 (λ i. word) → ⊥)
    → length cs ≤ n
    → HasAtMost (end - e - 1) (λ (j : ℕ). (j < end) × (word j ≡ eval o cs (at j)))

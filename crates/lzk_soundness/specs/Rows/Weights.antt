-- Combinations by drawn weights, and bad weights and columns.
use Rattle.std.specs.Prelude.{◌≡◌, ◌≢◌, ℕ, ◌+◌, ◌<◌, List, length, slice_index}
use Rattle.lzk_field.specs.Ring.{Ops}
use Rattle.lzk_field.specs.Sums.{sum_below}
use Rattle.lzk_poly.specs.Extension.{extension}

-- a constant, and each of the first n gaps times its weight
abbrev pub combination : {A : Type 0} → Ops A → A → (ℕ → A) → (ℕ → A) → ℕ → A
combination o constant gap weight n = o.plus constant (sum_below o n (λ i. o.times (weight i) (gap i)))

-- Gap i is the last of n that is not 0, and with x as its weight, behind the weights before it, the combination is 0.
pub record IsBadWeight {A : Type 0} (o : Ops A) (constant : A) (gap weight : ℕ → A) (n i : ℕ) (x : A) : Type 0 where
  pub some : gap i ≢ o.zero
  pub last : (j : ℕ) → i < j → j < n → gap j ≡ o.zero
  pub cancels : o.plus (combination o constant gap weight i) (o.times x (gap i)) ≡ o.zero

-- no weight of the n is bad
abbrev pub AreGoodWeights : {A : Type 0} → Ops A → A → (ℕ → A) → (ℕ → A) → ℕ → Type 0
AreGoodWeights o constant gap weight n = (i : ℕ) → i < n → IsBadWeight o constant gap weight n i (weight i) → ⊥

-- the values sent and the true ones extend to the same at a column, the columns' points beginning behind so many
abbrev pub AgreesAt : {A : Type 0} → Ops A → (ℕ → A) → ℕ → List A → List A → ℕ → Type 0
AgreesAt o point before sent right column = extension o point sent (before + column)
    ≡ extension o point right (before + column)

-- the values sent are not the true ones, and no opened column shows it
abbrev pub AreBadColumns : {A : Type 0} → Ops A → (ℕ → A) → ℕ → List A → List A → List ℕ → Type 0
AreBadColumns o point before sent right columns = (sent ≢ right)
    × ((k : ℕ) → k < length columns → AgreesAt o point before sent right (slice_index columns k))

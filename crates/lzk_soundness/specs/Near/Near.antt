-- Words that are close to codewords, together.
use Rattle.std.specs.Prelude.{◌≡◌, ℕ, ◌<◌, ◌≤◌, Bool, false, List, length}
use Rattle.std.specs.List.{range_with_len}
use Rattle.lzk_field.specs.Ring.{Ops}
use Rattle.lzk_poly.specs.Polynomial.{eval}
use Rattle.lzk_soundness.specs.Chance.Draws.{count}

-- the points of the first columns differ
abbrev pub AreApart : {A : Type 0} → (ℕ → A) → ℕ → Type 0
AreApart at end = (i j : ℕ) → i < j → j < end → at i ≡ at j → ⊥

module _ {A : Type 0} (o : Ops A) (at : ℕ → A) (n end e : ℕ) where
  -- One set of at most e of the columns below the end, outside which each of m words has the values of a polynomial
  -- with at most n coefficients.
  pub record AreClose (m : ℕ) (word : ℕ → ℕ → A) : Type 0 where
    pub outside : ℕ → Bool
    pub code : ℕ → List A
    pub few : count outside (range_with_len 0 end) ≤ e
    pub short : (i : ℕ) → i < m → length (code i) ≤ n
    pub agree : (i j : ℕ) → i < m → j < end → outside j ≡ false → word i j ≡ eval o (code i) (at j)

  -- the same set for two lists of words
  pub record AreBothClose (m : ℕ) (first second : ℕ → ℕ → A) : Type 0 where
    pub outside : ℕ → Bool
    pub first_code : ℕ → List A
    pub second_code : ℕ → List A
    pub few : count outside (range_with_len 0 end) ≤ e
    pub first_short : (i : ℕ) → i < m → length (first_code i) ≤ n
    pub second_short : (i : ℕ) → i < m → length (second_code i) ≤ n
    pub first_agree : (i j : ℕ) → i < m → j < end → outside j ≡ false → first i j ≡ eval o (first_code i) (at j)
    pub second_agree : (i j : ℕ) → i < m → j < end → outside j ≡ false → second i j ≡ eval o (second_code i) (at j)

  -- each word of the first list, and x times that of the second
  abbrev pub on_line : (ℕ → ℕ → A) → (ℕ → ℕ → A) → A → ℕ → ℕ → A
  on_line first second x i j = o.plus (first i j) (o.times x (second i j))

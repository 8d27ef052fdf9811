-- Combinations of words by drawn weights, one weight after another.
use Rattle.std.specs.Prelude.{ℕ, ◌+◌, ◌-◌}
use Rattle.std.proofs.Common.{zero, suc}
use Rattle.lzk_field.specs.Ring.{Ops}
use Rattle.lzk_soundness.specs.Rows.Weights.{combination}
use Rattle.lzk_soundness.specs.Near.Near.{AreClose}

-- a word, and words behind it
abbrev pub headed : {A : Type 0} → (ℕ → A) → (ℕ → ℕ → A) → ℕ → ℕ → A
headed word rows zero = word
headed word rows (suc i) = rows i

module _ {A : Type 0} (o : Ops A) (constant : ℕ → A) (rows : ℕ → ℕ → A) (weight : ℕ → A) where
  -- the first word, and each of the first k rows times its weight
  abbrev pub mixed : ℕ → ℕ → A
  mixed k j = combination o (constant j) (λ i. rows i j) weight k

  module _ (at : ℕ → A) (n end e m : ℕ) where
    -- The combination of the first k of m rows is not close to codewords together with the rows from k on, and with x
    -- times row k it is, with those behind.
    pub record IsBadMix (k : ℕ) (x : A) : Type 0 where
      pub far : AreClose o at n end e (m - k + 1) (headed (mixed k) (λ i. rows (k + i))) → ⊥
      pub near : AreClose o at n end e (m - (k + 1) + 1)
          (headed (λ j. o.plus (mixed k j) (o.times x (rows k j))) (λ i. rows (k + 1 + i)))

-- A place at which a function is not 0, if there is one.
use Rattle.std.specs.Prelude.{◌≡◌, ◌≢◌, ◌⊎◌, ℕ, ◌<◌, Bool, true, false}
use Rattle.std.proofs.Common.{zero, suc, inl, inr, sym, ap, ◌∙◌, arith}
use Rattle.std.proofs.lemmas.Bool.{false≢true}
use native.Mathlib.Decide.{dec_lt}
use Rattle.lzk_field.specs.Coding.{Coding}
use Rattle.lzk_field.specs.Ring.{Ops, Laws}
use Rattle.lzk_soundness.proofs.DrawsLaws.Deciding.{dec_same}

-- a place at which a function is not 0, or none
abbrev pub Found : {A : Type 0} → Ops A → (ℕ → A) → ℕ → Type 0
Found o f n = ((i : ℕ) × ((i < n) × (f i ≢ o.zero))) ⊎ ((i : ℕ) → i < n → f i ≡ o.zero)

abbrev pub is_none : {A : Type 0} (o : Ops A) (f : ℕ → A) (n : ℕ) → Found o f n → Bool
is_none o f n (inl found) = false
is_none o f n (inr none) = true

pub none_from : {A : Type 0} (o : Ops A) (f : ℕ → A) (n : ℕ) (x : Found o f n) → is_none o f n x ≡ true → (i : ℕ) → i < n → f i ≡ o.zero
none_from o f n (inl found) is = absurd (false≢true is)
none_from o f n (inr none) is = none

pub some_from : {A : Type 0} (o : Ops A) (f : ℕ → A) (n : ℕ) (x : Found o f n) → is_none o f n x ≡ false → (i : ℕ) × ((i < n) × (f i ≢ o.zero))
some_from o f n (inl found) is = found
some_from o f n (inr none) is = absurd (false≢true (sym is))

module _ {A : Type 0} (o : Ops A) (e : Coding A) (laws : Laws o e.size e.number e.element e.bytes) where
  -- the place, or that there is none
  pub look : (f : ℕ → A) (n : ℕ) → Found o f n
  look f zero = inr (λ i h. absurd (omega (arith, h)))
  look f (suc n) = next (look f n) (dec_same laws.numbers (f n) o.zero)
    where
      next : Found o f n → Dec (f n ≡ o.zero) → Found o f (suc n)
      next (inl found) d = inl (found.0, ((omega (arith, found.1.0)), found.1.1))
      next (inr none) (no some) = inl (n, (omega arith, some))
      next (inr none) (yes last) = inr (λ i h. elim (dec_lt i n) [ yes l ↦ none i l | no l ↦ let same : i ≡ n = omega (arith, h, l) in ap f same ∙ last ])

-- Entries that are read and written in turn.
use Rattle.std.specs.Prelude.{◌≡◌, ℕ, ◌<◌, ◌≤◌, ◌+◌, List, length}
use Rattle.std.proofs.Common.{sym, ap, ◌∙◌, arith, subst, get_or, slice_set, get_or-set_other, get_or-set_same, below_more}
use Rattle.std.proofs.lemmas.List.{get_or_default}
use Rattle.lzk_field.specs.Ring.{Ops}
use Rattle.lzk_field.specs.Sums.{entry}

-- an operation on two values that are others
pub both : {A : Type 0} (f : A → A → A) (a b x y : A) → a ≡ x → b ≡ y → f a b ≡ f x y
both f a b x y p q = ap (λ u. f u b) p ∙ ap (f x) q

module _ {A : Type 0} (o : Ops A) where
  -- what is read at a place is its entry
  pub read_at : (xs : List A) (i : ℕ) (x : A) → i < length xs → x ≡ get_or xs i x → x ≡ entry o xs i
  read_at xs i x h e = e ∙ get_or_default xs i x o.zero h

  -- what holds of the entries before a place, and of what is written there
  pub written_more : (P : ℕ → A → Type 0) (xs : List A) (i : ℕ) (y : A) → i < length xs → ((k : ℕ) → k < i → P k (entry o xs k)) → P i y → (k : ℕ) → k < i + 1 → P k (entry o (slice_set xs i y) k)
  written_more P xs i y h old new =
      below_more (λ k. P k (entry o (slice_set xs i y) k)) i (λ k l. subst (P k) (sym (get_or-set_other xs i k y o.zero (omega (arith, l)))) (old k l))
      (subst (P i) (sym (get_or-set_same xs i y o.zero h)) new)

  -- the entries behind stay
  pub written_rest : (ys xs : List A) (i : ℕ) (y : A) → ((k : ℕ) → i ≤ k → entry o xs k ≡ entry o ys k) → (k : ℕ) → i + 1 ≤ k → entry o (slice_set xs i y) k ≡ entry o ys k
  written_rest ys xs i y same k h = get_or-set_other xs i k y o.zero (omega (arith, h)) ∙ same k (omega (arith, h))

-- Parts that are made together.
use Rattle.std.specs.Prelude.{IfOk}
use Rattle.std.proofs.Common.{◌≡◌, Result, Ok, subst}

-- what holds of a value, if there is one, holds of the one that there is
pub made : {A E : Type 0} (r : Result A E) (x : A) (P : A → Type 0) → r ≡ Ok x → IfOk r P → P x
made r x P is h = subst (λ s. IfOk s P) is h

module _ {A B E : Type 0} (r : Result (A × B) E) (x : A × B) (is : r ≡ Ok x) where
  -- and the same of the first and the second of two that were made together
  pub first_made : (a : Result A E) (P : A → Type 0) → IfOk r (λ m. a ≡ Ok m.0) → IfOk a P → P x.0
  first_made a P own h = made a x.0 P (made r x (λ m. a ≡ Ok m.0) is own) h

  pub second_made : (b : Result B E) (P : B → Type 0) → IfOk r (λ m. b ≡ Ok m.1) → IfOk b P → P x.1
  second_made b P own h = made b x.1 P (made r x (λ m. b ≡ Ok m.1) is own) h

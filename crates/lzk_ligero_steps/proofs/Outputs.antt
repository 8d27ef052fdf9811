-- A circuit's checks among what is known of its wires and checks.
use Rattle.std.specs.Prelude.{◌≡◌, ℕ, List, Some, None}
use Rattle.std.proofs.Common.{sym, ap, ◌∙◌, subst}
use Rattle.lzk_field.specs.Ring.{Ops}
use Rattle.lzk_field.specs.Sums.{entry}
use Rattle.lzk_circuit.specs.Wires.{IsFirstNonzero}

module _ {A : Type 0} (o : Ops A) (known checks : List A) (all : known ≡ checks) where
  pub no-output : IsFirstNonzero o known None → IsFirstNonzero o checks None
  no-output = subst (λ xs. IsFirstNonzero o xs None) all

  -- the check that is named has the value that stands there
  pub first-output : (k : ℕ) (x : A) → IsFirstNonzero o known (Some (k, x)) → IsFirstNonzero o checks (Some (k, entry o checks k))
  first-output k x first = subst (λ xs. IsFirstNonzero o xs (Some (k, entry o xs k))) all
      (subst (λ y. IsFirstNonzero o known (Some (k, y))) (sym first.1) first)

  -- the check that is named, with what is known of it
  pub named-output : (k n : ℕ) (x : A) → IsFirstNonzero o checks (Some (k, entry o checks k)) → n ≡ k → x ≡ entry o known k → IsFirstNonzero o checks (Some (n, x))
  named-output k n x first number value =
      subst (λ i. IsFirstNonzero o checks (Some (i, x))) (sym number)
      (subst (λ y. IsFirstNonzero o checks (Some (k, y))) (ap (λ xs. entry o xs k) (sym all) ∙ sym value) first)

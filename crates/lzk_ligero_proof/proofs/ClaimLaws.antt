-- A true claim stays true: what a claim and two true values of a round make is the next true claim.
use Rattle.std.specs.Prelude.{◌≡◌, ℕ, ◌*◌, ◌<◌, List, [], ◌∷◌, ◌++◌, length}
use Rattle.std.proofs.Common.{zero, suc, refl, sym, ap, ◌∙◌, arith}
use Rattle.lzk_field.specs.Ring.{Ops, Laws}
use Rattle.lzk_field.specs.Sums.{minus, entry}
use Rattle.lzk_field.proofs.Numbering.{points_apart}
use Rattle.lzk_field.proofs.Solve.{var, ◌⊞◌, ◌⊟◌, solve}
use Rattle.lzk_poly.specs.Extension.{IsThrough}
use Rattle.lzk_poly.specs.Polynomial.{eval}
use Rattle.lzk_sumcheck.specs.Rounds.{Layered, claim, round, IsSumcheck}
use Rattle.lzk_accept.specs.Residuals.{next_claim}
use Rattle.lzk_accept.proofs.PointLaws.{next_value}

-- a function's first three values
three_values : {A : Type 0} (o : Ops A) (f : ℕ → A) (p0 p1 p2 : A) → f 0 ≡ p0 → f 1 ≡ p1 → f 2 ≡ p2 → (i : ℕ) → i < 3 → f i ≡ entry o (p0 ∷ p1 ∷ p2 ∷ []) i
three_values o f p0 p1 p2 e0 e1 e2 zero h = e0
three_values o f p0 p1 p2 e0 e1 e2 (suc zero) h = e1
three_values o f p0 p1 p2 e0 e1 e2 (suc (suc zero)) h = e2
three_values o f p0 p1 p2 e0 e1 e2 (suc (suc (suc i))) h = absurd (omega (arith, h))

module _ {A : Type 0} {o : Ops A} {size : ℕ} {number_of : A → ℕ} {element : ℕ → A} {bytes : ℕ} (laws : Laws o size number_of element bytes) where
  pub next_true : (s : Layered A) → IsSumcheck o element s → (bound : List A) (t : A) → length bound < 2 * s.bits
      → next_claim o element (claim o s bound) (round o s bound (element 0)) (round o s bound (element 2)) t ≡ claim o s (bound ++ t ∷ [])
  next_true s is bound t h =
      let curve = is.curve bound h in
      let cs = curve.0 in
      let at = curve.1.1 in
      let p0 = round o s bound (element 0) in
      let p1 = round o s bound (element 1) in
      let p2 = round o s bound (element 2) in
      let rest : minus o (claim o s bound) p0 ≡ p1 =
      ap (λ x. minus o x p0) (sym (is.next bound h)) ∙ solve o laws.ring (p0 ∷ p1 ∷ []) ((var 0 ⊞ var 1) ⊟ var 0) (var 1) refl in
      let q1 = minus o (claim o s bound) p0 in
      let through : IsThrough o element (p0 ∷ q1 ∷ p2 ∷ []) cs = record {
        count = curve.1.0;
        meets = three_values o (λ i. eval o cs (element i)) p0 q1 p2 (sym (at (element 0))) (sym (at (element 1)) ∙ sym rest) (sym (at (element 2)));
      } in
      next_value o laws.ring element laws.field (claim o s bound) p0 p2 t cs (points_apart laws 3 (omega arith)) through ∙ sym (at t)

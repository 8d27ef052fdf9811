-- The claim after a round, of the three points' shares.
use Rattle.std.specs.Prelude.{◌≡◌, ℕ, [], ◌∷◌}
use Rattle.std.proofs.Common.{refl, ap, ◌∙◌}
use Rattle.lzk_field.specs.Ring.{Ops, RingLaws}
use Rattle.lzk_field.specs.Sums.{minus}
use Rattle.lzk_field.proofs.Solve.{var, null, ◌⊞◌, solve}
use Rattle.lzk_poly.specs.Extension.{lagrange}
use Rattle.lzk_accept.specs.Residuals.{next_claim}

module _ {A : Type 0} (o : Ops A) (r : RingLaws o) (point : ℕ → A) where
  open o use {plus, times}

  -- the next claim, of the three shares
  pub next_is : (claim p0 p2 t s0 s1 s2 : A) → s0 ≡ lagrange o point 3 0 t → s1 ≡ lagrange o point 3 1 t → s2 ≡ lagrange o point 3 2 t
      → plus (plus (times p0 s0) (times (minus o claim p0) s1)) (times p2 s2) ≡ next_claim o point claim p0 p2 t
  unfolding next_claim
  next_is claim p0 p2 t s0 s1 s2 e0 e1 e2 =
      let d = minus o claim p0 in
      ap (λ w. plus (plus (times p0 w) (times d s1)) (times p2 s2)) e0
      ∙ ap (λ w. plus (plus (times p0 (lagrange o point 3 0 t)) (times d w)) (times p2 s2)) e1
      ∙ ap (λ w. plus (plus (times p0 (lagrange o point 3 0 t)) (times d (lagrange o point 3 1 t))) (times p2 w)) e2
      ∙ solve o r (times p0 (lagrange o point 3 0 t) ∷ times d (lagrange o point 3 1 t) ∷ times p2 (lagrange o point 3 2 t) ∷ [])
      ((var 0 ⊞ var 1) ⊞ var 2) (((null ⊞ var 0) ⊞ var 1) ⊞ var 2) refl

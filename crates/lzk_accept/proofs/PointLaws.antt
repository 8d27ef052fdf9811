-- Lagrange's polynomials of three points.
use Rattle.std.specs.Prelude.{◌≡◌, ◌≢◌, ℕ, ◌<◌, List, [], ◌∷◌}
use Rattle.std.proofs.Common.{refl, sym, ap, ◌∙◌}
use Rattle.lzk_field.specs.Ring.{Ops, RingLaws, FieldLaws}
use Rattle.lzk_field.specs.Sums.{minus}
use Rattle.lzk_field.proofs.Solve.{var, unit as solo, ◌⊠◌, solve}
use Rattle.lzk_poly.specs.Extension.{others, lagrange, IsThrough}
use Rattle.lzk_poly.specs.Polynomial.{eval}
use Rattle.lzk_poly.proofs.Through.{eval-through, through-only}
use Rattle.lzk_accept.specs.Residuals.{next_claim}

module _ {A : Type 0} (o : Ops A) (r : RingLaws o) (point : ℕ → A) where
  open o use {plus, times, inverse}

  pub others_first : (x : A) → times (minus o x (point 1)) (minus o x (point 2)) ≡ others o point 3 0 x
  others_first x = solve o r (minus o x (point 1) ∷ minus o x (point 2) ∷ []) (var 0 ⊠ var 1) (((solo ⊠ solo) ⊠ var 0) ⊠ var 1) refl

  pub others_second : (x : A) → times (minus o x (point 0)) (minus o x (point 2)) ≡ others o point 3 1 x
  others_second x = solve o r (minus o x (point 0) ∷ minus o x (point 2) ∷ []) (var 0 ⊠ var 1) (((solo ⊠ var 0) ⊠ solo) ⊠ var 1) refl

  pub others_third : (x : A) → times (minus o x (point 0)) (minus o x (point 1)) ≡ others o point 3 2 x
  others_third x = solve o r (minus o x (point 0) ∷ minus o x (point 1) ∷ []) (var 0 ⊠ var 1) (((solo ⊠ var 0) ⊠ var 1) ⊠ solo) refl

  -- an inverse, of points by number
  pub inverse_is : (k : ℕ) (i x u v p q t : A) → i ≡ inverse (times (minus o x u) (minus o x v)) → x ≡ t → u ≡ p → v ≡ q
      → times (minus o t p) (minus o t q) ≡ others o point 3 k t → i ≡ inverse (others o point 3 k t)
  inverse_is k i x u v p q t e ex eu ev eo =
      e ∙ ap (λ w. inverse (times (minus o w u) (minus o w v))) ex ∙ ap (λ w. inverse (times (minus o t w) (minus o t v))) eu
      ∙ ap (λ w. inverse (times (minus o t p) (minus o t w))) ev ∙ ap inverse eo

  -- a share, of points by number
  pub share_is : (k : ℕ) (t s m i a b x y p q : A) → s ≡ times m i → m ≡ times a b → a ≡ minus o t x → b ≡ minus o t y → x ≡ p → y ≡ q
      → times (minus o t p) (minus o t q) ≡ others o point 3 k t → i ≡ inverse (others o point 3 k (point k)) → s ≡ lagrange o point 3 k t
  share_is k t s m i a b x y p q es em ea eb ex ey eo ei =
      es ∙ ap (λ w. times w i) (em ∙ ap (λ w. times w b) (ea ∙ ap (minus o t) ex) ∙ ap (times (minus o t p)) (eb ∙ ap (minus o t) ey) ∙ eo)
      ∙ ap (times (others o point 3 k t)) ei

  -- the next claim is the value of the one polynomial
  pub next_value : FieldLaws o → (claim p0 p2 t : A) (cs : List A) → ((i j : ℕ) → i < j → j < 3 → point i ≢ point j)
      → IsThrough o point (p0 ∷ minus o claim p0 ∷ p2 ∷ []) cs → next_claim o point claim p0 p2 t ≡ eval o cs t
  unfolding next_claim
  next_value f claim p0 p2 t cs apart is =
      let values = p0 ∷ minus o claim p0 ∷ p2 ∷ [] in
      sym (eval-through o r point values t) ∙ ap (λ c. eval o c t) (sym (through-only o r f point values cs apart is))

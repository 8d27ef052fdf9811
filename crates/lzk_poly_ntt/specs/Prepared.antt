-- Factors that are kept times a scale.
use Rattle.std.specs.Prelude.{◌≡◌, ◌≢◌}
use Rattle.std.proofs.Common.{sym, ap, ◌∙◌}
use Rattle.lzk_field.specs.Ring.{Ops, RingLaws, FieldLaws}

module _ {A : Type 0} (o : Ops A) (r : RingLaws o) (f : FieldLaws o) (s : A) (h : s ≢ o.zero) where
  open o use {times, inverse}

  -- over the scale, and times it
  pub over_times : (x : A) → times (times x (inverse s)) s ≡ x
  over_times x =
      r.times_assoc x (inverse s) s ∙ ap (times x) (r.times_comm (inverse s) s ∙ f.times_inverse s h) ∙ r.times_one x

  -- times the scale, and over it
  pub times_over : (x : A) → times (times x s) (inverse s) ≡ x
  times_over x = r.times_assoc x s (inverse s) ∙ ap (times x) (f.times_inverse s h) ∙ r.times_one x

  -- a product over the scale is a product by a factor over it
  pub product_over : (x y z : A) → times z s ≡ times x y → z ≡ times x (times y (inverse s))
  product_over x y z e = sym (times_over z) ∙ ap (λ w. times w (inverse s)) e ∙ r.times_assoc x y (inverse s)

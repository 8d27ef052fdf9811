-- What is kept of the first three points, and what the values there count for elsewhere.
use Rattle.std.specs.Prelude.{◌≡◌, ℕ}
use Rattle.lzk_field.specs.Ring.{Ops}
use Rattle.lzk_poly.specs.Extension.{others, lagrange}
use Rattle.lzk_accept.specs.declared.points.Shares.{Shares}

-- these are the inverses of the product of each point's differences to the other two
pub record AreInverses {A : Type 0} (o : Ops A) (point : ℕ → A) (a b c : A) : Type 0 where
  pub first : a ≡ o.inverse (others o point 3 0 (point 0))
  pub second : b ≡ o.inverse (others o point 3 1 (point 1))
  pub third : c ≡ o.inverse (others o point 3 2 (point 2))

-- Lagrange's polynomials of the three points, at t
pub record AreShares {A : Type 0} (o : Ops A) (point : ℕ → A) (t : A) (shares : Shares A) : Type 0 where
  pub first : shares.first ≡ lagrange o point 3 0 t
  pub second : shares.second ≡ lagrange o point 3 1 t
  pub third : shares.third ≡ lagrange o point 3 2 t

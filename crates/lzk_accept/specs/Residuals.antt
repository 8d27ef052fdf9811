-- What is left of the claims when the pads and the private inputs are a list w, for any coefficients q of the layers.
use Rattle.std.specs.Prelude.{ℕ, ◌+◌, ◌*◌, cond, nat_lt, List, [], ◌∷◌, take, replicate, slice_set}
use Rattle.std.proofs.Common.{zero, suc}
use Rattle.lzk_field.specs.Ring.{Ops}
use Rattle.lzk_field.specs.Sums.{minus, entry}
use Rattle.lzk_poly.specs.Through.{through_at}
use Rattle.lzk_mle.specs.Multilinear.{tilde}
use Rattle.lzk_circuit.specs.Valid.{Wiring}
use Rattle.lzk_circuit.specs.Wires.{inputs_of}
use Rattle.lzk_layout.specs.Sizes.{committed_count}
use Rattle.lzk_layout.specs.Places.{depth, round_count, sent_at, pads_at, factors_sent_at, factors_at}
use Rattle.lzk_sumcheck.specs.declared.script.Script.{Script}
use Rattle.lzk_sumcheck.specs.Script.{layer_at, point_a, point_b, challenge_at}
use Rattle.lzk_sumcheck.specs.Coefficients.{bound_at}

-- the value at t of the polynomial through p0 at point 0, the claim less p0 at point 1, and p2 at point 2
unfoldable pub next_claim : {A : Type 0} → Ops A → (ℕ → A) → A → A → A → A → A
next_claim o point claim p0 p2 t = through_at o point (p0 ∷ minus o claim p0 ∷ p2 ∷ []) t

-- n zeros
abbrev pub zeros : {A : Type 0} → Ops A → ℕ → List A
zeros o n = replicate n o.zero

-- n zeros but for a one at j
abbrev pub unit : {A : Type 0} → Ops A → ℕ → ℕ → List A
unit o n j = slice_set (zeros o n) j o.one

module _ {A : Type 0} (o : Ops A) where
  -- a sent element with its pad: number i of the messages, and entry j of w
  abbrev pub padded : List A → List A → ℕ → ℕ → A
  padded messages w i j = o.plus (entry o messages i) (entry o w j)

  module _ (c : Wiring A) where
    -- the extension of the input layer that has the private inputs of w
    abbrev pub inputs_at : List A → List A → List A → A
    inputs_at public w r = tilde o (inputs_of o public (take c.privates w)) r

    module _ (messages : List A) where
      -- the first claim with which a layer begins: zero at layer 0, and below it the first padded factor of the layer
      -- above
      abbrev pub claim_a : List A → ℕ → A
      claim_a w zero = o.zero
      claim_a w (suc l) = padded messages w (factors_sent_at c l) (factors_at c l)

      -- the second one: with the second factor
      abbrev pub claim_b : List A → ℕ → A
      claim_b w zero = o.zero
      claim_b w (suc l) = padded messages w (factors_sent_at c l + 1) (factors_at c l + 1)

      -- s0 * s1 + s0 * d1 + s1 * d0 + e, of layer l's sent factors and the three entries of w that stand for their pads
      -- and the pads' product
      abbrev pub product_at : List A → ℕ → A
      product_at w l =
          let s0 = entry o messages (factors_sent_at c l) in
          let s1 = entry o messages (factors_sent_at c l + 1) in
          let d0 = entry o w (factors_at c l) in
          let d1 = entry o w (factors_at c l + 1) in
          let e = entry o w (factors_at c l + 2) in
          o.plus (o.plus (o.plus (o.times s0 s1) (o.times s0 d1)) (o.times s1 d0)) e

module _ {A : Type 0} (o : Ops A) (point : ℕ → A) (c : Wiring A) where
  -- the claim of layer l after n rounds
  unfoldable pub claim_after : Script A → List A → List A → ℕ → ℕ → A
  claim_after s messages w l zero =
      o.plus (claim_a o c messages w l) (o.times (layer_at o s l).alpha (claim_b o c messages w l))
  claim_after s messages w l (suc n) =
      let i = sent_at c l + 2 * n in
      let j = pads_at c l + 2 * n in
      next_claim o point (claim_after s messages w l n) (padded o messages w i j) (padded o messages w (i + 1) (j + 1))
      (challenge_at o s l n)

  module _ (q : ℕ → ℕ → ℕ → ℕ → A) (public : List A) (s : Script A) (messages : List A) where
    -- the i-th residual: for a layer the claim after its rounds, less what the factors give; behind the last layer what
    -- the inputs give, less its claims
    unfoldable pub residual : List A → ℕ → A
    residual w i =
        cond (nat_lt i (depth c)) (minus o (claim_after s messages w i (round_count c i))
        (o.times (bound_at o c q s i) (product_at o c messages w i))) (minus o (minus o
        (o.plus (inputs_at o c public w (point_a o s i)) (o.times s.gamma (inputs_at o c public w (point_b o s i))))
        (claim_a o c messages w i)) (o.times s.gamma (claim_b o c messages w i)))

    -- the coefficient of linear constraint i at entry j: what a one there changes
    abbrev pub linear_coefficient : ℕ → ℕ → A
    linear_coefficient i j =
        minus o (residual (unit o (committed_count c) j) i) (residual (zeros o (committed_count c)) i)

    -- the right side of linear constraint i
    abbrev pub right_side : ℕ → A
    right_side i = o.neg (residual (zeros o (committed_count c)) i)

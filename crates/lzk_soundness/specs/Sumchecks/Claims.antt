-- The true values beside a prover's claims, for any committed list, draws and sent elements, and which draws of the
-- sumchecks are bad.
use Rattle.std.specs.Prelude.{◌≡◌, ℕ, ◌+◌, ◌*◌, ◌<◌, ◌≤◌, List, map, take}
use Rattle.std.specs.List.{range_with_len}
use Rattle.lzk_field.specs.Ring.{Ops}
use Rattle.lzk_field.specs.Sums.{entry}
use Rattle.lzk_mle.specs.Multilinear.{tilde}
use Rattle.lzk_circuit.specs.Valid.{Wiring}
use Rattle.lzk_circuit.specs.Wires.{all_values, inputs_of, list_at}
use Rattle.lzk_circuit.specs.Checks.{asserted}
use Rattle.lzk_layout.specs.Places.{depth, width_at, round_count, sent_at, pads_at, factors_at}
use Rattle.lzk_sumcheck.specs.declared.script.Script.{Script}
use Rattle.lzk_sumcheck.specs.Coefficients.{coefficients, terms_at}
use Rattle.lzk_sumcheck.specs.Messages.{layered_at}
use Rattle.lzk_sumcheck.specs.Script.{layer_at, point_a, point_b, challenge_at, first_challenges}
use Rattle.lzk_accept.specs.Residuals.{padded, claim_a, claim_b, claim_after, residual}
use Rattle.lzk_soundness.specs.Sumchecks.Bad.{IsBadJoin, IsBadBeta, IsBadRound, HidesNothing}

module _ {A : Type 0} (o : Ops A) (c : Wiring A) (public w : List A) where
  -- the values of all layers for the private inputs that are in the list
  abbrev pub values_in : List (List A)
  values_in = all_values o c.layers (inputs_of o public (take c.privates w))

  -- those of layer l
  abbrev pub values_at : ℕ → List A
  values_at l = list_at values_in l

  -- what the assertion terms of layer l count for each of its wires
  abbrev pub asserted_at : ℕ → List A
  asserted_at l = map (asserted o (terms_at c l) (values_at (l + 1))) (range_with_len 0 (width_at c l))

  -- the list has the product of the two factors' pads in each layer
  abbrev pub HasProducts : Type 0
  HasProducts = (l : ℕ) → l < depth c
      → o.times (entry o w (factors_at c l)) (entry o w (factors_at c l + 1)) ≡ entry o w (factors_at c l + 2)

  module _ (point : ℕ → A) (s : Script A) (messages : List A) where
    -- every residual is 0
    abbrev pub Vanish : Type 0
    Vanish = (i : ℕ) → i ≤ depth c → residual o point c (coefficients o c s) public s messages w i ≡ o.zero

    -- first plus layer l's alpha times second
    abbrev pub with_alpha : ℕ → A → A → A
    with_alpha l first second = o.plus first (o.times (layer_at o s l).alpha second)

    -- x as alpha of layer l joins its two claims to a true one, and one of them is not true
    abbrev pub IsBadAlpha : ℕ → A → Type 0
    IsBadAlpha l x = IsBadJoin o (claim_a o c messages w l) (claim_b o c messages w l)
        (tilde o (values_at l) (point_a o s l)) (tilde o (values_at l) (point_b o s l)) x

    -- x as beta of layer l makes what its assertion terms count look like 0
    abbrev pub IsBadBetaAt : ℕ → A → Type 0
    IsBadBetaAt l x =
        IsBadBeta o (with_alpha l (claim_a o c messages w l) (claim_b o c messages w l))
        (with_alpha l (tilde o (values_at l) (point_a o s l)) (tilde o (values_at l) (point_b o s l)))
        (with_alpha l (tilde o (asserted_at l) (point_a o s l)) (tilde o (asserted_at l) (point_b o s l))) x

    -- x as the challenge of round n of layer l makes a claim true that was not
    abbrev pub IsBadChallenge : ℕ → ℕ → A → Type 0
    IsBadChallenge l n x =
        IsBadRound o point (layered_at o c s values_in l) (first_challenges o s l n)
        (claim_after o point c s messages w l n)
        (padded o messages w (sent_at c l + 2 * n) (pads_at c l + 2 * n))
        (padded o messages w (sent_at c l + 2 * n + 1) (pads_at c l + 2 * n + 1)) x

    -- x as gamma joins the claims on the inputs to a true one, and one of them is not true
    abbrev pub IsBadGamma : A → Type 0
    IsBadGamma x = IsBadAlpha (depth c) x

    -- no such draw is bad: each alpha, beta and challenge, and gamma
    pub record NoneBad : Type 0 where
      pub alphas : (l : ℕ) → l < depth c → IsBadAlpha l (layer_at o s l).alpha → ⊥
      pub betas : (l : ℕ) → l < depth c → IsBadBetaAt l (layer_at o s l).beta → ⊥
      pub challenges : (l n : ℕ) → l < depth c → n < round_count c l → IsBadChallenge l n (challenge_at o s l n) → ⊥
      pub gamma : IsBadGamma s.gamma → ⊥

    -- x as alpha of layer l joins what its assertion terms count at the two points to 0, and one of them is not 0
    abbrev pub IsHidingAlpha : ℕ → A → Type 0
    IsHidingAlpha l x = IsBadJoin o (tilde o (asserted_at l) (point_a o s l))
        (tilde o (asserted_at l) (point_b o s l)) o.zero o.zero x

    -- the outputs' point hides no output
    abbrev pub OutputsShow : Type 0
    OutputsShow = HidesNothing o (values_at 0) (point_b o s 0)

    -- neither the second point of layer l nor its alpha hides what its assertion terms count
    pub record AssertedShow (l : ℕ) : Type 0 where
      pub points : HidesNothing o (asserted_at l) (point_b o s l)
      pub alpha : IsHidingAlpha l (layer_at o s l).alpha → ⊥

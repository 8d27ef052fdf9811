-- Provers of the sumchecks, and the draws that are bad for them.
use Rattle.std.specs.Prelude.{◌≡◌, ◌⊎◌, ℕ, ◌+◌, ◌*◌, ◌/◌, ◌%◌, ◌<◌, ◌≤◌, ◌==◌, ◌&&◌, cond, List, take}
use Rattle.std.proofs.Common.{zero, suc}
use Rattle.lzk_field.specs.Ring.{Ops}
use Rattle.lzk_field.specs.Sums.{entry}
use Rattle.lzk_circuit.specs.Valid.{Wiring}
use Rattle.lzk_layout.specs.Places.{depth, round_count, sent_at}
use Rattle.lzk_sumcheck.specs.declared.script.Script.{Script}
use Rattle.lzk_sumcheck.specs.Script.{layer_at}
use Rattle.lzk_soundness.specs.Sumchecks.Bad.{IsBadBinding}
use Rattle.lzk_soundness.specs.Sumchecks.Claims.{values_at, asserted_at, IsBadAlpha, IsBadBetaAt, IsBadChallenge, IsBadGamma, IsHidingAlpha}
use Rattle.lzk_soundness.specs.Draws.Schedule.{Draw, firsts, drawn_at}
use Rattle.lzk_soundness.specs.Draws.Schedule.Draw.{coordinate, alpha, beta, challenge, gamma, other}

-- two lists have the same entries below n
abbrev pub AgreeBelow : {A : Type 0} → Ops A → ℕ → List A → List A → Type 0
AgreeBelow o n xs ys = (k : ℕ) → k < n → entry o xs k ≡ entry o ys k

-- A prover sends elements for the draws. What is sent before a draw is the same for draws that are the same before
-- it.
pub record IsProver {A : Type 0} (o : Ops A) (c : Wiring A) (send : List A → List A) : Type 0 where
  pub layers : (l : ℕ) (xs ys : List A) → l ≤ depth c → AgreeBelow o (drawn_at c l) xs ys
      → AgreeBelow o (sent_at c l) (send xs) (send ys)
  pub rounds : (l n : ℕ) (xs ys : List A) → l < depth c → n < round_count c l
      → AgreeBelow o (drawn_at c l + firsts c + n) xs ys
      → AgreeBelow o (sent_at c l + 2 * n + 2) (send xs) (send ys)

-- what may be false of a list that is committed to: that the outputs are 0, or that what layer l's assertion terms
-- count is
pub data Target : Type 0 where
  outputs : Target
  assertions : ℕ → Target

module _ {A : Type 0} (o : Ops A) (c : Wiring A) (public w : List A) where
  -- its values
  abbrev pub table_of : Target → List A
  table_of outputs = values_at o c public w 0
  table_of (assertions l) = asserted_at o c public w l

  module _ (point : ℕ → A) (s : Script A) (messages : List A) where
    -- x as a coordinate of the outputs' point hides the target
    abbrev pub HidesAtOutputs : Target → ℕ → A → Type 0
    HidesAtOutputs outputs j x = IsBadBinding o (values_at o c public w 0) (take j s.out_point) x
    HidesAtOutputs (assertions zero) j x = IsBadBinding o (asserted_at o c public w 0) (take j s.out_point) x
    HidesAtOutputs (assertions (suc l)) j x = ⊥

    -- x as alpha of layer k does
    abbrev pub HidesAtAlpha : Target → ℕ → A → Type 0
    HidesAtAlpha outputs k x = ⊥
    HidesAtAlpha (assertions l) k x = (l ≡ k) × IsHidingAlpha o c public w point s messages k x

    -- x as the challenge of round n of layer k, for a bit of b, does
    abbrev pub HidesAtRound : Target → ℕ → ℕ → A → Type 0
    HidesAtRound outputs k n x = ⊥
    HidesAtRound (assertions zero) k n x = ⊥
    HidesAtRound (assertions (suc l)) k n x = (l ≡ k) × (n % 2 ≡ 1)
        × IsBadBinding o (asserted_at o c public w (suc k)) (take (n / 2) (layer_at o s k).rb) x

    -- x is bad as this draw, for a target
    abbrev pub IsBadDraw : Target → Draw → A → Type 0
    IsBadDraw target (coordinate j) x = HidesAtOutputs target j x
    IsBadDraw target (alpha l) x = IsBadAlpha o c public w point s messages l x ⊎ HidesAtAlpha target l x
    IsBadDraw target (beta l) x = IsBadBetaAt o c public w point s messages l x
    IsBadDraw target (challenge l n) x = IsBadChallenge o c public w point s messages l n x
        ⊎ HidesAtRound target l n x
    IsBadDraw target gamma x = IsBadGamma o c public w point s messages x
    IsBadDraw target other x = ⊥

-- how many elements may be bad as a draw, for a target
abbrev pub degree : Target → Draw → ℕ
degree outputs (coordinate j) = 1
degree (assertions zero) (coordinate j) = 1
degree (assertions (suc l)) (coordinate j) = 0
degree outputs (alpha k) = 1
degree (assertions l) (alpha k) = cond (l == k) 2 1
degree target (beta k) = 1
degree outputs (challenge k n) = 2
degree (assertions l) (challenge k n) = cond ((l == suc k) && (n % 2 == 1)) 3 2
degree target gamma = 1
degree target other = 0

-- A layer's claim, round by round.
use Rattle.std.specs.Prelude.{◌≡◌, ℕ, ◌+◌, ◌*◌, List}
use Rattle.std.proofs.Common.{suc, ap, ◌∙◌}
use Rattle.lzk_field.specs.Ring.{Ops}
use Rattle.lzk_circuit.specs.Valid.{Wiring}
use Rattle.lzk_layout.specs.Places.{sent_at, pads_at}
use Rattle.lzk_sumcheck.specs.declared.script.Script.{Script}
use Rattle.lzk_sumcheck.specs.Script.{layer_at, challenge_at}
use Rattle.lzk_accept.specs.Residuals.{next_claim, padded, claim_a, claim_b, claim_after}

module _ {A : Type 0} (o : Ops A) (point : ℕ → A) (c : Wiring A) (s : Script A) (messages w : List A) (l : ℕ) where
  open o use {plus, times}

  pub claim_first : (claim a b alpha : A) → a ≡ claim_a o c messages w l → b ≡ claim_b o c messages w l → alpha ≡ (layer_at o s l).alpha
      → claim ≡ plus a (times alpha b) → claim ≡ claim_after o point c s messages w l 0
  unfolding claim_after
  claim_first claim a b alpha ea eb el e =
      e ∙ ap (λ x. plus x (times alpha b)) ea ∙ ap (λ x. plus (claim_a o c messages w l) (times x b)) el
      ∙ ap (λ x. plus (claim_a o c messages w l) (times (layer_at o s l).alpha x)) eb

  -- one more round
  pub one_more : (n : ℕ) (claim new t : A) (i j : ℕ) → claim ≡ claim_after o point c s messages w l n → i ≡ sent_at c l + 2 * n → j ≡ pads_at c l + 2 * n
      → t ≡ challenge_at o s l n → new ≡ next_claim o point claim (padded o messages w i j) (padded o messages w (i + 1) (j + 1)) t
      → new ≡ claim_after o point c s messages w l (suc n)
  unfolding claim_after
  one_more n claim new t i j ec ei ej et e =
      e ∙ ap (λ x. next_claim o point x (padded o messages w i j) (padded o messages w (i + 1) (j + 1)) t) ec
      ∙ ap (λ x. next_claim o point (claim_after o point c s messages w l n) (padded o messages w x j) (padded o messages w (x + 1) (j + 1)) t) ei
      ∙ ap (λ x. next_claim o point (claim_after o point c s messages w l n) (padded o messages w (sent_at c l + 2 * n) x) (padded o messages w (sent_at c l + 2 * n + 1) (x + 1)) t) ej
      ∙ ap (next_claim o point (claim_after o point c s messages w l n) (padded o messages w (sent_at c l + 2 * n) (pads_at c l + 2 * n)) (padded o messages w (sent_at c l + 2 * n + 1) (pads_at c l + 2 * n + 1))) et

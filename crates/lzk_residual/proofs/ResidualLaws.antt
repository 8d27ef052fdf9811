-- The residuals by their parts.
use Rattle.std.specs.Prelude.{◌≡◌, ℕ, ◌<◌, ◌≤◌, cond, List}
use Rattle.std.proofs.Common.{sym, ap, ◌∙◌}
use Rattle.std.proofs.lemmas.Bool.{lt-ltb, le-ltb}
use Rattle.lzk_field.specs.Ring.{Ops, RingLaws}
use Rattle.lzk_field.specs.Sums.{minus}
use Rattle.lzk_circuit.specs.Valid.{Wiring}
use Rattle.lzk_sumcheck.specs.declared.script.Script.{Script}
use Rattle.lzk_sumcheck.specs.Script.{point_a, point_b}
use Rattle.lzk_layout.specs.Places.{depth, round_count}
use Rattle.lzk_sumcheck.specs.Coefficients.{bound_at}
use Rattle.lzk_accept.specs.Residuals.{claim_a, claim_b, claim_after, product_at, inputs_at, residual}

module _ {A : Type 0} (o : Ops A) (r : RingLaws o) (point : ℕ → A) (c : Wiring A) (q : ℕ → ℕ → ℕ → ℕ → A) (public : List A) (s : Script A) (messages : List A) where
  open o use {plus, times}

  -- the residual of a layer, by its parts
  pub residual_layer : (w : List A) (i : ℕ) (x claim bound product m : A) → i < depth c → claim ≡ claim_after o point c s messages w i (round_count c i) → bound ≡ bound_at o c q s i
      → product ≡ product_at o c messages w i → m ≡ times bound product → x ≡ minus o claim m → x ≡ residual o point c q public s messages w i
  unfolding residual
  residual_layer w i x claim bound product m h ec eb ep em e =
      let C = claim_after o point c s messages w i (round_count c i) in
      let B = bound_at o c q s i in
      let P = product_at o c messages w i in
      let ca = claim_a o c messages w i in
      let cb = claim_b o c messages w i in
      let I = minus o (minus o (plus (inputs_at o c public w (point_a o s i)) (times s.gamma (inputs_at o c public w (point_b o s i)))) ca) (times s.gamma cb) in
      e ∙ ap (minus o claim) (em ∙ ap (λ y. times y product) eb ∙ ap (times B) ep) ∙ ap (λ y. minus o y (times B P)) ec
      ∙ ap (λ b. cond b (minus o C (times B P)) I) (sym (lt-ltb i (depth c) h))

  -- the residual of the inputs, by its parts
  pub residual_inputs : (w : List A) (i : ℕ) (x y inputs first second m : A) → depth c ≤ i
      → inputs ≡ plus (inputs_at o c public w (point_a o s i)) (times s.gamma (inputs_at o c public w (point_b o s i)))
      → first ≡ claim_a o c messages w i → second ≡ claim_b o c messages w i → y ≡ minus o inputs first → m ≡ times s.gamma second → x ≡ minus o y m
      → x ≡ residual o point c q public s messages w i
  unfolding residual
  residual_inputs w i x y inputs first second m h ei ea eb ey em e =
      let C = claim_after o point c s messages w i (round_count c i) in
      let B = bound_at o c q s i in
      let P = product_at o c messages w i in
      let ca = claim_a o c messages w i in
      let cb = claim_b o c messages w i in
      let T = plus (inputs_at o c public w (point_a o s i)) (times s.gamma (inputs_at o c public w (point_b o s i))) in
      e ∙ ap (minus o y) (em ∙ ap (times s.gamma) eb) ∙ ap (λ z. minus o z (times s.gamma cb)) (ey ∙ ap (minus o inputs) ea ∙ ap (λ z. minus o z ca) ei)
      ∙ ap (λ b. cond b (minus o C (times B P)) (minus o (minus o T ca) (times s.gamma cb))) (sym (le-ltb i (depth c) h))

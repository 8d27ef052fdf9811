-- What is sent in the sumchecks: true values less pads, by the challenges that are drawn behind what is sent before.
use Rattle.std.specs.Prelude.{◌≡◌, ℕ, ◌+◌, ◌*◌, ◌<◌, List, length}
use Rattle.lzk_field.specs.Coding.{Coding}
use Rattle.lzk_field.specs.Ring.{Ops}
use Rattle.lzk_field.specs.Sums.{minus, entry}
use Rattle.lzk_transcript.specs.Tape.{TapeState}
use Rattle.lzk_mle.specs.Multilinear.{tilde}
use Rattle.lzk_circuit.specs.Valid.{Wiring}
use Rattle.lzk_circuit.specs.Wires.{list_at}
use Rattle.lzk_layout.specs.Places.{depth, bits_under, round_count, sent_at, factors_sent_at}
use Rattle.lzk_layout.specs.Sizes.{sent_counts}
use Rattle.lzk_sumcheck.specs.declared.script.Script.{Script}
use Rattle.lzk_sumcheck.specs.Coefficients.{coefficients, weights_at}
use Rattle.lzk_sumcheck.specs.Rounds.{Layered, round}
use Rattle.lzk_sumcheck.specs.Script.{script, layer_at, first_challenges}

-- what layer l's sumcheck sums, over the values of all layers
abbrev pub layered_at : {A : Type 0} → Ops A → Wiring A → Script A → List (List A) → ℕ → Layered A
layered_at o c s values l = record {
  coefficient = coefficients o c s l;
  weights = weights_at o c s l;
  values = list_at values (l + 1);
  bits = bits_under c l;
}

-- the true value of round n of layer l at t
abbrev pub true_round : {A : Type 0} → Ops A → Wiring A → Script A → List (List A) → ℕ → ℕ → A → A
true_round o c s values l n t = round o (layered_at o c s values l) (first_challenges o s l n) t

-- the first true factor of layer l: the extension of the values below at the challenges of a's bits
abbrev pub true_a : {A : Type 0} → Ops A → Script A → List (List A) → ℕ → A
true_a o s values l = tilde o (list_at values (l + 1)) (layer_at o s l).ra

-- the second one: at the challenges of b's bits
abbrev pub true_b : {A : Type 0} → Ops A → Script A → List (List A) → ℕ → A
true_b o s values l = tilde o (list_at values (l + 1)) (layer_at o s l).rb

-- layer l's elements are its true values less their pads
pub record IsLayerSent {A : Type 0} (o : Ops A) (point : ℕ → A) (c : Wiring A) (s : Script A) (values : List (List A))
    (pads sent : List A) (l : ℕ) : Type 0 where
  pub first : (n : ℕ) → n < round_count c l
      → entry o sent (sent_at c l + 2 * n)
      ≡ minus o (true_round o c s values l n (point 0)) (entry o pads (sent_at c l + 2 * n))
  pub second : (n : ℕ) → n < round_count c l
      → entry o sent (sent_at c l + 2 * n + 1)
      ≡ minus o (true_round o c s values l n (point 2)) (entry o pads (sent_at c l + 2 * n + 1))
  pub factor_a : entry o sent (factors_sent_at c l) ≡ minus o (true_a o s values l) (entry o pads (factors_sent_at c l))
  pub factor_b : entry o sent (factors_sent_at c l + 1)
      ≡ minus o (true_b o s values l) (entry o pads (factors_sent_at c l + 1))

-- Each element is the true value less its pad, by the script of all of them. A true value stands on challenges that are
-- drawn before it is sent.
pub record AreMessages {A : Type 0} (o : Ops A) (e : Coding A) (c : Wiring A) (values : List (List A)) (pads : List A)
    (t : TapeState) (sent : List A) : Type 0 where
  pub count : length sent ≡ sent_counts c
  pub layers : (l : ℕ) → l < depth c → IsLayerSent o e.element c (script o e sent c t) values pads sent l

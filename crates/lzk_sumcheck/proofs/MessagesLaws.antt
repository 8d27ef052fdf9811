-- What is sent of each layer stands when further layers are sent.
use Rattle.std.specs.Prelude.{◌≡◌, ℕ, ◌+◌, ◌*◌, ◌<◌, ◌≤◌, List, ◌∷◌, map, take}
use Rattle.std.specs.List.{range_with_len}
use Rattle.std.proofs.Common.{zero, suc, refl, sym, ap, ◌∙◌, arith}
use Rattle.lzk_field.specs.Coding.{Coding}
use Rattle.lzk_field.specs.Ring.{Ops}
use Rattle.lzk_field.specs.Sums.{minus, entry}
use Rattle.lzk_transcript.specs.Tape.{TapeState}
use Rattle.lzk_mle.specs.Multilinear.{tilde}
use Rattle.lzk_circuit.specs.declared.layer.Term.{Term}
use Rattle.lzk_circuit.specs.Valid.{Wiring}
use Rattle.lzk_circuit.specs.Wires.{list_at}
use Rattle.lzk_layout.specs.Places.{depth, bits_under, round_count, sent_at, factors_sent_at}
use Rattle.lzk_sumcheck.specs.declared.script.LayerScript.{LayerScript}
use Rattle.lzk_sumcheck.specs.Coefficients.{coefficients, terms_at, weights_at}
use Rattle.lzk_sumcheck.specs.Layers.{layer_of_terms}
use Rattle.lzk_sumcheck.specs.Messages.{layered_at, true_round, IsLayerSent}
use Rattle.lzk_sumcheck.specs.Rounds.{Layered, round}
use Rattle.lzk_sumcheck.specs.Script.{after_first, round_challenge, layer_script, after_layers, script, layer_at, challenge_at, first_challenges}
use Rattle.lzk_sumcheck.specs.Sending.{AreRoundsSent}
use Rattle.lzk_sumcheck.proofs.Prefixes.{StandAt, AgreeBelow, start, map-same, sent-suc, challenge-same, layer-same, script-layer, script-challenge, layer-agrees, beta-same, weights-same, challenges-same}

take-range : {Y : Type 0} (f : ℕ → Y) (a i n : ℕ) → i ≤ n → take i (map f (range_with_len a n)) ≡ map f (range_with_len a i)
take-range f a zero n h = refl
take-range f a (suc i) zero h = absurd (omega arith)
take-range f a (suc i) (suc n) h = ap (λ ys. f a ∷ ys) (take-range f (a + 1) i n (omega arith))

module _ {A : Type 0} (o : Ops A) (e : Coding A) (c : Wiring A) (values : List (List A)) (pads : List A) (t : TapeState) where
  abbrev pub SentAt : List A → ℕ → Type 0
  SentAt sent l = IsLayerSent o e.element c (script o e sent c t) values pads sent l

  -- true values depend on what was sent before alone
  true-same : (n : ℕ) (xs ys : List A) → AgreeBelow o e c t n xs ys → (l m : ℕ) (x : A) → l < depth c → m ≤ round_count c l → sent_at c l + 2 * m ≤ n
      → true_round o c (script o e xs c t) values l m x ≡ true_round o c (script o e ys c t) values l m x
  unfolding coefficients
  true-same n xs ys same l m x h r b =
      let of_weights : A → List A → Layered A = λ beta w. layer_of_terms o (terms_at c l) beta w (list_at values (l + 1)) (bits_under c l) in
      let beta = (layer_at o (script o e ys c t) l).beta in
      ap (λ y. round o (of_weights y (weights_at o c (script o e xs c t) l)) (first_challenges o (script o e xs c t) l m) x) (beta-same o e c t n xs ys same l h (omega (arith, b)))
      ∙ ap (λ w. round o (of_weights beta w) (first_challenges o (script o e xs c t) l m) x) (weights-same o e c t n xs ys same l h (omega (arith, b)))
      ∙ ap (λ bound. round o (of_weights beta (weights_at o c (script o e ys c t) l)) bound x) (challenges-same o e c t n xs ys same l m h r b)

  -- a layer that is sent stays
  pub sent-stays : (n : ℕ) (xs ys : List A) → AgreeBelow o e c t n xs ys → (l : ℕ) → l < depth c → sent_at c (suc l) ≤ n → SentAt xs l → SentAt ys l
  sent-stays n xs ys same l h b old =
      let next = sent-suc c l h in
      let factors = ap (λ (s : LayerScript A). s) (layer-agrees o e c t n xs ys same l h (omega (arith, b, next))) in
      record {
        first = λ m k.
            sym (same (sent_at c l + 2 * m) (omega (arith, b, next, k))) ∙ old.first m k
            ∙ ap (λ v. minus o v (entry o pads (sent_at c l + 2 * m))) (true-same n xs ys same l m (e.element 0) h (omega (arith, k)) (omega (arith, b, next, k)));
        second = λ m k.
            sym (same (sent_at c l + 2 * m + 1) (omega (arith, b, next, k))) ∙ old.second m k
            ∙ ap (λ v. minus o v (entry o pads (sent_at c l + 2 * m + 1))) (true-same n xs ys same l m (e.element 2) h (omega (arith, k)) (omega (arith, b, next, k)));
        factor_a = sym (same (factors_sent_at c l) (omega (arith, b, next))) ∙ old.factor_a
            ∙ ap (λ (s : LayerScript A). minus o (tilde o (list_at values (l + 1)) s.ra) (entry o pads (factors_sent_at c l))) factors;
        factor_b = sym (same (factors_sent_at c l + 1) (omega (arith, b, next))) ∙ old.factor_b
            ∙ ap (λ (s : LayerScript A). minus o (tilde o (list_at values (l + 1)) s.rb) (entry o pads (factors_sent_at c l + 1))) factors;
      }

  -- a layer that is sent from its own lists
  module _ (l : ℕ) (h : l < depth c) (ys sent own : List A) (now : TapeState) (before : now ≡ after_layers o e ys c l (start o e c t)) where
    own-challenges : (k : ℕ) → k ≡ bits_under c l → StandAt o (sent_at c l) (4 * k + 2) sent ys → (i : ℕ) → i ≤ 2 * k
        → take i (map (round_challenge o e sent 0 (after_first c.version now)) (range_with_len 0 (2 * k))) ≡ first_challenges o (script o e ys c t) l i
    own-challenges k bits at i few =
        let f = round_challenge o e sent 0 (after_first c.version now) in
        take-range f 0 i (2 * k) few
        ∙ map-same f (challenge_at o (script o e ys c t) l) 0 i
        (λ j q.
        challenge-same o e (sent_at c l) (4 * k + 2) sent ys at 0 (sent_at c l) j (after_first c.version now) (omega arith) (omega (arith, q, few))
        ∙ ap (λ s. round_challenge o e ys (sent_at c l) (after_first c.version s) j) before
        ∙ sym (script-challenge o e c t ys l j h (omega (arith, q, few, bits))))

    pub own-layer : (k : ℕ) → k ≡ bits_under c l → StandAt o (sent_at c l) (4 * k + 2) sent ys → (layer : LayerScript A) → layer ≡ layer_script o e sent c.version 0 k now → layer ≡ layer_at o (script o e ys c t) l
    own-layer k bits at layer is =
        is ∙ layer-same o e (sent_at c l) (4 * k + 2) sent ys at c.version 0 (sent_at c l) k now (omega arith) (omega arith)
        ∙ ap (λ b. layer_script o e ys c.version (sent_at c l) b now) bits ∙ ap (layer_script o e ys c.version (sent_at c l) (bits_under c l)) before ∙ sym (script-layer o e c t ys l h)

    own-layered : (k : ℕ) (ts : List (Term A)) (beta : A) (ws vs : List A) → k ≡ bits_under c l → ts ≡ terms_at c l → beta ≡ (layer_at o (script o e ys c t) l).beta → ws ≡ weights_at o c (script o e ys c t) l → vs ≡ list_at values (l + 1)
        → layer_of_terms o ts beta ws vs k ≡ layered_at o c (script o e ys c t) values l
    unfolding coefficients
    own-layered k ts beta ws vs bits terms own_beta weights below =
        let y = (layer_at o (script o e ys c t) l).beta in
        ap (λ x. layer_of_terms o x beta ws vs k) terms ∙ ap (λ x. layer_of_terms o (terms_at c l) x ws vs k) own_beta ∙ ap (λ x. layer_of_terms o (terms_at c l) y x vs k) weights
        ∙ ap (λ x. layer_of_terms o (terms_at c l) y (weights_at o c (script o e ys c t) l) x k) below
        ∙ ap (layer_of_terms o (terms_at c l) y (weights_at o c (script o e ys c t) l) (list_at values (l + 1))) bits

    pub sent-own : (k : ℕ) (ts : List (Term A)) (ws vs : List A) (layer : LayerScript A) → k ≡ bits_under c l → ts ≡ terms_at c l → ws ≡ weights_at o c (script o e ys c t) l → vs ≡ list_at values (l + 1)
        → layer ≡ layer_script o e sent c.version 0 k now
        → StandAt o (sent_at c l) (4 * k + 2) sent ys → StandAt o (sent_at c l) (4 * k + 2) own pads
        → AreRoundsSent o e.element (layer_of_terms o ts layer.beta ws vs k) (map (round_challenge o e sent 0 (after_first c.version now)) (range_with_len 0 (2 * k))) own sent
        → entry o sent (4 * k) ≡ minus o (tilde o vs layer.ra) (entry o own (4 * k))
        → entry o sent (4 * k + 1) ≡ minus o (tilde o vs layer.rb) (entry o own (4 * k + 1))
        → SentAt ys l
    sent-own k ts ws vs layer bits terms weights below is at pat rounds fa fb =
        let b = sent_at c l in
        let s = layer_of_terms o ts layer.beta ws vs k in
        let drawn = own-layer k bits at layer is in
        let cs = map (round_challenge o e sent 0 (after_first c.version now)) (range_with_len 0 (2 * k)) in
        let value : (m : ℕ) (x : A) → m ≤ 2 * k → round o s (take m cs) x ≡ true_round o c (script o e ys c t) values l m x
        = λ m x few. ap (λ y. round o y (take m cs) x) (own-layered k ts layer.beta ws vs bits terms (ap (λ (x : LayerScript A). x.beta) drawn) weights below) ∙ ap (λ bound. round o (layered_at o c (script o e ys c t) values l) bound x) (own-challenges k bits at m few) in
        record {
          first = λ m q.
              let few : m < 2 * k = omega (arith, q, bits) in
              sym (at (2 * m) (omega (arith, few))) ∙ rounds.first m few ∙ ap (λ v. minus o v (entry o own (2 * m))) (value m (e.element 0) (omega arith))
              ∙ ap (minus o (true_round o c (script o e ys c t) values l m (e.element 0))) (pat (2 * m) (omega (arith, few)));
          second = λ m q.
              let few : m < 2 * k = omega (arith, q, bits) in
              let z : b + (2 * m + 1) ≡ b + 2 * m + 1 = omega arith in
              ap (entry o ys) (sym z) ∙ sym (at (2 * m + 1) (omega (arith, few))) ∙ rounds.second m few ∙ ap (λ v. minus o v (entry o own (2 * m + 1))) (value m (e.element 2) (omega arith))
              ∙ ap (minus o (true_round o c (script o e ys c t) values l m (e.element 2))) (pat (2 * m + 1) (omega (arith, few)) ∙ ap (entry o pads) z);
          factor_a =
              let z : b + 4 * k ≡ factors_sent_at c l = omega (arith, bits) in
              ap (entry o ys) (sym z) ∙ sym (at (4 * k) (omega arith)) ∙ fa ∙ ap (λ v. minus o (tilde o v layer.ra) (entry o own (4 * k))) below
              ∙ ap (λ (x : LayerScript A). minus o (tilde o (list_at values (l + 1)) x.ra) (entry o own (4 * k))) drawn
              ∙ ap (minus o (tilde o (list_at values (l + 1)) (layer_at o (script o e ys c t) l).ra)) (pat (4 * k) (omega arith) ∙ ap (entry o pads) z);
          factor_b =
              let z : b + (4 * k + 1) ≡ factors_sent_at c l + 1 = omega (arith, bits) in
              ap (entry o ys) (sym z) ∙ sym (at (4 * k + 1) (omega arith)) ∙ fb ∙ ap (λ v. minus o (tilde o v layer.rb) (entry o own (4 * k + 1))) below
              ∙ ap (λ (x : LayerScript A). minus o (tilde o (list_at values (l + 1)) x.rb) (entry o own (4 * k + 1))) drawn
              ∙ ap (minus o (tilde o (list_at values (l + 1)) (layer_at o (script o e ys c t) l).rb)) (pat (4 * k + 1) (omega arith) ∙ ap (entry o pads) z);
        }

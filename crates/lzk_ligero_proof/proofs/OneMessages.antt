-- The sumchecks send one list: each element stands on those before it alone.
use Rattle.std.specs.Prelude.{◌≡◌, ℕ, ◌+◌, ◌*◌, ◌<◌, ◌≤◌, List, [], ◌∷◌, ◌++◌, length, map, take, drop}
use Rattle.std.specs.List.{sum_by}
use Rattle.std.proofs.Common.{zero, suc, refl, sym, ap, ◌∙◌, arith, subst}
use Rattle.std.proofs.lemmas.List.{length-append, length-map}
use native.Mathlib.Decide.{dec_lt}
use Rattle.lzk_field.specs.Coding.{Coding}
use Rattle.lzk_field.specs.Ring.{Ops}
use Rattle.lzk_field.specs.Sums.{minus, entry}
use Rattle.lzk_transcript.specs.Tape.{TapeState}
use Rattle.lzk_mle.specs.Multilinear.{tilde}
use Rattle.lzk_circuit.specs.Valid.{Wiring}
use Rattle.lzk_circuit.specs.Wires.{list_at}
use Rattle.lzk_layout.specs.Places.{depth, bits_under, round_count, sent_at, factors_sent_at}
use Rattle.lzk_layout.specs.Sizes.{sent_count, sent_counts, under_widths}
use Rattle.lzk_sumcheck.specs.declared.script.LayerScript.{LayerScript}
use Rattle.lzk_sumcheck.specs.Coefficients.{coefficients, terms_at, weights_at}
use Rattle.lzk_sumcheck.specs.Layers.{layer_of_terms}
use Rattle.lzk_sumcheck.specs.Messages.{true_round, AreMessages}
use Rattle.lzk_sumcheck.specs.Rounds.{Layered, round}
use Rattle.lzk_sumcheck.specs.Script.{script, layer_at, first_challenges}
use Rattle.lzk_sumcheck.proofs.Prefixes.{AgreeBelow, sent-suc, layer-agrees, beta-same, weights-same, challenges-same}

same-entries : {A : Type 0} (o : Ops A) (xs ys : List A) → length xs ≡ length ys → ((k : ℕ) → k < length xs → entry o xs k ≡ entry o ys k) → xs ≡ ys
same-entries o [] [] e same = refl
same-entries o [] (y ∷ ys) e same = absurd (omega (arith, e))
same-entries o (x ∷ xs) [] e same = absurd (omega (arith, e))
same-entries o (x ∷ xs) (y ∷ ys) e same =
    ap (λ z. z ∷ xs) (same 0 (omega arith)) ∙ ap (λ zs. y ∷ zs) (same-entries o xs ys (omega (arith, e)) (λ k h. same (suc k) (omega (arith, h))))

take-whole : {X : Type 0} (n : ℕ) (xs : List X) → length xs ≤ n → take n xs ≡ xs
take-whole zero [] h = refl
take-whole zero (x ∷ xs) h = absurd (omega (arith, h))
take-whole (suc n) [] h = refl
take-whole (suc n) (x ∷ xs) h = ap (λ ys. x ∷ ys) (take-whole n xs (omega (arith, h)))

length-behind : (xs : List ℕ) (x : ℕ) → length (drop 1 (xs ++ x ∷ [])) ≡ length xs
length-behind [] x = refl
length-behind (y ∷ ys) x = length-append ys (x ∷ []) ∙ omega arith

length-under : {A : Type 0} (c : Wiring A) → length (under_widths c) ≤ depth c
length-under c = omega (arith, length-behind (map (λ layer. layer.wires) c.layers) (1 + c.publics + c.privates), length-map c.layers (λ layer. layer.wires))

module _ {A : Type 0} (o : Ops A) (e : Coding A) (c : Wiring A) (values : List (List A)) (pads : List A) (t : TapeState) where
  -- true values depend on what was sent before alone
  pub true-same : (n : ℕ) (xs ys : List A) → AgreeBelow o e c t n xs ys → (l m : ℕ) (x : A) → l < depth c → m ≤ round_count c l → sent_at c l + 2 * m ≤ n
      → true_round o c (script o e xs c t) values l m x ≡ true_round o c (script o e ys c t) values l m x
  unfolding coefficients
  true-same n xs ys same l m x h r b =
      let of_weights : A → List A → Layered A = λ beta w. layer_of_terms o (terms_at c l) beta w (list_at values (l + 1)) (bits_under c l) in
      let beta = (layer_at o (script o e ys c t) l).beta in
      ap (λ y. round o (of_weights y (weights_at o c (script o e xs c t) l)) (first_challenges o (script o e xs c t) l m) x) (beta-same o e c t n xs ys same l h (omega (arith, b)))
      ∙ ap (λ w. round o (of_weights beta w) (first_challenges o (script o e xs c t) l m) x) (weights-same o e c t n xs ys same l h (omega (arith, b)))
      ∙ ap (λ bound. round o (of_weights beta (weights_at o c (script o e ys c t) l)) bound x) (challenges-same o e c t n xs ys same l m h r b)

  module _ (xs ys : List A) (f : AreMessages o e c values pads t xs) (g : AreMessages o e c values pads t ys) where
    -- Two lists that agree below a layer agree in its rounds: the next element is the true value by what stands before it, less its pad.
    agree-rounds : (l m : ℕ) → l < depth c → m ≤ round_count c l → AgreeBelow o e c t (sent_at c l) xs ys → AgreeBelow o e c t (sent_at c l + 2 * m) xs ys
    agree-rounds l zero h r same = λ k q. same k (omega (arith, q))
    agree-rounds l (suc m) h r same = λ k q.
        let n = sent_at c l + 2 * m in
        let before = agree-rounds l m h (omega (arith, r)) same in
        elim (dec_lt k n) [
          | yes b ↦ before k b
          | no b ↦ elim (dec_lt n k) [
            | no d ↦
                let z : n ≡ k = omega (arith, b, d) in
                subst (λ i. entry o xs i ≡ entry o ys i) z
                ((f.layers l h).first m (omega (arith, r)) ∙ ap (λ v. minus o v (entry o pads n)) (true-same n xs ys before l m (e.element 0) h (omega (arith, r)) (omega arith))
                ∙ sym ((g.layers l h).first m (omega (arith, r))))
            | yes d ↦
                let z : n + 1 ≡ k = omega (arith, q, d) in
                subst (λ i. entry o xs i ≡ entry o ys i) z
                ((f.layers l h).second m (omega (arith, r)) ∙ ap (λ v. minus o v (entry o pads (n + 1))) (true-same n xs ys before l m (e.element 2) h (omega (arith, r)) (omega arith))
                ∙ sym ((g.layers l h).second m (omega (arith, r))))
          ]
        ]

    agree-layers : (l : ℕ) → l ≤ depth c → AgreeBelow o e c t (sent_at c l) xs ys
    agree-layers zero h = λ k q. absurd (omega (arith, q))
    agree-layers (suc l) h = λ k q.
        let n = factors_sent_at c l in
        let i : l < depth c = omega (arith, h) in
        let before : AgreeBelow o e c t n xs ys = λ k q. agree-rounds l (round_count c l) i (omega arith) (agree-layers l (omega (arith, h))) k (omega (arith, q)) in
        let factors = layer-agrees o e c t n xs ys before l i (omega arith) in
        elim (dec_lt k n) [
          | yes b ↦ before k b
          | no b ↦ elim (dec_lt n k) [
            | no d ↦
                let z : n ≡ k = omega (arith, b, d) in
                subst (λ i. entry o xs i ≡ entry o ys i) z
                ((f.layers l i).factor_a ∙ ap (λ (s : LayerScript A). minus o (tilde o (list_at values (l + 1)) s.ra) (entry o pads n)) factors ∙ sym (g.layers l i).factor_a)
            | yes d ↦
                let z : n + 1 ≡ k = omega (arith, q, d, sent-suc c l i) in
                subst (λ i. entry o xs i ≡ entry o ys i) z
                ((f.layers l i).factor_b ∙ ap (λ (s : LayerScript A). minus o (tilde o (list_at values (l + 1)) s.rb) (entry o pads (n + 1))) factors ∙ sym (g.layers l i).factor_b)
          ]
        ]

    sent-all : sent_at c (depth c) ≡ sent_counts c
    sent-all = ap (sum_by sent_count) (take-whole (depth c) (under_widths c) (length-under c))

    pub one-list : xs ≡ ys
    one-list = same-entries o xs ys (f.count ∙ sym g.count) (λ k q. agree-layers (depth c) (omega arith) k (omega (arith, q, f.count, sent-all)))

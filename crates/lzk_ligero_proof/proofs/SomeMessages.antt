-- The sumchecks send a list: each element is the true value by those before it, less its pad.
use Rattle.std.specs.Prelude.{◌≡◌, ℕ, ◌+◌, ◌*◌, ◌<◌, ◌≤◌, List, [], ◌∷◌, ◌++◌, length}
use Rattle.std.proofs.Common.{zero, suc, refl, sym, ap, ◌∙◌, arith}
use Rattle.std.proofs.lemmas.List.{length-append, get_or_append_left, get_or-append-add}
use native.Mathlib.Decide.{dec_le}
use Rattle.lzk_field.specs.Coding.{Coding}
use Rattle.lzk_field.specs.Ring.{Ops}
use Rattle.lzk_field.specs.Sums.{minus, entry}
use Rattle.lzk_transcript.specs.Tape.{TapeState}
use Rattle.lzk_mle.specs.Multilinear.{tilde}
use Rattle.lzk_circuit.specs.Valid.{Wiring}
use Rattle.lzk_circuit.specs.Wires.{list_at}
use Rattle.lzk_layout.specs.Places.{depth, round_count, sent_at, factors_sent_at}
use Rattle.lzk_layout.proofs.PlaceLaws.{sent_last}
use Rattle.lzk_sumcheck.specs.declared.script.LayerScript.{LayerScript}
use Rattle.lzk_sumcheck.specs.declared.script.Script.{Script}
use Rattle.lzk_sumcheck.specs.Messages.{true_round, true_a, true_b, IsLayerSent, AreMessages}
use Rattle.lzk_sumcheck.specs.Script.{script}
use Rattle.lzk_sumcheck.proofs.Prefixes.{AgreeBelow, sent-suc, layer-agrees}
use Rattle.lzk_sumcheck.proofs.ProvingLaws.{sent-rises}
use Rattle.lzk_ligero_proof.proofs.OneMessages.{true-same}

module _ {A : Type 0} (o : Ops A) (e : Coding A) (c : Wiring A) (values : List (List A)) (pads : List A) (t : TapeState) where
  -- the script, as far as these elements determine it
  abbrev script_of : List A → Script A
  script_of sent = script o e sent c t

  -- what is sent behind these elements: the two elements of a layer's round
  abbrev round_pair : List A → ℕ → ℕ → List A
  round_pair sent l n =
      let i = sent_at c l + 2 * n in
      minus o (true_round o c (script_of sent) values l n (e.element 0)) (entry o pads i) ∷ minus o (true_round o c (script_of sent) values l n (e.element 2)) (entry o pads (i + 1)) ∷ []

  -- a layer's two factors
  abbrev factor_pair : List A → ℕ → List A
  factor_pair sent l =
      let i = factors_sent_at c l in
      minus o (true_a o (script_of sent) values l) (entry o pads i) ∷ minus o (true_b o (script_of sent) values l) (entry o pads (i + 1)) ∷ []

  -- these elements, and those of a layer's first n rounds
  unfoldable pub with_rounds : List A → ℕ → ℕ → List A
  with_rounds sent l zero = sent
  with_rounds sent l (suc n) = let before = with_rounds sent l n in before ++ round_pair before l n

  -- the elements of the first l layers
  unfoldable pub with_layers : ℕ → List A
  with_layers zero = []
  with_layers (suc l) = let before = with_rounds (with_layers l) l (round_count c l) in before ++ factor_pair before l

  -- all of them
  abbrev pub messages : List A
  messages = with_layers (depth c)

  length_rounds : (sent : List A) (l m : ℕ) → length (with_rounds sent l m) ≡ length sent + 2 * m
  unfolding with_rounds
  length_rounds sent l zero = omega arith
  length_rounds sent l (suc m) =
      let before = with_rounds sent l m in
      length-append before (round_pair before l m) ∙ omega (arith, length_rounds sent l m)

  length_layers : (l : ℕ) → l ≤ depth c → length (with_layers l) ≡ sent_at c l
  unfolding with_layers
  length_layers zero h = refl
  length_layers (suc l) h =
      let before = with_rounds (with_layers l) l (round_count c l) in
      length-append before (factor_pair before l) ∙ omega (arith, length_rounds (with_layers l) l (round_count c l), length_layers l (omega (arith, h)), sent-suc c l h)

  abbrev Agree : ℕ → List A → List A → Type 0
  Agree n xs ys = AgreeBelow o e c t n xs ys

  -- what is sent stays
  rounds_keep : (sent : List A) (l m n : ℕ) → m ≤ n → Agree (length (with_rounds sent l m)) (with_rounds sent l m) (with_rounds sent l n)
  unfolding with_rounds
  rounds_keep sent l m zero h = λ k q. let z : m ≡ zero = omega (arith, h) in ap (λ i. entry o (with_rounds sent l i) k) z
  rounds_keep sent l m (suc n) h = λ k q.
      let before = with_rounds sent l n in
      elim (dec_le m n) [
        | yes g ↦ rounds_keep sent l m n g k q ∙ sym (get_or_append_left before (round_pair before l n) o.zero k (omega (arith, q, g, length_rounds sent l m, length_rounds sent l n)))
        | no g ↦ let z : m ≡ suc n = omega (arith, h, g) in ap (λ i. entry o (with_rounds sent l i) k) z
      ]

  rounds_none : (sent : List A) (l : ℕ) → with_rounds sent l 0 ≡ sent
  unfolding with_rounds
  rounds_none sent l = refl

  next_layer : (l k : ℕ) → k < length (with_rounds (with_layers l) l (round_count c l)) → entry o (with_layers (suc l)) k ≡ entry o (with_rounds (with_layers l) l (round_count c l)) k
  unfolding with_layers
  next_layer l k q = let before = with_rounds (with_layers l) l (round_count c l) in get_or_append_left before (factor_pair before l) o.zero k q

  layers_keep : (l n : ℕ) → l ≤ n → n ≤ depth c → Agree (length (with_layers l)) (with_layers l) (with_layers n)
  layers_keep l zero h d = λ k q. let z : l ≡ zero = omega (arith, h) in ap (λ i. entry o (with_layers i) k) z
  layers_keep l (suc n) h d = λ k q.
      elim (dec_le l n) [
        | yes g ↦
            let inside : k < length (with_layers n) = omega (arith, q, length_layers l (omega (arith, g, d)), length_layers n (omega (arith, d)), sent-rises c l n g (omega (arith, d))) in
            layers_keep l n g (omega (arith, d)) k q
            ∙ ap (λ xs. entry o xs k) (sym (rounds_none (with_layers n) n))
            ∙ rounds_keep (with_layers n) n 0 (round_count c n) (omega arith) k (omega (arith, inside, length_rounds (with_layers n) n 0))
            ∙ sym (next_layer n k (omega (arith, inside, length_rounds (with_layers n) n (round_count c n))))
        | no g ↦ let z : l ≡ suc n = omega (arith, h, g) in ap (λ i. entry o (with_layers i) k) z
      ]

  length_front : (l m : ℕ) → l < depth c → length (with_rounds (with_layers l) l m) ≡ sent_at c l + 2 * m
  length_front l m h = omega (arith, length_rounds (with_layers l) l m, length_layers l (omega (arith, h)))

  length_next : (l : ℕ) → l < depth c → length (with_layers (suc l)) ≡ factors_sent_at c l + 2
  length_next l h = length_layers (suc l) h ∙ sent-suc c l h

  -- what is sent up to a round stands at the front of all that is sent
  front : (l m : ℕ) → l < depth c → m ≤ round_count c l → Agree (length (with_rounds (with_layers l) l m)) (with_rounds (with_layers l) l m) messages
  front l m h r = λ k q.
      let here = length_front l m h in
      let whole = length_front l (round_count c l) h in
      let inside : k < length (with_rounds (with_layers l) l (round_count c l)) = omega (arith, q, here, whole, r) in
      rounds_keep (with_layers l) l m (round_count c l) r k q ∙ sym (next_layer l k inside)
      ∙ layers_keep (suc l) (depth c) h (omega arith) k (omega (arith, inside, whole, length_next l h))

  next_pair : (l m k : ℕ) → l < depth c → m < round_count c l → k < 2 → entry o messages (sent_at c l + 2 * m + k) ≡ entry o (round_pair (with_rounds (with_layers l) l m) l m) k
  unfolding with_rounds
  next_pair l m k h r b =
      let before = with_rounds (with_layers l) l m in
      let at : sent_at c l + 2 * m + k ≡ length before + k = omega (arith, length_front l m h) in
      sym (front l (suc m) h r (sent_at c l + 2 * m + k) (omega (arith, b, length_front l (suc m) h)))
      ∙ ap (entry o (before ++ round_pair before l m)) at
      ∙ get_or-append-add before (round_pair before l m) k o.zero

  last_pair : (l k : ℕ) → l < depth c → k < 2 → entry o messages (factors_sent_at c l + k) ≡ entry o (factor_pair (with_rounds (with_layers l) l (round_count c l)) l) k
  unfolding with_layers
  last_pair l k h b =
      let before = with_rounds (with_layers l) l (round_count c l) in
      let at : factors_sent_at c l + k ≡ length before + k = omega (arith, length_front l (round_count c l) h) in
      sym (layers_keep (suc l) (depth c) h (omega arith) (factors_sent_at c l + k) (omega (arith, b, length_next l h)))
      ∙ ap (entry o (before ++ factor_pair before l)) at
      ∙ get_or-append-add before (factor_pair before l) k o.zero

  -- a true value by what is sent before is that by all that is sent
  round_same : (l m : ℕ) (x : A) → l < depth c → m < round_count c l
      → true_round o c (script_of (with_rounds (with_layers l) l m)) values l m x ≡ true_round o c (script_of messages) values l m x
  round_same l m x h r =
      let before = with_rounds (with_layers l) l m in
      true-same o e c values pads t (length before) before messages (front l m h (omega (arith, r))) l m x h (omega (arith, r)) (omega (arith, length_front l m h))

  layer_sent : (l : ℕ) → l < depth c → IsLayerSent o e.element c (script_of messages) values pads messages l
  layer_sent l h =
      let n = factors_sent_at c l in
      let before = with_rounds (with_layers l) l (round_count c l) in
      let factors = layer-agrees o e c t (length before) before messages (front l (round_count c l) h (omega arith)) l h (omega (arith, length_front l (round_count c l) h)) in
      let y : n ≡ n + 0 = omega arith in
      record {
        first = λ m r.
            let i = sent_at c l + 2 * m in
            let z : i ≡ i + 0 = omega arith in
            ap (entry o messages) z ∙ next_pair l m 0 h r (omega arith) ∙ ap (λ v. minus o v (entry o pads i)) (round_same l m (e.element 0) h r);
        second = λ m r.
            let i = sent_at c l + 2 * m in
            next_pair l m 1 h r (omega arith) ∙ ap (λ v. minus o v (entry o pads (i + 1))) (round_same l m (e.element 2) h r);
        factor_a = ap (entry o messages) y ∙ last_pair l 0 h (omega arith) ∙ ap (λ (s : LayerScript A). minus o (tilde o (list_at values (l + 1)) s.ra) (entry o pads n)) factors;
        factor_b = last_pair l 1 h (omega arith) ∙ ap (λ (s : LayerScript A). minus o (tilde o (list_at values (l + 1)) s.rb) (entry o pads (n + 1))) factors;
      }

  pub are_messages : AreMessages o e c values pads t messages
  are_messages = record { count = length_layers (depth c) (omega arith) ∙ sent_last c; layers = layer_sent }

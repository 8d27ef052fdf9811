-- What a tape gives up to a point depends on what was sent before it alone.
use Rattle.std.specs.Prelude.{◌≡◌, ℕ, ◌+◌, ◌*◌, ◌/◌, ◌%◌, ◌<◌, ◌≤◌, Bool, true, false, cond, List, [], ◌∷◌, map}
use Rattle.std.specs.List.{range_with_len}
use Rattle.std.proofs.Common.{zero, suc, refl, sym, ap, ◌∙◌, arith, eqb}
use Rattle.std.proofs.lemmas.Bool.{eqb-true, eq-eqb, false≢true}
use Rattle.std.proofs.lemmas.List.FromFn.{get_or-map-range_with_len}
use Rattle.std.proofs.Math.Nat.{mod-lt}
use native.Mathlib.Decide.{dec_lt}
use Rattle.lzk_field.specs.Coding.{Coding}
use Rattle.lzk_field.specs.Ring.{Ops}
use Rattle.lzk_field.specs.Sums.{entry}
use Rattle.lzk_transcript.specs.Tape.{TapeState, drawn, after_draw}
use Rattle.lzk_transcript.specs.Columns.{after_draws}
use Rattle.lzk_circuit.specs.Valid.{Wiring}
use Rattle.lzk_layout.specs.Places.{depth, width_at, bits_under, output_bits, round_count, sent_at, factors_sent_at}
use Rattle.lzk_layout.proofs.PlaceLaws.{sent_next}
use Rattle.lzk_mle.specs.Multilinear.{eq}
use Rattle.lzk_sumcheck.specs.declared.script.LayerScript.{LayerScript}
use Rattle.lzk_sumcheck.specs.Coefficients.{weights_at}
use Rattle.lzk_sumcheck.specs.Draws.{with_element}
use Rattle.lzk_sumcheck.specs.Script.{drawn_beta, after_first, with_pair, after_rounds, round_challenge, layer_script, after_layer, after_layers, script, layer_at, point_a, point_b, challenge_at, first_challenges}

-- functions that agree have the same values
pub map-same : {Y : Type 0} (f g : ℕ → Y) (k n : ℕ) → ((i : ℕ) → i < k + n → f i ≡ g i) → map f (range_with_len k n) ≡ map g (range_with_len k n)
map-same f g k zero same = refl
map-same f g k (suc n) same =
    ap (λ y. y ∷ map f (range_with_len (k + 1) n)) (same k (omega arith)) ∙ ap (λ ys. g k ∷ ys) (map-same f g (k + 1) n (λ i h. same i (omega arith)))

odd_half : (k : ℕ) → eqb (k % 2) 0 ≡ false → 2 * (k / 2) + 1 ≡ k
odd_half k odd =
    elim (dec_lt 0 (k % 2)) [
      | yes h ↦ let l : k % 2 < 2 = mod-lt k (omega arith) in omega arith
      | no h ↦ absurd (false≢true (sym odd ∙ eq-eqb (k % 2) 0 (omega arith)))
    ]

module _ {A : Type 0} (o : Ops A) where
  -- ys has the first n entries of xs from place b on
  abbrev pub StandAt : ℕ → ℕ → List A → List A → Type 0
  StandAt b n xs ys = (k : ℕ) → k < n → entry o xs k ≡ entry o ys (b + k)

  module _ (e : Coding A) (b n : ℕ) (xs ys : List A) (same : StandAt b n xs ys) where
    pub pair-same : (i j : ℕ) (t : TapeState) → j ≡ b + i → i + 1 < n → with_pair o e xs i t ≡ with_pair o e ys j t
    pair-same i j t at h =
        let low : b + i ≡ j = omega (arith, at) in
        let high : b + (i + 1) ≡ j + 1 = omega (arith, at) in
        ap (λ x. with_element e (entry o xs (i + 1)) (with_element e x t)) (same i (omega arith) ∙ ap (entry o ys) low)
        ∙ ap (λ y. with_element e y (with_element e (entry o ys j) t)) (same (i + 1) h ∙ ap (entry o ys) high)

    pub rounds-same : (i j m : ℕ) (t : TapeState) → j ≡ b + i → i + 2 * m ≤ n → after_rounds o e xs i m t ≡ after_rounds o e ys j m t
    unfolding after_rounds
    rounds-same i j zero t at h = refl
    rounds-same i j (suc m) t at h =
        ap (λ s. after_draw (with_pair o e xs (i + 2 * m) s)) (rounds-same i j m t at (omega arith))
        ∙ ap after_draw (pair-same (i + 2 * m) (j + 2 * m) (after_rounds o e ys j m t) (omega (arith, at)) (omega arith))

    pub challenge-same : (i j m : ℕ) (t : TapeState) → j ≡ b + i → i + 2 * m + 1 < n → round_challenge o e xs i t m ≡ round_challenge o e ys j t m
    unfolding round_challenge
    challenge-same i j m t at h =
        ap (λ s. e.element (drawn (with_pair o e xs (i + 2 * m) s))) (rounds-same i j m t at (omega arith))
        ∙ ap (λ s. e.element (drawn s)) (pair-same (i + 2 * m) (j + 2 * m) (after_rounds o e ys j m t) (omega (arith, at)) h)

    pub layer-same : (version i j bits : ℕ) (t : TapeState) → j ≡ b + i → i + 4 * bits ≤ n → layer_script o e xs version i bits t ≡ layer_script o e ys version j bits t
    unfolding layer_script
    layer-same version i j bits t at h =
        let s = after_first version t in
        let make : List A → List A → LayerScript A = λ ra rb. record { alpha = e.element (drawn t); beta = drawn_beta o e version (after_draw t); ra = ra; rb = rb } in
        ap (λ ra. make ra (map (λ k. round_challenge o e xs i s (2 * k + 1)) (range_with_len 0 bits)))
        (map-same (λ k. round_challenge o e xs i s (2 * k)) (λ k. round_challenge o e ys j s (2 * k)) 0 bits (λ k l. challenge-same i j (2 * k) s at (omega (arith, l, h))))
        ∙ ap (make (map (λ k. round_challenge o e ys j s (2 * k)) (range_with_len 0 bits)))
        (map-same (λ k. round_challenge o e xs i s (2 * k + 1)) (λ k. round_challenge o e ys j s (2 * k + 1)) 0 bits (λ k l. challenge-same i j (2 * k + 1) s at (omega (arith, l, h))))

    pub after-same : (version i j bits : ℕ) (t : TapeState) → j ≡ b + i → i + 4 * bits + 2 ≤ n → after_layer o e xs version i bits t ≡ after_layer o e ys version j bits t
    unfolding after_layer
    after-same version i j bits t at h =
        ap (with_pair o e xs (i + 4 * bits)) (rounds-same i j (2 * bits) (after_first version t) at (omega arith))
        ∙ pair-same (i + 4 * bits) (j + 4 * bits) (after_rounds o e ys j (2 * bits) (after_first version t)) (omega (arith, at)) (omega arith)

-- the elements of the next layer begin behind a layer's factors
pub sent-suc : {A : Type 0} (c : Wiring A) (l : ℕ) → l < depth c → sent_at c (suc l) ≡ factors_sent_at c l + 2
sent-suc c l h = let next : suc l ≡ l + 1 = omega arith in ap (sent_at c) next ∙ sent_next c l h

-- ---- the script

module _ {A : Type 0} (o : Ops A) (e : Coding A) (c : Wiring A) (t : TapeState) where
  -- the tape behind the outputs' point
  abbrev pub start : TapeState
  start = after_draws (output_bits c) t

  pub script-layer : (xs : List A) (l : ℕ) → l < depth c → layer_at o (script o e xs c t) l ≡ layer_script o e xs c.version (sent_at c l) (bits_under c l) (after_layers o e xs c l start)
  unfolding script
  script-layer xs l h =
      let f : ℕ → LayerScript A = λ k. layer_script o e xs c.version (sent_at c k) (bits_under c k) (after_layers o e xs c k start) in
      get_or-map-range_with_len f 0 (depth c) l l (record { alpha = o.zero; beta = o.zero; ra = []; rb = [] }) h (omega arith)

  script-alpha : (xs : List A) (l : ℕ) → l < depth c → (layer_at o (script o e xs c t) l).alpha ≡ e.element (drawn (after_layers o e xs c l start))
  unfolding layer_script
  script-alpha xs l h = ap (λ s. s.alpha) (script-layer xs l h)

  pub script-beta : (xs : List A) (l : ℕ) → l < depth c → (layer_at o (script o e xs c t) l).beta ≡ drawn_beta o e c.version (after_draw (after_layers o e xs c l start))
  unfolding layer_script
  script-beta xs l h = ap (λ s. s.beta) (script-layer xs l h)

  -- the challenge of a round is what is drawn behind that round's elements
  pub script-challenge : (xs : List A) (l k : ℕ) → l < depth c → k < round_count c l
      → challenge_at o (script o e xs c t) l k ≡ round_challenge o e xs (sent_at c l) (after_first c.version (after_layers o e xs c l start)) k
  unfolding layer_script
  script-challenge xs l k h q = go (eqb (k % 2) 0) refl
    where
      go : (b : Bool) → eqb (k % 2) 0 ≡ b
          → cond b (entry o (layer_at o (script o e xs c t) l).ra (k / 2)) (entry o (layer_at o (script o e xs c t) l).rb (k / 2))
          ≡ round_challenge o e xs (sent_at c l) (after_first c.version (after_layers o e xs c l start)) k
      go true even =
          let f = round_challenge o e xs (sent_at c l) (after_first c.version (after_layers o e xs c l start)) in
          let whole : 2 * (k / 2) ≡ k = omega (arith, eqb-true (k % 2) 0 even) in
          ap (λ s. entry o s.ra (k / 2)) (script-layer xs l h)
          ∙ get_or-map-range_with_len (λ j. f (2 * j)) 0 (bits_under c l) (k / 2) (k / 2) o.zero (omega (arith, q, whole)) (omega arith) ∙ ap f whole
      go false odd =
          let f = round_challenge o e xs (sent_at c l) (after_first c.version (after_layers o e xs c l start)) in
          let whole : 2 * (k / 2) + 1 ≡ k = odd_half k odd in
          ap (λ s. entry o s.rb (k / 2)) (script-layer xs l h)
          ∙ get_or-map-range_with_len (λ j. f (2 * j + 1)) 0 (bits_under c l) (k / 2) (k / 2) o.zero (omega (arith, q, whole)) (omega arith) ∙ ap f whole

  -- two lists have the same entries below n
  abbrev pub AgreeBelow : ℕ → List A → List A → Type 0
  AgreeBelow n xs ys = (k : ℕ) → k < n → entry o xs k ≡ entry o ys k

  module _ (n : ℕ) (xs ys : List A) (same : AgreeBelow n xs ys) where
    pub stand : StandAt o 0 n xs ys
    stand k h = let z : k ≡ 0 + k = omega arith in same k h ∙ ap (entry o ys) z

    pub layers-same : (l : ℕ) (s : TapeState) → l ≤ depth c → sent_at c l ≤ n → after_layers o e xs c l s ≡ after_layers o e ys c l s
    unfolding after_layers
    layers-same zero s d h = refl
    layers-same (suc l) s d h =
        let next = sent-suc c l d in
        ap (after_layer o e xs c.version (sent_at c l) (bits_under c l)) (layers-same l s (omega arith) (omega (arith, h, next)))
        ∙ after-same o e 0 n xs ys stand c.version (sent_at c l) (sent_at c l) (bits_under c l) (after_layers o e ys c l s) (omega arith) (omega (arith, h, next))

    pub layer-agrees : (l : ℕ) → l < depth c → factors_sent_at c l ≤ n → layer_at o (script o e xs c t) l ≡ layer_at o (script o e ys c t) l
    layer-agrees l h b =
        script-layer xs l h ∙ ap (layer_script o e xs c.version (sent_at c l) (bits_under c l)) (layers-same l start (omega arith) (omega (arith, b)))
        ∙ layer-same o e 0 n xs ys stand c.version (sent_at c l) (sent_at c l) (bits_under c l) (after_layers o e ys c l start) (omega arith) (omega (arith, b)) ∙ sym (script-layer ys l h)

    alpha-same : (l : ℕ) → l < depth c → sent_at c l ≤ n → (layer_at o (script o e xs c t) l).alpha ≡ (layer_at o (script o e ys c t) l).alpha
    alpha-same l h b = script-alpha xs l h ∙ ap (λ s. e.element (drawn s)) (layers-same l start (omega arith) b) ∙ sym (script-alpha ys l h)

    pub beta-same : (l : ℕ) → l < depth c → sent_at c l ≤ n → (layer_at o (script o e xs c t) l).beta ≡ (layer_at o (script o e ys c t) l).beta
    beta-same l h b = script-beta xs l h ∙ ap (λ s. drawn_beta o e c.version (after_draw s)) (layers-same l start (omega arith) b) ∙ sym (script-beta ys l h)

    pub point-a-same : (l : ℕ) → l ≤ depth c → sent_at c l ≤ n → point_a o (script o e xs c t) l ≡ point_a o (script o e ys c t) l
    unfolding script
    point-a-same zero h b = refl
    point-a-same (suc l) h b = ap (λ s. s.ra) (layer-agrees l h (omega (arith, b, sent-suc c l h)))

    pub point-b-same : (l : ℕ) → l ≤ depth c → sent_at c l ≤ n → point_b o (script o e xs c t) l ≡ point_b o (script o e ys c t) l
    unfolding script
    point-b-same zero h b = refl
    point-b-same (suc l) h b = ap (λ s. s.rb) (layer-agrees l h (omega (arith, b, sent-suc c l h)))

    pub weights-same : (l : ℕ) → l < depth c → sent_at c l ≤ n → weights_at o c (script o e xs c t) l ≡ weights_at o c (script o e ys c t) l
    weights-same l h b =
        let W : List A → A → List A → List A = λ pa alpha pb. map (λ g. o.plus (eq o g pa) (o.times alpha (eq o g pb))) (range_with_len 0 (width_at c l)) in
        let s = script o e xs c t in
        let s' = script o e ys c t in
        ap (λ pa. W pa (layer_at o s l).alpha (point_b o s l)) (point-a-same l (omega arith) b)
        ∙ ap (λ alpha. W (point_a o s' l) alpha (point_b o s l)) (alpha-same l h b)
        ∙ ap (λ pb. W (point_a o s' l) (layer_at o s' l).alpha pb) (point-b-same l (omega arith) b)

    pub challenges-same : (l m : ℕ) → l < depth c → m ≤ round_count c l → sent_at c l + 2 * m ≤ n → first_challenges o (script o e xs c t) l m ≡ first_challenges o (script o e ys c t) l m
    challenges-same l m h r b =
        map-same (challenge_at o (script o e xs c t) l) (challenge_at o (script o e ys c t) l) 0 m
        (λ i k.
        script-challenge xs l i h (omega (arith, k, r))
        ∙ ap (λ s. round_challenge o e xs (sent_at c l) (after_first c.version s) i) (layers-same l start (omega arith) (omega (arith, b)))
        ∙ challenge-same o e 0 n xs ys stand (sent_at c l) (sent_at c l) i (after_first c.version (after_layers o e ys c l start)) (omega arith) (omega (arith, k, b))
        ∙ sym (script-challenge ys l i h (omega (arith, k, r))))

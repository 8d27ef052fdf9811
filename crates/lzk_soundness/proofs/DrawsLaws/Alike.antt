-- Draws that agree up to a place give the same before it, and what is bad there.
use Rattle.std.specs.Prelude.{◌≡◌, ℕ, ◌+◌, ◌*◌, ◌/◌, ◌%◌, ◌<◌, ◌≤◌, ◌==◌, cond, Bool, true, false, List, [], ◌∷◌, length, map, take}
use Rattle.std.specs.List.{range_with_len}
use Rattle.std.proofs.Common.{zero, suc, refl, sym, ap, ◌∙◌, arith, eqb, subst}
use Rattle.std.proofs.lemmas.Bool.{eqb-true, eq-eqb, false≢true}
use Rattle.std.proofs.Math.Nat.{mod-lt}
use native.Mathlib.Decide.{dec_lt}
use Rattle.std.proofs.lemmas.List.FromFn.{get_or-map-range_with_len, length-map-range_with_len}
use Rattle.lzk_field.specs.Ring.{Ops}
use Rattle.lzk_field.specs.Sums.{entry}
use Rattle.lzk_mle.specs.Multilinear.{eq, tilde}
use Rattle.lzk_circuit.specs.Valid.{Wiring}
use Rattle.lzk_circuit.specs.Wires.{layer_coefficient, list_at}
use Rattle.lzk_layout.specs.Places.{depth, width_at, bits_under, output_bits, round_count, sent_at, pads_at, factors_sent_at, factors_at}
use Rattle.lzk_layout.proofs.PlaceLaws.{sent_next}
use Rattle.lzk_sumcheck.specs.declared.script.LayerScript.{LayerScript}
use Rattle.lzk_sumcheck.specs.declared.script.Script.{Script}
use Rattle.lzk_sumcheck.specs.Coefficients.{coefficients, terms_at}
use Rattle.lzk_sumcheck.specs.Messages.{layered_at}
use Rattle.lzk_sumcheck.specs.Rounds.{Layered}
use Rattle.lzk_sumcheck.specs.Script.{layer_at, point_a, point_b, challenge_at, first_challenges, HasBits, HasShape}
use Rattle.lzk_sumcheck.proofs.Prefixes.{map-same}
use Rattle.lzk_sumcheck.proofs.ShapeLaws.{each_mapped}
use Rattle.lzk_accept.specs.Residuals.{next_claim, padded, claim_a, claim_b, claim_after}
use Rattle.lzk_soundness.specs.Sumchecks.Bad.{IsBadJoin, IsBadBeta, IsBadRound, IsBadBinding}
use Rattle.lzk_soundness.specs.Sumchecks.Claims.{values_in, values_at, asserted_at, IsBadAlpha, IsBadBetaAt, IsBadChallenge, IsHidingAlpha}
use Rattle.lzk_soundness.specs.Draws.Schedule.{firsts, drawn_at, layer_of, script_of}
use Rattle.lzk_soundness.specs.Draws.Game.{AgreeBelow}

odd_half : (k : ℕ) → eqb (k % 2) 0 ≡ false → 2 * (k / 2) + 1 ≡ k
odd_half k odd =
    elim (dec_lt 0 (k % 2)) [
      | yes h ↦ let l : k % 2 < 2 = mod-lt k (omega arith) in omega arith
      | no h ↦ absurd (false≢true (sym odd ∙ eq-eqb (k % 2) 0 (omega arith)))
    ]

take_same : {A : Type 0} (o : Ops A) (n : ℕ) (xs ys : List A) → length xs ≡ length ys → AgreeBelow o n xs ys → take n xs ≡ take n ys
take_same o zero xs ys long agree = refl
take_same o (suc n) [] [] long agree = refl
take_same o (suc n) [] (y ∷ ys) long agree = absurd (omega (arith, long))
take_same o (suc n) (x ∷ xs) [] long agree = absurd (omega (arith, long))
take_same o (suc n) (x ∷ xs) (y ∷ ys) long agree =
    ap (λ z. z ∷ take n xs) (agree 0 (omega arith)) ∙ ap (λ zs. y ∷ zs) (take_same o n xs ys (omega (arith, long)) (λ k h. agree (suc k) (omega (arith, h))))

module _ {A : Type 0} (o : Ops A) (c : Wiring A) where
  pub layer_is : (xs : List A) (l : ℕ) → l < depth c → layer_at o (script_of o c xs) l ≡ layer_of o c xs l
  layer_is xs l h = get_or-map-range_with_len (layer_of o c xs) 0 (depth c) l l (record { alpha = o.zero; beta = o.zero; ra = []; rb = [] }) h (omega arith)

  layer_bits : (xs : List A) (l : ℕ) → HasBits (bits_under c l) (layer_of o c xs l)
  layer_bits xs l = record {
    ra = length-map-range_with_len (λ j. entry o xs (drawn_at c l + firsts c + 2 * j)) 0 (bits_under c l);
    rb = length-map-range_with_len (λ j. entry o xs (drawn_at c l + firsts c + (2 * j + 1))) 0 (bits_under c l);
  }

  pub shape_of : (xs : List A) → HasShape c (script_of o c xs)
  shape_of xs = record {
    out_point = length-map-range_with_len (λ j. entry o xs j) 0 (output_bits c);
    depth = length-map-range_with_len (layer_of o c xs) 0 (depth c);
    layers = each_mapped (λ l layer. HasBits (bits_under c l) layer) (layer_of o c xs) (depth c) (layer_bits xs);
  }

  -- the challenge of a round is its draw
  pub challenge_is : (xs : List A) (l n : ℕ) → l < depth c → n < round_count c l → challenge_at o (script_of o c xs) l n ≡ entry o xs (drawn_at c l + firsts c + n)
  challenge_is xs l n h b = go (eqb (n % 2) 0) refl
    where
      D : ℕ
      D = drawn_at c l + firsts c

      go : (even : Bool) → eqb (n % 2) 0 ≡ even
          → cond even (entry o (layer_at o (script_of o c xs) l).ra (n / 2)) (entry o (layer_at o (script_of o c xs) l).rb (n / 2)) ≡ entry o xs (drawn_at c l + firsts c + n)
      go true is =
          let whole : D + 2 * (n / 2) ≡ D + n = omega (arith, eqb-true (n % 2) 0 is) in
          ap (λ s. entry o s.ra (n / 2)) (layer_is xs l h)
          ∙ get_or-map-range_with_len (λ j. entry o xs (D + 2 * j)) 0 (bits_under c l) (n / 2) (n / 2) o.zero (omega (arith, b, eqb-true (n % 2) 0 is)) (omega arith)
          ∙ ap (entry o xs) whole
      go false is =
          let odd = odd_half n is in
          let whole : D + (2 * (n / 2) + 1) ≡ D + n = omega (arith, odd) in
          ap (λ s. entry o s.rb (n / 2)) (layer_is xs l h)
          ∙ get_or-map-range_with_len (λ j. entry o xs (D + (2 * j + 1))) 0 (bits_under c l) (n / 2) (n / 2) o.zero (omega (arith, b, odd)) (omega arith)
          ∙ ap (entry o xs) whole

  module _ (xs ys : List A) where
    abbrev s : Script A
    s = script_of o c xs

    abbrev t : Script A
    t = script_of o c ys

    pub point_a_same : (l : ℕ) → l ≤ depth c → AgreeBelow o (drawn_at c l) xs ys → point_a o s l ≡ point_a o t l
    point_a_same zero h agree = map-same (λ j. entry o xs j) (λ j. entry o ys j) 0 (output_bits c) (λ i k. agree i (omega (arith, k)))
    point_a_same (suc l) h agree =
        let D = drawn_at c l + firsts c in
        ap (λ (x : LayerScript A). x.ra) (layer_is xs l h)
        ∙ map-same (λ j. entry o xs (D + 2 * j)) (λ j. entry o ys (D + 2 * j)) 0 (bits_under c l) (λ i k. agree (D + 2 * i) (omega (arith, k)))
        ∙ sym (ap (λ (x : LayerScript A). x.ra) (layer_is ys l h))

    pub point_b_same : (l : ℕ) → l ≤ depth c → AgreeBelow o (drawn_at c l) xs ys → point_b o s l ≡ point_b o t l
    point_b_same zero h agree = point_a_same zero h agree
    point_b_same (suc l) h agree =
        let D = drawn_at c l + firsts c in
        ap (λ (x : LayerScript A). x.rb) (layer_is xs l h)
        ∙ map-same (λ j. entry o xs (D + (2 * j + 1))) (λ j. entry o ys (D + (2 * j + 1))) 0 (bits_under c l) (λ i k. agree (D + (2 * i + 1)) (omega (arith, k)))
        ∙ sym (ap (λ (x : LayerScript A). x.rb) (layer_is ys l h))

    alpha_same : (l : ℕ) → l < depth c → AgreeBelow o (drawn_at c l + 1) xs ys → (layer_at o s l).alpha ≡ (layer_at o t l).alpha
    alpha_same l h agree =
        ap (λ (x : LayerScript A). x.alpha) (layer_is xs l h) ∙ agree (drawn_at c l) (omega arith) ∙ sym (ap (λ (x : LayerScript A). x.alpha) (layer_is ys l h))

    beta_cases : (b : Bool) (d : ℕ) → AgreeBelow o (d + cond b 2 1) xs ys → cond b (entry o xs (d + 1)) o.zero ≡ cond b (entry o ys (d + 1)) o.zero
    beta_cases true d agree = agree (d + 1) (omega arith)
    beta_cases false d agree = refl

    beta_same : (l : ℕ) → l < depth c → AgreeBelow o (drawn_at c l + firsts c) xs ys → (layer_at o s l).beta ≡ (layer_at o t l).beta
    beta_same l h agree =
        ap (λ (x : LayerScript A). x.beta) (layer_is xs l h) ∙ beta_cases (c.version == 2) (drawn_at c l) agree ∙ sym (ap (λ (x : LayerScript A). x.beta) (layer_is ys l h))

    challenge_same : (l n : ℕ) → l < depth c → n < round_count c l → AgreeBelow o (drawn_at c l + firsts c + suc n) xs ys → challenge_at o s l n ≡ challenge_at o t l n
    challenge_same l n h b agree = challenge_is xs l n h b ∙ agree (drawn_at c l + firsts c + n) (omega arith) ∙ sym (challenge_is ys l n h b)

    pub firsts_same : (l n : ℕ) → l < depth c → n ≤ round_count c l → AgreeBelow o (drawn_at c l + firsts c + n) xs ys → first_challenges o s l n ≡ first_challenges o t l n
    firsts_same l n h b agree =
        map-same (challenge_at o s l) (challenge_at o t l) 0 n (λ i k. challenge_same l i h (omega (arith, k, b)) (λ j q. agree j (omega (arith, q, k))))

    pub layered_same : (values : List (List A)) (l : ℕ) → l < depth c → AgreeBelow o (drawn_at c l + firsts c) xs ys → 1 ≤ firsts c → layered_at o c s values l ≡ layered_at o c t values l
    unfolding coefficients
    layered_same values l h agree some =
        let make : A → A → List A → List A → Layered A =
        λ beta alpha p q. record {
          coefficient = layer_coefficient o (terms_at c l) beta;
          weights = map (λ g. o.plus (eq o g p) (o.times alpha (eq o g q))) (range_with_len 0 (width_at c l));
          values = list_at values (l + 1);
          bits = bits_under c l;
        } in
        let below : AgreeBelow o (drawn_at c l) xs ys = λ k i. agree k (omega (arith, i)) in
        let low : l ≤ depth c = omega (arith, h) in
        ap (λ beta. make beta (layer_at o s l).alpha (point_a o s l) (point_b o s l)) (beta_same l h agree)
        ∙ ap (λ alpha. make (layer_at o t l).beta alpha (point_a o s l) (point_b o s l)) (alpha_same l h (λ k i. agree k (omega (arith, i, some))))
        ∙ ap (λ p. make (layer_at o t l).beta (layer_at o t l).alpha p (point_b o s l)) (point_a_same l low below)
        ∙ ap (make (layer_at o t l).beta (layer_at o t l).alpha (point_a o t l)) (point_b_same l low below)

  module _ (w m n : List A) where
    claim_a_same : (l : ℕ) → l ≤ depth c → AgreeBelow o (sent_at c l) m n → claim_a o c m w l ≡ claim_a o c n w l
    claim_a_same zero h agree = refl
    claim_a_same (suc l) h agree =
        let next : l + 1 ≡ suc l = omega arith in
        ap (λ y. o.plus y (entry o w (factors_at c l))) (agree (factors_sent_at c l) (omega (arith, sent_next c l h, ap (sent_at c) next)))

    claim_b_same : (l : ℕ) → l ≤ depth c → AgreeBelow o (sent_at c l) m n → claim_b o c m w l ≡ claim_b o c n w l
    claim_b_same zero h agree = refl
    claim_b_same (suc l) h agree =
        let next : l + 1 ≡ suc l = omega arith in
        ap (λ y. o.plus y (entry o w (factors_at c l + 1))) (agree (factors_sent_at c l + 1) (omega (arith, sent_next c l h, ap (sent_at c) next)))

  -- ---- what is bad for the ones is bad for the others

  module _ (public w : List A) (point : ℕ → A) (xs ys m n : List A) (l : ℕ) where
    abbrev S : Script A
    S = script_of o c xs

    abbrev T : Script A
    T = script_of o c ys

    abbrev V : ℕ → List A
    V = values_at o c public w

    abbrev Z : ℕ → List A
    Z = asserted_at o c public w

    -- an alpha, or gamma
    pub alpha_alike : (x : A) → l ≤ depth c → AgreeBelow o (drawn_at c l) xs ys → AgreeBelow o (sent_at c l) m n
        → IsBadAlpha o c public w point S m l x → IsBadAlpha o c public w point T n l x
    alpha_alike x h agree sent bad =
        let F : List A → List A → A → A → Type 0 = λ p q a b. IsBadJoin o a b (tilde o (V l) p) (tilde o (V l) q) x in
        let a = claim_a o c m w l in
        let b = claim_b o c m w l in
        let a' = claim_a o c n w l in
        let q = point_b o S l in
        let p' = point_a o T l in
        let q' = point_b o T l in
        subst (λ b. F p' q' a' b) (claim_b_same w m n l h sent)
        (subst (λ a. F p' q' a b) (claim_a_same w m n l h sent)
        (subst (λ q. F p' q a b) (point_b_same xs ys l h agree)
        (subst (λ p. F p q a b) (point_a_same xs ys l h agree) bad)))

    pub hiding_alike : (x : A) → l ≤ depth c → AgreeBelow o (drawn_at c l) xs ys → IsHidingAlpha o c public w point S m l x → IsHidingAlpha o c public w point T n l x
    hiding_alike x h agree bad =
        let F : List A → List A → Type 0 = λ p q. IsBadJoin o (tilde o (Z l) p) (tilde o (Z l) q) o.zero o.zero x in
        subst (λ q. F (point_a o T l) q) (point_b_same xs ys l h agree) (subst (λ p. F p (point_b o S l)) (point_a_same xs ys l h agree) bad)

    pub beta_alike : (x : A) → l < depth c → AgreeBelow o (drawn_at c l + 1) xs ys → AgreeBelow o (sent_at c l) m n
        → IsBadBetaAt o c public w point S m l x → IsBadBetaAt o c public w point T n l x
    beta_alike x h agree sent bad =
        let F : A → List A → List A → A → A → Type 0 =
        λ alpha p q a b.
        IsBadBeta o (o.plus a (o.times alpha b)) (o.plus (tilde o (V l) p) (o.times alpha (tilde o (V l) q))) (o.plus (tilde o (Z l) p) (o.times alpha (tilde o (Z l) q))) x in
        let below : AgreeBelow o (drawn_at c l) xs ys = λ k i. agree k (omega (arith, i)) in
        let low : l ≤ depth c = omega (arith, h) in
        let alpha' = (layer_at o T l).alpha in
        let a = claim_a o c m w l in
        let b = claim_b o c m w l in
        let a' = claim_a o c n w l in
        let p = point_a o S l in
        let q = point_b o S l in
        let p' = point_a o T l in
        let q' = point_b o T l in
        subst (λ b. F alpha' p' q' a' b) (claim_b_same w m n l low sent)
        (subst (λ a. F alpha' p' q' a b) (claim_a_same w m n l low sent)
        (subst (λ q. F alpha' p' q a b) (point_b_same xs ys l low below)
        (subst (λ p. F alpha' p q a b) (point_a_same xs ys l low below)
        (subst (λ alpha. F alpha p q a b) (alpha_same xs ys l h agree) bad))))

    claim_after_same : (k : ℕ) → l < depth c → k ≤ round_count c l → 1 ≤ firsts c → AgreeBelow o (drawn_at c l + firsts c + k) xs ys → AgreeBelow o (sent_at c l + 2 * k) m n
        → claim_after o point c S m w l k ≡ claim_after o point c T n w l k
    unfolding claim_after
    claim_after_same zero h b some agree sent =
        let low : l ≤ depth c = omega (arith, h) in
        let early : AgreeBelow o (sent_at c l) m n = λ j i. sent j (omega (arith, i)) in
        ap (λ a. o.plus a (o.times (layer_at o S l).alpha (claim_b o c m w l))) (claim_a_same w m n l low early)
        ∙ ap (λ x. o.plus (claim_a o c n w l) (o.times x (claim_b o c m w l))) (alpha_same xs ys l h (λ j i. agree j (omega (arith, i, some))))
        ∙ ap (λ y. o.plus (claim_a o c n w l) (o.times (layer_at o T l).alpha y)) (claim_b_same w m n l low early)
    claim_after_same (suc k) h b some agree sent =
        let i = sent_at c l + 2 * k in
        let j = pads_at c l + 2 * k in
        let x = challenge_at o S l k in
        let before = claim_after_same k h (omega (arith, b)) some (λ u v. agree u (omega (arith, v))) (λ u v. sent u (omega (arith, v))) in
        ap (λ y. next_claim o point y (padded o m w i j) (padded o m w (i + 1) (j + 1)) x) before
        ∙ ap (λ y. next_claim o point (claim_after o point c T n w l k) (o.plus y (entry o w j)) (padded o m w (i + 1) (j + 1)) x) (sent i (omega arith))
        ∙ ap (λ y. next_claim o point (claim_after o point c T n w l k) (padded o n w i j) (o.plus y (entry o w (j + 1))) x) (sent (i + 1) (omega arith))
        ∙ ap (next_claim o point (claim_after o point c T n w l k) (padded o n w i j) (padded o n w (i + 1) (j + 1))) (challenge_same xs ys l k h (omega (arith, b)) agree)

    pub challenge_alike : (k : ℕ) (x : A) → l < depth c → k < round_count c l → 1 ≤ firsts c → AgreeBelow o (drawn_at c l + firsts c + k) xs ys → AgreeBelow o (sent_at c l + 2 * k + 2) m n
        → IsBadChallenge o c public w point S m l k x → IsBadChallenge o c public w point T n l k x
    challenge_alike k x h b some agree sent bad =
        let i = sent_at c l + 2 * k in
        let j = pads_at c l + 2 * k in
        let F : Layered A → List A → A → A → A → Type 0 = λ L before claimed y z. IsBadRound o point L before claimed (o.plus y (entry o w j)) (o.plus z (entry o w (j + 1))) x in
        let L = layered_at o c S (values_in o c public w) l in
        let L' = layered_at o c T (values_in o c public w) l in
        let r = first_challenges o S l k in
        let r' = first_challenges o T l k in
        let K = claim_after o point c S m w l k in
        let K' = claim_after o point c T n w l k in
        subst (λ z. F L' r' K' (entry o n i) z) (sent (i + 1) (omega arith))
        (subst (λ y. F L' r' K' y (entry o m (i + 1))) (sent i (omega arith))
        (subst (λ K. F L' r' K (entry o m i) (entry o m (i + 1))) (claim_after_same k h (omega (arith, b)) some agree (λ u v. sent u (omega (arith, v))))
        (subst (λ r. F L' r K (entry o m i) (entry o m (i + 1))) (firsts_same xs ys l k h (omega (arith, b)) agree)
        (subst (λ L. F L r K (entry o m i) (entry o m (i + 1))) (layered_same xs ys (values_in o c public w) l h (λ u v. agree u (omega (arith, v))) some) bad))))

    -- a coordinate of the outputs' point, for any table
    pub coordinate_alike : (values : List A) (j : ℕ) (x : A) → j ≤ output_bits c → AgreeBelow o j xs ys → IsBadBinding o values (take j S.out_point) x → IsBadBinding o values (take j T.out_point) x
    coordinate_alike values j x h agree bad =
        let same : take j S.out_point ≡ take j T.out_point =
        take_same o j S.out_point T.out_point (length-map-range_with_len (λ j. entry o xs j) 0 (output_bits c) ∙ sym (length-map-range_with_len (λ j. entry o ys j) 0 (output_bits c)))
        (λ k i. get_or-map-range_with_len (λ j. entry o xs j) 0 (output_bits c) k k o.zero (omega (arith, i, h)) (omega arith) ∙ agree k i
        ∙ sym (get_or-map-range_with_len (λ j. entry o ys j) 0 (output_bits c) k k o.zero (omega (arith, i, h)) (omega arith))) in
        subst (λ r. IsBadBinding o values r x) same bad

    -- a coordinate of a layer's second point
    pub binding_alike : (values : List A) (j : ℕ) (x : A) → l < depth c → j ≤ bits_under c l → AgreeBelow o (drawn_at c l + firsts c + (2 * j + 1)) xs ys
        → IsBadBinding o values (take j (layer_at o S l).rb) x → IsBadBinding o values (take j (layer_at o T l).rb) x
    binding_alike values j x h b agree bad =
        let D = drawn_at c l + firsts c in
        let f : ℕ → A = λ j. entry o xs (D + (2 * j + 1)) in
        let g : ℕ → A = λ j. entry o ys (D + (2 * j + 1)) in
        let from : (layer_at o S l).rb ≡ map f (range_with_len 0 (bits_under c l)) = ap (λ (x : LayerScript A). x.rb) (layer_is xs l h) in
        let to : (layer_at o T l).rb ≡ map g (range_with_len 0 (bits_under c l)) = ap (λ (x : LayerScript A). x.rb) (layer_is ys l h) in
        let same : take j (map f (range_with_len 0 (bits_under c l))) ≡ take j (map g (range_with_len 0 (bits_under c l))) =
        take_same o j (map f (range_with_len 0 (bits_under c l))) (map g (range_with_len 0 (bits_under c l))) (length-map-range_with_len f 0 (bits_under c l) ∙ sym (length-map-range_with_len g 0 (bits_under c l)))
        (λ k i. get_or-map-range_with_len f 0 (bits_under c l) k k o.zero (omega (arith, i, b)) (omega arith) ∙ agree (D + (2 * k + 1)) (omega (arith, i))
        ∙ sym (get_or-map-range_with_len g 0 (bits_under c l) k k o.zero (omega (arith, i, b)) (omega arith))) in
        subst (λ r. IsBadBinding o values r x) (ap (take j) from ∙ same ∙ sym (ap (take j) to)) bad

-- Where each draw of the sumchecks stands among those of its step, and how many elements are sent before it.
use Rattle.std.specs.Prelude.{◌≡◌, ℕ, ◌+◌, ◌-◌, ◌*◌, ◌<◌, ◌≤◌, ◌==◌, cond, nat_lt, Bool, true, false}
use Rattle.std.proofs.Common.{zero, suc, refl, sym, ap, ◌∙◌, arith, subst}
use Rattle.std.proofs.lemmas.Bool.{eq-eqb, eqb-true, ltb-true, ltb-false, false≢true}
use native.Mathlib.Decide.{ℕ_discrete, dec_lt}
use Rattle.lzk_circuit.specs.Valid.{Wiring}
use Rattle.lzk_layout.specs.Places.{depth, output_bits, round_count, sent_at}
use Rattle.lzk_layout.specs.Sizes.{sent_counts}
use Rattle.lzk_layout.proofs.PlaceLaws.{sent_next, sent_most}
use Rattle.lzk_soundness.specs.Draws.Schedule.{Draw, firsts, drawn_at, draw_count, draw_in, draw_at}
use Rattle.lzk_soundness.specs.Draws.Schedule.Draw.{coordinate, alpha, beta, challenge, gamma, other}
use Rattle.lzk_soundness.proofs.DrawsLaws.Places.{some_firsts, few_firsts, at_coordinate, at_alpha, in_next}
use Rattle.lzk_soundness.specs.Rounds.Steps.{Step, IsStep, sent_before, first_of, step_of, place_in}
use Rattle.lzk_soundness.specs.Rounds.Steps.Step.{head, round}

-- whether two steps are the same
pub dec_step : (s t : Step) → Dec (s ≡ t)
dec_step (head k) (head l) = elim (ℕ_discrete k l) [ yes e ↦ yes (ap head e) | no n ↦ no (λ e. n (cc)) ]
dec_step (head k) (round l n) = no (λ e. cc)
dec_step (round k m) (head l) = no (λ e. cc)
dec_step (round k m) (round l n) = both (ℕ_discrete k l) (ℕ_discrete m n)
  where
    both : Dec (k ≡ l) → Dec (m ≡ n) → Dec (round k m ≡ round l n)
    both (yes p) (yes q) = yes (ap (λ i. round i m) p ∙ ap (round l) q)
    both (no d) q = no (λ e. d (cc))
    both (yes p) (no d) = no (λ e. d (cc))

module _ {A : Type 0} (c : Wiring A) where
  -- a draw that there is
  abbrev pub IsDrawn : Draw → Type 0
  IsDrawn (coordinate j) = j < output_bits c
  IsDrawn (alpha l) = l < depth c
  IsDrawn (beta l) = (l < depth c) × (1 < firsts c)
  IsDrawn (challenge l n) = (l < depth c) × (n < round_count c l)
  IsDrawn gamma = 1 ≤ depth c
  IsDrawn other = ⊥

  -- it is draw k, by its step and its place there
  abbrev pub IsAt : Draw → ℕ → Type 0
  IsAt d k = IsDrawn d × (first_of c (step_of c d) + place_in c d ≡ k)

  pub first_head : (l : ℕ) → 1 ≤ l → first_of c (head l) ≡ drawn_at c l
  first_head zero h = absurd (omega (arith, h))
  first_head (suc l) h = refl

  alpha_is : (l : ℕ) → first_of c (head l) + place_in c (alpha l) ≡ drawn_at c l
  alpha_is zero = omega arith
  alpha_is (suc l) = omega arith

  beta_is : (l : ℕ) → first_of c (head l) + place_in c (beta l) ≡ drawn_at c l + 1
  beta_is zero = omega arith
  beta_is (suc l) = omega arith

  module _ (l left k : ℕ) (h : l < depth c) (rest : firsts c + round_count c l ≤ k → IsAt (draw_in c (suc l) left (k - firsts c - round_count c l)) (drawn_at c l + k)) where
    abbrev F : ℕ
    F = firsts c

    abbrev next : Draw
    next = draw_in c (suc l) left (k - F - round_count c l)

    rounds : F ≤ k → (b : Bool) → nat_lt k (F + round_count c l) ≡ b → IsAt (cond b (challenge l (k - F)) next) (drawn_at c l + k)
    rounds le true is =
        let less : k < F + round_count c l = ltb-true k (F + round_count c l) is in
        ((h, omega (arith, less, le)), omega (arith, le))
    rounds le false is = rest (ltb-false k (F + round_count c l) is)

    early : 1 ≤ k → (b : Bool) → nat_lt k F ≡ b → IsAt (cond b (beta l) (cond (nat_lt k (F + round_count c l)) (challenge l (k - F)) next)) (drawn_at c l + k)
    early some true is =
        let less : k < F = ltb-true k F is in
        let one : k ≡ 1 = omega (arith, less, few_firsts c, some) in
        ((h, omega (arith, less, some)), beta_is l ∙ ap (λ (j : ℕ). drawn_at c l + j) (sym one))
    early some false is = rounds (ltb-false k F is) (nat_lt k (F + round_count c l)) refl

    first : (b : Bool) → (k == 0) ≡ b → IsAt (cond b (alpha l) (cond (nat_lt k F) (beta l) (cond (nat_lt k (F + round_count c l)) (challenge l (k - F)) next))) (drawn_at c l + k)
    first true is = let none : k ≡ 0 = eqb-true k 0 is in (h, alpha_is l ∙ omega (arith, none))
    first false is = early (elim (ℕ_discrete k 0) [ yes e ↦ absurd (false≢true (sym is ∙ eq-eqb k 0 e)) | no n ↦ omega (arith, n) ]) (nat_lt k F) refl

    pub in_layer : IsAt (draw_in c l (suc left) k) (drawn_at c l + k)
    in_layer = first (k == 0) refl

  in_at : (left l k : ℕ) → 1 ≤ depth c → l + left ≡ depth c → drawn_at c l + k ≤ drawn_at c (depth c) → IsAt (draw_in c l left k) (drawn_at c l + k)
  in_at zero l k some whole within =
      let same : l ≡ depth c = omega (arith, whole) in
      let none : k ≡ 0 = omega (arith, within, ap (drawn_at c) same) in
      let last : first_of c (head (depth c)) + 0 ≡ drawn_at c l + k = omega (arith, first_head (depth c) some, ap (drawn_at c) same, none) in
      subst (λ b. IsAt (cond b gamma other) (drawn_at c l + k)) (sym (eq-eqb k 0 none)) (some, last)
  in_at (suc left) l k some whole within =
      in_layer l left k (omega (arith, whole))
      (λ h.
      let j = k - firsts c - round_count c l in
      let is : drawn_at c (suc l) + j ≡ drawn_at c l + k = omega (arith, h) in
      subst (IsAt (draw_in c (suc l) left j)) is (in_at left (suc l) j some (omega (arith, whole)) (omega (arith, is, within))))

  -- each draw is at its place
  pub draw_is : (k : ℕ) → 1 ≤ depth c → k < draw_count c → IsAt (draw_at c k) k
  draw_is k some h = go (nat_lt k (output_bits c)) refl
    where
      go : (b : Bool) → nat_lt k (output_bits c) ≡ b → IsAt (cond b (coordinate k) (draw_in c 0 (depth c) (k - output_bits c))) k
      go true is = (ltb-true k (output_bits c) is, omega arith)
      go false is =
          let le : output_bits c ≤ k = ltb-false k (output_bits c) is in
          let back : drawn_at c 0 + (k - output_bits c) ≡ k = omega (arith, le) in
          subst (IsAt (draw_in c 0 (depth c) (k - output_bits c))) back (in_at (depth c) 0 (k - output_bits c) some (omega arith) (omega (arith, h, back)))

  -- its step is one of the tape
  pub step_is : (d : Draw) → IsDrawn d → IsStep c (step_of c d)
  step_is (coordinate j) is = omega arith
  step_is (alpha l) is = omega (arith, is)
  step_is (beta l) is = omega (arith, is.0)
  step_is (challenge l n) is = is
  step_is gamma is = omega arith
  step_is other is = absurd is

  -- no step has many draws
  pub place_few : (d : Draw) → IsDrawn d → place_in c d < output_bits c + 2
  place_few (coordinate j) is = omega (arith, is)
  place_few (alpha zero) is = omega arith
  place_few (alpha (suc l)) is = omega arith
  place_few (beta zero) is = omega arith
  place_few (beta (suc l)) is = omega arith
  place_few (challenge l n) is = omega arith
  place_few gamma is = omega arith
  place_few other is = absurd is

  -- the draws of a step before one of its draws are those before it in its place
  pub earlier : (d : Draw) → IsDrawn d → (i : ℕ) → i < place_in c d
      → (step_of c (draw_at c (first_of c (step_of c d) + i)) ≡ step_of c d) × (place_in c (draw_at c (first_of c (step_of c d) + i)) ≡ i)
  earlier (coordinate j) is i h =
      let at : draw_at c (0 + i) ≡ coordinate i = (let z : 0 + i ≡ i = omega arith in ap (draw_at c) z ∙ at_coordinate c i (omega (arith, h, is))) in
      (ap (step_of c) at, ap (place_in c) at)
  earlier (alpha zero) is i h =
      let at : draw_at c (0 + i) ≡ coordinate i = (let z : 0 + i ≡ i = omega arith in ap (draw_at c) z ∙ at_coordinate c i h) in
      (ap (step_of c) at, ap (place_in c) at)
  earlier (alpha (suc l)) is i h = absurd (omega (arith, h))
  earlier (beta zero) is i h = elim (dec_lt i (output_bits c)) [
    | yes less ↦ (let at : draw_at c (0 + i) ≡ coordinate i = (let z : 0 + i ≡ i = omega arith in ap (draw_at c) z ∙ at_coordinate c i less) in (ap (step_of c) at, ap (place_in c) at))
    | no more ↦
        let here : i ≡ output_bits c = omega (arith, more, h) in
        let at : draw_at c (0 + i) ≡ alpha 0 = (let z : 0 + i ≡ drawn_at c 0 = omega (arith, here) in ap (draw_at c) z ∙ at_alpha c 0 is.0) in
        (ap (step_of c) at, ap (place_in c) at ∙ sym here)
  ]
  earlier (beta (suc l)) is i h =
      let at : draw_at c (drawn_at c (suc l) + i) ≡ alpha (suc l) = (let z : drawn_at c (suc l) + i ≡ drawn_at c (suc l) = omega (arith, h) in ap (draw_at c) z ∙ at_alpha c (suc l) is.0) in
      let none : 0 ≡ i = omega (arith, h) in
      (ap (step_of c) at, ap (place_in c) at ∙ none)
  earlier (challenge l n) is i h = absurd (omega (arith, h))
  earlier gamma is i h = absurd (omega (arith, h))
  earlier other is i h = absurd is

  -- ---- what is sent before a draw

  abbrev sent_for : Draw → ℕ
  sent_for d = sent_before c (step_of c d)

  -- within a layer
  module _ (l left k : ℕ) where
    abbrev G : ℕ
    G = firsts c

    abbrev later : Draw
    later = draw_in c (suc l) left (k - G - round_count c l)

    in_rounds : G ≤ k → (b : Bool) → k < G + round_count c l → nat_lt k (G + round_count c l) ≡ b → sent_for (cond b (challenge l (k - G)) later) ≡ sent_at c l + 2 * (k + 1 - G)
    in_rounds le true less is = omega (arith, le)
    in_rounds le false less is = absurd (omega (arith, less, ltb-false k (G + round_count c l) is))

    in_early : (b : Bool) → k < G + round_count c l → nat_lt k G ≡ b → sent_for (cond b (beta l) (cond (nat_lt k (G + round_count c l)) (challenge l (k - G)) later)) ≡ sent_at c l + 2 * (k + 1 - G)
    in_early true less is = let few : k < G = ltb-true k G is in omega (arith, few)
    in_early false less is = in_rounds (ltb-false k G is) (nat_lt k (G + round_count c l)) less refl

    in_first : (b : Bool) → k < G + round_count c l → (k == 0) ≡ b → sent_for (cond b (alpha l) (cond (nat_lt k G) (beta l) (cond (nat_lt k (G + round_count c l)) (challenge l (k - G)) later))) ≡ sent_at c l + 2 * (k + 1 - G)
    in_first true less is = let none : k ≡ 0 = eqb-true k 0 is in omega (arith, none, some_firsts c)
    in_first false less is = in_early (nat_lt k G) less refl

    sent_in : k < G + round_count c l → sent_for (draw_in c l (suc left) k) ≡ sent_at c l + 2 * (k + 1 - G)
    sent_in less = in_first (k == 0) less refl

  sent_end : (b : Bool) → sent_for (cond b gamma other) ≡ sent_at c (depth c)
  sent_end true = refl
  sent_end false = refl

  next_sent : (l : ℕ) → l < depth c → sent_at c (suc l) ≡ sent_at c l + 2 * round_count c l + 2
  next_sent l h = let z : l + 1 ≡ suc l = omega arith in omega (arith, sent_next c l h, ap (sent_at c) z)

  sent_least : (left l k : ℕ) → l + left ≡ depth c → sent_at c l ≤ sent_for (draw_in c l left k)
  sent_least zero l k whole = let same : l ≡ depth c = omega (arith, whole) in omega (arith, sent_end (k == 0), ap (sent_at c) same)
  sent_least (suc left) l k whole = elim (dec_lt k (firsts c + round_count c l)) [
    | yes less ↦ omega (arith, sent_in l left k less)
    | no more ↦ omega (arith, ap sent_for (in_next c l left k (omega (arith, more))), sent_least left (suc l) (k - firsts c - round_count c l) (omega (arith, whole)), next_sent l (omega (arith, whole)))
  ]

  sent_up : (left l j k : ℕ) → l + left ≡ depth c → j ≤ k → sent_for (draw_in c l left j) ≤ sent_for (draw_in c l left k)
  sent_up zero l j k whole h = omega (arith, sent_end (j == 0), sent_end (k == 0))
  sent_up (suc left) l j k whole h = elim (dec_lt k (firsts c + round_count c l)) [
    | yes less ↦ omega (arith, sent_in l left k less, sent_in l left j (omega (arith, less, h)), h)
    | no more ↦ elim (dec_lt j (firsts c + round_count c l)) [
      | yes few ↦
          omega (
            arith,
            ap sent_for (in_next c l left k (omega (arith, more))),
            sent_in l left j few,
            few,
            some_firsts c,
            sent_least left (suc l) (k - firsts c - round_count c l) (omega (arith, whole)),
            next_sent l (omega (arith, whole)),
          )
      | no many ↦
          omega (
            arith,
            ap sent_for (in_next c l left k (omega (arith, more))),
            ap sent_for (in_next c l left j (omega (arith, many))),
            sent_up left (suc l) (j - firsts c - round_count c l) (k - firsts c - round_count c l) (omega (arith, whole)) (omega (arith, h)),
          )
    ]
  ]

  -- what is sent before a draw is sent before later ones
  pub sent_rises : (j k : ℕ) → j ≤ k → sent_before c (step_of c (draw_at c j)) ≤ sent_before c (step_of c (draw_at c k))
  sent_rises j k h = go (nat_lt j (output_bits c)) refl (nat_lt k (output_bits c)) refl
    where
      go : (a : Bool) → nat_lt j (output_bits c) ≡ a → (b : Bool) → nat_lt k (output_bits c) ≡ b
          → sent_for (cond a (coordinate j) (draw_in c 0 (depth c) (j - output_bits c))) ≤ sent_for (cond b (coordinate k) (draw_in c 0 (depth c) (k - output_bits c)))
      go true p true q = omega arith
      go true p false q = sent_least (depth c) 0 (k - output_bits c) (omega arith)
      go false p true q = absurd (omega (arith, ltb-false j (output_bits c) p, ltb-true k (output_bits c) q, h))
      go false p false q = sent_up (depth c) 0 (j - output_bits c) (k - output_bits c) (omega arith) (omega (arith, h))

  -- no more than all
  pub sent_most_before : (s : Step) → IsStep c s → sent_before c s ≤ sent_counts c
  sent_most_before (head l) h = sent_most c l
  sent_most_before (round l n) h = omega (arith, next_sent l h.0, sent_most c (suc l), h.1)

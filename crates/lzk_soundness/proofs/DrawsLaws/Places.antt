-- What each draw is for.
use Rattle.std.specs.Prelude.{◌≡◌, ℕ, ◌+◌, ◌-◌, ◌<◌, ◌≤◌, ◌==◌, cond, nat_lt, Bool, true, false}
use Rattle.std.proofs.Common.{zero, suc, refl, ap, ◌∙◌, arith}
use Rattle.std.proofs.lemmas.Bool.{lt-ltb, le-ltb, ltb-true, ltb-false, ne_eqb}
use Rattle.lzk_circuit.specs.Valid.{Wiring}
use Rattle.lzk_layout.specs.Places.{depth, output_bits, round_count}
use Rattle.lzk_soundness.specs.Draws.Schedule.{Draw, firsts, drawn_at, draw_count, draw_in, draw_at}
use Rattle.lzk_soundness.specs.Draws.Schedule.Draw.{coordinate, alpha, beta, challenge, gamma, other}

one_or_two : (b : Bool) → (1 ≤ cond b 2 1) × (cond b 2 1 ≤ 2)
one_or_two true = (omega arith, omega arith)
one_or_two false = (omega arith, omega arith)

module _ {A : Type 0} (c : Wiring A) where
  pub some_firsts : 1 ≤ firsts c
  some_firsts = (one_or_two (c.version == 2)).0

  pub few_firsts : firsts c ≤ 2
  few_firsts = (one_or_two (c.version == 2)).1

  abbrev next_in : ℕ → ℕ → ℕ → Draw
  next_in l left k = draw_in c (suc l) left (k - firsts c - round_count c l)

  -- behind a layer's draws
  pub in_next : (l left k : ℕ) → firsts c + round_count c l ≤ k → draw_in c l (suc left) k ≡ next_in l left k
  in_next l left k h =
      let rest = next_in l left k in
      let rounds = cond (nat_lt k (firsts c + round_count c l)) (challenge l (k - firsts c)) rest in
      ap (λ b. cond b (alpha l) (cond (nat_lt k (firsts c)) (beta l) rounds)) (ne_eqb k 0 (λ e. omega (arith, e, h, some_firsts)))
      ∙ ap (λ b. cond b (beta l) rounds) (le-ltb k (firsts c) (omega (arith, h)))
      ∙ ap (λ b. cond b (challenge l (k - firsts c)) rest) (le-ltb k (firsts c + round_count c l) h)

  in_round : (l left n : ℕ) → n < round_count c l → draw_in c l (suc left) (firsts c + n) ≡ challenge l n
  in_round l left n h =
      let k = firsts c + n in
      let rest = next_in l left k in
      let rounds = cond (nat_lt k (firsts c + round_count c l)) (challenge l (k - firsts c)) rest in
      let back : k - firsts c ≡ n = omega arith in
      ap (λ b. cond b (alpha l) (cond (nat_lt k (firsts c)) (beta l) rounds)) (ne_eqb k 0 (λ e. omega (arith, e, some_firsts)))
      ∙ ap (λ b. cond b (beta l) rounds) (le-ltb k (firsts c) (omega arith))
      ∙ ap (λ b. cond b (challenge l (k - firsts c)) rest) (lt-ltb k (firsts c + round_count c l) (omega (arith, h)))
      ∙ ap (challenge l) back

  pub at_layer : (l : ℕ) → l ≤ depth c → (k : ℕ) → draw_at c (drawn_at c l + k) ≡ draw_in c l (depth c - l) k
  at_layer zero h k =
      let n = output_bits c in
      let back : n + k - n ≡ k = omega arith in
      let whole : depth c ≡ depth c - 0 = omega arith in
      ap (λ b. cond b (coordinate (n + k)) (draw_in c 0 (depth c) (n + k - n))) (le-ltb (n + k) n (omega arith))
      ∙ ap (draw_in c 0 (depth c)) back ∙ ap (λ d. draw_in c 0 d k) whole
  at_layer (suc l) h k =
      let rounds = round_count c l in
      let all = firsts c + rounds + k in
      let turned : drawn_at c (suc l) + k ≡ drawn_at c l + all = omega arith in
      let left : depth c - l ≡ suc (depth c - suc l) = omega (arith, h) in
      let back : all - firsts c - rounds ≡ k = omega arith in
      ap (draw_at c) turned ∙ at_layer l (omega (arith, h)) all ∙ ap (λ d. draw_in c l d all) left
      ∙ in_next l (depth c - suc l) all (omega arith) ∙ ap (draw_in c (suc l) (depth c - suc l)) back

  pub at_coordinate : (j : ℕ) → j < output_bits c → draw_at c j ≡ coordinate j
  at_coordinate j h = ap (λ b. cond b (coordinate j) (draw_in c 0 (depth c) (j - output_bits c))) (lt-ltb j (output_bits c) h)

  pub at_alpha : (l : ℕ) → l < depth c → draw_at c (drawn_at c l) ≡ alpha l
  at_alpha l h =
      let here : drawn_at c l ≡ drawn_at c l + 0 = omega arith in
      let left : depth c - l ≡ suc (depth c - suc l) = omega (arith, h) in
      ap (draw_at c) here ∙ at_layer l (omega (arith, h)) 0 ∙ ap (λ d. draw_in c l d 0) left

  pub at_beta : (l : ℕ) → l < depth c → 1 < firsts c → draw_at c (drawn_at c l + 1) ≡ beta l
  at_beta l h two =
      let left : depth c - l ≡ suc (depth c - suc l) = omega (arith, h) in
      let rest = cond (nat_lt 1 (firsts c + round_count c l)) (challenge l (1 - firsts c)) (next_in l (depth c - suc l) 1) in
      at_layer l (omega (arith, h)) 1 ∙ ap (λ d. draw_in c l d 1) left ∙ ap (λ b. cond b (beta l) rest) (lt-ltb 1 (firsts c) two)

  pub at_challenge : (l n : ℕ) → l < depth c → n < round_count c l → draw_at c (drawn_at c l + firsts c + n) ≡ challenge l n
  at_challenge l n h b =
      let turned : drawn_at c l + firsts c + n ≡ drawn_at c l + (firsts c + n) = omega arith in
      let left : depth c - l ≡ suc (depth c - suc l) = omega (arith, h) in
      ap (draw_at c) turned ∙ at_layer l (omega (arith, h)) (firsts c + n) ∙ ap (λ d. draw_in c l d (firsts c + n)) left ∙ in_round l (depth c - suc l) n b

  pub at_gamma : draw_at c (drawn_at c (depth c)) ≡ gamma
  at_gamma =
      let here : drawn_at c (depth c) ≡ drawn_at c (depth c) + 0 = omega arith in
      let none : depth c - depth c ≡ 0 = omega arith in
      ap (draw_at c) here ∙ at_layer (depth c) (omega arith) 0 ∙ ap (λ d. draw_in c (depth c) d 0) none

  -- a layer's draws come before those of the layers behind it, and before gamma
  later : (d l : ℕ) → drawn_at c l ≤ drawn_at c (l + d)
  later zero l = let z : l ≡ l + 0 = omega arith in omega (arith, ap (drawn_at c) z)
  later (suc d) l = let z : suc (l + d) ≡ l + suc d = omega arith in omega (arith, later d l, ap (drawn_at c) z)

  pub drawn_within : (l : ℕ) → l ≤ depth c → drawn_at c l < draw_count c
  drawn_within l h = let z : l + (depth c - l) ≡ depth c = omega (arith, h) in omega (arith, later (depth c - l) l, ap (drawn_at c) z)

  pub rounds_within : (l : ℕ) → l < depth c → drawn_at c l + firsts c + round_count c l < draw_count c
  rounds_within l h = drawn_within (suc l) h

  pub outputs_within : (l : ℕ) → output_bits c ≤ drawn_at c l
  outputs_within zero = omega arith
  outputs_within (suc l) = omega (arith, outputs_within l)

  -- a challenge is that of one of the layer's rounds
  abbrev pub IsInside : Draw → Type 0
  IsInside (coordinate j) = Unit {0}
  IsInside (alpha l) = Unit {0}
  IsInside (beta l) = Unit {0}
  IsInside (challenge l n) = n < round_count c l
  IsInside gamma = Unit {0}
  IsInside other = Unit {0}

  choose : (b : Bool) (x y : Draw) → IsInside x → IsInside y → IsInside (cond b x y)
  choose true x y p q = p
  choose false x y p q = q

  in_inside : (left l k : ℕ) → IsInside (draw_in c l left k)
  in_inside zero l k = choose (k == 0) gamma other tt tt
  in_inside (suc left) l k = choose (k == 0) (alpha l) (cond (nat_lt k (firsts c)) (beta l) (cond (nat_lt k (firsts c + round_count c l)) (challenge l (k - firsts c)) (next_in l left k))) tt (early (nat_lt k (firsts c)) refl (in_inside left (suc l) (k - firsts c - round_count c l)))
    where
      rounds : firsts c ≤ k → IsInside (next_in l left k) → (b : Bool) → nat_lt k (firsts c + round_count c l) ≡ b → IsInside (cond b (challenge l (k - firsts c)) (next_in l left k))
      rounds h rest true is = let less : k < firsts c + round_count c l = ltb-true k (firsts c + round_count c l) is in omega (arith, less, h)
      rounds h rest false is = rest

      early : (b : Bool) → nat_lt k (firsts c) ≡ b → IsInside (next_in l left k) → IsInside (cond b (beta l) (cond (nat_lt k (firsts c + round_count c l)) (challenge l (k - firsts c)) (next_in l left k)))
      early true is rest = tt
      early false is rest = rounds (ltb-false k (firsts c) is) rest (nat_lt k (firsts c + round_count c l)) refl

  pub inside : (k : ℕ) → IsInside (draw_at c k)
  inside k = choose (nat_lt k (output_bits c)) (coordinate k) (draw_in c 0 (depth c) (k - output_bits c)) tt (in_inside (depth c) 0 (k - output_bits c))

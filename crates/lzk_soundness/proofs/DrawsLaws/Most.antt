-- The sum of the degrees of all draws.
use Rattle.std.specs.Prelude.{◌≡◌, ℕ, ◌+◌, ◌-◌, ◌*◌, ◌%◌, ◌<◌, ◌≤◌, ◌==◌, ◌&&◌, cond, Bool, true, false}
use Rattle.std.proofs.Common.{zero, suc, refl, sym, ap, ◌∙◌, arith}
use Rattle.std.proofs.lemmas.Bool.{eq-eqb, ne_eqb}
use Rattle.lzk_soundness.specs.Chance.Draws.{total_from}
use Rattle.lzk_circuit.specs.Valid.{Wiring}
use Rattle.lzk_layout.specs.Places.{depth, bits_under, output_bits, round_count}
use Rattle.lzk_soundness.specs.Draws.Schedule.{firsts, drawn_at, draw_at}
use Rattle.lzk_soundness.specs.Draws.Schedule.Draw.{coordinate, alpha, beta, challenge, gamma}
use Rattle.lzk_soundness.specs.Draws.Game.{Target, degree}
use Rattle.lzk_soundness.specs.Draws.Game.Target.{outputs, assertions}
use Rattle.lzk_soundness.specs.Draws.Laws.{most, add_below, output_part, layer_part}
use Rattle.lzk_soundness.proofs.DrawsLaws.Places.{some_firsts, few_firsts, at_coordinate, at_alpha, at_beta, at_challenge, at_gamma}

total-split : (d : ℕ → ℕ) (k m n : ℕ) → total_from d k (m + n) ≡ total_from d k m + total_from d (k + m) n
total-split d k zero n = let none : 0 + n ≡ n = omega arith in let z : k ≡ k + 0 = omega arith in ap (total_from d k) none ∙ ap (λ j. total_from d j n) z ∙ omega arith
total-split d k (suc m) n =
    let more : suc m + n ≡ suc (m + n) = omega arith in
    let z : suc k + m ≡ k + suc m = omega arith in
    ap (total_from d k) more ∙ ap (λ (j : ℕ). d k + j) (total-split d (suc k) m n ∙ ap (λ j. total_from d (suc k) m + total_from d j n) z) ∙ omega arith

-- where each is the same
total-same : (d : ℕ → ℕ) (k n v : ℕ) → ((i : ℕ) → i < n → d (k + i) ≡ v) → total_from d k n ≡ n * v
total-same d k zero v same = omega arith
total-same d k (suc n) v same =
    let z : k ≡ k + 0 = omega arith in
    let first : d k ≡ v = ap d z ∙ same 0 (omega arith) in
    let rest : total_from d (suc k) n ≡ n * v = total-same d (suc k) n v (λ i h. let y : suc k + i ≡ k + suc i = omega arith in ap d y ∙ same (suc i) (omega (arith, h))) in
    grind (arith, first, rest)

-- where two take turns
total-turns : (d : ℕ → ℕ) (k n x y : ℕ) → ((i : ℕ) → i < n → d (k + 2 * i) ≡ x) → ((i : ℕ) → i < n → d (k + 2 * i + 1) ≡ y) → total_from d k (2 * n) ≡ n * (x + y)
total-turns d k zero x y even odd = omega arith
total-turns d k (suc n) x y even odd =
    let twice : 2 * suc n ≡ suc (suc (2 * n)) = omega arith in
    let a : k ≡ k + 2 * 0 = omega arith in
    let b : suc k ≡ k + 2 * 0 + 1 = omega arith in
    let first : d k ≡ x = ap d a ∙ even 0 (omega arith) in
    let second : d (suc k) ≡ y = ap d b ∙ odd 0 (omega arith) in
    let rest : total_from d (suc (suc k)) (2 * n) ≡ n * (x + y) =
    total-turns d (suc (suc k)) n x y
    (λ i h. let z : suc (suc k) + 2 * i ≡ k + 2 * suc i = omega arith in ap d z ∙ even (suc i) (omega (arith, h)))
    (λ i h. let z : suc (suc k) + 2 * i + 1 ≡ k + 2 * suc i + 1 = omega arith in ap d z ∙ odd (suc i) (omega (arith, h))) in
    ap (total_from d k) twice ∙ grind (arith, first, second, rest)

-- the degree of an alpha, less one
abbrev more_at : Target → ℕ → ℕ
more_at outputs l = 0
more_at (assertions j) l = cond (j == l) 1 0

alpha_degree : (target : Target) (l : ℕ) → degree target (alpha l) ≡ 1 + more_at target l
alpha_degree outputs l = refl
alpha_degree (assertions j) l = go (j == l)
  where
    go : (b : Bool) → cond b 2 1 ≡ 1 + cond b 1 0
    go true = refl
    go false = refl

gamma_degree : (target : Target) → degree target gamma ≡ 1
gamma_degree outputs = refl
gamma_degree (assertions zero) = refl
gamma_degree (assertions (suc l)) = refl

beta_degree : (target : Target) (l : ℕ) → degree target (beta l) ≡ 1
beta_degree outputs l = refl
beta_degree (assertions zero) l = refl
beta_degree (assertions (suc j)) l = refl

-- what a layer's rounds count for beyond two each
abbrev more_in : ℕ → Target → ℕ → ℕ
more_in bits outputs l = 0
more_in bits (assertions j) l = cond (j == suc l) bits 0

even_degree : (j l i : ℕ) (b : Bool) → (j == suc l) ≡ b → degree (assertions j) (challenge l (2 * i)) ≡ 2
even_degree j l i b e =
    ap (λ u. cond {A = ℕ} (u && ((2 * i) % 2 == 1)) 3 2) e ∙ ap (λ u. cond {A = ℕ} (b && u) 3 2) (ne_eqb ((2 * i) % 2) 1 (λ q. omega (arith, q))) ∙ go b
  where
    go : (b : Bool) → cond {A = ℕ} (b && false) 3 2 ≡ 2
    go true = refl
    go false = refl

odd_degree : (j l i : ℕ) (b : Bool) → (j == suc l) ≡ b → degree (assertions j) (challenge l (2 * i + 1)) ≡ cond b 3 2
odd_degree j l i b e =
    ap (λ u. cond {A = ℕ} (u && ((2 * i + 1) % 2 == 1)) 3 2) e ∙ ap (λ u. cond {A = ℕ} (b && u) 3 2) (eq-eqb ((2 * i + 1) % 2) 1 (omega arith)) ∙ go b
  where
    go : (b : Bool) → cond {A = ℕ} (b && true) 3 2 ≡ cond b 3 2
    go true = refl
    go false = refl

module _ {A : Type 0} (c : Wiring A) where
  abbrev D : Target → ℕ → ℕ
  D target k = degree target (draw_at c k)

  coordinates : (target : Target) (v : ℕ) → ((j : ℕ) → degree target (coordinate j) ≡ v) → total_from (D target) 0 (output_bits c) ≡ output_bits c * v
  coordinates target v each = total-same (D target) 0 (output_bits c) v (λ i h. let z : 0 + i ≡ i = omega arith in ap (D target) z ∙ ap (degree target) (at_coordinate c i h) ∙ each i)

  at_outputs : (target : Target) → total_from (D target) 0 (output_bits c) ≡ output_part c target
  at_outputs outputs = coordinates outputs 1 (λ j. refl) ∙ omega arith
  at_outputs (assertions zero) = coordinates (assertions zero) 1 (λ j. refl) ∙ omega arith
  at_outputs (assertions (suc l)) = coordinates (assertions (suc l)) 0 (λ j. refl) ∙ omega arith

  -- alpha, and beta where there is one
  at_firsts : (target : Target) (l : ℕ) → l < depth c → total_from (D target) (drawn_at c l) (firsts c) ≡ firsts c + more_at target l
  at_firsts target l h =
      let k = drawn_at c l in
      let parts : firsts c ≡ 1 + (firsts c - 1) = omega (arith, some_firsts c) in
      let first : D target k ≡ 1 + more_at target l = ap (degree target) (at_alpha c l h) ∙ alpha_degree target l in
      let rest : total_from (D target) (k + 1) (firsts c - 1) ≡ (firsts c - 1) * 1 = total-same (D target) (k + 1) (firsts c - 1) 1 each in
      ap (total_from (D target) k) parts ∙ total-split (D target) k 1 (firsts c - 1) ∙ omega (arith, first, rest, some_firsts c)
    where
      each : (i : ℕ) → i < firsts c - 1 → D target (drawn_at c l + 1 + i) ≡ 1
      each zero q = let z : drawn_at c l + 1 + 0 ≡ drawn_at c l + 1 = omega arith in ap (D target) z ∙ ap (degree target) (at_beta c l h (omega (arith, q))) ∙ beta_degree target l
      each (suc i) q = absurd (omega (arith, q, few_firsts c))

  turns : (target : Target) (l x y : ℕ) → l < depth c → ((i : ℕ) → degree target (challenge l (2 * i)) ≡ x) → ((i : ℕ) → degree target (challenge l (2 * i + 1)) ≡ y)
      → total_from (D target) (drawn_at c l + firsts c) (round_count c l) ≡ bits_under c l * (x + y)
  turns target l x y h even odd =
      total-turns (D target) (drawn_at c l + firsts c) (bits_under c l) x y
      (λ i q. ap (degree target) (at_challenge c l (2 * i) h (omega (arith, q))) ∙ even i)
      (λ i q. let z : drawn_at c l + firsts c + 2 * i + 1 ≡ drawn_at c l + firsts c + (2 * i + 1) = omega arith in
      ap (D target) z ∙ ap (degree target) (at_challenge c l (2 * i + 1) h (omega (arith, q))) ∙ odd i)

  at_rounds : (target : Target) (l : ℕ) → l < depth c → total_from (D target) (drawn_at c l + firsts c) (round_count c l) ≡ 4 * bits_under c l + more_in (bits_under c l) target l
  at_rounds outputs l h = turns outputs l 2 2 h (λ i. refl) (λ i. refl) ∙ omega arith
  at_rounds (assertions j) l h = go (j == suc l) refl
    where
      go : (b : Bool) → (j == suc l) ≡ b → total_from (D (assertions j)) (drawn_at c l + firsts c) (round_count c l) ≡ 4 * bits_under c l + cond (j == suc l) (bits_under c l) 0
      go true e = turns (assertions j) l 2 3 h (λ i. even_degree j l i true e) (λ i. odd_degree j l i true e) ∙ omega arith ∙ ap (λ b. 4 * bits_under c l + cond b (bits_under c l) 0) (sym e)
      go false e = turns (assertions j) l 2 2 h (λ i. even_degree j l i false e) (λ i. odd_degree j l i false e) ∙ omega arith ∙ ap (λ b. 4 * bits_under c l + cond b (bits_under c l) 0) (sym e)

  part_is : (target : Target) (l : ℕ) → layer_part c target l ≡ firsts c + 4 * bits_under c l + more_at target l + more_in (bits_under c l) target l
  part_is outputs l = omega arith
  part_is (assertions j) l = refl

  upto : (target : Target) (l : ℕ) → l ≤ depth c → total_from (D target) 0 (drawn_at c l) ≡ output_part c target + add_below l (layer_part c target)
  upto target zero h = at_outputs target ∙ omega arith
  upto target (suc l) h =
      let low : l < depth c = omega (arith, h) in
      let a = drawn_at c l in
      let z : 0 + a ≡ a = omega arith in
      let y : 0 + (a + firsts c) ≡ a + firsts c = omega arith in
      total-split (D target) 0 (a + firsts c) (round_count c l)
      ∙ ap (λ (t : ℕ). t + total_from (D target) (0 + (a + firsts c)) (round_count c l)) (total-split (D target) 0 a (firsts c))
      ∙ omega (arith, upto target l (omega (arith, h)), ap (λ k. total_from (D target) k (firsts c)) z, at_firsts target l low, ap (λ k. total_from (D target) k (round_count c l)) y, at_rounds target l low, part_is target l)

  pub most_is : (target : Target) → most c target ≡ output_part c target + add_below (depth c) (layer_part c target) + 1
  most_is target =
      let a = drawn_at c (depth c) in
      let z : 0 + a ≡ a = omega arith in
      let last : total_from (D target) a 1 ≡ 1 = ap (λ (t : ℕ). t + 0) (ap (degree target) (at_gamma c) ∙ gamma_degree target) in
      total-split (D target) 0 a 1 ∙ omega (arith, upto target (depth c) (omega arith), ap (λ k. total_from (D target) k 1) z, last)

-- Transforms of two and of four entries.
use Rattle.std.specs.Prelude.{◌≡◌, ℕ, ◌<◌, ◌^◌, List, [], ◌∷◌}
use Rattle.std.proofs.Common.{zero, suc, refl, sym, ap, ◌∙◌, arith}
use Rattle.lzk_field.specs.Ring.{Ops, RingLaws}
use Rattle.lzk_field.specs.Sums.{minus, entry}
use Rattle.lzk_field.proofs.Solve.{var, unit, opp, ◌⊞◌, ◌⊟◌, ◌⊠◌, solve, solve_by}
use Rattle.lzk_poly_ntt.specs.Transform.{spectrum, doubled, AreTwiddles, IsRoot}
use Rattle.lzk_field.proofs.PowerLaws.{power-first}
use Rattle.lzk_poly_ntt.proofs.RootLaws.{root-lower}
use Rattle.lzk_poly_ntt.proofs.Transforms.{sums, twiddled, spectrum-low, spectrum-high, spectrum-single}

module _ {A : Type 0} (o : Ops A) (r : RingLaws o) where
  open o use {plus, times}

  module _ (w : A) (x : ℕ → A) (root : IsRoot o 1 w) where
    pub two-first : spectrum o 1 w x 0 ≡ plus (x 0) (x 1)
    two-first = spectrum-low o r 0 w x 0 root (omega arith) ∙ spectrum-single o r (times w w) (sums o r 0 x) 0

    pub two-second : spectrum o 1 w x 1 ≡ minus o (x 0) (x 1)
    two-second = spectrum-high o r 0 w x 0 root ∙ spectrum-single o r (times w w) (twiddled o r 0 w x) 0 ∙ r.times_one _

  module _ (w : A) (x : ℕ → A) (root : IsRoot o 2 w) where
    lower : IsRoot o 1 (times w w)
    lower = root-lower o r 1 w root

    turned_first : twiddled o r 1 w x 0 ≡ minus o (x 0) (x 2)
    turned_first = r.times_one _

    turned_second : twiddled o r 1 w x 1 ≡ times (minus o (x 1) (x 3)) w
    turned_second = ap (times (minus o (x 1) (x 3))) (power-first o r w)

    pub four-first : spectrum o 2 w x 0 ≡ plus (plus (x 0) (x 2)) (plus (x 1) (x 3))
    four-first = spectrum-low o r 1 w x 0 root (omega arith) ∙ two-first (times w w) (sums o r 1 x) lower

    pub four-second : spectrum o 2 w x 1 ≡ minus o (plus (x 0) (x 2)) (plus (x 1) (x 3))
    four-second = spectrum-low o r 1 w x 1 root (omega arith) ∙ two-second (times w w) (sums o r 1 x) lower

    pub four-third : spectrum o 2 w x 2 ≡ plus (minus o (x 0) (x 2)) (times (minus o (x 1) (x 3)) w)
    four-third = spectrum-high o r 1 w x 0 root ∙ two-first (times w w) (twiddled o r 1 w x) lower ∙ ap (λ u. plus u (twiddled o r 1 w x 1)) turned_first ∙ ap (plus (minus o (x 0) (x 2))) turned_second

    pub four-fourth : spectrum o 2 w x 3 ≡ minus o (minus o (x 0) (x 2)) (times (minus o (x 1) (x 3)) w)
    four-fourth = spectrum-high o r 1 w x 1 root ∙ two-second (times w w) (twiddled o r 1 w x) lower ∙ ap (λ u. minus o u (twiddled o r 1 w x 1)) turned_first ∙ ap (minus o (minus o (x 0) (x 2))) turned_second

  -- what holds of each place of two, and of four
  pub each_of_two : (P : ℕ → Type 0) → P 0 → P 1 → (i : ℕ) → i < 2 → P i
  each_of_two P a b zero h = a
  each_of_two P a b (suc zero) h = b
  each_of_two P a b (suc (suc i)) h = absurd (omega arith)

  pub each_of_four : (P : ℕ → Type 0) → P 0 → P 1 → P 2 → P 3 → (i : ℕ) → i < 4 → P i
  each_of_four P a b c d zero h = a
  each_of_four P a b c d (suc zero) h = b
  each_of_four P a b c d (suc (suc zero)) h = c
  each_of_four P a b c d (suc (suc (suc zero))) h = d
  each_of_four P a b c d (suc (suc (suc (suc i)))) h = absurd (omega arith)

  of_four : (f : A → A → A → A → A) (a b c d p q s t : A) → a ≡ p → b ≡ q → c ≡ s → d ≡ t → f a b c d ≡ f p q s t
  of_four f a b c d p q s t ea eb ec ed = ap (λ u. f u b c d) ea ∙ ap (λ u. f p u c d) eb ∙ ap (λ u. f p q u d) ec ∙ ap (f p q s) ed

  -- down
  pub forward_two : (bits : ℕ) (w : A) (values new : List A) → bits ≡ 1 → IsRoot o bits w
      → entry o new 0 ≡ plus (entry o values 0) (entry o values 1) → entry o new 1 ≡ minus o (entry o values 0) (entry o values 1)
      → (j : ℕ) → j < 2 ^ bits → entry o new j ≡ spectrum o bits w (entry o values) j
  forward_two zero w values new e root first second j h = absurd (omega arith)
  forward_two (suc zero) w values new e root first second j h =
      each_of_two (λ j. entry o new j ≡ spectrum o 1 w (entry o values) j) (first ∙ sym (two-first w (entry o values) root)) (second ∙ sym (two-second w (entry o values) root)) j h
  forward_two (suc (suc b)) w values new e root first second j h = absurd (omega arith)

  pub forward_four : (bits : ℕ) (w turn : A) (values ts new : List A) → bits ≡ 2 → IsRoot o bits w → AreTwiddles o bits w ts → turn ≡ entry o ts 3
      → entry o new 0 ≡ plus (plus (entry o values 0) (entry o values 2)) (plus (entry o values 1) (entry o values 3))
      → entry o new 1 ≡ minus o (plus (entry o values 0) (entry o values 2)) (plus (entry o values 1) (entry o values 3))
      → entry o new 2 ≡ plus (minus o (entry o values 0) (entry o values 2)) (times (minus o (entry o values 1) (entry o values 3)) turn)
      → entry o new 3 ≡ minus o (minus o (entry o values 0) (entry o values 2)) (times (minus o (entry o values 1) (entry o values 3)) turn)
      → (j : ℕ) → j < 2 ^ bits → entry o new j ≡ spectrum o bits w (entry o values) j
  forward_four zero w turn values ts new e root twiddles at first second third fourth j h = absurd (omega arith)
  forward_four (suc zero) w turn values ts new e root twiddles at first second third fourth j h = absurd (omega arith)
  forward_four (suc (suc zero)) w turn values ts new e root twiddles at first second third fourth j h =
      let x : ℕ → A = entry o values in
      let is : turn ≡ w = at ∙ twiddles.0 1 (omega arith) ∙ power-first o r w in
      each_of_four (λ j. entry o new j ≡ spectrum o 2 w x j)
      (first ∙ sym (four-first w x root))
      (second ∙ sym (four-second w x root))
      (third ∙ ap (λ u. plus (minus o (x 0) (x 2)) (times (minus o (x 1) (x 3)) u)) is ∙ sym (four-third w x root))
      (fourth ∙ ap (λ u. minus o (minus o (x 0) (x 2)) (times (minus o (x 1) (x 3)) u)) is ∙ sym (four-fourth w x root))
      j h
  forward_four (suc (suc (suc b))) w turn values ts new e root twiddles at first second third fourth j h = absurd (omega arith)

  -- up
  pub backward_two : (bits : ℕ) (w : A) (x : ℕ → A) (values new : List A) → bits ≡ 1 → IsRoot o bits w
      → ((j : ℕ) → j < 2 ^ bits → entry o values j ≡ spectrum o bits w x j)
      → entry o new 0 ≡ plus (entry o values 0) (entry o values 1) → entry o new 1 ≡ minus o (entry o values 0) (entry o values 1)
      → (i : ℕ) → i < 2 ^ bits → entry o new i ≡ times (doubled o bits) (x i)
  backward_two zero w x values new e root known first second i h = absurd (omega arith)
  backward_two (suc zero) w x values new e root known first second i h =
      let X = var 0 in let Y = var 1 in
      let a : entry o values 0 ≡ plus (x 0) (x 1) = known 0 (omega arith) ∙ two-first w x root in
      let b : entry o values 1 ≡ minus o (x 0) (x 1) = known 1 (omega arith) ∙ two-second w x root in
      each_of_two (λ i. entry o new i ≡ times (doubled o 1) (x i))
      (first ∙ ap (λ u. plus u (entry o values 1)) a ∙ ap (plus (plus (x 0) (x 1))) b ∙ solve o r (x 0 ∷ x 1 ∷ []) ((X ⊞ Y) ⊞ (X ⊟ Y)) ((unit ⊞ unit) ⊠ X) refl)
      (second ∙ ap (λ u. minus o u (entry o values 1)) a ∙ ap (minus o (plus (x 0) (x 1))) b ∙ solve o r (x 0 ∷ x 1 ∷ []) ((X ⊞ Y) ⊟ (X ⊟ Y)) ((unit ⊞ unit) ⊠ Y) refl)
      i h
  backward_two (suc (suc b)) w x values new e root known first second i h = absurd (omega arith)

  pub backward_four : (bits : ℕ) (w v turn : A) (x : ℕ → A) (values ts new : List A) → bits ≡ 2 → IsRoot o bits w → times w v ≡ o.one → AreTwiddles o bits v ts → turn ≡ entry o ts 3
      → ((j : ℕ) → j < 2 ^ bits → entry o values j ≡ spectrum o bits w x j)
      → entry o new 0 ≡ plus (plus (entry o values 0) (entry o values 1)) (plus (entry o values 2) (entry o values 3))
      → entry o new 1 ≡ plus (minus o (entry o values 0) (entry o values 1)) (times (minus o (entry o values 2) (entry o values 3)) turn)
      → entry o new 2 ≡ minus o (plus (entry o values 0) (entry o values 1)) (plus (entry o values 2) (entry o values 3))
      → entry o new 3 ≡ minus o (minus o (entry o values 0) (entry o values 1)) (times (minus o (entry o values 2) (entry o values 3)) turn)
      → (i : ℕ) → i < 2 ^ bits → entry o new i ≡ times (doubled o bits) (x i)
  backward_four zero w v turn x values ts new e root inverse twiddles at known first second third fourth i h = absurd (omega arith)
  backward_four (suc zero) w v turn x values ts new e root inverse twiddles at known first second third fourth i h = absurd (omega arith)
  backward_four (suc (suc zero)) w v turn x values ts new e root inverse twiddles at known first second third fourth i h =
      let X = var 0 in let Y = var 1 in let Z = var 2 in let T = var 3 in let W = var 4 in let V = var 5 in
      let env = x 0 ∷ x 1 ∷ x 2 ∷ x 3 ∷ w ∷ v ∷ [] in
      let is : turn ≡ v = at ∙ twiddles.0 1 (omega arith) ∙ power-first o r v in
      let a = known 0 (omega arith) ∙ four-first w x root in
      let b = known 1 (omega arith) ∙ four-second w x root in
      let c = known 2 (omega arith) ∙ four-third w x root in
      let d = known 3 (omega arith) ∙ four-fourth w x root in
      let A1 = (X ⊞ Z) ⊞ (Y ⊞ T) in
      let B1 = (X ⊞ Z) ⊟ (Y ⊞ T) in
      let C1 = (X ⊟ Z) ⊞ (Y ⊟ T) ⊠ W in
      let D1 = (X ⊟ Z) ⊟ (Y ⊟ T) ⊠ W in
      let F = (unit ⊞ unit) ⊞ (unit ⊞ unit) in
      let K = (unit ⊞ unit) ⊠ (Y ⊟ T) in
      each_of_four (λ i. entry o new i ≡ times (doubled o 2) (x i))
      (first ∙ of_four (λ a b c d. plus (plus a b) (plus c d)) _ _ _ _ _ _ _ _ a b c d
      ∙ solve o r env ((A1 ⊞ B1) ⊞ (C1 ⊞ D1)) (F ⊠ X) refl)
      (second ∙ ap (λ u. plus (minus o (entry o values 0) (entry o values 1)) (times (minus o (entry o values 2) (entry o values 3)) u)) is
      ∙ of_four (λ a b c d. plus (minus o a b) (times (minus o c d) v)) _ _ _ _ _ _ _ _ a b c d
      ∙ solve_by o r env K (W ⊠ V) unit ((A1 ⊟ B1) ⊞ (C1 ⊟ D1) ⊠ V) (F ⊠ Y) inverse refl)
      (third ∙ of_four (λ a b c d. minus o (plus a b) (plus c d)) _ _ _ _ _ _ _ _ a b c d
      ∙ solve o r env ((A1 ⊞ B1) ⊟ (C1 ⊞ D1)) (F ⊠ Z) refl)
      (fourth ∙ ap (λ u. minus o (minus o (entry o values 0) (entry o values 1)) (times (minus o (entry o values 2) (entry o values 3)) u)) is
      ∙ of_four (λ a b c d. minus o (minus o a b) (times (minus o c d) v)) _ _ _ _ _ _ _ _ a b c d
      ∙ solve_by o r env (opp K) (W ⊠ V) unit ((A1 ⊟ B1) ⊟ (C1 ⊟ D1) ⊠ V) (F ⊠ T) inverse refl)
      i h
  backward_four (suc (suc (suc b))) w v turn x values ts new e root inverse twiddles at known first second third fourth i h = absurd (omega arith)

-- A sum over all (g, a, b) of the coefficients is the sum over the terms.
use Rattle.std.specs.Prelude.{◌≡◌, ℕ, ◌<◌, ◌==◌, ◌&&◌, List, [], ◌∷◌, true, false, Bool, cond, length, slice_index_or}
use Rattle.std.proofs.Common.{refl, sym, ap, ◌∙◌}
use Rattle.std.proofs.lemmas.Bool.{eqb-true, and_parts}
use Rattle.lzk_field.specs.Ring.{Ops, RingLaws}
use Rattle.lzk_field.specs.Sums.{sum_below}
use Rattle.lzk_field.proofs.RingBasics.{zero_plus, zero_times, times_zero}
use Rattle.lzk_field.proofs.SumLaws.{sum-ext, sum-zero, sum-plus, sum-single, sum-cond}
use Rattle.lzk_circuit.specs.declared.layer.Term.{Term}
use Rattle.lzk_circuit.specs.Sums.{sum_pairs, sum_triples, sum_list}
use Rattle.lzk_circuit.specs.Wires.{is_at, coef, wire, AreDistinct}

module _ {A : Type 0} (o : Ops A) (r : RingLaws o) where
  open o use {plus, times}

  pub sum_pairs-ext : (n : ℕ) (f h : ℕ → ℕ → A) → ((a b : ℕ) → f a b ≡ h a b) → sum_pairs o n f ≡ sum_pairs o n h
  sum_pairs-ext n f h e = sum-ext o r n (λ a. sum_below o n (f a)) (λ a. sum_below o n (h a)) (λ a l. sum-ext o r n (f a) (h a) (λ b l. e a b))

  pub sum_triples-ext : (k n : ℕ) (f h : ℕ → ℕ → ℕ → A) → ((g a b : ℕ) → f g a b ≡ h g a b) → sum_triples o k n f ≡ sum_triples o k n h
  sum_triples-ext k n f h e = sum-ext o r k (λ g. sum_pairs o n (f g)) (λ g. sum_pairs o n (h g)) (λ g l. sum_pairs-ext n (f g) (h g) (e g))

  sum_triples-plus : (k n : ℕ) (f h : ℕ → ℕ → ℕ → A) → sum_triples o k n (λ g a b. plus (f g a b) (h g a b)) ≡ plus (sum_triples o k n f) (sum_triples o k n h)
  sum_triples-plus k n f h =
      sum-ext o r k (λ g. sum_pairs o n (λ a b. plus (f g a b) (h g a b))) (λ g. plus (sum_pairs o n (f g)) (sum_pairs o n (h g)))
      (λ g l. sum-ext o r n (λ a. sum_below o n (λ b. plus (f g a b) (h g a b))) (λ a. plus (sum_below o n (f g a)) (sum_below o n (h g a))) (λ a l. sum-plus o r n (f g a) (h g a))
      ∙ sum-plus o r n (λ a. sum_below o n (f g a)) (λ a. sum_below o n (h g a)))
      ∙ sum-plus o r k (λ g. sum_pairs o n (f g)) (λ g. sum_pairs o n (h g))

  cond-and : (p q : Bool) (x : A) → cond (p && q) x o.zero ≡ cond p (cond q x o.zero) o.zero
  cond-and true q x = refl
  cond-and false q x = refl

  -- one place alone
  sum_triples-single : (k n : ℕ) (t : Term A) (f : ℕ → ℕ → ℕ → A) → t.g < k → t.a < n → t.b < n → sum_triples o k n (λ g a b. cond (is_at t g a b) (f g a b) o.zero) ≡ f t.g t.a t.b
  sum_triples-single k n t f lg la lb =
      sum_triples-ext k n (λ g a b. cond (is_at t g a b) (f g a b) o.zero) (λ g a b. cond (g == t.g) (cond (a == t.a) (cond (b == t.b) (f g a b) o.zero) o.zero) o.zero)
      (λ g a b. cond-and (g == t.g) ((a == t.a) && (b == t.b)) (f g a b) ∙ ap (λ w. cond (g == t.g) w o.zero) (cond-and (a == t.a) (b == t.b) (f g a b)))
      ∙ sum-ext o r k (λ g. sum_pairs o n (λ a b. cond (g == t.g) (cond (a == t.a) (cond (b == t.b) (f g a b) o.zero) o.zero) o.zero)) (λ g. cond (g == t.g) (f g t.a t.b) o.zero)
      (λ g l. sum-ext o r n (λ a. sum_below o n (λ b. cond (g == t.g) (cond (a == t.a) (cond (b == t.b) (f g a b) o.zero) o.zero) o.zero)) (λ a. cond (g == t.g) (cond (a == t.a) (f g a t.b) o.zero) o.zero)
      (λ a l. sum-cond o r n (g == t.g) (λ b. cond (a == t.a) (cond (b == t.b) (f g a b) o.zero) o.zero)
      ∙ ap (λ w. cond (g == t.g) w o.zero) (sum-cond o r n (a == t.a) (λ b. cond (b == t.b) (f g a b) o.zero) ∙ ap (λ w. cond (a == t.a) w o.zero) (sum-single o r n t.b (f g a) lb)))
      ∙ sum-cond o r n (g == t.g) (λ a. cond (a == t.a) (f g a t.b) o.zero)
      ∙ ap (λ w. cond (g == t.g) w o.zero) (sum-single o r n t.a (λ a. f g a t.b) la))
      ∙ sum-single o r k t.g (λ g. f g t.a t.b) lg

  -- a first term, and the others
  pub split : (t : Term A) (ts : List (Term A)) (h : ℕ → ℕ → ℕ → A) (g a b : ℕ) → coef o ts t.g t.a t.b ≡ o.zero
      → times (coef o (t ∷ ts) g a b) (h g a b) ≡ plus (cond (is_at t g a b) (times t.coef (h g a b)) o.zero) (times (coef o ts g a b) (h g a b))
  split t ts h g a b z = go (is_at t g a b) refl
    where
      go : (p : Bool) → is_at t g a b ≡ p → times (cond p t.coef (coef o ts g a b)) (h g a b) ≡ plus (cond p (times t.coef (h g a b)) o.zero) (times (coef o ts g a b) (h g a b))
      go true e =
          let one = and_parts (g == t.g) ((a == t.a) && (b == t.b)) e in
          let two = and_parts (a == t.a) (b == t.b) one.1 in
          let here : coef o ts g a b ≡ o.zero = ap (λ x. coef o ts x a b) (eqb-true g t.g one.0) ∙ ap (λ x. coef o ts t.g x b) (eqb-true a t.a two.0) ∙ ap (coef o ts t.g t.a) (eqb-true b t.b two.1) ∙ z in
          sym (ap (λ w. plus (times t.coef (h g a b)) (times w (h g a b))) here ∙ ap (plus (times t.coef (h g a b))) (zero_times o r (h g a b)) ∙ r.plus_zero _)
      go false e = sym (zero_plus o r _)

  pub coefficient_sum : (k n : ℕ) (ts : List (Term A)) (h : ℕ → ℕ → ℕ → A) → AreDistinct o k n ts
      → sum_triples o k n (λ g a b. times (coef o ts g a b) (h g a b)) ≡ sum_list o ts (λ t. times t.coef (h t.g t.a t.b))
  coefficient_sum k n [] h within = sum_triples-ext k n (λ g a b. times o.zero (h g a b)) (λ g a b. o.zero) (λ g a b. zero_times o r (h g a b))
      ∙ sum-ext o r k (λ g. sum_pairs o n (λ a b. o.zero)) (λ g. o.zero) (λ g l. sum-ext o r n (λ a. sum_below o n (λ b. o.zero)) (λ a. o.zero) (λ a l. sum-zero o r n) ∙ sum-zero o r n) ∙ sum-zero o r k
  coefficient_sum k n (t ∷ ts) h within =
      sum_triples-ext k n (λ g a b. times (coef o (t ∷ ts) g a b) (h g a b)) (λ g a b. plus (cond (is_at t g a b) (times t.coef (h g a b)) o.zero) (times (coef o ts g a b) (h g a b))) (λ g a b. split t ts h g a b within.3)
      ∙ sum_triples-plus k n (λ g a b. cond (is_at t g a b) (times t.coef (h g a b)) o.zero) (λ g a b. times (coef o ts g a b) (h g a b))
      ∙ ap (λ w. plus w (sum_triples o k n (λ g a b. times (coef o ts g a b) (h g a b)))) (sum_triples-single k n t (λ g a b. times t.coef (h g a b)) within.0 within.1 within.2)
      ∙ ap (plus (times t.coef (h t.g t.a t.b))) (coefficient_sum k n ts h within.4)

  times-cond : (p : Bool) (x y : A) → times x (cond p y o.zero) ≡ cond p (times x y) o.zero
  times-cond true x y = refl
  times-cond false x y = times_zero o r x

  -- what a term counts for wire k
  abbrev pub share : List A → ℕ → Term A → A
  share below k t = times t.coef (cond (t.g == k) (times (slice_index_or below t.a o.zero) (slice_index_or below t.b o.zero)) o.zero)

  -- a wire is the sum over the terms
  pub wire-terms : (m : ℕ) (ts : List (Term A)) (below : List A) (k : ℕ) → k < m → AreDistinct o m (length below) ts → wire o (coef o ts) below k ≡ sum_list o ts (share below k)
  unfolding wire
  wire-terms m ts below k l within =
      let n = length below in
      let v : ℕ → A = λ i. slice_index_or below i o.zero in
      let pair : ℕ → ℕ → A = λ a b. times (v a) (v b) in
      let row : ℕ → A = λ g. sum_pairs o n (λ a b. times (coef o ts g a b) (pair a b)) in
      sum_pairs-ext n (λ a b. times (times (coef o ts k a b) (v a)) (v b)) (λ a b. times (coef o ts k a b) (pair a b)) (λ a b. r.times_assoc (coef o ts k a b) (v a) (v b))
      ∙ sym (sum-single o r m k row l)
      ∙ sum-ext o r m (λ g. cond (g == k) (row g) o.zero) (λ g. sum_pairs o n (λ a b. times (coef o ts g a b) (cond (g == k) (pair a b) o.zero)))
      (λ g l. sym (sum_pairs-ext n (λ a b. times (coef o ts g a b) (cond (g == k) (pair a b) o.zero)) (λ a b. cond (g == k) (times (coef o ts g a b) (pair a b)) o.zero) (λ a b. times-cond (g == k) (coef o ts g a b) (pair a b))
      ∙ sum-ext o r n (λ a. sum_below o n (λ b. cond (g == k) (times (coef o ts g a b) (pair a b)) o.zero)) (λ a. cond (g == k) (sum_below o n (λ b. times (coef o ts g a b) (pair a b))) o.zero) (λ a l. sum-cond o r n (g == k) (λ b. times (coef o ts g a b) (pair a b)))
      ∙ sum-cond o r n (g == k) (λ a. sum_below o n (λ b. times (coef o ts g a b) (pair a b)))))
      ∙ coefficient_sum m n ts (λ g a b. cond (g == k) (pair a b) o.zero) within

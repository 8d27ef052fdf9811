-- Sums over the places of a table.
use Rattle.std.specs.Prelude.{◌≡◌, ◌≢◌, ℕ, ◌+◌, ◌-◌, ◌<◌, ◌≤◌, ◌==◌, ◌&&◌, false, cond}
use Rattle.std.proofs.Common.{refl, sym, ap, ◌∙◌, arith}
use Rattle.std.proofs.lemmas.Bool.{eq-eqb, ne_eqb, and_right}
use Rattle.lzk_field.specs.Ring.{Ops, RingLaws}
use Rattle.lzk_field.specs.Sums.{sum_below}
use Rattle.lzk_field.proofs.RingBasics.{zero_times}
use Rattle.lzk_field.proofs.SumLaws.{sum-ext, sum-times_right}
use Rattle.lzk_field.proofs.SumPlaces.{sum_table, sum_table-ext, sum_table-one, sum_table-swap}
use Rattle.lzk_accept.specs.Combination.{sum_where, is_place}

module _ {A : Type 0} (o : Ops A) (r : RingLaws o) where
  -- what a place adds
  term_elsewhere_row : (p : ℕ × ℕ) (x v : A) (i s : ℕ) → p.0 ≢ i → o.times (cond (is_place i s p) x o.zero) v ≡ o.zero
  term_elsewhere_row p x v i s d = ap (λ b. o.times (cond (b && (p.1 == s)) x o.zero) v) (ne_eqb p.0 i d) ∙ zero_times o r v

  term_elsewhere : (p : ℕ × ℕ) (x v : A) (i s : ℕ) → p.1 ≢ s → o.times (cond (is_place i s p) x o.zero) v ≡ o.zero
  term_elsewhere p x v i s d = ap (λ b. o.times (cond ((p.0 == i) && b) x o.zero) v) (ne_eqb p.1 s d) ∙ ap (λ b. o.times (cond b x o.zero) v) (and_right (p.0 == i) false refl) ∙ zero_times o r v

  term_here : (p : ℕ × ℕ) (x v : A) → o.times (cond (is_place p.0 p.1 p) x o.zero) v ≡ o.times x v
  term_here p x v = ap (λ b. o.times (cond (b && (p.1 == p.1)) x o.zero) v) (eq-eqb p.0 p.0 refl) ∙ ap (λ b. o.times (cond b x o.zero) v) (eq-eqb p.1 p.1 refl)

  -- what stands at row i, position s, of what f places
  abbrev pub placed : ℕ → (ℕ → ℕ × ℕ) → (ℕ → A) → ℕ → ℕ → A
  placed k place f i s = sum_where o k (λ j. is_place i s (place j)) f

  -- Over all places, what stands there times the place's value is the sum over all that stands somewhere of it times its place's value.
  pub placed_sum : (b n m k : ℕ) (place : ℕ → ℕ × ℕ) (f : ℕ → A) (value : ℕ → ℕ → A)
      → ((j : ℕ) → j < k → (b ≤ (place j).0) × ((place j).0 < b + n)) → ((j : ℕ) → j < k → (place j).1 < m)
      → sum_table o m n (λ s i. o.times (placed k place f (b + i) s) (value (b + i) s)) ≡ sum_below o k (λ j. o.times (f j) (value (place j).0 (place j).1))
  placed_sum b n m k place f value rows positions =
      sum_table-ext o r m n (λ s i. o.times (placed k place f (b + i) s) (value (b + i) s)) (λ s i. sum_below o k (λ j. o.times (cond (is_place (b + i) s (place j)) (f j) o.zero) (value (b + i) s)))
      (λ s i p q. sym (sum-times_right o r k (value (b + i) s) (λ j. cond (is_place (b + i) s (place j)) (f j) o.zero)))
      ∙ sum_table-swap o r m n k (λ s i j. o.times (cond (is_place (b + i) s (place j)) (f j) o.zero) (value (b + i) s))
      ∙ sum-ext o r k (λ j. sum_table o m n (λ s i. o.times (cond (is_place (b + i) s (place j)) (f j) o.zero) (value (b + i) s))) (λ j. o.times (f j) (value (place j).0 (place j).1))
      (λ j h. here j (place j) (rows j h).0 (rows j h).1 (positions j h))
    where
      here : (j : ℕ) (p : ℕ × ℕ) → b ≤ p.0 → p.0 < b + n → p.1 < m → sum_table o m n (λ s i. o.times (cond (is_place (b + i) s p) (f j) o.zero) (value (b + i) s)) ≡ o.times (f j) (value p.0 p.1)
      here j p low high position =
          let i = p.0 - b in
          let e : b + i ≡ p.0 = omega arith in
          sum_table-one o r m n p.1 i (λ s i. o.times (cond (is_place (b + i) s p) (f j) o.zero) (value (b + i) s)) position (omega arith)
          (λ t k d. term_elsewhere p (f j) (value (b + k) t) (b + k) t (λ z. d (sym z)))
          (λ k d. term_elsewhere_row p (f j) (value (b + k) p.1) (b + k) p.1 (λ z. d (omega arith)))
          ∙ ap (λ (u : ℕ). o.times (cond (is_place u p.1 p) (f j) o.zero) (value u p.1)) e
          ∙ term_here p (f j) (value p.0 p.1)

  -- The same for many f, one after the other.
  pub placed_sums : (b n m k lines : ℕ) (place : ℕ → ℕ × ℕ) (f : ℕ → ℕ → A) (value : ℕ → ℕ → A)
      → ((j : ℕ) → j < k → (b ≤ (place j).0) × ((place j).0 < b + n)) → ((j : ℕ) → j < k → (place j).1 < m)
      → sum_table o m n (λ s i. o.times (sum_below o lines (λ l. placed k place (f l) (b + i) s)) (value (b + i) s)) ≡ sum_below o lines (λ l. sum_below o k (λ j. o.times (f l j) (value (place j).0 (place j).1)))
  placed_sums b n m k lines place f value rows positions =
      sum_table-ext o r m n (λ s i. o.times (sum_below o lines (λ l. placed k place (f l) (b + i) s)) (value (b + i) s)) (λ s i. sum_below o lines (λ l. o.times (placed k place (f l) (b + i) s) (value (b + i) s)))
      (λ s i p q. sym (sum-times_right o r lines (value (b + i) s) (λ l. placed k place (f l) (b + i) s)))
      ∙ sum_table-swap o r m n lines (λ s i l. o.times (placed k place (f l) (b + i) s) (value (b + i) s))
      ∙ sum-ext o r lines (λ l. sum_table o m n (λ s i. o.times (placed k place (f l) (b + i) s) (value (b + i) s))) (λ l. sum_below o k (λ j. o.times (f l j) (value (place j).0 (place j).1)))
      (λ l h. placed_sum b n m k place (f l) value rows positions)

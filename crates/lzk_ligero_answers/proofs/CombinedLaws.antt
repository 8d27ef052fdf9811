-- The combined coefficients times what stands at their places add up to the wanted sum, where the constraints hold.
use Rattle.std.specs.Prelude.{◌≡◌, ℕ, ◌+◌, ◌*◌, ◌<◌, ◌≤◌, List, [], ◌∷◌}
use Rattle.std.proofs.Common.{refl, ap, ◌∙◌}
use Rattle.lzk_field.specs.Ring.{Ops, RingLaws}
use Rattle.lzk_field.specs.Sums.{sum_below, minus, entry}
use Rattle.lzk_field.proofs.SumLaws.{sum-ext, sum-times}
use Rattle.lzk_field.proofs.SumPlaces.{sum_table, sum_table-ext, sum_table-plus, sum_table-minus}
use Rattle.lzk_field.proofs.Solve.{var, ◌⊞◌, ◌⊟◌, ◌⊠◌, solve}
use Rattle.lzk_circuit.specs.Valid.{Wiring}
use Rattle.lzk_layout.specs.Sizes.{committed_count, params_of, place_of}
use Rattle.lzk_accept.specs.declared.challenges.Challenges.{Challenges}
use Rattle.lzk_layout.specs.Places.{depth, constrained_at, copy_place_of}
use Rattle.lzk_accept.specs.Combination.{from_constraints, from_copies, from_entries, combined, wanted}
use Rattle.lzk_ligero_answers.proofs.PlaceLaws.{placed_sum, placed_sums}

-- the places of the committed entries and of the copies are among n rows of m positions each, from row b on
pub record ArePlaces {A : Type 0} (c : Wiring A) (b n m : ℕ) : Type 0 where
  pub rows : (j : ℕ) → j < committed_count c → (b ≤ (place_of (params_of c) j).0) × ((place_of (params_of c) j).0 < b + n)
  pub positions : (j : ℕ) → j < committed_count c → (place_of (params_of c) j).1 < m
  pub sources : (k : ℕ) → k < 3 * depth c → constrained_at c k < committed_count c
  pub copy_rows : (k : ℕ) → k < 3 * depth c → (b ≤ (copy_place_of (params_of c) k).0) × ((copy_place_of (params_of c) k).0 < b + n)
  pub copy_positions : (k : ℕ) → k < 3 * depth c → (copy_place_of (params_of c) k).1 < m

-- each entry of a list stands at its place, and is copied to the copies' places
pub record StandsAt {A : Type 0} (o : Ops A) (c : Wiring A) (w : List A) (value : ℕ → ℕ → A) : Type 0 where
  pub entries : (j : ℕ) → j < committed_count c → value (place_of (params_of c) j).0 (place_of (params_of c) j).1 ≡ entry o w j
  pub copies : (k : ℕ) → k < 3 * depth c → value (copy_place_of (params_of c) k).0 (copy_place_of (params_of c) k).1 ≡ entry o w (constrained_at c k)

module _ {A : Type 0} (o : Ops A) (r : RingLaws o) (c : Wiring A) (coefficient : ℕ → ℕ → A) (right : ℕ → A) (ch : Challenges A) where
  pub combined_wanted : (b n m : ℕ) (value : ℕ → ℕ → A) (w : List A) → ArePlaces c b n m → StandsAt o c w value
      → ((i : ℕ) → i < depth c + 1 → sum_below o (committed_count c) (λ j. o.times (coefficient i j) (entry o w j)) ≡ right i)
      → sum_table o m n (λ s i. o.times (combined o c coefficient ch (b + i) s) (value (b + i) s)) ≡ wanted o c right ch
  unfolding combined wanted
  combined_wanted b n m value w are stands met =
      let X = var 0 in let Y = var 1 in let Z = var 2 in let V = var 3 in
      let P : ℕ → ℕ × ℕ = place_of (params_of c) in
      let Q : ℕ → ℕ × ℕ = copy_place_of (params_of c) in
      let S : ℕ → ℕ = constrained_at c in
      let mu : ℕ → A = entry o ch.mu in
      let f : ℕ → ℕ → A = λ l j. o.times (entry o ch.lambda l) (coefficient l j) in
      let x : ℕ → ℕ → A = λ s i. from_constraints o c coefficient ch (b + i) s in
      let y : ℕ → ℕ → A = λ s i. from_copies o c coefficient ch (b + i) s in
      let z : ℕ → ℕ → A = λ s i. from_entries o c coefficient ch (b + i) s in
      let v : ℕ → ℕ → A = λ s i. value (b + i) s in
      let xv : ℕ → ℕ → A = λ s i. o.times (x s i) (v s i) in
      let yv : ℕ → ℕ → A = λ s i. o.times (y s i) (v s i) in
      let zv : ℕ → ℕ → A = λ s i. o.times (z s i) (v s i) in
      let left : A = sum_below o (depth c + 1) (λ l. sum_below o (committed_count c) (λ j. o.times (f l j) (value (P j).0 (P j).1))) in
      let copied : A = sum_below o (3 * depth c) (λ k. o.times (mu k) (entry o w (S k))) in
      sum_table-ext o r m n (λ s i. o.times (combined o c coefficient ch (b + i) s) (v s i)) (λ s i. minus o (o.plus (xv s i) (yv s i)) (zv s i))
      (λ s i p q. solve o r (x s i ∷ y s i ∷ z s i ∷ v s i ∷ []) (((X ⊞ Y) ⊟ Z) ⊠ V) ((X ⊠ V ⊞ Y ⊠ V) ⊟ Z ⊠ V) refl)
      ∙ sum_table-minus o r m n (λ s i. o.plus (xv s i) (yv s i)) zv
      ∙ ap (λ u. minus o u (sum_table o m n zv)) (sum_table-plus o r m n xv yv)
      ∙ ap (λ u. minus o (o.plus u (sum_table o m n yv)) (sum_table o m n zv)) (placed_sums o r b n m (committed_count c) (depth c + 1) P f value are.rows are.positions)
      ∙ ap (λ u. minus o (o.plus left u) (sum_table o m n zv))
      (placed_sum o r b n m (3 * depth c) Q mu value are.copy_rows are.copy_positions
      ∙ sum-ext o r (3 * depth c) (λ k. o.times (mu k) (value (Q k).0 (Q k).1)) (λ k. o.times (mu k) (entry o w (S k))) (λ k h. ap (o.times (mu k)) (stands.copies k h)))
      ∙ ap (minus o (o.plus left copied))
      (placed_sum o r b n m (3 * depth c) (λ k. P (S k)) mu value (λ k h. are.rows (S k) (are.sources k h)) (λ k h. are.positions (S k) (are.sources k h))
      ∙ sum-ext o r (3 * depth c) (λ k. o.times (mu k) (value (P (S k)).0 (P (S k)).1)) (λ k. o.times (mu k) (entry o w (S k))) (λ k h. ap (o.times (mu k)) (stands.entries (S k) (are.sources k h))))
      ∙ solve o r (left ∷ copied ∷ []) ((X ⊞ Y) ⊟ Y) X refl
      ∙ sum-ext o r (depth c + 1) (λ l. sum_below o (committed_count c) (λ j. o.times (f l j) (value (P j).0 (P j).1))) (λ l. o.times (entry o ch.lambda l) (right l))
      (λ l h.
      sum-ext o r (committed_count c) (λ j. o.times (f l j) (value (P j).0 (P j).1)) (λ j. o.times (entry o ch.lambda l) (o.times (coefficient l j) (entry o w j)))
      (λ j q. ap (o.times (f l j)) (stands.entries j q) ∙ r.times_assoc (entry o ch.lambda l) (coefficient l j) (entry o w j))
      ∙ sum-times o r (committed_count c) (entry o ch.lambda l) (λ j. o.times (coefficient l j) (entry o w j))
      ∙ ap (o.times (entry o ch.lambda l)) (met l h))

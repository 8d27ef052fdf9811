-- What the answers of rows have to be, and rows that stand for a list that satisfies its constraints.
use Rattle.lzk_profile.specs.Profile.{opened_count}
use Rattle.std.specs.Prelude.{◌≡◌, ℕ, ◌+◌, ◌*◌, ◌<◌, ◌≤◌, List, length, take, drop}
use Rattle.lzk_field.specs.Ring.{Ops}
use Rattle.lzk_field.specs.Sums.{sum_below, entry}
use Rattle.lzk_poly.specs.Extension.{extension}
use Rattle.lzk_circuit.specs.Valid.{Wiring}
use Rattle.lzk_layout.specs.declared.params.Params.{Params}
use Rattle.lzk_layout.specs.declared.proof.Proof.{Proof}
use Rattle.lzk_layout.specs.Sizes.{committed_count, params_of, place_of}
use Rattle.lzk_layout.specs.Places.{depth, factors_at, constrained_at, copy_place_of}
use Rattle.lzk_accept.specs.Checks.{at_row, point_of}
use Rattle.lzk_ligero_answers.specs.Rows.{row}

-- a proof's opened columns have the values of the rows' polynomials there
pub record AreOpened {A : Type 0} (o : Ops A) (point : ℕ → A) (p : Params) (rows : List (List A)) (proof : Proof A)
    (columns : List ℕ) : Type 0 where
  pub values : (k i : ℕ) → k < length columns → i < p.nrow
      → at_row o p proof k i ≡ extension o point (row rows i) (point_of o p proof point columns k)

-- the proof has these two parts of a quadratic answer
pub record IsSent {A : Type 0} (p : Params) (answer : List A) (proof : Proof A) : Type 0 where
  pub head : proof.quad_head ≡ take opened_count answer
  pub tail : proof.quad_tail ≡ drop p.block answer

-- A list at which linear constraints hold, and which has in each layer the product of the two factors' pads.
pub record Satisfies {A : Type 0} (o : Ops A) (c : Wiring A) (coefficient : ℕ → ℕ → A) (right : ℕ → A)
    (w : List A) : Type 0 where
  pub linear : (i : ℕ) → i < depth c + 1
      → sum_below o (committed_count c) (λ j. o.times (coefficient i j) (entry o w j)) ≡ right i
  pub products : (l : ℕ) → l < depth c
      → o.times (entry o w (factors_at c l)) (entry o w (factors_at c l + 1)) ≡ entry o w (factors_at c l + 2)

-- the element of a row at position s
abbrev pub element : {A : Type 0} → Ops A → List (List A) → ℕ → ℕ → A
element o rows i s = entry o (row rows i) (opened_count + s)

-- The rows have each entry of the list at its place, and the copies at theirs, zeros in the triples behind the last
-- layer's, elements with the sum zero in row 1, and zeros in row 2.
pub record Stands {A : Type 0} (o : Ops A) (c : Wiring A) (w : List A) (rows : List (List A)) : Type 0 where
  pub entries : (j : ℕ) → j < committed_count c
      → (let place = place_of (params_of c) j in element o rows place.0 place.1 ≡ entry o w j)
  pub copies : (m : ℕ) → m < 3 * depth c
      → (let place = copy_place_of (params_of c) m in element o rows place.0 place.1 ≡ entry o w (constrained_at c m))
  pub behind : (t s which : ℕ) → s < (params_of c).wr → which < 3 → t < (params_of c).ntriple
      → depth c ≤ t * (params_of c).wr + s
      → element o rows (3 + (params_of c).nwrow + 3 * t + which) s ≡ o.zero
  pub second : sum_below o (params_of c).wr (element o rows 1) ≡ o.zero
  pub third : (s : ℕ) → s < (params_of c).wr → element o rows 2 s ≡ o.zero

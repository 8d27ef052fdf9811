-- The constraints combined: a coefficient for each place of the rows, and the sum that is wanted.
use Rattle.lzk_profile.specs.Profile.{opened_count}
use Rattle.std.specs.Prelude.{ℕ, ◌+◌, ◌*◌, ◌==◌, ◌&&◌, Bool, cond, List, ◌++◌, map, replicate}
use Rattle.std.specs.List.{range_with_len}
use Rattle.lzk_field.specs.Ring.{Ops}
use Rattle.lzk_field.specs.Sums.{sum_below, minus, entry}
use Rattle.lzk_circuit.specs.Valid.{Wiring}
use Rattle.lzk_layout.specs.Sizes.{committed_count, params_of, place_of}
use Rattle.lzk_accept.specs.declared.challenges.Challenges.{Challenges}
use Rattle.lzk_layout.specs.Places.{depth, constrained_at, copy_place_of}

-- the sum of f over those below n that pass the test
abbrev pub sum_where : {A : Type 0} → Ops A → ℕ → (ℕ → Bool) → (ℕ → A) → A
sum_where o n test f = sum_below o n (λ k. cond (test k) (f k) o.zero)

-- it is the place at this row and position
abbrev pub is_place : ℕ → ℕ → ℕ × ℕ → Bool
is_place row s place = (place.0 == row) && (place.1 == s)

-- for any linear constraints, given by their coefficients
module _ {A : Type 0} (o : Ops A) (c : Wiring A) (coefficient : ℕ → ℕ → A) (ch : Challenges A) where
  -- the sum of lambda i times the coefficient of constraint i at j, over all i, and all j that stand at the place
  abbrev pub from_constraints : ℕ → ℕ → A
  from_constraints row s =
      sum_below o (depth c + 1) (λ i.
      sum_where o (committed_count c) (λ j. is_place row s (place_of (params_of c) j))
      (λ j. o.times (entry o ch.lambda i) (coefficient i j)))

  -- the sum of the challenges whose copy stands at the place
  abbrev pub from_copies : ℕ → ℕ → A
  from_copies row s = sum_where o (3 * depth c) (λ m. is_place row s (copy_place_of (params_of c) m)) (entry o ch.mu)

  -- the sum of the challenges whose committed entry stands at the place
  abbrev pub from_entries : ℕ → ℕ → A
  from_entries row s =
      sum_where o (3 * depth c) (λ m. is_place row s (place_of (params_of c) (constrained_at c m))) (entry o ch.mu)

  -- the combined coefficient at a row and a position
  unfoldable pub combined : ℕ → ℕ → A
  combined row s = minus o (o.plus (from_constraints row s) (from_copies row s)) (from_entries row s)

  -- the values of a row of coefficients: as many zeros as columns are opened, and the combined coefficients
  unfoldable pub combined_row : ℕ → List A
  combined_row row = replicate opened_count o.zero ++ map (combined row) (range_with_len 0 (params_of c).wr)

-- the sum of lambda i times the right side of constraint i, for any right sides
unfoldable pub wanted : {A : Type 0} → Ops A → Wiring A → (ℕ → A) → Challenges A → A
wanted o c right ch = sum_below o (depth c + 1) (λ i. o.times (entry o ch.lambda i) (right i))

-- The list that stands in rows, by what it violates constraints, and which draws hide that.
use Rattle.std.specs.Prelude.{ℕ, ◌+◌, ◌*◌, ◌<◌, List, map}
use Rattle.std.specs.List.{range_with_len}
use Rattle.lzk_field.specs.Ring.{Ops}
use Rattle.lzk_field.specs.Sums.{sum_below, minus, entry}
use Rattle.lzk_circuit.specs.Valid.{Wiring}
use Rattle.lzk_layout.specs.declared.proof.Proof.{Proof}
use Rattle.lzk_layout.specs.Sizes.{committed_count, params_of, place_of}
use Rattle.lzk_layout.specs.Places.{depth, constrained_at, copy_place_of}
use Rattle.lzk_accept.specs.declared.challenges.Challenges.{Challenges}
use Rattle.lzk_accept.specs.Checks.{quadratic_values}
use Rattle.lzk_accept.specs.Combination.{combined_row}
use Rattle.lzk_ligero_answers.specs.Opened.{element}
use Rattle.lzk_ligero_answers.specs.Laws.{linear_of, quadratic_of}
use Rattle.lzk_soundness.specs.Rows.Weights.{combination, AreGoodWeights, AreBadColumns}

module _ {A : Type 0} (o : Ops A) (c : Wiring A) (rows : List (List A)) where
  -- the element at the place of entry j of the committed list
  abbrev pub placed : ℕ → A
  placed j = element o rows (place_of (params_of c) j).0 (place_of (params_of c) j).1

  -- the list that stands in the rows
  abbrev pub held : List A
  held = map placed (range_with_len 0 (committed_count c))

  -- the sum of row 1's elements
  abbrev pub second_sum : A
  second_sum = sum_below o (params_of c).wr (element o rows 1)

  -- by how much copy m is not the entry that it copies
  abbrev pub copy_gap : ℕ → A
  copy_gap m = minus o (element o rows (copy_place_of (params_of c) m).0 (copy_place_of (params_of c) m).1)
      (placed (constrained_at c m))

  -- the element of triple t at position s, in its first, second or third row
  abbrev pub in_triple : ℕ → ℕ → ℕ → A
  in_triple t s which = element o rows (3 + (params_of c).nwrow + 3 * t + which) s

  -- by how much the third is not the product of the first two
  abbrev pub product_gap : ℕ → ℕ → A
  product_gap s t = minus o (o.times (in_triple t s 0) (in_triple t s 1)) (in_triple t s 2)

  module _ (coefficient : ℕ → ℕ → A) (right : ℕ → A) (ch : Challenges A) where
    -- by how much linear constraint i is not met
    abbrev pub linear_gap : ℕ → A
    linear_gap i = minus o (sum_below o (committed_count c) (λ j. o.times (coefficient i j) (placed j))) (right i)

    -- what the linear constraints add up to
    abbrev pub linear_rest : A
    linear_rest = combination o second_sum linear_gap (entry o ch.lambda) (depth c + 1)

    -- Neither a lambda nor a mu is bad, nor a v for any position of the triples, and the opened columns show both
    -- answers where they are not those of the rows.
    pub record NoneBad (point : ℕ → A) (proof : Proof A) (columns : List ℕ) : Type 0 where
      pub lambdas : AreGoodWeights o second_sum linear_gap (entry o ch.lambda) (depth c + 1)
      pub mus : AreGoodWeights o linear_rest copy_gap (entry o ch.mu) (3 * depth c)
      pub vs : (s : ℕ) → s < (params_of c).wr
          → AreGoodWeights o (element o rows 2 s) (product_gap s) (entry o ch.v) (params_of c).ntriple
      pub linear : AreBadColumns o point (params_of c).dblock proof.dot
          (linear_of o point (params_of c) rows (combined_row o c coefficient ch)) columns
          → ⊥
      pub quadratic : AreBadColumns o point (params_of c).dblock (quadratic_values o (params_of c) proof)
          (quadratic_of o point (params_of c) rows ch.v) columns
          → ⊥

-- What is seen without any private inputs: a simulator, which knows the public inputs and the challenges alone.
use Rattle.lzk_profile.specs.Profile.{opened_count}
use Rattle.std.specs.Prelude.{ℕ, ◌+◌, ◌-◌, ◌*◌, cond, nat_lt, List, ◌++◌, map, replicate, slice_index}
use Rattle.std.specs.List.{range_with_len, flat_map}
use Rattle.std.proofs.Common.{zero, suc}
use Rattle.lzk_field.specs.Coding.{Coding}
use Rattle.lzk_field.specs.Ring.{Ops}
use Rattle.lzk_field.specs.Sums.{sum_below, minus, entry}
use Rattle.lzk_poly.specs.Extension.{extension}
use Rattle.lzk_circuit.specs.Valid.{Wiring}
use Rattle.lzk_layout.specs.declared.params.Params.{Params}
use Rattle.lzk_layout.specs.declared.proof.Proof.{Proof}
use Rattle.lzk_layout.specs.Proofs.{zero_proof}
use Rattle.lzk_layout.specs.Sizes.{params_of}
use Rattle.lzk_sumcheck.specs.declared.script.Script.{Script}
use Rattle.lzk_accept.specs.declared.challenges.Challenges.{Challenges}
use Rattle.lzk_accept.specs.Checks.{combined_row_of, wanted_of}

-- where the free elements of each part begin: behind the sent elements those of the low degree answer, the linear
-- answer, the two parts of the quadratic answer, and the opened columns
abbrev pub ldt_free : Params → ℕ
ldt_free p = p.nsum

-- those of the linear answer
abbrev pub dot_free : Params → ℕ
dot_free p = ldt_free p + p.block

-- those of the first part of the quadratic answer
abbrev pub head_free : Params → ℕ
head_free p = dot_free p + (p.dblock - 1)

-- those of its last part
abbrev pub tail_free : Params → ℕ
tail_free p = head_free p + opened_count

-- those of the opened columns, from row 3 on
abbrev pub rows_free : Params → ℕ
rows_free p = tail_free p + (p.dblock - p.block)

-- how many elements a simulator chooses
abbrev pub free_count : Params → ℕ
free_count p = rows_free p + opened_count * (p.nrow - 3)

module _ {A : Type 0} (o : Ops A) (e : Coding A) (c : Wiring A) (public : List A) (s : Script A) (ch : Challenges A)
    (columns : List ℕ) where
  -- the parameters of the circuit
  abbrev p : Params
  p = params_of c

  -- the number of the k-th opened column's point
  abbrev pub point_at : ℕ → ℕ
  point_at k = p.dblock + slice_index columns k

  -- what the first three rows have at the k-th opened column, for answers and for what the rows behind them have
  -- there
  abbrev pub first_cell : List A → (ℕ → ℕ → A) → ℕ → A
  first_cell ldt behind k = minus o (extension o e.element ldt (point_at k)) (sum_below o (p.nrow - 3)
      (λ i. o.times (entry o ch.u i) (behind k (3 + i))))

  -- and row 1
  abbrev pub second_cell : List A → List A → (ℕ → ℕ → A) → ℕ → A
  second_cell messages dot behind k =
      minus o (extension o e.element dot (point_at k))
      (sum_below o (p.nrow - 3)
      (λ i. o.times (extension o e.element (combined_row_of o e.element c public s messages ch (3 + i)) (point_at k))
      (behind k (3 + i))))

  -- and row 2
  abbrev pub third_cell : List A → (ℕ → ℕ → A) → ℕ → A
  third_cell quads behind k =
      minus o (extension o e.element quads (point_at k))
      (sum_below o p.ntriple (λ t. let first = 3 + p.nwrow + 3 * t in o.times (entry o ch.v t)
      (minus o (o.times (behind k first) (behind k (first + 1))) (behind k (first + 2)))))

  -- by these free elements
  module _ (free : ℕ → A) where
    -- the sent elements: all free
    abbrev pub free_messages : List A
    free_messages = map free (range_with_len 0 p.nsum)

    -- the low degree answer: all free
    abbrev pub free_ldt : List A
    free_ldt = map (λ x. free (ldt_free p + x)) (range_with_len 0 p.block)

    -- the one value of the linear answer that is not free: it makes the sum that is wanted
    abbrev pub last_dot : A
    last_dot = minus o (wanted_of o e.element c public s free_messages ch)
        (sum_below o (p.wr - 1) (λ k. free (dot_free p + (opened_count + k))))

    -- the values of the linear answer: the last that its sum counts is the one that is not free
    abbrev pub dot_at : ℕ → A
    dot_at x = cond (nat_lt x (p.block - 1)) (free (dot_free p + x))
        (cond (nat_lt x p.block) last_dot (free (dot_free p + (x - 1))))

    -- the linear answer
    abbrev pub free_dot : List A
    free_dot = map dot_at (range_with_len 0 p.dblock)

    -- the first values of the quadratic answer: all free
    abbrev pub free_head : List A
    free_head = map (λ x. free (head_free p + x)) (range_with_len 0 opened_count)

    -- the last values of the quadratic answer: all free
    abbrev pub free_tail : List A
    free_tail = map (λ x. free (tail_free p + x)) (range_with_len 0 (p.dblock - p.block))

    -- the whole quadratic answer, with zeros where the elements stand
    abbrev pub free_quads : List A
    free_quads = free_head ++ replicate (p.block - opened_count) o.zero ++ free_tail

    -- what row r has at the k-th opened column
    abbrev pub free_behind : ℕ → ℕ → A
    free_behind k r = free (rows_free p + opened_count * (r - 3) + k)

    -- what row r has at the k-th opened column, for each row
    abbrev pub cell : ℕ → ℕ → A
    cell k zero = first_cell free_ldt free_behind k
    cell k (suc zero) = second_cell free_messages free_dot free_behind k
    cell k (suc (suc zero)) = third_cell free_quads free_behind k
    cell k (suc (suc (suc i))) = free_behind k (suc (suc (suc i)))

    -- the opened columns, one after the other
    abbrev pub free_columns : List A
    free_columns = flat_map (λ k. map (cell k) (range_with_len 0 p.nrow)) (range_with_len 0 opened_count)

    -- what is seen; the other parts of the proof are zeros
    unfoldable pub simulated : Proof A
    simulated = record (zero_proof o p) {
      messages = free_messages;
      ldt = free_ldt;
      dot = free_dot;
      quad_head = free_head;
      quad_tail = free_tail;
      columns = free_columns;
    }

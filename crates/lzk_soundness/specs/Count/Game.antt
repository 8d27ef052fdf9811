-- A whole proof as a game: what is fixed before the draws, what is sent behind which of them, and when it passes.
use Rattle.lzk_profile.specs.Profile.{opened_count}
use Rattle.std.specs.Prelude.{ℕ, ◌+◌, ◌-◌, List, map, flat_map, take, drop}
use Rattle.std.specs.List.{range_with_len}
use Rattle.lzk_field.specs.Coding.{Coding}
use Rattle.lzk_field.specs.Ring.{Ops}
use Rattle.lzk_soundness.specs.Chance.Sets.{sets_of}
use Rattle.lzk_circuit.specs.Valid.{Wiring}
use Rattle.lzk_layout.specs.declared.proof.Proof.{Proof}
use Rattle.lzk_layout.specs.Proofs.{zero_proof}
use Rattle.lzk_layout.specs.Sizes.{params_of}
use Rattle.lzk_layout.specs.Places.{depth}
use Rattle.lzk_accept.specs.declared.challenges.Challenges.{Challenges}
use Rattle.lzk_soundness.specs.Sumchecks.Passing.{Passes}
use Rattle.lzk_soundness.specs.Draws.Schedule.{draw_count, script_of}
use Rattle.lzk_soundness.specs.Whole.Whole.{weight_count}

-- What a prover does. The table of columns stands before all draws. The elements of the sumchecks are sent by their
-- draws, each by those before it. The three answers are sent by all draws and weights, before the columns are drawn.
pub record Strategy (A : Type 0) : Type 0 where
  pub table : ℕ → ℕ → A
  pub messages : List A → List A
  pub ldt : List A → List A
  pub dot : List A → List A
  pub quad_head : List A → List A
  pub quad_tail : List A → List A

module _ {A : Type 0} (c : Wiring A) where
  -- how many weights u there are, one for each row from row 3 on
  abbrev pub row_count : ℕ
  row_count = (params_of c).nrow - 3

  -- how many draws come before the columns: those of the sumchecks, lambda and mu, u, and v
  abbrev pub whole_count : ℕ
  whole_count = draw_count c + weight_count c + (row_count + (params_of c).ntriple)

  -- those of the sumchecks, among all
  abbrev pub script_draws : List A → List A
  script_draws draws = take (draw_count c) draws

  -- the weights, among all: lambda and mu come first here, and then u and v; all of them are drawn at once
  abbrev pub weights_in : List A → Challenges A
  weights_in draws =
      let linear = take (weight_count c) (drop (draw_count c) draws) in
      let others = drop (draw_count c + weight_count c) draws in
      record {
        u = take row_count others;
        lambda = take (depth c + 1) linear;
        mu = drop (depth c + 1) linear;
        v = drop row_count others;
      }

-- all sets of 128 columns
abbrev pub column_sets : {A : Type 0} → Wiring A → List (List ℕ)
column_sets c = sets_of opened_count (range_with_len 0 (params_of c).mcol)

module _ {A : Type 0} (o : Ops A) (c : Wiring A) (strategy : Strategy A) where
  -- what the table has at a column
  abbrev pub column_of : ℕ → List A
  column_of j = map (λ i. strategy.table i j) (range_with_len 0 (params_of c).nrow)

  -- the proof that is shown for these draws and columns; its other parts, which no check here reads, are zeros
  abbrev pub shown : List A → List ℕ → Proof A
  shown draws columns = record (zero_proof o (params_of c)) {
    messages = strategy.messages (script_draws c draws);
    ldt = strategy.ldt draws;
    dot = strategy.dot draws;
    quad_head = strategy.quad_head draws;
    quad_tail = strategy.quad_tail draws;
    columns = flat_map column_of columns;
  }

-- what is shown passes the last four checks, by these draws and columns
abbrev pub IsPassed : {A : Type 0} → Ops A → Coding A → Wiring A → List A → Strategy A → List A → List ℕ → Type 0
IsPassed o e c public strategy draws columns =
    Passes o e c public (script_of o c (script_draws c draws)) (weights_in c draws) columns
    (shown o c strategy draws columns)

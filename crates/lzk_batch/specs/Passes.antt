-- Tickets and passes, as those see them who draw.
use Rattle.std.specs.Prelude.{◌≡◌, ℕ, ◌+◌, ◌<◌, List, [], ◌∷◌, ◌++◌, All, sum_by, flat_map}
use Rattle.atomic_table.specs.Seated.{TableId}
use Rattle.lzk_batch.specs.declared.rule.View.{View}
use Rattle.lzk_batch.specs.Tickets.{most_workers}

-- tickets: the table that has their word, and for how many jobs they were dealt
pub record TicketsState : Type 0 where
  pub table : TableId
  pub jobs : ℕ

-- a pass: the table of its tickets, the numbers that it has drawn, and how many more than one of them may be past all
-- jobs
pub record PassState : Type 0 where
  pub table : TableId
  pub drawn : List ℕ
  pub spare : ℕ

abbrev pub tickets_of : TableId → ℕ → TicketsState
tickets_of table jobs = record { table = table; jobs = jobs }

abbrev pub pass_of : TableId → View → PassState
pass_of table v = record { table = table; drawn = v.drawn; spare = v.spare }

-- a pass that has drawn nothing
abbrev pub fresh : TableId → ℕ → PassState
fresh table spare = record { table = table; drawn = []; spare = spare }

-- the pass is of these tickets
abbrev pub IsOf : TicketsState → PassState → Type 0
IsOf tickets pass = pass.table ≡ tickets.table

abbrev pub HasDrawnNothing : PassState → Type 0
HasDrawnNothing pass = pass.drawn ≡ []

-- no draw of the pass has answered None
abbrev pub IsOpen : TicketsState → PassState → Type 0
IsOpen tickets pass = All (λ n. n < tickets.jobs) pass.drawn

-- how many numbers past all jobs the passes may draw together
abbrev pub shares_of : List PassState → ℕ
shares_of passes = sum_by (λ p. 1 + p.spare) passes

-- The passes are all that were dealt with these tickets: what may be drawn past all jobs is theirs.
pub record AreAll (tickets : TicketsState) (passes : List PassState) : Type 0 where
  pub of : All (IsOf tickets) passes
  pub shares : shares_of passes ≡ most_workers

-- the numbers that the passes have drawn, in their order
abbrev pub drawn_of : List PassState → List ℕ
drawn_of passes = flat_map (λ p. p.drawn) passes

-- the pass with one more number
abbrev pub with_number : PassState → ℕ → PassState
with_number pass n = record pass { drawn = pass.drawn ++ n ∷ [] }

-- a pass that has taken in another
abbrev pub joined : PassState → PassState → PassState
joined pass other = record pass { drawn = pass.drawn ++ other.drawn; spare = pass.spare + other.spare + 1 }

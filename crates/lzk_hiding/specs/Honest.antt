-- An honest prover as one of the strategies that soundness counts.
use Rattle.std.specs.Prelude.{◌≡◌, ℕ, Bool, true, List, length}
use Rattle.lzk_field.specs.Coding.{Coding}
use Rattle.lzk_field.specs.Ring.{Ops}
use Rattle.lzk_circuit.specs.Valid.{Wiring, IsValid}
use Rattle.lzk_circuit.specs.Wires.{inputs_of}
use Rattle.lzk_circuit.specs.Checks.{IsSatisfied}
use Rattle.lzk_ligero_tableau.specs.Tableau.{column}
use Rattle.lzk_ligero_proof.specs.Proving.{HaveCounts}
use Rattle.lzk_soundness.specs.Chance.Few.{IsIn}
use Rattle.lzk_soundness.specs.Draws.Game.{IsProver}
use Rattle.lzk_soundness.specs.Draws.Schedule.{script_of}
use Rattle.lzk_soundness.specs.Extract.Extraction.{extracted}
use Rattle.lzk_soundness.specs.Count.Game.{Strategy, column_sets, whole_count, script_draws, weights_in, column_of, shown, IsPassed}
use Rattle.lzk_soundness.specs.Count.Laws.{IsPlayer}
use Rattle.lzk_hiding.specs.Seen.{IsSeen}

-- A test that says yes to all draws and all sets of columns, and only where what a prover shows passes.
pub record PassesAlways {A : Type 0} (o : Ops A) (e : Coding A) (c : Wiring A) (public : List A)
    (strategy : Strategy A) : Type 0 where
  pub wins : List A → List ℕ → Bool
  pub player : IsPlayer o e c public strategy wins
  pub always : (draws : List A) (columns : List ℕ) → IsIn columns (column_sets c) → wins draws columns ≡ true

-- The strategy of a prover with these private inputs and random words: its table is the tableau, from which they are
-- extracted; whatever is drawn, it sends and opens what such a prover does; and it passes by all draws and all sets of
-- columns.
pub record IsHonest {A : Type 0} (o : Ops A) (e : Coding A) (c : Wiring A) (public private : List A) (word : ℕ → ℕ)
    (strategy : Strategy A) : Type 0 where
  pub table : (j : ℕ) → column_of o c strategy j ≡ column o e c private word j
  pub encoded : extracted o e c strategy.table ≡ private
  pub prover : IsProver o c strategy.messages
  pub seen : (draws : List A) (columns : List ℕ)
      → IsSeen o e c public (script_of o c (script_draws c draws)) (weights_in c draws) columns private word
      (shown o c strategy draws columns)
  pub passes : (draws : List A) (columns : List ℕ) → length draws ≡ whole_count c → IsIn columns (column_sets c)
      → IsPassed o e c public strategy draws columns
  pub often : PassesAlways o e c public strategy

-- For every valid circuit, satisfying inputs and random words there is one.
abbrev pub HonestPass : {A : Type 0} → Ops A → Coding A → Type 0
HonestPass {A} o e =
    (c : Wiring A) (public private : List A) (word : ℕ → ℕ) → IsValid o c → HaveCounts c public private
    → IsSatisfied o e.number c.layers (inputs_of o public private)
    → (strategy : Strategy A) × IsHonest o e c public private word strategy

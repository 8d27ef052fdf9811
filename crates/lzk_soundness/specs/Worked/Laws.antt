-- What passes by draws of zeros, so that what is counted of all provers is not nothing.
use Rattle.std.specs.Prelude.{◌≡◌, ℕ, ◌<◌, ◌≤◌, Bool, List, [], ◌∷◌, length}
use Rattle.lzk_field.specs.Coding.{Coding}
use Rattle.lzk_field.specs.Ring.{Ops}
use Rattle.lzk_soundness.specs.Chance.Draws.{draws_from}
use Rattle.lzk_soundness.specs.Chance.Sets.{count_pairs}
use Rattle.lzk_circuit.specs.Valid.{Wiring, IsValid}
use Rattle.lzk_circuit.specs.Wires.{inputs_of}
use Rattle.lzk_circuit.specs.Checks.{IsSatisfied}
use Rattle.lzk_layout.specs.Sizes.{params_of}
use Rattle.lzk_soundness.specs.Tables.Table.{IsNear}
use Rattle.lzk_soundness.specs.Extract.Extraction.{all_elements, extracted}
use Rattle.lzk_soundness.specs.Count.Game.{Strategy, column_sets, whole_count, IsPassed}
use Rattle.lzk_soundness.specs.Count.Laws.{IsBluff, IsCheat, IsFalse}
use Rattle.lzk_soundness.specs.Worked.Zeros.{zeros_sent, zero_draws, half_table, HasZeroMasks, sees_zeros}

-- to how many pairs of a list of draws and a set of columns a test says yes, as `FalseIsRare` counts
abbrev pub yes_count : {A : Type 0} → Coding A → Wiring A → (List A → List ℕ → Bool) → ℕ
yes_count e c wins = count_pairs wins (draws_from (all_elements e) (whole_count c)) (column_sets c)

-- In a valid circuit, whoever satisfies it or nobody, zeros that are sent pass by draws of zeros, whatever columns are
-- opened, for every table whose rows 0 to 2 are zeros, as one of zeros alone.
abbrev pub ZerosPass : {A : Type 0} → Ops A → Coding A → Type 0
ZerosPass {A} o e =
    (c : Wiring A) (public : List A) (table : ℕ → ℕ → A) (columns : List ℕ) → IsValid o c → HasZeroMasks o table
    → IsPassed o e c public (zeros_sent o c table) (zero_draws o c) columns

-- One such table is not near codewords, not even outside as many columns as a row has values.
abbrev pub FarTablePasses : {A : Type 0} → Ops A → Coding A → Type 0
FarTablePasses {A} o e =
    (c : Wiring A) (public : List A) (columns : List ℕ) → IsValid o c
    → (IsNear o e.element (params_of c) (half_table o c) (params_of c).block → ⊥)
    × IsPassed o e c public (zeros_sent o c (half_table o c)) (zero_draws o c) columns

-- Where nobody satisfies a valid circuit, a prover with zeros in rows 0 to 2 and the test of zeros are among those that
-- `FalseIsRare` speaks of. It counts a pair for each set of columns at least, and there is such a set.
abbrev pub CheatsPass : {A : Type 0} → Ops A → Coding A → Type 0
CheatsPass {A} o e =
    (c : Wiring A) (public : List A) (table : ℕ → ℕ → A) → IsValid o c → length public ≡ c.publics
    → IsFalse o e c public → HasZeroMasks o table
    → IsCheat o e c public (zeros_sent o c table) (sees_zeros e)
    × ((0 < length (column_sets c)) × (length (column_sets c) ≤ yes_count e c (sees_zeros e)))

-- A worked instance: a circuit with public inputs that nobody satisfies, a prover of it whose table is not near
-- codewords, and a test. Some pair is counted.
pub record SomeCheat {A : Type 0} (o : Ops A) (e : Coding A) : Type 0 where
  pub circuit : Wiring A
  pub public : List A
  pub strategy : Strategy A
  pub wins : List A → List ℕ → Bool
  pub cheat : IsCheat o e circuit public strategy wins
  pub far : IsNear o e.element (params_of circuit) strategy.table (params_of circuit).block → ⊥
  pub counted : 0 < yes_count e circuit wins

-- A worked instance of a true statement, of a circuit of this version: private inputs satisfy it, and a prover's table
-- encodes others that do not. Of him `FalseIsRare` says nothing, and `BluffsAreRare` does. Some pair is counted.
pub record SomeBluff {A : Type 0} (o : Ops A) (e : Coding A) (number : ℕ) : Type 0 where
  pub circuit : Wiring A
  pub version : circuit.version ≡ number
  pub public : List A
  pub private : List A
  pub strategy : Strategy A
  pub wins : List A → List ℕ → Bool
  pub bluff : IsBluff o e circuit public strategy wins
  pub privates : length private ≡ circuit.privates
  pub satisfied : IsSatisfied o e.number circuit.layers (inputs_of o public private)
  pub encoded : extracted o e circuit strategy.table ≡ o.one ∷ []
  pub counted : 0 < yes_count e circuit wins

-- What is read from a table: one list, that of whoever filled it honestly.
use Rattle.std.specs.Prelude.{◌≡◌, ℕ, ◌+◌, ◌<◌, ◌≤◌, List, length, take, replicate}
use Rattle.lzk_field.specs.Coding.{Coding}
use Rattle.lzk_field.specs.Ring.{Ops}
use Rattle.lzk_field.specs.Sums.{entry}
use Rattle.lzk_circuit.specs.Valid.{Wiring, IsValid}
use Rattle.lzk_layout.specs.declared.params.Params.{Params}
use Rattle.lzk_layout.specs.Sizes.{AreBounded, params_of}
use Rattle.lzk_ligero_answers.specs.Rows.{row}
use Rattle.lzk_soundness.specs.Rows.Held.{held}
use Rattle.lzk_ligero_tableau.specs.Tableau.{column}
use Rattle.lzk_soundness.specs.Extract.Extraction.{distance, decoded, extracted}

-- A row's values that a word is near are those that are decoded, in whatever way they were found.
abbrev pub DecodingIsUnique : {A : Type 0} → Ops A → Coding A → Type 0
DecodingIsUnique {A} o e =
    (p : Params) (word : ℕ → A) (values : List A) → AreBounded p → length values ≡ p.block
    → distance o e p word values ≤ p.block → decoded o e p word ≡ values

-- A word that is near no row is decoded to zeros.
abbrev pub NothingIsZeros : {A : Type 0} → Ops A → Coding A → Type 0
NothingIsZeros {A} o e =
    (p : Params) (word : ℕ → A)
    → ((values : List A) → length values ≡ p.block → distance o e p word values ≤ p.block → ⊥)
    → decoded o e p word ≡ replicate p.block o.zero

-- As many are extracted as the circuit has private inputs.
abbrev pub ExtractedCount : {A : Type 0} → Ops A → Coding A → Type 0
ExtractedCount {A} o e = (c : Wiring A) (table : ℕ → ℕ → A) → length (extracted o e c table) ≡ c.privates

-- Each row of a table's committed list has, at all columns but block at most, what these rows have there.
pub record AreNearRows {A : Type 0} (o : Ops A) (e : Coding A) (p : Params) (rows : List (List A))
    (table : ℕ → ℕ → A) : Type 0 where
  pub long : (i : ℕ) → i < p.nwrow → length (row rows (3 + i)) ≡ p.block
  pub near : (i : ℕ) → i < p.nwrow → distance o e p (table (3 + i)) (row rows (3 + i)) ≤ p.block

-- From such a table the private inputs are extracted that stand in the rows, whatever its other columns and rows are.
abbrev pub RowsAreExtracted : {A : Type 0} → Ops A → Coding A → Type 0
RowsAreExtracted {A} o e =
    (c : Wiring A) (rows : List (List A)) (table : ℕ → ℕ → A) → IsValid o c
    → AreNearRows o e (params_of c) rows table
    → extracted o e c table ≡ take c.privates (held o c rows)

-- From the table that a prover commits to his private inputs are extracted, whatever his random words are.
abbrev pub HonestAreExtracted : {A : Type 0} → Ops A → Coding A → Type 0
HonestAreExtracted {A} o e =
    (c : Wiring A) (private : List A) (word : ℕ → ℕ) → IsValid o c → length private ≡ c.privates
    → extracted o e c (λ i j. entry o (column o e c private word j) i) ≡ private

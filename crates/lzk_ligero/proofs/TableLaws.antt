-- The rows that are committed to, as the answers have them.
use Rattle.std.specs.Prelude.{◌≡◌, ℕ, ◌-◌, List, length}
use Rattle.std.proofs.Common.{arith}
use Rattle.std.proofs.lemmas.List.FromFn.{length-map-range_with_len}
use Rattle.lzk_field.specs.Coding.{Coding}
use Rattle.lzk_field.specs.Ring.{Ops}
use Rattle.lzk_circuit.specs.Valid.{Wiring}
use Rattle.lzk_layout.specs.Sizes.{params_of}
use Rattle.lzk_ligero_answers.specs.Rows.{IsTableOf}
use Rattle.lzk_ligero_tableau.specs.Table.{IsTable}
use Rattle.lzk_ligero_tableau.specs.Tableau.{tableau, row_at}

-- a table of rows is one
pub table_of : {A : Type 0} (o : Ops A) (point : ℕ → A) (width : ℕ) (rows : List (List A)) (table : List A) → IsTable o point width rows table → IsTableOf o point width rows table
table_of o point width rows table h = record { values = h.values }

-- there are as many rows as the parameters say
pub count_rows : {A : Type 0} (o : Ops A) (e : Coding A) (c : Wiring A) (private : List A) (word : ℕ → ℕ) → length (tableau o e c private word) ≡ (params_of c).nrow
unfolding tableau
count_rows o e c private word =
    let size = length-map-range_with_len (row_at o e c private word) 3 ((params_of c).nrow - 3) in omega (arith, size)

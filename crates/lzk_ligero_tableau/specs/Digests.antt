-- The digests of a table's columns.
use Rattle.std.specs.Prelude.{ℕ, List}
use Rattle.lzk_field.specs.Ring.{Ops}
use Rattle.lzk_layout.specs.declared.params.Params.{Params}
use Rattle.lzk_merkle.specs.Leaf.{leaf_of}
use Rattle.lzk_ligero_tableau.specs.Filled.{nonce_at, column_in}

-- the digest of column j, for random words and the rows' table
abbrev pub digest_at : {A : Type 0} → Ops A → ℕ → (A → ℕ) → (ℕ → ℕ) → Params → List A → ℕ → List ℕ
digest_at o width number word p rows j = leaf_of width number (nonce_at word p j) (column_in o p rows j)

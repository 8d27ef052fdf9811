-- Tables of which columns are opened, whose rows need not be codewords.
use Rattle.std.specs.Prelude.{◌≡◌, ℕ, ◌+◌, ◌-◌, ◌<◌, List, length, slice_index}
use Rattle.lzk_field.specs.Ring.{Ops}
use Rattle.lzk_field.specs.Sums.{entry}
use Rattle.lzk_poly.specs.Extension.{extension}
use Rattle.lzk_layout.specs.declared.params.Params.{Params}
use Rattle.lzk_layout.specs.declared.proof.Proof.{Proof}
use Rattle.lzk_accept.specs.Checks.{at_row}
use Rattle.lzk_soundness.specs.Near.Near.{AreClose}
use Rattle.lzk_soundness.specs.Near.Mixes.{headed, mixed, IsBadMix}

module _ {A : Type 0} (o : Ops A) (point : ℕ → A) (p : Params) (table : ℕ → ℕ → A) where
  -- the point at which column j stands
  abbrev pub place : ℕ → A
  place j = point (p.dblock + j)

  -- a proof's opened columns have what stands in the table there
  pub record AreOpenedIn (proof : Proof A) (columns : List ℕ) : Type 0 where
    pub values : (k i : ℕ) → k < length columns → i < p.nrow → at_row o p proof k i ≡ table i (slice_index columns k)

  -- the rows that the low degree answer combines, from row 3 on
  abbrev pub tested : ℕ → ℕ → A
  tested i = table (3 + i)

  -- Row 0 and the rows from row 3 on are, outside e columns, the values of polynomials of block coefficients.
  abbrev pub IsNear : ℕ → Type 0
  IsNear e = AreClose o place p.block p.mcol e (p.nrow - 3 + 1) (headed (table 0) tested)

  -- weight x is bad at place k of the low degree answer's combination
  abbrev pub IsBadRowWeight : ℕ → List A → ℕ → A → Type 0
  IsBadRowWeight e u = IsBadMix o (table 0) tested (entry o u) place p.block p.mcol e (p.nrow - 3)

  -- row 0 and u times each row from row 3 on, at column j
  abbrev pub low_degree_at : List A → ℕ → A
  low_degree_at u = mixed o (table 0) tested (entry o u) (p.nrow - 3)

  -- the low degree answer passes at column j
  abbrev pub PassesAt : List A → Proof A → ℕ → Type 0
  PassesAt u proof j = low_degree_at u j ≡ extension o point proof.ldt (p.dblock + j)

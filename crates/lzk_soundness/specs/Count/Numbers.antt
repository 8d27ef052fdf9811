-- The count, evaluated for the profile: for every circuit, over the two fields. The numbers are those of lzk_shares.
use Rattle.lzk_profile.specs.Profile.{opened_count}
use Rattle.lzk_shares.specs.Shares.{RowShare, column_share, prime_size}
use Rattle.std.specs.Prelude.{ℕ, ◌-◌, ◌*◌, ◌^◌, ◌≤◌, Bool, List, length}
use Rattle.lzk_field.specs.Coding.{Coding}
use Rattle.lzk_field.specs.Ring.{Ops}
use Rattle.lzk_soundness.specs.Chance.Draws.{draws_from}
use Rattle.lzk_soundness.specs.Chance.Sets.{choose, count_pairs}
use Rattle.lzk_circuit.specs.Valid.{Wiring, IsValid}
use Rattle.lzk_layout.specs.Sizes.{params_of}
use Rattle.lzk_soundness.specs.Extract.Extraction.{all_elements}
use Rattle.lzk_soundness.specs.Count.Game.{Strategy, column_sets, whole_count}
use Rattle.lzk_soundness.specs.Count.Laws.{IsBluff, IsCheat, bad_count}

-- Of the sets of opened columns at most one in column_share lies among three quarters of them, but for one.
abbrev pub ColumnsMissRarely : {A : Type 0} → Ops A → Type 0
ColumnsMissRarely {A} o =
    (c : Wiring A) → IsValid o c
    → choose (3 * (params_of c).block - 1) opened_count * column_share ≤ choose (params_of c).mcol opened_count

-- So many lie so at most where a row has no more than `width` elements: one in `by`.
abbrev pub ColumnsMissOnceIn : {A : Type 0} → Ops A → ℕ → ℕ → Type 0
ColumnsMissOnceIn {A} o width by =
    (c : Wiring A) → IsValid o c → (params_of c).wr ≤ width
    → choose (3 * (params_of c).block - 1) opened_count * by ≤ choose (params_of c).mcol opened_count

-- No valid circuit whose rows have at most `width` elements has more than so many bad elements, of all draws and
-- weights together.
abbrev pub BadAreBounded : {A : Type 0} → Ops A → ℕ → ℕ → Type 0
BadAreBounded {A} o width most = (c : Wiring A) → IsValid o c → (params_of c).wr ≤ width → bad_count c ≤ most

-- no row has more elements
abbrev pub RowsAreBounded : {A : Type 0} → Ops A → ℕ → Type 0
RowsAreBounded {A} o width = (c : Wiring A) → IsValid o c → (params_of c).wr ≤ width

-- To at most one in `by` of all pairs of draws and of a set of columns a test says yes.
abbrev pub SaysYesOnceIn : {A : Type 0} → Coding A → Wiring A → (List A → List ℕ → Bool) → ℕ → Type 0
SaysYesOnceIn e c wins by =
    count_pairs wins (draws_from (all_elements e) (whole_count c)) (column_sets c) * by
    ≤ length (draws_from (all_elements e) (whole_count c)) * length (column_sets c)

-- to at most one in 2^by
abbrev pub SaysYesByOneIn : {A : Type 0} → Coding A → Wiring A → (List A → List ℕ → Bool) → ℕ → Type 0
SaysYesByOneIn e c wins by = SaysYesOnceIn e c wins (2 ^ by)

-- By no more than one in `by` of all pairs passes whoever has not committed to private inputs that satisfy, for
-- circuits whose rows have at most `width` elements, over a field of so many elements at least.
abbrev pub BluffsPassOnceIn : {A : Type 0} → Ops A → Coding A → ℕ → ℕ → ℕ → Type 0
BluffsPassOnceIn {A} o e width by elements =
    (c : Wiring A) (public : List A) (strategy : Strategy A) (wins : List A → List ℕ → Bool)
    → IsBluff o e c public strategy wins → (params_of c).wr ≤ width → elements ≤ e.size → SaysYesOnceIn e c wins by

-- by no more than one in 2^by, for circuits with so many bad elements at most
abbrev pub BluffsPassByOneIn : {A : Type 0} → Ops A → Coding A → ℕ → ℕ → ℕ → Type 0
BluffsPassByOneIn {A} o e bad by elements =
    (c : Wiring A) (public : List A) (strategy : Strategy A) (wins : List A → List ℕ → Bool)
    → IsBluff o e c public strategy wins → bad_count c ≤ bad → elements ≤ e.size → SaysYesByOneIn e c wins by

-- nor a false statement
abbrev pub PassesByOneIn : {A : Type 0} → Ops A → Coding A → ℕ → ℕ → ℕ → Type 0
PassesByOneIn {A} o e bad by elements =
    (c : Wiring A) (public : List A) (strategy : Strategy A) (wins : List A → List ℕ → Bool)
    → IsCheat o e c public strategy wins → bad_count c ≤ bad → elements ≤ e.size → SaysYesByOneIn e c wins by

-- what the numbers of some width say of rows that have no more elements
pub record SharesHold {A : Type 0} (o : Ops A) (e : Coding A) (s : RowShare) : Type 0 where
  pub columns : ColumnsMissOnceIn o s.row s.missed
  pub bad : BadAreBounded o s.row s.bad
  pub prime : BluffsPassOnceIn o e s.row s.prime prime_size
  pub binary : BluffsPassOnceIn o e s.row s.binary (2 ^ 128)

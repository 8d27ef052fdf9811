-- How seldom whoever has not committed to satisfying inputs passes, whatever he does.
use Rattle.lzk_shares.specs.Shares.{least_size}
use Rattle.lzk_profile.specs.Profile.{opened_count, most_bits}
use Rattle.std.specs.Prelude.{◌≡◌, ℕ, ◌+◌, ◌-◌, ◌*◌, ◌^◌, ◌≤◌, Bool, true, List, length}
use Rattle.lzk_field.specs.Coding.{Coding}
use Rattle.lzk_field.specs.Ring.{Ops}
use Rattle.lzk_soundness.specs.Chance.Draws.{draws_from}
use Rattle.lzk_soundness.specs.Chance.Few.{AreDistinct, HasAll}
use Rattle.lzk_soundness.specs.Chance.Sets.{choose, count_pairs}
use Rattle.lzk_circuit.specs.Valid.{Wiring, IsValid}
use Rattle.lzk_circuit.specs.Wires.{inputs_of}
use Rattle.lzk_circuit.specs.Checks.{IsSatisfied}
use Rattle.lzk_layout.specs.Sizes.{params_of}
use Rattle.lzk_soundness.specs.Draws.Game.{IsProver}
use Rattle.lzk_soundness.specs.Draws.Game.Target.{outputs}
use Rattle.lzk_soundness.specs.Draws.Laws.{most}
use Rattle.lzk_soundness.specs.Extract.Extraction.{all_elements, extracted}
use Rattle.lzk_soundness.specs.Count.Game.{Strategy, column_sets, whole_count, IsPassed}

-- no private inputs satisfy the circuit with these public inputs
abbrev pub IsFalse : {A : Type 0} → Ops A → Coding A → Wiring A → List A → Type 0
IsFalse {A} o e c public = (private : List A) → length private ≡ c.privates
    → IsSatisfied o e.number c.layers (inputs_of o public private) → ⊥

-- The private inputs that a table encodes satisfy the circuit with these public ones.
abbrev pub Encodes : {A : Type 0} → Ops A → Coding A → Wiring A → List A → (ℕ → ℕ → A) → Type 0
Encodes o e c public table = IsSatisfied o e.number c.layers (inputs_of o public (extracted o e c table))

-- So do those that a prover's table encodes.
abbrev pub Knows : {A : Type 0} → Ops A → Coding A → Wiring A → List A → Strategy A → Type 0
Knows o e c public strategy = Encodes o e c public strategy.table

-- A valid circuit, as many public inputs as it has, and a prover. A test says yes only to draws and columns by which
-- what he shows passes.
pub record IsPlayer {A : Type 0} (o : Ops A) (e : Coding A) (c : Wiring A) (public : List A) (strategy : Strategy A)
    (wins : List A → List ℕ → Bool) : Type 0 where
  pub valid : IsValid o c
  pub publics : length public ≡ c.publics
  pub prover : IsProver o c strategy.messages
  pub only : (draws : List A) (columns : List ℕ) → length draws ≡ whole_count c → length columns ≡ opened_count
      → wins draws columns ≡ true
      → IsPassed o e c public strategy draws columns

-- Each prover of such a circuit is one, with each test that says yes only where he passes: it may say yes to some draws
-- and columns, and no to others.
abbrev pub PassersAreCounted : {A : Type 0} → Ops A → Coding A → Type 0
PassersAreCounted {A} o e =
    (c : Wiring A) (public : List A) (strategy : Strategy A) (wins : List A → List ℕ → Bool)
    → IsValid o c → length public ≡ c.publics → IsProver o c strategy.messages
    → ((draws : List A) (columns : List ℕ) → length draws ≡ whole_count c → length columns ≡ opened_count
    → wins draws columns ≡ true → IsPassed o e c public strategy draws columns)
    → IsPlayer o e c public strategy wins

-- one whose table does not encode private inputs that satisfy, whether or not there are any
pub record IsBluff {A : Type 0} (o : Ops A) (e : Coding A) (c : Wiring A) (public : List A) (strategy : Strategy A)
    (wins : List A → List ℕ → Bool) : Type 0 where
  pub player : IsPlayer o e c public strategy wins
  pub unknowing : Knows o e c public strategy → ⊥

-- one of public inputs for which nobody has private ones
pub record IsCheat {A : Type 0} (o : Ops A) (e : Coding A) (c : Wiring A) (public : List A) (strategy : Strategy A)
    (wins : List A → List ℕ → Bool) : Type 0 where
  pub player : IsPlayer o e c public strategy wins
  pub wrong : IsFalse o e c public

-- how many elements may be bad, of all draws and weights together: as many as a row has values, for u, the degrees of
-- the sumchecks' draws, one more and as many as a layer's bits where an assertion is what fails, and one for lambda and
-- mu
abbrev pub bad_count : {A : Type 0} → Wiring A → ℕ
bad_count c = (params_of c).block + most c outputs + (most_bits + 2)

-- Of all pairs of a list of draws and of a set of columns, the share to which a test says yes is at most
-- `bad_count` over the number of elements, and the share of sets that lie among three quarters of the columns, but for
-- one.
abbrev pub SaysYesRarely : {A : Type 0} → Coding A → Wiring A → (List A → List ℕ → Bool) → Type 0
SaysYesRarely e c wins =
    count_pairs wins (draws_from (all_elements e) (whole_count c)) (column_sets c) * e.size
    ≤ (bad_count c * choose (params_of c).mcol opened_count
    + e.size * choose (3 * (params_of c).block - 1) opened_count)
    * e.size ^ whole_count c

-- Knowledge soundness, by extraction from the table alone: whoever passes more often, of elements of which there are
-- least_size at least, has committed to private inputs that satisfy the circuit.
abbrev pub PassersKnow : {A : Type 0} → Ops A → Coding A → Type 0
PassersKnow {A} o e =
    (c : Wiring A) (public : List A) (strategy : Strategy A) (wins : List A → List ℕ → Bool)
    → IsPlayer o e c public strategy wins → least_size ≤ e.size → (SaysYesRarely e c wins → ⊥)
    → Knows o e c public strategy

-- The same as a count: whoever has not passes by no more.
abbrev pub BluffsAreRare : {A : Type 0} → Ops A → Coding A → Type 0
BluffsAreRare {A} o e =
    (c : Wiring A) (public : List A) (strategy : Strategy A) (wins : List A → List ℕ → Bool)
    → IsBluff o e c public strategy wins → least_size ≤ e.size → SaysYesRarely e c wins

-- So with a false statement, of which nobody has private inputs.
abbrev pub FalseIsRare : {A : Type 0} → Ops A → Coding A → Type 0
FalseIsRare {A} o e =
    (c : Wiring A) (public : List A) (strategy : Strategy A) (wins : List A → List ℕ → Bool)
    → IsCheat o e c public strategy wins → least_size ≤ e.size → SaysYesRarely e c wins

-- a list that has everything once, and is so long
pub record AreAll {A : Type 0} (size : ℕ) (ds : List A) : Type 0 where
  pub distinct : AreDistinct ds
  pub every : HasAll ds
  pub count : length ds ≡ size

-- all elements are so, as many as the field's size
abbrev pub ElementsAreAll : {A : Type 0} → Coding A → Type 0
ElementsAreAll e = AreAll e.size (all_elements e)

-- What holds of the answers of rows, and of answers that were changed.
use Rattle.lzk_profile.specs.Profile.{opened_count}
use Rattle.std.specs.Prelude.{◌≡◌, ◌≢◌, ◌⊎◌, ℕ, ◌+◌, ◌-◌, ◌<◌, ◌≤◌, List, length, slice_index}
use Rattle.lzk_field.specs.Ring.{Ops}
use Rattle.lzk_field.specs.Sums.{entry}
use Rattle.lzk_poly.specs.Polynomial.{eval}
use Rattle.lzk_poly.specs.Through.{values_of}
use Rattle.lzk_circuit.specs.Valid.{Wiring}
use Rattle.lzk_layout.specs.declared.params.Params.{Params}
use Rattle.lzk_layout.specs.declared.proof.Proof.{Proof}
use Rattle.lzk_layout.specs.Sizes.{AreBounded, params_of}
use Rattle.lzk_accept.specs.declared.challenges.Challenges.{Challenges}
use Rattle.lzk_accept.specs.Checks.{IsLowDegree, HasLinearSum, IsLinear, IsQuadratic, AtEach, found_sum}
use Rattle.lzk_accept.specs.Combination.{combined, combined_row, wanted}
use Rattle.lzk_ligero_answers.specs.Rows.{AreRows, columns_of}
use Rattle.lzk_ligero_answers.specs.Answers.{low_degree_answer, linear_answer, quadratic_answer, changed}
use Rattle.lzk_ligero_answers.specs.Coefficients.{AreCoefficients}
use Rattle.lzk_ligero_answers.specs.Opened.{AreOpened, IsSent, Satisfies, Stands}

-- A polynomial with at most n + 1 coefficients that is zero at n different points, and not everywhere, is zero at no
-- other point.
abbrev pub NoFurtherZero : {A : Type 0} → Ops A → Type 0
NoFurtherZero {A} o =
    (n : ℕ) (cs : List A) (at : ℕ → A) (s t : A) → length cs ≤ n + 1 → ((i j : ℕ) → i < j → j < n → at i ≢ at j)
    → ((i : ℕ) → i < n → eval o cs (at i) ≡ o.zero) → eval o cs s ≢ o.zero → ((i : ℕ) → i < n → at i ≢ t)
    → eval o cs t ≢ o.zero

module _ {A : Type 0} (o : Ops A) (point : ℕ → A) where
  -- the values of the answers of rows
  abbrev pub low_degree_of : Params → List (List A) → List A → List A
  low_degree_of p rows u = values_of o point p.block (low_degree_answer o point p rows u)

  abbrev pub linear_of : Params → List (List A) → (ℕ → List A) → List A
  linear_of p rows coefficients = values_of o point p.dblock (linear_answer o point p rows coefficients)

  abbrev pub quadratic_of : Params → List (List A) → List A → List A
  quadratic_of p rows v = values_of o point p.dblock (quadratic_answer o point p rows v)

  -- zeros at the points of a row's elements
  abbrev pub HaveZeros : Params → List A → Type 0
  HaveZeros p values = (s : ℕ) → s < p.wr → entry o values (opened_count + s) ≡ o.zero

  -- ---- answers of rows

  -- columns of the rows, one after another, are opened
  abbrev pub ColumnsOpen : Type 0
  ColumnsOpen =
      (p : Params) (rows : List (List A)) (proof : Proof A) (columns : List ℕ) → length rows ≡ p.nrow
      → proof.columns ≡ columns_of o point p rows columns
      → AreOpened o point p rows proof columns

  -- the low degree answer of any rows is right at each opened column
  abbrev pub LowDegreePasses : Type 0
  LowDegreePasses =
      (p : Params) (rows : List (List A)) (proof : Proof A) (columns : List ℕ) (u : List A) → AreBounded p
      → AreRows p rows → AreOpened o point p rows proof columns → proof.ldt ≡ low_degree_of p rows u
      → AtEach columns (IsLowDegree o p proof point columns u)

  -- so is the linear answer, for any coefficients
  abbrev pub LinearPasses : Type 0
  LinearPasses =
      (p : Params) (rows : List (List A)) (proof : Proof A) (columns : List ℕ) (coefficients : ℕ → List A)
      → AreBounded p → AreRows p rows → AreOpened o point p rows proof columns
      → ((i : ℕ) → i < p.nrow - 3 → length (coefficients (3 + i)) ≡ p.block) → proof.dot ≡ linear_of p rows coefficients
      → AtEach columns (IsLinear o p proof point columns coefficients)

  -- and the quadratic answer, where the values that are not sent are zeros
  abbrev pub QuadraticPasses : Type 0
  QuadraticPasses =
      (p : Params) (rows : List (List A)) (proof : Proof A) (columns : List ℕ) (v : List A) → AreBounded p
      → AreRows p rows → AreOpened o point p rows proof columns → HaveZeros p (quadratic_of p rows v)
      → IsSent p (quadratic_of p rows v) proof
      → AtEach columns (IsQuadratic o p proof point columns v)

  -- Rows for a list that satisfies its constraints have these zeros.
  abbrev pub ZerosStand : Type 0
  ZerosStand =
      (c : Wiring A) (coefficient : ℕ → ℕ → A) (right : ℕ → A) (w : List A) (rows : List (List A)) (v : List A)
      → AreBounded (params_of c) → AreRows (params_of c) rows → Satisfies o c coefficient right w → Stands o c w rows
      → HaveZeros (params_of c) (quadratic_of (params_of c) rows v)

  -- The linear answer of such rows, for the combined coefficients, has the sum that is wanted.
  abbrev pub LinearSumStands : Type 0
  LinearSumStands =
      (c : Wiring A) (coefficient : ℕ → ℕ → A) (right : ℕ → A) (ch : Challenges A) (w : List A) (rows : List (List A))
      (proof : Proof A)
      → AreBounded (params_of c) → AreRows (params_of c) rows → Satisfies o c coefficient right w → Stands o c w rows
      → proof.dot ≡ linear_of (params_of c) rows (combined_row o c coefficient ch)
      → HasLinearSum o (params_of c) proof (wanted o c right ch)

  -- a row of combined coefficients has these at the points of a row's elements
  abbrev pub CombinedRows : Type 0
  CombinedRows =
      (c : Wiring A) (coefficient : ℕ → ℕ → A) (ch : Challenges A) (i : ℕ)
      → AreCoefficients o (params_of c) (combined o c coefficient ch i) (combined_row o c coefficient ch i)

  -- ---- answers with something that is not zero added to value n

  -- columns of the tree
  abbrev pub AreColumns : Params → List ℕ → Type 0
  AreColumns p columns = (k : ℕ) → k < length columns → slice_index columns k < p.mcol

  -- the low degree answer is then wrong at each opened column
  abbrev pub LowDegreeFails : Type 0
  LowDegreeFails =
      (p : Params) (rows : List (List A)) (proof : Proof A) (columns : List ℕ) (u : List A) (n : ℕ) (by : A)
      → AreBounded p → AreRows p rows → AreOpened o point p rows proof columns → AreColumns p columns → by ≢ o.zero
      → n < p.block → proof.ldt ≡ changed o (low_degree_of p rows u) n by
      → AtEach columns (λ k. IsLowDegree o p proof point columns u k → ⊥)

  -- so is the linear answer
  abbrev pub LinearFails : Type 0
  LinearFails =
      (p : Params) (rows : List (List A)) (proof : Proof A) (columns : List ℕ) (coefficients : ℕ → List A) (n : ℕ)
      (by : A)
      → AreBounded p → AreRows p rows → AreOpened o point p rows proof columns → AreColumns p columns
      → ((i : ℕ) → i < p.nrow - 3 → length (coefficients (3 + i)) ≡ p.block) → by ≢ o.zero → n < p.dblock
      → proof.dot ≡ changed o (linear_of p rows coefficients) n by
      → AtEach columns (λ k. IsLinear o p proof point columns coefficients k → ⊥)

  -- and the quadratic answer, where the value is sent
  abbrev pub QuadraticFails : Type 0
  QuadraticFails =
      (p : Params) (rows : List (List A)) (proof : Proof A) (columns : List ℕ) (v : List A) (n : ℕ) (by : A)
      → AreBounded p → AreRows p rows → AreOpened o point p rows proof columns → AreColumns p columns
      → HaveZeros p (quadratic_of p rows v) → by ≢ o.zero → (n < opened_count) ⊎ (p.block ≤ n) → n < p.dblock
      → IsSent p (changed o (quadratic_of p rows v) n by) proof
      → AtEach columns (λ k. IsQuadratic o p proof point columns v k → ⊥)

  -- The linear answer's sum rises by what is added at the point of a row's element, and stays where something is added
  -- elsewhere.
  abbrev pub SumsChange : Type 0
  SumsChange =
      (p : Params) (before after : Proof A) (n : ℕ) (by : A) → n < length before.dot
      → after.dot ≡ changed o before.dot n by
      → (opened_count ≤ n → n < p.block → found_sum o p after ≡ o.plus (found_sum o p before) by)
      × ((n < opened_count) ⊎ (p.block ≤ n) → found_sum o p after ≡ found_sum o p before)

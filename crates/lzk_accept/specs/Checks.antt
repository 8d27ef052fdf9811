-- What is checked of a proof's answers, each condition on the proof that was read and on what the tape gives to it.
use Rattle.lzk_profile.specs.Profile.{opened_count}
use Rattle.std.specs.Prelude.{◌≡◌, ℕ, ◌+◌, ◌-◌, ◌*◌, ◌<◌, List, ◌++◌, length, take, drop, replicate, slice_index}
use Rattle.lzk_field.specs.Ring.{Ops}
use Rattle.lzk_field.specs.Sums.{sum_below, minus, entry}
use Rattle.lzk_poly.specs.Extension.{extension}
use Rattle.lzk_circuit.specs.Valid.{Wiring}
use Rattle.lzk_layout.specs.declared.params.Params.{Params}
use Rattle.lzk_layout.specs.declared.proof.Proof.{Proof}
use Rattle.lzk_sumcheck.specs.declared.script.Script.{Script}
use Rattle.lzk_sumcheck.specs.Coefficients.{coefficients}
use Rattle.lzk_accept.specs.declared.challenges.Challenges.{Challenges}
use Rattle.lzk_accept.specs.Residuals.{linear_coefficient, right_side}
use Rattle.lzk_accept.specs.Combination as combination

-- ---- the linear constraints of a circuit: its residuals for a script and sent elements are zero

module _ {A : Type 0} (o : Ops A) (point : ℕ → A) (c : Wiring A) (public : List A) (s : Script A) (messages : List A)
  where
    -- the coefficient of linear constraint i at entry j
    abbrev pub coefficient_of : ℕ → ℕ → A
    coefficient_of = linear_coefficient o point c (coefficients o c s) public s messages

    -- the right side of linear constraint i
    abbrev pub right_of : ℕ → A
    right_of = right_side o point c (coefficients o c s) public s messages

    -- the combined coefficient at a row and a position
    abbrev pub combined_of : Challenges A → ℕ → ℕ → A
    combined_of ch = combination.combined o c coefficient_of ch

    -- the values of a row of combined coefficients
    abbrev pub combined_row_of : Challenges A → ℕ → List A
    combined_row_of ch = combination.combined_row o c coefficient_of ch

    -- the sum that is wanted
    abbrev pub wanted_of : Challenges A → A
    wanted_of ch = combination.wanted o c right_of ch

-- ---- the conditions

module _ {A : Type 0} (o : Ops A) (p : Params) (proof : Proof A) where
  -- the elements of the k-th opened column
  abbrev pub column : ℕ → List A
  column k = take p.nrow (drop (k * p.nrow) proof.columns)

  -- the element of the k-th opened column in a row
  abbrev pub at_row : ℕ → ℕ → A
  at_row k row = entry o proof.columns (k * p.nrow + row)

  -- the element of the k-th opened column in one of the three rows of triple number i
  abbrev pub in_triple : ℕ → ℕ → ℕ → A
  in_triple k i which = at_row k (3 + p.nwrow + 3 * i + which)

  -- the sum of the linear answer's values at the points of a row's elements
  abbrev pub found_sum : A
  found_sum = sum_below o (p.block - opened_count) (λ i. entry o proof.dot (opened_count + i))

  -- it is the sum that is wanted
  abbrev pub HasLinearSum : A → Type 0
  HasLinearSum wanted = found_sum ≡ wanted

  -- all values of the quadratic answer: the first ones, zeros at the points of a row's elements, and the last ones
  abbrev pub quadratic_values : List A
  quadratic_values = proof.quad_head ++ replicate (p.block - opened_count) o.zero ++ proof.quad_tail

  module _ (point : ℕ → A) (columns : List ℕ) where
    -- the number of the point at which the k-th opened column stands
    abbrev pub point_of : ℕ → ℕ
    point_of k = p.dblock + slice_index columns k

    -- at the k-th opened column, the low degree answer is row 0 plus the sum of u times each row from row 3 on
    abbrev pub IsLowDegree : List A → ℕ → Type 0
    IsLowDegree u k =
        extension o point proof.ldt (point_of k)
        ≡ o.plus (at_row k 0) (sum_below o (p.nrow - 3) (λ i. o.times (entry o u i) (at_row k (3 + i))))

    -- at the k-th opened column, the linear answer is row 1 plus the sum, over each row from row 3 on, of the extension
    -- of the combined coefficients' row times the row
    abbrev pub IsLinear : (ℕ → List A) → ℕ → Type 0
    IsLinear combined_row k =
        extension o point proof.dot (point_of k)
        ≡ o.plus (at_row k 1) (sum_below o (p.nrow - 3)
        (λ i. o.times (extension o point (combined_row (3 + i)) (point_of k)) (at_row k (3 + i))))

    -- at the k-th opened column, the quadratic answer is row 2 plus the sum of v times the product of a triple's first
    -- two rows less the third
    abbrev pub IsQuadratic : List A → ℕ → Type 0
    IsQuadratic v k =
        extension o point quadratic_values (point_of k)
        ≡ o.plus (at_row k 2) (sum_below o p.ntriple
        (λ i. o.times (entry o v i) (minus o (o.times (in_triple k i 0) (in_triple k i 1)) (in_triple k i 2))))

-- a fact of each opened column, by its place
abbrev pub AtEach : List ℕ → (ℕ → Type 0) → Type 0
AtEach columns P = (k : ℕ) → k < length columns → P k

-- the least of the ascending columns at which a fact fails
pub record FailsFirst (columns : List ℕ) (P : ℕ → Type 0) (column : ℕ) : Type 0 where
  pub place : ℕ
  pub inside : place < length columns
  pub is : slice_index columns place ≡ column
  pub fails : ¬ P place
  pub before : (k : ℕ) → k < place → P k

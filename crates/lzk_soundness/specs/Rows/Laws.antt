-- How few weights and columns are bad, and what holds where none is.
use Rattle.std.specs.Prelude.{◌≡◌, ◌≢◌, ℕ, ◌+◌, ◌-◌, ◌<◌, ◌≤◌, List, length}
use Rattle.lzk_field.specs.Coding.{Coding}
use Rattle.lzk_field.specs.Ring.{Ops}
use Rattle.lzk_soundness.specs.Chance.Few.{HasAtMost}
use Rattle.lzk_circuit.specs.Valid.{Wiring}
use Rattle.lzk_layout.specs.declared.proof.Proof.{Proof}
use Rattle.lzk_layout.specs.Proofs.{HasLengths}
use Rattle.lzk_layout.specs.Sizes.{AreBounded, params_of}
use Rattle.lzk_accept.specs.declared.challenges.Challenges.{Challenges}
use Rattle.lzk_accept.specs.Checks.{IsLinear, HasLinearSum, IsQuadratic, AtEach}
use Rattle.lzk_accept.specs.Combination.{combined_row, wanted}
use Rattle.lzk_ligero_answers.specs.Rows.{AreRows}
use Rattle.lzk_ligero_answers.specs.Opened.{AreOpened, Satisfies}
use Rattle.lzk_soundness.specs.Rows.Weights.{combination, IsBadWeight, AreGoodWeights, AgreesAt}
use Rattle.lzk_soundness.specs.Rows.Held.{held, NoneBad}

-- one weight at most is bad at each place
abbrev pub WeightsAreFew : {A : Type 0} → Ops A → Type 0
WeightsAreFew {A} o = (constant : A) (gap weight : ℕ → A) (n i : ℕ)
    → HasAtMost 1 (IsBadWeight o constant gap weight n i)

-- where no weight is bad and the combination is 0, all gaps are 0, and so is the constant
abbrev pub GapsUnlessBad : {A : Type 0} → Ops A → Coding A → Type 0
GapsUnlessBad {A} o e =
    (constant : A) (gap weight : ℕ → A) (n : ℕ) → combination o constant gap weight n ≡ o.zero
    → AreGoodWeights o constant gap weight n
    → ((i : ℕ) → i < n → gap i ≡ o.zero) × (constant ≡ o.zero)

-- Two lists of n values that are not the same agree at n - 1 of the columns at most.
abbrev pub ColumnsAreFew : {A : Type 0} → Ops A → (ℕ → A) → Type 0
ColumnsAreFew {A} o point =
    (sent right : List A) (n before end : ℕ) → length sent ≡ n → length right ≡ n → n ≤ 65536 → before + end ≤ 65536
    → sent ≢ right
    → HasAtMost (n - 1) (λ (j : ℕ). (j < end) × AgreesAt o point before sent right j)

-- Rows of which columns were opened, whose answers pass there with the wanted sum, hold a list that satisfies the
-- constraints, unless some draw is bad for them.
abbrev pub RowsSatisfyUnlessBad : {A : Type 0} → Ops A → Coding A → Type 0
RowsSatisfyUnlessBad {A} o e =
    (c : Wiring A) (coefficient : ℕ → ℕ → A) (right : ℕ → A) (ch : Challenges A) (rows : List (List A))
    (proof : Proof A) (columns : List ℕ)
    → AreBounded (params_of c) → AreRows (params_of c) rows → AreOpened o e.element (params_of c) rows proof columns
    → HasLengths (params_of c) proof
    → HasLinearSum o (params_of c) proof (wanted o c right ch)
    → AtEach columns (IsLinear o (params_of c) proof e.element columns (combined_row o c coefficient ch))
    → AtEach columns (IsQuadratic o (params_of c) proof e.element columns ch.v)
    → NoneBad o c rows coefficient right ch e.element proof columns → Satisfies o c coefficient right (held o c rows)

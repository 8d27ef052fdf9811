-- What holds of a proof that a prover writes for satisfying inputs: an answer that is as the rows give it is right.
use Rattle.std.specs.Prelude.{◌≡◌, ℕ, ◌+◌, ◌-◌, ◌<◌, ◌≤◌, List, length}
use Rattle.std.proofs.Common.{sym, ◌∙◌, arith}
use Rattle.lzk_field.specs.Coding.{Coding}
use Rattle.lzk_field.specs.Ring.{Ops, RingLaws}
use Rattle.lzk_field.specs.Sums.{sum_below, entry}
use Rattle.lzk_field.proofs.RingBasics.{same_from_difference}
use Rattle.lzk_circuit.specs.Valid.{Wiring, IsValid}
use Rattle.lzk_circuit.specs.Wires.{inputs_of}
use Rattle.lzk_circuit.specs.Checks.{IsSatisfied}
use Rattle.lzk_layout.specs.declared.params.Params.{Params}
use Rattle.lzk_layout.specs.declared.proof.Proof.{Proof}
use Rattle.lzk_layout.specs.Sizes.{AreBounded, params_of, committed_count}
use Rattle.lzk_layout.specs.Places.{depth}
use Rattle.lzk_layout.proofs.SizeLaws.{params_bounded}
use Rattle.lzk_sumcheck.specs.Coefficients.{coefficients}
use Rattle.lzk_sumcheck.specs.Opening.{opening}
use Rattle.lzk_accept.specs.Challenges.{Transcript, transcript}
use Rattle.lzk_accept.specs.Checks.{AtEach, HasLinearSum, coefficient_of, right_of, combined_row_of}
use Rattle.lzk_accept.specs.Residuals.{residual}
use Rattle.lzk_accept.proofs.ResidualLaws.{residual-form}
use Rattle.lzk_ligero_answers.specs.Laws.{HaveZeros, quadratic_of, ColumnsOpen, LowDegreePasses, LinearPasses, QuadraticPasses, ZerosStand, LinearSumStands, CombinedRows}
use Rattle.lzk_ligero_answers.specs.Opened.{IsSent, Satisfies, Stands}
use Rattle.lzk_ligero_answers.specs.Opened as answers
use Rattle.lzk_ligero_answers.specs.Rows.{AreRows}
use Rattle.lzk_ligero_tableau.specs.Tableau.{column, committed, tableau}
use Rattle.lzk_ligero_proof.specs.Answered.{Answers}
use Rattle.lzk_circbytes.specs.Files.{id_of}
use Rattle.lzk_ligero_proof.specs.Proving.{HaveCounts, IsProofBy, own_answers}
use Rattle.lzk_verify.specs.Verdict.{LowDegreeAt, LinearAt, QuadraticAt, wanted_sum}
use Rattle.lzk_ligero_proof.specs.Residuals.{ResidualsVanish}
use Rattle.lzk_ligero_proof.proofs.CommittedEntries.{length_committed, products}
use Rattle.lzk_ligero_proof.proofs.Standing.{length_rows, rows_are, rows_stand}

-- what holds of answers
pub record AnswersPass {A : Type 0} (o : Ops A) (point : ℕ → A) : Type 0 where
  pub columns : ColumnsOpen o point
  pub low_degree : LowDegreePasses o point
  pub linear : LinearPasses o point
  pub quadratic : QuadraticPasses o point
  pub zeros : ZerosStand o point
  pub linear_sum : LinearSumStands o point
  pub combined : CombinedRows o point

module _ {A : Type 0} (o : Ops A) (e : Coding A) (c : Wiring A) (session : List ℕ) (public private : List A) (word : ℕ → ℕ) (q : Proof A) where
  abbrev p : Params
  p = params_of c

  abbrev t : Transcript A
  t = transcript o e c session (id_of e c) public q

  abbrev w : List A
  w = committed o e c private word

  abbrev rows : List (List A)
  rows = tableau o e c private word

  -- the values of its answers, where nothing is changed
  abbrev honest : Answers A
  honest = own_answers o e c session public private word q

  abbrev lists : ℕ → List A
  lists = combined_row_of o e.element c public t.script q.messages t.challenges

  -- The opened columns are those of the rows, and each answer that is as the rows give it is right. Any linear answer of these rows has the wanted sum.
  pub record AreRight : Type 0 where
    pub long : AreRows p rows
    pub columns : answers.AreOpened o e.element p rows q t.columns
    pub lengths : (i : ℕ) → i < p.nrow - 3 → length (lists (3 + i)) ≡ p.block
    pub zeros : HaveZeros o e.element p (quadratic_of o e.element p rows t.challenges.v)
    pub low_degree : q.ldt ≡ honest.low_degree → AtEach t.columns (LowDegreeAt o e c p public q t)
    pub linear_sum : (other : Proof A) → other.dot ≡ honest.linear → HasLinearSum o p other (wanted_sum o e c p public q t)
    pub linear : q.dot ≡ honest.linear → AtEach t.columns (LinearAt o e c p public q t)
    pub quadratic : IsSent p honest.quadratic q → AtEach t.columns (QuadraticAt o e c p public q t)

  abbrev coefficient : ℕ → ℕ → A
  coefficient = coefficient_of o e.element c public t.script q.messages

  abbrev right : ℕ → A
  right = right_of o e.element c public t.script q.messages

  module _ (r : RingLaws o) (valid : IsValid o c) (counts : HaveCounts c public private) (change : Answers A → Answers A) (is : IsProofBy o e c session public private word change q) (vanish : ResidualsVanish o e) (satisfied : IsSatisfied o e.number c.layers (inputs_of o public private)) where
    bounds : AreBounded p
    bounds = params_bounded o c valid

    -- where residuals vanish the constraints hold
    residual_zero : (i : ℕ) → i ≤ depth c → residual o e.element c (coefficients o c t.script) public t.script q.messages w i ≡ o.zero
    unfolding transcript
    residual_zero i h = vanish c session public private word (opening e session (id_of e c) public q.root) q.messages i valid counts satisfied h is.messages

    constraint_met : (i : ℕ) → i < depth c + 1 → sum_below o (committed_count c) (λ j. o.times (coefficient i j) (entry o w j)) ≡ right i
    constraint_met i h =
        let s = t.script in
        let low : i ≤ depth c = omega (arith, h) in
        let sum = sum_below o (committed_count c) (λ j. o.times (coefficient i j) (entry o w j)) in
        let form = residual-form o r e.element c (coefficients o c s) public s q.messages i low in
        same_from_difference o r sum (right i)
        (r.plus_comm sum (o.neg (right i)) ∙ sym (form.is w (length_committed o e c private word counts.1)) ∙ residual_zero i low)

    satisfies : Satisfies o c coefficient right w
    satisfies = record { linear = constraint_met; products = products o e c private word counts.1 }

    columns_open : (pass : AnswersPass o e.element) → answers.AreOpened o e.element p rows q t.columns
    unfolding column
    columns_open pass = pass.columns p rows q t.columns (length_rows o e c private word bounds) is.opened.columns

    pub are_right : AnswersPass o e.element → AreRight
    are_right pass =
        let are : AreRows p rows = rows_are o e c private word bounds in
        let opened = columns_open pass in
        let stands : Stands o c w rows = rows_stand o e c private word bounds r in
        let zeros = pass.zeros c coefficient right w rows t.challenges.v bounds are satisfies stands in
        let lengths : (i : ℕ) → i < p.nrow - 3 → length (lists (3 + i)) ≡ p.block = λ i h. let row = pass.combined c coefficient t.challenges (3 + i) in row.count in
        record {
          long = are;
          columns = opened;
          lengths = lengths;
          zeros = zeros;
          low_degree = pass.low_degree p rows q t.columns t.challenges.u bounds are opened;
          linear_sum = λ other is. pass.linear_sum c coefficient right t.challenges w rows other bounds are satisfies stands is;
          linear = pass.linear p rows q t.columns lists bounds are opened lengths;
          quadratic = pass.quadratic p rows q t.columns t.challenges.v bounds are opened zeros;
        }

-- A proof's answers, by what the tape gave.
use Rattle.lzk_profile.specs.Profile.{opened_count}
use Rattle.std.specs.Prelude.{◌≡◌, ℕ, List, take, drop}
use Rattle.lzk_field.specs.Ring.{Ops}
use Rattle.lzk_poly.specs.Through.{values_of}
use Rattle.lzk_circuit.specs.Valid.{Wiring}
use Rattle.lzk_layout.specs.declared.params.Params.{Params}
use Rattle.lzk_layout.specs.declared.proof.Proof.{Proof}
use Rattle.lzk_sumcheck.specs.declared.script.Script.{Script}
use Rattle.lzk_accept.specs.declared.challenges.Challenges.{Challenges}
use Rattle.lzk_accept.specs.Checks.{combined_row_of}
use Rattle.lzk_ligero_answers.specs.Answers.{low_degree_answer, linear_answer, quadratic_answer}

-- the values of the three answers
pub record Answers (A : Type 0) : Type 0 where
  pub low_degree : List A
  pub linear : List A
  pub quadratic : List A

-- those of the rows' combinations by this script, these sent elements and these challenges
abbrev pub answers_of : {A : Type 0} → Ops A → (ℕ → A) → Wiring A → Params → List A → Script A → List A → Challenges A
    → List (List A)
    → Answers A
answers_of o point c p public s messages ch rows = record {
  low_degree = values_of o point p.block (low_degree_answer o point p rows ch.u);
  linear = values_of o point p.dblock (linear_answer o point p rows (combined_row_of o point c public s messages ch));
  quadratic = values_of o point p.dblock (quadratic_answer o point p rows ch.v);
}

-- A proof has them. Of the quadratic answer as many first values as columns are opened are sent, and those behind the
-- points of the rows' elements.
pub record AreSent {A : Type 0} (p : Params) (answers : Answers A) (proof : Proof A) : Type 0 where
  pub low_degree : proof.ldt ≡ answers.low_degree
  pub linear : proof.dot ≡ answers.linear
  pub quad_head : proof.quad_head ≡ take opened_count answers.quadratic
  pub quad_tail : proof.quad_tail ≡ drop p.block answers.quadratic

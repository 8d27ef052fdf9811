-- What is seen of satisfying inputs passes.
use Rattle.lzk_profile.specs.Profile.{opened_count}
use Rattle.std.specs.Prelude.{◌≡◌, ℕ, ◌+◌, ◌-◌, ◌*◌, ◌<◌, List, length}
use Rattle.std.proofs.Common.{ap, ◌∙◌, arith}
use Rattle.std.proofs.lemmas.List.{length-take-le, length-drop, length-map}
use Rattle.lzk_field.specs.Coding.{Coding}
use Rattle.lzk_field.specs.Ring.{Ops, Laws}
use Rattle.lzk_poly.proofs.Through.{length-values_of}
use Rattle.lzk_circuit.specs.Valid.{Wiring}
use Rattle.lzk_layout.specs.declared.params.Params.{Params}
use Rattle.lzk_layout.specs.declared.proof.Proof.{Proof}
use Rattle.lzk_layout.specs.Sizes.{AreBounded, params_of}
use Rattle.lzk_layout.proofs.SizeLaws.{params_bounded}
use Rattle.lzk_sumcheck.specs.declared.script.Script.{Script}
use Rattle.lzk_accept.specs.declared.challenges.Challenges.{Challenges}
use Rattle.lzk_accept.specs.Checks.{coefficient_of, right_of, combined_row_of}
use Rattle.lzk_ligero_answers.specs.Answers.{low_degree_answer, linear_answer, quadratic_answer}
use Rattle.lzk_ligero_answers.specs.Laws.{quadratic_of}
use Rattle.lzk_ligero_answers.specs.Opened.{AreOpened, Stands}
use Rattle.lzk_ligero_answers.specs.Rows.{AreRows}
use Rattle.lzk_ligero_answers.proofs.PassLaws.{low_degree_passes, linear_passes, quadratic_passes}
use Rattle.lzk_ligero_answers.proofs.RowLaws.{columns_open}
use Rattle.lzk_ligero_answers.proofs.StandLaws.{combined_rows, zeros_stand, linear_sum_stands}
use Rattle.lzk_ligero_tableau.specs.Tableau.{committed, tableau, column}
use Rattle.lzk_ligero_proof.proofs.Standing.{length_rows, rows_are, rows_stand}
use Rattle.lzk_soundness.specs.Sumchecks.Passing.{Passes}
use Rattle.lzk_hiding.specs.Seen.{IsSeen}
use Rattle.lzk_hiding.specs.Laws.{IsCase, SeenPasses, ProofsAreSeen}
use Rattle.lzk_hiding.proofs.Satisfying.{satisfies}
use Rattle.lzk_hiding.proofs.Lists.{length-flat_map}
use Rattle.lzk_accept.specs.Challenges.{transcript}

module _ {A : Type 0} (o : Ops A) (e : Coding A) (laws : Laws o e.size e.number e.element e.bytes) (c : Wiring A) (public private : List A) (s : Script A) (ch : Challenges A) (columns : List ℕ) (word : ℕ → ℕ) (proof : Proof A) (case : IsCase o e c public private s columns) (seen : IsSeen o e c public s ch columns private word proof) where
  abbrev p : Params
  p = params_of c

  abbrev rows : List (List A)
  rows = tableau o e c private word

  b : AreBounded p
  b = params_bounded o c case.valid

  abbrev lists : ℕ → List A
  lists = combined_row_of o e.element c public s proof.messages ch

  opens : AreOpened o e.element p rows proof columns
  unfolding column
  opens = columns_open o e.element p rows proof columns (length_rows o e c private word b) seen.opened

  long_columns : length proof.columns ≡ length columns * p.nrow
  unfolding column
  long_columns = ap length seen.opened ∙ length-flat_map (column o e c private word) p.nrow columns (λ j. length-map rows _ ∙ length_rows o e c private word b)

  pub passes : Passes o e c public s ch columns proof
  passes =
      let are : AreRows p rows = rows_are o e c private word b in
      let stands : Stands o c (committed o e c private word) rows = rows_stand o e c private word b laws.ring in
      let sat = satisfies o e laws c public private s columns case word proof.messages seen.layers in
      let coefficient = coefficient_of o e.element c public s proof.messages in
      let right = right_of o e.element c public s proof.messages in
      let zeros = zeros_stand laws c coefficient right (committed o e c private word) rows ch.v b are sat stands in
      let quads = length-values_of o e.element p.dblock (quadratic_answer o e.element p rows ch.v) in
      let lengths : (i : ℕ) → i < p.nrow - 3 → length (lists (3 + i)) ≡ p.block = λ i h. let row = combined_rows o e.element c coefficient ch (3 + i) in row.count in
      record {
        messages = seen.count;
        ldt = ap length seen.answers.low_degree ∙ length-values_of o e.element p.block (low_degree_answer o e.element p rows ch.u);
        dot = ap length seen.answers.linear ∙ length-values_of o e.element p.dblock (linear_answer o e.element p rows lists);
        quad_head = ap length seen.answers.quad_head ∙ length-take-le opened_count (quadratic_of o e.element p rows ch.v) (omega (arith, quads, b.block, b.dblock));
        quad_tail = ap length seen.answers.quad_tail ∙ omega (arith, length-drop p.block (quadratic_of o e.element p rows ch.v), quads);
        opened = long_columns;
        low_degree = low_degree_passes laws p rows proof columns ch.u b are opens seen.answers.low_degree;
        linear_sum = linear_sum_stands laws c coefficient right ch (committed o e c private word) rows proof b are sat stands seen.answers.linear;
        linear = linear_passes laws p rows proof columns lists b are opens lengths seen.answers.linear;
        quadratic = quadratic_passes laws p rows proof columns ch.v b are opens zeros (record { head = seen.answers.quad_head; tail = seen.answers.quad_tail });
      }

pub seen_passes : {A : Type 0} (o : Ops A) (e : Coding A) → Laws o e.size e.number e.element e.bytes → SeenPasses o e
seen_passes o e laws = λ c public private s ch columns word proof case seen. passes o e laws c public private s ch columns word proof case seen

pub proofs_are_seen : {A : Type 0} (o : Ops A) (e : Coding A) → ProofsAreSeen o e
unfolding transcript
proofs_are_seen o e = λ c session public private word proof is. record { count = is.messages.count; layers = is.messages.layers; answers = is.answers; opened = is.opened.columns }

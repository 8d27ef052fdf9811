-- The file of the proof of any inputs meets all conditions but that on the linear answer's sum: the rows stand for their list, whose products are
-- right whatever the inputs are.
use Rattle.std.specs.Prelude.{◌≡◌, ℕ, ◌+◌, ◌-◌, ◌<◌, List, length}
use Rattle.std.proofs.Common.{◌∙◌}
use Rattle.lzk_field.specs.Coding.{Coding}
use Rattle.lzk_field.specs.Ring.{Ops, RingLaws}
use Rattle.lzk_field.specs.Sums.{entry}
use Rattle.lzk_field.proofs.RingBasics.{zero_times}
use Rattle.lzk_field.proofs.SumLaws.{sum-ext, sum-zero}
use Rattle.lzk_circuit.specs.Valid.{Wiring}
use Rattle.lzk_circbytes.specs.Files.{id_of}
use Rattle.lzk_layout.specs.declared.proof.Proof.{Proof}
use Rattle.lzk_layout.specs.Sizes.{AreBounded, params_of, committed_count}
use Rattle.lzk_layout.proofs.SizeLaws.{params_bounded}
use Rattle.lzk_accept.specs.Challenges.{Transcript, transcript}
use Rattle.lzk_accept.specs.Checks.{coefficient_of, combined_row_of}
use Rattle.lzk_ligero_answers.specs.Opened.{Satisfies, Stands}
use Rattle.lzk_ligero_answers.specs.Opened as answers
use Rattle.lzk_ligero_answers.specs.Rows.{AreRows}
use Rattle.lzk_ligero_tableau.specs.Tableau.{column, committed, tableau}
use Rattle.lzk_ligero_proof.specs.AnyInputs.{AnyInputs}
use Rattle.lzk_ligero_proof.proofs.Checked.{AnswersPass}
use Rattle.lzk_ligero_proof.proofs.CommittedEntries.{products}
use Rattle.lzk_ligero_proof.proofs.OpenedColumns.{length_drawn, drawn_opened, path_count, root_found}
use Rattle.lzk_ligero_proof.proofs.Standing.{length_rows, rows_are, rows_stand}

pub any_inputs : {A : Type 0} (o : Ops A) (e : Coding A) → RingLaws o → AnswersPass o e.element → AnyInputs o e
unfolding column
any_inputs {A} o e r pass = λ c session public private word bytes valid counts f.
    let q = f.proof in
    let p = params_of c in
    let b = params_bounded o c valid in
    let id = id_of e c in
    let t = transcript o e c session id public q in
    let w = committed o e c private word in
    let rows = tableau o e c private word in
    let many = length_drawn o e c b session id public q in
    let drawn = drawn_opened o e c b session id public q in
    let coefficient = coefficient_of o e.element c public t.script q.messages in
    let lists = combined_row_of o e.element c public t.script q.messages t.challenges in
    let are : AreRows p rows = rows_are o e c private word b in
    let opened : answers.AreOpened o e.element p rows q t.columns = pass.columns p rows q t.columns (length_rows o e c private word b) f.is.opened.columns in
    let stands : Stands o c w rows = rows_stand o e c private word b r in
    let nothing : Satisfies o c (λ i j. o.zero) (λ i. o.zero) w = record {
      linear = λ i h. sum-ext o r (committed_count c) (λ j. o.times o.zero (entry o w j)) (λ j. o.zero) (λ j l. zero_times o r (entry o w j)) ∙ sum-zero o r (committed_count c);
      products = products o e c private word counts.1;
    } in
    let zeros = pass.zeros c (λ i j. o.zero) (λ i. o.zero) w rows t.challenges.v b are nothing stands in
    let lengths : (i : ℕ) → i < p.nrow - 3 → length (lists (3 + i)) ≡ p.block = λ i h. let row = pass.combined c coefficient t.challenges (3 + i) in row.count in
    record {
      proof = q;
      opens = record {
        format = f.written;
        circuit_id = f.is.id;
        path_count = path_count o e c private word b t.columns q many drawn f.is.opened.nonces f.is.opened.columns f.is.opened.path;
        root = root_found o e c private word b t.columns q many drawn f.is.opened.nonces f.is.opened.columns f.is.opened.path f.is.root;
      };
      columns = record {
        low_degree = pass.low_degree p rows q t.columns t.challenges.u b are opened f.is.answers.low_degree;
        linear = pass.linear p rows q t.columns lists b are opened lengths f.is.answers.linear;
        quadratic = pass.quadratic p rows q t.columns t.challenges.v b are opened zeros (record { head = f.is.answers.quad_head; tail = f.is.answers.quad_tail });
      };
    }

-- The file of the proof of satisfying inputs is accepted.
use Rattle.lzk_field.specs.Coding.{Coding}
use Rattle.lzk_field.specs.Ring.{Ops, RingLaws}
use Rattle.lzk_layout.proofs.SizeLaws.{params_bounded}
use Rattle.lzk_accept.specs.Challenges.{transcript}
use Rattle.lzk_ligero_proof.specs.Changed.{unchanged}
use Rattle.lzk_circbytes.specs.Files.{id_of}
use Rattle.lzk_verify.specs.Verdict.{AllHold}
use Rattle.lzk_verify.proofs.Acceptance.{accepts_exactly}
use Rattle.lzk_ligero_proof.specs.Complete.{Complete}
use Rattle.lzk_ligero_proof.specs.Residuals.{ResidualsVanish}
use Rattle.lzk_ligero_proof.proofs.Checked.{AnswersPass, are_right}
use Rattle.lzk_ligero_proof.proofs.OpenedColumns.{length_drawn, drawn_opened, path_count, root_found}

pub complete : {A : Type 0} (o : Ops A) (e : Coding A) → RingLaws o → ResidualsVanish o e → AnswersPass o e.element → Complete o e
complete o e r vanish pass = λ c session public private word bytes valid counts satisfied f.
    let q = f.proof in
    let b = params_bounded o c valid in
    let id = id_of e c in
    let many = length_drawn o e c b session id public q in
    let drawn = drawn_opened o e c b session id public q in
    let js = (transcript o e c session id public q).columns in
    let answers = f.is.answers in
    let right = are_right o e c session public private word q r valid counts unchanged f.is vanish satisfied pass in
    let all : AllHold o e c session public bytes = record {
      proof = q;
      opens = record {
        format = f.written;
        circuit_id = f.is.id;
        path_count = path_count o e c private word b js q many drawn f.is.opened.nonces f.is.opened.columns f.is.opened.path;
        root = root_found o e c private word b js q many drawn f.is.opened.nonces f.is.opened.columns f.is.opened.path f.is.root;
      };
      sum = right.linear_sum q answers.linear;
      columns = record {
        low_degree = right.low_degree answers.low_degree;
        linear = right.linear answers.linear;
        quadratic = right.quadratic (record { head = answers.quad_head; tail = answers.quad_tail });
      };
    } in
    (accepts_exactly o e c session public bytes).1 all

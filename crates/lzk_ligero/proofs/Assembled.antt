-- A proof whose parts were made step by step is the prover's.
use Rattle.std.specs.Prelude.{◌≡◌, ℕ, List, map}
use Rattle.std.specs.List.{flat_map}
use Rattle.std.proofs.Common.{ap, ◌∙◌, subst}
use Rattle.lzk_field.specs.Coding.{Coding}
use Rattle.lzk_field.specs.Ring.{Ops}
use Rattle.lzk_circuit.specs.Valid.{Wiring}
use Rattle.lzk_circuit.specs.Wires.{all_values, inputs_of}
use Rattle.lzk_layout.specs.declared.proof.Proof.{Proof}
use Rattle.lzk_layout.specs.Sizes.{params_of}
use Rattle.lzk_merkle.specs.Nodes.{tree_node, path_nodes}
use Rattle.lzk_sumcheck.specs.Messages.{AreMessages}
use Rattle.lzk_sumcheck.specs.Opening.{opening}
use Rattle.lzk_accept.specs.Challenges.{Transcript, transcript}
use Rattle.lzk_ligero_tableau.specs.Tableau as prover
use Rattle.lzk_ligero_proof.specs.Answered.{Answers, AreSent, answers_of}
use Rattle.lzk_circbytes.specs.Files.{id_of}
use Rattle.lzk_ligero_proof.specs.Proving.{given, rows, digests, pads, IsProofBy}

-- Of a proof the tape reads root, sent elements and answers alone.
pub transcript_of : {A : Type 0} (o : Ops A) (e : Coding A) (c : Wiring A) (session id : List ℕ) (public : List A) (q r : Proof A)
    → q.root ≡ r.root → q.messages ≡ r.messages → q.ldt ≡ r.ldt → q.dot ≡ r.dot → q.quad_head ≡ r.quad_head → q.quad_tail ≡ r.quad_tail
    → transcript o e c session id public q ≡ transcript o e c session id public r
unfolding transcript
transcript_of o e c session id public q r roots messages ldts dots heads tails i =
    transcript o e c session id public (record q { root = roots i; messages = messages i; ldt = ldts i; dot = dots i; quad_head = heads i; quad_tail = tails i })

module _ {A : Type 0} (o : Ops A) (e : Coding A) (c : Wiring A) (session : List ℕ) (public private : List A) (word : ℕ → ℕ) where
  -- The transcript was drawn with the proof's own id, which is the circuit's.
  pub assembled : (change : Answers A → Answers A) (proof : Proof A) (t : Transcript A) → proof.id ≡ id_of e c
      → proof.root ≡ tree_node (params_of c).mcol (digests o e c session public private word) 1
      → AreMessages o e c (all_values o c.layers (inputs_of o public private)) (pads o e c session public private word) (opening e session proof.id public proof.root) proof.messages
      → t ≡ transcript o e c session proof.id public proof
      → AreSent (params_of c) (change (answers_of o e.element c (params_of c) public t.script proof.messages t.challenges (rows o e c session public private word))) proof
      → proof.nonces ≡ map (prover.nonce o e c private word) t.columns
      → proof.columns ≡ flat_map (prover.column o e c private word) t.columns
      → proof.path.digests ≡ map (tree_node (params_of c).mcol (digests o e c session public private word)) (path_nodes (params_of c).mcol t.columns)
      → IsProofBy o e c session public private word change proof
  assembled change proof t id root messages drawn answers nonces columns path =
      let same : t ≡ given o e c session public private word proof = drawn ∙ ap (λ d. transcript o e c session d public proof) id in
      record {
        id = id;
        root = root;
        messages = subst (λ d. AreMessages o e c (all_values o c.layers (inputs_of o public private)) (pads o e c session public private word) (opening e session d public proof.root) proof.messages) id messages;
        answers = subst (λ (t : Transcript A). AreSent (params_of c) (change (answers_of o e.element c (params_of c) public t.script proof.messages t.challenges (rows o e c session public private word))) proof) same answers;
        opened = record {
          nonces = nonces ∙ ap (λ (t : Transcript A). map (prover.nonce o e c private word) t.columns) same;
          columns = columns ∙ ap (λ (t : Transcript A). flat_map (prover.column o e c private word) t.columns) same;
          path = path ∙ ap (λ (t : Transcript A). map (tree_node (params_of c).mcol (digests o e c session public private word)) (path_nodes (params_of c).mcol t.columns)) same;
        };
      }

-- A circuit, a session, inputs and random words have one file of a proof at most.
use Rattle.lzk_profile.specs.Profile.{opened_count}
use Rattle.std.specs.Prelude.{◌≡◌, ℕ, List, map, take, drop}
use Rattle.std.specs.List.{flat_map}
use Rattle.std.proofs.Common.{sym, ap, ◌∙◌, subst}
use Rattle.lzk_field.specs.Coding.{Coding}
use Rattle.lzk_field.specs.Ring.{Ops}
use Rattle.lzk_circuit.specs.Valid.{Wiring}
use Rattle.lzk_circuit.specs.Wires.{all_values, inputs_of}
use Rattle.lzk_layout.specs.declared.proof.Proof.{Proof}
use Rattle.lzk_layout.specs.Sizes.{params_of}
use Rattle.lzk_layout.specs.Files.{IsSameProof}
use Rattle.lzk_layout.specs.Proofs.{flat, fields_of, element_field}
use Rattle.lzk_merkle.specs.Nodes.{tree_node, path_nodes}
use Rattle.lzk_sumcheck.specs.Messages.{AreMessages}
use Rattle.lzk_sumcheck.specs.Opening.{opening}
use Rattle.lzk_accept.specs.Challenges.{Transcript, transcript}
use Rattle.lzk_accept.specs.Checks.{combined_row_of}
use Rattle.lzk_accept.specs.declared.challenges.Challenges.{Challenges}
use Rattle.lzk_sumcheck.specs.declared.script.Script.{Script}
use Rattle.lzk_poly.specs.Through.{values_of}
use Rattle.lzk_ligero_answers.specs.Answers as answers
use Rattle.lzk_ligero_tableau.specs.Tableau as prover
use Rattle.lzk_circbytes.specs.Files.{id_of}
use Rattle.lzk_ligero_proof.specs.Proving.{given, rows, digests, pads, IsProofOf, OneFile}
use Rattle.lzk_ligero_proof.proofs.OneMessages.{one-list}

module _ {A : Type 0} (o : Ops A) (e : Coding A) (c : Wiring A) (session : List ℕ) (public private : List A) (word : ℕ → ℕ) where
  -- the script and the challenges stand on root and messages alone
  given-script : (q r : Proof A) → q.root ≡ r.root → q.messages ≡ r.messages → (given o e c session public private word q).script ≡ (given o e c session public private word r).script
  unfolding transcript
  given-script q r roots messages i = (transcript o e c session (id_of e c) public (record q { root = roots i; messages = messages i })).script

  given-challenges : (q r : Proof A) → q.root ≡ r.root → q.messages ≡ r.messages → (given o e c session public private word q).challenges ≡ (given o e c session public private word r).challenges
  unfolding transcript
  given-challenges q r roots messages i = (transcript o e c session (id_of e c) public (record q { root = roots i; messages = messages i })).challenges

  -- and all that is given on the answers too
  given-all : (q r : Proof A) → q.root ≡ r.root → q.messages ≡ r.messages → q.ldt ≡ r.ldt → q.dot ≡ r.dot → q.quad_head ≡ r.quad_head → q.quad_tail ≡ r.quad_tail
      → given o e c session public private word q ≡ given o e c session public private word r
  unfolding transcript
  given-all q r roots messages ldts dots heads tails i =
      transcript o e c session (id_of e c) public (record q { root = roots i; messages = messages i; ldt = ldts i; dot = dots i; quad_head = heads i; quad_tail = tails i })

  -- two proofs of them are equal, whatever room their paths have
  one-proof : (q r : Proof A) → IsProofOf o e c session public private word q → IsProofOf o e c session public private word r → IsSameProof q r
  one-proof q r f g =
      let p = params_of c in
      let all = rows o e c session public private word in
      let values = all_values o c.layers (inputs_of o public private) in
      let sent = pads o e c session public private word in
      let roots : q.root ≡ r.root = f.root ∙ sym g.root in
      let messages : q.messages ≡ r.messages =
      one-list o e c values sent (opening e session (id_of e c) public q.root) q.messages r.messages f.messages
      (subst (λ x. AreMessages o e c values sent (opening e session (id_of e c) public x) r.messages) (sym roots) g.messages) in
      let scripts = given-script q r roots messages in
      let challenges = given-challenges q r roots messages in
      let linear : List A → Script A → Challenges A → List A = λ ms s ch. values_of o e.element p.dblock (answers.linear_answer o e.element p all (combined_row_of o e.element c public s ms ch)) in
      let quadratic : Challenges A → List A = λ ch. values_of o e.element p.dblock (answers.quadratic_answer o e.element p all ch.v) in
      let ldts : q.ldt ≡ r.ldt =
      f.answers.low_degree ∙ ap (λ (ch : Challenges A). values_of o e.element p.block (answers.low_degree_answer o e.element p all ch.u)) challenges ∙ sym g.answers.low_degree in
      let lines : linear q.messages (given o e c session public private word q).script (given o e c session public private word q).challenges ≡ linear r.messages (given o e c session public private word r).script (given o e c session public private word r).challenges =
      (λ i. linear (messages i) (scripts i) (challenges i)) in
      let dots : q.dot ≡ r.dot = f.answers.linear ∙ lines ∙ sym g.answers.linear in
      let heads : q.quad_head ≡ r.quad_head = f.answers.quad_head ∙ ap (λ ch. take opened_count (quadratic ch)) challenges ∙ sym g.answers.quad_head in
      let tails : q.quad_tail ≡ r.quad_tail = f.answers.quad_tail ∙ ap (λ ch. drop p.block (quadratic ch)) challenges ∙ sym g.answers.quad_tail in
      let same = given-all q r roots messages ldts dots heads tails in
      record {
        id = f.id ∙ sym g.id;
        root = roots;
        messages = messages;
        ldt = ldts;
        dot = dots;
        quad_head = heads;
        quad_tail = tails;
        nonces = f.opened.nonces ∙ ap (λ (t : Transcript A). map (prover.nonce o e c private word) t.columns) same ∙ sym g.opened.nonces;
        columns = f.opened.columns ∙ ap (λ (t : Transcript A). flat_map (prover.column o e c private word) t.columns) same ∙ sym g.opened.columns;
        path = f.opened.path ∙ ap (λ (t : Transcript A). map (tree_node p.mcol (digests o e c session public private word)) (path_nodes p.mcol t.columns)) same ∙ sym g.opened.path;
      }

-- equal proofs have equal fields
same-fields : {A : Type 0} (field : A → List ℕ) (n : ℕ) (q r : Proof A) → IsSameProof q r → fields_of field n q ≡ fields_of field n r
same-fields field n q r s i =
    fields_of field n (record {
      id = s.id i;
      root = s.root i;
      messages = s.messages i;
      ldt = s.ldt i;
      dot = s.dot i;
      quad_head = s.quad_head i;
      quad_tail = s.quad_tail i;
      nonces = s.nonces i;
      columns = s.columns i;
      path = record { digests = s.path i; room = q.path.room };
    })

pub one-file : {A : Type 0} (o : Ops A) (e : Coding A) → OneFile o e
one-file o e = λ c session public private word a b f g.
    f.written.are
    ∙ ap flat (same-fields (element_field e.bytes e.number) (params_of c).nrow f.proof g.proof (one-proof o e c session public private word f.proof g.proof f.is g.is))
    ∙ sym g.written.are

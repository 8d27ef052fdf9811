-- A valid circuit, a session, inputs and random words have a proof, and the proof has a file.
use Rattle.lzk_profile.specs.Profile.{opened_count, most_digests}
use Rattle.std.specs.Prelude.{◌≡◌, ℕ, ◌+◌, ◌-◌, ◌*◌, ◌/◌, ◌^◌, ◌<◌, ◌≤◌, List, [], ◌∷◌, length, map, take, drop, slice_index, slice_index_or}
use Rattle.std.specs.List.{flat_map}
use Rattle.std.proofs.Common.{refl, ap, ◌∙◌, arith}
use Rattle.std.proofs.lemmas.List.{length-append, length-map, get_or-map, length-take-le, length-drop}
use Rattle.std.proofs.lemmas.List.FromFn.{get_or-map-range_with_len, length-map-range_with_len}
use Rattle.sha2.proofs.Facts256.{length-sha256}
use Rattle.lzk_field.specs.Bytes.{bytes_of}
use Rattle.lzk_field.specs.Coding.{Coding}
use Rattle.lzk_field.specs.Ring.{Ops}
use Rattle.lzk_field.proofs.ByteForms.{length-bytes_of}
use Rattle.lzk_poly.specs.Through.{values_of}
use Rattle.lzk_poly.proofs.Through.{length-values_of}
use Rattle.lzk_transcript.proofs.Opened.{length-opened, opened-below}
use Rattle.lzk_merkle.specs.Leaf.{leaf_of}
use Rattle.lzk_merkle.specs.Nodes.{path_nodes, tree_node}
use Rattle.lzk_merkle.proofs.PathLength.{needed_few}
use Rattle.lzk_merkle.proofs.TreeDigests.{path_node, length_tree_node}
use Rattle.lzk_circuit.specs.Valid.{Wiring}
use Rattle.lzk_circuit.specs.Wires.{all_values, inputs_of}
use Rattle.lzk_layout.specs.declared.params.Params.{Params}
use Rattle.lzk_layout.specs.declared.proof.Proof.{Proof}
use Rattle.lzk_layout.specs.Sizes.{AreBounded, params_of}
use Rattle.lzk_layout.specs.Proofs.{flat, fields_of, element_field, AreDigests, HasLengths, ProofBytes}
use Rattle.lzk_layout.proofs.SizeLaws.{params_bounded}
use Rattle.lzk_sumcheck.specs.Messages.{AreMessages}
use Rattle.lzk_sumcheck.specs.Opening.{opening}
use Rattle.lzk_accept.specs.Challenges.{Transcript, transcript}
use Rattle.lzk_accept.specs.Checks.{combined_row_of}
use Rattle.lzk_ligero_answers.specs.Answers.{low_degree_answer, linear_answer, quadratic_answer}
use Rattle.lzk_ligero_tableau.specs.Tableau.{nonce_words, column, nonce, leaves, tableau, row_at}
use Rattle.lzk_ligero_proof.specs.Answered.{AreSent}
use Rattle.lzk_circbytes.specs.Files.{id_of}
use Rattle.lzk_ligero_proof.specs.Proving.{given, rows, digests, pads, own_answers, AreOpened, IsProofOf, IsProofFile, SomeFile}
use Rattle.lzk_ligero_proof.proofs.SomeMessages.{messages, are_messages}

-- lists of one length, one after the other
length_blocks : {A : Type 0} (f : ℕ → List A) (n : ℕ) (js : List ℕ) → ((j : ℕ) → length (f j) ≡ n) → length (flat_map f js) ≡ length js * n
length_blocks f n [] same = omega arith
length_blocks f n (j ∷ js) same =
    let s : length (j ∷ js) * n ≡ n + length js * n = omega arith in
    omega (arith, s, same j, length-append (f j) (flat_map f js), length_blocks f n js same)

module _ {A : Type 0} (o : Ops A) (e : Coding A) (c : Wiring A) (session : List ℕ) (public private : List A) (word : ℕ → ℕ) where
  abbrev p : Params
  p = params_of c

  abbrev all : List (List ℕ)
  all = digests o e c session public private word

  abbrev root : List ℕ
  root = tree_node p.mcol all 1

  abbrev sent : List A
  sent = messages o e c (all_values o c.layers (inputs_of o public private)) (pads o e c session public private word) (opening e session (id_of e c) public root)

  abbrev tape_of : Proof A → Transcript A
  tape_of q = given o e c session public private word q

  -- what is committed to and sent, with nothing answered
  unfoldable begun : Proof A
  begun = record { id = id_of e c; root = root; messages = sent; ldt = []; dot = []; quad_head = []; quad_tail = []; nonces = []; columns = []; path = record { digests = []; room = most_digests } }

  -- the values of the answers
  unfoldable ldt : List A
  ldt = values_of o e.element p.block (low_degree_answer o e.element p (rows o e c session public private word) (tape_of begun).challenges.u)

  unfoldable dot : List A
  dot = values_of o e.element p.dblock (linear_answer o e.element p (rows o e c session public private word) (combined_row_of o e.element c public (tape_of begun).script sent (tape_of begun).challenges))

  unfoldable quad : List A
  quad = values_of o e.element p.dblock (quadratic_answer o e.element p (rows o e c session public private word) (tape_of begun).challenges.v)

  -- the proof with its answers, and nothing opened
  unfoldable answered : Proof A
  answered = record { id = id_of e c; root = root; messages = sent; ldt = ldt; dot = dot; quad_head = take opened_count quad; quad_tail = drop p.block quad; nonces = []; columns = []; path = record { digests = []; room = most_digests } }

  abbrev js : List ℕ
  js = (tape_of answered).columns

  abbrev nonce_at : ℕ → List ℕ
  nonce_at = nonce o e c private word

  abbrev column_at : ℕ → List A
  column_at = column o e c private word

  -- the proof
  unfoldable whole : Proof A
  whole = record {
    id = id_of e c;
    root = root;
    messages = sent;
    ldt = ldt;
    dot = dot;
    quad_head = take opened_count quad;
    quad_tail = drop p.block quad;
    nonces = map nonce_at js;
    columns = flat_map column_at js;
    path = record { digests = map (tree_node p.mcol all) (path_nodes p.mcol js); room = most_digests };
  }

  -- what is opened has no part in what the tape gives
  same_tape : tape_of whole ≡ tape_of answered
  unfolding transcript whole answered
  same_tape = refl

  sent_are : AreMessages o e c (all_values o c.layers (inputs_of o public private)) (pads o e c session public private word) (opening e session (id_of e c) public whole.root) whole.messages
  unfolding whole
  sent_are = are_messages o e c (all_values o c.layers (inputs_of o public private)) (pads o e c session public private word) (opening e session (id_of e c) public root)

  answers_are : AreSent p (own_answers o e c session public private word whole) whole
  unfolding transcript begun ldt dot quad whole
  answers_are = record { low_degree = refl; linear = refl; quad_head = refl; quad_tail = refl }

  opened_are : AreOpened o e c session public private word whole
  unfolding transcript answered whole
  opened_are = record { nonces = refl; columns = refl; path = refl }

  is_proof : IsProofOf o e c session public private word whole
  unfolding whole
  is_proof = record { id = refl; root = refl; messages = sent_are; answers = answers_are; opened = opened_are }

  -- ---- its lengths

  module _ (b : AreBounded p) where
    many : length js ≡ opened_count
    unfolding transcript
    many = length-opened p.mcol opened_count _ (omega (arith, b.mcol, b.block))

    below : (k : ℕ) → k < length js → slice_index js k < p.mcol
    unfolding transcript
    below k h = opened-below p.mcol opened_count _ k h

    length_ldt : length ldt ≡ p.block
    unfolding ldt
    length_ldt = length-values_of o e.element p.block _

    length_dot : length dot ≡ p.dblock
    unfolding dot
    length_dot = length-values_of o e.element p.dblock _

    length_quad : length quad ≡ p.dblock
    unfolding quad
    length_quad = length-values_of o e.element p.dblock _

    length_nonce : (j : ℕ) → length (nonce_at j) ≡ 32
    unfolding nonce
    length_nonce j =
        let first = word (nonce_words p + 2 * j) in
        let second = word (nonce_words p + 2 * j + 1) in
        omega (arith, length-append (bytes_of 16 first) (bytes_of 16 second), length-bytes_of 16 first, length-bytes_of 16 second)

    length_rows : length (tableau o e c private word) ≡ p.nrow
    unfolding tableau
    length_rows = omega (arith, length-map-range_with_len (row_at o e c private word) 3 (p.nrow - 3), b.rows)

    length_column : (j : ℕ) → length (column_at j) ≡ p.nrow
    unfolding column
    length_column j = length-map (tableau o e c private word) _ ∙ length_rows

    length_leaf : (j : ℕ) → j < p.mcol → length (slice_index_or all j []) ≡ 32
    unfolding leaves leaf_of
    length_leaf j h = ap length (get_or-map-range_with_len (λ i. leaf_of e.bytes e.number (nonce_at i) (column_at i)) 0 p.mcol j j [] h (omega arith)) ∙ length-sha256 _

    length_digest : (i : ℕ) → 1 ≤ i → i < 2 * p.mcol → length (tree_node p.mcol all i) ≡ 32
    length_digest i low high = length_tree_node p.mcol all i length_leaf low high

    few : length (map (tree_node p.mcol all) (path_nodes p.mcol js)) ≤ most_digests
    few =
        let levels : ℕ = most_digests / opened_count in
        let most : length js * levels ≡ most_digests = ap (λ (n : ℕ). n * levels) many in
        let tall : p.mcol ≤ 2 ^ levels = omega (arith, b.mcol, b.block, b.wr) in
        omega (arith, length-map (path_nodes p.mcol js) (tree_node p.mcol all), most, needed_few p.mcol levels js tall below)

    nonces_are : AreDigests (map nonce_at js)
    nonces_are k h = ap length (get_or-map nonce_at js k 0 [] (omega (arith, h, length-map js nonce_at))) ∙ length_nonce (slice_index js k)

    path_is : AreDigests (map (tree_node p.mcol all) (path_nodes p.mcol js))
    path_is k h =
        let nodes = path_nodes p.mcol js in
        let inside : k < length nodes = omega (arith, h, length-map nodes (tree_node p.mcol all)) in
        let node = path_node p.mcol js k inside in
        ap length (get_or-map (tree_node p.mcol all) nodes k 0 [] inside) ∙ length_digest (slice_index nodes k) (omega (arith, node.0)) node.1

    id_is : length (id_of e c) ≡ 32
    id_is = length-sha256 _

    lengths_are : HasLengths p whole
    unfolding whole
    lengths_are = record {
      messages = sent_are.count;
      ldt = length_ldt;
      dot = length_dot;
      quad_head = length-take-le opened_count quad (omega (arith, length_quad, b.block, b.dblock));
      quad_tail = length-drop p.block quad ∙ omega (arith, length_quad);
      nonces = length-map js nonce_at ∙ many;
      columns = length_blocks column_at p.nrow js length_column ∙ ap (λ (n : ℕ). n * p.nrow) many;
    }

    abbrev file : List ℕ
    file = flat (fields_of (element_field e.bytes e.number) p.nrow whole)

    has_file : ProofBytes e.bytes e.number p whole file
    unfolding whole
    has_file = record {
      lengths = lengths_are;
      few = few;
      id = id_is;
      root = length_digest 1 (omega arith) (omega (arith, b.mcol, b.block));
      nonces = nonces_are;
      path = path_is;
      are = refl;
    }

    pub proof_file : (bytes : List ℕ) × IsProofFile o e c session public private word bytes
    proof_file = (file, record { proof = whole; is = is_proof; written = has_file })

pub some-file : {A : Type 0} (o : Ops A) (e : Coding A) → SomeFile o e
some-file o e = λ c session public private word valid counts words. proof_file o e c session public private word (params_bounded o c valid)

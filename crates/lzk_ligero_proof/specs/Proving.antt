-- The one proof of a circuit, a session, inputs and random words, and its file.
use Rattle.std.specs.Prelude.{◌≡◌, ◌≤◌, ◌<◌, ◌^◌, ℕ, List, length, map}
use Rattle.std.specs.List.{flat_map}
use Rattle.lzk_field.specs.Coding.{Coding}
use Rattle.lzk_field.specs.Ring.{Ops}
use Rattle.lzk_merkle.specs.Nodes.{tree_node, path_nodes}
use Rattle.lzk_circuit.specs.Valid.{Wiring, IsValid}
use Rattle.lzk_circuit.specs.Wires.{all_values, inputs_of}
use Rattle.lzk_circbytes.specs.Files.{id_of}
use Rattle.lzk_layout.specs.declared.params.Params.{Params}
use Rattle.lzk_layout.specs.declared.proof.Proof.{Proof}
use Rattle.lzk_layout.specs.Sizes.{params_of, sent_counts}
use Rattle.lzk_layout.specs.Proofs.{ProofBytes}
use Rattle.lzk_sumcheck.specs.Messages.{AreMessages}
use Rattle.lzk_sumcheck.specs.Opening.{opening}
use Rattle.lzk_accept.specs.Challenges.{Transcript, transcript}
use Rattle.lzk_ligero_tableau.specs.Tableau as prover
use Rattle.lzk_ligero_proof.specs.declared.answer.Answer.{Answer}
use Rattle.lzk_ligero_proof.specs.Answered.{Answers, answers_of, AreSent}
use Rattle.lzk_ligero_proof.specs.Changed.{unchanged, with_added}

-- the words of a source of random words, of 128 bits each
abbrev pub words_of : (ℕ → ℕ) → ℕ → ℕ
words_of = prover.low_words

-- The proof of a prover with these random words, below 2 ^ 128 each.
module _ {A : Type 0} (o : Ops A) (e : Coding A) (c : Wiring A) (session : List ℕ) (public private : List A)
    (word : ℕ → ℕ) where
  abbrev p : Params
  p = params_of c

  -- all that the tape gives to a proof
  abbrev pub given : Proof A → Transcript A
  given proof = transcript o e c session (id_of e c) public proof

  -- the rows that are committed to
  abbrev pub rows : List (List A)
  rows = prover.tableau o e c private word

  -- the digests of their columns
  abbrev pub digests : List (List ℕ)
  digests = prover.leaves o e c private word

  -- the pads of the sent elements
  abbrev pub pads : List A
  pads = prover.randoms o e word 0 (sent_counts c)

  -- The opened columns are those that the proof's own tape draws, in ascending order, each with its nonce. The path
  -- leads from them to the root.
  pub record AreOpened (proof : Proof A) : Type 0 where
    pub nonces : proof.nonces ≡ map (prover.nonce o e c private word) (given proof).columns
    pub columns : proof.columns ≡ flat_map (prover.column o e c private word) (given proof).columns
    pub path : proof.path.digests ≡ map (tree_node p.mcol digests) (path_nodes p.mcol (given proof).columns)

  -- the values of its answers, for what the tape gives behind its messages
  abbrev pub own_answers : Proof A → Answers A
  own_answers proof =
      answers_of o e.element c p public (given proof).script proof.messages (given proof).challenges rows

  -- Each part stands on what is written to the tape before it: the messages on the root, the answers on the messages,
  -- the columns on the answers, which are sent as this change leaves them.
  pub record IsProofBy (change : Answers A → Answers A) (proof : Proof A) : Type 0 where
    pub id : proof.id ≡ id_of e c
    pub root : proof.root ≡ tree_node p.mcol digests 1
    pub messages : AreMessages o e c (all_values o c.layers (inputs_of o public private)) pads
        (opening e session (id_of e c) public proof.root) proof.messages
    pub answers : AreSent p (change (own_answers proof)) proof
    pub opened : AreOpened proof

  -- its file
  pub record IsFileBy (change : Answers A → Answers A) (bytes : List ℕ) : Type 0 where
    pub proof : Proof A
    pub is : IsProofBy change proof
    pub written : ProofBytes e.bytes e.number p proof bytes

  -- the proof with its answers as they are
  abbrev pub IsProofOf : Proof A → Type 0
  IsProofOf = IsProofBy unchanged

  -- its file
  abbrev pub IsProofFile : List ℕ → Type 0
  IsProofFile = IsFileBy unchanged

  -- the file of the proof where something was added to value n of an answer before the columns were drawn
  abbrev pub IsChangedFile : Answer → ℕ → A → List ℕ → Type 0
  IsChangedFile answer n by = IsFileBy (with_added o answer n by)

-- inputs as many as a circuit has
abbrev pub HaveCounts : {A : Type 0} → Wiring A → List A → List A → Type 0
HaveCounts c public private = (length public ≡ c.publics) × (length private ≡ c.privates)

-- there is one file of a proof at most
abbrev pub OneFile : {A : Type 0} → Ops A → Coding A → Type 0
OneFile {A} o e = (c : Wiring A) (session : List ℕ) (public private : List A) (word : ℕ → ℕ) (a b : List ℕ)
    → IsProofFile o e c session public private word a → IsProofFile o e c session public private word b → a ≡ b

-- valid circuits and inputs of their counts have one, of words of 128 bits
abbrev pub SomeFile : {A : Type 0} → Ops A → Coding A → Type 0
SomeFile {A} o e =
    (c : Wiring A) (session : List ℕ) (public private : List A) (word : ℕ → ℕ) → IsValid o c
    → HaveCounts c public private → ((i : ℕ) → word i < 2 ^ 128)
    → (bytes : List ℕ) × IsProofFile o e c session public private word bytes

-- it is no longer than a proof's file may be
abbrev pub FilesFit : {A : Type 0} → Ops A → Coding A → Type 0
FilesFit {A} o e = (c : Wiring A) (session : List ℕ) (public private : List A) (word : ℕ → ℕ) (bytes : List ℕ)
    → IsValid o c → IsProofFile o e c session public private word bytes → length bytes ≤ 2097152

-- Proofs as a simulator completes them: what is seen, nonces, and a digest for each column that is not opened.
use Rattle.lzk_profile.specs.Profile.{opened_count, most_digests}
use Rattle.std.specs.Prelude.{◌≡◌, ℕ, ◌<◌, nat_lt, cond, List, [], length, map, slice_index_or}
use Rattle.std.specs.List.{range_with_len}
use Rattle.lzk_field.specs.Coding.{Coding}
use Rattle.lzk_field.specs.Ring.{Ops}
use Rattle.lzk_merkle.specs.Leaf.{leaf_of}
use Rattle.lzk_merkle.specs.Nodes.{AreOpened, place_of, path_nodes, tree_node}
use Rattle.lzk_circuit.specs.Valid.{Wiring, IsValid}
use Rattle.lzk_circbytes.specs.Files.{id_of}
use Rattle.lzk_layout.specs.declared.proof.Proof.{Proof}
use Rattle.lzk_layout.specs.Proofs.{AreDigests, ProofBytes}
use Rattle.lzk_layout.specs.Sizes.{params_of}
use Rattle.lzk_accept.specs.Challenges.{Transcript}
use Rattle.lzk_accept.specs.Checks.{column}
use Rattle.lzk_soundness.specs.Sumchecks.Passing.{Passes}
use Rattle.lzk_verify.specs.declared.verdict.Verdict.TheVariants.{Accepted}
use Rattle.lzk_verify.specs.Verdict.{IsJudged}
use Rattle.lzk_ligero_tableau.specs.Tableau.{leaves}
use Rattle.lzk_ligero_proof.specs.Proving.{IsProofOf, given}

module _ {A : Type 0} (o : Ops A) (e : Coding A) (c : Wiring A) (columns : List ℕ) (view : Proof A)
    (nonces : List (List ℕ)) (others : ℕ → List ℕ) where
  -- the digest of column j: where it is opened that of what is seen with its nonce, and elsewhere another
  abbrev pub digest_of : ℕ → List ℕ
  digest_of j =
      let k = place_of j columns in
      cond (nat_lt k (length columns)) (leaf_of e.bytes e.number (slice_index_or nonces k [])
      (column o (params_of c) view k)) (others j)

  -- those of all columns
  abbrev pub all_digests : List (List ℕ)
  all_digests = map digest_of (range_with_len 0 (params_of c).mcol)

  -- what is seen, with the circuit's id, the nonces, and the root and the path of these digests
  abbrev pub completed : Proof A
  completed = record view {
    id = id_of e c;
    root = tree_node (params_of c).mcol all_digests 1;
    nonces = nonces;
    path = record {
      digests = map (tree_node (params_of c).mcol all_digests)
          (path_nodes (params_of c).mcol columns);
      room = most_digests;
    };
  }

-- A tape may be programmed: it gives any draws that were fixed before, with 128 ascending columns. What passes by
-- these, as all that a simulator makes does, becomes by any nonces and any digests of the other columns a proof on
-- which the verdict by this tape is Accepted.
abbrev pub ProgrammedAccepted : {A : Type 0} → Ops A → Coding A → Type 0
ProgrammedAccepted {A} o e =
    (c : Wiring A) (public : List A) (t : Transcript A) (view : Proof A) (nonces : List (List ℕ)) (others : ℕ → List ℕ)
    → IsValid o c
    → AreOpened (params_of c).mcol t.columns → length t.columns ≡ opened_count
    → Passes o e c public t.script t.challenges t.columns view
    → IsJudged o e c (params_of c) public (completed o e c t.columns view nonces others) t Accepted

-- With nonces and digests of 32 bytes it has a file: so the file of a proof that a simulator makes is one on which the
-- verdict by such a tape is Accepted.
abbrev pub ProgrammedFiles : {A : Type 0} → Ops A → Coding A → Type 0
ProgrammedFiles {A} o e =
    (c : Wiring A) (public : List A) (t : Transcript A) (view : Proof A) (nonces : List (List ℕ)) (others : ℕ → List ℕ)
    → IsValid o c
    → AreOpened (params_of c).mcol t.columns → length t.columns ≡ opened_count
    → Passes o e c public t.script t.challenges t.columns view
    → length nonces ≡ opened_count → AreDigests nonces
    → ((j : ℕ) → j < (params_of c).mcol → length (others j) ≡ 32)
    → (bytes : List ℕ)
    × (ProofBytes e.bytes e.number (params_of c) (completed o e c t.columns view nonces others) bytes
    × IsJudged o e c (params_of c) public (completed o e c t.columns view nonces others) t Accepted)

-- The tree of a prover's proof is so completed, by the digests of its other columns. So root and path are a function
-- of what is seen, the nonces and these digests, and where others are put in their place the rest of the proof stays.
abbrev pub ProofsAreCompleted : {A : Type 0} → Ops A → Coding A → Type 0
ProofsAreCompleted {A} o e =
    (c : Wiring A) (session : List ℕ) (public private : List A) (word : ℕ → ℕ) (proof : Proof A) → IsValid o c
    → IsProofOf o e c session public private word proof
    → (let columns = (given o e c session public private word proof).columns in
    let whole = completed o e c columns proof proof.nonces (λ j. slice_index_or (leaves o e c private word) j []) in
    (proof.root ≡ whole.root) × (proof.path.digests ≡ whole.path.digests))

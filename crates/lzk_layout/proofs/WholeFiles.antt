-- Whole files, read part by part.
use Rattle.lzk_profile.specs.Profile.{file_letter}
use Rattle.std.proofs.Common.{◌≡◌, ℕ, eqb, true, false, List, [], ◌∷◌, ◌++◌, length, Result, Ok, Err, refl, ap, ◌∙◌, append_assoc}
use Rattle.std.specs.Int.{w32, to_le_bytes}
use Rattle.lzk_layout.specs.declared.params.Params.{Params}
use Rattle.lzk_layout.specs.declared.proof.Proof.{Proof}
use Rattle.lzk_layout.specs.declared.fault.Stop.{Stop}
use Rattle.lzk_layout.specs.declared.fault.ProofKind.TheVariants as kinds
use Rattle.lzk_layout.specs.Proofs.{opened_fields, fields_of, HasLengths}
use Rattle.lzk_layout.specs.Answers.{answer_fields, answer_sorts_of}
use Rattle.lzk_layout.specs.Fields.{Sort, Shape, magic, plain, opened_sorts, sorts_of, fields_at, path_at, proof_at}
use Rattle.lzk_layout.proofs.FieldLaws.{behind, fields_then, fields_stop}

-- the sorts of the opened columns, by the lists' lengths
abbrev pub opened_sorts_of : {A : Type 0} → ℕ → Proof A → List Sort
opened_sorts_of rows q = opened_sorts rows (length q.nonces)

abbrev pub head_sorts : List Sort
head_sorts = magic ∷ plain ∷ plain ∷ []

pub sorts_are : {A : Type 0} (p : Params) (q : Proof A) → HasLengths p q → sorts_of p ≡ head_sorts ++ (answer_sorts_of q ++ opened_sorts_of p.nrow q)
unfolding sorts_of
sorts_are p q h = rw (h.messages, h.ldt, h.dot, h.quad_head, h.quad_tail, h.nonces) refl

module _ {A : Type 0} (s : Shape) (p : Params) (q : Proof A) (lengths : HasLengths p q) (bytes : List ℕ) where
  stops_first : (d : Stop) → fields_at s (sorts_of p) bytes ≡ Err d → proof_at s p bytes ≡ Err d
  unfolding proof_at
  stops_first d e = rw e refl

  pub head_stops : (d : Stop) → fields_at s head_sorts bytes ≡ Err d → proof_at s p bytes ≡ Err d
  head_stops d e = stops_first d (ap (λ (ss : List Sort). fields_at s ss bytes) (sorts_are p q lengths) ∙ fields_stop s head_sorts (answer_sorts_of q ++ opened_sorts_of p.nrow q) bytes d e)

  module _ (hs : List (List ℕ)) (r1 : List ℕ) (head_read : fields_at s head_sorts bytes ≡ Ok (hs, r1)) where
    behind_head : fields_at s (sorts_of p) bytes ≡ behind hs (fields_at s (answer_sorts_of q ++ opened_sorts_of p.nrow q) r1)
    behind_head = ap (λ (ss : List Sort). fields_at s ss bytes) (sorts_are p q lengths) ∙ fields_then s head_sorts (answer_sorts_of q ++ opened_sorts_of p.nrow q) bytes hs r1 head_read

    pub answers_stop : (d : Stop) → fields_at s (answer_sorts_of q) r1 ≡ Err d → proof_at s p bytes ≡ Err d
    answers_stop d e = stops_first d (behind_head ∙ ap (behind hs) (fields_stop s (answer_sorts_of q) (opened_sorts_of p.nrow q) r1 d e))

    module _ (xs : List (List ℕ)) (r2 : List ℕ) (answers_read : fields_at s (answer_sorts_of q) r1 ≡ Ok (xs, r2)) where
      behind_answers : fields_at s (sorts_of p) bytes ≡ behind hs (behind xs (fields_at s (opened_sorts_of p.nrow q) r2))
      behind_answers = behind_head ∙ ap (behind hs) (fields_then s (answer_sorts_of q) (opened_sorts_of p.nrow q) r1 xs r2 answers_read)

      pub opened_stop : (d : Stop) → fields_at s (opened_sorts_of p.nrow q) r2 ≡ Err d → proof_at s p bytes ≡ Err d
      opened_stop d e = stops_first d (behind_answers ∙ ap (λ (r : Result (List (List ℕ) × List ℕ) Stop). behind hs (behind xs r)) e)

      module _ (os : List (List ℕ)) (r3 : List ℕ) (opened_read : fields_at s (opened_sorts_of p.nrow q) r2 ≡ Ok (os, r3)) where
        first_read : fields_at s (sorts_of p) bytes ≡ Ok (hs ++ (xs ++ os), r3)
        first_read = behind_answers ∙ ap (λ (r : Result (List (List ℕ) × List ℕ) Stop). behind hs (behind xs r)) opened_read

        pub path_stops_file : (d : Stop) → path_at s r3 ≡ Err d → proof_at s p bytes ≡ Err d
        unfolding proof_at
        path_stops_file d e = rw (first_read, e) refl

        pub bytes_left : (ps : List (List ℕ)) (r4 : List ℕ) → path_at s r3 ≡ Ok (ps, r4) → eqb (length r4) 0 ≡ false → proof_at s p bytes ≡ Err (record { left = length r4; kind = kinds.Trailing })
        unfolding proof_at
        bytes_left ps r4 e some = rw (first_read, e, some) refl

        pub all_read : (ps : List (List ℕ)) (r4 : List ℕ) → path_at s r3 ≡ Ok (ps, r4) → eqb (length r4) 0 ≡ true → proof_at s p bytes ≡ Ok ((hs ++ (xs ++ os)) ++ ps)
        unfolding proof_at
        all_read ps r4 e none = rw (first_read, e, none) refl

-- the fields of a file, part by part
pub fields_are : {A : Type 0} (field : A → List ℕ) (rows : ℕ) (q : Proof A)
    → (((76 ∷ file_letter ∷ 80 ∷ 49 ∷ []) ∷ q.id ∷ q.root ∷ []) ++ (answer_fields field q ++ opened_fields field rows q.nonces q.columns)) ++ (to_le_bytes w32 (length q.path.digests) ∷ q.path.digests) ≡ fields_of field rows q
fields_are field rows q = simp append_assoc

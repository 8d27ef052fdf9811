-- A front behind which no field comes is a proof's file, and the other way round.
use Rattle.std.proofs.Common.{◌≡◌, ℕ, ◌-◌, List, [], ◌∷◌, ◌++◌, length, take, replicate, Option, Some, None, Result, Ok, Err, refl, sym, ap, subst, ◌∙◌, append_assoc, arith}
use Rattle.std.specs.Prelude.{slice_get, option_map, unwrap_or}
use Rattle.std.specs.Int.{w32, to_le_bytes, from_le_bytes}
use Rattle.std.proofs.lemmas.Nat.{from_le_bytes-to_le_bytes_4}
use Rattle.std.proofs.lemmas.List.{append-nil, take_all}
use Rattle.std.proofs.lemmas.Option.{slice_get_past}
use Rattle.lzk_field.specs.Ring.{Ops, Laws}
use Rattle.lzk_layout.specs.declared.params.Params.{Params}
use Rattle.lzk_layout.specs.declared.part.ProofPart.{ProofPart}
use Rattle.lzk_layout.specs.declared.fault.Stop.{Stop}
use Rattle.lzk_layout.specs.declared.fault.ProofKind.{ProofKind}
use Rattle.lzk_layout.specs.Proofs.{flat, element_field, fields_of, ProofBytes}
use Rattle.lzk_layout.specs.Fields.{Sort, plain, count, Shape, shape, sorts_of, proof_at, AreFields, ProofFaultAt}
use Rattle.lzk_layout.specs.Parts.{parts, before_count}
use Rattle.lzk_layout.specs.Fronts.{digests_in, next_part, IsUnfinished, FileIsFront, FrontIsFile}
use Rattle.lzk_layout.proofs.WholeFiles.{fields_are}
use Rattle.lzk_layout.proofs.OneProof.{AreFields-append, first_fields, first_pass, count_passes, digests_pass}
use Rattle.lzk_layout.proofs.ReadProof.{some_proof}
use Rattle.lzk_layout.proofs.PartLaws.{get_behind}
use Rattle.lzk_layout.proofs.PartSorts.{all_sorts, length-sorts_of, length-all_sorts, length-parts}
use Rattle.lzk_layout.proofs.FrontLaws.{fields_long, front_of}
use Rattle.lzk_layout.proofs.FrontFaults.{front_whole}
use Rattle.lzk_layout.proofs.FrontOrder.{one_front}

module _ {A : Type 0} (o : Ops A) (size : ℕ) (number : A → ℕ) (element_of : ℕ → A) (bytes : ℕ) (laws : Laws o size number element_of bytes) (p : Params) where
  abbrev s : Shape
  s = shape bytes size

  abbrev field : A → List ℕ
  field = element_field bytes number

  pub file_is_front : FileIsFront bytes size number p
  file_is_front q file f =
      let ds : List (List ℕ) = q.path.digests in
      let n : ℕ = length ds in
      let path : List (List ℕ) = to_le_bytes w32 n ∷ ds in
      let first : List (List ℕ) = first_fields o size number element_of bytes laws p.nrow q in
      let fields : List (List ℕ) = fields_of field p.nrow q in
      let all : first ++ path ≡ fields = fields_are field p.nrow q in
      let whole : ProofBytes bytes number p q (flat fields) = subst (λ (t : List ℕ). ProofBytes bytes number p q t) f.are f in
      let first_are : AreFields s (sorts_of p) first = first_pass o size number element_of bytes laws p q whole in
      let path_are : AreFields s (count ∷ replicate n plain) path = (count_passes s n f.few, digests_pass s ds f.path) in
      let both : AreFields s (sorts_of p ++ (count ∷ replicate n plain)) (first ++ path) = AreFields-append s (sorts_of p) (count ∷ replicate n plain) first path first_are path_are in
      let sorts : sorts_of p ++ (count ∷ replicate n plain) ≡ all_sorts p n = sym (append_assoc (sorts_of p) (count ∷ []) (replicate n plain)) in
      let are : AreFields s (all_sorts p n) fields = subst (λ (fs : List (List ℕ)). AreFields s (all_sorts p n) fs) all (subst (λ (ss : List Sort). AreFields s ss (first ++ path)) sorts both) in
      let long : length (all_sorts p n) ≡ length fields = fields_long s (all_sorts p n) fields are in
      let first_long : length first ≡ before_count p = sym (fields_long s (sorts_of p) first first_are) ∙ length-sorts_of p in
      let at : slice_get fields (before_count p) ≡ Some (to_le_bytes w32 n) =
      ap (λ (fs : List (List ℕ)). slice_get fs (before_count p)) (sym all) ∙ get_behind first path (before_count p) (before_count p) 0 first_long (omega arith) in
      let back : from_le_bytes w32 (to_le_bytes w32 n) ≡ n = from_le_bytes-to_le_bytes_4 n (omega (arith, f.few)) in
      let known : digests_in p fields ≡ Some n = ap (option_map (from_le_bytes w32)) at ∙ ap (λ (k : ℕ). Some k) back in
      let many : unwrap_or (digests_in p fields) 0 ≡ n = ap (λ (d : Option ℕ). unwrap_or d 0) known in
      let none : next_part p fields ≡ None =
      ap (λ (k : ℕ). slice_get (parts p k) (length fields)) many ∙ slice_get_past (parts p n) (length fields) (omega (arith, long, length-parts p n, length-all_sorts p n)) in
      let pass : AreFields s (take (length fields) (all_sorts p n)) fields = subst (λ (ss : List Sort). AreFields s ss fields) (sym (take_all (length fields) (all_sorts p n) (omega (arith, long)))) are in (
        front_of s p file fields []
            (record { are = f.are ∙ sym (append-nil (flat fields)); pass = subst (λ (k : ℕ). AreFields s (take (length fields) (all_sorts p k)) fields) (sym many) pass })
            (subst (λ (d : Option ProofPart). IsUnfinished s d []) (sym none) refl),
        none,
      )

  pub front_is_file : FrontIsFile bytes size number p
  front_is_file file fields rest small front none =
      let read : proof_at s p file ≡ Ok fields = front_whole s p file fields rest front none in
      let sound : (offset : ℕ) (kind : ProofKind) → ¬ ProofFaultAt s p file offset kind = λ offset kind h. apart (record { left = length file - offset; kind = kind }) (sym read ∙ h.0) in
      let some = some_proof o size number element_of bytes laws p file small sound in
      let other = file_is_front some.proof file some.is in
      record { proof = some.proof; is = some.is; fields_are = (one_front s p file fields (fields_of field p.nrow some.proof) rest [] front other.0).0 }
    where
      apart : (d : Stop) → (let r : Result (List (List ℕ)) Stop = Ok fields in r) ≡ Err d → ⊥
      apart d e = absurd cc

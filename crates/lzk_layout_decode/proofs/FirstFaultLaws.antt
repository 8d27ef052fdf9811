-- A fault is the first check that fails, behind fields that pass.
use Rattle.std.proofs.Common.{◌≡◌, ◌≢◌, ℕ, zero, suc, ◌+◌, ◌-◌, ◌<◌, ◌≤◌, Bool, eqb, cond, false, List, [], ◌∷◌, ◌++◌, length, map, take, drop, Option, Some, None, Result, Ok, Err, refl, sym, ap, subst, ◌∙◌, append_assoc, arith, inl, inr}
use Rattle.std.specs.Prelude.{unwrap_or}
use Rattle.std.proofs.lemmas.Bool.{cases_lt, ne_eqb}
use Rattle.std.proofs.lemmas.List.{append-nil, length-append, length-take, length-drop, take-append-drop, map_push}
use Rattle.lzk_layout.specs.declared.params.Params.{Params}
use Rattle.lzk_layout.specs.declared.part.ProofPart.{ProofPart}
use Rattle.lzk_layout.specs.declared.fault.Stop.{Stop}
use Rattle.lzk_layout.specs.declared.fault.ProofKind.{ProofKind}
use Rattle.lzk_layout.specs.declared.fault.ProofKind.TheVariants as kinds
use Rattle.lzk_layout.specs.Proofs.{flat}
use Rattle.lzk_layout.specs.Fields.{Sort, Shape, wrong, stops, proof_at, IsField, AreFields, ProofFaultAt}
use Rattle.lzk_layout.specs.Parts.{sort_of, part_width}
use Rattle.lzk_layout.specs.Fronts.{digests_in, known_parts, next_part}
use Rattle.lzk_layout.specs.Readings.{digests_after}
use Rattle.lzk_layout_decode.specs.FirstFaults.{FailsNext, IsFirstFault, FaultIsFirst}
use Rattle.lzk_layout.proofs.FieldLaws.{done}
use Rattle.lzk_layout.proofs.FileLaws.{flat-append}
use Rattle.lzk_layout.proofs.Faults.{one_fault}
use Rattle.lzk_layout.proofs.OneProof.{AreFields-append}
use Rattle.lzk_layout.proofs.PartSorts.{all_sorts, take_sorts}
use Rattle.lzk_layout.proofs.FrontLaws.{IsBegun, front_stops, front_ends}
use Rattle.lzk_layout.proofs.FrontFaults.{too_short, fails_at}
use Rattle.lzk_layout.proofs.ReadingLaws.{parts_kept, digests_more, take_next, width_some}

abbrev err : ℕ → ProofKind → Result (List (List ℕ)) Stop
err left kind = Err (record { left = left; kind = kind })

module _ (s : Shape) (p : Params) (bytes : List ℕ) where
  -- ---- one field more that passes

  more_begun : (fields : List (List ℕ)) (f after : List ℕ) (part : ProofPart) → IsBegun s p bytes fields (f ++ after) → next_part p fields ≡ Some part → IsField s (sort_of part) f
      → IsBegun s p bytes (fields ++ f ∷ []) after
  more_begun fields f after part h next passes =
      let more : List (List ℕ) = fields ++ f ∷ [] in
      let k : ℕ = length fields in
      let old : Option ℕ = digests_in p fields in
      let new : Option ℕ = digests_after old part f in
      let kept = parts_kept p old f k part next in
      let sorts : map sort_of (take (k + 1) (known_parts p new)) ≡ take k (all_sorts p (unwrap_or old 0)) ++ sort_of part ∷ [] =
      ap (map sort_of) (take_next (known_parts p new) k part kept.1) ∙ map_push sort_of (take k (known_parts p new)) part
      ∙ ap (λ (xs : List ProofPart). map sort_of xs ++ sort_of part ∷ []) kept.0 ∙ ap (λ (ss : List Sort). ss ++ sort_of part ∷ []) (take_sorts p (unwrap_or old 0) k) in
      let all : take (length more) (all_sorts p (unwrap_or (digests_in p more) 0)) ≡ take k (all_sorts p (unwrap_or old 0)) ++ sort_of part ∷ [] =
      ap (λ (d : Option ℕ). take (length more) (all_sorts p (unwrap_or d 0))) (digests_more p fields f part next)
      ∙ ap (λ (j : ℕ). take j (all_sorts p (unwrap_or new 0))) (length-append fields (f ∷ [])) ∙ sym (take_sorts p (unwrap_or new 0) (k + 1)) ∙ sorts in
      record {
        are = h.are ∙ sym (append_assoc (flat fields) f after) ∙ ap (λ (bs : List ℕ). (flat fields ++ bs) ++ after) (sym (append-nil f)) ∙ ap (λ (bs : List ℕ). bs ++ after) (sym (flat-append fields (f ∷ [])));
        pass = subst (λ (ss : List Sort). AreFields s ss more) (sym all) (AreFields-append s (take k (all_sorts p (unwrap_or old 0))) (sort_of part ∷ []) fields (f ∷ []) h.pass (passes, tt));
      }

  -- ---- what fails is found

  module _ (fields : List (List ℕ)) (rest : List ℕ) (begin : IsBegun s p bytes fields rest) where
    some_left : (rest ≢ []) → eqb (length rest) 0 ≡ false
    some_left some = ne_eqb (length rest) 0 (none rest some)
      where
        none : (bs : List ℕ) → bs ≢ [] → length bs ≢ 0
        none [] h e = h refl
        none (b ∷ bs) h e = omega (arith, e)

    stops_there : (kind : ProofKind) (o : Option ProofPart) → next_part p fields ≡ o → FailsNext s o rest kind → proof_at s p bytes ≡ err (length rest) kind
    stops_there kind None next h =
        front_ends s p bytes fields rest begin next ∙ ap (λ (t : Bool). cond t (done fields) (stops kinds.Trailing rest)) (some_left h.0) ∙ ap (err (length rest)) (sym h.1)
    stops_there kind (Some part) next (inl short) =
        front_stops s p bytes fields rest begin part (record { left = length rest; kind = kinds.Truncated }) next (too_short s (sort_of part) rest short.0) ∙ ap (err (length rest)) (sym short.1)
    stops_there kind (Some part) next (inr bad) =
        front_stops s p bytes fields rest begin part (record { left = length rest; kind = kind }) next (fails_at s (sort_of part) rest kind bad.0 bad.1)

    fault_there : (kind : ProofKind) → FailsNext s (next_part p fields) rest kind → ProofFaultAt s p bytes (length (flat fields)) kind
    fault_there kind h =
        let long : length bytes ≡ length (flat fields) + length rest = ap length begin.are ∙ length-append (flat fields) rest in
        let left : length rest ≡ length bytes - length (flat fields) = omega (arith, long) in
        (stops_there kind (next_part p fields) refl h ∙ ap (λ (n : ℕ). err n kind) left, omega (arith, long))

  first_is_fault : (offset : ℕ) (kind : ProofKind) → IsFirstFault s p bytes offset kind → ProofFaultAt s p bytes offset kind
  first_is_fault offset kind h =
      let begin : IsBegun s p bytes h.fields h.rest = record {
        are = h.are;
        pass = subst (λ (ss : List Sort). AreFields s ss h.fields) (take_sorts p (unwrap_or (digests_in p h.fields) 0) (length h.fields)) h.pass;
      } in
      subst (λ (n : ℕ). ProofFaultAt s p bytes n kind) (sym h.begins) (fault_there h.fields h.rest begin kind h.fails)

  -- ---- what is found is the first

  module _ (offset : ℕ) (kind : ProofKind) (fault : ProofFaultAt s p bytes offset kind) where
    abbrev First : Type 0
    First = IsFirstFault s p bytes offset kind

    first_here : (fields : List (List ℕ)) (rest : List ℕ) → IsBegun s p bytes fields rest → (k : ProofKind) → FailsNext s (next_part p fields) rest k → First
    first_here fields rest begin k h =
        let same = one_fault s p bytes offset (length (flat fields)) kind k fault (fault_there fields rest begin k h) in
        record {
          fields = fields;
          rest = rest;
          are = begin.are;
          pass = subst (λ (ss : List Sort). AreFields s ss fields) (sym (take_sorts p (unwrap_or (digests_in p fields) 0) (length fields))) begin.pass;
          begins = same.0;
          fails = subst (λ (x : ProofKind). FailsNext s (next_part p fields) rest x) (sym same.1) h;
        }

    -- behind the last field
    first_past : (fields : List (List ℕ)) (rest : List ℕ) → IsBegun s p bytes fields rest → next_part p fields ≡ None → First
    first_past fields [] begin next =
        let apart : ◌≡◌ {A = Result (List (List ℕ)) Stop} (Ok fields) (err (length bytes - offset) kind) = sym (front_ends s p bytes fields [] begin next) ∙ fault.0 in
        absurd cc
    first_past fields (b ∷ bs) begin next =
        first_here fields (b ∷ bs) begin kinds.Trailing (subst (λ (o : Option ProofPart). FailsNext s o (b ∷ bs) kinds.Trailing) (sym next) ((λ e. cc), refl))

    -- at a field, where the first fault behind it is known
    module _ (some : 1 ≤ s.bytes) (fields : List (List ℕ)) (rest : List ℕ) (begin : IsBegun s p bytes fields rest) (part : ProofPart) (next : next_part p fields ≡ Some part)
        (later : (gs : List (List ℕ)) (r : List ℕ) → length r < length rest → IsBegun s p bytes gs r → First) where
      abbrev w : ℕ
      w = part_width s part

      abbrev f : List ℕ
      f = take w rest

      fails : (k : ProofKind) → FailsNext s (Some part) rest k → First
      fails k h = first_here fields rest begin k (subst (λ (o : Option ProofPart). FailsNext s o rest k) (sym next) h)

      judged : w ≤ length rest → (o : Option ProofKind) → wrong s (sort_of part) f ≡ o → First
      judged whole (Some k) is = fails k (inr (whole, is))
      judged whole None is =
          let apart : IsBegun s p bytes fields (f ++ drop w rest) = subst (λ (bs : List ℕ). IsBegun s p bytes fields bs) (sym (take-append-drop w rest)) begin in
          let passes : IsField s (sort_of part) f = record { long = omega (arith, length-take w rest, whole); right = is } in
          let less : length (drop w rest) < length rest = omega (arith, length-drop w rest, whole, width_some s (sort_of part) some) in
          later (fields ++ f ∷ []) (drop w rest) less (more_begun fields f (drop w rest) part apart next passes)

      first_at : First
      first_at =
          elim (cases_lt (length rest) w) [
            | inl short ↦ fails kinds.Truncated (inl (short, refl))
            | inr whole ↦ judged whole (wrong s (sort_of part) f) refl
          ]

    first_from : 1 ≤ s.bytes → (n : ℕ) (fields : List (List ℕ)) (rest : List ℕ) → length rest < n → IsBegun s p bytes fields rest → (o : Option ProofPart) → next_part p fields ≡ o → First
    first_from some zero fields rest lt begin o is = absurd (omega arith)
    first_from some (suc n) fields rest lt begin None is = first_past fields rest begin is
    first_from some (suc n) fields rest lt begin (Some part) is =
        first_at some fields rest begin part is (λ gs r less more. first_from some n gs r (omega (arith, less, lt)) more (next_part p gs) refl)

    fault_is_first : 1 ≤ s.bytes → First
    fault_is_first some = first_from some (length bytes + 1) [] bytes (omega arith) (record { are = refl; pass = tt }) (next_part p []) refl

pub first_fault : (s : Shape) (p : Params) → 1 ≤ s.bytes → FaultIsFirst s p
first_fault s p some bytes offset kind = ((λ h. fault_is_first s p bytes offset kind h some), (λ h. first_is_fault s p bytes offset kind h))

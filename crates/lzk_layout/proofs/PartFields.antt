-- Which field of a proof's file is which part of the proof.
use Rattle.lzk_profile.specs.Profile.{opened_count, file_letter}
use Rattle.std.proofs.Common.{◌≡◌, ℕ, zero, suc, ◌+◌, ◌-◌, ◌*◌, ◌<◌, List, [], ◌∷◌, ◌++◌, length, map, take, drop, Option, Some, None, refl, sym, ap, subst, ◌∙◌, arith, inl, inr}
use Rattle.std.specs.Prelude.{slice_get, option_map}
use Rattle.std.specs.List.{range_with_len, flat_map}
use Rattle.std.specs.Int.{w32, to_le_bytes}
use Rattle.std.proofs.lemmas.Bool.{cases_lt}
use Rattle.std.proofs.lemmas.List.{length-append, length-map}
use Rattle.std.proofs.lemmas.Option.{slice_get-map, slice_get_past}
use Rattle.lzk_layout.specs.declared.params.Params.{Params}
use Rattle.lzk_layout.specs.declared.proof.Proof.{Proof}
use Rattle.lzk_layout.specs.declared.part.ProofPart.{ProofPart}
use Rattle.lzk_layout.specs.declared.part.ProofPart.TheVariants.{Magic, Id, Root, Message, Ldt, Dot, QuadHead, QuadTail, Nonce, Column, Count, Digest}
use Rattle.lzk_layout.specs.Proofs.{element_field, opened_fields, fields_of, HasLengths}
use Rattle.lzk_layout.specs.Parts.{each, column_parts, opened_parts, path_parts, element_parts, parts}
use Rattle.lzk_layout.specs.Fronts.{IsPartOf, FieldsAreParts}
use Rattle.lzk_layout.proofs.OneProof.{front_count, back_count}
use Rattle.lzk_layout.proofs.PartLaws.{get_front, get_behind, length-each, get_each}

-- what stands at the same place of two lists is related
abbrev Alike : (ProofPart → List ℕ → Type 0) → List ProofPart → List (List ℕ) → Type 0
Alike P xs fs = (k : ℕ) (x : ProofPart) (f : List ℕ) → slice_get xs k ≡ Some x → slice_get fs k ≡ Some f → P x f

alike_then : (P : ProofPart → List ℕ → Type 0) (xs ys : List ProofPart) (fs gs : List (List ℕ)) → length xs ≡ length fs → Alike P xs fs → Alike P ys gs → Alike P (xs ++ ys) (fs ++ gs)
alike_then P xs ys fs gs long a b k x f e h =
    elim (cases_lt k (length xs)) [
      | inl lt ↦ a k x f (sym (get_front xs ys k lt) ∙ e) (sym (get_front fs gs k (omega (arith, long, lt))) ∙ h)
      | inr le ↦
          let j : ℕ = k - length xs in
          let at : length xs + j ≡ k = omega arith in
          b j x f (sym (get_behind xs ys (length xs) k j refl at) ∙ e) (sym (get_behind fs gs (length xs) k j (sym long) at) ∙ h)
    ]

alike_one : (P : ProofPart → List ℕ → Type 0) (x : ProofPart) (f : List ℕ) (ys : List ProofPart) (gs : List (List ℕ)) → P x f → Alike P ys gs → Alike P (x ∷ ys) (f ∷ gs)
alike_one P x f ys gs h more zero y g e i = let a : x ≡ y = cc in let b : f ≡ g = cc in subst (λ (z : ProofPart). P z g) a (subst (λ (t : List ℕ). P x t) b h)
alike_one P x f ys gs h more (suc k) y g e i = more k y g e i

each_alike : (P : ProofPart → List ℕ → Type 0) (part : ℕ → ProofPart) (n : ℕ) (fs : List (List ℕ)) → ((k : ℕ) (f : List ℕ) → k < n → slice_get fs k ≡ Some f → P (part k) f) → Alike P (each part n) fs
each_alike P part n fs h k x f e i =
    elim (cases_lt k n) [
      | inl lt ↦
          let found : ◌≡◌ {A = Option ProofPart} (Some (part k)) (Some x) = sym (get_each part n k lt) ∙ e in
          let same : part k ≡ x = cc in
          subst (λ (z : ProofPart). P z f) same (h k f lt i)
      | inr le ↦
          let none : ◌≡◌ {A = Option ProofPart} None (Some x) = sym (slice_get_past (each part n) k (omega (arith, length-each part n))) ∙ e in
          absurd cc
    ]

get_drop : {X : Type 0} (xs : List X) (n k : ℕ) → slice_get (drop n xs) k ≡ slice_get xs (n + k)
get_drop xs zero k = let e : 0 + k ≡ k = omega arith in ap (slice_get xs) (sym e)
get_drop [] (suc n) k = refl
get_drop (x ∷ xs) (suc n) k = get_drop xs n k ∙ (let e : suc n + k ≡ suc (n + k) = omega arith in ap (slice_get (x ∷ xs)) (sym e))

get_take : {X : Type 0} (xs : List X) (n k : ℕ) → k < n → slice_get (take n xs) k ≡ slice_get xs k
get_take xs zero k lt = absurd (omega arith)
get_take [] (suc n) k lt = refl
get_take (x ∷ xs) (suc n) zero lt = refl
get_take (x ∷ xs) (suc n) (suc k) lt = get_take xs n k (omega arith)

module _ {A : Type 0} (bytes : ℕ) (number : A → ℕ) (p : Params) (q : Proof A) where
  abbrev field : A → List ℕ
  field = element_field bytes number

  abbrev P : ProofPart → List ℕ → Type 0
  P = IsPartOf field p.nrow q

  -- elements of a list, as the parts of one sort
  elements_alike : (part : ℕ → ProofPart) (n : ℕ) (list : List A) → ((k : ℕ) (f : List ℕ) → option_map field (slice_get list k) ≡ Some f → P (part k) f) → Alike P (each part n) (map field list)
  elements_alike part n list h = each_alike P part n (map field list) (λ k f lt e. h k f (sym (slice_get-map field list k) ∙ e))

  same_count : (part : ℕ → ProofPart) (n : ℕ) (list : List A) → length list ≡ n → length (each part n) ≡ length (map field list)
  same_count part n list e = length-each part n ∙ sym e ∙ sym (length-map list field)

  -- the columns from number a on are these nonces and elements
  columns_alike : (a n : ℕ) (ns : List (List ℕ)) (cs : List A) → length ns ≡ n → length cs ≡ n * p.nrow
      → ((k : ℕ) → slice_get ns k ≡ slice_get q.nonces (a + k)) → ((k : ℕ) → slice_get cs k ≡ slice_get q.columns (a * p.nrow + k))
      → Alike P (flat_map (column_parts p.nrow) (range_with_len a n)) (opened_fields field p.nrow ns cs)
  columns_alike a zero ns cs long wide nonces columns = λ k x f e h. absurd cc
  columns_alike a (suc n) [] cs long wide nonces columns = absurd (omega arith)
  columns_alike a (suc n) (m ∷ ns) cs long wide nonces columns =
      let rows : ℕ = p.nrow in
      let column : List A = take rows cs in
      let others : List A = drop rows cs in
      let here : P (Nonce a) m = (let e : a + 0 ≡ a = omega arith in sym (nonces 0 ∙ ap (slice_get q.nonces) e)) in
      let elements : Alike P (each (Column a) rows) (map field column) =
      each_alike P (Column a) rows (map field column) (λ k f lt e. ap (option_map field) (sym (columns k) ∙ sym (get_take cs rows k lt)) ∙ sym (slice_get-map field column k) ∙ e) in
      let more : Alike P (flat_map (column_parts rows) (range_with_len (a + 1) n)) (opened_fields field rows ns others) =
      columns_alike (a + 1) n ns others (omega (arith, long)) (back_count rows n cs wide)
      (λ k. nonces (suc k) ∙ ap (slice_get q.nonces) (let e : a + suc k ≡ (a + 1) + k = omega arith in e))
      (λ k. get_drop cs rows k ∙ columns (rows + k) ∙ ap (slice_get q.columns) (let e : a * rows + (rows + k) ≡ (a + 1) * rows + k = grind arith in e)) in
      alike_one P (Nonce a) m _ _ here
      (alike_then P (each (Column a) rows) (flat_map (column_parts rows) (range_with_len (a + 1) n)) (map field column) (opened_fields field rows ns others)
      (same_count (Column a) rows column (front_count rows n cs wide)) elements more)

  columns_counted : (a n : ℕ) (ns : List (List ℕ)) (cs : List A) → length ns ≡ n → length cs ≡ n * p.nrow → length (flat_map (column_parts p.nrow) (range_with_len a n)) ≡ length (opened_fields field p.nrow ns cs)
  columns_counted a zero [] cs long wide = refl
  columns_counted a zero (m ∷ ns) cs long wide = absurd (omega arith)
  columns_counted a (suc n) [] cs long wide = absurd (omega arith)
  columns_counted a (suc n) (m ∷ ns) cs long wide =
      let rows : ℕ = p.nrow in
      let others = columns_counted (a + 1) n ns (drop rows cs) (omega (arith, long)) (back_count rows n cs wide) in
      let one = same_count (Column a) rows (take rows cs) (front_count rows n cs wide) in
      omega (arith, others, one, length-append (each (Column a) rows) (flat_map (column_parts rows) (range_with_len (a + 1) n)), length-append (map field (take rows cs)) (opened_fields field rows ns (drop rows cs)))

  opened_alike : HasLengths p q → Alike P (opened_parts p.nrow opened_count) (opened_fields field p.nrow q.nonces q.columns)
  unfolding opened_parts
  opened_alike h =
      columns_alike 0 opened_count q.nonces q.columns h.nonces h.columns
      (λ k. ap (slice_get q.nonces) (let e : k ≡ 0 + k = omega arith in e)) (λ k. ap (slice_get q.columns) (let e : k ≡ 0 * p.nrow + k = omega arith in e))

  opened_counted : HasLengths p q → length (opened_parts p.nrow opened_count) ≡ length (opened_fields field p.nrow q.nonces q.columns)
  unfolding opened_parts
  opened_counted h = columns_counted 0 opened_count q.nonces q.columns h.nonces h.columns

  path_alike : Alike P (path_parts (length q.path.digests)) (to_le_bytes w32 (length q.path.digests) ∷ q.path.digests)
  path_alike =
      alike_one P Count (to_le_bytes w32 (length q.path.digests)) (each Digest (length q.path.digests)) q.path.digests refl
      (each_alike P Digest (length q.path.digests) q.path.digests (λ k f lt e. e))

  abbrev xs0 : List ProofPart
  xs0 = path_parts (length q.path.digests)

  abbrev fs0 : List (List ℕ)
  fs0 = to_le_bytes w32 (length q.path.digests) ∷ q.path.digests

  elements_then_alike : (part : ℕ → ProofPart) (n : ℕ) (list : List A) (xs : List ProofPart) (fs : List (List ℕ)) → length list ≡ n
      → ((k : ℕ) (f : List ℕ) → option_map field (slice_get list k) ≡ Some f → P (part k) f) → Alike P xs fs → Alike P (each part n ++ xs) (map field list ++ fs)
  elements_then_alike part n list xs fs e h more = alike_then P (each part n) xs (map field list) fs (same_count part n list e) (elements_alike part n list h) more

  answers_alike : HasLengths p q
      → Alike P (element_parts p (opened_parts p.nrow opened_count ++ xs0))
      (map field q.messages ++ (map field q.ldt ++ (map field q.dot ++ (map field q.quad_head ++ (map field q.quad_tail ++ (opened_fields field p.nrow q.nonces q.columns ++ fs0))))))
  unfolding element_parts
  answers_alike h =
      let xs1 : List ProofPart = opened_parts p.nrow opened_count ++ xs0 in
      let xs2 : List ProofPart = each QuadTail (p.dblock - p.block) ++ xs1 in
      let xs3 : List ProofPart = each QuadHead opened_count ++ xs2 in
      let xs4 : List ProofPart = each Dot p.dblock ++ xs3 in
      let xs5 : List ProofPart = each Ldt p.block ++ xs4 in
      let fs1 : List (List ℕ) = opened_fields field p.nrow q.nonces q.columns ++ fs0 in
      let fs2 : List (List ℕ) = map field q.quad_tail ++ fs1 in
      let fs3 : List (List ℕ) = map field q.quad_head ++ fs2 in
      let fs4 : List (List ℕ) = map field q.dot ++ fs3 in
      let fs5 : List (List ℕ) = map field q.ldt ++ fs4 in
      let opened : Alike P xs1 fs1 = alike_then P (opened_parts p.nrow opened_count) xs0 (opened_fields field p.nrow q.nonces q.columns) fs0 (opened_counted h) (opened_alike h) path_alike in
      elements_then_alike Message p.nsum q.messages xs5 fs5 h.messages (λ k f e. e)
      (elements_then_alike Ldt p.block q.ldt xs4 fs4 h.ldt (λ k f e. e)
      (elements_then_alike Dot p.dblock q.dot xs3 fs3 h.dot (λ k f e. e)
      (elements_then_alike QuadHead opened_count q.quad_head xs2 fs2 h.quad_head (λ k f e. e)
      (elements_then_alike QuadTail (p.dblock - p.block) q.quad_tail xs1 fs1 h.quad_tail (λ k f e. e) opened))))

  all_alike : HasLengths p q → Alike P (parts p (length q.path.digests)) (fields_of field p.nrow q)
  unfolding parts
  all_alike h =
      let xs : List ProofPart = element_parts p (opened_parts p.nrow opened_count ++ xs0) in
      let fs : List (List ℕ) =
      map field q.messages ++ (map field q.ldt ++ (map field q.dot ++ (map field q.quad_head ++ (map field q.quad_tail ++ (opened_fields field p.nrow q.nonces q.columns ++ fs0))))) in
      alike_one P Magic (76 ∷ file_letter ∷ 80 ∷ 49 ∷ []) (Id ∷ Root ∷ xs) (q.id ∷ q.root ∷ fs) refl (alike_one P Id q.id (Root ∷ xs) (q.root ∷ fs) refl (alike_one P Root q.root xs fs refl (answers_alike h)))

pub fields_are_parts : {A : Type 0} (bytes : ℕ) (number : A → ℕ) (p : Params) → FieldsAreParts bytes number p
fields_are_parts bytes number p q file f k part field e h = all_alike bytes number p q f.lengths k part field e h

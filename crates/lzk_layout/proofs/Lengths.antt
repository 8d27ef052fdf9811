-- How long the file of a proof is.
use Rattle.lzk_profile.specs.Profile.{file_letter}
use Rattle.std.proofs.Common.{◌≡◌, ℕ, suc, ◌+◌, ◌*◌, List, [], ◌∷◌, ◌++◌, length, map, take, drop, refl, sym, ap, ◌∙◌, arith}
use Rattle.std.specs.Int.{w32, to_le_bytes}
use Rattle.std.proofs.lemmas.List.{length-append}
use Rattle.lzk_field.proofs.ByteForms.{length-bytes_of}
use Rattle.lzk_layout.specs.declared.params.Params.{Params}
use Rattle.lzk_layout.specs.declared.proof.Proof.{Proof}
use Rattle.lzk_layout.specs.Sizes.{proof_length}
use Rattle.lzk_layout.specs.Proofs.{flat, element_field, opened_fields, AreDigests, ProofBytes}
use Rattle.lzk_layout.specs.Answers.{answer_fields}
use Rattle.lzk_layout.proofs.FileLaws.{flat-append, file_end}
use Rattle.lzk_layout.proofs.OneProof.{front_count, back_count}
use Rattle.lzk_layout.proofs.WholeFiles.{fields_are}

length-flat : (xs ys : List (List ℕ)) → length (flat (xs ++ ys)) ≡ length (flat xs) + length (flat ys)
length-flat xs ys = ap length (flat-append xs ys) ∙ length-append (flat xs) (flat ys)

digests_length : (ds : List (List ℕ)) → AreDigests ds → length (flat ds) ≡ 32 * length ds
digests_length [] h = refl
digests_length (d ∷ ds) h =
    let one : length d ≡ 32 = h 0 (omega arith) in
    let others = digests_length ds (λ k lt. h (suc k) (omega arith)) in
    omega (arith, one, others, length-append d (flat ds))

module _ {A : Type 0} (bytes : ℕ) (number : A → ℕ) where
  abbrev field : A → List ℕ
  field = element_field bytes number

  elements_length : (xs : List A) → length (flat (map field xs)) ≡ bytes * length xs
  elements_length [] = grind arith
  elements_length (x ∷ xs) =
      let one : length (field x) ≡ bytes = length-bytes_of bytes (number x) in
      let others : length (flat (map field xs)) ≡ bytes * length xs = elements_length xs in
      let both : length (flat (map field (x ∷ xs))) ≡ length (field x) + length (flat (map field xs)) = length-append (field x) (flat (map field xs)) in
      more (length xs) (length (flat (map field (x ∷ xs)))) (length (field x)) (length (flat (map field xs))) both one others
    where
      more : (n all first rest : ℕ) → all ≡ first + rest → first ≡ bytes → rest ≡ bytes * n → all ≡ bytes * suc n
      more n all first rest e f g = grind (arith, e, f, g)

  opened_length : (rows : ℕ) (ns : List (List ℕ)) (cs : List A) → AreDigests ns → length cs ≡ length ns * rows → length (flat (opened_fields field rows ns cs)) ≡ length ns * (32 + bytes * rows)
  opened_length rows [] cs h e = grind arith
  opened_length rows (n ∷ ns) cs h e =
      let column = map field (take rows cs) in
      let behind = opened_fields field rows ns (drop rows cs) in
      let nonce : length n ≡ 32 = h 0 (omega arith) in
      let elements : length (flat column) ≡ bytes * rows = elements_length (take rows cs) ∙ ap (λ (k : ℕ). bytes * k) (front_count rows (length ns) cs e) in
      let others : length (flat behind) ≡ length ns * (32 + bytes * rows) = opened_length rows ns (drop rows cs) (λ k lt. h (suc k) (omega arith)) (back_count rows (length ns) cs e) in
      let all : length (flat (n ∷ (column ++ behind))) ≡ length n + length (flat (column ++ behind)) = length-append n (flat (column ++ behind)) in
      more (length ns) (bytes * rows) (length (flat (n ∷ (column ++ behind)))) (length n) (length (flat (column ++ behind))) (length (flat column)) (length (flat behind)) all (length-flat column behind) nonce elements others
    where
      more : (k width all first rest column behind : ℕ) → all ≡ first + rest → rest ≡ column + behind → first ≡ 32 → column ≡ width → behind ≡ k * (32 + width) → all ≡ suc k * (32 + width)
      more k width all first rest column behind e f g h' i = grind (arith, e, f, g, h', i)

  answers_length : (q : Proof A) → length (flat (answer_fields field q)) ≡ bytes * (length q.messages + length q.ldt + length q.dot + length q.quad_head + length q.quad_tail)
  answers_length q =
      let a = map field q.messages in
      let b = map field q.ldt in
      let c = map field q.dot in
      let d = map field q.quad_head in
      let e = map field q.quad_tail in
      let whole : length (flat (answer_fields field q)) ≡ length (flat a) + (length (flat b) + (length (flat c) + (length (flat d) + length (flat e)))) =
      omega (arith, length-flat a (b ++ (c ++ (d ++ e))), length-flat b (c ++ (d ++ e)), length-flat c (d ++ e), length-flat d e) in
      sums (length q.messages) (length q.ldt) (length q.dot) (length q.quad_head) (length q.quad_tail) _ (length (flat a)) (length (flat b)) (length (flat c)) (length (flat d)) (length (flat e)) whole
      (elements_length q.messages) (elements_length q.ldt) (elements_length q.dot) (elements_length q.quad_head) (elements_length q.quad_tail)
    where
      sums : (v w x y z all a b c d e : ℕ) → all ≡ a + (b + (c + (d + e))) → a ≡ bytes * v → b ≡ bytes * w → c ≡ bytes * x → d ≡ bytes * y → e ≡ bytes * z → all ≡ bytes * (v + w + x + y + z)
      sums v w x y z all a b c d e h i j k l m = grind (arith, h, i, j, k, l, m)

  -- a proof's file has as many bytes as its parameters and digests say
  pub file_length : (p : Params) (q : Proof A) (file : List ℕ) → ProofBytes bytes number p q file → length file ≡ proof_length bytes p (length q.path.digests)
  file_length p q file f =
      let ds = q.path.digests in
      let answers = answer_fields field q in
      let opened = opened_fields field p.nrow q.nonces q.columns in
      let elements = length q.messages + length q.ldt + length q.dot + length q.quad_head + length q.quad_tail in
      let wide : length q.columns ≡ length q.nonces * p.nrow = f.lengths.columns ∙ ap (λ (n : ℕ). n * p.nrow) (sym f.lengths.nonces) in
      let first : List (List ℕ) = (76 ∷ file_letter ∷ 80 ∷ 49 ∷ []) ∷ q.id ∷ q.root ∷ [] in
      let x : ℕ = 68 + bytes * elements in
      let y : ℕ = x + length q.nonces * (32 + bytes * p.nrow) in
      let head : length (flat first) ≡ 68 = omega (arith, length-append q.id (q.root ++ []), length-append q.root [], f.id, f.root) in
      let front : length (flat (first ++ (answers ++ opened))) ≡ y =
      omega (arith, head, length-flat first (answers ++ opened), length-flat answers opened, answers_length q, opened_length p.nrow q.nonces q.columns f.nonces wide) in
      let path : List (List ℕ) = to_le_bytes w32 (length ds) ∷ ds in
      let back : length (flat path) ≡ 4 + 32 * length ds = omega (arith, digests_length ds f.path, length-append (to_le_bytes w32 (length ds)) (flat ds)) in
      let same : length file ≡ length (flat ((first ++ (answers ++ opened)) ++ path)) = ap length f.are ∙ sym (ap (λ (fs : List (List ℕ)). length (flat fs)) (fields_are field p.nrow q)) in
      let end : length file ≡ y + 4 + 32 * length ds = omega (arith, same, front, back, length-flat (first ++ (answers ++ opened)) path) in
      file_end bytes (length ds) x y (length file) (length q.nonces) p q f.lengths f.lengths.nonces refl refl end

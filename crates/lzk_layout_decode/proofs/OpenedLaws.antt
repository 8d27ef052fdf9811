-- Opened columns, one more at the end.
use Rattle.std.proofs.Common.{◌≡◌, ℕ, suc, ◌+◌, ◌-◌, ◌*◌, ◌<◌, ◌≤◌, List, [], ◌∷◌, ◌++◌, length, map, take, drop, replicate, set, Result, Ok, Err, refl, sym, ap, ◌∙◌, append_assoc, arith, ◌≢◌, get_or, get_or-set_other, get_or-set_same, below_more}
use Rattle.std.proofs.Math.Nat.{mul-le-mul_right}
use Rattle.std.proofs.lemmas.List.{append-nil, take_all, take-append-le, drop-append-le, length-drop, length-take, take_more_set}
use Rattle.std.proofs.lemmas.Slice.{take-put_mid}
use borrow.Rule.Slice.PartMut.{put_mid}
use Rattle.lzk_layout.specs.declared.fault.Stop.{Stop}
use Rattle.lzk_layout.specs.Proofs.{opened_fields}
use Rattle.lzk_layout.specs.Fields.{Sort, plain, element, Shape, field_at, fields_at, opened_sorts}
use Rattle.lzk_layout.proofs.FieldLaws.{behind, goes_on, ends, goes_over, ends_over, is_done}

nothing : {A : Type 0} (xs : List A) → length xs ≡ 0 → xs ≡ []
nothing [] e = refl
nothing (x ∷ xs) e = absurd (omega arith)

opened-push : {A : Type 0} (field : A → List ℕ) (rows : ℕ) (n : List ℕ) (column : List A) → length column ≡ rows → (ns : List (List ℕ)) (front : List A) → length front ≡ length ns * rows
    → opened_fields field rows (ns ++ n ∷ []) (front ++ column) ≡ opened_fields field rows ns front ++ n ∷ map field column
opened-push field rows n column long [] front e =
    let none : front ≡ [] = nothing front (omega arith) in
    let whole : take rows column ≡ column = take_all rows column (omega arith) in
    rw (none, whole, append-nil) refl
opened-push field rows n column long (m ∷ ns) front e =
    let count : length front ≡ rows + length ns * rows = grind (arith, e) in
    let enough : rows ≤ length front = omega arith in
    let left : length (drop rows front) ≡ length ns * rows = omega (arith, length-drop rows front) in
    rw (take-append-le rows front column enough, drop-append-le rows front column enough, opened-push field rows n column long ns (drop rows front) left)
    (ap (λ (t : List (List ℕ)). m ∷ t) (sym (append_assoc (map field (take rows front)) (opened_fields field rows ns (drop rows front)) (n ∷ map field column))))

less : (rows n i : ℕ) → i < n → opened_sorts rows (n - i) ≡ plain ∷ (replicate rows element ++ opened_sorts rows (n - (i + 1)))
less rows n i lt = let e : n - i ≡ suc (n - (i + 1)) = omega arith in rw e refl

-- the room of one more column
pub column_inside : (i n rows : ℕ) → i < n → i * rows + rows ≤ n * rows
column_inside i n rows lt = let h : (i + 1) * rows ≤ n * rows = mul-le-mul_right rows (omega arith) in grind (arith, h)

module _ {A : Type 0} (field : A → List ℕ) (s : Shape) (rows n i : ℕ) (whole : Result (List (List ℕ) × List ℕ) Stop) (fs : List (List ℕ)) (bytes : List ℕ) (inside : i < n)
    (so_far : whole ≡ behind fs (fields_at s (opened_sorts rows (n - i)) bytes)) where
  left : whole ≡ behind fs (fields_at s (plain ∷ (replicate rows element ++ opened_sorts rows (n - (i + 1)))) bytes)
  left = so_far ∙ ap (λ (ss : List Sort). behind fs (fields_at s ss bytes)) (less rows n i inside)

  pub nonce_ends : (d : Stop) → field_at s plain bytes ≡ Err d → whole ≡ Err d
  nonce_ends d e = ends s plain (replicate rows element ++ opened_sorts rows (n - (i + 1))) whole fs bytes d left e

  pub column_ends : (nonce after : List ℕ) (k : ℕ) (d : Stop) → k ≡ rows → field_at s plain bytes ≡ Ok (nonce, after) → fields_at s (replicate k element) after ≡ Err d → whole ≡ Err d
  column_ends nonce after k d same e f =
      let behind_nonce = goes_on s plain (replicate rows element ++ opened_sorts rows (n - (i + 1))) whole fs bytes nonce after left e in
      ends_over s (replicate rows element) (opened_sorts rows (n - (i + 1))) whole (fs ++ nonce ∷ []) after d behind_nonce (ap (λ (r : ℕ). fields_at s (replicate r element) after) (sym same) ∙ f)

  pub column_read : (nonce after : List ℕ) (k : ℕ) (column : List A) (rest : List ℕ) → k ≡ rows → field_at s plain bytes ≡ Ok (nonce, after) → fields_at s (replicate k element) after ≡ Ok (map field column, rest)
      → whole ≡ behind (fs ++ nonce ∷ map field column) (fields_at s (opened_sorts rows (n - (i + 1))) rest)
  column_read nonce after k column rest same e f =
      let behind_nonce = goes_on s plain (replicate rows element ++ opened_sorts rows (n - (i + 1))) whole fs bytes nonce after left e in
      goes_over s (replicate rows element) (opened_sorts rows (n - (i + 1))) whole (fs ++ nonce ∷ []) (map field column) after rest behind_nonce (ap (λ (r : ℕ). fields_at s (replicate r element) after) (sym same) ∙ f)
      ∙ ap (λ (t : List (List ℕ)). behind t (fields_at s (opened_sorts rows (n - (i + 1))) rest)) (append_assoc fs (nonce ∷ []) (map field column))

pub no_more : (at rows : ℕ) → at ≤ at + rows
no_more at rows = omega arith

pub next_place : (i rows at : ℕ) → at ≡ i * rows → at + rows ≡ (i + 1) * rows
next_place i rows at e = grind (arith, e)

-- the fields of the columns that are filled, with one more
pub opened_more : {A : Type 0} (field : A → List ℕ) (rows n i at k : ℕ) (ns : List (List ℕ)) (columns column : List A) (nonce : List ℕ) → i < n → length ns ≡ n → length columns ≡ n * rows → at ≡ i * rows → length column ≡ rows
    → opened_fields field rows (take (i + 1) (set ns i nonce)) (take (at + rows) (put_mid at k columns column)) ≡ opened_fields field rows (take i ns) (take at columns) ++ nonce ∷ map field column
opened_more field rows n i at k ns columns column nonce lt all wide is long =
    let within : at + rows ≤ length columns = omega (arith, column_inside i n rows lt) in
    let columns_are : take (at + rows) (put_mid at k columns column) ≡ take at columns ++ column = take-put_mid at k columns column (at + rows) (omega arith) (omega arith) in
    let nonces_are : take (i + 1) (set ns i nonce) ≡ take i ns ++ nonce ∷ [] = take_more_set ns i nonce (omega arith) in
    let before : length (take i ns) ≡ i = omega (arith, length-take i ns) in
    let front : length (take at columns) ≡ length (take i ns) * rows = omega (arith, length-take at columns) ∙ ap (λ (j : ℕ). j * rows) (sym before) in
    rw (columns_are, nonces_are) (opened-push field rows nonce column long (take i ns) (take at columns) front)

pub columns_done : {A : Type 0} (field : A → List ℕ) (s : Shape) (rows n i at : ℕ) (whole : Result (List (List ℕ) × List ℕ) Stop) (ns : List (List ℕ)) (columns : List A) (rest : List ℕ)
    → n ≤ i → i ≤ n → length ns ≡ n → length columns ≡ n * rows → at ≡ i * rows
    → whole ≡ behind (opened_fields field rows (take i ns) (take at columns)) (fields_at s (opened_sorts rows (n - i)) rest) → whole ≡ Ok (opened_fields field rows ns columns, rest)
columns_done field s rows n i at whole ns columns rest le ge all wide is h =
    let same : i ≡ n = omega arith in
    let none : n - i ≡ 0 = omega arith in
    let end : length columns ≤ at = omega (arith, is ∙ ap (λ (j : ℕ). j * rows) same) in
    let all_ns : take i ns ≡ ns = take_all i ns (omega arith) in
    let all_columns : take at columns ≡ columns = take_all at columns end in
    is_done s whole (opened_fields field rows ns columns) rest (rw (none, all_ns, all_columns) at h)

-- one more nonce of 32 bytes
pub digests_set : (ns : List (List ℕ)) (n : List ℕ) (i : ℕ) → i < length ns → length n ≡ 32 → ((k : ℕ) → k < i → length (get_or ns k []) ≡ 32) → (k : ℕ) → k < i + 1 → length (get_or (set ns i n) k []) ≡ 32
digests_set ns n i inside long below =
    below_more _ i (λ k lt. let ne : k ≢ i = omega arith in rw (get_or-set_other) (below k lt)) (rw (get_or-set_same) long)

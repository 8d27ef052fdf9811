-- What the fields of a proof's file say is the proof.
use Rattle.lzk_profile.specs.Profile.{opened_count}
use Rattle.std.specs.Prelude.{◌≡◌, refl, ℕ, ◌+◌, ◌-◌, ◌*◌, ◌<◌, ◌≤◌, List, [], ◌∷◌, ◌++◌, length, map, take, drop, slice_index_or}
use Rattle.std.specs.Int.{w32, to_le_bytes}
use Rattle.std.proofs.Common.{zero, suc, sym, ap, ◌∙◌, arith}
use Rattle.std.proofs.lemmas.List.{length-append, length-map, length-take, length-drop, append_assoc, map-append, drop-drop, get_or-drop, take_at, drop_at}
use Rattle.std.proofs.lemmas.Nat.{mul-le}
use Rattle.std.proofs.Math.Seq.{drop-append-add}
use Rattle.lzk_field.specs.Bytes.{number_from}
use Rattle.lzk_field.specs.Coding.{Coding}
use Rattle.lzk_field.specs.Ring.{Ops, Laws}
use Rattle.lzk_field.proofs.ByteForms.{number_from-bytes_of}
use Rattle.lzk_layout.specs.declared.params.Params.{Params}
use Rattle.lzk_layout.specs.declared.proof.Proof.{Proof}
use Rattle.lzk_layout.specs.Proofs.{element_field, opened_fields, fields_of, HasLengths}
use Rattle.lzk_layout.specs.Parts.{before_opened, before_count}
use Rattle.lzk_merkle.specs.Leaf.{leaf_of}
use Rattle.lzk_accept.specs.Checks.{column}
use Rattle.lzk_verify.specs.Checks.{leaf_at}
use Rattle.lzk_verify.specs.Kept.{sent_count, column_place, sent_read, nonce_read, column_read, leaf_read, digests_read}
use Rattle.lzk_verify.proofs.Judged.{sent_of}

-- so many fields begin with a nonce and a column's elements
record BeginsWith (fields : List (List ℕ)) (nonce : List ℕ) (elements : List (List ℕ)) : Type 0 where
  behind : List (List ℕ)
  are : fields ≡ nonce ∷ (elements ++ behind)

module _ {A : Type 0} (field : A → List ℕ) (rows : ℕ) where
  -- the fields of opened column k, and of those behind it
  opened_from : (n k : ℕ) (ns : List (List ℕ)) (cs : List A) (after : List (List ℕ)) → length ns ≡ n → length cs ≡ n * rows → k < n
      → BeginsWith (drop (k * (1 + rows)) (opened_fields field rows ns cs ++ after)) (slice_index_or ns k []) (map field (take rows (drop (k * rows) cs)))
  opened_from n k [] cs after long wide h = absurd (omega (arith, long, h))
  opened_from zero k (m ∷ ns) cs after long wide h = absurd (omega (arith, h))
  opened_from (suc n) zero (m ∷ ns) cs after long wide h =
      let others : List (List ℕ) = opened_fields field rows ns (drop rows cs) in
      let none : zero * (1 + rows) ≡ 0 = omega arith in
      let first : zero * rows ≡ 0 = omega arith in
      record {
        behind = others ++ after;
        are = ap (λ j. drop j ((m ∷ (map field (take rows cs) ++ others)) ++ after)) none
            ∙ ap (λ (t : List (List ℕ)). m ∷ t) (append_assoc (map field (take rows cs)) others after)
            ∙ ap (λ j. m ∷ (map field (take rows (drop j cs)) ++ (others ++ after))) (sym first);
      }
  opened_from (suc n) (suc k) (m ∷ ns) cs after long wide h =
      let own : List (List ℕ) = map field (take rows cs) in
      let others : List (List ℕ) = opened_fields field rows ns (drop rows cs) in
      let all : suc n * rows ≡ rows + n * rows = omega arith in
      let own_long : length own ≡ rows = length-map (take rows cs) field ∙ length-take rows cs ∙ omega (arith, wide, all) in
      let rest_wide : length (drop rows cs) ≡ n * rows = length-drop rows cs ∙ omega (arith, wide, all) in
      let more = opened_from n k ns (drop rows cs) after (omega (arith, long)) rest_wide (omega (arith, h)) in
      let at : suc k * (1 + rows) ≡ suc (rows + k * (1 + rows)) = omega arith in
      let front : drop (suc k * (1 + rows)) (m ∷ ((own ++ others) ++ after)) ≡ drop (k * (1 + rows)) (others ++ after) =
      ap (λ j. drop j (m ∷ ((own ++ others) ++ after))) at
      ∙ ap (drop (rows + k * (1 + rows))) (append_assoc own others after)
      ∙ ap (λ j. drop (j + k * (1 + rows)) (own ++ (others ++ after))) (sym own_long)
      ∙ drop-append-add own (others ++ after) (k * (1 + rows)) in
      let place : rows + k * rows ≡ suc k * rows = omega arith in
      record { behind = more.behind; are = front ∙ more.are ∙ ap (λ (xs : List A). slice_index_or ns k [] ∷ (map field (take rows xs) ++ more.behind)) (drop-drop (k * rows) rows cs ∙ ap (λ j. drop j cs) place) }

  -- and what stands behind them all
  opened_end : (n : ℕ) (ns : List (List ℕ)) (cs : List A) (after : List (List ℕ)) → length ns ≡ n → length cs ≡ n * rows → drop (n * (1 + rows)) (opened_fields field rows ns cs ++ after) ≡ after
  opened_end zero [] cs after long wide = let none : zero * (1 + rows) ≡ 0 = omega arith in ap (λ j. drop j after) none
  opened_end zero (m ∷ ns) cs after long wide = absurd (omega (arith, long))
  opened_end (suc n) [] cs after long wide = absurd (omega (arith, long))
  opened_end (suc n) (m ∷ ns) cs after long wide =
      let own : List (List ℕ) = map field (take rows cs) in
      let others : List (List ℕ) = opened_fields field rows ns (drop rows cs) in
      let all : suc n * rows ≡ rows + n * rows = omega arith in
      let own_long : length own ≡ rows = length-map (take rows cs) field ∙ length-take rows cs ∙ omega (arith, wide, all) in
      let rest_wide : length (drop rows cs) ≡ n * rows = length-drop rows cs ∙ omega (arith, wide, all) in
      let at : suc n * (1 + rows) ≡ suc (rows + n * (1 + rows)) = omega arith in
      ap (λ j. drop j (m ∷ ((own ++ others) ++ after))) at
      ∙ ap (drop (rows + n * (1 + rows))) (append_assoc own others after)
      ∙ ap (λ j. drop (j + n * (1 + rows)) (own ++ (others ++ after))) (sym own_long)
      ∙ drop-append-add own (others ++ after) (n * (1 + rows))
      ∙ opened_end n ns (drop rows cs) after (omega (arith, long)) rest_wide

module _ {A : Type 0} (o : Ops A) (e : Coding A) (p : Params) (laws : Laws o e.size e.number e.element e.bytes) where
  abbrev field : A → List ℕ
  field = element_field e.bytes e.number

  abbrev read : List ℕ → A
  read f = e.element (number_from f)

  -- an element's field is read as the element
  read_back : (x : A) → read (field x) ≡ x
  read_back x = ap e.element (number_from-bytes_of e.bytes (e.number x) (omega (arith, laws.numbers.below x, laws.numbers.fits))) ∙ laws.numbers.element_number x

  reads_back : (xs : List A) → map read (map field xs) ≡ xs
  reads_back [] = refl
  reads_back (x ∷ xs) = λ i. read_back x i ∷ reads_back xs i

  module _ (q : Proof A) (lengths : HasLengths p q) where
    abbrev opened : List (List ℕ)
    opened = opened_fields field p.nrow q.nonces q.columns

    abbrev path : List (List ℕ)
    path = to_le_bytes w32 (length q.path.digests) ∷ q.path.digests

    abbrev fields : List (List ℕ)
    fields = fields_of field p.nrow q

    sent_long : length (sent_of q) ≡ sent_count p
    sent_long =
        length-append q.messages (q.ldt ++ (q.dot ++ (q.quad_head ++ q.quad_tail)))
        ∙ (let a = length-append q.ldt (q.dot ++ (q.quad_head ++ q.quad_tail)) in
        let b = length-append q.dot (q.quad_head ++ q.quad_tail) in
        let c = length-append q.quad_head q.quad_tail in
        omega (arith, a, b, c, lengths.messages, lengths.ldt, lengths.dot, lengths.quad_head, lengths.quad_tail))

    -- behind the root stand the elements sent, the opened columns and the path
    behind_root : drop 3 fields ≡ map field (sent_of q) ++ (opened ++ path)
    behind_root = simp (append_assoc, map-append) refl

    mapped_long : length (map field (sent_of q)) ≡ sent_count p
    mapped_long = length-map (sent_of q) field ∙ sent_long

    pub sent_is : sent_read e p fields ≡ sent_of q
    sent_is =
        ap (λ xs. map read (take (sent_count p) xs)) behind_root
        ∙ ap (map read) (take_at (map field (sent_of q)) (opened ++ path) (sent_count p) mapped_long)
        ∙ reads_back (sent_of q)

    behind_sent : drop (before_opened p) fields ≡ opened ++ path
    behind_sent =
        let at : before_opened p ≡ 3 + sent_count p = omega arith in
        ap (λ j. drop j fields) at ∙ sym (drop-drop (sent_count p) 3 fields) ∙ ap (drop (sent_count p)) behind_root
        ∙ drop_at (map field (sent_of q)) (opened ++ path) (sent_count p) mapped_long

    -- opened column k is read as it is sent
    column_begins : (k : ℕ) → k < opened_count → BeginsWith (drop (column_place p k) fields) (slice_index_or q.nonces k []) (map field (column o p q k))
    column_begins k h =
        let b = opened_from field p.nrow opened_count k q.nonces q.columns path lengths.nonces lengths.columns h in
        record { behind = b.behind; are = sym (drop-drop (k * (1 + p.nrow)) (before_opened p) fields) ∙ ap (drop (k * (1 + p.nrow))) behind_sent ∙ b.are }

    pub nonce_is : (k : ℕ) → k < opened_count → nonce_read p fields k ≡ slice_index_or q.nonces k []
    nonce_is k h =
        let at : column_place p k ≡ column_place p k + 0 = omega arith in
        ap (λ j. slice_index_or fields j []) at ∙ sym (get_or-drop (column_place p k) fields 0 []) ∙ ap (λ xs. slice_index_or xs 0 []) (column_begins k h).are

    column_long : (k : ℕ) → k < opened_count → length (column o p q k) ≡ p.nrow
    column_long k h =
        let w : (k + 1) * p.nrow ≤ opened_count * p.nrow = mul-le (k + 1) p.nrow opened_count p.nrow (omega (arith, h)) (omega arith) in
        let one : (k + 1) * p.nrow ≡ k * p.nrow + p.nrow = omega arith in
        length-take p.nrow (drop (k * p.nrow) q.columns) ∙ omega (arith, length-drop (k * p.nrow) q.columns, lengths.columns, w, one)

    pub column_is : (k : ℕ) → k < opened_count → column_read e p fields k ≡ column o p q k
    column_is k h =
        let b = column_begins k h in
        let own : List (List ℕ) = map field (column o p q k) in
        ap (λ xs. map read (take p.nrow xs)) (sym (drop-drop 1 (column_place p k) fields) ∙ ap (drop 1) b.are)
        ∙ ap (map read) (take_at own b.behind p.nrow (length-map (column o p q k) field ∙ column_long k h))
        ∙ reads_back (column o p q k)

    pub leaf_is : (k : ℕ) → k < opened_count → leaf_read e p fields k ≡ leaf_at o e p q k
    leaf_is k h = λ i. leaf_of e.bytes e.number (nonce_is k h i) (column_is k h i)

    behind_opened : drop (before_count p) fields ≡ path
    behind_opened =
        sym (drop-drop (opened_count * (1 + p.nrow)) (before_opened p) fields) ∙ ap (drop (opened_count * (1 + p.nrow))) behind_sent
        ∙ opened_end field p.nrow opened_count q.nonces q.columns path lengths.nonces lengths.columns

    pub digests_are : digests_read p fields ≡ q.path.digests
    digests_are = sym (drop-drop 1 (before_count p) fields) ∙ ap (drop 1) behind_opened

    -- the number of digests is whole
    pub all_whole : before_count p < length fields
    all_whole = let n : length fields - before_count p ≡ length path = sym (length-drop (before_count p) fields) ∙ ap length behind_opened in omega (arith, n)

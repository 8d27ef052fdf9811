-- A proof's file is read as its fields, which are one proof's; and what was read is the file.
use Rattle.lzk_profile.specs.Profile.{most_digests, file_letter}
use Rattle.std.proofs.Common.{◌≡◌, ℕ, zero, suc, ◌+◌, ◌-◌, ◌*◌, ◌≤◌, replicate, eqb, ltb, leb, true, List, [], ◌∷◌, ◌++◌, length, map, take, drop, Ok, Err, refl, sym, ap, subst, ◌∙◌, append_assoc, arith}
use Rattle.std.specs.Int.{w32, to_le_bytes, from_le_bytes}
use Rattle.std.proofs.lemmas.Bool.{lt-ltb, le-leb, eqb-true}
use Rattle.std.proofs.lemmas.Nat.{from_le_bytes-to_le_bytes_4}
use Rattle.std.proofs.lemmas.List.{append-nil, length-map, length-take, length-drop, take_at, drop_at, take-append-drop}
use Rattle.lzk_field.specs.Ring.{Ops, Laws}
use Rattle.lzk_field.specs.Bytes.{number_from}
use Rattle.lzk_field.proofs.ByteForms.{length-bytes_of, number_from-bytes_of}
use Rattle.lzk_layout.specs.declared.params.Params.{Params}
use Rattle.lzk_layout.specs.declared.proof.Proof.{Proof}
use Rattle.lzk_layout.specs.declared.fault.Stop.{Stop}
use Rattle.lzk_layout.specs.Proofs.{flat, element_field, opened_fields, fields_of, AreDigests, HasLengths, ProofBytes}
use Rattle.lzk_layout.specs.Answers.{answer_fields, answer_sorts_of}
use Rattle.lzk_layout.specs.Fields.{Sort, magic, plain, element, count, Shape, shape, wrong, field_at, fields_at, path_at, opened_sorts, sorts_of, proof_at, IsField, AreFields}
use Rattle.lzk_layout.specs.Files.{IsSameProof, OneProof, OneFile, IsNoProof, NoFault}
use Rattle.lzk_layout.proofs.FileLaws.{flat-append}
use Rattle.lzk_layout.proofs.FieldLaws.{from, passed, field_takes, fields_take, field_again, fields_again, done, done_is, path_read}
use Rattle.lzk_layout.proofs.WholeFiles.{opened_sorts_of, sorts_are, fields_are}

-- ---- fields that pass

pub AreFields-append : (s : Shape) (ss ts : List Sort) (fs gs : List (List ℕ)) → AreFields s ss fs → AreFields s ts gs → AreFields s (ss ++ ts) (fs ++ gs)
AreFields-append s [] ts [] gs h k = k
AreFields-append s [] ts (f ∷ fs) gs h k = absurd h
AreFields-append s (x ∷ ss) ts [] gs h k = absurd h
AreFields-append s (x ∷ ss) ts (f ∷ fs) gs h k = (h.0, AreFields-append s ss ts fs gs h.1 k)

magic_passes : (s : Shape) → IsField s magic (76 ∷ file_letter ∷ 80 ∷ 49 ∷ [])
unfolding wrong
magic_passes s = record { long = refl; right = refl }

plain_passes : (s : Shape) (f : List ℕ) → length f ≡ 32 → IsField s plain f
unfolding wrong
plain_passes s f e = record { long = e; right = refl }

pub count_passes : (s : Shape) (n : ℕ) → n ≤ most_digests → IsField s count (to_le_bytes w32 n)
unfolding wrong
count_passes s n few =
    let back : from_le_bytes w32 (to_le_bytes w32 n) ≡ n = from_le_bytes-to_le_bytes_4 n (omega arith) in
    let small : leb (from_le_bytes w32 (to_le_bytes w32 n)) most_digests ≡ true = le-leb _ _ (omega arith) in
    record { long = refl; right = rw small refl }

pub digests_pass : (s : Shape) (ds : List (List ℕ)) → AreDigests ds → AreFields s (replicate (length ds) plain) ds
digests_pass s [] h = tt
digests_pass s (d ∷ ds) h = (plain_passes s d (h 0 (omega arith)), digests_pass s ds (λ k lt. h (suc k) (omega arith)))

-- ---- equal fields

-- lists as long as each other, in front of equal lists
pub front_same : {X : Type 0} (xs ys us vs : List X) → length xs ≡ length ys → xs ++ us ≡ ys ++ vs → (xs ≡ ys) × (us ≡ vs)
front_same xs ys us vs long e = (
  sym (take_at xs us (length ys) long) ∙ ap (take (length ys)) e ∙ take_at ys vs (length ys) refl,
  sym (drop_at xs us (length ys) long) ∙ ap (drop (length ys)) e ∙ drop_at ys vs (length ys) refl,
)

heads : {X : Type 0} (x y : X) (xs ys : List X) → x ∷ xs ≡ y ∷ ys → (x ≡ y) × (xs ≡ ys)
heads x y xs ys e = (cc, cc)

nothing : {X : Type 0} (xs : List X) → length xs ≡ 0 → xs ≡ []
nothing [] e = refl
nothing (x ∷ xs) e = absurd (omega arith)

pub front_count : {X : Type 0} (rows k : ℕ) (cs : List X) → length cs ≡ suc k * rows → length (take rows cs) ≡ rows
front_count rows k cs e = let count : length cs ≡ rows + k * rows = grind (arith, e) in omega (arith, length-take rows cs)

pub back_count : {X : Type 0} (rows k : ℕ) (cs : List X) → length cs ≡ suc k * rows → length (drop rows cs) ≡ k * rows
back_count rows k cs e = let count : length cs ≡ rows + k * rows = grind (arith, e) in omega (arith, length-drop rows cs)

-- ---- what was read is the file

empty : (bytes : List ℕ) → eqb (length bytes) 0 ≡ true → bytes ≡ []
empty bytes e = nothing bytes (eqb-true (length bytes) 0 e)

pub path_takes : (s : Shape) (bytes : List ℕ) (x : List (List ℕ) × List ℕ) → path_at s bytes ≡ Ok x → bytes ≡ flat x.0 ++ x.1
unfolding path_at
path_takes s bytes x e =
    from (field_at s count bytes) _ x e (λ n at_n more.
    from (fields_at s (replicate (from_le_bytes w32 n.0) plain) n.1) _ x more (λ ds at_ds end.
    let one = field_takes s count bytes n at_n in
    let others = fields_take s (replicate (from_le_bytes w32 n.0) plain) n.1 ds at_ds in
    let made : List (List ℕ) × List ℕ = (n.0 ∷ ds.0, ds.1) in
    let parts : bytes ≡ flat made.0 ++ made.1 = one.0 ∙ ap (λ (t : List ℕ). n.0 ++ t) others.0 ∙ sym (append_assoc n.0 (flat ds.0) ds.1) in
    subst (λ (y : List (List ℕ) × List ℕ). bytes ≡ flat y.0 ++ y.1) (done_is made x end) parts))

pub proof_takes : (s : Shape) (p : Params) (bytes : List ℕ) (fs : List (List ℕ)) → proof_at s p bytes ≡ Ok fs → bytes ≡ flat fs
unfolding proof_at
proof_takes s p bytes fs e =
    from (fields_at s (sorts_of p) bytes) _ fs e (λ first at_first more.
    from (path_at s first.1) _ fs more (λ path at_path end.
    let last = passed (eqb (length path.1) 0) _ (done (first.0 ++ path.0)) fs end in
    let none : path.1 ≡ [] = empty path.1 last.0 in
    let front : bytes ≡ flat first.0 ++ first.1 = (fields_take s (sorts_of p) bytes first at_first).0 in
    let back : first.1 ≡ flat path.0 = path_takes s first.1 path at_path ∙ ap (λ (t : List ℕ). flat path.0 ++ t) none ∙ append-nil (flat path.0) in
    front ∙ ap (λ (t : List ℕ). flat first.0 ++ t) back ∙ sym (flat-append first.0 path.0) ∙ ap flat (done_is (first.0 ++ path.0) fs last.1)))

whole_read : (s : Shape) (p : Params) (bytes : List ℕ) (first : List (List ℕ)) (rest : List ℕ) (path : List (List ℕ)) → fields_at s (sorts_of p) bytes ≡ Ok (first, rest) → path_at s rest ≡ Ok (path, []) → proof_at s p bytes ≡ Ok (first ++ path)
unfolding proof_at
whole_read s p bytes first rest path e f = rw (e, f) refl

-- ---- the laws

module _ {A : Type 0} (o : Ops A) (size : ℕ) (number : A → ℕ) (element_of : ℕ → A) (bytes : ℕ) (laws : Laws o size number element_of bytes) where
  abbrev pub s : Shape
  s = shape bytes size

  abbrev pub field : A → List ℕ
  field = element_field bytes number

  number_back : (x : A) → number_from (field x) ≡ number x
  number_back x = number_from-bytes_of bytes (number x) (omega (arith, laws.numbers.below x, laws.numbers.fits))

  element_passes : (x : A) → IsField s element (field x)
  unfolding wrong
  element_passes x =
      let small : ltb (number_from (field x)) size ≡ true = lt-ltb _ _ (omega (arith, number_back x, laws.numbers.below x)) in
      record { long = length-bytes_of bytes (number x); right = rw small refl }

  elements_pass : (n : ℕ) (xs : List A) → length xs ≡ n → AreFields s (replicate n element) (map field xs)
  elements_pass zero [] e = tt
  elements_pass zero (x ∷ xs) e = absurd (omega arith)
  elements_pass (suc n) [] e = absurd (omega arith)
  elements_pass (suc n) (x ∷ xs) e = (element_passes x, elements_pass n xs (omega arith))

  opened_pass : (rows : ℕ) (ns : List (List ℕ)) (cs : List A) → AreDigests ns → length cs ≡ length ns * rows → AreFields s (opened_sorts rows (length ns)) (opened_fields field rows ns cs)
  opened_pass rows [] cs h e = tt
  opened_pass rows (n ∷ ns) cs h e = (
    plain_passes s n (h 0 (omega arith)),
    AreFields-append s (replicate rows element) (opened_sorts rows (length ns)) (map field (take rows cs)) (opened_fields field rows ns (drop rows cs))
        (elements_pass rows (take rows cs) (front_count rows (length ns) cs e))
        (opened_pass rows ns (drop rows cs) (λ k lt. h (suc k) (omega arith)) (back_count rows (length ns) cs e)),
  )

  answers_pass : (q : Proof A) → AreFields s (answer_sorts_of q) (answer_fields field q)
  answers_pass q =
      AreFields-append s _ _ (map field q.messages) _ (elements_pass (length q.messages) q.messages refl)
      (AreFields-append s _ _ (map field q.ldt) _ (elements_pass (length q.ldt) q.ldt refl)
      (AreFields-append s _ _ (map field q.dot) _ (elements_pass (length q.dot) q.dot refl)
      (AreFields-append s _ _ (map field q.quad_head) _ (elements_pass (length q.quad_head) q.quad_head refl)
      (elements_pass (length q.quad_tail) q.quad_tail refl))))

  abbrev pub first_fields : ℕ → Proof A → List (List ℕ)
  first_fields rows q = ((76 ∷ file_letter ∷ 80 ∷ 49 ∷ []) ∷ q.id ∷ q.root ∷ []) ++ (answer_fields field q ++ opened_fields field rows q.nonces q.columns)

  pub first_pass : (p : Params) (q : Proof A) → ProofBytes bytes number p q (flat (fields_of field p.nrow q)) → AreFields s (sorts_of p) (first_fields p.nrow q)
  first_pass p q f =
      let wide : length q.columns ≡ length q.nonces * p.nrow = f.lengths.columns ∙ ap (λ (n : ℕ). n * p.nrow) (sym f.lengths.nonces) in
      subst (λ (ss : List Sort). AreFields s ss (first_fields p.nrow q)) (sym (sorts_are p q f.lengths)) (
        magic_passes s,
        (
          plain_passes s q.id f.id,
          (
            plain_passes s q.root f.root,
            AreFields-append s (answer_sorts_of q) (opened_sorts_of p.nrow q) (answer_fields field q) (opened_fields field p.nrow q.nonces q.columns)
                (answers_pass q) (opened_pass p.nrow q.nonces q.columns f.nonces wide),
          ),
        ),
      )

  -- a proof's file is read as its fields
  pub file_read : (p : Params) (q : Proof A) (file : List ℕ) → ProofBytes bytes number p q file → proof_at s p file ≡ Ok (fields_of field p.nrow q)
  file_read p q file f =
      let ds : List (List ℕ) = q.path.digests in
      let path : List (List ℕ) = to_le_bytes w32 (length ds) ∷ ds in
      let first = first_fields p.nrow q in
      let all : first ++ path ≡ fields_of field p.nrow q = fields_are field p.nrow q in
      let bytes_are : file ≡ flat first ++ flat path = f.are ∙ sym (ap flat all) ∙ flat-append first path in
      let whole : ProofBytes bytes number p q (flat (fields_of field p.nrow q)) = subst (λ (t : List ℕ). ProofBytes bytes number p q t) f.are f in
      let first_read : fields_at s (sorts_of p) file ≡ Ok (first, flat path) = ap (fields_at s (sorts_of p)) bytes_are ∙ fields_again s (sorts_of p) first (flat path) (first_pass p q whole) in
      let digests_read : fields_at s (replicate (length ds) plain) (flat ds) ≡ Ok (ds, []) =
      ap (fields_at s (replicate (length ds) plain)) (sym (append-nil (flat ds))) ∙ fields_again s (replicate (length ds) plain) ds [] (digests_pass s ds f.path) in
      let path_is : path_at s (flat path) ≡ Ok (path, []) =
      path_read s (flat path) (flat ds) [] (length ds) ds f.few (field_again s count (to_le_bytes w32 (length ds)) (flat ds) (count_passes s (length ds) f.few)) digests_read in
      whole_read s p file first (flat path) path first_read path_is ∙ ap (λ (fs : List (List ℕ)). done fs) all

  -- ---- equal fields are one proof's

  same_element : (x y : A) → field x ≡ field y → x ≡ y
  same_element x y e =
      let same : number x ≡ number y = sym (number_back x) ∙ ap number_from e ∙ number_back y in
      sym (laws.numbers.element_number x) ∙ ap element_of same ∙ laws.numbers.element_number y

  same_elements : (xs ys : List A) → map field xs ≡ map field ys → xs ≡ ys
  same_elements [] [] e = refl
  same_elements [] (y ∷ ys) e = absurd cc
  same_elements (x ∷ xs) [] e = absurd cc
  same_elements (x ∷ xs) (y ∷ ys) e =
      let h = heads (field x) (field y) (map field xs) (map field ys) e in
      let one = same_element x y h.0 in
      let others = same_elements xs ys h.1 in
      cc

  same_list : (xs ys : List A) (us vs : List (List ℕ)) → length xs ≡ length ys → map field xs ++ us ≡ map field ys ++ vs → (xs ≡ ys) × (us ≡ vs)
  same_list xs ys us vs long e =
      let h = front_same (map field xs) (map field ys) us vs (length-map xs field ∙ long ∙ sym (length-map ys field)) e in
      (same_elements xs ys h.0, h.1)

  same_opened : (rows : ℕ) (ns ms : List (List ℕ)) (cs ds : List A) (us vs : List (List ℕ)) → length ns ≡ length ms → length cs ≡ length ns * rows → length ds ≡ length ms * rows
      → opened_fields field rows ns cs ++ us ≡ opened_fields field rows ms ds ++ vs → (ns ≡ ms) × (cs ≡ ds) × (us ≡ vs)
  same_opened rows [] [] cs ds us vs long c d e = (refl, nothing cs (omega arith) ∙ sym (nothing ds (omega arith)), e)
  same_opened rows [] (m ∷ ms) cs ds us vs long c d e = absurd (omega arith)
  same_opened rows (n ∷ ns) [] cs ds us vs long c d e = absurd (omega arith)
  same_opened rows (n ∷ ns) (m ∷ ms) cs ds us vs long c d e =
      let h = heads n m _ _ e in
      let more = opened_fields field rows ns (drop rows cs) in
      let more' = opened_fields field rows ms (drop rows ds) in
      let column = same_list (take rows cs) (take rows ds) (more ++ us) (more' ++ vs) (front_count rows (length ns) cs c ∙ sym (front_count rows (length ms) ds d))
      (sym (append_assoc (map field (take rows cs)) more us) ∙ h.1 ∙ append_assoc (map field (take rows ds)) more' vs) in
      let others = same_opened rows ns ms (drop rows cs) (drop rows ds) us vs (omega arith) (back_count rows (length ns) cs c) (back_count rows (length ms) ds d) column.1 in
      let whole : cs ≡ ds = sym (take-append-drop rows cs) ∙ ap (λ (t : List A). t ++ drop rows cs) column.0 ∙ ap (λ (t : List A). take rows ds ++ t) others.1 ∙ take-append-drop rows ds in
      let first = h.0 in
      let rest = others.0 in
      (cc, whole, others.2)

  same_proof : (p : Params) (q r : Proof A) → HasLengths p q → HasLengths p r → fields_of field p.nrow q ≡ fields_of field p.nrow r → IsSameProof q r
  same_proof p q r h k e =
      let a = heads _ _ _ _ e in
      let b = heads q.id r.id _ _ a.1 in
      let c = heads q.root r.root _ _ b.1 in
      let messages = same_list q.messages r.messages _ _ (h.messages ∙ sym k.messages) c.1 in
      let ldt = same_list q.ldt r.ldt _ _ (h.ldt ∙ sym k.ldt) messages.1 in
      let dot = same_list q.dot r.dot _ _ (h.dot ∙ sym k.dot) ldt.1 in
      let quad_head = same_list q.quad_head r.quad_head _ _ (h.quad_head ∙ sym k.quad_head) dot.1 in
      let quad_tail = same_list q.quad_tail r.quad_tail _ _ (h.quad_tail ∙ sym k.quad_tail) quad_head.1 in
      let wide : length q.columns ≡ length q.nonces * p.nrow = h.columns ∙ ap (λ (n : ℕ). n * p.nrow) (sym h.nonces) in
      let wide' : length r.columns ≡ length r.nonces * p.nrow = k.columns ∙ ap (λ (n : ℕ). n * p.nrow) (sym k.nonces) in
      let opened = same_opened p.nrow q.nonces r.nonces q.columns r.columns _ _ (h.nonces ∙ sym k.nonces) wide wide' quad_tail.1 in
      let path = heads _ _ q.path.digests r.path.digests opened.2 in
      record {
        id = b.0;
        root = c.0;
        messages = messages.0;
        ldt = ldt.0;
        dot = dot.0;
        quad_head = quad_head.0;
        quad_tail = quad_tail.0;
        nonces = opened.0;
        columns = opened.1;
        path = path.1;
      }

  pub one_proof : (p : Params) → OneProof bytes number p
  one_proof p file q r f g = same_proof p q r f.lengths g.lengths (done_is (fields_of field p.nrow q) (fields_of field p.nrow r) (sym (file_read p q file f) ∙ file_read p r file g))

  pub no_proof : (p : Params) (file : List ℕ) (e : Stop) → proof_at s p file ≡ Err e → IsNoProof bytes number p file
  no_proof p file e h q f = apart (fields_of field p.nrow q) e (sym (file_read p q file f) ∙ h)
    where
      apart : (fs : List (List ℕ)) (d : Stop) → done fs ≡ Err d → ⊥
      apart fs d same = absurd cc

  pub no_fault : (p : Params) → NoFault bytes size number p
  no_fault p q file offset kind f fault = no_proof p file (record { left = length file - offset; kind = kind }) fault.0 q f

-- a proof has one file
pub one_file : {A : Type 0} (bytes : ℕ) (number : A → ℕ) (p : Params) → OneFile bytes number p
one_file bytes number p q xs ys f g = f.are ∙ sym g.are

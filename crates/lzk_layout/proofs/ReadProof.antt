-- Bytes that are read without a fault are some proof's file.
use Rattle.lzk_profile.specs.Profile.{opened_count, most_digests, file_letter}
use Rattle.std.specs.Prelude.{◌≡◌, ℕ, ◌+◌, ◌-◌, ◌*◌, ◌<◌, ◌≤◌, ◌==◌, ◌&&◌, Bool, true, false, cond, List, [], ◌∷◌, ◌++◌, length, map, drop, replicate, Option, Some, None, Result, Ok, Err, slice_index_or}
use Rattle.std.proofs.Common.{zero, suc, refl, sym, ap, subst, ◌∙◌, arith}
use Rattle.std.specs.Int.{w32, to_le_bytes, from_le_bytes}
use Rattle.std.specs.List.{AllByRecursion}
use Rattle.std.proofs.lemmas.Bool.{ltb-true, leb-true, eqb-true, and_parts}
use Rattle.std.proofs.lemmas.List.{length-append, take_at, drop_at}
use Rattle.std.proofs.lemmas.Nat.{le_bytes_4}
use Rattle.std.proofs.Math.Nat.{mod-eq_of_lt}
use Rattle.lzk_field.specs.Ring.{Ops, Laws}
use Rattle.lzk_field.specs.Bytes.{bytes_of, number_from}
use Rattle.lzk_field.proofs.ByteForms.{bytes_of-number_from}
use Rattle.lzk_layout.specs.declared.params.Params.{Params}
use Rattle.lzk_layout.specs.declared.proof.Proof.{Proof}
use Rattle.lzk_layout.specs.declared.fault.ProofKind.{ProofKind}
use Rattle.lzk_layout.specs.Proofs.{flat, element_field, opened_fields, AreDigests}
use Rattle.lzk_layout.specs.declared.fault.Stop.{Stop}
use Rattle.lzk_layout.specs.Files.{AreBytes, IsProofFile, SomeProof}
use Rattle.lzk_layout.specs.Answers.{answer_fields}
use Rattle.lzk_layout.specs.Fields.{Sort, magic, plain, element, count, Shape, shape, wrong, field_at, fields_at, path_at, opened_sorts, sorts_of, proof_at, ProofFaultAt, IsField, AreFields}
use Rattle.lzk_layout.proofs.FieldLaws.{from, passed, field_takes, fields_take, done, done_is}
use Rattle.lzk_layout.proofs.OneProof.{proof_takes}
use Rattle.lzk_layout.proofs.WholeFiles.{fields_are}
use Rattle.lzk_layout.proofs.Faults.{fault_found}

-- numbers below 256, one after the other
abbrev Small : List ℕ → Type 0
Small bytes = AllByRecursion (λ b. b < 256) bytes

abbrev AllSmall : List (List ℕ) → Type 0
AllSmall fs = AllByRecursion Small fs

small_from : (bytes : List ℕ) → AreBytes bytes → Small bytes
small_from [] h = tt
small_from (b ∷ bs) h = (h 0 (omega arith), small_from bs (λ k l. h (suc k) (omega arith)))

small_at : (bytes : List ℕ) → Small bytes → (k : ℕ) → slice_index_or bytes k 0 < 256
small_at [] h k = omega arith
small_at (b ∷ bs) h zero = h.0
small_at (b ∷ bs) h (suc k) = small_at bs h.1 k

all_parts : {X : Type 0} (P : X → Type 0) (xs ys : List X) → AllByRecursion P (xs ++ ys) → AllByRecursion P xs × AllByRecursion P ys
all_parts P [] ys h = (tt, h)
all_parts P (x ∷ xs) ys h = let rest = all_parts P xs ys h.1 in ((h.0, rest.0), rest.1)

flat_small : (fs : List (List ℕ)) → Small (flat fs) → AllSmall fs
flat_small [] h = tt
flat_small (f ∷ fs) h = let both = all_parts (λ b. b < 256) f (flat fs) h in (both.0, flat_small fs both.1)

none_true : (b : Bool) (kind : ProofKind) → ◌≡◌ {A = Option ProofKind} (cond b None (Some kind)) None → b ≡ true
none_true true kind e = refl
none_true false kind e = absurd cc

-- fields of two lists of sorts are those of the one and those of the other
record Parted (s : Shape) (ss ts : List Sort) (fs : List (List ℕ)) : Type 0 where
  first : List (List ℕ)
  rest : List (List ℕ)
  are : fs ≡ first ++ rest
  first_are : AreFields s ss first
  rest_are : AreFields s ts rest

parted : (s : Shape) (ss ts : List Sort) (fs : List (List ℕ)) → AreFields s (ss ++ ts) fs → Parted s ss ts fs
parted s [] ts fs h = record { first = []; rest = fs; are = refl; first_are = tt; rest_are = h }
parted s (x ∷ ss) ts [] h = absurd h
parted s (x ∷ ss) ts (f ∷ fs) h =
    let more = parted s ss ts fs h.1 in
    record { first = f ∷ more.first; rest = more.rest; are = ap (λ gs. f ∷ gs) more.are; first_are = (h.0, more.first_are); rest_are = more.rest_are }

-- ---- fields that are no elements

magic_is : (s : Shape) (f : List ℕ) → IsField s magic f → f ≡ 76 ∷ file_letter ∷ 80 ∷ 49 ∷ []
unfolding wrong
magic_is s [] h = let l = h.long in absurd (omega arith)
magic_is s (a ∷ []) h = let l = h.long in absurd (omega arith)
magic_is s (a ∷ b ∷ []) h = let l = h.long in absurd (omega arith)
magic_is s (a ∷ b ∷ d ∷ []) h = let l = h.long in absurd (omega arith)
magic_is s (a ∷ b ∷ d ∷ g ∷ []) h =
    let all : ((a == 76) && ((b == file_letter) && ((d == 80) && (g == 49)))) ≡ true = none_true _ _ h.right in
    let p = and_parts (a == 76) ((b == file_letter) && ((d == 80) && (g == 49))) all in
    let q = and_parts (b == file_letter) ((d == 80) && (g == 49)) p.1 in
    let r = and_parts (d == 80) (g == 49) q.1 in
    rw (eqb-true a 76 p.0, eqb-true b file_letter q.0, eqb-true d 80 r.0, eqb-true g 49 r.1) refl
magic_is s (a ∷ b ∷ d ∷ g ∷ x ∷ xs) h = let l = h.long in absurd (omega arith)

digests_are : (s : Shape) (n : ℕ) (ds : List (List ℕ)) → AreFields s (replicate n plain) ds → (length ds ≡ n) × AreDigests ds
digests_are s zero [] h = (refl, λ k l. absurd (omega arith))
digests_are s zero (d ∷ ds) h = absurd h
digests_are s (suc n) [] h = absurd h
digests_are s (suc n) (d ∷ ds) h =
    let more = digests_are s n ds h.1 in
    (omega (arith, more.0), each more.1)
  where
    each : AreDigests ds → AreDigests (d ∷ ds)
    each rest zero l = h.0.long
    each rest (suc k) l = rest k (omega arith)

-- what is read of a path
record PathRead (bytes : List ℕ) (fs : List (List ℕ)) : Type 0 where
  digests : List (List ℕ)
  are : fs ≡ to_le_bytes w32 (length digests) ∷ digests
  few : length digests ≤ most_digests
  long : AreDigests digests

path_is : (s : Shape) (bytes : List ℕ) (x : List (List ℕ) × List ℕ) → Small bytes → path_at s bytes ≡ Ok x → PathRead bytes x.0
unfolding path_at wrong
path_is s bytes x small e =
    from (field_at s count bytes) _ x e (λ n at_n more.
    from (fields_at s (replicate (from_le_bytes w32 n.0) plain) n.1) _ x more (λ ds at_ds end.
    let one = field_takes s count bytes n at_n in
    let others = digests_are s (from_le_bytes w32 n.0) ds.0 (fields_take s (replicate (from_le_bytes w32 n.0) plain) n.1 ds at_ds).1 in
    let made : List (List ℕ) × List ℕ = (n.0 ∷ ds.0, ds.1) in
    let n_small : Small n.0 = (all_parts (λ b. b < 256) n.0 n.1 (subst Small one.0 small)).0 in
    let back : to_le_bytes w32 (length ds.0) ≡ n.0 = le_bytes_4 n.0 (length ds.0) one.1.long (small_at n.0 n_small) others.0 in
    let fits : from_le_bytes w32 n.0 ≤ most_digests = leb-true (from_le_bytes w32 n.0) most_digests (none_true _ _ one.1.right) in
    record {
      digests = ds.0;
      are = sym (ap (λ (y : List (List ℕ) × List ℕ). y.0) (done_is made x end)) ∙ ap (λ f. f ∷ ds.0) (sym back);
      few = omega (arith, others.0, fits);
      long = others.1;
    }))

-- ---- elements

module _ {A : Type 0} (o : Ops A) (size : ℕ) (number : A → ℕ) (element_of : ℕ → A) (bytes : ℕ) (laws : Laws o size number element_of bytes) where
  abbrev s : Shape
  s = shape bytes size

  abbrev field : A → List ℕ
  field = element_field bytes number

  element_back : (f : List ℕ) → IsField s element f → Small f → field (element_of (number_from f)) ≡ f
  unfolding wrong
  element_back f h small =
      let n = number_from f in
      let less : n < size = ltb-true n size (none_true _ _ h.right) in
      let same : number (element_of n) ≡ n = laws.numbers.number_element n ∙ mod-eq_of_lt less in
      ap (bytes_of bytes) same ∙ ap (λ (k : ℕ). bytes_of k n) (sym h.long) ∙ bytes_of-number_from f small

  record Elements (n : ℕ) (fs : List (List ℕ)) : Type 0 where
    list : List A
    long : length list ≡ n
    are : map field list ≡ fs

  elements_back : (n : ℕ) (fs : List (List ℕ)) → AreFields s (replicate n element) fs → AllSmall fs → Elements n fs
  elements_back zero [] h small = record { list = []; long = refl; are = refl }
  elements_back zero (f ∷ fs) h small = absurd h
  elements_back (suc n) [] h small = absurd h
  elements_back (suc n) (f ∷ fs) h small =
      let more = elements_back n fs h.1 small.1 in
      record {
        list = element_of (number_from f) ∷ more.list;
        long = ap suc more.long;
        are = ap (λ g. g ∷ map field more.list) (element_back f h.0 small.0) ∙ ap (λ gs. f ∷ gs) more.are;
      }

  -- elements, and what is behind them
  record Behind (n : ℕ) (ts : List Sort) (fs : List (List ℕ)) : Type 0 where
    elements : List A
    long : length elements ≡ n
    rest : List (List ℕ)
    are : map field elements ++ rest ≡ fs
    rest_are : AreFields s ts rest
    small : AllSmall rest

  elements_then : (n : ℕ) (ts : List Sort) (fs : List (List ℕ)) → AreFields s (replicate n element ++ ts) fs → AllSmall fs → Behind n ts fs
  elements_then n ts fs h small =
      let both = parted s (replicate n element) ts fs h in
      let smalls = all_parts Small both.first both.rest (subst AllSmall both.are small) in
      let list = elements_back n both.first both.first_are smalls.0 in
      record { elements = list.list; long = list.long; rest = both.rest; are = ap (λ gs. gs ++ both.rest) list.are ∙ sym both.are; rest_are = both.rest_are; small = smalls.1 }

  record Opened (rows n : ℕ) (fs : List (List ℕ)) : Type 0 where
    nonces : List (List ℕ)
    columns : List A
    many : length nonces ≡ n
    long : length columns ≡ n * rows
    digests : AreDigests nonces
    are : opened_fields field rows nonces columns ≡ fs

  opened_back : (rows n : ℕ) (fs : List (List ℕ)) → AreFields s (opened_sorts rows n) fs → AllSmall fs → Opened rows n fs
  opened_back rows zero [] h small = record { nonces = []; columns = []; many = refl; long = omega arith; digests = λ k l. absurd (omega arith); are = refl }
  opened_back rows zero (f ∷ fs) h small = absurd h
  opened_back rows (suc n) [] h small = absurd h
  opened_back rows (suc n) (f ∷ fs) h small =
      let column = elements_then rows (opened_sorts rows n) fs h.1 small.1 in
      let more = opened_back rows n column.rest column.rest_are column.small in
      let z : suc n * rows ≡ rows + n * rows = omega arith in
      record {
        nonces = f ∷ more.nonces;
        columns = column.elements ++ more.columns;
        many = ap suc more.many;
        long = omega (arith, z, length-append column.elements more.columns, column.long, more.long);
        digests = each more.nonces more.digests;
        are = ap (λ xs. f ∷ (map field xs ++ opened_fields field rows more.nonces (drop rows (column.elements ++ more.columns)))) (take_at column.elements more.columns rows column.long)
            ∙ ap (λ xs. f ∷ (map field column.elements ++ opened_fields field rows more.nonces xs)) (drop_at column.elements more.columns rows column.long)
            ∙ ap (λ gs. f ∷ (map field column.elements ++ gs)) more.are ∙ ap (λ gs. f ∷ gs) column.are;
      }
    where
      each : (ns : List (List ℕ)) → AreDigests ns → AreDigests (f ∷ ns)
      each ns rest zero l = h.0.long
      each ns rest (suc k) l = rest k (omega arith)

  -- ---- the whole

  -- the first fields, and those of a path, are a proof's
  joined : (p : Params) (file : List ℕ) (first path : List (List ℕ)) (source : List ℕ) → AreFields s (sorts_of p) first → AllSmall first → PathRead source path → file ≡ flat (first ++ path) → IsProofFile bytes number p file
  unfolding sorts_of
  joined p file [] path source h small read e = absurd h
  joined p file (m ∷ []) path source h small read e = absurd h.1
  joined p file (m ∷ id ∷ []) path source h small read e = absurd h.1.1
  joined p file (m ∷ id ∷ root ∷ fs) path source h small read e =
      let opened = opened_sorts p.nrow opened_count in
      let tail = replicate (p.dblock - p.block) element in
      let all = parted s (replicate p.nsum element ++ (replicate p.block element ++ (replicate p.dblock element ++ (replicate opened_count element ++ tail)))) opened fs h.1.1.1 in
      let smalls = all_parts Small all.first all.rest (subst AllSmall all.are small.1.1.1) in
      let r1 = elements_then p.nsum (replicate p.block element ++ (replicate p.dblock element ++ (replicate opened_count element ++ tail))) all.first all.first_are smalls.0 in
      let r2 = elements_then p.block (replicate p.dblock element ++ (replicate opened_count element ++ tail)) r1.rest r1.rest_are r1.small in
      let r3 = elements_then p.dblock (replicate opened_count element ++ tail) r2.rest r2.rest_are r2.small in
      let r4 = elements_then opened_count tail r3.rest r3.rest_are r3.small in
      let r5 = elements_back (p.dblock - p.block) r4.rest r4.rest_are r4.small in
      let columns = opened_back p.nrow opened_count all.rest all.rest_are smalls.1 in
      let q : Proof A = record {
        id = id;
        root = root;
        messages = r1.elements;
        ldt = r2.elements;
        dot = r3.elements;
        quad_head = r4.elements;
        quad_tail = r5.list;
        nonces = columns.nonces;
        columns = columns.columns;
        path = record { digests = read.digests; room = most_digests };
      } in
      let front : List (List ℕ) = (76 ∷ file_letter ∷ 80 ∷ 49 ∷ []) ∷ id ∷ root ∷ [] in
      let answers_are : answer_fields field q ≡ all.first =
      ap (λ gs. map field r1.elements ++ (map field r2.elements ++ (map field r3.elements ++ (map field r4.elements ++ gs)))) r5.are
      ∙ ap (λ gs. map field r1.elements ++ (map field r2.elements ++ (map field r3.elements ++ gs))) r4.are
      ∙ ap (λ gs. map field r1.elements ++ (map field r2.elements ++ gs)) r3.are ∙ ap (λ gs. map field r1.elements ++ gs) r2.are ∙ r1.are in
      let first_is : front ++ (answer_fields field q ++ opened_fields field p.nrow columns.nonces columns.columns) ≡ m ∷ id ∷ root ∷ fs =
      ap (λ gs. front ++ (gs ++ opened_fields field p.nrow columns.nonces columns.columns)) answers_are
      ∙ ap (λ gs. front ++ (all.first ++ gs)) columns.are ∙ ap (λ gs. front ++ gs) (sym all.are) ∙ ap (λ g. g ∷ id ∷ root ∷ fs) (sym (magic_is s m h.0)) in
      record {
        proof = q;
        is = record {
          lengths = record { messages = r1.long; ldt = r2.long; dot = r3.long; quad_head = r4.long; quad_tail = r5.long; nonces = columns.many; columns = columns.long };
          few = read.few;
          id = h.1.0.long;
          root = h.1.1.0.long;
          nonces = columns.digests;
          path = read.long;
          are = e ∙ ap flat (ap (λ gs. gs ++ path) (sym first_is) ∙ ap (λ gs. (front ++ (answer_fields field q ++ opened_fields field p.nrow columns.nonces columns.columns)) ++ gs) read.are ∙ fields_are field p.nrow q);
        };
      }

  -- what is read is some proof's file
  read_proof : (p : Params) (file : List ℕ) (fs : List (List ℕ)) → Small file → proof_at s p file ≡ Ok fs → IsProofFile bytes number p file
  unfolding proof_at
  read_proof p file fs small e =
      from (fields_at s (sorts_of p) file) _ fs e (λ first at_first more.
      from (path_at s first.1) _ fs more (λ path at_path end.
      let last = passed (length path.1 == 0) _ (done (first.0 ++ path.0)) fs end in
      let took = fields_take s (sorts_of p) file first at_first in
      let smalls = all_parts (λ b. b < 256) (flat first.0) first.1 (subst Small took.0 small) in
      let whole : file ≡ flat (first.0 ++ path.0) = proof_takes s p file fs e ∙ ap flat (sym (done_is (first.0 ++ path.0) fs last.1)) in
      joined p file first.0 path.0 first.1 took.1 (flat_small first.0 smalls.0) (path_is s first.1 path smalls.1 at_path) whole))

  some_read : (p : Params) (file : List ℕ) (r : Result (List (List ℕ)) Stop) → Small file → ((offset : ℕ) (kind : ProofKind) → ¬ ProofFaultAt s p file offset kind) → proof_at s p file ≡ r → IsProofFile bytes number p file
  some_read p file (Ok fs) small none e = read_proof p file fs small e
  some_read p file (Err stop) small none e = absurd (none (length file - stop.left) stop.kind (fault_found s p file stop.left stop.kind e))

  -- bytes without a fault are some proof's file
  pub some_proof : (p : Params) → SomeProof bytes size number p
  some_proof p file small none = some_read p file (proof_at s p file) (small_from file small) none refl

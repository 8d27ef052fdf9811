-- Circuits that are kept by the names of their files, and bytes that are counted together.
use Rattle.std.proofs.Common.{◌≡◌, ◌≢◌, ◌+◌, ◌<◌, ◌≤◌, inr, ℕ, true, false, zero, suc, List, [], ◌∷◌, ◌++◌, length, map, Option, Some, Result, Ok, Err, refl, sym, ap, ◌∙◌, subst, arith, append-nil}
use Rattle.std.specs.Prelude.{All, IfSome, slice_get, slice_index_or}
use Rattle.std.specs.Borrow.{Bor}
use Rattle.std.specs.Str.{bytes_eq}
use native.Mathlib.Decide.{dec_lt}
use Rattle.std.proofs.lemmas.Bool.Decides.{not_from_Decides}
use Rattle.std.proofs.lemmas.List.{get_or_default}
use Rattle.std.proofs.lemmas.Option.{slice_get-get_or, slice_get_within, get_or_from_slice_get}
use Rattle.std.proofs.lemmas.Slice.Eq.{bytes_eq-Decides}
use Rattle.std.specs.Result.{IsErrAnd}
use Rattle.std.specs.List.{AllZip}
use Rattle.lzk_circbytes.specs.declared.any.AnyCircuit.{AnyCircuit}
use Rattle.lzk_circbytes.specs.Files.{CircuitBytes, id_of_any}
use Rattle.lzk_outside.specs.Outside.{Files}
use Rattle.lzk_cmd_files.specs.declared.ending.Halt.{Halt}
use Rattle.lzk_cmd_files.specs.declared.ending.Halt.TheVariants as halts
use Rattle.lzk_cmd_batch.specs.declared.kept.CircuitFile.{CircuitFile}
use Rattle.lzk_cmd_batch.specs.declared.kept.Circuits.{Circuits}
use Rattle.lzk_cmd_batch.specs.Batched.{TooMany, Own, among, total_limit}
use Rattle.lzk_cmd_files.specs.Decoded.{circuit_files, circuit_limit}
use Rattle.lzk_cmd_files.specs.Formats.{Format, HasFile}
use Rattle.lzk_cmd_batch.specs.Gathered.{Counts, IsKept, AreKept, IsPlaceOf, KeepsOn, HasCircuit, GivesLast, GivesPlace}
use Rattle.lzk_cmd_files.specs.Seen.{Seen}
use Rattle.lzk_cmd_files.specs.Walks.{HasBytes, Decodes, Gives}
use Rattle.lzk_cmd_files.proofs.Steps.{handed_on}

-- ---- a file behind others

module _ {X F R : Type 0} (format : Format X F) (view : R → X × ℕ) (name : List ℕ) (old new : Seen) (taken : ℕ) (r : Result R Halt) where
  -- it has too many bytes with them
  pub over : (bytes : List ℕ) (len : ℕ) (h : Halt) → len ≡ length bytes → HasBytes old name format.limit bytes → Counts taken name len (Err h) → IsErrAnd r (λ y. y ≡ h) → Gives (among taken format) view old new name r
  over bytes len h long has counts is = handed_on (Gives (among taken format) view old new name) r h is (go h counts)
    where
      go : (h : Halt) → Counts taken name len (Err h) → Gives (among taken format) view old new name (Err h)
      go halts.Memory c = tt
      go (halts.End e) c = inr (bytes, has, TooMany, subst (λ n. total_limit < taken + n) long c.0, c.1)

  -- its contents are refused
  pub refused : {S : Type 0} (decoded : S → X) (bytes given : List ℕ) (len all : ℕ) (h : Halt) → given ≡ bytes → len ≡ length bytes → HasBytes old name format.limit bytes → Counts taken name len (Ok all) → Decodes format decoded name given (Err h)
      → IsErrAnd r (λ y. y ≡ h) → Gives (among taken format) view old new name r
  refused decoded bytes given len all h same long has counts broken is = handed_on (Gives (among taken format) view old new name) r h is (go h (subst (λ b. Decodes format decoded name b (Err h)) same broken))
    where
      few : taken + length bytes ≤ total_limit
      few = subst (λ n. n ≤ total_limit) (counts.0 ∙ ap (λ n. taken + n) long) counts.1

      go : (h : Halt) → Decodes format decoded name bytes (Err h) → Gives (among taken format) view old new name (Err h)
      go halts.Memory b = tt
      go (halts.End e) (fault, breaks, ends) = inr (bytes, has, Own fault, (few, breaks), ends)

  -- there was no memory
  pub no_memory : IsErrAnd r (λ y. y ≡ halts.Memory) → Gives (among taken format) view old new name r
  no_memory is = handed_on (Gives (among taken format) view old new name) r halts.Memory is tt

-- it means this
pub counted : {X F R : Type 0} (format : Format X F) (view : R → X × ℕ) (name : List ℕ) (old new : Seen) (taken : ℕ) (x : R) (bytes given : List ℕ) (len all : ℕ) → given ≡ bytes → len ≡ length bytes → HasBytes old name format.limit bytes
    → Counts taken name len (Ok all) → format.means given (view x).0 → (view x).1 ≡ all → Gives (among taken format) view old new name (Ok x)
counted format view name old new taken x bytes given len all same long has counts means is =
    let sum : (view x).1 ≡ taken + length bytes = is ∙ counts.0 ∙ ap (λ n. taken + n) long in
    (bytes, has, (subst (λ b. format.means b (view x).0) same means, sum, subst (λ n. n ≤ total_limit) (sym is) counts.1))

-- ---- lists of two

pub front_stays : {A : Type 0} (xs more : List A) (i : ℕ) (x : A) → slice_get xs i ≡ Some x → slice_get (xs ++ more) i ≡ Some x
front_stays [] more i x at = absurd cc
front_stays (y ∷ ys) more zero x at = at
front_stays (y ∷ ys) more (suc i) x at = front_stays ys more i x at

pub last_is : {A : Type 0} (xs : List A) (x : A) → slice_get (xs ++ x ∷ []) (length xs) ≡ Some x
last_is [] x = refl
last_is (y ∷ ys) x = last_is ys x

pub each_more : {A B : Type 0} (P : A → B → Type 0) (xs : List A) (ys : List B) (x : A) (y : B) → AllZip P xs ys → P x y → AllZip P (xs ++ x ∷ []) (ys ++ y ∷ [])
each_more P [] [] x y h p = (p, tt)
each_more P [] (b ∷ ys) x y h p = absurd h
each_more P (a ∷ xs) [] x y h p = absurd h
each_more P (a ∷ xs) (b ∷ ys) x y h p = (h.0, each_more P xs ys x y h.1 p)

pub each_by : {A B : Type 0} (P Q : A → B → Type 0) (xs : List A) (ys : List B) → ((x : A) (y : B) → P x y → Q x y) → AllZip P xs ys → AllZip Q xs ys
each_by P Q [] [] f h = tt
each_by P Q [] (b ∷ ys) f h = absurd h
each_by P Q (a ∷ xs) [] f h = absurd h
each_by P Q (a ∷ xs) (b ∷ ys) f h = (f a b h.0, each_by P Q xs ys f h.1)

pub each_at : {A B : Type 0} (P : A → B → Type 0) (xs : List A) (ys : List B) (i : ℕ) (x : A) → AllZip P xs ys → slice_get xs i ≡ Some x → (y : B) × (slice_get ys i ≡ Some y) × P x y
each_at P [] [] i x h at = absurd cc
each_at P [] (b ∷ ys) i x h at = absurd h
each_at P (a ∷ xs) [] i x h at = absurd h
each_at P (a ∷ xs) (b ∷ ys) zero x h at = let same : a ≡ x = cc in (b, refl, subst (λ z. P z b) same h.0)
each_at P (a ∷ xs) (b ∷ ys) (suc i) x h at = each_at P xs ys i x h.1 at

pub as_long : {A B : Type 0} (P : A → B → Type 0) (xs : List A) (ys : List B) → AllZip P xs ys → length xs ≡ length ys
as_long P [] [] h = refl
as_long P [] (b ∷ ys) h = absurd h
as_long P (a ∷ xs) [] h = absurd h
as_long P (a ∷ xs) (b ∷ ys) h = ap suc (as_long P xs ys h.1)

-- ---- circuits

-- a file at a place, whose name this is
pub place_at : (files : List CircuitFile) (name : List ℕ) (i : ℕ) (d : CircuitFile) → i < length files → bytes_eq (slice_index_or files i d).name.now name ≡ true → IsPlaceOf files name i
place_at files name i d less same = (slice_index_or files i d, slice_get-get_or files i d less, (bytes_eq-Decides (slice_index_or files i d).name.now name).0 same)

-- none of the files before the next place has the name, where none before this one has it and its own is another
pub other_at : (files : List CircuitFile) (name : List ℕ) (i : ℕ) (d : CircuitFile) → i < length files → bytes_eq (slice_index_or files i d).name.now name ≡ false
    → ((k : ℕ) (e : CircuitFile) → k < i → (slice_index_or files k e).name.now ≢ name) → (k : ℕ) (e : CircuitFile) → k < i + 1 → (slice_index_or files k e).name.now ≢ name
other_at files name i d less other before k e up =
    elim (dec_lt k i) [
      | yes below ↦ before k e below
      | no past ↦
          let here : k ≡ i = omega (arith, up, past) in
          subst (λ j. (slice_index_or files j e).name.now ≢ name) (sym here)
          (subst (λ (file : CircuitFile). file.name.now ≢ name) (get_or_default files i d e less) (not_from_Decides _ (bytes_eq-Decides (slice_index_or files i d).name.now name) other))
    ]

-- where no file has the name, none has it at a place
pub nowhere : (files : List CircuitFile) (name : List ℕ) → All (λ (file : CircuitFile). file.name.now ≢ name) files → (place : ℕ) → IsPlaceOf files name place → ⊥
nowhere files name none place (file, here, same) =
    none place file (slice_get_within files place file here) (ap (λ (f : CircuitFile). f.name.now) (get_or_from_slice_get files place file file here) ∙ same)

-- the end at a circuit's file, where it is read to be put behind the others
pub no_last : (old new : Seen) (before kept : Circuits) (name : List ℕ) (taken : ℕ) (h : Halt) (r : Result ℕ Halt) → Gives {R = AnyCircuit × ℕ} (among taken circuit_files) (λ found. found) old new name (Err h) → IsErrAnd r (λ y. y ≡ h) → GivesLast old new before kept name taken r
no_last old new before kept name taken h r gives is = handed_on (GivesLast old new before kept name taken) r h is gives

-- the circuit of a file stands behind the others
pub last_circuit : (old new : Seen) (before : Circuits) (all : List AnyCircuit) (name : List ℕ) (taken : ℕ) (c : AnyCircuit) (bytes given : List ℕ) (len total : ℕ) → all ≡ before.all.items ++ c ∷ [] → given ≡ bytes → len ≡ length bytes → HasBytes old name circuit_limit bytes
    → Counts taken name len (Ok total) → CircuitBytes c given → HasCircuit old new all name taken (length before.all.items) total
last_circuit old new before all name taken c bytes given len total put same long has counts means = record {
  circuit = c;
  there = subst (λ cs. slice_get cs (length before.all.items) ≡ Some c) (sym put) (last_is before.all.items c);
  gives = counted circuit_files (λ (found : AnyCircuit × ℕ). found) name old new taken (c, total) bytes given len total same long has counts means refl;
}

module _ (told : Option Files) where
  -- nothing was kept beside the others
  pub as_before : (kept : Circuits) → AreKept told kept → KeepsOn told kept kept
  as_before kept h = record { more = []; all = sym (append-nil kept.all.items); few = omega arith; kept = h }

  -- a circuit that was put behind the others
  pub keeps_more : (old new : Circuits) (file : CircuitFile) (c : AnyCircuit) → AreKept told old → IsKept told file c → new.files.items ≡ old.files.items ++ file ∷ [] → new.all.items ≡ old.all.items ++ c ∷ [] → KeepsOn told old new
  keeps_more old new file c h is files all = record {
    more = c ∷ [];
    all = all;
    few = omega arith;
    kept = subst (λ xs. AllZip (IsKept told) xs new.all.items) (sym files) (subst (λ ys. AllZip (IsKept told) (old.files.items ++ file ∷ []) ys) (sym all) (each_more (IsKept told) old.files.items old.all.items file c h is));
  }

pub put_behind : (told : Option Files) (old new : Circuits) (name : Bor (List ℕ)) (c : AnyCircuit) (id bytes given : List ℕ) (len : ℕ) → AreKept told old → new.files.items ≡ old.files.items ++ (record { name = name; bytes = len; id = id }) ∷ []
    → new.all.items ≡ old.all.items ++ c ∷ [] → given ≡ bytes → len ≡ length bytes → length bytes ≤ circuit_limit → IfSome told (λ files. HasFile (files name.now) circuit_limit bytes) → CircuitBytes c given → id ≡ id_of_any c → KeepsOn told old new
put_behind told old new name c id bytes given len h files all same long few has means is =
    keeps_more told old new (record { name = name; bytes = len; id = id }) c h
    (record { bytes = bytes; long = sym long; few = subst (λ n. n ≤ circuit_limit) (sym long) few; file_is = has; means = subst (CircuitBytes c) same means; id = is }) files all

-- the ids that stand with the files are those of the circuits
pub kept_ids : (told : Option Files) (files : List CircuitFile) (all : List AnyCircuit) → AllZip (IsKept told) files all → map (λ (file : CircuitFile). file.id) files ≡ map id_of_any all
kept_ids told [] [] h = refl
kept_ids told [] (c ∷ cs) h = absurd h
kept_ids told (f ∷ fs) [] h = absurd h
kept_ids told (f ∷ fs) (c ∷ cs) h = cc (h.0.id, kept_ids told fs cs h.1)

pub few_bytes : (told : Option Files) (kept : Circuits) (name : List ℕ) (place : ℕ) → AreKept told kept → (at : IsPlaceOf kept.files.items name place) → at.0.bytes ≤ circuit_limit
few_bytes told kept name place h (file, there, same) = let found = each_at (IsKept told) kept.files.items kept.all.items place file h there in found.2.few

-- a circuit that was kept is that of its file again
module _ (old new : Seen) (kept : Circuits) (name : List ℕ) (taken place : ℕ) where
  pub again : AreKept old.files kept → (at : IsPlaceOf kept.files.items name place) → (all : ℕ) → Counts taken name at.0.bytes (Ok all) → HasCircuit old new kept.all.items name taken place all
  again h (file, there, same) all counts =
      let found = each_at (IsKept old.files) kept.files.items kept.all.items place file h there in
      let is = found.2 in
      record {
        circuit = found.0;
        there = found.1;
        gives = counted circuit_files (λ (x : AnyCircuit × ℕ). x) name old new taken (found.0, all) is.bytes is.bytes file.bytes all refl (sym is.long) (subst (λ n. HasBytes old n circuit_limit is.bytes) same is.file_is) counts is.means refl;
      }

  pub again_over : AreKept old.files kept → (at : IsPlaceOf kept.files.items name place) → (h : Halt) (r : Result (AnyCircuit × ℕ) Halt) → Counts taken name at.0.bytes (Err h) → IsErrAnd r (λ y. y ≡ h)
      → Gives (among taken circuit_files) (λ (x : AnyCircuit × ℕ). x) old new name r
  again_over h (file, there, same) halt r counts is =
      let found = each_at (IsKept old.files) kept.files.items kept.all.items place file h there in
      let kept_is = found.2 in
      over circuit_files (λ (x : AnyCircuit × ℕ). x) name old new taken r kept_is.bytes file.bytes halt (sym kept_is.long) (subst (λ n. HasBytes old n circuit_limit kept_is.bytes) same kept_is.file_is) counts is

-- the same, of the file that was read at the place
module _ (old new : Seen) (kept : Circuits) (name : List ℕ) (taken place : ℕ) (files : List CircuitFile) (file : CircuitFile) (h : AreKept old.files kept) (same : files ≡ kept.files.items) (at : IsPlaceOf files name place) (is : file ≡ slice_index_or kept.files.items place file) where
  found : IsPlaceOf kept.files.items name place
  found = subst (λ fs. IsPlaceOf fs name place) same at

  file_is : found.0 ≡ file
  file_is = sym (get_or_from_slice_get kept.files.items place found.0 file found.1) ∙ sym is

  pub again_at : (all : ℕ) → Counts taken name file.bytes (Ok all) → HasCircuit old new kept.all.items name taken place all
  again_at all counts = again old new kept name taken place h found all (subst (λ (f : CircuitFile). Counts taken name f.bytes (Ok all)) (sym file_is) counts)

  pub again_over_at : (halt : Halt) (r : Result (ℕ × ℕ) Halt) → Counts taken name file.bytes (Err halt) → IsErrAnd r (λ y. y ≡ halt) → GivesPlace old new kept.all.items name taken r
  again_over_at halt r counts handed =
      handed_on (GivesPlace old new kept.all.items name taken) r halt handed
      (again_over old new kept name taken place h found halt (Err halt) (subst (λ (f : CircuitFile). Counts taken name f.bytes (Err halt)) (sym file_is) counts) refl)

pub few_at : (told : Option Files) (kept : Circuits) (name : List ℕ) (place : ℕ) (files : List CircuitFile) (file : CircuitFile) → AreKept told kept → files ≡ kept.files.items → IsPlaceOf files name place → file ≡ slice_index_or kept.files.items place file → file.bytes ≤ circuit_limit
few_at told kept name place files file h same at is =
    let found : IsPlaceOf kept.files.items name place = subst (λ fs. IsPlaceOf fs name place) same at in
    let file_is : found.0 ≡ file = sym (get_or_from_slice_get kept.files.items place found.0 file found.1) ∙ sym is in
    subst (λ (f : CircuitFile). f.bytes ≤ circuit_limit) file_is (few_bytes told kept name place h found)

pub last_place : (old new : Seen) (before : Circuits) (all : List AnyCircuit) (name : List ℕ) (taken place total : ℕ) → place ≡ length before.all.items → HasCircuit old new all name taken (length before.all.items) total → HasCircuit old new all name taken place total
last_place old new before all name taken place total is h = subst (λ p. HasCircuit old new all name taken p total) (sym is) h

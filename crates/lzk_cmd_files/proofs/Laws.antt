-- What holds of the formats of files.
use Rattle.std.proofs.Common.{◌≡◌, ◌-◌, ℕ, List, [], ◌∷◌, length, map, Result, Ok, Err, inr, refl, sym, ap, ◌∙◌, arith}
use Rattle.lzk_circbytes.specs.declared.fault.ByteKind.{ByteKind}
use Rattle.lzk_circbytes.specs.declared.fault.ByteKind.TheVariants.{Truncated}
use Rattle.lzk_circbytes.specs.Files.{CircuitFaultAt}
use Rattle.lzk_circbytes.specs.Reading.{Stop as Left}
use Rattle.lzk_circbytes.proofs.Whole.{one_circuit, no_fault}
use Rattle.lzk_circuit.specs.Valid.{Wiring}
use Rattle.lzk_expr.specs.declared.fault.NumberFault.{NumberFault}
use Rattle.lzk_expr.specs.Numbers.{NumberText, IsNumberFault}
use Rattle.lzk_expr.proofs.NumberLaws.{text_again}
use Rattle.lzk_expr.specs.declared.source_fault.SourceFault.{SourceFault}
use Rattle.lzk_expr.specs.Sources.{SourceText, IsSourceFault}
use Rattle.lzk_expr.specs.Trees.{SourceTree}
use Rattle.lzk_expr.proofs.TextLaws.{one_text}
use Rattle.lzk_level.specs.declared.fault.LevelFault.{LevelFault}
use Rattle.lzk_cmd_files.specs.Decoded.{circuit_files, number_files, source_files, proof_files, level_refused}
use Rattle.lzk_cmd_files.specs.Ends.{says}
use Rattle.lzk_cmd_files.specs.Formats.{Format}
use Rattle.lzk_cmd_files.specs.Lines.{unfit_line}
use Rattle.lzk_cmd_files.specs.Refusals.{Refusal, Bytes, Numbers, Source, Level, Unfit, refusal_line, MayRefuse}
use Rattle.lzk_cmd_files.proofs.Causes.{IsQuiet}

-- bytes mean one thing or have one fault, and are refused by a line that needs nothing of the outside
pub record IsLawful {X F : Type 0} (format : Format X F) : Type 0 where
  pub one : (bytes : List ℕ) (x y : X) → format.means bytes x → format.means bytes y → x ≡ y
  pub not_both : (bytes : List ℕ) (x : X) (fault : F) → format.means bytes x → format.breaks bytes fault → ⊥
  pub one_refusal : (name bytes : List ℕ) (f g : F) → format.breaks bytes f → format.breaks bytes g → format.refused name f ≡ format.refused name g
  pub quiet : (name : List ℕ) (fault : F) → IsQuiet (format.refused name fault)

pub refusal_quiet : (refusal : Refusal) → MayRefuse ⊥ refusal → IsQuiet (says 3 (refusal_line refusal))
refusal_quiet refusal may = record { put = refl; present = refl; cause = inr (refl, record { refusal = refusal; line = refl; may = may }) }

pub level_quiet : (name : List ℕ) (fault : LevelFault) → IsQuiet (level_refused name fault)
level_quiet name fault = refusal_quiet (Level name fault) tt

pub unfit_quiet : (name : List ℕ) (len : ℕ) → IsQuiet (says 3 (unfit_line name len))
unfit_quiet name len = refusal_quiet (Unfit name len) tt

-- ---- circuit files

abbrev left_of : Result (ℕ × Wiring ℕ) Left → ℕ
left_of (Ok x) = 0
left_of (Err stop) = stop.left

abbrev kind_left : Result (ℕ × Wiring ℕ) Left → ByteKind
kind_left (Ok x) = Truncated
kind_left (Err stop) = stop.kind

one_byte_fault : (name bytes : List ℕ) (f g : ℕ × ByteKind) → CircuitFaultAt bytes f.0 f.1 → CircuitFaultAt bytes g.0 g.1 → circuit_files.refused name f ≡ circuit_files.refused name g
one_byte_fault name bytes (m, k) (n, l) h g =
    let kinds : k ≡ l = ap kind_left (sym h.0 ∙ g.0) in
    let lefts : length bytes - m ≡ length bytes - n = ap left_of (sym h.0 ∙ g.0) in
    let places : m ≡ n = omega (arith, lefts, h.1, g.1) in
    ap (λ i. circuit_files.refused name (i, k)) places ∙ ap (λ kind. circuit_files.refused name (n, kind)) kinds

pub circuits : IsLawful circuit_files
circuits = record {
  one = λ bytes c d h g. one_circuit bytes c d h g;
  not_both = λ bytes c fault h broken. no_fault c bytes fault.0 fault.1 h broken;
  one_refusal = one_byte_fault;
  quiet = λ name fault. refusal_quiet (Bytes name fault.0 fault.1) tt;
}

-- ---- number files

pub no_number_fault : (size count : ℕ) (text list : List ℕ) → NumberText size count text list → (fault : _) → IsNumberFault size count text fault → ⊥
no_number_fault size count text list is fault h = let again = text_again size count text list is in cc

one_number_fault : (size count : ℕ) (text : List ℕ) (f g : NumberFault) → IsNumberFault size count text f → IsNumberFault size count text g → f ≡ g
one_number_fault size count text f g h k = cc

pub numbers_quiet : {A : Type 0} (size : ℕ) (number : A → ℕ) (count : ℕ) (name : List ℕ) (fault : NumberFault) → IsQuiet ((number_files size number count).refused name fault)
numbers_quiet size number count name fault = refusal_quiet (Numbers name fault.line fault.kind) tt

module _ {A : Type 0} (size : ℕ) (number : A → ℕ) (injective : (x y : A) → number x ≡ number y → x ≡ y) where
  abbrev head_of : ℕ → List ℕ → ℕ
  head_of n [] = n
  head_of n (x ∷ xs) = x

  abbrev tail_of : List ℕ → List ℕ
  tail_of [] = []
  tail_of (x ∷ xs) = xs

  one_list : (xs ys : List A) → map number xs ≡ map number ys → xs ≡ ys
  one_list [] [] e = refl
  one_list [] (y ∷ ys) e = absurd (let no : 0 ≡ length (map number (y ∷ ys)) = ap length e in omega (arith, no))
  one_list (x ∷ xs) [] e = absurd (let no : length (map number (x ∷ xs)) ≡ 0 = ap length e in omega (arith, no))
  one_list (x ∷ xs) (y ∷ ys) e = ap (λ z. z ∷ xs) (injective x y (ap (head_of 0) e)) ∙ ap (λ zs. y ∷ zs) (one_list xs ys (ap tail_of e))

  one_values : (count : ℕ) (text : List ℕ) (xs ys : List A) → NumberText size count text (map number xs) → NumberText size count text (map number ys) → xs ≡ ys
  one_values count text xs ys h k =
      let first = text_again size count text (map number xs) h in
      let second = text_again size count text (map number ys) k in
      let lists : map number xs ≡ map number ys = cc in
      one_list xs ys lists

  pub numbers : (count : ℕ) → IsLawful (number_files size number count)
  numbers count = record {
    one = one_values count;
    not_both = λ text values fault h broken. no_number_fault size count text (map number values) h fault broken;
    one_refusal = λ name text f g h k. ap (λ fault. (number_files size number count).refused name fault) (one_number_fault size count text f g h k);
    quiet = numbers_quiet size number count;
  }

-- ---- sources

one_source : (text : List ℕ) (s t : SourceTree) → SourceText text s → SourceText text t → s ≡ t
one_source text s t h k = let same = one_text text (Ok s) (Ok t) h k in cc

no_source_fault : (text : List ℕ) (s : SourceTree) (fault : SourceFault) → SourceText text s → IsSourceFault text fault → ⊥
no_source_fault text s fault h k = let no = one_text text (Ok s) (Err fault) h k in absurd cc

one_source_fault : (text : List ℕ) (f g : SourceFault) → IsSourceFault text f → IsSourceFault text g → f ≡ g
one_source_fault text f g h k = let same = one_text text (Err f) (Err g) h k in cc

pub sources : IsLawful source_files
sources = record {
  one = one_source;
  not_both = no_source_fault;
  one_refusal = λ name text f g h k. ap (λ fault. source_files.refused name fault) (one_source_fault text f g h k);
  quiet = λ name fault. refusal_quiet (Source name fault.line fault.kind) tt;
}

-- ---- proofs

pub proofs : IsLawful proof_files
proofs = record {
  one = λ bytes x y h k. h ∙ sym k;
  not_both = λ bytes x fault h broken. broken;
  one_refusal = λ name bytes f g h k. absurd h;
  quiet = λ name fault. absurd fault;
}

-- What is appended, in steps.
use Rattle.std.proofs.Common.{◌≡◌, ℕ, ◌+◌, ◌*◌, ◌<◌, ◌≤◌, List, ◌∷◌, ◌++◌, length, map, take, drop, get_or, sym, ap, ◌∙◌, arith, append_assoc}
use Rattle.std.proofs.lemmas.List.{map-append, take-append-drop, take_at}
use Rattle.std.proofs.lemmas.Slice.{take-put_mid}
use Rattle.std.proofs.Math.Nat.{mul-le-mul_left, mul-le-mul_right}
use borrow.Rule.Slice.PartMut.{put_mid}
use Rattle.lzk_field.specs.Bytes.{elements_bytes, bytes_of}
use Rattle.lzk_field.proofs.ByteForms.{length-bytes_of, elements_bytes-append, elements_bytes-more}
use Rattle.lzk_transcript.specs.Tape.{TapeState, appended, bytes_entry, element_entry, array_entry}

pub appended-append : (a b : List ℕ) (t : TapeState) → appended b (appended a t) ≡ appended (a ++ b) t
unfolding appended
appended-append a b t = let P : List ℕ → TapeState = λ p. record { seed = t.seed; pending = p; counter = t.counter } in ap P (append_assoc t.pending a b)

pub bytes_entry_is : (b : List ℕ) (t : TapeState) → appended b (appended (0 ∷ bytes_of 8 (length b)) t) ≡ appended (bytes_entry b) t
unfolding bytes_entry
bytes_entry_is b t = appended-append (0 ∷ bytes_of 8 (length b)) b t

-- after the mark and the number of elements, their bytes are left
pub counted : (width : ℕ) (ns : List ℕ) (n : ℕ) (t now : TapeState) → length ns ≡ n → now ≡ appended (2 ∷ bytes_of 8 n) t → appended (elements_bytes width ns) now ≡ appended (array_entry width ns) t
unfolding array_entry
counted width ns n t now count e =
    let spelled : now ≡ appended (2 ∷ bytes_of 8 (length ns)) t = e ∙ ap (λ k. appended (2 ∷ bytes_of 8 k) t) (sym count) in
    ap (appended (elements_bytes width ns)) spelled ∙ appended-append (2 ∷ bytes_of 8 (length ns)) (elements_bytes width ns) t

pub element_entry_is : (width w n : ℕ) (ys rest : List ℕ) → w ≡ width → ys ≡ bytes_of width n → take (1 + w) (1 ∷ (ys ++ rest)) ≡ element_entry width n
unfolding element_entry
element_entry_is width w n ys rest same e =
    let many : length (1 ∷ ys) ≡ 1 + w = omega (arith, ap length e, length-bytes_of width n) in
    take_at (1 ∷ ys) rest (1 + w) many ∙ ap (λ zs. 1 ∷ zs) e

-- a block of elements is appended, and the others are left
pub block_appended : {A : Type 0} (number : A → ℕ) (width k : ℕ) (es block others : List A) (t now next : TapeState) → block ≡ take k es → others ≡ drop k es
    → next ≡ appended (elements_bytes width (map number block)) now → appended (elements_bytes width (map number es)) now ≡ t
    → appended (elements_bytes width (map number others)) next ≡ t
block_appended number width k es block others t now next front back e had =
    let parts : block ++ others ≡ es = ap (λ xs. xs ++ others) front ∙ ap (λ xs. take k es ++ xs) back ∙ take-append-drop k es in
    let split : elements_bytes width (map number es) ≡ elements_bytes width (map number block) ++ elements_bytes width (map number others) =
    ap (λ xs. elements_bytes width (map number xs)) (sym parts) ∙ ap (elements_bytes width) (map-append number block others) ∙ elements_bytes-append width (map number block) (map number others) in
    ap (appended (elements_bytes width (map number others))) e
    ∙ appended-append (elements_bytes width (map number block)) (elements_bytes width (map number others)) now
    ∙ ap (λ xs. appended xs now) (sym split) ∙ had

-- one element more is written
pub element_written : {A : Type 0} (number : A → ℕ) (width i w k : ℕ) (es : List A) (e : A) (out new : List ℕ) → i < length es → length out ≡ length es * width → e ≡ get_or es i e
    → w ≡ width → new ≡ bytes_of width (number e) → take (i * width) out ≡ elements_bytes width (map number (take i es))
    → take ((i + 1) * width) (put_mid (i * w) k out new) ≡ elements_bytes width (map number (take (i + 1) es))
element_written number width i w k es e out new lt room is same written before =
    let below : width * i ≤ width * length es = mul-le-mul_left width (let le : i ≤ length es = omega arith in le) in
    let within : i * width ≤ length out = omega arith in
    let many : (i + 1) * width ≡ i * width + length new = omega (arith, ap length written, length-bytes_of width (number e)) in
    let start : i * w ≡ i * width = ap (λ v. i * v) same in
    let here = take-put_mid (i * width) k out new ((i + 1) * width) many within in
    let wanted : elements_bytes width (map number (take (i + 1) es)) ≡ take (i * width) out ++ new =
    elements_bytes-more width number es i e lt is ∙ ap (λ xs. elements_bytes width (map number (take i es)) ++ xs) (sym written) ∙ ap (λ xs. xs ++ new) (sym before) in
    ap (λ s. take ((i + 1) * width) (put_mid s k out new)) start ∙ here ∙ sym wanted

-- where the bytes of element i of n stand, each width being that of an element
pub element_stands : (i n width w v size : ℕ) → i < n → size ≡ n * width → w ≡ width → v ≡ width → (i * w + width ≡ (i + 1) * v) × ((i + 1) * v ≤ size)
element_stands i n width w v size below room first second =
    let start : i * w ≡ i * width = ap (λ x. i * x) first in
    let end : (i + 1) * v ≡ (i + 1) * width = ap (λ x. (i + 1) * x) second in
    let next : i + 1 ≤ n = omega (arith, below) in
    let inside : (i + 1) * width ≤ n * width = mul-le-mul_right width next in
    (omega (arith, start, end), omega (arith, end, inside, room))

-- so many elements fit a block
pub elements_fit : (n w : ℕ) → n ≤ 64 → w ≤ 16 → n * w ≤ 1024
elements_fit n w few small = let most : n * w ≤ 64 * w = mul-le-mul_right w few in omega (arith, most, small)

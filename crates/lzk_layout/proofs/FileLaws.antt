-- The bytes of a proof's file, from the first on.
use Rattle.lzk_profile.specs.Profile.{opened_count, file_letter}
use Rattle.std.specs.Prelude.{◌≡◌, ℕ, ◌+◌, ◌-◌, ◌*◌, ◌<◌, ◌≤◌, List, [], ◌∷◌, ◌++◌, length, map, take, drop}
use Rattle.std.specs.Int.{w32, to_le_bytes}
use Rattle.std.proofs.Common.{refl, sym, ap, ◌∙◌, arith, append_assoc, get_or}
use Rattle.std.proofs.lemmas.List.{drop_more, drop_all, append-nil, take_at}
use Rattle.std.proofs.lemmas.Nat.{mul-le}
use Rattle.std.proofs.Math.Nat.{mul-le-mul_right}
use Rattle.lzk_field.specs.Bytes.{bytes_of}
use Rattle.lzk_field.proofs.ByteForms.{length-bytes_of}
use Rattle.lzk_layout.specs.Proofs.{flat, opened_fields, answers_bytes, fields_of, HasLengths}
use Rattle.lzk_layout.specs.Sizes.{proof_length}
use Rattle.lzk_layout.specs.declared.params.Params.{Params}
use Rattle.lzk_layout.specs.declared.proof.Proof.{Proof}

pub flat-append : (xs ys : List (List ℕ)) → flat (xs ++ ys) ≡ flat xs ++ flat ys
flat-append [] ys = refl
flat-append (x ∷ xs) ys = ap (λ (t : List ℕ). x ++ t) (flat-append xs ys) ∙ sym (append_assoc x (flat xs) (flat ys))

-- one more column was written
pub opened_step : {A : Type 0} (field : A → List ℕ) (rows : ℕ) (nonces : List (List ℕ)) (rest : List A) (i : ℕ) (before middle after all : List ℕ)
    → i < length nonces → middle ≡ before ++ get_or nonces i [] → after ≡ middle ++ flat (map field (take rows rest))
    → before ++ flat (opened_fields field rows (drop i nonces) rest) ≡ all → after ++ flat (opened_fields field rows (drop (i + 1) nonces) (drop rows rest)) ≡ all
opened_step field rows nonces rest i before middle after all lt m a h =
    let n = get_or nonces i [] in
    let column : List ℕ = flat (map field (take rows rest)) in
    let others = opened_fields field rows (drop (i + 1) nonces) (drop rows rest) in
    let front : drop i nonces ≡ n ∷ drop (i + 1) nonces = drop_more nonces i [] lt in
    ap (λ (t : List ℕ). t ++ flat others) (a ∙ ap (λ (t : List ℕ). t ++ column) m)
    ∙ append_assoc (before ++ n) column (flat others)
    ∙ append_assoc before n (column ++ flat others)
    ∙ sym (ap (λ (t : List ℕ). before ++ (n ++ t)) (flat-append (map field (take rows rest)) others))
    ∙ sym (ap (λ (ns : List (List ℕ)). before ++ flat (opened_fields field rows ns rest)) front)
    ∙ h

-- the parts of a file, written one after the other
pub file_parts : {A : Type 0} (field : A → List ℕ) (rows : ℕ) (proof : Proof A) (head answers opened file : List ℕ)
    → head ≡ (76 ∷ file_letter ∷ 80 ∷ 49 ∷ []) ++ (proof.id ++ proof.root) → answers ≡ head ++ answers_bytes field proof
    → opened ≡ answers ++ flat (opened_fields field rows proof.nonces proof.columns)
    → file ≡ opened ++ (to_le_bytes w32 (length proof.path.digests) ++ flat proof.path.digests) → file ≡ flat (fields_of field rows proof)
file_parts field rows proof head answers opened file h a o f =
    let columns = flat (opened_fields field rows proof.nonces proof.columns) in
    let path : List ℕ = to_le_bytes w32 (length proof.path.digests) ++ flat proof.path.digests in
    f ∙ ap (λ (t : List ℕ). t ++ path) (o ∙ ap (λ (t : List ℕ). t ++ columns) (a ∙ ap (λ (t : List ℕ). t ++ answers_bytes field proof) h)) ∙ simp (append_assoc, flat-append) refl

-- the room of one more column
pub column_room : (i n each : ℕ) → i < n → i * each + each ≤ n * each
column_room i n each lt = let h : (i + 1) * each ≤ n * each = mul-le-mul_right each (omega arith) in grind (arith, h)

pub next_end : (at i each end stop : ℕ) → end ≡ at + i * each → stop ≡ end + each → stop ≡ at + (i + 1) * each
next_end at i each end stop e f = grind (arith, e, f)

pub next_rest : (i rows before after all : ℕ) → before + i * rows ≡ all → after + rows ≡ before → after + (i + 1) * rows ≡ all
next_rest i rows before after all e f = grind (arith, e, f)

sums : (w a b c d r k x y z : ℕ) → x ≡ 68 + w * (a + b + c + opened_count + d) → y ≡ x + opened_count * (32 + w * r) → z ≡ y + 4 + 32 * k
    → z ≡ 4 + 32 + 32 + w * a + w * b + w * c + w * opened_count + w * d + opened_count * (32 + w * r) + 4 + 32 * k
sums w a b c d r k x y z e f g = grind (arith, e, f, g)

-- where the path ends, the file ends
pub file_end : {A : Type 0} (width digests answers opened end n : ℕ) (p : Params) (proof : Proof A) → HasLengths p proof → n ≡ opened_count
    → answers ≡ 68 + width * (length proof.messages + length proof.ldt + length proof.dot + length proof.quad_head + length proof.quad_tail)
    → opened ≡ answers + n * (32 + width * p.nrow) → end ≡ opened + 4 + 32 * digests → end ≡ proof_length width p digests
file_end width digests answers opened end n p proof h is a o e =
    let total : length proof.messages + length proof.ldt + length proof.dot + length proof.quad_head + length proof.quad_tail ≡ p.nsum + p.block + p.dblock + opened_count + (p.dblock - p.block) =
    omega (arith, h.messages, h.ldt, h.dot, h.quad_head, h.quad_tail) in
    let elements : answers ≡ 68 + width * (p.nsum + p.block + p.dblock + opened_count + (p.dblock - p.block)) = a ∙ ap (λ (x : ℕ). 68 + width * x) total in
    let columns : opened ≡ answers + opened_count * (32 + width * p.nrow) = o ∙ ap (λ (x : ℕ). answers + x * (32 + width * p.nrow)) is in
    sums width p.nsum p.block p.dblock (p.dblock - p.block) p.nrow digests answers opened end elements columns e

-- ---- elements

-- an element's bytes are the first of a buffer
pub element_taken : (width w n : ℕ) (ys rest : List ℕ) → w ≡ width → ys ≡ bytes_of width n → take w (ys ++ rest) ≡ bytes_of width n
element_taken width w n ys rest same e = take_at ys rest w (omega (arith, ap length e, length-bytes_of width n, same)) ∙ e

pub element_long : (width w n : ℕ) (ys rest : List ℕ) → w ≡ width → ys ≡ bytes_of width n → length (take w (ys ++ rest)) ≡ width
element_long width w n ys rest same e = ap length (element_taken width w n ys rest same e) ∙ length-bytes_of width n

pub element_room : (width w n at room : ℕ) (ys rest : List ℕ) → w ≡ width → ys ≡ bytes_of width n → at + width ≤ room → at + length (take w (ys ++ rest)) ≤ room
element_room width w n at room ys rest same e fits = omega (arith, element_long width w n ys rest same e, fits)

-- one element more was written
pub elements_step : {A : Type 0} (field : A → List ℕ) (xs : List A) (i : ℕ) (x : A) (before after all : List ℕ) → i < length xs → x ≡ get_or xs i x → after ≡ before ++ field x
    → before ++ flat (map field (drop i xs)) ≡ all → after ++ flat (map field (drop (i + 1) xs)) ≡ all
elements_step field xs i x before after all lt is a h =
    let others : List ℕ = flat (map field (drop (i + 1) xs)) in
    ap (λ (t : List ℕ). t ++ others) a ∙ append_assoc before (field x) others ∙ ap (λ y. before ++ (field y ++ others)) is
    ∙ sym (ap (λ ys. before ++ flat (map field ys)) (drop_more xs i x lt)) ∙ h

-- all elements were written
pub elements_done : {A : Type 0} (field : A → List ℕ) (xs : List A) (i : ℕ) (before all : List ℕ) → length xs ≤ i → before ++ flat (map field (drop i xs)) ≡ all → before ≡ all
elements_done field xs i before all le h = sym (append-nil before) ∙ sym (ap (λ ys. before ++ flat (map field ys)) (drop_all i xs le)) ∙ h

pub elements_stop : (at w i n end : ℕ) → n ≤ i → i ≤ n → end ≡ at + w * i → end ≡ at + w * n
elements_stop at w i n end le ge e = e ∙ ap (λ (k : ℕ). at + w * k) (omega (arith, le, ge))

-- the room of one element more
pub next_room : (at w i n end old now : ℕ) → i < n → end ≡ at + w * i → now ≡ old → at + w * n ≤ old → end + w ≤ now
next_room at w i n end old now lt e same room =
    let h : w * (i + 1) ≤ w * n = mul-le w (i + 1) w n (omega arith) (omega (arith, lt)) in
    let d : w * (i + 1) ≡ w * i + w = grind arith in
    omega (arith, h, d, e, same, room)

pub next_stop : (at w i end stop : ℕ) → end ≡ at + w * i → stop ≡ end + w → stop ≡ at + w * (i + 1)
next_stop at w i end stop e f = grind (arith, e, f)

-- ---- opened columns

-- the room of one column more, behind its nonce
pub column_fits : (at i n each end old now : ℕ) → i < n → end ≡ at + i * each → now ≡ old → at + n * each ≤ old → end + each ≤ now
column_fits at i n each end old now lt e same room = omega (arith, column_room i n each lt, e, same, room)

pub columns_stop : (at i n each end : ℕ) → n ≤ i → i ≤ n → end ≡ at + i * each → end ≡ at + n * each
columns_stop at i n each end le ge e = e ∙ ap (λ (k : ℕ). at + k * each) (omega (arith, le, ge))

pub columns_left : (i n rows rest all : ℕ) → i < n → rest + i * rows ≡ all → all ≡ n * rows → rows ≤ rest
columns_left i n rows rest all lt e a = omega (arith, column_room i n rows lt, e, a)

pub opened_done : {A : Type 0} (field : A → List ℕ) (rows i : ℕ) (nonces : List (List ℕ)) (rest : List A) (before all : List ℕ) → length nonces ≤ i
    → before ++ flat (opened_fields field rows (drop i nonces) rest) ≡ all → before ≡ all
opened_done field rows i nonces rest before all le h = sym (append-nil before) ∙ sym (ap (λ ns. before ++ flat (opened_fields field rows ns rest)) (drop_all i nonces le)) ∙ h

-- ---- the elements that are no columns'

pub spread : (w a b c d e : ℕ) → w * (a + b + c + d + e) ≡ w * a + w * b + w * c + w * d + w * e
spread w a b c d e = grind arith

pub answers_written : {A : Type 0} (field : A → List ℕ) (proof : Proof A) (m l d h t : List A) (from one two three four five : List ℕ) → m ≡ proof.messages → l ≡ proof.ldt → d ≡ proof.dot → h ≡ proof.quad_head → t ≡ proof.quad_tail
    → one ≡ from ++ flat (map field m) → two ≡ one ++ flat (map field l) → three ≡ two ++ flat (map field d) → four ≡ three ++ flat (map field h) → five ≡ four ++ flat (map field t)
    → five ≡ from ++ answers_bytes field proof
answers_written field proof m l d h t from one two three four five ms ls ds hs ts w1 w2 w3 w4 w5 =
    let a : List ℕ = flat (map field m) in
    let b : List ℕ = flat (map field l) in
    let e : List ℕ = flat (map field d) in
    let f : List ℕ = flat (map field h) in
    let k : List ℕ = flat (map field t) in
    w5 ∙ ap (λ (x : List ℕ). x ++ k) (w4 ∙ ap (λ (x : List ℕ). x ++ f) (w3 ∙ ap (λ (x : List ℕ). x ++ e) (w2 ∙ ap (λ (x : List ℕ). x ++ b) w1)))
    ∙ append_assoc (((from ++ a) ++ b) ++ e) f k ∙ append_assoc ((from ++ a) ++ b) e (f ++ k) ∙ append_assoc (from ++ a) b (e ++ (f ++ k)) ∙ append_assoc from a (b ++ (e ++ (f ++ k)))
    ∙ rw (ms, ls, ds, hs, ts) refl

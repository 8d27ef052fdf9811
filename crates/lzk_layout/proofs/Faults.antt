-- Where reading stops, it stops within the bytes.
use Rattle.std.proofs.Common.{◌≡◌, ℕ, ◌-◌, ◌≤◌, replicate, Bool, true, false, cond, eqb, ltb, List, [], ◌∷◌, ◌++◌, length, take, drop, Option, Some, None, Result, Ok, Err, refl, sym, ap, ◌∙◌, arith}
use Rattle.std.specs.Int.{w32, from_le_bytes}
use Rattle.std.proofs.lemmas.List.{length-append}
use Rattle.lzk_layout.specs.declared.params.Params.{Params}
use Rattle.lzk_layout.specs.declared.fault.ProofKind.{ProofKind}
use Rattle.lzk_layout.specs.declared.fault.Stop.{Stop}
use Rattle.lzk_layout.specs.Proofs.{flat}
use Rattle.lzk_layout.specs.Fields.{Sort, plain, count, Shape, width, wrong, ◌>>=◌, stops, passes, field_at, fields_at, path_at, sorts_of, proof_at, ProofFaultAt}
use Rattle.lzk_layout.specs.Files.{OneFault}
use Rattle.lzk_layout.proofs.FieldLaws.{done, field_takes, fields_take}
use Rattle.lzk_layout.proofs.OneProof.{path_takes}

-- either the first step stops, or it does not and the second does
pub from_err : {A B G : Type 0} (r : Result A Stop) (f : A → Result B Stop) (e : Stop) → (r >>= f) ≡ Err e → (r ≡ Err e → G) → ((x : A) → r ≡ Ok x → f x ≡ Err e → G) → G
from_err (Ok x) f e h stop more = more x refl h
from_err {A} {B} (Err d) f e h stop more = stop (let same : d ≡ e = cc in ap (λ (k : Stop). let r : Result A Stop = Err k in r) same)

pub stop_is : {A : Type 0} (d e : Stop) → (let r : Result A Stop = Err d in r) ≡ Err e → d ≡ e
stop_is d e h = cc

passes_left : (o : Option ProofKind) (bytes field rest : List ℕ) (e : Stop) → passes o bytes field rest ≡ Err e → e.left ≡ length bytes
passes_left None bytes field rest e h = absurd cc
passes_left (Some kind) bytes field rest e h = sym (ap (λ (d : Stop). d.left) (stop_is {A = List ℕ × List ℕ} (record { left = length bytes; kind = kind }) e h))

cond_left : (b : Bool) (kind : ProofKind) (bytes : List ℕ) (r : Result (List ℕ × List ℕ) Stop) (e : Stop) → (r ≡ Err e → e.left ≡ length bytes) → cond b (stops kind bytes) r ≡ Err e → e.left ≡ length bytes
cond_left true kind bytes r e k h = sym (ap (λ (d : Stop). d.left) (stop_is {A = List ℕ × List ℕ} (record { left = length bytes; kind = kind }) e h))
cond_left false kind bytes r e k h = k h

field_left : (s : Shape) (x : Sort) (bytes : List ℕ) (e : Stop) → field_at s x bytes ≡ Err e → e.left ≡ length bytes
unfolding field_at
field_left s x bytes e h =
    let field = take (width s x) bytes in
    cond_left (ltb (length bytes) (width s x)) _ bytes (passes (wrong s x field) bytes field (drop (width s x) bytes)) e (passes_left (wrong s x field) bytes field (drop (width s x) bytes) e) h

shorter : (bytes front rest : List ℕ) → bytes ≡ front ++ rest → length rest ≤ length bytes
shorter bytes front rest e = omega (arith, ap length e, length-append front rest)

fields_left : (s : Shape) (xs : List Sort) (bytes : List ℕ) (e : Stop) → fields_at s xs bytes ≡ Err e → e.left ≤ length bytes
unfolding fields_at
fields_left s [] bytes e h = absurd cc
fields_left s (x ∷ xs) bytes e h =
    from_err (field_at s x bytes) _ e h (λ at_f. let same = field_left s x bytes e at_f in omega (arith, same)) (λ f at_f more.
    let less = shorter bytes f.0 f.1 (field_takes s x bytes f at_f).0 in
    from_err (fields_at s xs f.1) _ e more (λ at_fs. let le = fields_left s xs f.1 e at_fs in omega (arith, le, less)) (λ fs at_fs end. absurd cc))

path_left : (s : Shape) (bytes : List ℕ) (e : Stop) → path_at s bytes ≡ Err e → e.left ≤ length bytes
unfolding path_at
path_left s bytes e h =
    from_err (field_at s count bytes) _ e h (λ at_n. let same = field_left s count bytes e at_n in omega (arith, same)) (λ n at_n more.
    let less = shorter bytes n.0 n.1 (field_takes s count bytes n at_n).0 in
    from_err (fields_at s (replicate (from_le_bytes w32 n.0) plain) n.1) _ e more (λ at_ds. let le = fields_left s (replicate (from_le_bytes w32 n.0) plain) n.1 e at_ds in omega (arith, le, less)) (λ ds at_ds end. absurd cc))

last_left : (b : Bool) (kind : ProofKind) (bytes : List ℕ) (fs : List (List ℕ)) (e : Stop) → cond b (done fs) (stops kind bytes) ≡ Err e → e.left ≤ length bytes
last_left true kind bytes fs e h = absurd cc
last_left false kind bytes fs e h = let same : length bytes ≡ e.left = ap (λ (d : Stop). d.left) (stop_is {A = List (List ℕ)} (record { left = length bytes; kind = kind }) e h) in omega arith

pub proof_left : (s : Shape) (p : Params) (bytes : List ℕ) (e : Stop) → proof_at s p bytes ≡ Err e → e.left ≤ length bytes
unfolding proof_at
proof_left s p bytes e h =
    from_err (fields_at s (sorts_of p) bytes) _ e h (fields_left s (sorts_of p) bytes e) (λ first at_first more.
    let less = shorter bytes (flat first.0) first.1 (fields_take s (sorts_of p) bytes first at_first).0 in
    from_err (path_at s first.1) _ e more (λ at_path. let le = path_left s first.1 e at_path in omega (arith, le, less)) (λ path at_path end.
    let less' = shorter first.1 (flat path.0) path.1 (path_takes s first.1 path at_path) in
    let le = last_left (eqb (length path.1) 0) _ path.1 (first.0 ++ path.0) e end in
    omega (arith, le, less, less')))

-- the offset of a fault, where so many bytes are left
pub fault_found : (s : Shape) (p : Params) (bytes : List ℕ) (left : ℕ) (kind : ProofKind) → proof_at s p bytes ≡ Err (record { left = left; kind = kind }) → ProofFaultAt s p bytes (length bytes - left) kind
fault_found s p bytes left kind e =
    let le : left ≤ length bytes = proof_left s p bytes (record { left = left; kind = kind }) e in
    let back : left ≡ length bytes - (length bytes - left) = omega (arith, le) in
    (e ∙ ap (λ (n : ℕ). let r : Result (List (List ℕ)) Stop = Err (record { left = n; kind = kind }) in r) back, omega arith)

pub one_fault : (s : Shape) (p : Params) → OneFault s p
one_fault s p bytes m n k l f g =
    let d : Stop = record { left = length bytes - m; kind = k } in
    let e : Stop = record { left = length bytes - n; kind = l } in
    let same : d ≡ e = stop_is {A = List (List ℕ)} d e (sym f.0 ∙ g.0) in
    let left : length bytes - m ≡ length bytes - n = ap (λ (d : Stop). d.left) same in
    (omega (arith, left, f.1, g.1), ap (λ (d : Stop). d.kind) same)

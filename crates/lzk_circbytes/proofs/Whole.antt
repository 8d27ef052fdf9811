-- Whole files, over either field.
use Rattle.std.proofs.Common.{◌≡◌, ◌⊎◌, inl, inr, ℕ, ◌+◌, ◌-◌, ◌^◌, ◌≤◌, Bool, true, false, cond, ltb, eqb, ◌&&◌, List, [], ◌∷◌, length, Result, Ok, Err, refl, sym, ap, subst, ◌∙◌, arith}
use Rattle.std.proofs.lemmas.Bool.{le-ltb, eqb-true, and_parts}
use Rattle.lzk_profile.specs.Profile.{file_letter}
use Rattle.lzk_circuit.specs.Valid.{Wiring}
use Rattle.sha2.specs.Sha256.{sha256}
use Rattle.lzk_goldilocks.specs.Prime.{p, element_bytes, field_byte}
use Rattle.lzk_goldilocks.specs.Elements as gold
use Rattle.lzk_gf128.specs.Elements as gf
use Rattle.lzk_circbytes.specs.declared.any.AnyCircuit.{AnyCircuit}
use Rattle.lzk_circbytes.specs.declared.any.AnyCircuit.TheVariants.{Gold, Gf}
use Rattle.lzk_circbytes.specs.declared.fault.ByteKind.{ByteKind}
use Rattle.lzk_circbytes.specs.declared.fault.ByteKind.TheVariants.{Magic, FieldId}
use Rattle.lzk_circbytes.specs.Numbered.{Shape, shape, numbered}
use Rattle.lzk_circbytes.specs.Reading.{Stop, ◌>>=◌, stops, wiring_at}
use Rattle.lzk_circbytes.specs.Spelling.{tail_bytes}
use Rattle.lzk_circbytes.specs.Files.{IsFile, goldilocks, gf128, CircuitBytes, id_of_any, begins_with, field_at, circuit_at, CircuitFaultAt, OneCircuit, OneFile, NoFault}
use Rattle.lzk_circbytes.specs.Answers.{numbers_of, IsValidCircuit}
use Rattle.lzk_circbytes.proofs.Steps.{IsBytes, IsBytes-rest, from, not_refused}
use Rattle.lzk_circbytes.proofs.Bounds.{fault_within}
use Rattle.lzk_circbytes.proofs.Wirings.{wiring_take}
use Rattle.lzk_circbytes.proofs.FileLaws.{same_numbers, file_is, wiring_read, file_from_read}

-- behind `LZC1` or `LZC2` stands the field's byte
pub behind_magic : (version : ℕ) → (version ≡ 1) ⊎ (version ≡ 2) → (rest : List ℕ) → circuit_at (76 ∷ file_letter ∷ 67 ∷ (48 + version) ∷ rest) ≡ field_at version rest
unfolding circuit_at
behind_magic version is rest = elim is [
  | inl e ↦ subst (λ v. circuit_at (76 ∷ file_letter ∷ 67 ∷ (48 + v) ∷ rest) ≡ field_at v rest) (sym e) one
  | inr e ↦ subst (λ v. circuit_at (76 ∷ file_letter ∷ 67 ∷ (48 + v) ∷ rest) ≡ field_at v rest) (sym e) two
]
  where
    one : circuit_at (76 ∷ file_letter ∷ 67 ∷ 49 ∷ rest) ≡ field_at 1 rest
    one = let long : ltb (length (76 ∷ file_letter ∷ 67 ∷ 49 ∷ rest)) 4 ≡ false = le-ltb _ _ (omega arith) in rw long refl

    two : circuit_at (76 ∷ file_letter ∷ 67 ∷ 50 ∷ rest) ≡ field_at 2 rest
    two = let long : ltb (length (76 ∷ file_letter ∷ 67 ∷ 50 ∷ rest)) 4 ≡ false = le-ltb _ _ (omega arith) in rw long refl

pub circuit_read : (c : AnyCircuit) (bytes : List ℕ) → CircuitBytes c bytes → circuit_at bytes ≡ Ok (numbers_of c)
circuit_read (Gold c) bytes f =
    ap circuit_at f.bytes_are ∙ behind_magic c.version f.valid.version (field_byte ∷ tail_bytes goldilocks (numbered (λ x. x.n) c) f.constants)
    ∙ ap (λ (r : Result (Wiring ℕ) Stop). r >>= λ w. Ok (field_byte, w)) (wiring_read gold.ops p (λ x. x.n) gold.of_number element_bytes gold.laws field_byte c bytes f)
circuit_read (Gf c) bytes f =
    ap circuit_at f.bytes_are ∙ behind_magic c.version f.valid.version (2 ∷ tail_bytes gf128 (numbered (λ x. x.n) c) f.constants)
    ∙ ap (λ (r : Result (Wiring ℕ) Stop). r >>= λ w. Ok (2, w)) (wiring_read gf.ops (2 ^ 128) (λ x. x.n) gf.of_number 16 gf.laws 2 c bytes f)

abbrev done : ℕ × Wiring ℕ → Result (ℕ × Wiring ℕ) Stop
done x = Ok x

same_done : (x y : ℕ × Wiring ℕ) → done x ≡ done y → x ≡ y
same_done x y e = cc

same_circuit : (c d : AnyCircuit) → numbers_of c ≡ numbers_of d → c ≡ d
same_circuit (Gold c) (Gold d) e = ap Gold (same_numbers gold.ops p (λ x. x.n) gold.of_number element_bytes gold.laws field_byte c d (ap (λ (x : ℕ × Wiring ℕ). x.1) e))
same_circuit (Gold c) (Gf d) e = absurd (let n : field_byte ≡ 2 = ap (λ (x : ℕ × Wiring ℕ). x.0) e in omega (arith, n))
same_circuit (Gf c) (Gold d) e = absurd (let n : 2 ≡ field_byte = ap (λ (x : ℕ × Wiring ℕ). x.0) e in omega (arith, n))
same_circuit (Gf c) (Gf d) e = ap Gf (same_numbers gf.ops (2 ^ 128) (λ x. x.n) gf.of_number 16 gf.laws 2 c d (ap (λ (x : ℕ × Wiring ℕ). x.1) e))

pub one_circuit : OneCircuit
one_circuit bytes c d f g = same_circuit c d (same_done (numbers_of c) (numbers_of d) (sym (circuit_read c bytes f) ∙ circuit_read d bytes g))

-- SHA-256 of a circuit's file is its id
pub file_gives_id : (c : AnyCircuit) (bytes : List ℕ) → CircuitBytes c bytes → sha256 bytes ≡ id_of_any c
file_gives_id (Gold c) bytes f = ap sha256 (file_is gold.ops p (λ x. x.n) gold.of_number element_bytes gold.laws field_byte c bytes f)
file_gives_id (Gf c) bytes f = ap sha256 (file_is gf.ops (2 ^ 128) (λ x. x.n) gf.of_number 16 gf.laws 2 c bytes f)

pub one_file : OneFile
one_file (Gold c) xs ys f g =
    file_is gold.ops p (λ x. x.n) gold.of_number element_bytes gold.laws field_byte c xs f ∙ sym (file_is gold.ops p (λ x. x.n) gold.of_number element_bytes gold.laws field_byte c ys g)
one_file (Gf c) xs ys f g =
    file_is gf.ops (2 ^ 128) (λ x. x.n) gf.of_number 16 gf.laws 2 c xs f ∙ sym (file_is gf.ops (2 ^ 128) (λ x. x.n) gf.of_number 16 gf.laws 2 c ys g)

apart : (x : ℕ × Wiring ℕ) (e : Stop) → done x ≡ Err e → ⊥
apart x e h = absurd cc

pub no_fault : NoFault
no_fault c bytes offset kind f fault = apart (numbers_of c) (record { left = length bytes - offset; kind = kind }) (sym (circuit_read c bytes f) ∙ fault.0)

pub no_circuit : (bytes : List ℕ) (e : Stop) → circuit_at bytes ≡ Err e → (c : AnyCircuit) → CircuitBytes c bytes → ⊥
no_circuit bytes e h c f = apart (numbers_of c) e (sym (circuit_read c bytes f) ∙ h)

-- ---- what was read

-- a file that was read begins with `LZC1` or `LZC2`
pub record Begins (bytes : List ℕ) (x : ℕ × Wiring ℕ) : Type 0 where
  pub version : ℕ
  pub known : (version ≡ 1) ⊎ (version ≡ 2)
  pub rest : List ℕ
  pub is : bytes ≡ 76 ∷ file_letter ∷ 67 ∷ (48 + version) ∷ rest
  pub read : field_at version rest ≡ Ok x

magic_is : (last a b c d : ℕ) (rest : List ℕ) → begins_with (76 ∷ file_letter ∷ 67 ∷ last ∷ []) (a ∷ b ∷ c ∷ d ∷ rest) ≡ true → a ∷ b ∷ c ∷ d ∷ rest ≡ 76 ∷ file_letter ∷ 67 ∷ last ∷ rest
magic_is last a b c d rest h =
    let p1 = and_parts (eqb 76 a) (eqb file_letter b && (eqb 67 c && (eqb last d && true))) h in
    let p2 = and_parts (eqb file_letter b) (eqb 67 c && (eqb last d && true)) p1.1 in
    let p3 = and_parts (eqb 67 c) (eqb last d && true) p2.1 in
    let p4 = and_parts (eqb last d) true p3.1 in
    let e1 : a ≡ 76 = sym (eqb-true 76 a p1.0) in
    let e2 : b ≡ file_letter = sym (eqb-true file_letter b p2.0) in
    let e3 : c ≡ 67 = sym (eqb-true 67 c p3.0) in
    let e4 : d ≡ last = sym (eqb-true last d p4.0) in
    rw (e1, e2, e3, e4) refl

pub begins : (bytes : List ℕ) (x : ℕ × Wiring ℕ) → circuit_at bytes ≡ Ok x → Begins bytes x
unfolding circuit_at
begins [] x e = absurd cc
begins (a ∷ []) x e = absurd cc
begins (a ∷ b ∷ []) x e = absurd cc
begins (a ∷ b ∷ c ∷ []) x e = absurd cc
begins (a ∷ b ∷ c ∷ d ∷ rest) x e =
    let bytes : List ℕ = a ∷ b ∷ c ∷ d ∷ rest in
    let one = begins_with (76 ∷ file_letter ∷ 67 ∷ 49 ∷ []) bytes in
    let two = begins_with (76 ∷ file_letter ∷ 67 ∷ 50 ∷ []) bytes in
    let g = not_refused (ltb (length bytes) 4) _ (cond one (field_at 1 rest) (cond two (field_at 2 rest) (stops Magic bytes))) x e in
    pick one two refl refl g.1
  where
    pick : (p q : Bool) → begins_with (76 ∷ file_letter ∷ 67 ∷ 49 ∷ []) (a ∷ b ∷ c ∷ d ∷ rest) ≡ p → begins_with (76 ∷ file_letter ∷ 67 ∷ 50 ∷ []) (a ∷ b ∷ c ∷ d ∷ rest) ≡ q
        → cond p (field_at 1 rest) (cond q (field_at 2 rest) (stops Magic (a ∷ b ∷ c ∷ d ∷ rest))) ≡ Ok x → Begins (a ∷ b ∷ c ∷ d ∷ rest) x
    pick true q ep eq h = record { version = 1; known = inl refl; rest = rest; is = magic_is 49 a b c d rest ep; read = h }
    pick false true ep eq h = record { version = 2; known = inr refl; rest = rest; is = magic_is 50 a b c d rest eq; read = h }
    pick false false ep eq h = absurd cc

-- the field's byte, and the circuit's numbers
record Field (version : ℕ) (bytes : List ℕ) (x : ℕ × Wiring ℕ) : Type 0 where
  rest : List ℕ
  is : bytes ≡ x.0 ∷ rest
  gold_read : x.0 ≡ field_byte → wiring_at goldilocks version rest ≡ Ok x.1
  gf_read : x.0 ≡ 2 → wiring_at gf128 version rest ≡ Ok x.1

made : (id : ℕ) (shape : Shape) (version : ℕ) (rest : List ℕ) (x : ℕ × Wiring ℕ) → (wiring_at shape version rest >>= λ w. done (id, w)) ≡ Ok x → (wiring_at shape version rest ≡ Ok x.1) × (id ≡ x.0)
made id shape version rest x e =
    from (wiring_at shape version rest) (λ w. done (id, w)) x e (λ w at_w end.
    let same = same_done (id, w) x end in
    (at_w ∙ ap (λ (y : ℕ × Wiring ℕ). Ok y.1) same, ap (λ (y : ℕ × Wiring ℕ). y.0) same))

field_read : (version : ℕ) (bytes : List ℕ) (x : ℕ × Wiring ℕ) → field_at version bytes ≡ Ok x → Field version bytes x
field_read version [] x e = absurd cc
field_read version (id ∷ rest) x e =
    one (eqb id field_byte) (eqb id 2) refl refl e
  where
    one : (p q : Bool) → eqb id field_byte ≡ p → eqb id 2 ≡ q → cond p (wiring_at goldilocks version rest >>= λ w. done (field_byte, w)) (cond q (wiring_at gf128 version rest >>= λ w. done (2, w)) (stops FieldId (id ∷ rest))) ≡ Ok x → Field version (id ∷ rest) x
    one true q ep eq h =
        let m = made field_byte goldilocks version rest x h in
        let same : id ≡ x.0 = eqb-true id field_byte ep ∙ m.1 in
        record { rest = rest; is = ap (λ n. n ∷ rest) same; gold_read = λ _. m.0; gf_read = λ two. absurd (omega (arith, two, m.1)) }
    one false true ep eq h =
        let m = made 2 gf128 version rest x h in
        let same : id ≡ x.0 = eqb-true id 2 eq ∙ m.1 in
        record { rest = rest; is = ap (λ n. n ∷ rest) same; gold_read = λ one. absurd (omega (arith, one, m.1)); gf_read = λ _. m.0 }
    one false false ep eq h = absurd cc

fits_behind : (bytes rest : List ℕ) (magic id : ℕ) → IsBytes bytes → bytes ≡ 76 ∷ file_letter ∷ 67 ∷ magic ∷ id ∷ rest → IsBytes rest
fits_behind bytes rest magic id h e =
    let w : IsBytes (76 ∷ file_letter ∷ 67 ∷ magic ∷ id ∷ rest) = subst IsBytes e h in
    IsBytes-rest id rest (IsBytes-rest magic (id ∷ rest) (IsBytes-rest 67 (magic ∷ id ∷ rest) (IsBytes-rest file_letter (67 ∷ magic ∷ id ∷ rest) (IsBytes-rest 76 (file_letter ∷ 67 ∷ magic ∷ id ∷ rest) w))))

-- a circuit that was read has the file's version
read_version : (shape : Shape) (version : ℕ) (rest : List ℕ) (w : Wiring ℕ) → IsBytes rest → wiring_at shape version rest ≡ Ok w → version ≡ w.version
read_version shape version rest w fits e = let s = wiring_take shape version rest w fits e in sym (ap (λ (v : Wiring ℕ). v.version) s.is)

pub circuit_bytes_from_read : (c : AnyCircuit) (bytes : List ℕ) → IsBytes bytes → IsValidCircuit c → circuit_at bytes ≡ Ok (numbers_of c) → CircuitBytes c bytes
circuit_bytes_from_read (Gold c) bytes fits valid e =
    let w = numbered (λ x. x.n) c in
    let b = begins bytes (field_byte, w) e in
    let f = field_read b.version b.rest (field_byte, w) b.read in
    let is : bytes ≡ 76 ∷ file_letter ∷ 67 ∷ (48 + b.version) ∷ field_byte ∷ f.rest = b.is ∙ ap (λ (t : List ℕ). 76 ∷ file_letter ∷ 67 ∷ (48 + b.version) ∷ t) f.is in
    let behind = fits_behind bytes f.rest (48 + b.version) field_byte fits is in
    let read = f.gold_read refl in
    let same : b.version ≡ c.version = read_version goldilocks b.version f.rest w behind read in
    subst (λ (t : List ℕ). IsFile gold.ops (λ x. x.n) goldilocks c t) (sym (is ∙ ap (λ (v : ℕ). 76 ∷ file_letter ∷ 67 ∷ (48 + v) ∷ field_byte ∷ f.rest) same))
    (file_from_read gold.ops p (λ x. x.n) gold.of_number element_bytes gold.laws field_byte c f.rest behind valid (subst (λ (v : ℕ). wiring_at goldilocks v f.rest ≡ Ok w) same read))
circuit_bytes_from_read (Gf c) bytes fits valid e =
    let w = numbered (λ x. x.n) c in
    let b = begins bytes (2, w) e in
    let f = field_read b.version b.rest (2, w) b.read in
    let is : bytes ≡ 76 ∷ file_letter ∷ 67 ∷ (48 + b.version) ∷ 2 ∷ f.rest = b.is ∙ ap (λ (t : List ℕ). 76 ∷ file_letter ∷ 67 ∷ (48 + b.version) ∷ t) f.is in
    let behind = fits_behind bytes f.rest (48 + b.version) 2 fits is in
    let read = f.gf_read refl in
    let same : b.version ≡ c.version = read_version gf128 b.version f.rest w behind read in
    subst (λ (t : List ℕ). IsFile gf.ops (λ x. x.n) gf128 c t) (sym (is ∙ ap (λ (v : ℕ). 76 ∷ file_letter ∷ 67 ∷ (48 + v) ∷ 2 ∷ f.rest) same))
    (file_from_read gf.ops (2 ^ 128) (λ x. x.n) gf.of_number 16 gf.laws 2 c f.rest behind valid (subst (λ (v : ℕ). wiring_at gf128 v f.rest ≡ Ok w) same read))

-- the offset of a fault, where so many bytes are left
pub fault_found : (bytes : List ℕ) (left : ℕ) (kind : ByteKind) → circuit_at bytes ≡ Err (record { left = left; kind = kind }) → CircuitFaultAt bytes (length bytes - left) kind
fault_found bytes left kind e =
    let le : left ≤ length bytes = fault_within bytes (record { left = left; kind = kind }) e in
    let back : left ≡ length bytes - (length bytes - left) = omega (arith, le) in
    (e ∙ ap (λ (n : ℕ). Err (record { left = n; kind = kind })) back, omega arith)

-- Reading fields from left to right, and the first check that fails.
use Rattle.std.proofs.Common.{◌≡◌, ◌≢◌, ℕ, ◌+◌, ◌-◌, ◌<◌, ◌≤◌, Bool, false, cond, ltb, eqb, List, [], ◌∷◌, ◌++◌, length, take, drop, Option, Some, None, Result, Ok, Err, refl, sym, ap, subst, ◌∙◌, arith, inl, inr}
use Rattle.std.proofs.lemmas.Bool.{le-ltb, lt-ltb, cases_lt, ne_eqb}
use Rattle.std.proofs.lemmas.List.{length-append, length-take, take-append-drop}
use Rattle.std.proofs.Math.Seq.{take-append_seam, drop-append_seam}
use Rattle.lzk_circbytes.specs.declared.fault.ByteKind.{ByteKind}
use Rattle.lzk_circbytes.specs.declared.fault.ByteKind.TheVariants as kinds
use Rattle.lzk_circbytes.specs.Reading.{Stop, ◌>>=◌, must, varint_at}
use Rattle.lzk_circuit_faults.specs.Fields.{Fields, field, varint, ends, septets_number, BeginsWith, IsShortest, FailsVarint, FirstFault}
use Rattle.lzk_circuit_faults.proofs.Varints.{varint_read, varint_fails, varint_cases}

abbrev pub Run : Type 0
Run = Result (Unit {0}) Stop

abbrev pub stop_at : ℕ → ByteKind → Run
stop_at left kind = Err (record { left = left; kind = kind })

-- what is left where a check passes
abbrev pub judged : Option ByteKind → List ℕ → Run → Run
judged None bytes rest = rest
judged (Some kind) bytes rest = stop_at (length bytes) kind

abbrev pub whole_or : Bool → List ℕ → Run → Run
whole_or short bytes rest = cond short (stop_at (length bytes) kinds.Truncated) rest

abbrev pub at_end : ℕ → Option ℕ → List ℕ → Run
at_end total None bytes = must (eqb (length bytes) 0) kinds.Trailing bytes
at_end total (Some place) bytes = stop_at (total - place) kinds.Constant

module _ (total : ℕ) where
  -- reading these fields
  unfoldable pub run : Fields → List ℕ → Run
  run (field width check next) bytes = whole_or (ltb (length bytes) width) bytes (judged (check (take width bytes)) bytes (run (next (take width bytes)) (drop width bytes)))
  run (varint check next) bytes = varint_at bytes >>= λ n. judged (check n.0) bytes (run (next n.0) n.1)
  run (ends place) bytes = at_end total place bytes

  -- what a step of it gives
  short_field : (width : ℕ) (check : List ℕ → Option ByteKind) (next : List ℕ → Fields) (bytes : List ℕ) → length bytes < width
      → run (field width check next) bytes ≡ stop_at (length bytes) kinds.Truncated
  unfolding run
  short_field width check next bytes lt = rw (lt-ltb (length bytes) width lt) refl

  whole_field : (width : ℕ) (check : List ℕ → Option ByteKind) (next : List ℕ → Fields) (bytes : List ℕ) → width ≤ length bytes
      → run (field width check next) bytes ≡ judged (check (take width bytes)) bytes (run (next (take width bytes)) (drop width bytes))
  unfolding run
  whole_field width check next bytes le = rw (le-ltb (length bytes) width le) refl

  parted_field : (width : ℕ) (check : List ℕ → Option ByteKind) (next : List ℕ → Fields) (f rest : List ℕ) → length f ≡ width
      → run (field width check next) (f ++ rest) ≡ judged (check f) (f ++ rest) (run (next f) rest)
  parted_field width check next f rest e =
      let t : take width (f ++ rest) ≡ f = ap (λ (w : ℕ). take w (f ++ rest)) (sym e) ∙ take-append_seam f rest in
      let d : drop width (f ++ rest) ≡ rest = ap (λ (w : ℕ). drop w (f ++ rest)) (sym e) ∙ drop-append_seam f rest in
      whole_field width check next (f ++ rest) (omega (arith, length-append f rest, e))
      ∙ ap (λ (x : List ℕ). judged (check x) (f ++ rest) (run (next x) (drop width (f ++ rest)))) t
      ∙ ap (λ (x : List ℕ). judged (check f) (f ++ rest) (run (next f) x)) d

  failing_varint : (check : ℕ → Option ByteKind) (next : ℕ → Fields) (bytes : List ℕ) (kind : ByteKind) → FailsVarint bytes kind → run (varint check next) bytes ≡ stop_at (length bytes) kind
  unfolding run
  failing_varint check next bytes kind h = rw (varint_fails bytes kind h) refl

  whole_varint : (check : ℕ → Option ByteKind) (next : ℕ → Fields) (bytes high : List ℕ) (last : ℕ) (rest : List ℕ) → BeginsWith bytes high last rest → IsShortest high last
      → run (varint check next) bytes ≡ judged (check (septets_number high last)) bytes (run (next (septets_number high last)) rest)
  unfolding run
  whole_varint check next bytes high last rest h short = rw (varint_read bytes high last rest h short) refl

  long_of : (bytes high : List ℕ) (last : ℕ) (rest : List ℕ) → BeginsWith bytes high last rest → length bytes ≡ length high + 1 + length rest
  long_of bytes high last rest h = ap length h.are ∙ length-append high (last ∷ rest) ∙ omega arith

  at_last : (place : Option ℕ) (bytes : List ℕ) → run (ends place) bytes ≡ at_end total place bytes
  unfolding run
  at_last place bytes = refl

  left_over : (bytes : List ℕ) → bytes ≢ [] → at_end total None bytes ≡ stop_at (length bytes) kinds.Trailing
  left_over [] h = absurd (h refl)
  left_over (b ∷ bytes) h = let e : eqb (length (b ∷ bytes)) 0 ≡ false = ne_eqb (length (b ∷ bytes)) 0 (λ z. omega (arith, z)) in rw e refl

  -- ---- what fails first is found

  pub first_is_found : (fields : Fields) (here : ℕ) (bytes : List ℕ) (offset : ℕ) (kind : ByteKind) → here + length bytes ≡ total → FirstFault fields here bytes offset kind
      → run fields bytes ≡ stop_at (total - offset) kind
  first_is_found (field width check next) here bytes offset kind e (inl h) =
      let left : length bytes ≡ total - offset = omega (arith, e, h.0) in
      short_field width check next bytes h.1 ∙ ap (λ (n : ℕ). stop_at n kinds.Truncated) left ∙ ap (λ (k : ByteKind). stop_at (total - offset) k) (sym h.2)
  first_is_found (field width check next) here bytes offset kind e (inr (f, rest, are, long, inl h)) =
      let left : length (f ++ rest) ≡ total - offset = omega (arith, e, h.0, ap length are) in
      ap (run (field width check next)) are ∙ parted_field width check next f rest long ∙ ap (λ (o : Option ByteKind). judged o (f ++ rest) (run (next f) rest)) h.1 ∙ ap (λ (n : ℕ). stop_at n kind) left
  first_is_found (field width check next) here bytes offset kind e (inr (f, rest, are, long, inr h)) =
      let more : here + width + length rest ≡ total = omega (arith, e, ap length are, length-append f rest, long) in
      ap (run (field width check next)) are ∙ parted_field width check next f rest long ∙ ap (λ (o : Option ByteKind). judged o (f ++ rest) (run (next f) rest)) h.0
      ∙ first_is_found (next f) (here + width) rest offset kind more h.1
  first_is_found (varint check next) here bytes offset kind e (inl h) =
      let left : length bytes ≡ total - offset = omega (arith, e, h.0) in
      failing_varint check next bytes kind h.1 ∙ ap (λ (n : ℕ). stop_at n kind) left
  first_is_found (varint check next) here bytes offset kind e (inr (high, last, rest, b, short, inl h)) =
      let left : length bytes ≡ total - offset = omega (arith, e, h.0) in
      whole_varint check next bytes high last rest b short ∙ ap (λ (o : Option ByteKind). judged o bytes (run (next (septets_number high last)) rest)) h.1 ∙ ap (λ (n : ℕ). stop_at n kind) left
  first_is_found (varint check next) here bytes offset kind e (inr (high, last, rest, b, short, inr h)) =
      let more : here + (length high + 1) + length rest ≡ total = omega (arith, e, long_of bytes high last rest b) in
      whole_varint check next bytes high last rest b short ∙ ap (λ (o : Option ByteKind). judged o bytes (run (next (septets_number high last)) rest)) h.0
      ∙ first_is_found (next (septets_number high last)) (here + (length high + 1)) rest offset kind more h.1
  first_is_found (ends (Some place)) here bytes offset kind e h =
      at_last (Some place) bytes ∙ ap (λ (n : ℕ). stop_at (total - n) kinds.Constant) (sym h.0) ∙ ap (λ (k : ByteKind). stop_at (total - offset) k) (sym h.1)
  first_is_found (ends None) here bytes offset kind e h =
      let left : length bytes ≡ total - offset = omega (arith, e, h.0) in
      at_last None bytes ∙ left_over bytes h.1 ∙ ap (λ (n : ℕ). stop_at n kinds.Trailing) left ∙ ap (λ (k : ByteKind). stop_at (total - offset) k) (sym h.2)

  -- ---- what is found fails first

  abbrev pub Found : Fields → ℕ → List ℕ → Stop → Type 0
  Found fields here bytes stop = (offset : ℕ) × (stop.left ≡ total - offset) × FirstFault fields here bytes offset stop.kind

  same_stop : (left : ℕ) (kind : ByteKind) (stop : Stop) → stop_at left kind ≡ Err stop → (stop.left ≡ left) × (stop.kind ≡ kind)
  same_stop left kind stop e = (sym (ap left_in e), sym (ap (kind_in kind) e))
    where
      left_in : Run → ℕ
      left_in (Ok x) = 0
      left_in (Err s) = s.left

      kind_in : ByteKind → Run → ByteKind
      kind_in k (Ok x) = k
      kind_in k (Err s) = s.kind

  pub found_is_first : (fields : Fields) (here : ℕ) (bytes : List ℕ) (stop : Stop) → here + length bytes ≡ total → run fields bytes ≡ Err stop → Found fields here bytes stop
  found_is_first (field width check next) here bytes stop e is =
      elim (cases_lt (length bytes) width) [
        | inl short ↦
            let s = same_stop (length bytes) kinds.Truncated stop (sym (short_field width check next bytes short) ∙ is) in
            (here, omega (arith, s.0, e), inl (refl, short, s.1))
        | inr whole ↦
            let f : List ℕ = take width bytes in
            let rest : List ℕ = drop width bytes in
            let are : bytes ≡ f ++ rest = sym (take-append-drop width bytes) in
            let long : length f ≡ width = omega (arith, length-take width bytes, whole) in
            let more : here + width + length rest ≡ total = omega (arith, e, ap length are, length-append f rest, long) in
            let there : judged (check f) bytes (run (next f) rest) ≡ Err stop = sym (whole_field width check next bytes whole) ∙ is in
            elim (check f) as (λ o. check f ≡ o → judged o bytes (run (next f) rest) ≡ Err stop → Found (field width check next) here bytes stop) [
              | Some kind ↦ λ fails now.
                  let s = same_stop (length bytes) kind stop now in
                  (here, omega (arith, s.0, e), inr (f, rest, are, long, inl (refl, fails ∙ ap (λ (k : ByteKind). Some k) (sym s.1))))
              | None ↦ λ passes now.
                  let r = found_is_first (next f) (here + width) rest stop more now in
                  (r.0, r.1, inr (f, rest, are, long, inr (passes, r.2)))
            ] refl there
      ]
  found_is_first (varint check next) here bytes stop e is =
      elim (varint_cases bytes) [
        | inl h ↦
            let s = same_stop (length bytes) h.0 stop (sym (failing_varint check next bytes h.0 h.1) ∙ is) in
            (here, omega (arith, s.0, e), inl (refl, subst (λ (k : ByteKind). FailsVarint bytes k) (sym s.1) h.1))
        | inr (high, last, rest, b, short) ↦
            let n : ℕ = septets_number high last in
            let more : here + (length high + 1) + length rest ≡ total = omega (arith, e, long_of bytes high last rest b) in
            let there : judged (check n) bytes (run (next n) rest) ≡ Err stop = sym (whole_varint check next bytes high last rest b short) ∙ is in
            elim (check n) as (λ o. check n ≡ o → judged o bytes (run (next n) rest) ≡ Err stop → Found (varint check next) here bytes stop) [
              | Some kind ↦ λ fails now.
                  let s = same_stop (length bytes) kind stop now in
                  (here, omega (arith, s.0, e), inr (high, last, rest, b, short, inl (refl, fails ∙ ap (λ (k : ByteKind). Some k) (sym s.1))))
              | None ↦ λ passes now.
                  let r = found_is_first (next n) (here + (length high + 1)) rest stop more now in
                  (r.0, r.1, inr (high, last, rest, b, short, inr (passes, r.2)))
            ] refl there
      ]
  found_is_first (ends (Some place)) here bytes stop e is =
      let s = same_stop (total - place) kinds.Constant stop (sym (at_last (Some place) bytes) ∙ is) in
      (place, s.0, (refl, s.1))
  found_is_first (ends None) here [] stop e is = absurd (let z : at_end total None [] ≡ Err stop = sym (at_last None []) ∙ is in cc)
  found_is_first (ends None) here (b ∷ bytes) stop e is =
      let some : (b ∷ bytes) ≢ [] = λ z. cc in
      let s = same_stop (length (b ∷ bytes)) kinds.Trailing stop (sym (left_over (b ∷ bytes) some) ∙ sym (at_last None (b ∷ bytes)) ∙ is) in
      (here, omega (arith, s.0, e), (refl, some, s.1))

-- The faults of fronts, and of what comes behind a fault.
use Rattle.std.proofs.Common.{◌≡◌, ◌≢◌, ℕ, ◌+◌, ◌-◌, ◌<◌, ◌≤◌, Bool, eqb, cond, true, false, List, [], ◌∷◌, ◌++◌, length, take, drop, replicate, Option, Some, None, Result, Ok, Err, refl, sym, ap, subst, ◌∙◌, append_assoc, arith, inl, inr}
use Rattle.std.specs.Int.{w32, from_le_bytes}
use Rattle.std.proofs.lemmas.Bool.{cases_lt, lt-ltb, le-ltb, ne_eqb}
use Rattle.std.proofs.lemmas.List.{length-append, take-append-le}
use Rattle.lzk_layout.specs.declared.params.Params.{Params}
use Rattle.lzk_layout.specs.declared.part.ProofPart.{ProofPart}
use Rattle.lzk_layout.specs.declared.fault.Stop.{Stop}
use Rattle.lzk_layout.specs.declared.fault.ProofFault.{ProofFault}
use Rattle.lzk_layout.specs.declared.fault.ProofKind.{ProofKind}
use Rattle.lzk_layout.specs.declared.fault.ProofKind.TheVariants as kinds
use Rattle.lzk_layout.specs.Proofs.{flat}
use Rattle.lzk_layout.specs.Fields.{Sort, plain, count, Shape, width, wrong, stops, field_at, fields_at, path_at, sorts_of, proof_at}
use Rattle.lzk_layout.specs.Parts.{sort_of, part_width}
use Rattle.lzk_layout.specs.Fronts.{next_part, IsUnfinished, IsFront, IsFaulty, FrontIsSound, FaultStays}
use Rattle.lzk_layout.proofs.FieldLaws.{behind, done, do_is, none_at, field_takes, field_again, fields_take, fields_again, field_then, field_stops, count_stops}
use Rattle.lzk_layout.proofs.Faults.{from_err, stop_is}
use Rattle.lzk_layout.proofs.FrontLaws.{begun, front_stops, front_ends}

abbrev stop : ℕ → ProofKind → Stop
stop left kind = record { left = left; kind = kind }

-- ---- one field

pub too_short : (s : Shape) (x : Sort) (bytes : List ℕ) → length bytes < width s x → field_at s x bytes ≡ Err (stop (length bytes) kinds.Truncated)
unfolding field_at
too_short s x bytes short = rw (lt-ltb (length bytes) (width s x) short) refl

pub fails_at : (s : Shape) (x : Sort) (bytes : List ℕ) (kind : ProofKind) → width s x ≤ length bytes → wrong s x (take (width s x) bytes) ≡ Some kind → field_at s x bytes ≡ Err (stop (length bytes) kind)
unfolding field_at
fails_at s x bytes kind long e = rw (le-ltb (length bytes) (width s x) long, e) refl

passes_at : (s : Shape) (x : Sort) (bytes : List ℕ) → width s x ≤ length bytes → wrong s x (take (width s x) bytes) ≡ None → field_at s x bytes ≡ Ok (take (width s x) bytes, drop (width s x) bytes)
unfolding field_at
passes_at s x bytes long e = rw (le-ltb (length bytes) (width s x) long, e) refl

-- ---- fronts

module _ (s : Shape) (p : Params) (bytes : List ℕ) (fields : List (List ℕ)) (rest : List ℕ) (front : IsFront s p bytes fields rest) where
  pub front_short : (part : ProofPart) → next_part p fields ≡ Some part → length rest < part_width s part
  front_short part next = subst (λ (o : Option ProofPart). IsUnfinished s o rest) next front.unfinished

  pub front_empty : next_part p fields ≡ None → rest ≡ []
  front_empty next = subst (λ (o : Option ProofPart). IsUnfinished s o rest) next front.unfinished

  pub front_truncated : (part : ProofPart) → next_part p fields ≡ Some part → proof_at s p bytes ≡ Err (stop (length rest) kinds.Truncated)
  front_truncated part next = front_stops s p bytes fields rest (begun s p bytes fields rest front) part (stop (length rest) kinds.Truncated) next (too_short s (sort_of part) rest (front_short part next))

  pub front_whole : next_part p fields ≡ None → proof_at s p bytes ≡ Ok fields
  front_whole next =
      front_ends s p bytes fields rest (begun s p bytes fields rest front) next ∙ ap (λ (bs : List ℕ). cond (eqb (length bs) 0) (done fields) (stops kinds.Trailing bs)) (front_empty next)

  front_sound : (fault : ProofFault) (o : Option ProofPart) → next_part p fields ≡ o → IsFaulty s p bytes fault → ⊥
  front_sound fault (Some part) next h =
      let same : stop (length rest) kinds.Truncated ≡ stop (length bytes - fault.offset) fault.kind = stop_is {A = List (List ℕ)} _ _ (sym (front_truncated part next) ∙ h.0.0) in
      h.1 (sym (ap (λ (d : Stop). d.kind) same))
  front_sound fault None next h =
      let apart : ◌≡◌ {A = Result (List (List ℕ)) Stop} (Ok fields) (Err (stop (length bytes - fault.offset) fault.kind)) = sym (front_whole next) ∙ h.0.0 in
      absurd cc

pub front_is_sound : (s : Shape) (p : Params) → FrontIsSound s p
front_is_sound s p bytes fields rest fault front = front_sound s p bytes fields rest front fault (next_part p fields) refl

-- ---- more bytes

module _ (s : Shape) (more : List ℕ) where
  -- the same stop, seen from the end of more bytes
  abbrev longer : Stop → Stop
  longer d = stop (d.left + length more) d.kind

  field_more : (x : Sort) (bytes f after : List ℕ) → field_at s x bytes ≡ Ok (f, after) → field_at s x (bytes ++ more) ≡ Ok (f, after ++ more)
  field_more x bytes f after e =
      let took = field_takes s x bytes (f, after) e in
      ap (λ (bs : List ℕ). field_at s x (bs ++ more)) took.0 ∙ ap (field_at s x) (append_assoc f after more) ∙ field_again s x f (after ++ more) took.1

  fails_more : (x : Sort) (bytes : List ℕ) (d : Stop) → width s x ≤ length bytes → (o : Option ProofKind) → wrong s x (take (width s x) bytes) ≡ o → field_at s x bytes ≡ Err d → field_at s x (bytes ++ more) ≡ Err (longer d)
  fails_more x bytes d long None is e =
      let apart : ◌≡◌ {A = Result (List ℕ × List ℕ) Stop} (Ok (take (width s x) bytes, drop (width s x) bytes)) (Err d) = sym (passes_at s x bytes long is) ∙ e in
      absurd cc
  fails_more x bytes d long (Some kind) is e =
      let same : stop (length bytes) kind ≡ d = stop_is {A = List ℕ × List ℕ} _ _ (sym (fails_at s x bytes kind long is) ∙ e) in
      let here : field_at s x (bytes ++ more) ≡ Err (stop (length (bytes ++ more)) kind) =
      fails_at s x (bytes ++ more) kind (omega (arith, long, length-append bytes more)) (ap (wrong s x) (take-append-le (width s x) bytes more long) ∙ is) in
      here
      ∙ ap (λ (n : ℕ). let r : Result (List ℕ × List ℕ) Stop = Err (stop n kind) in r) (length-append bytes more)
      ∙ ap (λ (k : Stop). let r : Result (List ℕ × List ℕ) Stop = Err (longer k) in r) same

  field_fails : (x : Sort) (bytes : List ℕ) (d : Stop) → d.kind ≢ kinds.Truncated → field_at s x bytes ≡ Err d → field_at s x (bytes ++ more) ≡ Err (longer d)
  field_fails x bytes d other e =
      elim (cases_lt (length bytes) (width s x)) [
        | inl lt ↦
            let same : stop (length bytes) kinds.Truncated ≡ d = stop_is {A = List ℕ × List ℕ} _ _ (sym (too_short s x bytes lt) ∙ e) in
            absurd (other (sym (ap (λ (k : Stop). k.kind) same)))
        | inr le ↦ fails_more x bytes d le (wrong s x (take (width s x) bytes)) refl e
      ]

  behind_fails : (front : List (List ℕ)) (r : Result (List (List ℕ) × List ℕ) Stop) (d : Stop) → behind front r ≡ Err d → r ≡ Err d
  behind_fails front (Ok x) d e = absurd cc
  behind_fails front (Err k) d e = e

  fields_more : (ss : List Sort) (bytes : List ℕ) (fs : List (List ℕ)) (after : List ℕ) → fields_at s ss bytes ≡ Ok (fs, after) → fields_at s ss (bytes ++ more) ≡ Ok (fs, after ++ more)
  fields_more ss bytes fs after e =
      let took = fields_take s ss bytes (fs, after) e in
      ap (λ (bs : List ℕ). fields_at s ss (bs ++ more)) took.0 ∙ ap (fields_at s ss) (append_assoc (flat fs) after more) ∙ fields_again s ss fs (after ++ more) took.1

  -- a field fails, or fields behind it do
  first_or_later : (x : Sort) (ss : List Sort) (bytes : List ℕ) (d : Stop) → d.kind ≢ kinds.Truncated
      → ((after : List ℕ) → fields_at s ss after ≡ Err d → fields_at s ss (after ++ more) ≡ Err (longer d))
      → (r : Result (List ℕ × List ℕ) Stop) → field_at s x bytes ≡ r → fields_at s (x ∷ ss) bytes ≡ Err d → fields_at s (x ∷ ss) (bytes ++ more) ≡ Err (longer d)
  first_or_later x ss bytes d other later (Ok f) at e =
      let fails : fields_at s ss f.1 ≡ Err d = behind_fails (f.0 ∷ []) (fields_at s ss f.1) d (sym (field_then s x ss bytes f.0 f.1 at) ∙ e) in
      field_then s x ss (bytes ++ more) f.0 (f.1 ++ more) (field_more x bytes f.0 f.1 at) ∙ ap (behind (f.0 ∷ [])) (later f.1 fails)
  first_or_later x ss bytes d other later (Err k) at e =
      let same : k ≡ d = stop_is {A = List (List ℕ) × List ℕ} k d (sym (field_stops s x ss bytes k at) ∙ e) in
      field_stops s x ss (bytes ++ more) (longer d) (field_fails x bytes d other (at ∙ ap (λ (i : Stop). let r : Result (List ℕ × List ℕ) Stop = Err i in r) same))

  fields_fail : (ss : List Sort) (bytes : List ℕ) (d : Stop) → d.kind ≢ kinds.Truncated → fields_at s ss bytes ≡ Err d → fields_at s ss (bytes ++ more) ≡ Err (longer d)
  fields_fail [] bytes d other e =
      let apart : ◌≡◌ {A = Result (List (List ℕ) × List ℕ) Stop} (Ok ([], bytes)) (Err d) = sym (none_at s bytes) ∙ e in
      absurd cc
  fields_fail (x ∷ ss) bytes d other e = first_or_later x ss bytes d other (λ after f. fields_fail ss after d other f) (field_at s x bytes) refl e

  -- the path behind its count
  path_then : (bytes n after : List ℕ) → field_at s count bytes ≡ Ok (n, after) → path_at s bytes ≡ behind (n ∷ []) (fields_at s (replicate (from_le_bytes w32 n) plain) after)
  unfolding path_at
  path_then bytes n after e = rw e (do_is n (fields_at s (replicate (from_le_bytes w32 n) plain) after))

  path_more : (bytes : List ℕ) (x : List (List ℕ) × List ℕ) (r : Result (List ℕ × List ℕ) Stop) → field_at s count bytes ≡ r → path_at s bytes ≡ Ok x → path_at s (bytes ++ more) ≡ Ok (x.0, x.1 ++ more)
  path_more bytes x (Err d) at e =
      let apart : ◌≡◌ {A = Result (List (List ℕ) × List ℕ) Stop} (Err d) (Ok x) = sym (count_stops s bytes d at) ∙ e in
      absurd cc
  path_more bytes x (Ok n) at e = digests_more n.0 n.1 at (fields_at s (replicate (from_le_bytes w32 n.0) plain) n.1) refl
    where
      digests_more : (n after : List ℕ) → field_at s count bytes ≡ Ok (n, after) → (q : Result (List (List ℕ) × List ℕ) Stop) → fields_at s (replicate (from_le_bytes w32 n) plain) after ≡ q → path_at s (bytes ++ more) ≡ Ok (x.0, x.1 ++ more)
      digests_more n after is (Err d) read =
          let apart : ◌≡◌ {A = Result (List (List ℕ) × List ℕ) Stop} (Err d) (Ok x) = sym (path_then bytes n after is ∙ ap (behind (n ∷ [])) read) ∙ e in
          absurd cc
      digests_more n after is (Ok y) read =
          let made : ◌≡◌ {A = Result (List (List ℕ) × List ℕ) Stop} (Ok (n ∷ y.0, y.1)) (Ok x) = sym (path_then bytes n after is ∙ ap (behind (n ∷ [])) read) ∙ e in
          let same : (n ∷ y.0, y.1) ≡ x = cc in
          path_then (bytes ++ more) n (after ++ more) (field_more count bytes n after is)
          ∙ ap (behind (n ∷ [])) (fields_more (replicate (from_le_bytes w32 n) plain) after y.0 y.1 read)
          ∙ ap (λ (z : List (List ℕ) × List ℕ). let r : Result (List (List ℕ) × List ℕ) Stop = Ok (z.0, z.1 ++ more) in r) same

  path_fails : (bytes : List ℕ) (d : Stop) → d.kind ≢ kinds.Truncated → (r : Result (List ℕ × List ℕ) Stop) → field_at s count bytes ≡ r → path_at s bytes ≡ Err d → path_at s (bytes ++ more) ≡ Err (longer d)
  path_fails bytes d other (Err k) at e =
      let same : k ≡ d = stop_is {A = List (List ℕ) × List ℕ} k d (sym (count_stops s bytes k at) ∙ e) in
      count_stops s (bytes ++ more) (longer d) (field_fails count bytes d other (at ∙ ap (λ (i : Stop). let r : Result (List ℕ × List ℕ) Stop = Err i in r) same))
  path_fails bytes d other (Ok n) at e =
      let ss : List Sort = replicate (from_le_bytes w32 n.0) plain in
      let fails : fields_at s ss n.1 ≡ Err d = behind_fails (n.0 ∷ []) (fields_at s ss n.1) d (sym (path_then bytes n.0 n.1 at) ∙ e) in
      path_then (bytes ++ more) n.0 (n.1 ++ more) (field_more count bytes n.0 n.1 at) ∙ ap (behind (n.0 ∷ [])) (fields_fail ss n.1 d other fails)

  trailing : (fs : List (List ℕ)) (left : List ℕ) (d : Stop) (b : Bool) → eqb (length left) 0 ≡ b → cond b (done fs) (stops kinds.Trailing left) ≡ Err d
      → cond (eqb (length (left ++ more)) 0) (done fs) (stops kinds.Trailing (left ++ more)) ≡ Err (longer d)
  trailing fs left d true is e = absurd cc
  trailing fs [] d false is e = absurd cc
  trailing fs (b ∷ bs) d false is e =
      let same : stop (length (b ∷ bs)) kinds.Trailing ≡ d = stop_is {A = List (List ℕ)} _ _ e in
      let some : eqb (length ((b ∷ bs) ++ more)) 0 ≡ false = ne_eqb (length ((b ∷ bs) ++ more)) 0 (λ z. omega (arith, z, length-append (b ∷ bs) more)) in
      ap (λ (t : Bool). cond t (done fs) (stops kinds.Trailing ((b ∷ bs) ++ more))) some
      ∙ ap (λ (n : ℕ). let r : Result (List (List ℕ)) Stop = Err (stop n kinds.Trailing) in r) (length-append (b ∷ bs) more)
      ∙ ap (λ (k : Stop). let r : Result (List (List ℕ)) Stop = Err (longer k) in r) same

  proof_fails : (p : Params) (bytes : List ℕ) (d : Stop) → d.kind ≢ kinds.Truncated → proof_at s p bytes ≡ Err d → proof_at s p (bytes ++ more) ≡ Err (longer d)
  unfolding proof_at
  proof_fails p bytes d other e =
      from_err (fields_at s (sorts_of p) bytes) _ d e (λ at. rw (fields_fail (sorts_of p) bytes d other at) refl) (λ first at more_e.
      let first_more : fields_at s (sorts_of p) (bytes ++ more) ≡ Ok (first.0, first.1 ++ more) = fields_more (sorts_of p) bytes first.0 first.1 at in
      from_err (path_at s first.1) _ d more_e (λ at_path. rw (first_more, path_fails first.1 d other (field_at s count first.1) refl at_path) refl) (λ path at_path end.
      rw (first_more, path_more first.1 path (field_at s count first.1) refl at_path) (trailing (first.0 ++ path.0) path.1 d (eqb (length path.1) 0) refl end)))

pub fault_stays : (s : Shape) (p : Params) → FaultStays s p
fault_stays s p bytes more fault h =
    let left : ℕ = length bytes - fault.offset in
    let same : left + length more ≡ length (bytes ++ more) - fault.offset = omega (arith, length-append bytes more, h.0.1) in
    let here = proof_fails s more p bytes (stop left fault.kind) h.1 h.0.0 in
    ((here ∙ ap (λ (n : ℕ). let r : Result (List (List ℕ)) Stop = Err (stop n fault.kind) in r) same, omega (arith, length-append bytes more, h.0.1)), h.1)

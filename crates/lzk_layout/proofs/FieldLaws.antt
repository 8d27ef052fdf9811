-- Fields that were read stand in the bytes, what stands there is read, and lists of fields are read one after the other.
use Rattle.lzk_profile.specs.Profile.{most_digests}
use Rattle.std.proofs.Common.{◌≡◌, ℕ, suc, ◌+◌, ◌<◌, ◌≤◌, ◌-◌, replicate, Bool, true, false, cond, ltb, List, [], ◌∷◌, ◌++◌, length, take, drop, Option, Some, None, Result, Ok, Err, refl, sym, ap, subst, ◌∙◌, append_assoc, arith, inl, inr}
use Rattle.std.specs.Borrow.{Bor}
use Rattle.std.specs.Int.{w32, to_le_bytes, from_le_bytes}
use Rattle.std.specs.List.{refill}
use Rattle.std.specs.Result.{OnOk, IsErrAnd}
use Rattle.std.proofs.lemmas.Nat.{from_le_bytes-to_le_bytes_4}
use Rattle.std.proofs.lemmas.Bool.{ltb-false, le-ltb, lt-ltb, cases_lt}
use Rattle.std.proofs.lemmas.List.{append-nil, take_at, drop_at, take-append-drop, length-append, length-take, get_or_append_left}
use Rattle.std.proofs.Math.Seq.{get_or-append_seam}
use Rattle.lzk_layout.specs.declared.fault.ProofKind.{ProofKind}
use Rattle.lzk_layout.specs.declared.fault.ProofKind.TheVariants as kinds
use Rattle.lzk_layout.specs.declared.fault.Stop.{Stop}
use Rattle.lzk_field.specs.Bytes.{number_from}
use Rattle.lzk_layout.specs.Proofs.{flat, AreDigests}
use Rattle.lzk_layout.specs.Answers.{Gives}
use Rattle.lzk_layout.specs.Fields.{Sort, plain, element, count, path_at, Shape, width, wrong, ◌>>=◌, stops, passes, field_at, fields_at, IsField, AreFields}

pub from : {A B G : Type 0} (r : Result A Stop) (f : A → Result B Stop) (y : B) → (r >>= f) ≡ Ok y → ((x : A) → r ≡ Ok x → f x ≡ Ok y → G) → G
from (Ok x) f y e k = k x refl e
from (Err d) f y e k = absurd cc

pub not_refused : {A : Type 0} (b : Bool) (d : Stop) (r : Result A Stop) (y : A) → cond b (Err d) r ≡ Ok y → (b ≡ false) × (r ≡ Ok y)
not_refused true d r y e = absurd cc
not_refused false d r y e = (refl, e)

pub passed : {A : Type 0} (b : Bool) (d : Stop) (r : Result A Stop) (y : A) → cond b r (Err d) ≡ Ok y → (b ≡ true) × (r ≡ Ok y)
passed true d r y e = (refl, e)
passed false d r y e = absurd cc

abbrev pub done : {A : Type 0} → A → Result A Stop
done x = Ok x

pub done_is : {A : Type 0} (x y : A) → done x ≡ done y → x ≡ y
done_is x y e = cc

right_field : (o : Option ProofKind) (bytes field rest : List ℕ) (x : List ℕ × List ℕ) → passes o bytes field rest ≡ Ok x → (o ≡ None) × ((field, rest) ≡ x)
right_field None bytes field rest x e = (refl, done_is (field, rest) x e)
right_field (Some kind) bytes field rest x e = absurd cc

pub field_takes : (shape : Shape) (s : Sort) (bytes : List ℕ) (x : List ℕ × List ℕ) → field_at shape s bytes ≡ Ok x → (bytes ≡ x.0 ++ x.1) × IsField shape s x.0
unfolding field_at
field_takes shape s bytes x e =
    let w : ℕ = width shape s in
    let g = not_refused (ltb (length bytes) w) _ (passes (wrong shape s (take w bytes)) bytes (take w bytes) (drop w bytes)) x e in
    let h = right_field (wrong shape s (take w bytes)) bytes (take w bytes) (drop w bytes) x g.1 in
    let long : w ≤ length bytes = ltb-false _ _ g.0 in
    subst (λ (y : List ℕ × List ℕ). (bytes ≡ y.0 ++ y.1) × IsField shape s y.0) h.1
    (sym (take-append-drop w bytes), record { long = omega (arith, length-take w bytes); right = h.0 })

pub field_again : (shape : Shape) (s : Sort) (field rest : List ℕ) → IsField shape s field → field_at shape s (field ++ rest) ≡ Ok (field, rest)
unfolding field_at
field_again shape s field rest h =
    let w : ℕ = width shape s in
    let long : ltb (length (field ++ rest)) w ≡ false = le-ltb _ _ (omega (arith, length-append field rest, h.long)) in
    rw (long, take_at field rest w h.long, drop_at field rest w h.long, h.right) refl

-- what reading a field gives where the bytes end before it, and where they do not
pub field_short : (shape : Shape) (s : Sort) (bytes : List ℕ) → length bytes < width shape s → field_at shape s bytes ≡ stops kinds.Truncated bytes
unfolding field_at
field_short shape s bytes lt = let short : ltb (length bytes) (width shape s) ≡ true = lt-ltb _ _ lt in rw short refl

pub field_whole : (shape : Shape) (s : Sort) (bytes : List ℕ) (fault : Option ProofKind) → width shape s ≤ length bytes → wrong shape s (take (width shape s) bytes) ≡ fault
    → field_at shape s bytes ≡ passes fault bytes (take (width shape s) bytes) (drop (width shape s) bytes)
unfolding field_at
field_whole shape s bytes fault le e = let long : ltb (length bytes) (width shape s) ≡ false = le-ltb _ _ le in rw (long, e) refl

-- the check of an element
pub element_passes : (shape : Shape) (field : List ℕ) → number_from field < shape.size → wrong shape element field ≡ None
unfolding wrong
element_passes shape field lt = let below : ltb (number_from field) shape.size ≡ true = lt-ltb _ _ lt in rw below refl

pub element_fails : (shape : Shape) (field : List ℕ) → shape.size ≤ number_from field → wrong shape element field ≡ Some kinds.Element
unfolding wrong
element_fails shape field le = let above : ltb (number_from field) shape.size ≡ false = le-ltb _ _ le in rw above refl

-- what reading an element gives, where the bytes are cut behind the first n
module _ (s : Shape) (bytes front : List ℕ) (n : ℕ) (same : n ≡ s.bytes) (long : n ≤ length bytes) (cut : front ≡ take n bytes) where
  cut_is : take s.bytes bytes ≡ front
  cut_is = sym (cut ∙ ap (λ (k : ℕ). take k bytes) same)

  enough : s.bytes ≤ length bytes
  enough = omega (arith, same, long)

  pub element_read : (rest field : List ℕ) → rest ≡ drop n bytes → number_from front < s.size → field ≡ front → field_at s element bytes ≡ Ok (field, rest)
  element_read rest field behind_it below is =
      let others : drop s.bytes bytes ≡ rest = sym (behind_it ∙ ap (λ (k : ℕ). drop k bytes) same) in
      let passes_it : wrong s element (take s.bytes bytes) ≡ None = ap (wrong s element) cut_is ∙ element_passes s front below in
      field_whole s element bytes None enough passes_it ∙ ap (λ (f : List ℕ). passes None bytes f (drop s.bytes bytes)) (cut_is ∙ sym is) ∙ ap (passes None bytes field) others

  pub element_stops : s.size ≤ number_from front → field_at s element bytes ≡ stops kinds.Element bytes
  element_stops above = field_whole s element bytes (Some kinds.Element) enough (ap (wrong s element) cut_is ∙ element_fails s front above)

-- any 32 bytes pass
plain_passes : (s : Shape) (field : List ℕ) → wrong s plain field ≡ None
unfolding wrong
plain_passes s field = refl

pub plain_read : (s : Shape) (bytes block rest : List ℕ) → 32 ≤ length bytes → block ≡ take 32 bytes → rest ≡ drop 32 bytes → field_at s plain bytes ≡ Ok (block, rest)
plain_read s bytes block rest long cut behind_it =
    field_whole s plain bytes None long (plain_passes s (take 32 bytes)) ∙ ap (λ (f : List ℕ). passes None bytes f (drop 32 bytes)) (sym cut) ∙ ap (passes None bytes block) (sym behind_it)

-- a reader that failed has nothing to say of what it read
pub not_on_ok : {T E : Type 0} (P : Type 0) (r : Result T E) (Q : E → Type 0) → IsErrAnd r Q → OnOk r P
not_on_ok P (Ok x) Q h = absurd h
not_on_ok P (Err e) Q h = tt

-- a list that is written over whole
pub refill_whole : {X : Type 0} (n : ℕ) (xs ws : List X) → length ws ≡ n → refill n xs ws ≡ ws
refill_whole n xs ws e = take_at ws (drop (length ws) xs) n e

pub fields_take : (shape : Shape) (ss : List Sort) (bytes : List ℕ) (x : List (List ℕ) × List ℕ) → fields_at shape ss bytes ≡ Ok x → (bytes ≡ flat x.0 ++ x.1) × AreFields shape ss x.0
unfolding fields_at
fields_take shape [] bytes x e =
    subst (λ (y : List (List ℕ) × List ℕ). (bytes ≡ flat y.0 ++ y.1) × AreFields shape [] y.0) (done_is ([], bytes) x e) (refl, tt)
fields_take shape (s ∷ ss) bytes x e =
    from (field_at shape s bytes) _ x e (λ f at_f more.
    from (fields_at shape ss f.1) _ x more (λ fs at_fs end.
    let one = field_takes shape s bytes f at_f in
    let others = fields_take shape ss f.1 fs at_fs in
    let made : List (List ℕ) × List ℕ = (f.0 ∷ fs.0, fs.1) in
    let parts : bytes ≡ flat made.0 ++ made.1 = one.0 ∙ ap (λ (t : List ℕ). f.0 ++ t) others.0 ∙ sym (append_assoc f.0 (flat fs.0) fs.1) in
    subst (λ (y : List (List ℕ) × List ℕ). (bytes ≡ flat y.0 ++ y.1) × AreFields shape (s ∷ ss) y.0) (done_is made x end) (parts, (one.1, others.1))))

pub fields_again : (shape : Shape) (ss : List Sort) (fs : List (List ℕ)) (rest : List ℕ) → AreFields shape ss fs → fields_at shape ss (flat fs ++ rest) ≡ Ok (fs, rest)
unfolding fields_at
fields_again shape [] [] rest h = refl
fields_again shape [] (f ∷ fs) rest h = absurd h
fields_again shape (s ∷ ss) [] rest h = absurd h
fields_again shape (s ∷ ss) (f ∷ fs) rest h =
    ap (fields_at shape (s ∷ ss)) (append_assoc f (flat fs) rest) ∙ rw (field_again shape s f (flat fs ++ rest) h.0, fields_again shape ss fs rest h.1) refl

-- ---- what is read, behind what was read

-- fields in front of what reading gives
abbrev pub behind : List (List ℕ) → Result (List (List ℕ) × List ℕ) Stop → Result (List (List ℕ) × List ℕ) Stop
behind front (Ok y) = Ok (front ++ y.0, y.1)
behind front (Err d) = Err d

pub behind-nil : (r : Result (List (List ℕ) × List ℕ) Stop) → r ≡ behind [] r
behind-nil (Ok x) = refl
behind-nil (Err d) = refl

behind-append : (front more : List (List ℕ)) (r : Result (List (List ℕ) × List ℕ) Stop) → behind front (behind more r) ≡ behind (front ++ more) r
behind-append front more (Ok x) = ap (λ (t : List (List ℕ)). done (t, x.1)) (sym (append_assoc front more x.0))
behind-append front more (Err d) = refl

-- fields_at at a list, with behind in place of the do block
abbrev headed : Shape → List Sort → Result (List ℕ × List ℕ) Stop → Result (List (List ℕ) × List ℕ) Stop
headed shape ss (Ok f) = behind (f.0 ∷ []) (fields_at shape ss f.1)
headed shape ss (Err d) = Err d

pub do_is : (f : List ℕ) (r : Result (List (List ℕ) × List ℕ) Stop) → (r >>= λ fields. Ok (f ∷ fields.0, fields.1)) ≡ behind (f ∷ []) r
do_is f (Ok x) = refl
do_is f (Err d) = refl

headed_is : (shape : Shape) (s : Sort) (ss : List Sort) (bytes : List ℕ) (r : Result (List ℕ × List ℕ) Stop) → field_at shape s bytes ≡ r → fields_at shape (s ∷ ss) bytes ≡ headed shape ss r
unfolding fields_at
headed_is shape s ss bytes (Ok f) e = rw e (do_is f.0 (fields_at shape ss f.1))
headed_is shape s ss bytes (Err d) e = rw e refl

pub field_then : (shape : Shape) (s : Sort) (ss : List Sort) (bytes f after : List ℕ) → field_at shape s bytes ≡ Ok (f, after) → fields_at shape (s ∷ ss) bytes ≡ behind (f ∷ []) (fields_at shape ss after)
field_then shape s ss bytes f after e = headed_is shape s ss bytes (Ok (f, after)) e

pub field_stops : (shape : Shape) (s : Sort) (ss : List Sort) (bytes : List ℕ) (d : Stop) → field_at shape s bytes ≡ Err d → fields_at shape (s ∷ ss) bytes ≡ Err d
field_stops shape s ss bytes d e = headed_is shape s ss bytes (Err d) e

pub none_at : (shape : Shape) (bytes : List ℕ) → fields_at shape [] bytes ≡ Ok ([], bytes)
unfolding fields_at
none_at shape bytes = refl

-- the sorts ts behind ss
abbrev next : Shape → List Sort → Result (List (List ℕ) × List ℕ) Stop → Result (List (List ℕ) × List ℕ) Stop
next shape ts (Ok x) = behind x.0 (fields_at shape ts x.1)
next shape ts (Err d) = Err d

next-behind : (shape : Shape) (ts : List Sort) (front : List (List ℕ)) (r : Result (List (List ℕ) × List ℕ) Stop) → behind front (next shape ts r) ≡ next shape ts (behind front r)
next-behind shape ts front (Ok x) = behind-append front x.0 (fields_at shape ts x.1)
next-behind shape ts front (Err d) = refl

both : (shape : Shape) (ss ts : List Sort) → ((bytes : List ℕ) → fields_at shape (ss ++ ts) bytes ≡ next shape ts (fields_at shape ss bytes))
    → (r : Result (List ℕ × List ℕ) Stop) → headed shape (ss ++ ts) r ≡ next shape ts (headed shape ss r)
both shape ss ts h (Ok f) = rw (h f.1) (next-behind shape ts (f.0 ∷ []) (fields_at shape ss f.1))
both shape ss ts h (Err d) = refl

fields-append : (shape : Shape) (ss ts : List Sort) (bytes : List ℕ) → fields_at shape (ss ++ ts) bytes ≡ next shape ts (fields_at shape ss bytes)
fields-append shape [] ts bytes = behind-nil (fields_at shape ts bytes) ∙ ap (next shape ts) (sym (none_at shape bytes))
fields-append shape (s ∷ ss) ts bytes =
    let r : Result (List ℕ × List ℕ) Stop = field_at shape s bytes in
    headed_is shape s (ss ++ ts) bytes r refl ∙ both shape ss ts (fields-append shape ss ts) r ∙ ap (next shape ts) (sym (headed_is shape s ss bytes r refl))

pub fields_then : (shape : Shape) (ss ts : List Sort) (bytes : List ℕ) (fs : List (List ℕ)) (after : List ℕ) → fields_at shape ss bytes ≡ Ok (fs, after) → fields_at shape (ss ++ ts) bytes ≡ behind fs (fields_at shape ts after)
fields_then shape ss ts bytes fs after e = fields-append shape ss ts bytes ∙ ap (next shape ts) e

pub fields_stop : (shape : Shape) (ss ts : List Sort) (bytes : List ℕ) (d : Stop) → fields_at shape ss bytes ≡ Err d → fields_at shape (ss ++ ts) bytes ≡ Err d
fields_stop shape ss ts bytes d e = fields-append shape ss ts bytes ∙ ap (next shape ts) e

-- A reader of the sorts ts behind ss answers what reading both gives.
pub reads_on : (shape : Shape) (ss ts : List Sort) (bytes : List ℕ) (fs gs : List (List ℕ)) (after : List ℕ) (r : Result (Bor (List ℕ)) Stop) → fields_at shape ss bytes ≡ Ok (fs, after)
    → Gives (λ (rest : Bor (List ℕ)). (gs, rest.now)) r (fields_at shape ts after) → Gives (λ (rest : Bor (List ℕ)). (fs ++ gs, rest.now)) r (fields_at shape (ss ++ ts) bytes)
reads_on shape ss ts bytes fs gs after (Ok rest) e h = fields_then shape ss ts bytes fs after e ∙ ap (behind fs) h
reads_on shape ss ts bytes fs gs after (Err d) e h = fields_then shape ss ts bytes fs after e ∙ ap (behind fs) h

-- ---- the rest of the whole

pub goes_on : (shape : Shape) (s : Sort) (ss : List Sort) (whole : Result (List (List ℕ) × List ℕ) Stop) (fs : List (List ℕ)) (bytes f after : List ℕ)
    → whole ≡ behind fs (fields_at shape (s ∷ ss) bytes) → field_at shape s bytes ≡ Ok (f, after) → whole ≡ behind (fs ++ f ∷ []) (fields_at shape ss after)
goes_on shape s ss whole fs bytes f after h e = h ∙ ap (behind fs) (field_then shape s ss bytes f after e) ∙ behind-append fs (f ∷ []) (fields_at shape ss after)

pub ends : (shape : Shape) (s : Sort) (ss : List Sort) (whole : Result (List (List ℕ) × List ℕ) Stop) (fs : List (List ℕ)) (bytes : List ℕ) (d : Stop)
    → whole ≡ behind fs (fields_at shape (s ∷ ss) bytes) → field_at shape s bytes ≡ Err d → whole ≡ Err d
ends shape s ss whole fs bytes d h e = h ∙ ap (behind fs) (field_stops shape s ss bytes d e)

pub goes_over : (shape : Shape) (ss ts : List Sort) (whole : Result (List (List ℕ) × List ℕ) Stop) (fs gs : List (List ℕ)) (bytes after : List ℕ)
    → whole ≡ behind fs (fields_at shape (ss ++ ts) bytes) → fields_at shape ss bytes ≡ Ok (gs, after) → whole ≡ behind (fs ++ gs) (fields_at shape ts after)
goes_over shape ss ts whole fs gs bytes after h e = h ∙ ap (behind fs) (fields_then shape ss ts bytes gs after e) ∙ behind-append fs gs (fields_at shape ts after)

pub ends_over : (shape : Shape) (ss ts : List Sort) (whole : Result (List (List ℕ) × List ℕ) Stop) (fs : List (List ℕ)) (bytes : List ℕ) (d : Stop)
    → whole ≡ behind fs (fields_at shape (ss ++ ts) bytes) → fields_at shape ss bytes ≡ Err d → whole ≡ Err d
ends_over shape ss ts whole fs bytes d h e = h ∙ ap (behind fs) (fields_stop shape ss ts bytes d e)

pub is_done : (shape : Shape) (whole : Result (List (List ℕ) × List ℕ) Stop) (fs : List (List ℕ)) (rest : List ℕ) → whole ≡ behind fs (fields_at shape [] rest) → whole ≡ Ok (fs, rest)
is_done shape whole fs rest h = h ∙ ap (behind fs) (none_at shape rest) ∙ ap (λ (t : List (List ℕ)). done (t, rest)) (append-nil fs)

-- ---- so many fields of one sort

less : (s : Sort) (n i : ℕ) → i < n → replicate (n - i) s ≡ s ∷ replicate (n - (i + 1)) s
less s n i lt = let e : n - i ≡ suc (n - (i + 1)) = omega arith in rw e refl

pub goes_on_same : (shape : Shape) (s : Sort) (n i : ℕ) (whole : Result (List (List ℕ) × List ℕ) Stop) (fs : List (List ℕ)) (bytes f after : List ℕ)
    → i < n → whole ≡ behind fs (fields_at shape (replicate (n - i) s) bytes) → field_at shape s bytes ≡ Ok (f, after) → whole ≡ behind (fs ++ f ∷ []) (fields_at shape (replicate (n - (i + 1)) s) after)
goes_on_same shape s n i whole fs bytes f after lt h e =
    goes_on shape s (replicate (n - (i + 1)) s) whole fs bytes f after (h ∙ ap (λ (ss : List Sort). behind fs (fields_at shape ss bytes)) (less s n i lt)) e

pub ends_same : (shape : Shape) (s : Sort) (n i : ℕ) (whole : Result (List (List ℕ) × List ℕ) Stop) (fs : List (List ℕ)) (bytes : List ℕ) (d : Stop)
    → i < n → whole ≡ behind fs (fields_at shape (replicate (n - i) s) bytes) → field_at shape s bytes ≡ Err d → whole ≡ Err d
ends_same shape s n i whole fs bytes d lt h e =
    ends shape s (replicate (n - (i + 1)) s) whole fs bytes d (h ∙ ap (λ (ss : List Sort). behind fs (fields_at shape ss bytes)) (less s n i lt)) e

pub is_done_same : (shape : Shape) (s : Sort) (n i : ℕ) (whole : Result (List (List ℕ) × List ℕ) Stop) (fs : List (List ℕ)) (rest : List ℕ)
    → n ≤ i → whole ≡ behind fs (fields_at shape (replicate (n - i) s) rest) → whole ≡ Ok (fs, rest)
is_done_same shape s n i whole fs rest le h =
    let e : n - i ≡ 0 = omega arith in
    is_done shape whole fs rest (h ∙ ap (λ (k : ℕ). behind fs (fields_at shape (replicate k s) rest)) e)

-- ---- the path

pub path_read : (shape : Shape) (bytes after rest : List ℕ) (n : ℕ) (digests : List (List ℕ)) → n ≤ most_digests → field_at shape count bytes ≡ Ok (to_le_bytes w32 n, after)
    → fields_at shape (replicate n plain) after ≡ Ok (digests, rest) → path_at shape bytes ≡ Ok (to_le_bytes w32 n ∷ digests, rest)
unfolding path_at
path_read shape bytes after rest n digests few e f =
    let back : from_le_bytes w32 (to_le_bytes w32 n) ≡ n = from_le_bytes-to_le_bytes_4 n (omega arith) in
    rw (e, back, f) refl

pub count_stops : (shape : Shape) (bytes : List ℕ) (d : Stop) → field_at shape count bytes ≡ Err d → path_at shape bytes ≡ Err d
unfolding path_at
count_stops shape bytes d e = rw e refl

pub path_stops : (shape : Shape) (bytes after : List ℕ) (n : ℕ) (d : Stop) → n ≤ most_digests → field_at shape count bytes ≡ Ok (to_le_bytes w32 n, after)
    → fields_at shape (replicate n plain) after ≡ Err d → path_at shape bytes ≡ Err d
unfolding path_at
path_stops shape bytes after n d few e f =
    let back : from_le_bytes w32 (to_le_bytes w32 n) ≡ n = from_le_bytes-to_le_bytes_4 n (omega arith) in
    rw (e, back, f) refl

pub path_done : (s : Shape) (bytes after rest : List ℕ) (n k : ℕ) (digests : List (List ℕ)) → n ≤ most_digests → n ≤ k → k ≤ n → length digests ≡ k → field_at s count bytes ≡ Ok (to_le_bytes w32 n, after)
    → fields_at s (replicate n plain) after ≡ behind digests (fields_at s (replicate (n - k) plain) rest) → path_at s bytes ≡ Ok (to_le_bytes w32 (length digests) ∷ digests, rest)
path_done s bytes after rest n k digests few le ge long e h =
    let same : n ≡ length digests = omega arith in
    path_read s bytes after rest n digests few e (is_done_same s plain n k (fields_at s (replicate n plain) after) digests rest le h)
    ∙ ap (λ (m : ℕ). let r : Result (List (List ℕ) × List ℕ) Stop = Ok (to_le_bytes w32 m ∷ digests, rest) in r) same

pub digests_push : (ds : List (List ℕ)) (d : List ℕ) → AreDigests ds → length d ≡ 32 → AreDigests (ds ++ d ∷ [])
digests_push ds d h long k lt =
    elim (cases_lt k (length ds)) [
      | inl below ↦ rw (get_or_append_left ds (d ∷ []) [] k below) (h k below)
      | inr past ↦
          let at : k ≡ length ds = omega (arith, length-append ds (d ∷ [])) in
          rw (at, get_or-append_seam ds d [] []) long
    ]

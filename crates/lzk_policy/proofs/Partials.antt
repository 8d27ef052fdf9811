-- What lines say of a policy stays well formed.
use Rattle.std.proofs.Common.{◌≡◌, ℕ, ◌≤◌, Bool, true, false, not, List, [], ◌∷◌, ◌++◌, length, length-append, Option, Some, None, Result, Ok, Err, refl, sym, ap, subst, ◌∙◌, arith}
use Rattle.std.specs.Prelude.{if◌then◌else◌, nat_lt, nat_le, ◌&&◌, ◌||◌, IsTrue, slice_get, is_some}
use Rattle.std.specs.List.{AllByRecursion}
use Rattle.std.proofs.lemmas.Bool.{leb-true, ltb-true}
use Rattle.lzk_profile.specs.Profile.{most_levels}
use Rattle.lzk_policy.specs.declared.policy.RecordField.{RecordField}
use Rattle.lzk_policy.specs.declared.policy.Claim.{Claim}
use Rattle.lzk_policy.specs.declared.policy.Show.{Show}
use Rattle.lzk_policy.specs.declared.line.Line.{Line}
use Rattle.lzk_policy.specs.declared.line.Line.TheVariants as lines
use Rattle.lzk_policy.specs.declared.fault.PolicyKind.{PolicyKind}
use Rattle.lzk_policy.specs.declared.fault.PolicyKind.TheVariants as faults
use Rattle.lzk_policy.specs.Lines.{line_of, is_skipped}
use Rattle.lzk_policy.specs.Policies.{Partial, IsPartial, IsPolicy, IsField, IsShowOf, most_bytes, most_fields, most_shows, has_size, lies_within, suits, claim_for, field_number, with_size, with_field, with_field_behind, with_new_field, with_digest, with_root, with_claim, with_number, with_show, with_said, with_line, with_bytes, at_line}

all_behind : {A : Type 0} (P : A → Type 0) (xs : List A) (x : A) → AllByRecursion P xs → P x → AllByRecursion P (xs ++ x ∷ [])
all_behind P [] x h p = (p, tt)
all_behind P (y ∷ ys) x h p = (h.0, all_behind P ys x h.1 p)

all_empty : {A : Type 0} (P : A → Type 0) (xs : List A) → xs ≡ [] → AllByRecursion P xs
all_empty P xs e = subst (λ l. AllByRecursion P l) (sym e) tt

-- ---- tests

parts : (a b : Bool) → (a && b) ≡ true → (a ≡ true) × (b ≡ true)
parts true b e = (refl, e)
parts false b e = absurd cc

not_true : (b : Bool) → not b ≡ false → b ≡ true
not_true true e = refl
not_true false e = absurd cc

not_false : (b : Bool) → not b ≡ true → b ≡ false
not_false true e = absurd cc
not_false false e = refl

no_size : (o : Option ℕ) → is_some o ≡ false → o ≡ None
no_size None e = refl
no_size (Some n) e = absurd cc

module _ {A E : Type 0} where
  refused : (b : Bool) (k : E) (r : Result A E) (q : A) → (if b then Err k else r) ≡ Ok q → (b ≡ false) × (r ≡ Ok q)
  refused true k r q h = absurd cc
  refused false k r q h = (refl, h)

  passed : (b : Bool) (k : E) (r : Result A E) (q : A) → (if b then r else Err k) ≡ Ok q → (b ≡ true) × (r ≡ Ok q)
  passed true k r q h = (refl, h)
  passed false k r q h = absurd cc

  ok_same : (x q : A) (r : Result A E) → r ≡ Ok q → r ≡ Ok x → x ≡ q
  ok_same x q r h e = cc

is_true : (b : Bool) → b ≡ true → IsTrue b
is_true b e = e

none_or_some : {A : Type 0} (n m : A) → Some n ≡ Some m → n ≡ m
none_or_some n m e = cc

-- ---- what each line adds

size_kept : (p q : Partial) (n : ℕ) → IsPartial p → with_size p n ≡ Ok q → IsPartial q
unfolding with_size
size_kept p q n w h =
    let a = refused (is_some p.size) faults.Order (if nat_le 1 n && nat_le n most_bytes then Ok (record p { size = Some n }) else Err faults.Size) q h in
    let b = passed (nat_le 1 n && nat_le n most_bytes) faults.Size (Ok (record p { size = Some n })) q a.1 in
    let t = parts (nat_le 1 n) (nat_le n most_bytes) b.0 in
    subst IsPartial (ok_same (record p { size = Some n }) q (Ok (record p { size = Some n })) b.1 refl) (record {
      some = λ m e.
          let same : n ≡ m = none_or_some n m e in
          subst (λ (k : ℕ). (1 ≤ k) × (k ≤ most_bytes) × AllByRecursion (IsField k) p.fields) same (leb-true 1 n t.0, leb-true n most_bytes t.1, all_empty (IsField n) p.fields (w.none (no_size p.size a.0)));
      none = λ e. absurd cc;
      fields = w.fields;
      few = w.few;
      levels = w.levels;
      shown = w.shown;
      shows = w.shows;
    })

new_field_kept : (p q : Partial) (n : ℕ) (f : RecordField) → IsPartial p → p.size ≡ Some n → p.digest ≡ false → with_new_field p n f ≡ Ok q → IsPartial q
unfolding with_new_field
new_field_kept p q n f w size before h =
    let next = record p { fields = p.fields ++ f ∷ [] } in
    let last = if nat_lt (length p.fields) most_fields then Ok next else Err faults.Limit in
    let within = if not (lies_within n f) then Err faults.Place else last in
    let sized = if not (has_size f.kind f.size) then Err faults.Size else within in
    let a = refused (is_some (field_number p.fields f.name)) faults.Repeated sized q h in
    let b = refused (not (has_size f.kind f.size)) faults.Size within q a.1 in
    let c = refused (not (lies_within n f)) faults.Place last q b.1 in
    let d = passed (nat_lt (length p.fields) most_fields) faults.Limit (Ok next) q c.1 in
    let is : IsField n f = (is_true (has_size f.kind f.size) (not_true (has_size f.kind f.size) b.0), is_true (lies_within n f) (not_true (lies_within n f) c.0)) in
    let before_ = w.some n size in
    let shows : p.shows ≡ [] = w.shown before in
    subst IsPartial (ok_same next q (Ok next) d.1 refl) (record {
      some = λ m e.
          let same : n ≡ m = none_or_some n m (sym size ∙ e) in
          subst (λ (k : ℕ). (1 ≤ k) × (k ≤ most_bytes) × AllByRecursion (IsField k) (p.fields ++ f ∷ [])) same (before_.0, before_.1, all_behind (IsField n) p.fields f before_.2 is);
      none = λ e. absurd (let no : None ≡ Some n = sym e ∙ size in cc);
      fields = omega (arith, ltb-true (length p.fields) most_fields d.0, length-append p.fields (f ∷ []));
      few = w.few;
      levels = w.levels;
      shown = λ e. shows;
      shows = all_empty (IsShowOf (p.fields ++ f ∷ [])) p.shows shows;
    })

field_behind_kept : (p q : Partial) (o : Option ℕ) (f : RecordField) → IsPartial p → p.size ≡ o → p.digest ≡ false → with_field_behind p f o ≡ Ok q → IsPartial q
unfolding with_field_behind
field_behind_kept p q None f w size before h = absurd cc
field_behind_kept p q (Some n) f w size before h = new_field_kept p q n f w size before h

field_kept : (p q : Partial) (f : RecordField) → IsPartial p → with_field p f ≡ Ok q → IsPartial q
unfolding with_field
field_kept p q f w h =
    let a = refused p.digest faults.Order (with_field_behind p f p.size) q h in
    field_behind_kept p q p.size f w refl a.0 a.1

digest_kept : (p q : Partial) → IsPartial p → with_digest p ≡ Ok q → IsPartial q
unfolding with_digest
digest_kept p q w h =
    let next = record p { digest = true; depth = 0 } in
    let a = passed (is_some p.size && not p.digest) faults.Order (Ok next) q h in
    subst IsPartial (ok_same next q (Ok next) a.1 refl) (record {
      some = w.some;
      none = w.none;
      fields = w.fields;
      few = w.few;
      levels = omega arith;
      shown = λ e. absurd cc;
      shows = w.shows;
    })

root_kept : (p q : Partial) (n : ℕ) → IsPartial p → with_root p n ≡ Ok q → IsPartial q
unfolding with_root
root_kept p q n w h =
    let next = record p { digest = true; depth = n } in
    let last = if nat_le 1 n && nat_le n most_levels then Ok next else Err faults.Limit in
    let a = refused (not (is_some p.size) || p.digest) faults.Order last q h in
    let b = passed (nat_le 1 n && nat_le n most_levels) faults.Limit (Ok next) q a.1 in
    let t = parts (nat_le 1 n) (nat_le n most_levels) b.0 in
    subst IsPartial (ok_same next q (Ok next) b.1 refl) (record {
      some = w.some;
      none = w.none;
      fields = w.fields;
      few = w.few;
      levels = leb-true n most_levels t.1;
      shown = λ e. absurd cc;
      shows = w.shows;
    })

claim_kept : (p q : Partial) (k : ℕ) (o : Option RecordField) (claim : Claim) → IsPartial p → p.digest ≡ true → slice_get p.fields k ≡ o → with_claim p k o claim ≡ Ok q → IsPartial q
unfolding with_claim
claim_kept p q k None claim w behind at h = absurd cc
claim_kept p q k (Some f) said w behind at h =
    let claim = claim_for f.kind f.size said in
    let s : Show = record { field = k; claim = claim } in
    let next = record p { shows = p.shows ++ s ∷ [] } in
    let last = if nat_lt (length p.shows) most_shows then Ok next else Err faults.Limit in
    let a = refused (not (suits f claim)) faults.Claim last q h in
    let b = passed (nat_lt (length p.shows) most_shows) faults.Limit (Ok next) q a.1 in
    let is : IsShowOf p.fields s = (f, at, is_true (suits f claim) (not_true (suits f claim) a.0)) in
    subst IsPartial (ok_same next q (Ok next) b.1 refl) (record {
      some = w.some;
      none = w.none;
      fields = w.fields;
      few = omega (arith, ltb-true (length p.shows) most_shows b.0, length-append p.shows (s ∷ []));
      levels = w.levels;
      shown = λ e. absurd (let no : true ≡ false = sym behind ∙ e in cc);
      shows = all_behind (IsShowOf p.fields) p.shows s w.shows is;
    })

number_kept : (p q : Partial) (o : Option ℕ) (claim : Claim) → IsPartial p → p.digest ≡ true → with_number p o claim ≡ Ok q → IsPartial q
unfolding with_number
number_kept p q None claim w behind h = absurd cc
number_kept p q (Some k) claim w behind h = claim_kept p q k (slice_get p.fields k) claim w behind refl h

show_kept : (p q : Partial) (name : List ℕ) (claim : Claim) → IsPartial p → with_show p name claim ≡ Ok q → IsPartial q
unfolding with_show
show_kept p q name claim w h =
    let a = passed p.digest faults.Order (with_number p (field_number p.fields name) claim) q h in
    number_kept p q (field_number p.fields name) claim w a.0 a.1

said_kept : (p q : Partial) (line : Line) → IsPartial p → with_said p line ≡ Ok q → IsPartial q
said_kept p q (lines.Record n) w h = size_kept p q n w h
said_kept p q (lines.Field f) w h = field_kept p q f w h
said_kept p q lines.Digest w h = digest_kept p q w h
said_kept p q (lines.Under n) w h = root_kept p q n w h
said_kept p q (lines.Show name claim) w h = show_kept p q name claim w h

line_kept : (p q : Partial) (o : Option Line) → IsPartial p → with_line p o ≡ Ok q → IsPartial q
unfolding with_line
line_kept p q None w h = absurd cc
line_kept p q (Some line) w h = said_kept p q line w h

numbered : {A : Type 0} (n : ℕ) (r : Result A PolicyKind) (q : A) → at_line n r ≡ Ok q → r ≡ Ok q
numbered {A} n (Ok x) q h = let same : x ≡ q = cc in ap Ok same
numbered n (Err k) q h = absurd cc

bytes_cases : (b : Bool) (n : ℕ) (p q : Partial) (r : Result Partial PolicyKind) → IsPartial p → ((q : Partial) → r ≡ Ok q → IsPartial q) → (if b then Ok p else at_line n r) ≡ Ok q → IsPartial q
bytes_cases true n p q r w f h = subst IsPartial (ok_same p q (Ok p) h refl) w
bytes_cases false n p q r w f h = f q (numbered n r q h)

pub bytes_kept : (n : ℕ) (p q : Partial) (bytes : List ℕ) → IsPartial p → with_bytes n p bytes ≡ Ok q → IsPartial q
unfolding with_bytes
bytes_kept n p q bytes w h = bytes_cases (is_skipped bytes) n p q (with_line p (line_of bytes)) w (λ r e. line_kept p r (line_of bytes) w e) h

-- ---- the whole

pub is_policy : (p : Partial) (n : ℕ) → IsPartial p → p.size ≡ Some n → 1 ≤ length p.shows → IsPolicy (record { size = n; depth = p.depth; fields = p.fields; shows = p.shows })
is_policy p n w size some =
    let s = w.some n size in
    record { some = s.0; block = s.1; levels = w.levels; fields = s.2; shown = some; few = w.few; shows = w.shows }

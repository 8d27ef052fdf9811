-- Reading line after line takes exactly the texts that are lists of jobs.
use Rattle.std.proofs.Common.{◌≡◌, ◌⊎◌, ℕ, ◌+◌, ◌<◌, ◌≤◌, Bool, true, false, not, List, [], ◌∷◌, ◌++◌, length, length-append, map, Option, Some, None, Result, Ok, Err, refl, sym, ap, subst, ◌∙◌, inl, inr, append_assoc, append-nil, arith}
use Rattle.std.specs.Prelude.{filter, if◌then◌else◌, nat_lt}
use Rattle.std.proofs.lemmas.Bool.{cases_Bool, lt-ltb, ltb-true}
use Rattle.lzk_expr.specs.Texts.{lines}
use Rattle.lzk_batch.specs.declared.list_fault.ListKind.TheVariants.{Limit}
use Rattle.lzk_batch.specs.declared.list_fault.ListFault.{ListFault}
use Rattle.lzk_batch.specs.declared.list_fault.ListError.{ListError}
use Rattle.lzk_batch.specs.declared.list_fault.ListError.TheVariants as errors
use Rattle.lzk_batch.specs.Lists.{Listed, line_entry, is_skipped, with_line, one_more, if_read, entries_to, entries_of, ListText, IsFirstFault, most_entries, Fails, breaks}

abbrev kept : List (List ℕ) → List (List ℕ)
kept ls = filter (λ line. not (is_skipped line)) ls

-- what the jobs of the lines add to those that stand before
pub record Added (ls : List (List ℕ)) (have out : List Listed) : Type 0 where
  pub new : List Listed
  pub behind : out ≡ have ++ new
  pub jobs : map line_entry (kept ls) ≡ map Some new
  pub few : length out ≤ most_entries

read_parts : (w : Result (List Listed) ListFault) (f : List Listed → Result (List Listed) ListFault) (out : List Listed) → if_read w f ≡ Ok out → (more : List Listed) × (w ≡ Ok more) × (f more ≡ Ok out)
read_parts (Ok more) f out h = (more, refl, h)
read_parts (Err e) f out h = absurd cc

-- a line that was read was skipped, or there was room, and it has a job
taken : (s room : Bool) (o : Option Listed) (line : ℕ) (have more : List Listed) → (if s then Ok have else (if room then one_more line have o else breaks line Limit)) ≡ Ok more
    → ((s ≡ true) × (more ≡ have)) ⊎ ((e : Listed) × (s ≡ false) × (room ≡ true) × (o ≡ Some e) × (more ≡ have ++ e ∷ []))
taken true room o line have more h = inl (refl, cc)
taken false true None line have more h = absurd cc
taken false true (Some e) line have more h = inr (e, refl, refl, refl, cc)
taken false false o line have more h = absurd cc

kept_skipped : (l : List ℕ) (ls : List (List ℕ)) → is_skipped l ≡ true → kept (l ∷ ls) ≡ kept ls
kept_skipped l ls s = rw s refl

kept_more : (l : List ℕ) (ls : List (List ℕ)) → is_skipped l ≡ false → kept (l ∷ ls) ≡ l ∷ kept ls
kept_more l ls s = rw s refl

length_more : {A : Type 0} (xs : List A) (x : A) → length (xs ++ x ∷ []) ≡ length xs + 1
length_more xs x = length-append xs (x ∷ [])

added_one : (l : List ℕ) (ls : List (List ℕ)) (have more out : List Listed) (e : Listed) → is_skipped l ≡ false → line_entry l ≡ Some e → more ≡ have ++ e ∷ [] → Added ls more out → Added (l ∷ ls) have out
added_one l ls have more out e s is put a = record {
  new = e ∷ a.new;
  behind = a.behind ∙ (ap (λ m. m ++ a.new) put ∙ append_assoc have (e ∷ []) a.new);
  jobs = ap (map line_entry) (kept_more l ls s) ∙ (ap (λ o. o ∷ map line_entry (kept ls)) is ∙ ap (λ os. Some e ∷ os) a.jobs);
  few = a.few;
}

read_added : (line : ℕ) (ls : List (List ℕ)) (have out : List Listed) → length have ≤ most_entries → entries_to line ls have ≡ Ok out → Added ls have out
unfolding entries_to
read_added line [] have out few h =
    let same : have ≡ out = cc in
    record { new = []; behind = sym same ∙ sym (append-nil have); jobs = refl; few = subst (λ xs. length xs ≤ most_entries) same few }
read_added line (l ∷ ls) have out few h =
    let parts = read_parts (with_line line l have) (λ more. entries_to (line + 1) ls more) out h in
    let more = parts.0 in
    elim (taken (is_skipped l) (nat_lt (length have) most_entries) (line_entry l) line have more parts.1) [
      | inl s ↦
          let rest = read_added (line + 1) ls more out (subst (λ xs. length xs ≤ most_entries) (sym s.1) few) parts.2 in
          record {
            new = rest.new;
            behind = rest.behind ∙ ap (λ m. m ++ rest.new) s.1;
            jobs = ap (map line_entry) (kept_skipped l ls s.0) ∙ rest.jobs;
            few = rest.few;
          }
      | inr t ↦
          let e = t.0 in
          let room : length have < most_entries = ltb-true (length have) most_entries t.2 in
          let long : length more ≡ length have + 1 = ap length t.4 ∙ length_more have e in
          added_one l ls have more out e t.1 t.3 t.4 (read_added (line + 1) ls more out (omega (arith, long, room)) parts.2)
    ]

-- texts that were read are lists of their jobs
pub list_text : (text : List ℕ) (entries : List Listed) → entries_of text ≡ Ok entries → ListText text entries
unfolding entries_of
list_text text entries h =
    let a = read_added 1 (lines text) [] entries (omega arith) h in
    record { jobs = a.jobs ∙ ap (map Some) (sym a.behind); few = a.few }

skips : (line : ℕ) (l : List ℕ) (have : List Listed) → is_skipped l ≡ true → with_line line l have ≡ Ok have
skips line l have s = rw s refl

takes : (line : ℕ) (l : List ℕ) (have : List Listed) (e : Listed) → is_skipped l ≡ false → length have < most_entries → line_entry l ≡ Some e → with_line line l have ≡ Ok (have ++ e ∷ [])
takes line l have e s room is = rw (s, lt-ltb (length have) most_entries room, is) refl

first_is : (o : Option Listed) (os : List (Option Listed)) (new : List Listed) → o ∷ os ≡ map Some new → (e : Listed) × (rest : List Listed) × (new ≡ e ∷ rest) × (o ≡ Some e) × (os ≡ map Some rest)
first_is o os [] h = absurd cc
first_is o os (e ∷ rest) h = (e, rest, refl, cc, cc)

added_read : (line : ℕ) (ls : List (List ℕ)) (have new : List Listed) → map line_entry (kept ls) ≡ map Some new → length (have ++ new) ≤ most_entries → entries_to line ls have ≡ Ok (have ++ new)
unfolding entries_to
added_read line [] have [] is few = ap Ok (sym (append-nil have))
added_read line [] have (e ∷ new) is few = absurd cc
added_read line (l ∷ ls) have new is few = elim (cases_Bool (is_skipped l)) [
  | inl s ↦
      ap (λ w. if_read w (λ more. entries_to (line + 1) ls more)) (skips line l have s)
      ∙ added_read (line + 1) ls have new (ap (map line_entry) (sym (kept_skipped l ls s)) ∙ is) few
  | inr s ↦
      let f = first_is (line_entry l) (map line_entry (kept ls)) new (ap (map line_entry) (sym (kept_more l ls s)) ∙ is) in
      let e = f.0 in
      let whole : have ++ new ≡ (have ++ e ∷ []) ++ f.1 = ap (λ n. have ++ n) f.2 ∙ sym (append_assoc have (e ∷ []) f.1) in
      let long : length ((have ++ e ∷ []) ++ f.1) ≡ length have + 1 + length f.1 = length-append (have ++ e ∷ []) f.1 ∙ ap (λ n. n + length f.1) (length_more have e) in
      let room : length have < most_entries = omega (arith, few, ap length whole, long) in
      ap (λ w. if_read w (λ more. entries_to (line + 1) ls more)) (takes line l have e s room f.3)
      ∙ (added_read (line + 1) ls (have ++ e ∷ []) f.1 f.4 (subst (λ xs. length xs ≤ most_entries) whole few) ∙ ap Ok (sym whole))
]

pub list_read : (text : List ℕ) (entries : List Listed) → ListText text entries → entries_of text ≡ Ok entries
unfolding entries_of
list_read text entries h = added_read 1 (lines text) [] entries h.jobs h.few

-- a list of jobs has no fault
pub only_memory : (text : List ℕ) (entries : List Listed) (e : ListError) → ListText text entries → Fails e (entries_of text) → e ≡ errors.OutOfMemory
only_memory text entries errors.OutOfMemory h fails = refl
only_memory text entries (errors.Fault f) h fails = let read = list_read text entries h in absurd cc

pub first_fault : (text : List ℕ) (e : ListError) → Fails e (entries_of text) → IsFirstFault text e
first_fault text errors.OutOfMemory h = tt
first_fault text (errors.Fault f) h = h

pub ok_same : (text : List ℕ) (a b : List Listed) → entries_of text ≡ Ok a → entries_of text ≡ Ok b → a ≡ b
ok_same text a b x y = cc (sym x ∙ y)

-- The exits of a batch.
use Rattle.std.proofs.Common.{◌≡◌, ◌+◌, ◌*◌, ◌≤◌, inl, ℕ, Bool, true, false, List, [], ◌∷◌, length, map, Option, Some, None, Result, Ok, Err, refl, sym, ◌∙◌, subst, arith, lit≤}
use Rattle.std.specs.Prelude.{◌==◌, All, IfOk, Vec, cond, codes, nat_le}
use Rattle.std.specs.Str.{is_utf8}
use Rattle.std.specs.declared.alloc.Global.{Global}
use Rattle.std.specs.Result.{IsErrAnd}
use Rattle.std.proofs.lemmas.Bool.{leb-true}
use Rattle.std.proofs.lemmas.List.{length-map}
use Rattle.std.proofs.lemmas.List.Elements.{All-nil, All-cons}
use Rattle.hex.specs.declared.error.FromHexError.{FromHexError}
use Rattle.hex.specs.Hex.{decode_of}
use Rattle.hex.proofs.HexLemmas.{decode_of-ok}
use Rattle.lzk_expr.specs.Texts.{runs, is_plain}
use Rattle.lzk_batch.specs.declared.entry.Entry.{Entry}
use Rattle.lzk_batch.specs.Lists.{Listed, listed, behind, and_then, if_ok, session_bytes, session_of, entry_of, line_entry, entry_view}
use Rattle.lzk_outside.specs.Outside.{Files}
use Rattle.lzk_cmd_files.specs.declared.ending.Ending.{Ending}
use Rattle.lzk_cmd_files.specs.declared.ending.Halt.{Halt}
use Rattle.lzk_cmd_files.specs.declared.ending.Halt.TheVariants as halts
use Rattle.lzk_cmd_batch.specs.declared.gathering.Gathered.{Gathered}
use Rattle.lzk_cmd_batch.specs.Batched.{JobsRun, BatchRun, list_files, rejected_of, batch_end}
use Rattle.lzk_cmd_files.specs.Ends.{End, Stop, Nowhere}
use Rattle.lzk_cmd_batch.specs.Gathered.{IsShort, HasReadAll, GivesJobs, TellsJobs}
use Rattle.lzk_cmd_files.specs.Seen.{Seen}
use Rattle.lzk_cmd_files.specs.Walks.{OnlyReads, Decodes, Gives, Settled, Walks}
use Rattle.lzk_cmd_files.proofs.Causes.{IsQuiet}
use Rattle.lzk_cmd_batch.proofs.Lists as lists
use Rattle.lzk_cmd_files.proofs.Sights.{where_told, at_told}
use Rattle.lzk_cmd_files.proofs.Steps.{handed_on, here, ends, then}
use Rattle.lzk_cmd_batch.proofs.Tells.{none_left}

-- ---- a session of a list has at most 64 bytes

some_is : {A : Type 0} (x y : A) → Some x ≡ Some y → x ≡ y
some_is x y e = cc

few_bytes : (digits : List ℕ) (read : Result (List ℕ) FromHexError) (few : Bool) (session : List ℕ) → decode_of digits ≡ read → nat_le (length digits) 128 ≡ few → cond few (if_ok read) None ≡ Some session → length session ≤ 64
few_bytes digits (Ok bytes) true session is fits e =
    let long : length digits ≡ 2 * length bytes = (decode_of-ok digits bytes is).2 in
    let few : length digits ≤ 128 = leb-true (length digits) 128 fits in
    subst (λ s. length s ≤ 64) (some_is bytes session e) (omega (arith, long, few))
few_bytes digits (Err fault) true session is fits e = absurd cc
few_bytes digits read false session is fits e = absurd cc

short_session : (others : List (List ℕ)) (session : List ℕ) → session_of others ≡ Some session → length session ≤ 64
short_session [] session e = subst (λ s. length s ≤ 64) (some_is [] session e) (lit≤ tt)
short_session (word ∷ []) session e = go (behind (codes "session=") word) e
  where
    go : (digits : Option (List ℕ)) → and_then digits session_bytes ≡ Some session → length session ≤ 64
    go (Some digits) e = few_bytes digits (decode_of digits) (nat_le (length digits) 128) session refl refl e
    go None e = absurd cc
short_session (word ∷ other ∷ others) session e = absurd cc

short_entry : (words : List (List ℕ)) (entry : Listed) → entry_of words ≡ Some entry → IsShort entry
short_entry [] entry e = absurd cc
short_entry (a ∷ []) entry e = absurd cc
short_entry (a ∷ b ∷ []) entry e = absurd cc
short_entry (a ∷ b ∷ c ∷ others) entry e = go (session_of others) refl e
  where
    go : (session : Option (List ℕ)) → session_of others ≡ session → and_then session (λ s. Some (listed a b c s)) ≡ Some entry → IsShort entry
    go (Some s) is e = subst IsShort (some_is (listed a b c s) entry e) (short_session others s is)
    go None is e = absurd cc

short_line : (line : List ℕ) (entry : Listed) → line_entry line ≡ Some entry → IsShort entry
unfolding line_entry
short_line line entry e = go (is_utf8 line) e
  where
    go : (good : Bool) → cond good (entry_of (runs is_plain line)) None ≡ Some entry → IsShort entry
    go true e = short_entry (runs is_plain line) entry e
    go false e = absurd cc

short_lines : (ls : List (List ℕ)) (entries : List Listed) → map line_entry ls ≡ map Some entries → All IsShort entries
short_lines [] [] e = All-nil IsShort
short_lines [] (x ∷ xs) e = absurd cc
short_lines (l ∷ ls) [] e = absurd cc
short_lines (l ∷ ls) (x ∷ xs) e =
    let first : line_entry l ≡ Some x = cc in
    let rest : map line_entry ls ≡ map Some xs = cc in
    All-cons IsShort x xs (short_line l x first) (short_lines ls xs rest)

-- the jobs of a list, as they were read
abbrev pub jobs_of : Vec Entry Global → List Listed
jobs_of v = map entry_view v.items

pub all_short : (name text : List ℕ) (r : Result (Vec Entry Global) Halt) → Decodes list_files jobs_of name text r → IfOk r (λ v. All IsShort (jobs_of v))
all_short name text (Ok v) h = short_lines _ (jobs_of v) h.jobs
all_short name text (Err e) h = tt

pub few_jobs : (name text : List ℕ) (r : Result (Vec Entry Global) Halt) → Decodes list_files jobs_of name text r → IfOk r (λ v. length v.items ≤ 256)
few_jobs name text (Ok v) h = subst (λ n. n ≤ 256) (length-map v.items entry_view) h.few
few_jobs name text (Err e) h = tt

-- ---- the walk

batch_quiet : (all : List End) → IsQuiet (batch_end all)
batch_quiet all = record { put = refl; present = refl; cause = inl (go (rejected_of all == 0)) }
  where
    go : (none : Bool) → cond none 0 1 ≤ 1
    go true = lit≤ tt
    go false = lit≤ tt

-- the walk that has the list
abbrev AtJobs : Files → Stop → End → List Listed → Type 0
AtJobs files stop end entries = JobsRun entries 1 0 [] files stop end

module _ (list : List ℕ) (old : Seen) where
  pub no_list : (new : Seen) (h : Halt) (r : Result Ending Halt) → OnlyReads old new → Gives list_files jobs_of old new list (Err h) → IsErrAnd r (λ y. y ≡ h) → Walks (BatchRun list) 0 old new r
  unfolding BatchRun
  no_list new h r reads gives is = ends list_files jobs_of list 0 AtJobs ⊥ old new h r (lists.quiet list) reads gives is

  module _ (mid new : Seen) (v : Vec Entry Global) (reads : OnlyReads old mid) (gives : Gives list_files jobs_of old mid list (Ok v)) (more : OnlyReads mid new) where
    behind_list : (r : Result Ending Halt) → Walks (JobsRun (jobs_of v) 1 0 []) 1 mid new r → Walks (BatchRun list) 0 old new r
    unfolding BatchRun
    behind_list r rest = then list_files jobs_of list 0 AtJobs ⊥ old mid new v r reads gives rest

    pub no_jobs : (given : List Listed) (h : Halt) (r : Result Ending Halt) → given ≡ jobs_of v → GivesJobs mid new given (Err h) → IsErrAnd r (λ y. y ≡ h) → Walks (BatchRun list) 0 old new r
    no_jobs given h r same jobs is = behind_list r (handed_on (Walks (JobsRun (jobs_of v) 1 0 []) 1 mid new) r h is (go h (subst (λ xs. GivesJobs mid new xs (Err h)) same jobs)))
      where
        go : (h : Halt) → GivesJobs mid new (jobs_of v) (Err h) → Walks (JobsRun (jobs_of v) 1 0 []) 1 mid new (Err h)
        go halts.Memory g = where_told mid.files _ (λ f at. more.files ∙ at)
        go (halts.End e) g = g

    pub no_memory : (r : Result Ending Halt) → IsErrAnd r (λ y. y ≡ halts.Memory) → Walks (BatchRun list) 0 old new r
    no_memory r is = behind_list r (handed_on (Walks (JobsRun (jobs_of v) 1 0 []) 1 mid new) r halts.Memory is (where_told mid.files _ (λ f at. more.files ∙ at)))

    pub tells : (given : List Listed) (g : Gathered) (e : Ending) → given ≡ jobs_of v → HasReadAll mid.files given g → TellsJobs g e → Walks (BatchRun list) 0 old new (Ok e)
    tells given g e same read told = behind_list (Ok e) (go (jobs_of v) (subst (λ xs. HasReadAll mid.files xs g) same read))
      where
        go : (entries : List Listed) → HasReadAll mid.files entries g → Settled (JobsRun entries 1 0 []) 1 ⊥ ⊥ mid new e
        go entries read =
            let all = told read.all.reads read.all.held in
            here (JobsRun entries 1 0 []) 1 ⊥ mid new (batch_end all.0) e more (batch_quiet all.0) all.2 (λ f at.
            at_told mid.files _ f at read.all.leads Nowhere (batch_end all.0) (λ j less. refl)
            (subst (λ xs. JobsRun xs (1 + 3 * length entries) read.taken read.all.reads f Nowhere (batch_end all.0)) (sym (none_left entries)) (all.0, all.1, refl)))

-- The steps of a run: it ends at a file, or goes on; and what was seen since an earlier sight.
use Rattle.std.proofs.Common.{◌≡◌, ◌≤◌, ℕ, List, Option, Result, Ok, Err, inl, inr, subst, ◌∙◌, arith}
use Rattle.std.specs.Prelude.{IfSome, string_bytes}
use Rattle.std.specs.Result.{IsErrAnd}
use Rattle.lzk_outside.specs.Outside.{Files, Holds, Torn}
use Rattle.lzk_cmd_files.specs.declared.ending.Ending.{Ending}
use Rattle.lzk_cmd_files.specs.declared.ending.Halt.{Halt}
use Rattle.lzk_cmd_files.specs.declared.ending.Halt.TheVariants as halts
use Rattle.lzk_cmd_files.specs.Ends.{End}
use Rattle.lzk_cmd_files.specs.Formats.{Format}
use Rattle.lzk_cmd_files.specs.Seen.{Seen, SeenSink}
use Rattle.lzk_cmd_files.specs.Walks.{OnlyReads, IsEnding, Gives, Prints, Concludes}
use Rattle.lzk_cmd_files.proofs.Sights.{read_later, put_later, missed_later}
use Rattle.lzk_cmd_files.proofs.Steps.{handed_on}
use Rattle.lzk_credential_run.specs.Ends.{Way, Says, Unread, Behind, Reads, PutsFile, Settles, NothingPut}

-- a way between two sights is one since an earlier sight, where only reads lie between
abbrev pub IsLate : Way → Type 0
IsLate way = (old mid new : Seen) (e : Ending) → OnlyReads old mid → way mid new e → way old new e

pub says_later : (end : End) → IsLate (Says end)
says_later end old mid new e first h = (h.0, h.1 ∙ first.files)

pub told_later : (old mid : Seen) (P : Files → Type 0) → OnlyReads old mid → IfSome mid.files P → IfSome old.files P
told_later old mid P first h = subst (λ (f : Option Files). IfSome f P) first.files h

unread_later : (limit : ℕ) (name : List ℕ) → IsLate (Unread limit name)
unread_later limit name old mid new e first (inl h, same) = (inl (read_later old mid new first h.0, h.1), same ∙ first.files)
unread_later limit name old mid new e first (inr (inl h), same) =
    (inr (inl (missed_later old mid new first h.0, told_later old mid _ first h.1, h.2)), same ∙ first.files)
unread_later limit name old mid new e first (inr (inr h), same) = (inr (inr (told_later old mid _ first h.0, h.1)), same ∙ first.files)

pub puts_later : (name bytes text : List ℕ) → IsLate (PutsFile name bytes text)
puts_later name bytes text old mid new e first (inl h) = inl (subst (λ (f : Option Files). Holds f name bytes new.files) first.files h.0, h.1)
puts_later name bytes text old mid new e first (inr h) =
    inr (put_later old mid new first h.0, subst (λ (f : Option Files). Torn f name bytes new.files) first.files h.1, h.2)

module _ {X F : Type 0} (format : Format X F) (name : List ℕ) (next : X → Way) where
  behind_later : ((x : X) → IsLate (next x)) → (bytes : List ℕ) → IsLate (Behind format name bytes next)
  behind_later late bytes old mid new e first (inl (fault, breaks, says)) = inl (fault, breaks, says_later (format.refused name fault) old mid new e first says)
  behind_later late bytes old mid new e first (inr (x, means, more)) = inr (x, means, late x old mid new e first more)

  pub reads_later : ((x : X) → IsLate (next x)) → IsLate (Reads format name next)
  reads_later late old mid new e first (inl h) = inl (unread_later format.limit name old mid new e first h)
  reads_later late old mid new e first (inr (bytes, has, h)) =
      inr (bytes, told_later old mid _ first has, behind_later late bytes old mid new e first h)

  module _ {R : Type 0} (view : R → X) (wants : Seen → Seen → Type 0) where
    -- the run ends at the file, or at its bytes
    pub ended : (old new : Seen) (h : Halt) (r : Result Ending Halt) → wants old new → OnlyReads old new → Gives format view old new name (Err h) → IsErrAnd r (λ y. y ≡ h) → Settles (Reads format name next) wants old new r
    ended old new h r want reads gives is = handed_on (Settles (Reads format name next) wants old new) r h is (go h gives)
      where
        go : (h : Halt) → Gives format view old new name (Err h) → Settles (Reads format name next) wants old new (Err h)
        go halts.Memory a = want
        go (halts.End e) (inl a) = inl (a, reads.files)
        go (halts.End e) (inr (bytes, has, fault, breaks, is)) = inr (bytes, has, inl (fault, breaks, (is, reads.files)))

    -- the run goes on with what the bytes mean
    pub goes_on : (old mid new : Seen) (x : R) (r : Result Ending Halt) → OnlyReads old mid → Gives format view old mid name (Ok x) → IsLate (next (view x)) → (wants mid new → wants old new)
        → Settles (next (view x)) wants mid new r → Settles (Reads format name next) wants old new r
    goes_on old mid new x r reads gives late want rest = go r rest
      where
        go : (r : Result Ending Halt) → Settles (next (view x)) wants mid new r → Settles (Reads format name next) wants old new r
        go (Ok e) h = inr (gives.0, gives.1, inr (view x, gives.2, late old mid new e reads h))
        go (Err halts.Memory) h = want h
        go (Err (halts.End e)) h = inr (gives.0, gives.1, inr (view x, gives.2, late old mid new e reads h))

-- nothing is put since an earlier sight
pub nothing_later : (old mid new : Seen) → OnlyReads old mid → NothingPut mid new → NothingPut old new
nothing_later old mid new first h = h ∙ first.files

-- there was no memory, and nothing was put
pub no_memory : (way : Way) (old new : Seen) (r : Result Ending Halt) → NothingPut old new → IsErrAnd r (λ y. y ≡ halts.Memory) → Settles way NothingPut old new r
no_memory way old new r same is = handed_on (Settles way NothingPut old new) r halts.Memory is same

-- the run says this, behind reads alone
pub says : (end : End) (old new : Seen) (e : Ending) → OnlyReads old new → IsEnding end e → Says end old new e
says end old new e reads is = (is, reads.files)

-- ---- statuses

-- a way ends with a status of at most 5
abbrev pub IsSmall : Way → Type 0
IsSmall way = (old new : Seen) (e : Ending) → way old new e → e.status ≤ 5

pub says_small : (end : End) → end.status ≤ 5 → IsSmall (Says end)
says_small end few old new e h = let is = h.0.status in omega (arith, few, is)

unread_small : (limit : ℕ) (name : List ℕ) → IsSmall (Unread limit name)
unread_small limit name old new e (inl h, same) = let is = h.1.status in omega (arith, is)
unread_small limit name old new e (inr (inl h), same) = let is = h.2.status in omega (arith, is)
unread_small limit name old new e (inr (inr h), same) = let is = h.1.status in omega (arith, is)

pub puts_small : (name bytes text : List ℕ) → IsSmall (PutsFile name bytes text)
puts_small name bytes text old new e (inl h) = let is = h.1.status in omega (arith, is)
puts_small name bytes text old new e (inr h) = let is = h.2.status in omega (arith, is)

pub reads_small : {X F : Type 0} (format : Format X F) (name : List ℕ) (next : X → Way) → ((fault : F) → (format.refused name fault).status ≤ 5) → ((x : X) → IsSmall (next x)) → IsSmall (Reads format name next)
reads_small format name next few small old new e (inl h) = unread_small format.limit name old new e h
reads_small format name next few small old new e (inr (bytes, has, inl (fault, breaks, says))) = says_small (format.refused name fault) (few fault) old new e says
reads_small format name next few small old new e (inr (bytes, has, inr (x, means, more))) = small x old new e more

-- what is printed of such an end answers a status of at most 6
printed_small : (e : Ending) (before after : SeenSink) (status : ℕ) → Prints before after e.status (string_bytes e.text) status → e.status ≤ 5 → status ≤ 6
printed_small e before after status (inl h) few = let is = h.0 in omega (arith, is, few)
printed_small e before after status (inr (inl h)) few = let is = h.0 in omega (arith, is)
printed_small e before after status (inr (inr h)) few = let is = h.0 in omega (arith, is)

pub concluded : (way : Way) (wants : Seen → Seen → Type 0) (old new : Seen) (before after : SeenSink) (done : Result Ending Halt) (status : ℕ) → IsSmall way → Settles way wants old new done → Concludes before after done status → status ≤ 6
concluded way wants old new before after (Ok e) status small h printed = printed_small e before after status printed (small old new e h)
concluded way wants old new before after (Err halts.Memory) status small h printed = let is = printed.0 in omega (arith, is)
concluded way wants old new before after (Err (halts.End e)) status small h printed = printed_small e before after status printed (small old new e h)

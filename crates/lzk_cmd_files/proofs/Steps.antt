-- One step of a walk: it ends at its file, or goes on.
use Rattle.std.proofs.Common.{◌≡◌, ◌+◌, inl, inr, ℕ, false, List, length, Option, Some, None, Result, Ok, Err, refl, sym, ap, subst, ◌∙◌, arith}
use Rattle.std.specs.Option.{IsSomeAnd}
use Rattle.std.specs.Result.{IsErrAnd}
use Rattle.std.proofs.lemmas.Bool.{le-ltb, lt-ltb, ne_eqb, eq-eqb}
use Rattle.std.proofs.lemmas.Result.{err_from_is_err_and}
use Rattle.lzk_outside.specs.Outside.{Files}
use Rattle.lzk_cmd_files.specs.declared.ending.Ending.{Ending}
use Rattle.lzk_cmd_files.specs.declared.ending.Halt.{Halt}
use Rattle.lzk_cmd_files.specs.declared.ending.Halt.TheVariants as halts
use Rattle.lzk_cmd_files.specs.Ends.{End, Stop, Nowhere, AtRead, AtPut, stops_at, says, missing_file, puts, Leaves}
use Rattle.lzk_cmd_files.specs.Formats.{Format, HasFile, AtBytes, At}
use Rattle.lzk_cmd_files.specs.Lines.{reading_line, larger_line}
use Rattle.lzk_cmd_files.specs.Seen.{Seen}
use Rattle.lzk_cmd_files.specs.Walks.{OnlyReads, IsEnding, HasBytes, FileEnds, GivesBytes, Decodes, Gives, Settled, Settles, Puts, WalksToPut}
use Rattle.lzk_cmd_files.proofs.Causes.{IsQuiet, quiet_cause, reading_cause, missing_cause, larger_quiet, put_cause, cause_later}
use Rattle.lzk_cmd_files.proofs.Sights.{where_told, at_told, may_later}

some_and : (o : Option (List ℕ)) (P : List ℕ → Type 0) → IsSomeAnd o P → (x : List ℕ) × (o ≡ Some x) × P x
some_and None P h = elim h [ ]
some_and (Some x) P h = (x, refl, h)

-- an error that was handed on
pub handed_on : {X Y : Type 0} (P : Result X Y → Type 0) (r : Result X Y) (h : Y) → IsErrAnd r (λ y. y ≡ h) → P (Err h) → P r
handed_on P r h is told = let p = err_from_is_err_and r is in subst P (sym (p.1 ∙ ap Err p.2)) told

-- an end that needs nothing of the outside, behind reads alone
pub here : (tail : Files → Stop → End → Type 0) (k : ℕ) (p : Type 0) (old new : Seen) (end : End) (e : Ending) → OnlyReads old new → IsQuiet end → IsEnding end e → ((f : Files) → old.files ≡ Some f → tail f Nowhere end)
    → Settled tail k ⊥ p old new e
here tail k p old new end e reads quiet is told = record {
  stop = Nowhere;
  end = end;
  may = tt;
  far = λ j l. refl;
  is = is;
  told = where_told old.files _ (λ f at. (told f at, subst (λ (put : Option (List ℕ × List ℕ)). Leaves f Nowhere put new.files) (sym quiet.put) (reads.files ∙ at)));
  cause = quiet_cause p old new end quiet;
}

-- an end at a put
pub at_put : (tail : Files → Stop → End → Type 0) (k : ℕ) (name bytes text : List ℕ) (old new : Seen) (r : Result Ending Halt) → ((files : Files) (stop : Stop) → tail files stop (puts stop name bytes text)) → Puts name bytes text old new r
    → WalksToPut tail k old new r
at_put tail k name bytes text old new (Ok e) ends (inl h) = record {
  stop = Nowhere;
  end = puts Nowhere name bytes text;
  may = tt;
  far = λ j l. refl;
  is = h.1;
  told = where_told old.files _ (λ f at. (ends f Nowhere, rw at at h.0));
  cause = put_cause old new Nowhere name bytes text tt;
}
at_put tail k name bytes text old new (Ok e) ends (inr h) = record {
  stop = AtPut;
  end = puts AtPut name bytes text;
  may = h.0;
  far = λ j l. refl;
  is = h.2;
  told = where_told old.files _ (λ f at. (ends f AtPut, rw at at h.1));
  cause = put_cause old new AtPut name bytes text h.0;
}
at_put tail k name bytes text old new (Err halts.Memory) ends h = where_told old.files _ (λ f at. h ∙ at)
at_put tail k name bytes text old new (Err (halts.End e)) ends h = absurd h

module _ {X F R : Type 0} (format : Format X F) (view : R → X) (name : List ℕ) (k : ℕ) (next : Files → Stop → End → X → Type 0) (p : Type 0) where
  abbrev Whole : Files → Stop → End → Type 0
  Whole files stop end = At format files stop k name end (next files stop end)

  file_ends : (old new : Seen) (e : Ending) → OnlyReads old new → FileEnds old new name format.limit e → Settled Whole k ⊥ p old new e
  file_ends old new e reads (inl h) = record {
    stop = AtRead k;
    end = says 4 (reading_line name);
    may = h.0;
    far = λ j l. ne_eqb k j (λ same. omega arith);
    is = h.1;
    told = where_told old.files _ (λ f at. (rw (eq-eqb k k refl) refl, reads.files ∙ at));
    cause = reading_cause p old new name h.0;
  }
  file_ends old new e reads (inr (inl h)) = record {
    stop = Nowhere;
    end = missing_file name;
    may = tt;
    far = λ j l. refl;
    is = h.2;
    told = where_told old.files _ (λ f at. (rw (at_told old.files _ f at h.1) refl, reads.files ∙ at));
    cause = missing_cause p old new name h.0;
  }
  file_ends old new e reads (inr (inr h)) =
      here Whole k p old new (says 3 (larger_line name format.limit)) e reads (larger_quiet p old new name format.limit) h.1 (λ f at.
      let b = some_and (f name) _ (at_told old.files _ f at h.0) in
      rw (b.1, lt-ltb format.limit (length b.0) b.2) refl)

  file_then : (files : Files) (stop : Stop) (end : End) (bytes : List ℕ) → stops_at stop k ≡ false → HasFile (files name) format.limit bytes → AtBytes format name bytes end (next files stop end) → Whole files stop end
  file_then files stop end bytes far f h = rw (far, f.there, le-ltb format.limit (length bytes) f.fits) h

  -- the walk ends at the file, or at its bytes
  pub ends : (old new : Seen) (h : Halt) (r : Result Ending Halt) → ((fault : F) → IsQuiet (format.refused name fault)) → OnlyReads old new → Gives format view old new name (Err h) → IsErrAnd r (λ y. y ≡ h)
      → Settles Whole k ⊥ p old new r
  ends old new h r quiet reads gives is = handed_on (Settles Whole k ⊥ p old new) r h is (go h gives)
    where
      go : (h : Halt) → Gives format view old new name (Err h) → Settles Whole k ⊥ p old new (Err h)
      go halts.Memory a = where_told old.files _ (λ f at. reads.files ∙ at)
      go (halts.End e) (inl a) = file_ends old new e reads a
      go (halts.End e) (inr (bytes, has, fault, breaks, ends)) =
          here Whole k p old new (format.refused name fault) e reads (quiet fault) ends (λ f at. file_then f Nowhere (format.refused name fault) bytes refl (at_told old.files _ f at has) (inr (fault, breaks, refl)))

  -- the walk goes on with what the bytes mean
  pub then : (old mid new : Seen) (x : R) (r : Result Ending Halt) → OnlyReads old mid → Gives format view old mid name (Ok x) → Settles (λ files stop end. next files stop end (view x)) (k + 1) ⊥ p mid new r
      → Settles Whole k ⊥ p old new r
  then old mid new x r reads gives rest = go r rest
    where
      settled : (e : Ending) → Settled (λ files stop end. next files stop end (view x)) (k + 1) ⊥ p mid new e → Settled Whole k ⊥ p old new e
      settled e h = record {
        stop = h.stop;
        end = h.end;
        may = may_later old mid new reads h.stop h.may;
        far = λ j l. h.far j (omega arith);
        is = h.is;
        told = where_told old.files _ (λ f at.
            let behind = at_told mid.files _ f (reads.files ∙ at) h.told in
            (file_then f h.stop h.end gives.0 (h.far k (omega arith)) (at_told old.files _ f at gives.1) (inl (view x, gives.2, behind.0)), behind.1));
        cause = cause_later old mid new ⊥ p h.end reads h.cause;
      }

      go : (r : Result Ending Halt) → Settles (λ files stop end. next files stop end (view x)) (k + 1) ⊥ p mid new r → Settles Whole k ⊥ p old new r
      go (Ok e) h = settled e h
      go (Err halts.Memory) h = where_told old.files _ (λ f at. at_told mid.files _ f (reads.files ∙ at) h)
      go (Err (halts.End e)) h = settled e h

-- what is refused is so whatever would have been given
pub still_refused : {X F R S : Type 0} (format : Format X F) (view : R → X) (other : S → X) (name bytes : List ℕ) (h : Halt) → Decodes format view name bytes (Err h) → Decodes format other name bytes (Err h)
still_refused format view other name bytes halts.Memory broken = tt
still_refused format view other name bytes (halts.End e) broken = broken

-- a step over a file, by its two parts
module _ {X F R : Type 0} (format : Format X F) (view : R → X) (name : List ℕ) (old new : Seen) (r : Result R Halt) where
  pub no_bytes : (h : Halt) → GivesBytes old new name format.limit (Err h) → IsErrAnd r (λ y. y ≡ h) → Gives format view old new name r
  no_bytes h a is = handed_on (Gives format view old new name) r h is (go h a)
    where
      go : (h : Halt) → GivesBytes old new name format.limit (Err h) → Gives format view old new name (Err h)
      go halts.Memory a = tt
      go (halts.End e) a = inl a

  pub decoded : (bytes given : List ℕ) → given ≡ bytes → HasBytes old name format.limit bytes → Decodes format view name given r → Gives format view old new name r
  decoded bytes given same has h = go r (subst (λ b. Decodes format view name b r) same h)
    where
      go : (r : Result R Halt) → Decodes format view name bytes r → Gives format view old new name r
      go (Ok x) h = (bytes, has, h)
      go (Err halts.Memory) h = tt
      go (Err (halts.End e)) h = inr (bytes, has, h.0, h.1, h.2)

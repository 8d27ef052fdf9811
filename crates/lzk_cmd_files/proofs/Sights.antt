-- What happened since an earlier sight of a shelf.
use Rattle.std.proofs.Common.{◌≡◌, ℕ, ◌≤◌, Option, Some, None, refl, sym, subst, ◌∙◌, arith}
use Rattle.std.specs.Prelude.{IfSome}
use Rattle.lzk_outside.specs.Outside.{Rose}
use Rattle.lzk_cmd_files.specs.Ends.{Stop, Nowhere, AtRead, AtPut, MayStop}
use Rattle.lzk_cmd_files.specs.Seen.{Seen, ReadFailed, PutFailed, Missed}
use Rattle.lzk_cmd_files.specs.Walks.{Moves, OnlyReads}

-- what is to show where contents are told
pub where_told : {A : Type 0} (o : Option A) (P : A → Type 0) → ((x : A) → o ≡ Some x → P x) → IfSome o P
where_told None P h = tt
where_told (Some x) P h = h x refl

-- what is shown of them, at those that are told
pub at_told : {A : Type 0} (o : Option A) (P : A → Type 0) (x : A) → o ≡ Some x → IfSome o P → P x
at_told o P x is h = subst (λ y. IfSome y P) is h

pub no_step : (s : Seen) → OnlyReads s s
no_step s = record { files = refl; puts = refl; reads = omega arith; misses = omega arith; never = refl; uncounted = λ h. refl }

pub only_moves : (old new : Seen) → OnlyReads old new → Moves old new
only_moves old new h = record {
  reads = h.reads;
  puts = omega (arith, h.puts);
  misses = h.misses;
  never = h.never;
  uncounted_reads = h.uncounted;
  uncounted_puts = λ quiet. h.puts;
}

module _ (old mid new : Seen) (first : OnlyReads old mid) where
  pub reads_then : OnlyReads mid new → OnlyReads old new
  reads_then h = record {
    files = h.files ∙ first.files;
    puts = h.puts ∙ first.puts;
    reads = omega (arith, first.reads, h.reads);
    misses = omega (arith, first.misses, h.misses);
    never = h.never ∙ first.never;
    uncounted = λ quiet. h.uncounted (first.never ∙ quiet) ∙ first.uncounted quiet;
  }

  pub moves_then : Moves mid new → Moves old new
  moves_then h = record {
    reads = omega (arith, first.reads, h.reads);
    puts = omega (arith, first.puts, h.puts);
    misses = omega (arith, first.misses, h.misses);
    never = h.never ∙ first.never;
    uncounted_reads = λ quiet. h.uncounted_reads (first.never ∙ quiet) ∙ first.uncounted quiet;
    uncounted_puts = λ quiet. h.uncounted_puts (first.never ∙ quiet) ∙ first.puts;
  }

  rose_later : (a b c : ℕ) → a ≤ b → Rose b c → Rose a c
  rose_later a b c le h = omega arith

  pub read_later : ReadFailed mid new → ReadFailed old new
  read_later h = record { may = sym first.never ∙ h.may; rose = rose_later old.reads mid.reads new.reads first.reads h.rose }

  pub put_later : PutFailed mid new → PutFailed old new
  put_later h = record { may = sym first.never ∙ h.may; rose = subst (λ n. Rose n new.puts) first.puts h.rose }

  pub missed_later : Missed mid new → Missed old new
  missed_later h = rose_later old.misses mid.misses new.misses first.misses h

  pub may_later : (stop : Stop) → MayStop stop mid new → MayStop stop old new
  may_later Nowhere h = tt
  may_later (AtRead k) h = read_later h
  may_later AtPut h = put_later h

-- Each status has its cause.
use Rattle.std.proofs.Common.{◌≡◌, ◌⊎◌, ◌≤◌, ℕ, false, List, None, refl, inl, inr, arith, sym, ◌∙◌}
use Rattle.std.proofs.lemmas.Bool.{false≢true}
use Rattle.lzk_cmd_files.specs.Ends.{End, Stop, Nowhere, AtRead, AtPut, MayStop, puts, says, missing_file}
use Rattle.lzk_cmd_files.specs.Lines.{larger_line, reading_line}
use Rattle.lzk_cmd_files.specs.Refusals.{Refusal, Missing, Larger, Bytes, Numbers, Source, Jobs, Level, Unfit, MayRefuse, IsRefusal}
use Rattle.lzk_cmd_files.specs.Seen.{Seen, ReadFailed, PutFailed, Missed}
use Rattle.lzk_cmd_files.specs.Walks.{OnlyReads, HasCause}
use Rattle.lzk_cmd_files.proofs.Sights.{read_later, put_later, missed_later}

wider : (m n : Type 0) (text : List ℕ) → (m → n) → IsRefusal m text → IsRefusal n text
wider m n text v h = record { refusal = h.refusal; line = h.line; may = go h.refusal h.may }
  where
    go : (r : Refusal) → MayRefuse m r → MayRefuse n r
    go (Missing name) a = v a
    go (Larger name limit) a = tt
    go (Bytes name offset kind) a = tt
    go (Numbers name number kind) a = tt
    go (Source name number kind) a = tt
    go (Jobs name number kind) a = tt
    go (Level name fault) a = tt
    go (Unfit name len) a = tt

-- an end that needs nothing of the outside: it is done, or refuses contents, and puts nothing
pub record IsQuiet (end : End) : Type 0 where
  pub put : end.put ≡ None
  pub present : end.missing ≡ false
  pub cause : (end.status ≤ 1) ⊎ ((end.status ≡ 3) × IsRefusal ⊥ end.text)

-- a status by its cause, where no other status is meant
module _ (p : Type 0) (old new : Seen) where
  pub quiet_cause : (end : End) → IsQuiet end → HasCause ⊥ p old new end
  quiet_cause end h = record {
    status = go h.cause;
    words = (λ e. two h.cause e, λ b. absurd b);
    refusal = λ e. three h.cause e;
    missing = λ e. absurd (false≢true (sym h.present ∙ e));
    reading = λ e. four h.cause e;
    writing = λ e. five h.cause e;
  }
    where
      go : (end.status ≤ 1) ⊎ ((end.status ≡ 3) × IsRefusal ⊥ end.text) → end.status ≤ 5
      go (inl a) = omega (arith, a)
      go (inr a) = omega (arith, a.0)

      two : (end.status ≤ 1) ⊎ ((end.status ≡ 3) × IsRefusal ⊥ end.text) → end.status ≡ 2 → ⊥
      two (inl a) e = omega (arith, a, e)
      two (inr a) e = omega (arith, a.0, e)

      three : (end.status ≤ 1) ⊎ ((end.status ≡ 3) × IsRefusal ⊥ end.text) → end.status ≡ 3 → IsRefusal (Missed old new) end.text
      three (inl a) e = absurd (omega (arith, a, e))
      three (inr a) e = wider ⊥ (Missed old new) end.text (λ b. absurd b) a.1

      four : (end.status ≤ 1) ⊎ ((end.status ≡ 3) × IsRefusal ⊥ end.text) → end.status ≡ 4 → ReadFailed old new
      four (inl a) e = absurd (omega (arith, a, e))
      four (inr a) e = absurd (omega (arith, a.0, e))

      five : (end.status ≤ 1) ⊎ ((end.status ≡ 3) × IsRefusal ⊥ end.text) → end.status ≡ 5 → p × PutFailed old new
      five (inl a) e = absurd (omega (arith, a, e))
      five (inr a) e = absurd (omega (arith, a.0, e))

  pub done_cause : (end : End) → end.status ≡ 0 → end.missing ≡ false → HasCause ⊥ p old new end
  done_cause end done present = record {
    status = omega (arith, done);
    words = (λ e. absurd (omega (arith, done, e)), λ b. absurd b);
    refusal = λ e. absurd (omega (arith, done, e));
    missing = λ e. absurd (false≢true (sym present ∙ e));
    reading = λ e. absurd (omega (arith, done, e));
    writing = λ e. absurd (omega (arith, done, e));
  }

  pub reading_cause : (name : List ℕ) → ReadFailed old new → HasCause ⊥ p old new (says 4 (reading_line name))
  reading_cause name h = record {
    status = omega arith;
    words = (λ e. absurd (omega (arith, e)), λ b. absurd b);
    refusal = λ e. absurd (omega (arith, e));
    missing = λ e. absurd (false≢true e);
    reading = λ e. h;
    writing = λ e. absurd (omega (arith, e));
  }

  pub missing_cause : (name : List ℕ) → Missed old new → HasCause ⊥ p old new (missing_file name)
  missing_cause name h = record {
    status = omega arith;
    words = (λ e. absurd (omega (arith, e)), λ b. absurd b);
    refusal = λ e. record { refusal = Missing name; line = refl; may = h };
    missing = λ e. h;
    reading = λ e. absurd (omega (arith, e));
    writing = λ e. absurd (omega (arith, e));
  }

  pub larger_quiet : (name : List ℕ) (limit : ℕ) → IsQuiet (says 3 (larger_line name limit))
  larger_quiet name limit = record { put = refl; present = refl; cause = inr (refl, record { refusal = Larger name limit; line = refl; may = tt }) }

-- an end at a put
pub put_cause : (old new : Seen) (stop : Stop) (name bytes text : List ℕ) → MayStop stop old new → HasCause ⊥ (Unit {0}) old new (puts stop name bytes text)
put_cause old new Nowhere name bytes text may = done_cause (Unit {0}) old new _ refl refl
put_cause old new (AtRead k) name bytes text may = done_cause (Unit {0}) old new _ refl refl
put_cause old new AtPut name bytes text may = record {
  status = omega arith;
  words = (λ e. absurd (omega (arith, e)), λ b. absurd b);
  refusal = λ e. absurd (omega (arith, e));
  missing = λ e. absurd (false≢true e);
  reading = λ e. absurd (omega (arith, e));
  writing = λ e. (tt, may);
}

-- since an earlier sight
pub cause_later : (old mid new : Seen) (w p : Type 0) (end : End) → OnlyReads old mid → HasCause w p mid new end → HasCause w p old new end
cause_later old mid new w p end first h = record {
  status = h.status;
  words = h.words;
  refusal = λ e. wider (Missed mid new) (Missed old new) end.text (missed_later old mid new first) (h.refusal e);
  missing = λ e. missed_later old mid new first (h.missing e);
  reading = λ e. read_later old mid new first (h.reading e);
  writing = λ e. let w = h.writing e in (w.0, put_later old mid new first w.1);
}

-- What was done, and printed, is what is promised.
use Rattle.std.proofs.Common.{◌≡◌, ◌⊎◌, ◌≤◌, ℕ, List, ◌++◌, take, Option, Some, None, Result, Ok, Err, inl, inr, sym, ap, ◌∙◌, arith}
use Rattle.std.specs.Prelude.{IfSome, string_bytes}
use Rattle.std.specs.Option.{option_map}
use Rattle.lzk_outside.specs.Outside.{Files, Appends}
use Rattle.lzk_cmd_files.specs.declared.ending.Ending.{Ending}
use Rattle.lzk_cmd_files.specs.declared.ending.Halt.{Halt}
use Rattle.lzk_cmd_files.specs.declared.ending.Halt.TheVariants as halts
use Rattle.lzk_cmd.specs.Complete.{Completes}
use Rattle.lzk_cmd.specs.Outcome.{WhereTold, Answers, Outcome, Refused}
use Rattle.lzk_cmd.specs.Promise.{Promise}
use Rattle.lzk_cmd.specs.Run.{RunOf}
use Rattle.lzk_cmd_files.specs.Seen.{SeenSink, PutFailed, WriteFailed}
use Rattle.lzk_cmd.specs.Sights.{Before, After}
use Rattle.lzk_cmd_files.specs.Walks.{Concludes, Moves, Quiet, Settled, Prints}
use Rattle.lzk_cmd.specs.RunSteps.{Works}
use Rattle.lzk_cmd_words.specs.Words.{PutsFile, command_of}
use Rattle.lzk_cmd.proofs.Ready.{completes}
use Rattle.lzk_cmd_files.proofs.Sights.{where_told, at_told}

-- what is appended where the text is told
appended : (old new : Option (List ℕ)) (text xs : List ℕ) → old ≡ Some text → Appends old xs new → new ≡ Some (text ++ xs)
appended old new text xs is h = h ∙ ap (option_map (λ (w : List ℕ). w ++ xs)) is

module _ (before : Before) (after : After) where
  where_both : (P : Files → List ℕ → Type 0) → ((files : Files) (text : List ℕ) → before.shelf.files ≡ Some files → before.sink.written ≡ Some text → P files text) → WhereTold before P
  where_both P h = where_told before.shelf.files _ (λ files at. where_told before.sink.written _ (λ text told. h files text at told))

  completed : WhereTold before (Outcome before after) → WhereTold before (Completes before after)
  completed h = where_both (Completes before after) (λ files text at told. completes before after files text (at_told before.sink.written _ text told (at_told before.shelf.files _ files at h)))

  module _ (moves : Moves before.shelf after.shelf) (quiet : Quiet before.sink after.sink) (e : Ending)
      (h : Settled (RunOf before.words) 0 (command_of before.words ≡ None) (PutsFile (command_of before.words)) before.shelf after.shelf e)
      (printed : Prints before.sink after.sink e.status (string_bytes e.text) after.status) where
    answers : (text : List ℕ) → before.sink.written ≡ Some text → Prints before.sink after.sink e.status (string_bytes e.text) after.status → Answers before after text h.end
    answers text told (inl (status, all)) = inl (status ∙ sym h.is.status, rw h.is.text (appended before.sink.written after.sink.written text (string_bytes e.text) told all))
    answers text told (inr (inl (status, failed, (n, front)))) =
        inr (inl (status, failed, (n, rw h.is.text (appended before.sink.written after.sink.written text (take n (string_bytes e.text)) told front))))
    answers text told (inr (inr (status, (n, front)))) = inr (inr (status, (n, rw h.is.text (appended before.sink.written after.sink.written text (take n (string_bytes e.text)) told front))))

    outcome : WhereTold before (Outcome before after)
    outcome = where_both (Outcome before after) (λ files text at told.
        let walked = at_told before.shelf.files _ files at h.told in
        inl (record { stop = h.stop; end = h.end; may = h.may; run = walked.0; left = walked.1; missing = h.cause.missing; answers = answers text told printed }))

    -- a status other than 5 and 6 is that of the end
    same : (n : ℕ) → (n ≡ 5 → ⊥) → (n ≡ 6 → ⊥) → after.status ≡ n → h.end.status ≡ n
    same n five six is = go printed
      where
        go : Prints before.sink after.sink e.status (string_bytes e.text) after.status → h.end.status ≡ n
        go (inl a) = h.is.status ∙ sym a.0 ∙ is
        go (inr (inl a)) = absurd (five (sym is ∙ a.0))
        go (inr (inr a)) = absurd (six (sym is ∙ a.0))

    most : Prints before.sink after.sink e.status (string_bytes e.text) after.status → after.status ≤ 6
    most (inl a) = let status = h.cause.status in omega (arith, a.0, h.is.status, status)
    most (inr (inl a)) = omega (arith, a.0)
    most (inr (inr a)) = omega (arith, a.0)

    refuses : command_of before.words ≡ None → Prints before.sink after.sink e.status (string_bytes e.text) after.status → (after.status ≡ 2) ⊎ (((after.status ≡ 5) × WriteFailed before.sink after.sink) ⊎ (after.status ≡ 6))
    refuses none (inl a) = inl (a.0 ∙ sym h.is.status ∙ h.cause.words.1 none)
    refuses none (inr (inl a)) = inr (inl (a.0, a.1))
    refuses none (inr (inr a)) = inr (inr a.0)

    missing : after.status ≡ 3 → Prints before.sink after.sink e.status (string_bytes e.text) after.status → Refused before after
    missing is (inl a) =
        where_told before.sink.written _ (λ text told. (h.end.text, h.cause.refusal (h.is.status ∙ sym a.0 ∙ is), rw h.is.text (appended before.sink.written after.sink.written text (string_bytes e.text) told a.1)))
    missing is (inr (inl a)) = absurd (omega (arith, a.0, is))
    missing is (inr (inr a)) = absurd (omega (arith, a.0, is))

    printing : after.status ≡ 5 → Prints before.sink after.sink e.status (string_bytes e.text) after.status → WriteFailed before.sink after.sink ⊎ (PutsFile (command_of before.words) × PutFailed before.shelf after.shelf)
    printing is (inl a) = inr (h.cause.writing (h.is.status ∙ sym a.0 ∙ is))
    printing is (inr (inl a)) = inl a.1
    printing is (inr (inr a)) = absurd (omega (arith, a.0, is))

    pub promised : Promise before after
    promised = record {
      told = outcome;
      complete = completed outcome;
      status = most printed;
      words = λ is. h.cause.words.0 (same 2 (λ e. omega (arith, e)) (λ e. omega (arith, e)) is);
      refused = λ none. refuses none printed;
      missing = λ is. missing is printed;
      reading = λ is. h.cause.reading (same 4 (λ e. omega (arith, e)) (λ e. omega (arith, e)) is);
      printing = λ is. printing is printed;
      shelf_kept = moves.never;
      sink_kept = quiet.never;
      uncounted_reads = moves.uncounted_reads;
      uncounted_puts = moves.uncounted_puts;
      uncounted_writes = quiet.uncounted;
    }

  -- there was no memory, and nothing is printed
  module _ (moves : Moves before.shelf after.shelf) (same : after.sink ≡ before.sink) (six : after.status ≡ 6) (left : IfSome before.shelf.files (λ files. after.shelf.files ≡ Some files)) where
    nothing : WhereTold before (Outcome before after)
    nothing = where_both (Outcome before after) (λ files text at told.
        inr (six, at_told before.shelf.files _ files at left, ap (λ (k : SeenSink). k.written) same ∙ told))

    pub wanted : Promise before after
    wanted = record {
      told = nothing;
      complete = completed nothing;
      status = omega (arith, six);
      words = λ is. absurd (omega (arith, six, is));
      refused = λ none. inr (inr six);
      missing = λ is. absurd (omega (arith, six, is));
      reading = λ is. absurd (omega (arith, six, is));
      printing = λ is. absurd (omega (arith, six, is));
      shelf_kept = moves.never;
      sink_kept = ap (λ (k : SeenSink). k.never) same;
      uncounted_reads = moves.uncounted_reads;
      uncounted_puts = moves.uncounted_puts;
      uncounted_writes = λ never. ap (λ (k : SeenSink). k.faults) same;
    }

  -- what was done, and was printed or not
  pub concluded : Moves before.shelf after.shelf → Quiet before.sink after.sink → (done : Result Ending Halt) → Works before.words before.shelf after.shelf done → Concludes before.sink after.sink done after.status → Promise before after
  concluded moves quiet (Ok e) h printed = promised moves quiet e h printed
  concluded moves quiet (Err halts.Memory) h printed = wanted moves printed.1 printed.0 h
  concluded moves quiet (Err (halts.End e)) h printed = promised moves quiet e h printed

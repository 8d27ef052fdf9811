-- What is done before anything is printed, whatever the command.
use Rattle.std.proofs.Common.{◌≡◌, ℕ, List, Option, Some, None, Result, Ok, Err, refl, arith}
use Rattle.std.proofs.lemmas.Bool.{false≢true}
use Rattle.lzk_cmd_files.specs.declared.ending.Ending.{Ending}
use Rattle.lzk_cmd_files.specs.declared.ending.Halt.{Halt}
use Rattle.lzk_cmd_files.specs.declared.ending.Halt.TheVariants as halts
use Rattle.lzk_cmd_files.specs.Ends.{Nowhere, refused_words}
use Rattle.lzk_cmd.specs.Run.{CommandRun, RunOf}
use Rattle.lzk_cmd_files.specs.Seen.{Seen}
use Rattle.lzk_cmd_files.specs.Walks.{IsEnding, Settled, Settles}
use Rattle.lzk_cmd.specs.RunSteps.{Works}
use Rattle.lzk_cmd_words.specs.Words.{Command, PutsFile, command_of}
use Rattle.lzk_cmd_files.proofs.Sights.{where_told, at_told}

module _ (words : List (List ℕ)) where
  -- words that are no command
  pub refused : (old : Seen) (e : Ending) → command_of words ≡ None → IsEnding refused_words e → Works words old old (Ok e)
  refused old e none is = record {
    stop = Nowhere;
    end = refused_words;
    may = tt;
    far = λ j l. refl;
    is = is;
    told = where_told old.files _ (λ f at. (rw none refl, at));
    cause = record {
      status = omega arith;
      words = (λ two. none, λ none. refl);
      refusal = λ e. absurd (omega (arith, e));
      missing = λ e. absurd (false≢true e);
      reading = λ e. absurd (omega (arith, e));
      writing = λ e. absurd (omega (arith, e));
    };
  }

  none_apart : (command : Command) (o : Option Command) → o ≡ Some command → o ≡ None → ⊥
  none_apart command o is none = absurd cc

  -- words that are one
  pub works : (command : Command) (p : Type 0) (old new : Seen) (r : Result Ending Halt) → command_of words ≡ Some command → (p → PutsFile (Some command)) → Settles (CommandRun command) 0 ⊥ p old new r → Works words old new r
  works command p old new r is puts h = go r h
    where
      settled : (e : Ending) → Settled (CommandRun command) 0 ⊥ p old new e → Settled (RunOf words) 0 (command_of words ≡ None) (PutsFile (command_of words)) old new e
      settled e h = record {
        stop = h.stop;
        end = h.end;
        may = h.may;
        far = h.far;
        is = h.is;
        told = where_told old.files _ (λ f at. let here = at_told old.files _ f at h.told in (rw is here.0, here.1));
        cause = record {
          status = h.cause.status;
          words = (λ e. absurd (h.cause.words.0 e), λ none. absurd (none_apart command (command_of words) is none));
          refusal = h.cause.refusal;
          missing = h.cause.missing;
          reading = h.cause.reading;
          writing = λ e. let w = h.cause.writing e in (rw is (puts w.0), w.1);
        };
      }

      go : (r : Result Ending Halt) → Settles (CommandRun command) 0 ⊥ p old new r → Works words old new r
      go (Ok e) h = settled e h
      go (Err halts.Memory) h = h
      go (Err (halts.End e)) h = settled e h

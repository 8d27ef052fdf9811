-- The walk of `demo`, and what is printed of it and of `shacircuit`.
use Rattle.std.proofs.Common.{◌≡◌, ◌⊎◌, ℕ, inl, inr, List, Some, None, Result, Ok, Err, refl, sym, subst, ◌∙◌, lit≤}
use Rattle.std.specs.Prelude.{string_bytes}
use Rattle.lzk_outside.specs.Outside.{Appends}
use Rattle.lzk_cmd_files.specs.declared.ending.Ending.{Ending}
use Rattle.lzk_cmd_files.specs.declared.ending.Halt.{Halt}
use Rattle.lzk_cmd_files.specs.declared.ending.Halt.TheVariants as halts
use Rattle.lzk_cmd.specs.Accepted.{HasDemo, DemoIsAccepted}
use Rattle.lzk_cmd_prove.specs.Demo.{DemoRun, demo_end}
use Rattle.lzk_cmd_words.specs.Keys.{number_of}
use Rattle.lzk_cmd_words.specs.Digits.{seed_of}
use Rattle.lzk_cmd_files.specs.Seen.{Seen, WriteFailed}
use Rattle.lzk_cmd.specs.Made.{ShaCircuitIsMade}
use Rattle.lzk_cmd.specs.Sights.{Before, After}
use Rattle.lzk_cmd_files.specs.Walks.{EndsAtPut, Concludes, Prints, Walks}
use Rattle.lzk_cmd.specs.RunSteps.{OnUnread, TellsUnread}
use Rattle.lzk_cmd_prove.specs.Demo.{TellsDemo}
use Rattle.lzk_cmd_words.specs.Words.{Command, LeavesShelf, command_of}
use Rattle.lzk_cmd_files.proofs.Sights.{where_told, no_step}
use Rattle.lzk_cmd_files.proofs.Steps.{here}

-- a run that tells of it, or wants memory, and leaves the shelf as it was
pub demo_walks : (n : ℕ) (seed : List ℕ) (s : Seen) (r : Result Ending Halt) → TellsDemo n seed r → Walks (DemoRun n seed) 0 s s r
unfolding DemoRun
demo_walks n seed s (Ok e) (c, bytes, is, ends) =
    here (DemoRun n seed) 0 ⊥ s s (demo_end n c bytes) e (no_step s) (record { put = refl; present = refl; cause = inl (lit≤ tt) }) ends (λ f at. (c, bytes, is, refl))
demo_walks n seed s (Err halts.Memory) h = where_told s.files _ (λ f at. at)
demo_walks n seed s (Err (halts.End e)) h = absurd h

module _ (words : List (List ℕ)) where
  -- words that are no command, and those of a command
  pub no_unread : (r : Result Ending Halt) → command_of words ≡ None → TellsUnread words r
  no_unread r none = rw none tt

  pub on_unread : (command : Command) (r : Result Ending Halt) → command_of words ≡ Some command → OnUnread command r → TellsUnread words r
  on_unread command r is h = rw is h

  -- a command that is not the demo leaves the shelf as it was for no words
  pub leaves : {A : Type 0} (command : Command) → command_of words ≡ Some command → (LeavesShelf (Some command) → ⊥) → LeavesShelf (command_of words) → A
  leaves command is other h = absurd (other (rw is at h))

-- what is printed of such an end
module _ (before : Before) (after : After) (n : ℕ) (seed : List ℕ) where
  pub demo_printed : (e : Ending) → TellsDemo n seed (Ok e) → Prints before.sink after.sink e.status (string_bytes e.text) after.status
      → HasDemo before after n seed ⊎ (((after.status ≡ 5) × WriteFailed before.sink after.sink) ⊎ (after.status ≡ 6))
  demo_printed e (c, bytes, is, ends) (inl (status, all)) =
      inl (record {
        circuit = c;
        bytes = bytes;
        is = is;
        done = status ∙ sym ends.status;
        printed = subst (λ (text : List ℕ). Appends before.sink.written text after.sink.written) (sym ends.text) all;
      })
  demo_printed e told (inr (inl (status, failed, front))) = inr (inl (status, failed))
  demo_printed e told (inr (inr (status, front))) = inr (inr status)

-- a run of the words of `demo`
module _ (before : Before) (after : After) where
  pub demo_accepted : (e : Ending) → TellsUnread before.words (Ok e) → Prints before.sink after.sink e.status (string_bytes e.text) after.status → DemoIsAccepted before after
  demo_accepted e told printed count seed is = demo_printed before after (number_of count) (seed_of seed) e (rw is at told) printed

  pub demo_stops : (e : Ending) → TellsUnread before.words (Err (halts.End e)) → DemoIsAccepted before after
  demo_stops e told count seed is = absurd (stopped (rw is at told))
    where
      stopped : TellsDemo (number_of count) (seed_of seed) (Err (halts.End e)) → ⊥
      stopped h = h

  pub demo_wanted : after.status ≡ 6 → DemoIsAccepted before after
  demo_wanted six count seed is = inr (inr six)

  pub demo_concluded : (done : Result Ending Halt) → TellsUnread before.words done → Concludes before.sink after.sink done after.status → DemoIsAccepted before after
  demo_concluded (Ok e) told printed = demo_accepted e told printed
  demo_concluded (Err halts.Memory) told printed = demo_wanted printed.0
  demo_concluded (Err (halts.End e)) told printed = demo_stops e told

  -- and of the words of `shacircuit`
  pub sha_concluded : (done : Result Ending Halt) → TellsUnread before.words done → Concludes before.sink after.sink done after.status → ShaCircuitIsMade before after
  sha_concluded (Ok e) told printed count circuit is = made (rw is at told) printed
    where
      made : EndsAtPut (Ok e) → Prints before.sink after.sink e.status (string_bytes e.text) after.status → (after.status ≡ 0) ⊎ ((after.status ≡ 5) ⊎ (after.status ≡ 6))
      made (inl zero) (inl (status, all)) = inl (status ∙ zero)
      made (inr five) (inl (status, all)) = inr (inl (status ∙ five))
      made h (inr (inl (status, failed, front))) = inr (inl status)
      made h (inr (inr (status, front))) = inr (inr status)
  sha_concluded (Err halts.Memory) told printed count circuit is = inr (inr printed.0)
  sha_concluded (Err (halts.End e)) told printed count circuit is = absurd (stopped (rw is at told))
    where
      stopped : EndsAtPut (Err (halts.End e)) → ⊥
      stopped h = h

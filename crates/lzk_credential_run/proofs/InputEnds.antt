-- The ends of inputs that are put.
use Rattle.std.proofs.Common.{◌≡◌, ◌≤◌, ℕ, List, length, Option, Result, Ok, Err, inl, inr, sym, subst, ◌∙◌, arith, map}
use Rattle.std.specs.Result.{IsErrAnd}
use Rattle.lzk_goldilocks.specs.Elements.{number}
use Rattle.lzk_outside.specs.Outside.{Files, Holds, Torn, Rose}
use Rattle.lzk_cmd_files.specs.declared.ending.Ending.{Ending}
use Rattle.lzk_cmd_files.specs.declared.ending.Halt.{Halt}
use Rattle.lzk_cmd_files.specs.declared.ending.Halt.TheVariants as halts
use Rattle.lzk_cmd_files.specs.Seen.{Seen, PutFailed}
use Rattle.lzk_cmd_files.specs.Walks.{Moves, OnlyReads, Puts}
use Rattle.lzk_cmd_files.proofs.Sights.{put_later}
use Rattle.lzk_cmd_files.proofs.Steps.{handed_on}
use Rattle.lzk_policy.specs.Policies.{Contents}
use Rattle.lzk_policy_inputs.specs.declared.error.InputsError.{InputsError}
use Rattle.lzk_policy_inputs.specs.declared.error.InputsError.TheVariants as causes
use Rattle.lzk_policy_inputs.specs.declared.value.Value.{Value}
use Rattle.lzk_policy_inputs.specs.Both.{Inputs}
use Rattle.lzk_policy_inputs.specs.declared.refusal.RootedInputsError.{RootedInputsError}
use Rattle.lzk_policy_inputs.specs.declared.refusal.RootedInputsError.TheVariants as refusals
use Rattle.lzk_policy_inputs.specs.Placed.{IsCredentialRefusal}
use Rattle.lzk_sha_path.specs.declared.error.PathError.{PathError}
use Rattle.lzk_sha_path.specs.declared.error.PathError.TheVariants as paths
use Rattle.lzk_policy_texts.specs.declared.entries.ValuesFault.{ValuesFault}
use Rattle.lzk_credential_run.specs.Ends.{Settles}
use Rattle.lzk_credential_run.specs.Given.{IsHaltFor, IsNoInputs, IsUnclimbed, IsUnclimbedFor, IsUnmade, IsUnmadeFor, MakesInputs, PutsLast, PutsBoth, PutsOne, PutsInputs, value_files}
use Rattle.lzk_policy_texts.specs.Numbers.{number_lines}
use Rattle.lzk_credential_run.specs.Lines.{put_line}
use Rattle.lzk_policy_texts.specs.Paths.{Placed}
use Rattle.lzk_credential_run.proofs.Steps.{IsLate, IsSmall}

-- ---- since an earlier sight

last_later : (files : Option Files) (private bytes : List ℕ) → IsLate (PutsLast files private bytes)
last_later files private bytes old mid new e first (inl h) = inl h
last_later files private bytes old mid new e first (inr (failed, torn, is)) = inr (put_later old mid new first failed, torn, is)

both_later : (public first_bytes private second : List ℕ) → IsLate (PutsBoth public first_bytes private second)
both_later public bytes private second old mid new e first (inl (failed, torn, is)) =
    inl (put_later old mid new first failed, subst (λ (f : Option Files). Torn f public bytes new.files) first.files torn, is)
both_later public bytes private second old mid new e first (inr (files, holds, last)) =
    inr (files, subst (λ (f : Option Files). Holds f public bytes files) first.files holds, last_later files private second old mid new e first last)

pub puts_inputs_later : (public private : List ℕ) (i : Inputs) → IsLate (PutsInputs public private i)
puts_inputs_later public private i = both_later public (number_lines (map number i.public)) private (number_lines (map number i.private))

pub one_later : (public : List ℕ) (old mid new : Seen) → OnlyReads old mid → PutsOne public mid new → PutsOne public old new
one_later public old mid new first (inl same) = inl (same ∙ first.files)
one_later public old mid new first (inr (bytes, holds)) = inr (bytes, subst (λ (f : Option Files). Holds f public bytes new.files) first.files holds)

-- ---- there was no memory, or there are no inputs

pub no_memory : (way : Seen → Seen → Ending → Type 0) (public : List ℕ) (old new : Seen) (r : Result Ending Halt) → new.files ≡ old.files → IsErrAnd r (λ y. y ≡ halts.Memory) → Settles way (PutsOne public) old new r
no_memory way public old new r same is = handed_on (Settles way (PutsOne public) old new) r halts.Memory is (inl same)

module _ (path : List ℕ) (x : Placed) (p : Contents) (m : List ℕ) (vs : List Value) where
  unmade_for : (cause : InputsError) (e : Ending) → IsUnmadeFor p cause (halts.End e) → IsUnmade p cause e
  unmade_for causes.Record e h = h
  unmade_for causes.Count e h = h
  unmade_for (causes.Kind k) e h = h
  unmade_for (causes.False k) e h = h
  unmade_for causes.OutOfMemory e h = absurd cc

  unclimbed_for : (nodes depth : ℕ) (cause : PathError) (e : Ending) → IsUnclimbedFor path nodes depth cause (halts.End e) → IsUnclimbed path nodes depth cause e
  unclimbed_for nodes depth paths.Depth e h = h
  unclimbed_for nodes depth (paths.Statement k) e h = h
  unclimbed_for nodes depth (paths.Beside k) e h = h
  unclimbed_for nodes depth paths.OutOfMemory e h = absurd cc

  halted_for : (nodes : ℕ) (cause : RootedInputsError) (e : Ending) → IsHaltFor path p nodes cause (halts.End e) → IsNoInputs path p nodes cause e
  halted_for nodes (refusals.Policy cause) e h = unmade_for cause e h
  halted_for nodes (refusals.Path cause) e h = unclimbed_for nodes p.depth cause e h
  halted_for nodes refusals.Depth e h = h
  halted_for nodes refusals.Index e h = h
  halted_for nodes refusals.OutOfMemory e h = absurd cc

  -- there are no inputs for this cause
  pub halted : (cause : RootedInputsError) (h : Halt) → IsCredentialRefusal p m vs x.leaf (length x.nodes) cause → IsHaltFor path p (length x.nodes) cause h → MakesInputs path p m vs x (Err h)
  halted cause halts.Memory refused is = tt
  halted cause (halts.End e) refused is = (cause, refused, halted_for (length x.nodes) cause e is)

-- ---- two puts

put_behind : (old mid new : Seen) → Moves old mid → PutFailed mid new → PutFailed old new
put_behind old mid new moves h = record { may = sym moves.never ∙ h.may; rose = rose_later old.puts mid.puts new.puts moves.puts h.rose }
  where
    rose_later : (a b c : ℕ) → a ≤ b → Rose b c → Rose a c
    rose_later a b c le h = omega arith

module _ (public first private second text : List ℕ) where
  -- the first put wants memory
  pub first_wants : (old mid : Seen) (h : Halt) (r : Result Ending Halt) → Puts public first text old mid (Err h) → IsErrAnd r (λ y. y ≡ h) → Settles (PutsBoth public first private second) (PutsOne public) old mid r
  first_wants old mid h r puts is = handed_on (Settles (PutsBoth public first private second) (PutsOne public) old mid) r h is (go h puts)
    where
      go : (h : Halt) → Puts public first text old mid (Err h) → Settles (PutsBoth public first private second) (PutsOne public) old mid (Err h)
      go halts.Memory same = inl same
      go (halts.End e) refusal = absurd refusal

  -- it fails
  pub first_fails : (old mid : Seen) (e : Ending) → Puts public first text old mid (Ok e) → (e.status ≡ 0 → ⊥) → PutsBoth public first private second old mid e
  first_fails old mid e (inl (holds, is)) other = absurd (other (sym is.status))
  first_fails old mid e (inr (failed, torn, is)) other = inl (failed, torn, record { status = is.status; text = is.text })

  -- it is done, and the second put ends the run
  pub second_ends : (old mid new : Seen) (e : Ending) (r : Result Ending Halt) → Puts public first text old mid (Ok e) → e.status ≡ 0 → Moves old mid → Puts private second put_line mid new r
      → Settles (PutsBoth public first private second) (PutsOne public) old new r
  second_ends old mid new e r (inl (holds, is)) done moves puts = go r puts
    where
      go : (r : Result Ending Halt) → Puts private second put_line mid new r → Settles (PutsBoth public first private second) (PutsOne public) old new r
      go (Ok e) (inl (last, is)) = inr (mid.files, holds, inl (last, is))
      go (Ok e) (inr (failed, torn, is)) = inr (mid.files, holds, inr (put_behind old mid new moves failed, torn, is))
      go (Err halts.Memory) same = inr (first, subst (λ (f : Option Files). Holds old.files public first f) (sym same) holds)
      go (Err (halts.End e)) refusal = absurd refusal
  second_ends old mid new e r (inr (failed, torn, is)) done moves puts = absurd (omega (arith, is.status, done))

-- ---- the inputs are put

pub inputs_put : (public private : List ℕ) (i : Inputs) (first second : List ℕ) (old new : Seen) (r : Result Ending Halt)
    → first ≡ number_lines (map number i.public) → second ≡ number_lines (map number i.private) → Settles (PutsBoth public first private second) (PutsOne public) old new r
    → Settles (PutsInputs public private i) (PutsOne public) old new r
inputs_put public private i first second old new r one two h =
    subst (λ (s : List ℕ). Settles (PutsBoth public (number_lines (map number i.public)) private s) (PutsOne public) old new r) two (subst (λ (f : List ℕ). Settles (PutsBoth public f private second) (PutsOne public) old new r) one h)

-- ---- statuses

unmade_small : (p : Contents) (cause : InputsError) (e : Ending) → IsUnmade p cause e → e.status ≤ 5
unmade_small p causes.Record e h = let is = h.status in omega (arith, is)
unmade_small p causes.Count e h = let is = h.status in omega (arith, is)
unmade_small p (causes.Kind k) e h = let is = h.status in omega (arith, is)
unmade_small p (causes.False k) e h = let is = h.status in omega (arith, is)
unmade_small p causes.OutOfMemory e h = absurd h

unclimbed_small : (path : List ℕ) (nodes depth : ℕ) (cause : PathError) (e : Ending) → IsUnclimbed path nodes depth cause e → e.status ≤ 5
unclimbed_small path nodes depth paths.Depth e h = let is = h.status in omega (arith, is)
unclimbed_small path nodes depth (paths.Statement k) e h = let is = h.status in omega (arith, is)
unclimbed_small path nodes depth (paths.Beside k) e h = let is = h.status in omega (arith, is)
unclimbed_small path nodes depth paths.OutOfMemory e h = absurd h

pub none_small : (path : List ℕ) (p : Contents) (nodes : ℕ) (cause : RootedInputsError) (e : Ending) → IsNoInputs path p nodes cause e → e.status ≤ 5
none_small path p nodes (refusals.Policy cause) e h = unmade_small p cause e h
none_small path p nodes (refusals.Path cause) e h = unclimbed_small path nodes p.depth cause e h
none_small path p nodes refusals.Depth e h = let is = h.status in omega (arith, is)
none_small path p nodes refusals.Index e h = let is = h.status in omega (arith, is)
none_small path p nodes refusals.OutOfMemory e h = absurd h

both_small : (public first private second : List ℕ) → IsSmall (PutsBoth public first private second)
both_small public first private second old new e (inl h) = let is = h.2.status in omega (arith, is)
both_small public first private second old new e (inr (files, holds, inl h)) = let is = h.1.status in omega (arith, is)
both_small public first private second old new e (inr (files, holds, inr h)) = let is = h.2.status in omega (arith, is)

pub puts_inputs_small : (public private : List ℕ) (i : Inputs) → IsSmall (PutsInputs public private i)
puts_inputs_small public private i = both_small public (number_lines (map number i.public)) private (number_lines (map number i.private))

pub values_small : (name : List ℕ) (p : Contents) (secret : List ℕ) (fault : ValuesFault) → ((value_files p secret).refused name fault).status ≤ 5
values_small name p secret fault = omega arith

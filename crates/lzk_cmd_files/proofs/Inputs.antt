-- The steps of a walk over the two number files of a circuit's inputs.
use Rattle.std.proofs.Common.{◌≡◌, ℕ, List, Result, Ok, Err, subst}
use Rattle.std.specs.Prelude.{Vec}
use Rattle.std.specs.declared.alloc.Global.{Global}
use Rattle.std.specs.Result.{IsErrAnd}
use Rattle.lzk_outside.specs.Outside.{Files}
use Rattle.lzk_cmd_files.specs.declared.ending.Ending.{Ending}
use Rattle.lzk_cmd_files.specs.declared.ending.Halt.{Halt}
use Rattle.lzk_cmd_files.specs.Decoded.{number_files}
use Rattle.lzk_cmd_files.specs.Ends.{End, Stop}
use Rattle.lzk_cmd_files.specs.Formats.{At}
use Rattle.lzk_cmd_files.specs.Seen.{Seen}
use Rattle.lzk_cmd_files.specs.Walks.{OnlyReads, Gives, Settles}
use Rattle.lzk_cmd_files.proofs.Laws.{numbers_quiet}
use Rattle.lzk_cmd_files.proofs.Steps.{ends, then}

abbrev pub items_of : {A : Type 0} → Vec A Global → List A
items_of v = v.items

-- the walk on the inputs, where a circuit has so many
module _ {A : Type 0} (size : ℕ) (number : A → ℕ) (publics_are privates_are : ℕ) (public private : List ℕ) (next : List A → List A → Files → Stop → End → Type 0) (p : Type 0) where
  abbrev Behind : Files → Stop → End → List A → Type 0
  Behind files stop end publics = At (number_files size number privates_are) files stop 2 private end (λ privates. next publics privates files stop end)

  abbrev pub OnInputs : Files → Stop → End → Type 0
  OnInputs files stop end = At (number_files size number publics_are) files stop 1 public end (Behind files stop end)

  -- what a number file gives, read for so many numbers
  module _ (old mid late new : Seen) (n m : ℕ) (few : n ≡ publics_are) (also : m ≡ privates_are) where
    abbrev Numbers : Seen → Seen → List ℕ → ℕ → Result (Vec A Global) Halt → Type 0
    Numbers before after name count r = Gives (number_files size number count) items_of before after name r

    pub no_publics : (h : Halt) (r : Result Ending Halt) → OnlyReads old new → Numbers old new public n (Err h) → IsErrAnd r (λ y. y ≡ h) → Settles OnInputs 1 ⊥ p old new r
    no_publics h r reads gives is = ends (number_files size number publics_are) items_of public 1 Behind p old new h r (numbers_quiet size number publics_are public) reads (subst (λ k. Numbers old new public k (Err h)) few gives) is

    with_publics : (publics : Vec A Global) (r : Result Ending Halt) → OnlyReads old mid → Numbers old mid public n (Ok publics) → Settles (λ files stop end. Behind files stop end publics.items) 2 ⊥ p mid new r → Settles OnInputs 1 ⊥ p old new r
    with_publics publics r reads gives rest = then (number_files size number publics_are) items_of public 1 Behind p old mid new publics r reads (subst (λ k. Numbers old mid public k (Ok publics)) few gives) rest

    pub no_privates : (publics : Vec A Global) (h : Halt) (r : Result Ending Halt) → OnlyReads old mid → Numbers old mid public n (Ok publics) → OnlyReads mid new → Numbers mid new private m (Err h) → IsErrAnd r (λ y. y ≡ h)
        → Settles OnInputs 1 ⊥ p old new r
    no_privates publics h r reads gives more last is =
        with_publics publics r reads gives
        (ends (number_files size number privates_are) items_of private 2 (λ files stop end privates. next publics.items privates files stop end) p mid new h r (numbers_quiet size number privates_are private) more (subst (λ k. Numbers mid new private k (Err h)) also last) is)

    -- the walk goes on with the inputs
    pub with_inputs : (publics privates : Vec A Global) (r : Result Ending Halt) → OnlyReads old mid → Numbers old mid public n (Ok publics) → OnlyReads mid late → Numbers mid late private m (Ok privates)
        → Settles (next publics.items privates.items) 3 ⊥ p late new r → Settles OnInputs 1 ⊥ p old new r
    with_inputs publics privates r reads gives more last rest =
        with_publics publics r reads gives
        (then (number_files size number privates_are) items_of private 2 (λ files stop end privates. next publics.items privates files stop end) p mid late new privates r more (subst (λ k. Numbers mid late private k (Ok privates)) also last) rest)

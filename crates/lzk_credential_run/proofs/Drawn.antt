-- A seed that is drawn, and the ends of a run that has none.
use Rattle.std.proofs.Common.{◌≡◌, ◌≢◌, ◌≤◌, ℕ, List, length, take, Option, Some, None, Result, Ok, Err, inl, inr, refl, ap, ◌∙◌, arith}
use Rattle.std.specs.Prelude.{IfSome, Vec}
use Rattle.std.specs.Option.{IsSomeAnd}
use Rattle.std.specs.declared.alloc.Global.{Global}
use Rattle.std.proofs.lemmas.List.{length-take-le, take-take}
use Rattle.lzk_outside.specs.Outside.{Files}
use Rattle.lzk_cmd_files.specs.declared.ending.Halt.{Halt}
use Rattle.lzk_cmd_files.specs.declared.ending.Halt.TheVariants as halts
use Rattle.lzk_cmd_files.specs.declared.load.LoadFault.{LoadFault}
use Rattle.lzk_cmd_files.specs.declared.load.LoadFault.TheVariants.{Missing, TooLarge, Failed, OutOfMemory}
use Rattle.lzk_cmd_files.specs.Seen.{Seen, ReadFailed, Missed}
use Rattle.lzk_cmd_files.specs.Walks.{IsHaltOf}
use Rattle.lzk_credential_run.specs.Seeds.{GivesSeed, IsLongFront, IsSeed, LoadsFront, random_name}

module _ (v : Vec ℕ Global) (seed : List ℕ) (long : 32 ≤ length v.items) (is : seed ≡ take 32 v.items) where
  of_file : (file : Option (List ℕ)) → IsSomeAnd file (λ all. IsLongFront all v.items) → IsSomeAnd file (λ bytes. (32 ≤ length bytes) × (seed ≡ take 32 bytes))
  of_file None h = elim h [ ]
  of_file (Some all) h = let fits : length v.items ≤ length all = h.1 in (omega (arith, long, fits), is ∙ (ap (λ (xs : List ℕ). take 32 xs) h.0 ∙ take-take 32 (length v.items) all long))

  of_files : (held : Option Files) → LoadsFront held random_name (Ok v) → IfSome held (λ files. IsSomeAnd (files random_name) (λ bytes. (32 ≤ length bytes) × (seed ≡ take 32 bytes)))
  of_files None h = tt
  of_files (Some files) h = of_file (files random_name) h

  -- the first 32 bytes are a seed
  pub drawn : (old : Seen) → LoadsFront old.files random_name (Ok v) → IsSeed old seed
  drawn old loads = record { size = ap length is ∙ length-take-le 32 v.items long; told = of_files old.files loads }

-- the run ends where no bytes were read
pub unread : (old new : Seen) (fault : LoadFault) (h : Halt) → LoadsFront old.files random_name (Err fault) → ◌≢◌ {A = Result (Vec ℕ Global) LoadFault} (Err fault) (Err TooLarge)
    → (◌≡◌ {A = Result (Vec ℕ Global) LoadFault} (Err fault) (Err Missing) → Missed old new) → (◌≡◌ {A = Result (Vec ℕ Global) LoadFault} (Err fault) (Err Failed) → ReadFailed old new) → IsHaltOf random_name 32 fault h → GivesSeed old new (Err h)
unread old new fault halts.Memory loads never missed failed is = tt
unread old new Missing (halts.End e) loads never missed failed is = inr (inl (missed refl, loads, is))
unread old new TooLarge (halts.End e) loads never missed failed is = absurd (never refl)
unread old new Failed (halts.End e) loads never missed failed is = inl (failed refl, is)
unread old new OutOfMemory (halts.End e) loads never missed failed is = absurd is

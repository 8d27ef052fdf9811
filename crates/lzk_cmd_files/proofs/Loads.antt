-- Reading a file to its end, one read further.
use Rattle.std.proofs.Common.{◌≡◌, ◌+◌, ◌<◌, ◌≤◌, ◌∙◌, ℕ, Bool, true, false, List, [], ◌++◌, length, length-append, take, drop, Option, Some, None, Result, Ok, Err, refl, sym, ap, subst, arith}
use Rattle.std.specs.Prelude.{IsTrue, IfSome}
use Rattle.std.specs.Option.{IsSomeAnd}
use Rattle.std.proofs.Math.Seq.{take-add}
use Rattle.std.proofs.lemmas.List.{take_all, length-take-le}
use Rattle.lzk_outside.specs.Outside.{Files, ReadsFile, Rose}
use Rattle.lzk_cmd_files.specs.declared.load.LoadFault.{LoadFault}
use Rattle.lzk_cmd_files.specs.declared.load.LoadFault.TheVariants.{Missing, TooLarge, Failed, OutOfMemory}
use Rattle.lzk_cmd_files.specs.Files.{IsFront}
use Rattle.lzk_cmd_files.specs.Seen.{Seen, ReadFailed}
use Rattle.lzk_cmd_files.proofs.Sights.{where_told, at_told}

-- answers that are not one another
pub ok_is_no_fault : {T : Type 0} (x : T) (fault : LoadFault) → ◌≡◌ {A = Result T LoadFault} (Ok x) (Err fault) → ⊥
ok_is_no_fault x fault e = cc

pub missing_is_not_failed : {T : Type 0} → ◌≡◌ {A = Result T LoadFault} (Err Missing) (Err Failed) → ⊥
missing_is_not_failed e = cc

pub failed_is_not_missing : {T : Type 0} → ◌≡◌ {A = Result T LoadFault} (Err Failed) (Err Missing) → ⊥
failed_is_not_missing e = cc

pub memory_is_not_missing : {T : Type 0} → ◌≡◌ {A = Result T LoadFault} (Err OutOfMemory) (Err Missing) → ⊥
memory_is_not_missing e = cc

pub memory_is_not_failed : {T : Type 0} → ◌≡◌ {A = Result T LoadFault} (Err OutOfMemory) (Err Failed) → ⊥
memory_is_not_failed e = cc

pub large_is_not_missing : {T : Type 0} → ◌≡◌ {A = Result T LoadFault} (Err TooLarge) (Err Missing) → ⊥
large_is_not_missing e = cc

pub large_is_not_failed : {T : Type 0} → ◌≡◌ {A = Result T LoadFault} (Err TooLarge) (Err Failed) → ⊥
large_is_not_failed e = cc

not_true : (b : Bool) → (IsTrue b → ⊥) → b ≡ false
not_true true h = absurd (h refl)
not_true false h = refl

-- a read that failed
pub read_failed : (old new : Seen) → (IsTrue old.never → ⊥) → Rose old.reads new.reads → ReadFailed old new
read_failed old new may rose = record { may = not_true old.never may; rose = rose }

-- nothing was read yet
pub front_none : (file : Option (List ℕ)) (bytes : List ℕ) → bytes ≡ [] → IsFront file bytes
front_none None bytes e = e
front_none (Some all) bytes e = subst (IsFront (Some all)) (sym e) (refl, omega arith)

front_more : (file : Option (List ℕ)) (bytes next buf : List ℕ) (from n : ℕ) → from ≡ length bytes → n ≤ length buf → next ≡ bytes ++ take n buf → IsFront file bytes → ReadsFile file from (Ok n) buf → IsFront file next
front_more None bytes next buf from n at fits is front read = elim read [ ]
front_more (Some all) bytes next buf from n at fits is front read =
    let same : next ≡ take (length bytes + n) all =
    is ∙ (λ j. front.0 j ++ read.bytes j) ∙ ap (λ k. take (length bytes) all ++ take n (drop k all)) at ∙ sym (take-add (length bytes) n all) in
    let long : length next ≡ length bytes + n = ap length is ∙ length-append bytes (take n buf) ∙ ap (λ k. length bytes + k) (length-take-le n buf fits) in
    (same ∙ ap (λ k. take k all) (sym long), omega (arith, long, read.fits, at, front.1))

whole : (file : Option (List ℕ)) (bytes buf : List ℕ) (from n limit : ℕ) → from ≡ length bytes → n ≡ 0 → length bytes ≤ limit → IsFront file bytes → ReadsFile file from (Ok n) buf → (file ≡ Some bytes) × (length bytes ≤ limit)
whole None bytes buf from n limit at none fits front read = elim read [ ]
whole (Some all) bytes buf from n limit at none fits front read =
    let end = read.ends none in
    (ap Some (sym (front.0 ∙ take_all (length bytes) all (omega (arith, end, at)))), fits)

larger : (file : Option (List ℕ)) (bytes : List ℕ) (limit : ℕ) → limit < length bytes → IsFront file bytes → IsSomeAnd file (λ all. limit < length all)
larger None bytes limit long front = absurd (omega (arith, long, ap length front))
larger (Some all) bytes limit long front = omega (arith, long, front.1)

module _ (old mid : Option Files) (same : mid ≡ old) (name bytes : List ℕ) (front : IfSome mid (λ files. IsFront (files name) bytes)) where
  -- the file is larger than the limit
  pub told_larger : (limit : ℕ) → limit < length bytes → IfSome old (λ files. IsSomeAnd (files name) (λ all. limit < length all))
  told_larger limit long = where_told old _ (λ files at. larger (files name) bytes limit long (at_told mid _ files (same ∙ at) front))

  module _ (from n : ℕ) (buf : List ℕ) (at : from ≡ length bytes) (read : IfSome mid (λ files. ReadsFile (files name) from (Ok n) buf)) where
    -- and no byte is behind what was read
    pub told_whole : (limit : ℕ) → n ≡ 0 → length bytes ≤ limit → IfSome old (λ files. (files name ≡ Some bytes) × (length bytes ≤ limit))
    told_whole limit none fits = where_told old _ (λ files is. whole (files name) bytes buf from n limit at none fits (at_told mid _ files (same ∙ is) front) (at_told mid _ files (same ∙ is) read))

    -- or some are
    pub told_more : (new : Option Files) (next : List ℕ) → new ≡ mid → n ≤ length buf → next ≡ bytes ++ take n buf → IfSome new (λ files. IsFront (files name) next)
    told_more new next kept fits more = where_told new _ (λ files is. front_more (files name) bytes next buf from n at fits more (at_told mid _ files (sym kept ∙ is) front) (at_told mid _ files (sym kept ∙ is) read))

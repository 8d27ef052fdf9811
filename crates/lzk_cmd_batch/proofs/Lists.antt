-- What holds of the files of a batch.
use Rattle.std.proofs.Common.{◌≡◌, ◌⊎◌, ◌+◌, ◌<◌, ◌≤◌, inl, inr, ℕ, Bool, true, false, List, length, Result, Ok, Err, refl, sym, ap, ◌∙◌, arith, ltb-false}
use Rattle.std.specs.Prelude.{nat_lt}
use Rattle.std.proofs.lemmas.Bool.{ltb-true}
use Rattle.lzk_batch.specs.Lists.{Listed, ListText, IsListFault, entries_of}
use Rattle.lzk_batch.specs.declared.list_fault.ListFault.{ListFault}
use Rattle.lzk_batch.specs.declared.list_fault.ListKind.{ListKind}
use Rattle.lzk_batch.specs.declared.list_fault.ListKind.TheVariants as kinds
use Rattle.lzk_batch.proofs.ListTexts.{list_text, list_read, ok_same}
use Rattle.lzk_cmd_batch.specs.Batched.{Among, TooMany, Own, among, list_files, list_kind_name, total_limit}
use Rattle.lzk_cmd_files.specs.Ends.{says}
use Rattle.lzk_cmd_files.specs.Formats.{Format}
use Rattle.lzk_cmd_files.specs.Lines.{text_line}
use Rattle.lzk_cmd_files.specs.Refusals.{Larger, Jobs, Form, Limit}
use Rattle.lzk_cmd_files.proofs.Causes.{IsQuiet}
use Rattle.lzk_cmd_files.proofs.Laws.{IsLawful, refusal_quiet}

-- ---- lists

one_list : (text : List ℕ) (a b : List Listed) → ListText text a → ListText text b → a ≡ b
one_list text a b h k = ok_same text a b (list_read text a h) (list_read text b k)

no_fault : (text : List ℕ) (a : List Listed) (fault : ListFault) → ListText text a → IsListFault text fault → ⊥
no_fault text a fault h broken = let read = list_read text a h in absurd cc

one_fault : (text : List ℕ) (f g : ListFault) → IsListFault text f → IsListFault text g → f ≡ g
one_fault text f g h k = cc (sym h ∙ k)

pub quiet : (name : List ℕ) (fault : ListFault) → IsQuiet (list_files.refused name fault)
quiet name fault = go fault.kind
  where
    go : (kind : ListKind) → IsQuiet (says 3 (text_line name fault.line (list_kind_name kind)))
    go kinds.Syntax = refusal_quiet (Jobs name fault.line Form) tt
    go kinds.Limit = refusal_quiet (Jobs name fault.line Limit) tt

pub lawful : IsLawful list_files
lawful = record {
  one = one_list;
  not_both = no_fault;
  one_refusal = λ name text f g h k. ap (λ fault. list_files.refused name fault) (one_fault text f g h k);
  quiet = quiet;
}

pub total : (text : List ℕ) → ((entries : List Listed) × ListText text entries) ⊎ ((fault : ListFault) × IsListFault text fault)
total text = go (entries_of text) refl
  where
    go : (r : Result (List Listed) ListFault) → entries_of text ≡ r → ((entries : List Listed) × ListText text entries) ⊎ ((fault : ListFault) × IsListFault text fault)
    go (Ok entries) e = inl (entries, list_text text entries e)
    go (Err fault) e = inr (fault, e)

-- ---- files behind others

pub too_many : (limit taken bytes all : ℕ) → all ≡ taken + bytes → all ≤ limit → limit < taken + bytes → ⊥
too_many limit taken bytes all is few more = omega arith

module _ {X F : Type 0} (format : Format X F) (taken : ℕ) where
  pub among_quiet : ((name : List ℕ) (fault : F) → IsQuiet (format.refused name fault)) → (name : List ℕ) (fault : Among F) → IsQuiet ((among taken format).refused name fault)
  among_quiet law name TooMany = refusal_quiet (Larger name total_limit) tt
  among_quiet law name (Own fault) = law name fault

  pub among_total : (bytes : List ℕ) → ((x : X) × format.means bytes x) ⊎ ((fault : F) × format.breaks bytes fault)
      → ((found : X × ℕ) × (among taken format).means bytes found) ⊎ ((fault : Among F) × (among taken format).breaks bytes fault)
  among_total bytes h = go (nat_lt total_limit (taken + length bytes)) refl h
    where
      go : (more : Bool) → nat_lt total_limit (taken + length bytes) ≡ more → ((x : X) × format.means bytes x) ⊎ ((fault : F) × format.breaks bytes fault)
          → ((found : X × ℕ) × (among taken format).means bytes found) ⊎ ((fault : Among F) × (among taken format).breaks bytes fault)
      go true e h = inr (TooMany, ltb-true total_limit (taken + length bytes) e)
      go false e (inl (x, means)) = inl ((x, taken + length bytes), (means, refl, ltb-false total_limit (taken + length bytes) e))
      go false e (inr (fault, breaks)) = inr (Own fault, (ltb-false total_limit (taken + length bytes) e, breaks))

module _ {X F : Type 0} (format : Format X F) (law : IsLawful format) (taken : ℕ) where
  one_among : (bytes : List ℕ) (x y : X × ℕ) → (among taken format).means bytes x → (among taken format).means bytes y → x ≡ y
  one_among bytes (x, n) (y, m) h k = ap (λ z. (z, n)) (law.one bytes x y h.0 k.0) ∙ ap (λ z. (y, z)) (h.1 ∙ sym k.1)

  not_both : (bytes : List ℕ) (x : X × ℕ) (fault : Among F) → (among taken format).means bytes x → (among taken format).breaks bytes fault → ⊥
  not_both bytes (x, n) TooMany h more = too_many total_limit taken (length bytes) n h.1 h.2 more
  not_both bytes (x, n) (Own fault) h broken = law.not_both bytes x fault h.0 broken.1

  fits_not : (bytes : List ℕ) → total_limit < taken + length bytes → taken + length bytes ≤ total_limit → ⊥
  fits_not bytes more few = too_many total_limit taken (length bytes) (taken + length bytes) refl few more

  one_refusal : (name bytes : List ℕ) (f g : Among F) → (among taken format).breaks bytes f → (among taken format).breaks bytes g → (among taken format).refused name f ≡ (among taken format).refused name g
  one_refusal name bytes TooMany TooMany h k = refl
  one_refusal name bytes TooMany (Own g) h k = absurd (fits_not bytes h k.0)
  one_refusal name bytes (Own f) TooMany h k = absurd (fits_not bytes k h.0)
  one_refusal name bytes (Own f) (Own g) h k = law.one_refusal name bytes f g h.1 k.1

  pub among_lawful : IsLawful (among taken format)
  among_lawful = record { one = one_among; not_both = not_both; one_refusal = one_refusal; quiet = among_quiet format taken law.quiet }

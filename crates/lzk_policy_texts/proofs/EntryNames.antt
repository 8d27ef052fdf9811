-- The lines of a text of values, one after another.
use Rattle.std.proofs.Common.{◌≡◌, ℕ, suc, ◌+◌, ◌<◌, ◌≤◌, List, ◌∷◌, length, get_or, drop, Some, None, Ok, true, false, sym, ap, ◌∙◌, refl, add-one, drop-cons}
use Rattle.std.proofs.lemmas.List.{drop_all}
use Rattle.lzk_policy.specs.declared.policy.Show.{Show}
use Rattle.lzk_policy_texts.specs.declared.entries.Entry.{Entry}
use Rattle.lzk_policy_texts.specs.declared.entries.ValuesKind.TheVariants as rules
use Rattle.lzk_policy_texts.specs.Chosen.{entry_for, has_name, is_asked, is_named, none_stray}
use Rattle.lzk_policy_texts.specs.Entries.{breaks}

-- what is left begins with the next line
drop_at : (es : List Entry) (k : ℕ) (e : Entry) → k < length es → e ≡ get_or es k e → drop k es ≡ e ∷ drop (k + 1) es
drop_at es k e less is = rw add-one (drop-cons es k e less ∙ ap (λ x. x ∷ drop (suc k) es) (sym is))

module _ (shows : List Show) (es : List Entry) (k : ℕ) (e : Entry) (less : k < length es) (is : e ≡ get_or es k e) where
  pub asked : is_asked shows e.name ≡ true → none_stray shows (drop k es) ≡ none_stray shows (drop (k + 1) es)
  unfolding none_stray
  asked h = rw (drop_at es k e less is) (rw h refl)

  pub stray : is_asked shows e.name ≡ false → none_stray shows (drop k es) ≡ breaks e.line rules.Unknown
  unfolding none_stray
  stray h = rw (drop_at es k e less is) (rw h refl)

pub no_stray : (shows : List Show) (es : List Entry) (k : ℕ) → length es ≤ k → none_stray shows (drop k es) ≡ Ok tt
unfolding none_stray
no_stray shows es k all = rw (drop_all k es all) refl

module _ (name : List ℕ) (es : List Entry) (k : ℕ) (e : Entry) (less : k < length es) (is : e ≡ get_or es k e) where
  pub named : is_named name e ≡ true → has_name name (drop k es) ≡ true
  unfolding has_name
  named h = rw (drop_at es k e less is) (rw h refl)

  pub unnamed : is_named name e ≡ false → has_name name (drop k es) ≡ has_name name (drop (k + 1) es)
  unfolding has_name
  unnamed h = rw (drop_at es k e less is) (rw h refl)

  pub found_twice : is_named name e ≡ true → has_name name (drop (k + 1) es) ≡ true → entry_for (drop k es) name ≡ breaks e.line rules.Repeated
  unfolding entry_for
  found_twice h more = rw (drop_at es k e less is) (rw h (rw more refl))

  pub found : is_named name e ≡ true → has_name name (drop (k + 1) es) ≡ false → entry_for (drop k es) name ≡ Ok (Some e)
  unfolding entry_for
  found h more = rw (drop_at es k e less is) (rw h (rw more refl))

  pub not_found : is_named name e ≡ false → entry_for (drop k es) name ≡ entry_for (drop (k + 1) es) name
  unfolding entry_for
  not_found h = rw (drop_at es k e less is) (rw h refl)

pub no_name : (name : List ℕ) (es : List Entry) (k : ℕ) → length es ≤ k → has_name name (drop k es) ≡ false
unfolding has_name
no_name name es k all = rw (drop_all k es all) refl

pub no_entry : (name : List ℕ) (es : List Entry) (k : ℕ) → length es ≤ k → entry_for (drop k es) name ≡ Ok None
unfolding entry_for
no_entry name es k all = rw (drop_all k es all) refl

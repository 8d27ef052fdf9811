-- Texts, word after word.
use Rattle.std.proofs.Common.{◌≡◌, ℕ, ◌<◌, ◌≤◌, Bool, true, false, List, [], ◌∷◌, ◌++◌, length, Option, Some, None, refl, ap, ◌∙◌}
use Rattle.std.specs.Prelude.{◌&&◌, ◌==◌, if◌then◌else◌}
use Rattle.std.proofs.lemmas.Bool.{eq-eqb, eqb-true, lt-ltb, le-ltb, false_from_ne_true}
use Rattle.lzk_expr.specs.Texts.{runs, is_plain, IsRun}
use Rattle.lzk_policy.specs.Lines.{texts_behind, most_texts}

module _ (size : ℕ) (have : List (List ℕ)) (bytes word rest : List ℕ) (h : IsRun is_plain bytes word rest) where
  pub texts_next : length word ≡ size → length have < most_texts
      → texts_behind size have (runs is_plain bytes) ≡ texts_behind size (have ++ word ∷ []) (runs is_plain rest)
  unfolding texts_behind
  texts_next e l = ap (texts_behind size have) h.runs_are ∙ rw (eq-eqb (length word) size e, lt-ltb (length have) most_texts l) refl

  pub other_size : (length word ≡ size → ⊥) → texts_behind size have (runs is_plain bytes) ≡ None
  unfolding texts_behind
  other_size ne =
      let fails : (length word == size) ≡ false = false_from_ne_true (length word == size) (λ e. ne (eqb-true (length word) size e)) in
      ap (texts_behind size have) h.runs_are ∙ rw fails refl

  neither : (b : Bool) (o : Option (List (List ℕ))) → (if b && false then o else None) ≡ None
  neither true o = refl
  neither false o = refl

  pub many_texts : most_texts ≤ length have → texts_behind size have (runs is_plain bytes) ≡ None
  unfolding texts_behind
  many_texts l = ap (texts_behind size have) h.runs_are ∙ rw (le-ltb (length have) most_texts l) (neither (length word == size) _)

pub texts_done : (size : ℕ) (have : List (List ℕ)) (bytes : List ℕ) → runs is_plain bytes ≡ [] → texts_behind size have (runs is_plain bytes) ≡ Some have
unfolding texts_behind
texts_done size have bytes e = ap (texts_behind size have) e

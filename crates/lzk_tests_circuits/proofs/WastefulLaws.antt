-- The layers of which the lower one has a wire that nothing uses may be handed in.
use Rattle.std.proofs.Common.{◌≡◌, ◌≢◌, ◌∙◌, ℕ, zero, suc, ◌+◌, ◌*◌, ◌≤◌, ◌<◌, true, List, [], ◌∷◌, None, refl, sym, ap, arith}
use Rattle.std.proofs.Math.Dec.{ltb, leb}
use Rattle.std.proofs.lemmas.Bool.{eqb-false, leb-true, ltb-true}
use Rattle.lzk_field.specs.Ring.{Ops}
use Rattle.lzk_circuit.specs.Limits.{most_wires, most_total}
use Rattle.lzk_circuit.specs.Valid.{AreLayers, AreTerms, IsTerm}
use Rattle.lzk_circuit_reduce.specs.Attached.{AreNarrowWith}
use Rattle.lzk_circuit_reduce.specs.Reduced.{HaveOnes, AreDifferent, AreInnerDifferent, terms_of}
use Rattle.lzk_circuit_reduce.specs.Targets.{AreAllTerms, AreTargets}
use Rattle.lzk_tests_circuits.specs.Wasteful.{product, lower, upper, wasteful, asserted}

module _ {A : Type 0} (o : Ops A) where
  pub ones : HaveOnes o (wasteful o)
  ones = (refl, tt)

  -- a number for the first of some terms
  abbrev key : List (ℕ × ℕ × A) → ℕ
  key [] = 9
  key ((a, b, c) ∷ ts) = 3 * a + b

  apart : (g h k l : ℕ) → key (terms_of g (lower o).terms) ≡ k → key (terms_of h (lower o).terms) ≡ l → (k ≡ l → ⊥) → terms_of g (lower o).terms ≡ terms_of h (lower o).terms → ⊥
  apart g h k l p q other e = other (sym p ∙ ap key e ∙ q)

  not_less : (g h : ℕ) → h ≤ g → g < h → ⊥
  not_less g h le lt = omega arith

  not_few : (h : ℕ) → suc (suc (suc (suc h))) < 4 → ⊥
  not_few h few = omega arith

  not_between : (g h : ℕ) → suc (suc (suc g)) < h → h < 4 → ⊥
  not_between g h lt few = omega arith

  lower_different : AreDifferent (lower o)
  lower_different zero zero lt few e = not_less 0 0 (leb-true 0 0 refl) lt
  lower_different zero (suc zero) lt few e = apart 0 1 0 5 refl refl (eqb-false 0 5 refl) e
  lower_different zero (suc (suc zero)) lt few e = apart 0 2 0 8 refl refl (eqb-false 0 8 refl) e
  lower_different zero (suc (suc (suc zero))) lt few e = apart 0 3 0 1 refl refl (eqb-false 0 1 refl) e
  lower_different zero (suc (suc (suc (suc h)))) lt few e = not_few h few
  lower_different (suc zero) zero lt few e = not_less 1 0 (leb-true 0 1 refl) lt
  lower_different (suc zero) (suc zero) lt few e = not_less 1 1 (leb-true 1 1 refl) lt
  lower_different (suc zero) (suc (suc zero)) lt few e = apart 1 2 5 8 refl refl (eqb-false 5 8 refl) e
  lower_different (suc zero) (suc (suc (suc zero))) lt few e = apart 1 3 5 1 refl refl (eqb-false 5 1 refl) e
  lower_different (suc zero) (suc (suc (suc (suc h)))) lt few e = not_few h few
  lower_different (suc (suc zero)) zero lt few e = not_less 2 0 (leb-true 0 2 refl) lt
  lower_different (suc (suc zero)) (suc zero) lt few e = not_less 2 1 (leb-true 1 2 refl) lt
  lower_different (suc (suc zero)) (suc (suc zero)) lt few e = not_less 2 2 (leb-true 2 2 refl) lt
  lower_different (suc (suc zero)) (suc (suc (suc zero))) lt few e = apart 2 3 8 1 refl refl (eqb-false 8 1 refl) e
  lower_different (suc (suc zero)) (suc (suc (suc (suc h)))) lt few e = not_few h few
  lower_different (suc (suc (suc g))) h lt few e = not_between g h lt few

  pub different : AreInnerDifferent (wasteful o)
  different = (lower_different, tt)

  pub targets : AreTargets 3 asserted (wasteful o)
  targets = ((ltb-true 1 4 refl, tt), ((ltb-true 2 3 refl, tt), tt))

  pub narrow : AreNarrowWith most_wires asserted (wasteful o)
  narrow = (leb-true 2 most_wires refl, (leb-true 5 most_wires refl, tt))

  module _ (some : o.one ≢ o.zero) where
    is_term : (wires width g a b : ℕ) → ltb g wires ≡ true → leb a b ≡ true → ltb b width ≡ true → IsTerm o wires width (product o g a b)
    is_term wires width g a b g_is a_is b_is = record { g = ltb-true g wires g_is; a = leb-true a b a_is; b = ltb-true b width b_is; coef = some }

    upper_terms : AreTerms o 1 4 None (upper o).terms
    upper_terms = (is_term 1 4 0 0 2 refl refl refl, refl, (is_term 1 4 0 2 3 refl refl refl, refl, tt))

    lower_terms : AreTerms o 4 3 None (lower o).terms
    lower_terms = (is_term 4 3 0 0 0 refl refl refl, refl, (is_term 4 3 1 1 2 refl refl refl, refl, (is_term 4 3 2 2 2 refl refl refl, refl, (is_term 4 3 3 0 1 refl refl refl, refl, tt))))

    pub all_terms : AreAllTerms o 3 (wasteful o)
    all_terms = (upper_terms, (lower_terms, tt))

    pub layers_are : AreLayers o 3 (wasteful o)
    layers_are = (
      record { some = leb-true 1 1 refl; most = leb-true 1 most_wires refl; wires = leb-true 5 most_total refl; terms = leb-true 6 most_total refl; each = upper_terms },
      (record { some = leb-true 1 4 refl; most = leb-true 4 most_wires refl; wires = leb-true 4 most_total refl; terms = leb-true 4 most_total refl; each = lower_terms }, tt),
    )

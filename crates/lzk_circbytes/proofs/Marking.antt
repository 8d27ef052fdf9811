-- Flags of the constants that were met.
use Rattle.std.proofs.Common.{◌≡◌, ◌≢◌, ℕ, zero, suc, ◌+◌, ◌-◌, ◌<◌, ◌⊎◌, Bool, true, false, cond, eqb, ◌||◌, List, [], ◌∷◌, ◌++◌, length, get_or, set, drop, Some, refl, sym, ap, subst, ◌∙◌, arith, inl, inr, slice_index, get_or-set_other, get_or-set_same}
use Rattle.std.specs.List.Sorted.{IsStrictlyIncreasing}
use native.Mathlib.Decide.{dec_lt}
use Rattle.std.proofs.lemmas.Bool.{eqb-true, eqb-false, eq-eqb, ne_eqb}
use Rattle.std.proofs.lemmas.List.Folds.{list_any-append}
use Rattle.lzk_circuit.specs.declared.layer.Term.{Term}
use Rattle.lzk_circuit.specs.declared.layer.Layer.{Layer}
use Rattle.lzk_circbytes.specs.Numbered.{is_in_terms, is_coefficient}
use Rattle.lzk_circbytes.specs.Reading.{unused_from}
use Rattle.lzk_circbytes.specs.Answers.{Marks, unmarked_from}

or-or : (a b c : Bool) → (a || (b || c)) ≡ ((a || b) || c)
or-or true b c = refl
or-or false b c = refl

or-end : (a : Bool) → (a || false) ≡ a
or-end true = refl
or-end false = refl

or-top : (a b : Bool) → b ≡ true → true ≡ (a || b)
or-top true b e = refl
or-top false b e = sym e

pub same_or_not : (i k : ℕ) → (i ≡ k) ⊎ (i ≢ k)
same_or_not i k = elim (eqb i k) as (λ b. eqb i k ≡ b → (i ≡ k) ⊎ (i ≢ k)) [ true ↦ λ e. inl (eqb-true i k e) | false ↦ λ e. inr (eqb-false i k e) ] refl

-- numbers that rise at each step rise over more
rises_over : (xs : List ℕ) → IsStrictlyIncreasing xs → (i d : ℕ) → i + suc d < length xs → slice_index xs i < slice_index xs (i + suc d)
rises_over xs up i zero lt = up i lt
rises_over xs up i (suc d) lt =
    let e : i + suc (suc d) ≡ (i + suc d) + 1 = omega arith in
    let less : i + suc d < length xs = omega (arith, lt) in
    let step : slice_index xs (i + suc d) < slice_index xs ((i + suc d) + 1) = up (i + suc d) (omega (arith, lt, e)) in
    subst (λ (j : ℕ). slice_index xs i < slice_index xs j) (sym e) (omega (arith, rises_over xs up i d less, step))

pub before_is_less : (xs : List ℕ) → IsStrictlyIncreasing xs → (i j : ℕ) → i < j → j < length xs → slice_index xs i < slice_index xs j
before_is_less xs up i j lt in_range =
    let e : i + suc (j - i - 1) ≡ j = omega (arith, lt) in
    subst (λ (k : ℕ). slice_index xs i < slice_index xs k) e (rises_over xs up i (j - i - 1) (omega (arith, e, in_range)))

pub differ : (xs : List ℕ) → IsStrictlyIncreasing xs → (i j : ℕ) → i ≢ j → i < length xs → j < length xs → slice_index xs i ≢ slice_index xs j
differ xs up i j ne hi hj e =
    elim (dec_lt i j) [
      | yes lt ↦ omega (arith, e, before_is_less xs up i j lt hj)
      | no ge ↦ let lt : j < i = omega arith in omega (arith, e, before_is_less xs up j i lt hi)
    ]

is_in_terms-push : (ts : List (Term ℕ)) (t : Term ℕ) (n : ℕ) → is_in_terms (ts ++ t ∷ []) n ≡ (is_in_terms ts n || eqb n t.coef)
is_in_terms-push ts t n = list_any-append (λ u. eqb n u.coef) ts (t ∷ []) ∙ ap (λ b. is_in_terms ts n || b) (or-end (eqb n t.coef))

is_coefficient-push : (ls : List (Layer ℕ)) (l : Layer ℕ) (n : ℕ) → is_coefficient (ls ++ l ∷ []) n ≡ (is_coefficient ls n || is_in_terms l.terms n)
is_coefficient-push ls l n = list_any-append (λ layer. is_in_terms layer.terms n) ls (l ∷ []) ∙ ap (λ b. is_coefficient ls n || b) (or-end (is_in_terms l.terms n))

pub marks_none : (numbers : List ℕ) (test : ℕ → Bool) (flags : List Bool) → ((n : ℕ) → test n ≡ false) → Marks numbers test flags flags
marks_none numbers test flags none i lt = sym (ap (λ b. get_or flags i false || b) (none (slice_index numbers i)) ∙ or-end (get_or flags i false))

pub marks_term : (numbers : List ℕ) → IsStrictlyIncreasing numbers → (ts : List (Term ℕ)) (t : Term ℕ) (k : ℕ) (old flags : List Bool) → k < length numbers → k < length flags → t.coef ≡ slice_index numbers k
    → Marks numbers (is_in_terms ts) old flags → Marks numbers (is_in_terms (ts ++ t ∷ [])) old (set flags k true)
marks_term numbers up ts t k old flags in_numbers in_flags coef h i lt =
    elim (same_or_not i k) [
      | inl same ↦
          let met : eqb (slice_index numbers i) t.coef ≡ true = eq-eqb (slice_index numbers i) t.coef (ap (slice_index numbers) same ∙ sym coef) in
          let flag : get_or (set flags k true) i false ≡ true = ap (λ (j : ℕ). get_or (set flags k true) j false) same ∙ get_or-set_same flags k true false in_flags in
          flag ∙ or-top (get_or old i false) (is_in_terms (ts ++ t ∷ []) (slice_index numbers i)) (is_in_terms-push ts t (slice_index numbers i) ∙ sym (or-top (is_in_terms ts (slice_index numbers i)) (eqb (slice_index numbers i) t.coef) met))
      | inr other ↦
          let missed : eqb (slice_index numbers i) t.coef ≡ false = ne_eqb (slice_index numbers i) t.coef (λ e. differ numbers up i k other lt in_numbers (e ∙ coef)) in
          let flag : get_or (set flags k true) i false ≡ get_or flags i false = get_or-set_other flags k i true false other in
          flag ∙ h i lt ∙ ap (λ b. get_or old i false || b) (sym (is_in_terms-push ts t (slice_index numbers i) ∙ ap (λ b. is_in_terms ts (slice_index numbers i) || b) missed ∙ or-end (is_in_terms ts (slice_index numbers i))))
    ]

pub marks_layer : (numbers : List ℕ) (ls : List (Layer ℕ)) (l : Layer ℕ) (old flags after : List Bool) → Marks numbers (is_coefficient ls) old flags → Marks numbers (is_in_terms l.terms) flags after
    → Marks numbers (is_coefficient (ls ++ l ∷ [])) old after
marks_layer numbers ls l old flags after h more i lt =
    let n = slice_index numbers i in
    more i lt ∙ ap (λ b. b || is_in_terms l.terms n) (h i lt) ∙ sym (or-or (get_or old i false) (is_coefficient ls n) (is_in_terms l.terms n))
    ∙ ap (λ b. get_or old i false || b) (sym (is_coefficient-push ls l n))

-- ---- the first that was not met

pub unmarked_is : (width : ℕ) (layers : List (Layer ℕ)) (numbers : List ℕ) (us : List Bool) (bytes : List ℕ) → length us ≡ length numbers → ((i : ℕ) → i < length numbers → get_or us i false ≡ is_coefficient layers (slice_index numbers i))
    → unmarked_from width us bytes ≡ unused_from width layers numbers bytes
unmarked_is width layers [] [] bytes len h = refl
unmarked_is width layers [] (u ∷ us) bytes len h = absurd (omega (arith, len))
unmarked_is width layers (n ∷ ns) [] bytes len h = absurd (omega (arith, len))
unmarked_is width layers (n ∷ ns) (u ∷ us) bytes len h =
    let first : u ≡ is_coefficient layers n = h 0 (omega arith) in
    let same : length us ≡ length ns = omega (arith, len) in
    let rest = unmarked_is width layers ns us (drop width bytes) same (λ i lt. h (suc i) (omega (arith, lt))) in
    ap (λ b. cond b (unmarked_from width us (drop width bytes)) (Some bytes)) first
    ∙ ap (λ x. cond (is_coefficient layers n) x (Some bytes)) rest

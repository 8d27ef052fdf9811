-- The coefficients of layers, and the constants of their file.
use Rattle.std.proofs.Common.{◌≡◌, ◌≢◌, ℕ, zero, suc, ◌<◌, ◌≤◌, Bool, true, false, cond, ltb, ltb-true, eqb, ◌||◌, List, [], ◌∷◌, length, map, Option, Some, None, refl, sym, ap, subst, ◌∙◌, arith, inl, inr, reverse, length-append}
use Rattle.std.specs.List.{list_any}
use Rattle.std.proofs.lemmas.Bool.{ltb-false, eqb-true, eq-eqb, or_left, or_right, or_cases}
use Rattle.std.proofs.lemmas.List.{length-map}
use Rattle.std.proofs.lemmas.List.Folds.{list_any-append}
use Rattle.std.proofs.lemmas.List.Sorted.{list_any-IsPermutation, IsPermutation-reverse}
use Rattle.lzk_field.specs.Ring.{Ops, Laws}
use Rattle.lzk_circuit.specs.declared.layer.Term.{Term}
use Rattle.lzk_circuit.specs.declared.layer.Layer.{Layer}
use Rattle.lzk_circuit.specs.Valid.{Under, above_layer, under_of, MayEachStand, AreLayersOf}
use Rattle.lzk_circbytes.specs.Numbered.{numbered_term, numbered_layer, is_in_terms, is_coefficient, coefficients, nonzero}
use Rattle.lzk_circbytes.specs.Reading.{as_before}
use Rattle.lzk_circbytes.specs.Fits.{FitAlong, FitsTerm, FitsLayer}
use Rattle.lzk_circbytes.proofs.Ascending.{Has}
use Rattle.lzk_circbytes.proofs.Validity.{index_has, AreIn, AreAllIn}

has_terms : (terms : List (Term ℕ)) (n : ℕ) → list_any (eqb n) (map (λ t. t.coef) terms) ≡ is_in_terms terms n
has_terms [] n = refl
has_terms (t ∷ ts) n = ap (λ b. eqb n t.coef || b) (has_terms ts n)

pub has-coefficients : (layers : List (Layer ℕ)) (n : ℕ) → list_any (eqb n) (coefficients layers) ≡ is_coefficient layers n
has-coefficients [] n = refl
has-coefficients (layer ∷ layers) n =
    list_any-append (eqb n) (map (λ t. t.coef) layer.terms) (coefficients layers)
    ∙ ap (λ b. b || list_any (eqb n) (coefficients layers)) (has_terms layer.terms n)
    ∙ ap (λ b. is_in_terms layer.terms n || b) (has-coefficients layers n)

-- what is among the numbers other than 0
pub nonzero_to : (ns : List ℕ) (n : ℕ) → Has (nonzero ns) n → (0 < n) × Has ns n
nonzero_to [] n e = absurd cc
nonzero_to (x ∷ xs) n e = go (λ h. let r = nonzero_to xs n h in (r.0, or_right (eqb n x) (list_any (eqb n) xs) r.1)) (ltb 0 x) refl e
  where
    go : (Has (nonzero xs) n → (0 < n) × Has (x ∷ xs) n) → (b : Bool) → ltb 0 x ≡ b → Has (cond b (x ∷ nonzero xs) (nonzero xs)) n → (0 < n) × Has (x ∷ xs) n
    go later true some h =
        elim (or_cases (eqb n x) (list_any (eqb n) (nonzero xs)) h) [
          | inl same ↦ (omega (arith, eqb-true n x same, ltb-true 0 x some), or_left (eqb n x) (list_any (eqb n) xs) same)
          | inr rest ↦ later rest
        ]
    go later false none h = later h

pub nonzero_from : (ns : List ℕ) (n : ℕ) → 0 < n → Has ns n → Has (nonzero ns) n
nonzero_from [] n some e = absurd cc
nonzero_from (x ∷ xs) n some e = go (nonzero_from xs n some) (ltb 0 x) refl
  where
    go : (Has xs n → Has (nonzero xs) n) → (b : Bool) → ltb 0 x ≡ b → Has (cond b (x ∷ nonzero xs) (nonzero xs)) n
    go later true above =
        elim (or_cases (eqb n x) (list_any (eqb n) xs) e) [
          | inl same ↦ or_left (eqb n x) (list_any (eqb n) (nonzero xs)) same
          | inr rest ↦ or_right (eqb n x) (list_any (eqb n) (nonzero xs)) (later rest)
        ]
    go later false none =
        elim (or_cases (eqb n x) (list_any (eqb n) xs) e) [
          | inl same ↦ absurd (omega (arith, some, eqb-true n x same, ltb-false 0 x none))
          | inr rest ↦ later rest
        ]

pub nonzero_length : (ns : List ℕ) → length (nonzero ns) ≤ length ns
nonzero_length [] = omega arith
nonzero_length (x ∷ xs) = go (ltb 0 x) (nonzero_length xs)
  where
    go : (b : Bool) → length (nonzero xs) ≤ length xs → length (cond b (x ∷ nonzero xs) (nonzero xs)) ≤ suc (length xs)
    go true h = omega (arith, h)
    go false h = omega (arith, h)

pub is_coefficient-reverse : (layers : List (Layer ℕ)) (n : ℕ) → is_coefficient (reverse layers) n ≡ is_coefficient layers n
is_coefficient-reverse layers n = sym (list_any-IsPermutation (λ layer. is_in_terms layer.terms n) layers (reverse layers) (IsPermutation-reverse layers))

-- ---- a coefficient that fits is a constant

terms_in : (cs : List ℕ) (wires below : ℕ) (before : Option (Term ℕ)) (terms : List (Term ℕ)) → FitAlong as_before (FitsTerm cs wires below) before terms → (n : ℕ) → is_in_terms terms n ≡ true → Has cs n
terms_in cs wires below before [] h n e = absurd cc
terms_in cs wires below before (t ∷ ts) h n e =
    elim (or_cases (eqb n t.coef) (is_in_terms ts n) e) [
      | inl same ↦ subst (λ (k : ℕ). Has cs k) (sym (eqb-true n t.coef same)) (index_has cs t.coef h.0.number)
      | inr later ↦ terms_in cs wires below (Some t) ts h.1 n later
    ]

pub layers_in : (cs : List ℕ) (under : Under) (layers : List (Layer ℕ)) → FitAlong above_layer (FitsLayer cs) under layers → (n : ℕ) → is_coefficient layers n ≡ true → Has cs n
layers_in cs under [] h n e = absurd cc
layers_in cs under (layer ∷ layers) h n e =
    elim (or_cases (is_in_terms layer.terms n) (is_coefficient layers n) e) [
      | inl here ↦ terms_in cs layer.wires under.width None layer.terms h.0.terms n here
      | inr later ↦ layers_in cs (above_layer under layer) layers h.1 n later
    ]

-- ---- how many there are

pub length-coefficients : (inputs : ℕ) (layers : List (Layer ℕ)) → length (coefficients layers) ≡ (under_of inputs layers).terms
length-coefficients inputs [] = refl
length-coefficients inputs (layer ∷ layers) =
    let e = length-append (map (λ t. t.coef) layer.terms) (coefficients layers) in
    let m = length-map layer.terms (λ (t : Term ℕ). t.coef) in
    omega (arith, e, m, length-coefficients inputs layers)

module _ {A : Type 0} (o : Ops A) (size : ℕ) (number : A → ℕ) (element : ℕ → A) (bytes : ℕ) (laws : Laws o size number element bytes) where
  pub positive : (x : A) → x ≢ o.zero → 0 < number x
  positive x h = some (number x) refl
    where
      named : number x ≡ 0 → x ≡ o.zero
      named e = sym (laws.numbers.element_number x) ∙ ap element (e ∙ sym laws.numbers.zero_number) ∙ laws.numbers.element_number o.zero

      some : (n : ℕ) → number x ≡ n → 0 < n
      some zero e = absurd (h (named e))
      some (suc n) e = omega arith

  -- numbers of elements that are not zero
  pub record IsNumber (n : ℕ) : Type 0 where
    pub some : 0 < n
    pub below : n < size

  terms_small : (terms : List (Term A)) (n : ℕ) → is_in_terms (map (numbered_term number) terms) n ≡ true → n < size
  terms_small [] n e = absurd cc
  terms_small (t ∷ ts) n e =
      elim (or_cases (eqb n (number t.coef)) (is_in_terms (map (numbered_term number) ts) n) e) [
        | inl same ↦ subst (λ (k : ℕ). k < size) (sym (eqb-true n (number t.coef) same)) (laws.numbers.below t.coef)
        | inr later ↦ terms_small ts n later
      ]

  pub layers_small : (layers : List (Layer A)) (n : ℕ) → is_coefficient (map (numbered_layer number) layers) n ≡ true → n < size
  layers_small [] n e = absurd cc
  layers_small (layer ∷ layers) n e =
      elim (or_cases (is_in_terms (map (numbered_term number) layer.terms) n) (is_coefficient (map (numbered_layer number) layers) n) e) [
        | inl here ↦ terms_small layer.terms n here
        | inr later ↦ layers_small layers n later
      ]

  -- in version 1 a coefficient is not 0
  terms_some : (terms : List (Term A)) (before : Option (Term A)) → MayEachStand o 1 before terms → (n : ℕ) → is_in_terms (map (numbered_term number) terms) n ≡ true → 0 < n
  terms_some [] before h n e = absurd cc
  terms_some (t ∷ ts) before h n e =
      elim (or_cases (eqb n (number t.coef)) (is_in_terms (map (numbered_term number) ts) n) e) [
        | inl same ↦ let first = h.0 in subst (λ (k : ℕ). 0 < k) (sym (eqb-true n (number t.coef) same)) (positive t.coef (first.nonzero refl))
        | inr later ↦ terms_some ts (Some t) h.1 n later
      ]

  pub layers_some : (inputs : ℕ) (layers : List (Layer A)) → AreLayersOf o 1 inputs layers → (n : ℕ) → is_coefficient (map (numbered_layer number) layers) n ≡ true → 0 < n
  layers_some inputs [] h n e = absurd cc
  layers_some inputs (layer ∷ layers) h n e =
      elim (or_cases (is_in_terms (map (numbered_term number) layer.terms) n) (is_coefficient (map (numbered_layer number) layers) n) e) [
        | inl here ↦ let first = h.0 in terms_some layer.terms None first.coefs n here
        | inr later ↦ layers_some inputs layers h.1 n later
      ]

  -- each coefficient is a constant, where the constants are those of the file
  terms_are_in : (cs : List ℕ) (terms : List (Term A)) → ((n : ℕ) → is_in_terms (map (numbered_term number) terms) n ≡ true → Has cs n) → AreIn o number cs terms
  terms_are_in cs [] h = tt
  terms_are_in cs (t ∷ ts) h = (
    h (number t.coef) (or_left (eqb (number t.coef) (number t.coef)) (is_in_terms (map (numbered_term number) ts) (number t.coef)) (eq-eqb (number t.coef) (number t.coef) refl)),
    terms_are_in cs ts (λ n e. h n (or_right (eqb n (number t.coef)) (is_in_terms (map (numbered_term number) ts) n) e)),
  )

  pub layers_are_in : (cs : List ℕ) (layers : List (Layer A)) → ((n : ℕ) → is_coefficient (map (numbered_layer number) layers) n ≡ true → Has cs n) → AreAllIn o number cs layers
  layers_are_in cs [] h = tt
  layers_are_in cs (layer ∷ layers) h =
      let ts = map (numbered_term number) layer.terms in
      let ls = map (numbered_layer number) layers in (
        terms_are_in cs layer.terms (λ n e. h n (or_left (is_in_terms ts n) (is_coefficient ls n) e)),
        layers_are_in cs layers (λ n e. h n (or_right (is_in_terms ts n) (is_coefficient ls n) e)),
      )

-- Asserted wires, one by one.
use Rattle.std.specs.Prelude.{◌≡◌, ℕ, ◌+◌, ◌<◌, ◌==◌, ◌||◌, true, false, Bool, Some, None, List, [], ◌∷◌, ◌++◌, length, map, take, drop}
use Rattle.std.specs.List.{slice_get}
use Rattle.std.proofs.Common.{zero, suc, inl, inr, refl, sym, ap, ◌∙◌, arith, subst, get_or}
use Rattle.std.proofs.lemmas.Bool.{or_cases, or_left, or_right, eq-eqb, eqb-true, both_ways}
use Rattle.std.proofs.lemmas.List.{take_more, drop_more, map-append}
use Rattle.lzk_field.specs.Ring.{Ops}
use Rattle.lzk_field.specs.Sums.{entry}
use Rattle.lzk_circuit.specs.declared.layer.Layer.{Layer}
use Rattle.lzk_circuit.specs.Valid.{under_of}
use Rattle.lzk_circuit_reduce.specs.Marks.{marked_before, AreMarkedPlaces}
use Rattle.lzk_circuit_reduce.specs.Renumbering.{at, AreNumbersBelow, AreCopies}
use Rattle.lzk_circuit_reduce.specs.Targets.{targets_at, behind, is_in, AreBelow, AreTargets}

-- what is asserted stays, under other numbers
pub still-in : (f : ℕ → ℕ) (ws : List ℕ) (k : ℕ) → is_in ws k ≡ true → is_in (map f ws) (f k) ≡ true
still-in f [] k h = absurd (both_ways false refl h)
still-in f (w ∷ ws) k h = elim (or_cases (w == k) (is_in ws k) h) [
  | inl e ↦ or_left (f w == f k) (is_in (map f ws) (f k)) (eq-eqb (f w) (f k) (ap f (eqb-true w k e)))
  | inr more ↦ or_right (f w == f k) (is_in (map f ws) (f k)) (still-in f ws k more)
]

pub in-below : (width : ℕ) (ws : List ℕ) (k : ℕ) → AreBelow width ws → is_in ws k ≡ true → k < width
in-below width [] k h i = absurd (both_ways false refl i)
in-below width (w ∷ ws) k h i = elim (or_cases (w == k) (is_in ws k) i) [
  | inl e ↦ omega (arith, eqb-true w k e, h.0)
  | inr more ↦ in-below width ws k h.1 more
]

pub below-at : (width : ℕ) (ws : List ℕ) (i d : ℕ) → i < length ws → AreBelow width ws → get_or ws i d < width
below-at width [] i d l h = absurd (omega (arith, l))
below-at width (w ∷ ws) zero d l h = h.0
below-at width (w ∷ ws) (suc i) d l h = below-at width ws i d (omega (arith, l)) h.1

pub moved-more : (numbers ws : List ℕ) (i d : ℕ) → i < length ws → map (at numbers) (take (i + 1) ws) ≡ map (at numbers) (take i ws) ++ at numbers (get_or ws i d) ∷ []
moved-more numbers ws i d l = ap (map (at numbers)) (take_more ws i d l) ∙ map-append (at numbers) (take i ws) (get_or ws i d ∷ [])

or_shift : (x p q : Bool) → ((x || p) || q) ≡ (x || (p || q))
or_shift true p q = refl
or_shift false p q = refl

in-drop : (ws : List ℕ) (i d k : ℕ) → i < length ws → is_in (drop i ws) k ≡ ((get_or ws i d == k) || is_in (drop (i + 1) ws) k)
in-drop [] i d k l = absurd (omega (arith, l))
in-drop (w ∷ ws) zero d k l = refl
in-drop (w ∷ ws) (suc i) d k l =
    let e : suc (i + 1) ≡ suc i + 1 = omega arith in
    in-drop ws i d k (omega (arith, l)) ∙ ap (λ n. (get_or ws i d == k) || is_in (drop n (w ∷ ws)) k) e

-- one wire more is marked
pub in-more : (ws : List ℕ) (i d k : ℕ) (x y : Bool) → i < length ws → y ≡ (x || (get_or ws i d == k)) → (y || is_in (drop (i + 1) ws) k) ≡ (x || is_in (drop i ws) k)
in-more ws i d k x y l h =
    ap (λ p. p || is_in (drop (i + 1) ws) k) h ∙ or_shift x (get_or ws i d == k) (is_in (drop (i + 1) ws) k) ∙ ap (λ p. x || p) (sym (in-drop ws i d k l))

pub got : (ws : List (List ℕ)) (l : ℕ) (own : List ℕ) → Some own ≡ slice_get ws l → targets_at ws l ≡ own
got [] l own e = absurd cc
got (w ∷ ws) zero own e = cc
got (w ∷ ws) (suc l) own e = got ws l own e

pub got-none : (ws : List (List ℕ)) (l : ℕ) → None ≡ slice_get ws l → targets_at ws l ≡ []
got-none [] l e = refl
got-none (w ∷ ws) zero e = absurd cc
got-none (w ∷ ws) (suc l) e = got-none ws l e

pub behind-at : (ws : List (List ℕ)) (i : ℕ) → targets_at ws (suc i) ≡ targets_at (behind ws) i
behind-at [] i = refl
behind-at (w ∷ ws) i = refl

pub behind-drop : (l : ℕ) (ws : List (List ℕ)) → behind (drop l ws) ≡ drop (l + 1) ws
behind-drop zero [] = refl
behind-drop zero (w ∷ ws) = refl
behind-drop (suc l) [] = let e : suc (l + 1) ≡ suc l + 1 = omega arith in ap (λ n. drop n []) e
behind-drop (suc l) (w ∷ ws) = let e : suc (l + 1) ≡ suc l + 1 = omega arith in behind-drop l ws ∙ ap (λ n. drop n (w ∷ ws)) e

pub targets-drop : (l : ℕ) (ws : List (List ℕ)) → targets_at (drop l ws) 0 ≡ targets_at ws l
targets-drop zero ws = refl
targets-drop (suc l) [] = refl
targets-drop (suc l) (w ∷ ws) = targets-drop l ws

module _ {A : Type 0} where
  -- layers without lists assert nothing
  pub no-targets : (inputs : ℕ) (layers : List (Layer A)) → AreTargets inputs [] layers
  no-targets inputs [] = tt
  no-targets inputs (layer ∷ layers) = (tt, no-targets inputs layers)

  pub targets-rest : (inputs l : ℕ) (ws : List (List ℕ)) (layers : List (Layer A)) → AreTargets inputs ws layers → AreTargets inputs (drop l ws) (drop l layers)
  targets-rest inputs zero ws layers t = t
  targets-rest inputs (suc l) ws [] t = tt
  targets-rest inputs (suc l) [] (layer ∷ layers) t = targets-none inputs l layers t.1
    where
      targets-none : (inputs l : ℕ) (layers : List (Layer A)) → AreTargets inputs [] layers → AreTargets inputs [] (drop l layers)
      targets-none inputs zero layers t = t
      targets-none inputs (suc l) [] t = tt
      targets-none inputs (suc l) (layer ∷ layers) t = targets-none inputs l layers t.1
  targets-rest inputs (suc l) (w ∷ ws) (layer ∷ layers) t = targets-rest inputs l ws layers t.1

  -- what the layer at a place asserts
  pub targets-here : (inputs l : ℕ) (ws : List (List ℕ)) (layers : List (Layer A)) (d : Layer A) → l < length layers → AreTargets inputs ws layers → AreBelow (under_of inputs (drop (l + 1) layers)).width (targets_at ws l)
  targets-here inputs l ws layers d within t =
      subst (AreBelow (under_of inputs (drop (l + 1) layers)).width) (targets-drop l ws) (subst (AreTargets inputs (drop l ws)) (drop_more layers l d within) (targets-rest inputs l ws layers t)).0

-- the places of marked wires are their numbers
pub places-moved : (marks : List Bool) (places ws : List ℕ) → AreMarkedPlaces marks places → AreBelow (length marks) ws → map (at places) ws ≡ map (marked_before marks) ws
places-moved marks places [] p h = refl
places-moved marks places (w ∷ ws) p h = ap (λ n. n ∷ map (at places) ws) (p.1 w h.0) ∙ ap (λ ns. marked_before marks w ∷ ns) (places-moved marks places ws p h.1)

pub moved-below : (width : ℕ) (numbers ws : List ℕ) → AreBelow (length numbers) ws → AreNumbersBelow width numbers → AreBelow width (map (at numbers) ws)
moved-below width numbers [] h n = tt
moved-below width numbers (w ∷ ws) h n = (n w h.0, moved-below width numbers ws h.1 n)

module _ {A : Type 0} (o : Ops A) where
  -- under other numbers the wires have the same values
  pub moved-values : (numbers ws : List ℕ) (old new : List A) → AreBelow (length numbers) ws → AreCopies o numbers old new → map (entry o new) (map (at numbers) ws) ≡ map (entry o old) ws
  moved-values numbers [] old new h c = refl
  moved-values numbers (w ∷ ws) old new h c = ap (λ x. x ∷ map (entry o new) (map (at numbers) ws)) (sym (c w h.0)) ∙ ap (λ xs. entry o old w ∷ xs) (moved-values numbers ws old new h.1 c)

-- What the reduced form of layers that assert wires is.
use Rattle.std.specs.Prelude.{◌≡◌, ℕ, ◌≤◌, false, List, [], ◌∷◌, length}
use Rattle.std.proofs.Common.{inl, inr, refl, ◌∙◌, arith}
use Rattle.std.proofs.lemmas.Bool.{both_ways}
use Rattle.lzk_field.specs.Ring.{Ops}
use Rattle.lzk_circuit.specs.declared.layer.Layer.{Layer}
use Rattle.lzk_circuit.specs.Valid.{AreLayers, under_of}
use Rattle.lzk_circuit_reduce.specs.Asserting.{IsForm, AreFewer, AreAsMany, AreUsedWith, AreReducedWithUnder, IsReducedWith}
use Rattle.lzk_circuit_reduce.specs.Attached.{AreNarrowWith}
use Rattle.lzk_circuit_reduce.specs.Reduced.{AreUsed, AreReducedUnder, IsReduced}
use Rattle.lzk_circuit_reduce.specs.Targets.{targets_at, behind, AreTargets, target_count}

module _ {A : Type 0} where
  fewer-then : (xs ys zs : List (Layer A)) → AreFewer xs ys → AreFewer ys zs → AreFewer xs zs
  fewer-then [] ys zs f g = tt
  fewer-then (x ∷ xs) [] zs f g = absurd f
  fewer-then (x ∷ xs) (y ∷ ys) [] f g = absurd g
  fewer-then (x ∷ xs) (y ∷ ys) (z ∷ zs) f g = (omega (arith, f.0, g.0), omega (arith, f.1, g.1), fewer-then xs ys zs f.2 g.2)

  many-then : (us vs ws : List (List ℕ)) (kept layers : List (Layer A)) → length kept ≡ length layers → AreAsMany us vs kept → AreAsMany vs ws layers → AreAsMany us ws layers
  many-then us vs ws kept [] e f g = tt
  many-then us vs ws [] (layer ∷ layers) e f g = absurd (omega (arith, e))
  many-then us vs ws (x ∷ kept) (layer ∷ layers) e f g = (f.0 ∙ g.0, many-then (behind us) (behind vs) (behind ws) kept layers (omega (arith, e)) f.1 g.1)

  fewer-same : (layers : List (Layer A)) → AreFewer layers layers
  fewer-same [] = tt
  fewer-same (layer ∷ layers) = (omega arith, omega arith, fewer-same layers)

  many-same : (ws : List (List ℕ)) (layers : List (Layer A)) → AreAsMany ws ws layers
  many-same ws [] = tt
  many-same ws (layer ∷ layers) = (refl, many-same (behind ws) layers)

  -- layers are a form of themselves
  pub form-same : (o : Ops A) (inputs : ℕ) (ws : List (List ℕ)) (layers : List (Layer A)) → AreLayers o inputs layers → AreTargets inputs ws layers → IsForm o inputs ws layers ws layers
  form-same o inputs ws layers valid t = record {
    count = refl;
    valid = valid;
    outputs = refl;
    values = λ values e. refl;
    fewer = fewer-same layers;
    targets = t;
    as_many = many-same ws layers;
    asserted = λ values e. refl;
  }

  -- a form of a form is one of the first layers
  pub form-then : (o : Ops A) (inputs : ℕ) (ws : List (List ℕ)) (layers : List (Layer A)) (vs : List (List ℕ)) (kept : List (Layer A)) (us : List (List ℕ)) (all : List (Layer A)) → IsForm o inputs ws layers vs kept → IsForm o inputs vs kept us all → IsForm o inputs ws layers us all
  form-then o inputs ws layers vs kept us all f g = record {
    count = g.count ∙ f.count;
    valid = g.valid;
    outputs = g.outputs ∙ f.outputs;
    values = λ values e. g.values values e ∙ f.values values e;
    fewer = fewer-then all kept layers g.fewer f.fewer;
    targets = g.targets;
    as_many = many-then us vs ws kept layers f.count g.as_many f.as_many;
    asserted = λ values e. g.asserted values e ∙ f.asserted values e;
  }

  pub few-wires : (inputs : ℕ) (kept layers : List (Layer A)) → AreFewer kept layers → (under_of inputs kept).wires ≤ (under_of inputs layers).wires
  few-wires inputs [] layers f = omega arith
  few-wires inputs (x ∷ kept) [] f = absurd f
  few-wires inputs (x ∷ kept) (layer ∷ layers) f = omega (arith, f.0, few-wires inputs kept layers f.2)

  pub few-terms : (inputs : ℕ) (kept layers : List (Layer A)) → AreFewer kept layers → (under_of inputs kept).terms ≤ (under_of inputs layers).terms
  few-terms inputs [] layers f = omega arith
  few-terms inputs (x ∷ kept) [] f = absurd f
  few-terms inputs (x ∷ kept) (layer ∷ layers) f = omega (arith, f.1, few-terms inputs kept layers f.2)

  pub same-count : (vs ws : List (List ℕ)) (kept layers : List (Layer A)) → length kept ≡ length layers → AreAsMany vs ws layers → target_count vs kept ≡ target_count ws layers
  same-count vs ws [] [] e f = refl
  same-count vs ws [] (layer ∷ layers) e f = absurd (omega (arith, e))
  same-count vs ws (x ∷ kept) [] e f = absurd (omega (arith, e))
  same-count vs ws (x ∷ kept) (layer ∷ layers) e f = omega (arith, f.0, same-count (behind vs) (behind ws) kept layers (omega (arith, e)) f.1)

  pub still-narrow : (most : ℕ) (vs ws : List (List ℕ)) (kept layers : List (Layer A)) → length kept ≡ length layers → AreFewer kept layers → AreAsMany vs ws layers → AreNarrowWith most ws layers → AreNarrowWith most vs kept
  still-narrow most vs ws [] layers e f m n = tt
  still-narrow most vs ws (x ∷ kept) [] e f m n = absurd f
  still-narrow most vs ws (x ∷ kept) (layer ∷ layers) e f m n = (omega (arith, f.0, m.0, n.0), still-narrow most (behind vs) (behind ws) kept layers (omega (arith, e)) f.2 m.1 n.1)

  pub same-first : (vs ws : List (List ℕ)) (layers : List (Layer A)) → 1 ≤ length layers → AreAsMany vs ws layers → length (targets_at vs 0) ≡ length (targets_at ws 0)
  same-first vs ws [] some f = absurd (omega (arith, some))
  same-first vs ws (layer ∷ layers) some f = f.0

  -- where nothing is asserted, what is used is named
  named-alone : (above layer : Layer A) (ws : List ℕ) → length ws ≡ 0 → AreUsedWith above ws layer → AreUsed above layer
  named-alone above layer [] e u g some l = elim (u g some l) [ inl n ↦ n | inr i ↦ absurd (both_ways false refl i) ]
  named-alone above layer (w ∷ ws) e u g some l = absurd (omega (arith, e))

  alone-under : (o : Ops A) (above : Layer A) (vs : List (List ℕ)) (kept layers : List (Layer A)) (first : Layer A) → length kept ≡ length layers → AreAsMany vs [] (first ∷ layers) → AreReducedWithUnder o above vs kept → AreReducedUnder o above kept
  alone-under o above vs [] layers first e m h = tt
  alone-under o above vs (x ∷ kept) [] first e m h = absurd (omega (arith, e))
  alone-under o above vs (x ∷ kept) (layer ∷ layers) first e m h =
      let one = h.0 in
      (record { one = one.one; different = one.different; used = named-alone above x (targets_at vs 0) m.0 one.used }, alone-under o x (behind vs) kept layers layer (omega (arith, e)) m.1 h.1)

  -- layers that assert nothing are reduced
  pub reduced-alone : (o : Ops A) (vs : List (List ℕ)) (kept layers : List (Layer A)) → length kept ≡ length layers → AreAsMany vs [] layers → IsReducedWith o vs kept → IsReduced o kept
  reduced-alone o vs [] layers e m h = tt
  reduced-alone o vs (x ∷ kept) [] e m h = absurd (omega (arith, e))
  reduced-alone o vs (x ∷ kept) (layer ∷ layers) e m h = alone-under o x vs kept layers layer (omega (arith, e)) m h

-- What the layers of a circuit of version 2 assert.
use Rattle.std.specs.Prelude.{◌≡◌, ℕ, ◌+◌, ◌*◌, ◌<◌, ◌≤◌, min, true, List, [], ◌∷◌, ◌++◌, length, map}
use Rattle.std.proofs.Common.{zero, suc, refl, sym, ap, ◌∙◌, arith}
use Rattle.std.proofs.Math.Nat.{suc-mul}
use Rattle.std.proofs.lemmas.List.{length-append, length-map, map-append}
use Rattle.lzk_field.specs.Ring.{Ops}
use Rattle.lzk_field.specs.Sums.{entry}
use Rattle.lzk_circuit.specs.declared.layer.Layer.{Layer}
use Rattle.lzk_circuit.specs.Valid.{under_of}
use Rattle.lzk_circuit.specs.Wires.{wires_of}
use Rattle.lzk_circuit_reduce.specs.Attached.{AreNarrowWith}
use Rattle.lzk_circuit_reduce.specs.Renumbering.{at}
use Rattle.lzk_circuit_reduce.specs.Targets.{AreBelow, AreTargets, target_values, target_count}
use Rattle.lzk_level.specs.Checking.{of_depth, by_depth}
use Rattle.lzk_level.proofs.Unshared.{level_targets, targets_below, place_in, width_of, Stands, StandFrom, HaveWidths}
use Rattle.lzk_level.specs.Levels.{has_wire}
use Rattle.lzk_level.proofs.CheckingLaws.{depth-each, depth-few}
use Rattle.lzk_level.proofs.LevelLaws.{place-most, place-below, wire-there}

below-from : (width : ℕ) (f : ℕ → ℕ) (ks : List ℕ) → ((i : ℕ) → i < length ks → f (at ks i) < width) → AreBelow width (map f ks)
below-from width f [] h = tt
below-from width f (k ∷ ks) h = (h 0 (omega arith), below-from width f ks (λ i l. h (suc i) (omega (arith, l))))

map-agree : {A : Type 0} (f g : ℕ → A) (h : ℕ → ℕ) (ks : List ℕ) → ((i : ℕ) → i < length ks → f (h (at ks i)) ≡ g (at ks i)) → map f (map h ks) ≡ map g ks
map-agree f g h [] same = refl
map-agree f g h (k ∷ ks) same = ap (λ x. x ∷ map f (map h ks)) (same 0 (omega arith)) ∙ ap (λ xs. g k ∷ xs) (map-agree f g h ks (λ i l. same (suc i) (omega (arith, l))))

module _ {A : Type 0} (depths last : List ℕ) where
  -- there are no more wires than nodes in a level
  pub wires-few : (inputs : ℕ) (layers : List (Layer A)) → HaveWidths depths last inputs layers → (under_of inputs layers).wires ≤ length layers * length depths
  wires-few inputs [] h = omega arith
  wires-few inputs (layer ∷ layers) h = omega (arith, wires-few inputs layers h.1, h.0, place-most depths last (length (layer ∷ layers)) (length depths), suc-mul (length layers) (length depths))

module _ (depths last asserts : List ℕ) (count : ℕ) (nodes : (i : ℕ) → i < length asserts → at asserts i < length depths)
    (needed : (i : ℕ) → i < length asserts → min count (at depths (at asserts i) + 1) ≤ at last (at asserts i)) where
  -- a node with a wire in a level
  record HasWire (level k : ℕ) : Type 0 where
    pub within : k < length depths
    pub there : has_wire depths last level k ≡ true

  -- an asserted node has a wire in the level of its depth, below the uppermost
  asserted-wire : (level : ℕ) → level < count → (i : ℕ) → i < length (of_depth depths level asserts) → HasWire level (at (of_depth depths level asserts) i)
  asserted-wire level l i m =
      let own = depth-each depths (λ k. (k < length depths) × (min count (at depths k + 1) ≤ at last k)) level asserts (λ j n. (nodes j n, needed j n)) i m in
      let both = own.0 in
      let k = at (of_depth depths level asserts) i in
      record { within = both.0; there = wire-there depths last level k (omega (arith, own.1)) (omega (arith, own.1, both.1, l)) }

  level-below : (level width : ℕ) → level < count → width ≡ width_of depths last level → AreBelow width (level_targets depths last level asserts)
  level-below level width l e =
      below-from width (place_in depths last level) (of_depth depths level asserts)
      (λ i m. let w = asserted-wire level l i m in omega (arith, e, place-below depths last level (at (of_depth depths level asserts) i) (length depths) w.within w.there))

module _ {A : Type 0} (depths last asserts : List ℕ) (count : ℕ) (nodes : (i : ℕ) → i < length asserts → at asserts i < length depths)
    (needed : (i : ℕ) → i < length asserts → min count (at depths (at asserts i) + 1) ≤ at last (at asserts i)) where
  pub are-targets : (inputs : ℕ) (layer : Layer A) (layers : List (Layer A)) → length layers < count → HaveWidths depths last inputs layers → AreTargets inputs (targets_below depths last asserts (suc (length layers))) (layer ∷ layers)
  are-targets inputs layer [] l h = (level-below depths last asserts count nodes needed 0 inputs l h, tt)
  are-targets inputs layer (next ∷ layers) l h =
      (level-below depths last asserts count nodes needed (length (next ∷ layers)) next.wires l h.0, are-targets inputs next layers (omega (arith, l)) h.1)

  level-values : (o : Ops A) (level : ℕ) (values wires : List A) → level < count → Stands o depths last level values wires
      → map (entry o wires) (level_targets depths last level asserts) ≡ map (entry o values) (of_depth depths level asserts)
  level-values o level values wires l s =
      map-agree (entry o wires) (entry o values) (place_in depths last level) (of_depth depths level asserts)
      (λ i m. let w = asserted-wire depths last asserts count nodes needed level l i m in s.each (at (of_depth depths level asserts) i) w.within w.there)

  pub asserted-values : (o : Ops A) (values ins : List A) (layer : Layer A) (layers : List (Layer A)) → length layers < count → StandFrom o depths last values ins layers
      → target_values o (targets_below depths last asserts (suc (length layers))) (layer ∷ layers) ins ≡ map (entry o values) (by_depth depths asserts (suc (length layers)))
  asserted-values o values ins layer [] l s = ap (λ xs. xs ++ []) (level-values o 0 values ins l s) ∙ sym (map-append (entry o values) (of_depth depths 0 asserts) [])
  asserted-values o values ins layer (next ∷ layers) l s =
      let level = length (next ∷ layers) in
      let own = of_depth depths level asserts in
      let rest = target_values o (targets_below depths last asserts (suc (length layers))) (next ∷ layers) ins in
      ap (λ xs. xs ++ rest) (level-values o level values (wires_of o (next ∷ layers) ins) l s.0)
      ∙ ap (λ xs. map (entry o values) own ++ xs) (asserted-values o values ins next layers (omega (arith, l)) s.1)
      ∙ sym (map-append (entry o values) own (by_depth depths asserts (suc (length layers))))

module _ {A : Type 0} (depths last asserts : List ℕ) where
  pub asserted-count : (layers : List (Layer A)) → target_count (targets_below depths last asserts (length layers)) layers ≡ length (by_depth depths asserts (length layers))
  asserted-count [] = refl
  asserted-count (layer ∷ layers) =
      let own = of_depth depths (length layers) asserts in
      omega (arith, length-map own (place_in depths last (length layers)), asserted-count layers, length-append own (by_depth depths asserts (length layers)))

  narrow-under : (inputs most : ℕ) (layers : List (Layer A)) → length depths + length asserts ≤ most → HaveWidths depths last inputs layers → AreNarrowWith most (targets_below depths last asserts (length layers)) layers
  narrow-under inputs most [] few h = tt
  narrow-under inputs most (layer ∷ layers) few h =
      let level = length layers in
      let own = of_depth depths level asserts in (
        omega (arith, few, h.0, place-most depths last (suc level) (length depths), length-map own (place_in depths last level), depth-few depths level asserts),
        narrow-under inputs most layers few h.1,
      )

  -- no layer has too many wires
  pub narrow : (inputs most outputs : ℕ) (layer : Layer A) (layers : List (Layer A)) → length depths + length asserts ≤ most → layer.wires ≡ outputs → outputs + length (by_depth depths asserts (suc (length layers))) ≤ length asserts → HaveWidths depths last inputs layers
      → AreNarrowWith most (targets_below depths last asserts (suc (length layers))) (layer ∷ layers)
  narrow inputs most outputs layer layers few e all h =
      let level = length layers in
      let own = of_depth depths level asserts in (
        omega (arith, few, e, all, length-map own (place_in depths last level), length-append own (by_depth depths asserts level)),
        narrow-under inputs most layers few h,
      )

pub lists-count : (depths last asserts : List ℕ) (n : ℕ) → length (targets_below depths last asserts n) ≡ n
lists-count depths last asserts zero = refl
lists-count depths last asserts (suc n) = ap suc (lists-count depths last asserts n)

-- ---- the limits

pub mul-more : (count n more : ℕ) → 1 ≤ count → count * n + more ≤ count * (n + more)
mul-more zero n more some = absurd (omega (arith, some))
mul-more (suc m) n more some = go m
  where
    go : (m : ℕ) → suc m * n + more ≤ suc m * (n + more)
    go zero = omega (arith, suc-mul 0 n, suc-mul 0 (n + more))
    go (suc m) = omega (arith, go m, suc-mul (suc m) n, suc-mul (suc m) (n + more))

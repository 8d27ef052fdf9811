-- From the layers of asserted nodes to their circuit.
use Rattle.std.specs.Prelude.{◌≡◌, ℕ, ◌+◌, ◌-◌, ◌*◌, ◌<◌, ◌≤◌, min, None, List, [], ◌∷◌, ◌++◌, length, map, reverse}
use Rattle.std.proofs.Common.{zero, suc, refl, sym, ap, ◌∙◌, arith, subst}
use Rattle.std.proofs.Math.Nat.{suc-mul}
use Rattle.std.proofs.lemmas.List.{length-append, length-map, length-reverse, map-append}
use Rattle.lzk_profile.specs.Profile.{most_wires, most_total}
use Rattle.lzk_field.specs.Ring.{Ops}
use Rattle.lzk_field.specs.Sums.{entry}
use Rattle.lzk_circuit.specs.declared.layer.Layer.{Layer}
use Rattle.lzk_circuit.specs.Checks.{checks_of, check_count}
use Rattle.lzk_circuit.specs.Valid.{under_of, AreLayers}
use Rattle.lzk_circuit.specs.Wires.{wires_of}
use Rattle.lzk_circuit_reduce.specs.Attached.{AreNarrowWith, IsAssertingForm}
use Rattle.lzk_circuit_reduce.specs.Reduced.{HaveOnes, output_count}
use Rattle.lzk_circuit_reduce.specs.Renumbering.{at}
use Rattle.lzk_circuit_reduce.specs.Targets.{targets_at, AreTargets, AreAllTerms, target_count, target_values}
use Rattle.lzk_level.specs.Gates.{Gate}
use Rattle.lzk_level.specs.Bounds.{greatest, total, node_depths, node_weights, layer_count, wire_bound, level_fault_v2}
use Rattle.lzk_level.specs.Checking.{check_of, of_depth, by_depth, KeepLimits, AreAsserts, AreAsserting}
use Rattle.lzk_level.proofs.Unshared.{targets_below, place_in, HaveWidthsBelow, StandBelow, AreStacked}
use Rattle.lzk_level.specs.Levels.{AreValues, Begins}
use Rattle.lzk_level.specs.Nodes.{Nodes, node_count, IsNode, AreGates}
use Rattle.lzk_level.proofs.AfterLaws.{depths-are}
use Rattle.lzk_level.proofs.AssertingLaws.{are-targets, asserted-values, asserted-count, narrow, wires-few, lists-count, mul-more}
use Rattle.lzk_level.proofs.CheckingLaws.{check-place, all-placed, deepest, depth-light, depth-each}
use Rattle.lzk_level.proofs.FinishLaws.{greatest-each, within-limits, depths-long, ready-weights}
use Rattle.lzk_level.proofs.TowerLaws.{mapped-at}

-- asserted nodes, and how many layers they need
pub record Asserted {A : Type 0} (inputs : ℕ) (made : List (Gate A)) (depths last asserts : List ℕ) (count : ℕ) : Type 0 where
  pub some : 1 ≤ length asserts
  pub few : length depths + length asserts ≤ most_wires
  pub nodes : (i : ℕ) → i < length asserts → at asserts i < length depths
  pub is : count ≡ greatest 1 (map (at depths) asserts)
  pub needed : (i : ℕ) → i < length asserts → min count (at depths (at asserts i) + 1) ≤ at last (at asserts i)
  pub limits : KeepLimits inputs made depths asserts count

pub asserted-with : {A : Type 0} (inputs : ℕ) (made : List (Gate A)) (depths last asserts : List ℕ) (count : ℕ) → AreAsserts inputs made depths asserts count
    → ((i : ℕ) → i < length asserts → min count (at depths (at asserts i) + 1) ≤ at last (at asserts i)) → Asserted inputs made depths last asserts count
asserted-with inputs made depths last asserts count a needed = record { some = a.some; few = a.few; nodes = λ i l. (a.nodes i l).1; is = a.is; needed = needed; limits = a.limits }

-- the nodes of a builder within the limits
pub asserts-of : {A : Type 0} (n : Nodes A) (asserts : List ℕ) → AreGates (n.publics + n.privates) n.made → 1 ≤ length asserts → ((i : ℕ) → i < length asserts → IsNode (node_count n) (at asserts i)) → level_fault_v2 n asserts ≡ None
    → AreAsserts (1 + (n.publics + n.privates)) n.made (node_depths n) asserts (layer_count n asserts)
asserts-of n asserts gates some nodes fits =
    let inputs = 1 + (n.publics + n.privates) in
    let depths = node_depths n in
    let weights = node_weights n in
    let count = layer_count n asserts in
    let w = within-limits count (wire_bound n + length asserts) (count * (wire_bound n + length asserts) + total weights + total (map (at weights) asserts)) fits in
    let before : n.publics + n.privates ≡ inputs - 1 = omega arith in
    let below : AreGates (inputs - 1) n.made = subst (λ k. AreGates k n.made) before gates in
    let long : length depths ≡ wire_bound n = depths-long n.publics n.privates n.made ∙ omega arith in
    let product : count * (length depths + length asserts) ≡ count * (wire_bound n + length asserts) = ap (λ k. count * (k + length asserts)) long in
    record {
      graph = record { one = omega arith; few = omega (arith, long, w.wires_most); gates = below; depths_are = depths-are inputs n.made (omega arith) below };
      few = omega (arith, long, w.wires_most);
      some = some;
      nodes = λ i l. ((nodes i l).0, omega (arith, long, (nodes i l).1));
      is = refl;
      limits = record { weights = weights; are = ready-weights n.publics n.privates n.made inputs refl gates; most = omega (arith, product, w.terms_most) };
    }

-- their layers
pub record Built {A : Type 0} (o : Ops A) (inputs : ℕ) (depths last asserts : List ℕ) (count : ℕ) (weights : List ℕ) (layers : List (Layer A)) : Type 0 where
  pub widths : HaveWidthsBelow depths last inputs (length (of_depth depths count asserts)) layers
  pub terms : AreAllTerms o inputs layers
  pub few : (under_of inputs layers).terms ≤ count * length depths + total weights + total (map (at weights) (of_depth depths count asserts))
  pub valid : 1 ≤ length (of_depth depths count asserts) → AreLayers o inputs layers

-- what is asked of layers and of what they assert
pub record Ready {A : Type 0} (o : Ops A) (inputs : ℕ) (ws : List (List ℕ)) (layers : List (Layer A)) : Type 0 where
  pub layers_are : 2 ≤ length layers → AreLayers o inputs layers
  pub targets : AreTargets inputs ws layers
  pub checks : 1 ≤ output_count layers + length (targets_at ws 0)
  pub narrow_are : AreNarrowWith most_wires ws layers
  pub few_wires : (under_of inputs layers).wires + target_count ws layers ≤ most_total
  pub few_terms : (under_of inputs layers).terms + target_count ws layers ≤ most_total

module _ {A : Type 0} (o : Ops A) (inputs : ℕ) (made : List (Gate A)) (depths last asserts : List ℕ) where
  deep : (count : ℕ) → Asserted inputs made depths last asserts count → (i : ℕ) → i < length asserts → at depths (at asserts i) < suc count
  deep count a i l = omega (arith, a.is, greatest-each 1 depths asserts i l)

  -- the outputs and the asserted wires are as many as the asserted nodes
  as-many : (count : ℕ) → Asserted inputs made depths last asserts count → length (of_depth depths count asserts) + length (by_depth depths asserts count) ≡ length asserts
  as-many count a = sym (length-append (of_depth depths count asserts) (by_depth depths asserts count)) ∙ all-placed depths (suc count) asserts (deep count a)

  some-outputs : (count : ℕ) → Asserted inputs made depths last asserts count → 2 ≤ count → 1 ≤ length (of_depth depths count asserts)
  some-outputs count a two = subst (λ n. 1 ≤ length (of_depth depths n asserts)) (sym a.is) (deepest depths 1 asserts (omega (arith, two, a.is)))

  -- the outputs' layer or the one below it has a node
  some-checks : (n : ℕ) → Asserted inputs made depths last asserts (suc n) → 1 ≤ length (of_depth depths (suc n) asserts) + length (of_depth depths n asserts)
  some-checks zero a =
      let all = as-many 1 a in
      let own = of_depth depths 0 asserts in
      omega (arith, all, a.some, length-append own [])
  some-checks (suc n) a = omega (arith, some-outputs (suc (suc n)) a (omega arith))

  few-wires : (layer : Layer A) (layers : List (Layer A)) (a : Asserted inputs made depths last asserts (suc (length layers))) → Built o inputs depths last asserts (suc (length layers)) a.limits.weights (layer ∷ layers)
      → (under_of inputs (layer ∷ layers)).wires + target_count (targets_below depths last asserts (suc (length layers))) (layer ∷ layers) ≤ most_total
  few-wires layer layers a b =
      let n = length layers in
      let most = a.limits.most in
      let more = mul-more (suc n) (length depths) (length asserts) (omega arith) in
      omega (arith, most, more, as-many (suc n) a, asserted-count depths last asserts (layer ∷ layers), b.widths.0, wires-few depths last inputs layers b.widths.1, suc-mul n (length depths))

  few-terms : (layer : Layer A) (layers : List (Layer A)) (a : Asserted inputs made depths last asserts (suc (length layers))) → Built o inputs depths last asserts (suc (length layers)) a.limits.weights (layer ∷ layers)
      → (under_of inputs (layer ∷ layers)).terms + target_count (targets_below depths last asserts (suc (length layers))) (layer ∷ layers) ≤ most_total
  few-terms layer layers a b =
      let n = length layers in
      let most = a.limits.most in
      let more = mul-more (suc n) (length depths) (length asserts) (omega arith) in
      omega (arith, most, more, as-many (suc n) a, asserted-count depths last asserts (layer ∷ layers), b.few, depth-light depths a.limits.weights (suc n) asserts)

  ready-layers : (layer : Layer A) (layers : List (Layer A)) (a : Asserted inputs made depths last asserts (suc (length layers))) → Built o inputs depths last asserts (suc (length layers)) a.limits.weights (layer ∷ layers)
      → Ready o inputs (targets_below depths last asserts (suc (length layers))) (layer ∷ layers)
  ready-layers layer layers a b =
      let n = length layers in
      let own = of_depth depths n asserts in
      record {
        layers_are = λ two. b.valid (some-outputs (suc n) a two);
        targets = are-targets depths last asserts (suc n) a.nodes a.needed inputs layer layers (omega arith) b.widths.1;
        checks = omega (arith, some-checks n a, b.widths.0, length-map own (place_in depths last n));
        narrow_are = narrow depths last asserts inputs most_wires (length (of_depth depths (suc n) asserts)) layer layers a.few b.widths.0 (omega (arith, as-many (suc n) a)) b.widths.1;
        few_wires = few-wires layer layers a b;
        few_terms = few-terms layer layers a b;
      }

  pub ready : (count : ℕ) (layers : List (Layer A)) → length layers ≡ count → 1 ≤ count → (a : Asserted inputs made depths last asserts count) → Built o inputs depths last asserts count a.limits.weights layers
      → Ready o inputs (targets_below depths last asserts count) layers
  ready count [] e some a b = absurd (omega (arith, e, some))
  ready count (layer ∷ layers) e some a b =
      (subst (λ n. (a : Asserted inputs made depths last asserts n) → Built o inputs depths last asserts n a.limits.weights (layer ∷ layers) → Ready o inputs (targets_below depths last asserts n) (layer ∷ layers)) e (ready-layers layer layers)) a b

  checked-layers : (number : A → ℕ) (layer : Layer A) (layers all : List (Layer A)) (values ins : List A) → Asserted inputs made depths last asserts (suc (length layers)) → length ins ≡ inputs → entry o ins 0 ≡ o.one
      → wires_of o (layer ∷ layers) ins ≡ map (entry o values) (of_depth depths (suc (length layers)) asserts) → StandBelow o depths last values ins (layer ∷ layers)
      → IsAssertingForm o number inputs (targets_below depths last asserts (suc (length layers))) (layer ∷ layers) all → checks_of o number all ins ≡ map (entry o values) (by_depth depths asserts (suc (suc (length layers))))
  checked-layers number layer layers all values ins a e one outputs stand form =
      let n = suc (length layers) in
      form.checks ins e one ∙ ap (λ xs. xs ++ target_values o (targets_below depths last asserts n) (layer ∷ layers) ins) outputs
      ∙ ap (λ xs. map (entry o values) (of_depth depths n asserts) ++ xs) (asserted-values depths last asserts n a.nodes a.needed o values ins layer layers (omega arith) stand)
      ∙ sym (map-append (entry o values) (of_depth depths n asserts) (by_depth depths asserts n))

  -- the checks are the values of the asserted nodes, sorted by depth
  pub checked : (number : A → ℕ) (count : ℕ) (layers all : List (Layer A)) (values ins : List A) → length layers ≡ count → 1 ≤ count → Asserted inputs made depths last asserts count → length ins ≡ inputs → entry o ins 0 ≡ o.one
      → wires_of o layers ins ≡ map (entry o values) (of_depth depths count asserts) → StandBelow o depths last values ins layers
      → IsAssertingForm o number inputs (targets_below depths last asserts count) layers all → checks_of o number all ins ≡ map (entry o values) (by_depth depths asserts (suc count))
  checked number count [] all values ins e some a long one outputs stand form = absurd (omega (arith, e, some))
  checked number count (layer ∷ layers) all values ins e some a long one outputs stand form =
      (subst (λ n. Asserted inputs made depths last asserts n → length ins ≡ inputs → entry o ins 0 ≡ o.one → wires_of o (layer ∷ layers) ins ≡ map (entry o values) (of_depth depths n asserts) → StandBelow o depths last values ins (layer ∷ layers)
      → IsAssertingForm o number inputs (targets_below depths last asserts n) (layer ∷ layers) all → checks_of o number all ins ≡ map (entry o values) (by_depth depths asserts (suc n))) e (checked-layers number layer layers all values ins)) a long one outputs stand form

  counted-layers : (layer : Layer A) (layers : List (Layer A)) → Asserted inputs made depths last asserts (suc (length layers)) → layer.wires ≡ length (of_depth depths (suc (length layers)) asserts)
      → output_count (layer ∷ layers) + target_count (targets_below depths last asserts (suc (length layers))) (layer ∷ layers) ≡ length asserts
  counted-layers layer layers a e = omega (arith, e, as-many (suc (length layers)) a, asserted-count depths last asserts (layer ∷ layers))

  -- there are as many checks as asserted nodes
  pub counted : (number : A → ℕ) (count : ℕ) (layers all : List (Layer A)) → length layers ≡ count → 1 ≤ count → Asserted inputs made depths last asserts count → HaveWidthsBelow depths last inputs (length (of_depth depths count asserts)) layers
      → IsAssertingForm o number inputs (targets_below depths last asserts count) layers all → check_count number all ≡ length asserts
  counted number count [] all e some a w form = absurd (omega (arith, e, some))
  counted number count (layer ∷ layers) all e some a w form =
      form.checks_count
      ∙ subst (λ n. Asserted inputs made depths last asserts n → layer.wires ≡ length (of_depth depths n asserts) → output_count (layer ∷ layers) + target_count (targets_below depths last asserts n) (layer ∷ layers) ≡ length asserts) e
      (counted-layers layer layers) a w.0

  first-layer : (number : A → ℕ) (layer : Layer A) (layers all : List (Layer A)) → layer.wires ≡ length (of_depth depths (suc (length layers)) asserts)
      → IsAssertingForm o number inputs (targets_below depths last asserts (suc (length layers))) (layer ∷ layers) all
      → output_count all ≡ length (of_depth depths (suc (length layers)) asserts) + length (of_depth depths (length layers) asserts)
  first-layer number layer layers all e form =
      let own = of_depth depths (length layers) asserts in
      omega (arith, e, form.first_count, length-map own (place_in depths last (length layers)))

  -- the first layer has a wire for each asserted node of the two uppermost levels
  pub first-wires : (number : A → ℕ) (count : ℕ) (layers all : List (Layer A)) → length layers ≡ count → 1 ≤ count → HaveWidthsBelow depths last inputs (length (of_depth depths count asserts)) layers
      → IsAssertingForm o number inputs (targets_below depths last asserts count) layers all → output_count all ≡ length (of_depth depths count asserts) + length (of_depth depths (count - 1) asserts)
  first-wires number count [] all e some w form = absurd (omega (arith, e, some))
  first-wires number count (layer ∷ layers) all e some w form =
      let down : length layers ≡ count - 1 = omega (arith, e) in
      subst (λ n. output_count all ≡ length (of_depth depths count asserts) + length (of_depth depths n asserts)) down
      (subst (λ n. layer.wires ≡ length (of_depth depths n asserts) → IsAssertingForm o number inputs (targets_below depths last asserts n) (layer ∷ layers) all → output_count all ≡ length (of_depth depths n asserts) + length (of_depth depths (length layers) asserts)) e
      (first-layer number layer layers all) w.0 form)

  -- the layers are what is asked
  pub are-asserting : (number : A → ℕ) (count : ℕ) (layers all : List (Layer A)) → length layers ≡ count → 1 ≤ count → Asserted inputs made depths last asserts count → HaveWidthsBelow depths last inputs (length (of_depth depths count asserts)) layers
      → ((values ins : List A) → AreValues o inputs made values → Begins o inputs values ins → wires_of o layers ins ≡ map (entry o values) (of_depth depths count asserts))
      → ((values ins : List A) → AreValues o inputs made values → Begins o inputs values ins → StandBelow o depths last values ins layers)
      → 1 ≤ inputs → IsAssertingForm o number inputs (targets_below depths last asserts count) layers all → AreAsserting o number inputs made depths asserts count all
  are-asserting number count layers all e some a widths values stand first form = record {
    layers_count = form.count ∙ e;
    valid = form.valid;
    checks_count = counted number count layers all e some a widths form;
    first_count = first-wires number count layers all e some widths form;
    checks = λ vs ins v b. checked number count layers all vs ins e some a b.width (sym (b.each 0 first) ∙ v.one) (values vs ins v b) (stand vs ins v b) form;
    reduced = form.reduced;
  }

  -- layers as they are stacked, and what they assert
  pub record Laid (count : ℕ) (ws : List (List ℕ)) (layers : List (Layer A)) : Type 0 where
    pub asserted : Asserted inputs made depths last asserts count
    pub long : length layers ≡ count
    pub lists : length ws ≡ length layers
    pub targets_are : ws ≡ targets_below depths last asserts count
    pub terms_are : AreAllTerms o inputs layers
    pub ones_are : HaveOnes o layers
    pub is_ready : Ready o inputs ws layers
    pub widths_are : HaveWidthsBelow depths last inputs (length (of_depth depths count asserts)) layers
    pub outputs_are : (values ins : List A) → AreValues o inputs made values → Begins o inputs values ins → wires_of o layers ins ≡ map (entry o values) (of_depth depths count asserts)
    pub stands : (values ins : List A) → AreValues o inputs made values → Begins o inputs values ins → StandBelow o depths last values ins layers

  laid-under : (count : ℕ) (stacked : List (Layer A)) → 1 ≤ count → AreAsserts inputs made depths asserts count → ((i : ℕ) → i < length asserts → min count (at depths (at asserts i) + 1) ≤ at last (at asserts i))
      → AreStacked o inputs made depths last count (of_depth depths count asserts) stacked → Laid count (targets_below depths last asserts count) (reverse stacked)
  laid-under count stacked some given needed t =
      let a = asserted-with inputs made depths last asserts count given needed in
      let own = of_depth depths count asserts in
      let weights = a.limits.weights in
      let heavy = a.limits.are in
      let each = depth-each depths (λ k. (1 ≤ k) × (k < length depths)) count asserts given.nodes in
      let firsts : (i : ℕ) → i < length own → 1 ≤ at own i = λ i l. (each i l).0.0 in
      let room : count * length depths + total weights + total (map (at weights) own) ≤ most_total = omega (arith, a.limits.most, mul-more count (length depths) (length asserts) some, depth-light depths weights count asserts) in
      let long : length (reverse stacked) ≡ count = length-reverse stacked ∙ t.count_is in
      let b : Built o inputs depths last asserts count a.limits.weights (reverse stacked) = record { widths = t.widths; terms = t.terms weights heavy firsts room; few = t.few_terms weights heavy firsts room; valid = λ s. t.valid weights heavy s firsts room } in
      record {
        asserted = a;
        long = long;
        lists = lists-count depths last asserts count ∙ sym long;
        targets_are = refl;
        terms_are = t.terms weights heavy firsts room;
        ones_are = t.ones;
        is_ready = ready count (reverse stacked) long some a b;
        widths_are = t.widths;
        outputs_are = t.values;
        stands = t.stand;
      }

  pub laid : (count : ℕ) (outputs : List ℕ) (stacked layers : List (Layer A)) (ws : List (List ℕ)) → 1 ≤ count → AreAsserts inputs made depths asserts count → ((i : ℕ) → i < length asserts → min count (at depths (at asserts i) + 1) ≤ at last (at asserts i))
      → outputs ≡ of_depth depths count asserts → AreStacked o inputs made depths last count outputs stacked → layers ≡ reverse stacked → ws ≡ targets_below depths last asserts count → Laid count ws layers
  laid count outputs stacked layers ws some given needed own t turned targets =
      let here = subst (λ ks. AreStacked o inputs made depths last count ks stacked) own t in
      subst (λ xs. Laid count xs layers) (sym targets) (subst (Laid count (targets_below depths last asserts count)) (sym turned) (laid-under count stacked some given needed here))

  -- with their assertion wires they are what is asked
  pub laid-asserting : (number : A → ℕ) (count : ℕ) (ws : List (List ℕ)) (layers all : List (Layer A)) → 1 ≤ count → 1 ≤ inputs → Laid count ws layers → IsAssertingForm o number inputs ws layers all → AreAsserting o number inputs made depths asserts count all
  laid-asserting number count ws layers all some first l form =
      are-asserting number count layers all l.long some l.asserted l.widths_are l.outputs_are l.stands first (subst (λ xs. IsAssertingForm o number inputs xs layers all) l.targets_are form)

-- each node's check is its value
pub check-value : {A : Type 0} (o : Ops A) (depths asserts : List ℕ) (count : ℕ) (values checks : List A) (k : ℕ) → k < length asserts → count ≡ greatest 1 (map (at depths) asserts) → checks ≡ map (entry o values) (by_depth depths asserts (suc count))
    → entry o checks (check_of (map (at depths) asserts) k) ≡ entry o values (at asserts k)
check-value o depths asserts count values checks k l top e =
    let place = check_of (map (at depths) asserts) k in
    let p = check-place depths (suc count) asserts k l (λ i m. omega (arith, top, greatest-each 1 depths asserts i m)) in
    ap (λ xs. entry o xs place) e ∙ mapped-at o (entry o values) (by_depth depths asserts (suc count)) place p.0 ∙ ap (entry o values) p.1

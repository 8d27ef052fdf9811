-- Layers one above the other, level by level.
use Rattle.std.specs.Prelude.{◌≡◌, ℕ, ◌+◌, ◌-◌, ◌*◌, ◌<◌, ◌≤◌, min, cond, true, List, [], ◌∷◌, ◌++◌, length, map, take, reverse}
use Rattle.std.proofs.Common.{zero, suc, inl, inr, refl, sym, ap, ◌∙◌, arith, subst}
use Rattle.std.proofs.lemmas.Bool.{cases_lt, le-leb, lt-leb}
use Rattle.std.proofs.lemmas.List.{length-append, length-map, map-append, take_more, take_all, reverse-append}
use Rattle.std.proofs.lemmas.List.FromFn.{length-map-range_with_len}
use Rattle.std.proofs.Math.Nat.{suc-mul}
use Rattle.lzk_profile.specs.Profile.{most_wires, most_total}
use Rattle.lzk_field.specs.Ring.{Ops}
use Rattle.lzk_field.specs.Sums.{entry}
use Rattle.lzk_circuit.specs.declared.layer.Layer.{Layer}
use Rattle.lzk_circuit.specs.Valid.{under_of, AreLayers}
use Rattle.lzk_circuit.specs.Wires.{coef, wire, wires_of}
use Rattle.lzk_circuit_reduce.specs.Renumbering.{at}
use Rattle.lzk_circuit_reduce.specs.Targets.{AreBelow, AreAllTerms, target_values}
use Rattle.lzk_level.specs.declared.forms.Forms.{Forms}
use Rattle.lzk_level.specs.Bounds.{total}
use Rattle.lzk_level.specs.Checking.{of_depth, by_depth}
use Rattle.lzk_level.specs.Levels.{has_wire}
use Rattle.lzk_level.specs.Stacking.{ArePassed}
use Rattle.lzk_level.specs.Stacks.{AreAssertable, HaveFewWires, AreLevels, IsStack}
use Rattle.lzk_level.specs.Uses.{node_form, IsFormed}
use Rattle.lzk_level.specs.Wires.{AreWires, CarryValues, IsLevelLayer, IsTopLayer, weight_in}
use Rattle.lzk_level.proofs.CheckingLaws.{depth-each, depth-few}
use Rattle.lzk_level.proofs.LevelLaws.{wire-there, wire-no-deeper}

-- ---- weights

total-last : (ns : List ℕ) (n : ℕ) → total (ns ++ n ∷ []) ≡ total ns + n
total-last [] n = omega arith
total-last (m ∷ ns) n = omega (arith, total-last ns n)

weight-most : (depths : List ℕ) (level : ℕ) (weights : List ℕ) (k : ℕ) → k ≤ length weights → weight_in depths level weights k ≤ total (take k weights)
weight-most depths level weights zero l = omega arith
weight-most depths level weights (suc k) l =
    let n : suc k ≡ k + 1 = omega arith in
    let grown : total (take (suc k) weights) ≡ total (take k weights) + at weights k = ap (λ i. total (take i weights)) n ∙ ap total (take_more weights k 0 (omega (arith, l))) ∙ total-last (take k weights) (at weights k) in
    elim (cases_lt level (at depths k)) [
      | inl deep ↦ omega (arith, ap (λ b. cond b (at weights k) 0 + weight_in depths level weights k) (lt-leb (at depths k) level deep), weight-most depths level weights k (omega (arith, l)), grown)
      | inr up ↦ omega (arith, ap (λ b. cond b (at weights k) 0 + weight_in depths level weights k) (le-leb (at depths k) level up), weight-most depths level weights k (omega (arith, l)), grown)
    ]

weight-all : (depths : List ℕ) (level : ℕ) (weights : List ℕ) (k : ℕ) → length weights ≡ k → weight_in depths level weights k ≤ total weights
weight-all depths level weights k e = omega (arith, weight-most depths level weights k (omega (arith, e)), ap total (take_all k weights (omega (arith, e))))

outputs-heavy : (weights outputs : List ℕ) → ((i : ℕ) → i < length outputs → 1 ≤ at weights (at outputs i)) → length outputs ≤ total (map (at weights) outputs)
outputs-heavy weights [] h = omega arith
outputs-heavy weights (k ∷ ks) h = omega (arith, h 0 (omega arith), outputs-heavy weights ks (λ i l. h (suc i) (omega (arith, l))))

-- ---- what is passed, and what is turned

pub passed-above : (last next : List ℕ) (under level : ℕ) → under ≤ level → ArePassed last next under → ArePassed last next level
passed-above last next under level up p = record { count = p.count; behind = p.behind; each = λ k j l m n. omega (arith, up, p.each k j l m n) }

record Passes (last new : List ℕ) (level i : ℕ) : Type 0 where
  pub up : i < at new i
  pub most : at new i ≤ length last
  pub each : (j : ℕ) → i < j → j < at new i → at last j ≤ level

-- node j, which is the one behind k, is passed
pub passed-one : (last next new : List ℕ) (level k j behind : ℕ) → k < length last → j < length last → at next k ≡ j → behind ≡ at next j → at last j ≤ level → length new ≡ length next → at new k ≡ behind → ((i : ℕ) → i < k → at new i ≡ at next i)
    → ((i : ℕ) → k < i → at new i ≡ at next i) → ArePassed last next level → ArePassed last new level
passed-one last next new level k j behind lk lj at_k is low same here before after p =
    let over_k = p.behind k lk in
    let over_j = p.behind j lj in
    let own : Passes last new level k = record {
      up = omega (arith, here, is, over_k.0, at_k, over_j.0);
      most = omega (arith, here, is, over_j.1);
      each = λ m a b. elim (cases_lt m j) [
        | inl c ↦ p.each k m lk a (omega (arith, c, at_k))
        | inr c ↦ elim (cases_lt j m) [
          | inl d ↦ p.each j m lj d (omega (arith, b, here, is))
          | inr d ↦ subst (λ i. at last i ≤ level) (let e : j ≡ m = omega (arith, c, d) in e) low
        ]
      ];
    } in
    let as_was : (i : ℕ) → i < length last → at new i ≡ at next i → Passes last new level i = λ i l e.
    let over = p.behind i l in
    record { up = omega (arith, e, over.0); most = omega (arith, e, over.1); each = λ m a b. p.each i m l a (omega (arith, e, b)) } in
    let all : (i : ℕ) → i < length last → Passes last new level i = λ i l. elim (cases_lt i k) [
      | inl m ↦ as_was i l (before i m)
      | inr m ↦ elim (cases_lt k i) [
        | inl n ↦ as_was i l (after i n)
        | inr n ↦ subst (Passes last new level) (let e : k ≡ i = omega (arith, m, n) in e) own
      ]
    ] in
    record { count = omega (arith, same, p.count); behind = λ i l. let q = all i l in (q.up, q.most); each = λ i m l a b. let q = all i l in q.each m a b }

pub turned : {X : Type 0} (xs all : List X) (x : X) → all ≡ xs ++ x ∷ [] → reverse all ≡ x ∷ reverse xs
turned xs all x e = ap reverse e ∙ reverse-append xs (x ∷ [])

-- ---- what a level asserts

below-from : (width : ℕ) (f : ℕ → ℕ) (ks : List ℕ) → ((i : ℕ) → i < length ks → f (at ks i) < width) → AreBelow width (map f ks)
below-from width f [] h = tt
below-from width f (k ∷ ks) h = (h 0 (omega arith), below-from width f ks (λ i l. h (suc i) (omega (arith, l))))

map-agree : {A : Type 0} (f g : ℕ → A) (h : ℕ → ℕ) (ks : List ℕ) → ((i : ℕ) → i < length ks → f (h (at ks i)) ≡ g (at ks i)) → map f (map h ks) ≡ map g ks
map-agree f g h [] same = refl
map-agree f g h (k ∷ ks) same = ap (λ x. x ∷ map f (map h ks)) (same 0 (omega arith)) ∙ ap (λ xs. g k ∷ xs) (map-agree f g h ks (λ i l. same (suc i) (omega (arith, l))))

module _ (depths last asserts : List ℕ) (under level : ℕ) (above : level ≡ suc under) (a : AreAssertable depths last asserts level) where
  record HasWire (k : ℕ) : Type 0 where
    pub within : k < length depths
    pub there : has_wire depths last under k ≡ true

  -- an asserted node has a wire in the level of its depth, below the uppermost
  asserted-wire : (i : ℕ) → i < length (of_depth depths under asserts) → HasWire (at (of_depth depths under asserts) i)
  asserted-wire i m =
      let own = depth-each depths (λ k. (k < length depths) × (min level (at depths k + 1) ≤ at last k)) under asserts (λ j n. (a.nodes j n, a.used j n)) i m in
      let both = own.0 in
      let k = at (of_depth depths under asserts) i in
      record { within = both.0; there = wire-there depths last under k (omega (arith, own.1)) (omega (arith, own.1, both.1, above)) }

  targets-below : (width : ℕ) (numbers : List ℕ) → AreWires depths last under width numbers → AreBelow width (map (at numbers) (of_depth depths under asserts))
  targets-below width numbers w = below-from width (at numbers) (of_depth depths under asserts) (λ i m. let h = asserted-wire i m in w.each (at (of_depth depths under asserts) i) h.within h.there)

  targets-carried : {A : Type 0} (o : Ops A) (numbers : List ℕ) (values wires : List A) → CarryValues o depths last under numbers values wires → map (entry o wires) (map (at numbers) (of_depth depths under asserts)) ≡ map (entry o values) (of_depth depths under asserts)
  targets-carried o numbers values wires c = map-agree (entry o wires) (entry o values) (at numbers) (of_depth depths under asserts) (λ i m. let h = asserted-wire i m in c.each (at (of_depth depths under asserts) i) h.within h.there)

module _ {A : Type 0} (o : Ops A) where
  wires-long : (inputs : ℕ) (layers : List (Layer A)) (values : List A) → length values ≡ inputs → length (wires_of o layers values) ≡ (under_of inputs layers).width
  wires-long inputs [] values e = e
  wires-long inputs (layer ∷ layers) values e = length-map-range_with_len (wire o (coef o layer.terms) (wires_of o layers values)) 0 layer.wires

  -- layers within the limits
  layers-within : (inputs most : ℕ) (layers : List (Layer A)) → most ≤ most_wires → AreAllTerms o inputs layers → HaveFewWires most layers → (under_of inputs layers).wires ≤ most_total → (under_of inputs layers).terms ≤ most_total → AreLayers o inputs layers
  layers-within inputs most [] m t f w n = tt
  layers-within inputs most (layer ∷ layers) m t f w n =
      (record { some = f.0; most = omega (arith, f.1, m); wires = w; terms = n; each = t.0 }, layers-within inputs most layers m t.1 f.2 (omega (arith, w)) (omega (arith, n)))

module _ {A : Type 0} (o : Ops A) (inputs : ℕ) (forms : Forms A) (depths last asserts : List ℕ) (formed : IsFormed inputs forms depths) where
  -- at the level of the inputs stand the inputs
  input-there : (k : ℕ) → k < length depths → has_wire depths last 0 k ≡ true → k < inputs
  input-there k l there = elim (cases_lt k inputs) [ inl before ↦ before | inr after ↦ absurd (omega (arith, formed.deep k after l, wire-no-deeper depths last 0 k there)) ]

  pub levels-begin : (numbers : List ℕ) → length numbers ≡ length depths → ((k : ℕ) → k < length depths → at numbers k ≡ k) → AreLevels o inputs (node_form inputs forms) depths last asserts 0 [] [] numbers
  levels-begin numbers long each = record {
    count = refl;
    lists = refl;
    wires = record {
      count = long;
      some = formed.one;
      one = each 0 (omega (arith, formed.one, formed.within));
      each = λ k l there. omega (arith, each k l, input-there k l there);
    };
    values = λ values ins f b. record {
      one = sym (b.each 0 (omega (arith, formed.one))) ∙ f.one;
      each = λ k l there. ap (entry o ins) (each k l) ∙ sym (b.each k (input-there k l there));
    };
    ones = tt;
    different = tt;
    terms = tt;
    each_few = tt;
    few_wires = omega arith;
    few_terms = λ weights h. omega arith;
    asserted = tt;
    asserted_values = λ values ins f b. refl;
    asserted_count = refl;
    narrow = λ few. tt;
  }

  one-more : (under level : ℕ) → level ≡ suc under → level * length depths ≡ under * length depths + length depths
  one-more under level e = ap (λ k. k * length depths) e ∙ suc-mul under (length depths)

  pub levels-add : (under level : ℕ) (layer : Layer A) (layers : List (Layer A)) (own : List ℕ) (targets : List (List ℕ)) (below here : List ℕ) → level ≡ suc under → AreAssertable depths last asserts level → own ≡ map (at below) (of_depth depths under asserts)
      → IsLevelLayer o inputs (node_form inputs forms) depths last under level (under_of inputs layers).width below here layer
      → AreLevels o inputs (node_form inputs forms) depths last asserts under layers targets below → AreLevels o inputs (node_form inputs forms) depths last asserts level (layer ∷ layers) (own ∷ targets) here
  levels-add under level layer layers own targets below here above a own_is t s =
      let nodes = of_depth depths under asserts in
      let more = one-more under level above in
      let all_below = targets-below depths last asserts under level above a in
      let carried = targets-carried depths last asserts under level above a o below in
      let many : length own ≡ length nodes = ap length own_is ∙ length-map nodes (at below) in
      record {
        count = omega (arith, s.count, above);
        lists = omega (arith, s.lists, above);
        wires = t.wires;
        values = λ values ins f b. t.values values (wires_of o layers ins) (wires-long o inputs layers ins b.width) f (s.values values ins f b);
        ones = (t.one, s.ones);
        different = (t.different, s.different);
        terms = (t.terms, s.terms);
        each_few = (t.wires.some, t.few, s.each_few);
        few_wires = omega (arith, s.few_wires, t.few, more);
        few_terms = λ weights h. omega (arith, s.few_terms weights h, t.light weights h, more);
        asserted = (subst (AreBelow (under_of inputs layers).width) (sym own_is) (all_below (under_of inputs layers).width below s.wires), s.asserted);
        asserted_values = λ values ins f b.
            let rest = target_values o targets layers ins in
            ap (λ xs. xs ++ rest) (ap (map (entry o (wires_of o layers ins))) own_is ∙ carried values (wires_of o layers ins) (s.values values ins f b))
            ∙ ap (λ xs. map (entry o values) nodes ++ xs) (s.asserted_values values ins f b)
            ∙ sym (map-append (entry o values) nodes (by_depth depths asserts under)) ∙ ap (λ n. map (entry o values) (by_depth depths asserts n)) (sym above);
        asserted_count = omega (arith, many, s.asserted_count, length-append nodes (by_depth depths asserts under), ap (λ n. length (by_depth depths asserts n)) above);
        narrow = λ few. (omega (arith, many, t.few, few, depth-few depths under asserts), s.narrow few);
      }

  -- with the outputs' layer on top
  pub levels-end : (under count : ℕ) (layer : Layer A) (layers : List (Layer A)) (own : List ℕ) (targets : List (List ℕ)) (below outputs : List ℕ) → count ≡ suc under → AreAssertable depths last asserts count → own ≡ map (at below) (of_depth depths under asserts)
      → length outputs ≤ most_wires → ((i : ℕ) → i < length outputs → at outputs i < length depths) → IsTopLayer o inputs (node_form inputs forms) depths last under (under_of inputs layers).width below outputs layer
      → AreLevels o inputs (node_form inputs forms) depths last asserts under layers targets below → IsStack o inputs (node_form inputs forms) depths count outputs asserts (layer ∷ layers) (own ∷ targets)
  levels-end under count layer layers own targets below outputs above a own_is few there t s =
      let nodes = of_depth depths under asserts in
      let more = one-more under count above in
      let less : count - 1 ≡ under = omega (arith, above) in
      let all_below = targets-below depths last asserts under count above a in
      let carried = targets-carried depths last asserts under count above a o below in
      let many : length own ≡ length nodes = ap length own_is ∙ length-map nodes (at below) in
      let product : (count - 1) * length depths ≡ under * length depths = ap (λ k. k * length depths) less in
      let first : length (of_depth depths (count - 1) asserts) ≡ length nodes = ap (λ n. length (of_depth depths n asserts)) less in
      record {
        count_is = omega (arith, s.count, above);
        lists = omega (arith, s.lists, above);
        first = t.wires;
        values = λ values ins f b. t.values values (wires_of o layers ins) (wires-long o inputs layers ins b.width) f (s.values values ins f b);
        ones = s.ones;
        different = s.different;
        terms = (t.terms, s.terms);
        few_wires = omega (arith, s.few_wires, t.wires, product);
        few_terms = λ weights h ones. omega (arith, s.few_terms weights h, t.light weights h ones, more, weight-all depths under weights (length depths) h.many);
        valid = λ weights h some ones most.
            let heavy = outputs-heavy weights outputs (λ i l. h.some (at outputs i) (ones i l) (there i l)) in
            let all = weight-all depths under weights (length depths) h.many in
            let under_terms = s.few_terms weights h in
            let own_terms = t.light weights h ones in (
              record {
                some = omega (arith, some, t.wires);
                most = omega (arith, few, t.wires);
                wires = omega (arith, s.few_wires, t.wires, more, heavy, most);
                terms = omega (arith, under_terms, own_terms, all, more, most);
                each = t.terms;
              },
              layers-within o inputs (length depths) layers formed.few s.terms s.each_few (omega (arith, s.few_wires, more, most)) (omega (arith, under_terms, all, more, most)),
            );
        asserted = (subst (AreBelow (under_of inputs layers).width) (sym own_is) (all_below (under_of inputs layers).width below s.wires), s.asserted);
        asserted_values = λ values ins f b.
            let rest = target_values o targets layers ins in
            ap (λ xs. xs ++ rest) (ap (map (entry o (wires_of o layers ins))) own_is ∙ carried values (wires_of o layers ins) (s.values values ins f b))
            ∙ ap (λ xs. map (entry o values) nodes ++ xs) (s.asserted_values values ins f b)
            ∙ sym (map-append (entry o values) nodes (by_depth depths asserts under)) ∙ ap (λ n. map (entry o values) (by_depth depths asserts n)) (sym above);
        asserted_count = omega (arith, many, s.asserted_count, length-append nodes (by_depth depths asserts under), ap (λ n. length (by_depth depths asserts n)) above);
        asserted_first = many ∙ sym first;
        narrow = λ most own_most. (omega (arith, many, t.wires, own_most, first), s.narrow most);
      }

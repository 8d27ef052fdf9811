-- Layers whose wires with equal terms are one, from the inputs up.
use Rattle.std.specs.Prelude.{◌≡◌, ℕ, ◌+◌, ◌-◌, ◌<◌, ◌≤◌, zero, suc, None, List, [], ◌∷◌, ◌++◌, length, map, drop, reverse}
use Rattle.std.specs.List.{range_with_len}
use Rattle.std.proofs.Common.{inl, inr, refl, sym, ap, ◌∙◌, arith, subst, get_or}
use Rattle.std.proofs.lemmas.Bool.{cases_lt}
use Rattle.std.proofs.lemmas.List.{drop_more, drop_all, reverse-append, ext_get_or, length-map}
use Rattle.std.proofs.lemmas.List.FromFn.{length-map-range_with_len, get_or-map-range_with_len}
use Rattle.lzk_circuit.specs.Limits.{most_wires}
use Rattle.lzk_field.specs.Ring.{Ops}
use Rattle.lzk_field.specs.Sums.{entry}
use Rattle.lzk_circuit.specs.declared.layer.Layer.{Layer}
use Rattle.lzk_circuit.specs.Valid.{AreTerms, IsLayer, AreLayers, under_of}
use Rattle.lzk_circuit.specs.Wires.{coef, wire, wires_of}
use Rattle.lzk_circuit_reduce.specs.Renumbering.{at, AreNumbersBelow, AreCopies}
use Rattle.lzk_circuit_reduce.specs.Asserting.{IsForm, AreFewer, AreAsMany}
use Rattle.lzk_circuit_reduce.specs.Reduced.{HasOne, HaveOnes, HaveOnesUnder, AreInnerDifferent, AreAllDifferent}
use Rattle.lzk_circuit_reduce.specs.Targets.{targets_at, behind, AreBelow, AreTargets, AreSameTargets, target_values}
use Rattle.lzk_circuit_reduce.specs.Shared.{IsSharedLayer, IsMovedLayer}
use Rattle.lzk_circuit_reduce.proofs.TargetLaws.{no-targets, moved-below, moved-values}

module _ {A : Type 0} (o : Ops A) where
  -- inner layers with their wires that are alike as one, what they assert, and the numbers of the uppermost layer's wires
  pub record AreShared (inputs : ℕ) (ws : List (List ℕ)) (layers : List (Layer A)) (moved : List (List ℕ)) (kept : List (Layer A)) (numbers : List ℕ) : Type 0 where
    pub count : length kept ≡ length layers
    pub width : length numbers ≡ (under_of inputs layers).width
    pub below : AreNumbersBelow (under_of inputs kept).width numbers
    pub first : at numbers 0 ≡ 0
    pub wires : (under_of inputs kept).wires ≤ (under_of inputs layers).wires
    pub terms : (under_of inputs kept).terms ≤ (under_of inputs layers).terms
    pub fewer : AreFewer kept layers
    pub valid : AreLayers o inputs kept
    pub copies : (values : List A) → length values ≡ inputs → AreCopies o numbers (wires_of o layers values) (wires_of o kept values)
    pub targets : AreTargets inputs moved kept
    pub as_many : AreAsMany moved ws layers
    pub asserted : AreSameTargets o inputs moved kept ws layers
    pub ones : HaveOnesUnder o kept
    pub different : AreAllDifferent kept

  -- all layers, the outputs' layer among them
  pub record AllShared (inputs : ℕ) (ws : List (List ℕ)) (layers : List (Layer A)) (moved : List (List ℕ)) (kept : List (Layer A)) : Type 0 where
    pub form : IsForm o inputs ws layers moved kept
    pub ones : HaveOnes o kept
    pub different : AreInnerDifferent kept

  at-none : (ns : List ℕ) → length ns ≡ 0 → at ns 0 ≡ 0
  at-none [] e = refl
  at-none (n ∷ ns) e = absurd (omega (arith, e))

  wires-width : (inputs : ℕ) (layers : List (Layer A)) (values : List A) → length values ≡ inputs → length (wires_of o layers values) ≡ (under_of inputs layers).width
  wires-width inputs [] values e = e
  wires-width inputs (layer ∷ layers) values e = length-map-range_with_len (wire o (coef o layer.terms) (wires_of o layers values)) 0 layer.wires

  -- below all layers each input has its own number
  pub shared-none : (inputs : ℕ) (ws : List (List ℕ)) (numbers : List ℕ) → length numbers ≡ inputs → ((k : ℕ) → k < inputs → at numbers k ≡ k) → AreShared inputs ws [] [] [] numbers
  shared-none inputs ws numbers e each = record {
    count = refl;
    width = e;
    below = λ k l. omega (arith, each k (omega (arith, l, e)), l, e);
    first = elim (cases_lt 0 inputs) [
      | inl m ↦ each 0 m
      | inr m ↦ at-none numbers (omega (arith, m, e))
    ];
    wires = omega arith;
    terms = omega arith;
    fewer = tt;
    valid = tt;
    copies = λ values l k m. ap (entry o values) (sym (each k (omega (arith, m, e))));
    targets = tt;
    as_many = tt;
    asserted = λ values l. refl;
    ones = tt;
    different = tt;
  }

  -- what a layer asserts, over the wires that are shared
  own-targets : (inputs : ℕ) (ws : List (List ℕ)) (layer : Layer A) (layers kept : List (Layer A)) (moved : List (List ℕ)) (numbers : List ℕ) → AreTargets inputs ws (layer ∷ layers) → AreShared inputs (behind ws) layers moved kept numbers
      → AreBelow (length numbers) (targets_at ws 0)
  own-targets inputs ws layer layers kept moved numbers asserts s = subst (λ n. AreBelow n (targets_at ws 0)) (sym s.width) asserts.0

  same-asserted : (inputs : ℕ) (ws : List (List ℕ)) (layer shared : Layer A) (layers kept : List (Layer A)) (moved : List (List ℕ)) (numbers : List ℕ) → AreTargets inputs ws (layer ∷ layers) → AreShared inputs (behind ws) layers moved kept numbers
      → AreSameTargets o inputs (map (at numbers) (targets_at ws 0) ∷ moved) (shared ∷ kept) ws (layer ∷ layers)
  same-asserted inputs ws layer shared layers kept moved numbers asserts s values e =
      let own = own-targets inputs ws layer layers kept moved numbers asserts s in
      ap (λ xs. xs ++ target_values o moved kept values) (moved-values o numbers (targets_at ws 0) (wires_of o layers values) (wires_of o kept values) own (s.copies values e))
      ∙ ap (λ xs. map (entry o (wires_of o layers values)) (targets_at ws 0) ++ xs) (s.asserted values e)

  pub shared-above : (inputs : ℕ) (ws : List (List ℕ)) (layer : Layer A) (layers : List (Layer A)) (moved : List (List ℕ)) (kept : List (Layer A)) (numbers : List ℕ) (shared : Layer A) (wires : List ℕ) → IsLayer o (under_of inputs layers) layer → HasOne o layer
      → AreTargets inputs ws (layer ∷ layers) → IsSharedLayer o layer numbers shared wires → AreShared inputs (behind ws) layers moved kept numbers
      → AreShared inputs ws (layer ∷ layers) (map (at numbers) (targets_at ws 0) ∷ moved) (shared ∷ kept) wires
  shared-above inputs ws layer layers moved kept numbers shared wires is one asserts t s = record {
    count = ap suc s.count;
    fewer = (t.fewer, t.short, s.fewer);
    targets = (moved-below (under_of inputs kept).width numbers (targets_at ws 0) (own-targets inputs ws layer layers kept moved numbers asserts s) s.below, s.targets);
    as_many = (length-map (targets_at ws 0) (at numbers), s.as_many);
    asserted = same-asserted inputs ws layer shared layers kept moved numbers asserts s;
    width = t.count;
    below = t.below;
    first = t.first;
    wires = omega (arith, s.wires, t.fewer);
    terms = omega (arith, s.terms, t.short);
    valid = (
      record {
        some = t.some;
        most = omega (arith, t.fewer, is.most);
        wires = omega (arith, s.wires, t.fewer, is.wires);
        terms = omega (arith, s.terms, t.short, is.terms);
        each = t.terms (under_of inputs kept).width s.below;
      },
      s.valid,
    );
    copies = λ values e.
        t.values (wires_of o layers values) (wires_of o kept values) (wires-width inputs layers values e ∙ sym s.width)
        (subst (λ w. AreNumbersBelow w numbers) (sym (wires-width inputs kept values e)) s.below) (s.copies values e);
    ones = (t.one one s.first, s.ones);
    different = (t.different, s.different);
  }

  same-values : (f h : ℕ → A) (m n : ℕ) → m ≡ n → ((g : ℕ) → g < n → f g ≡ h g) → map f (range_with_len 0 m) ≡ map h (range_with_len 0 n)
  same-values f h m n e same =
      ext_get_or o.zero (map f (range_with_len 0 m)) (map h (range_with_len 0 n)) (length-map-range_with_len f 0 m ∙ e ∙ sym (length-map-range_with_len h 0 n))
      (λ k l.
      let less : k < m = omega (arith, l, length-map-range_with_len f 0 m) in
      get_or-map-range_with_len f 0 m k k o.zero less (omega arith) ∙ same k (omega (arith, less, e)) ∙ sym (get_or-map-range_with_len h 0 n k k o.zero (omega (arith, less, e)) (omega arith)))

  pub shared-last : (inputs : ℕ) (ws : List (List ℕ)) (layer : Layer A) (layers : List (Layer A)) (moved : List (List ℕ)) (kept : List (Layer A)) (numbers : List ℕ) (top : Layer A) → IsLayer o (under_of inputs layers) layer
      → AreTargets inputs ws (layer ∷ layers) → IsMovedLayer o layer numbers top → AreShared inputs (behind ws) layers moved kept numbers
      → AllShared inputs ws (layer ∷ layers) (map (at numbers) (targets_at ws 0) ∷ moved) (top ∷ kept)
  shared-last inputs ws layer layers moved kept numbers top is asserts t s = record {
    form = record {
      count = ap suc s.count;
      valid = (
        record {
          some = omega (arith, t.wires, is.some);
          most = omega (arith, t.wires, is.most);
          wires = omega (arith, s.wires, t.wires, is.wires);
          terms = omega (arith, s.terms, t.short, is.terms);
          each = subst (λ w. AreTerms o w (under_of inputs kept).width None top.terms) (sym t.wires) (t.terms (under_of inputs kept).width s.below);
        },
        s.valid,
      );
      outputs = t.wires;
      values = λ values e.
          same-values (wire o (coef o top.terms) (wires_of o kept values)) (wire o (coef o layer.terms) (wires_of o layers values)) top.wires layer.wires t.wires
          (t.values (wires_of o layers values) (wires_of o kept values) (wires-width inputs layers values e ∙ sym s.width)
          (subst (λ w. AreNumbersBelow w numbers) (sym (wires-width inputs kept values e)) s.below) (s.copies values e));
      fewer = (omega (arith, t.wires), t.short, s.fewer);
      targets = (moved-below (under_of inputs kept).width numbers (targets_at ws 0) (own-targets inputs ws layer layers kept moved numbers asserts s) s.below, s.targets);
      as_many = (length-map (targets_at ws 0) (at numbers), s.as_many);
      asserted = same-asserted inputs ws layer top layers kept moved numbers asserts s;
    };
    ones = s.ones;
    different = s.different;
  }

  layers-drop : (inputs i : ℕ) (layers : List (Layer A)) → AreLayers o inputs layers → AreLayers o inputs (drop i layers)
  layers-drop inputs zero layers h = h
  layers-drop inputs (suc i) [] h = tt
  layers-drop inputs (suc i) (layer ∷ layers) h = layers-drop inputs i layers h.1

  ones-drop : (i : ℕ) (layers : List (Layer A)) → HaveOnesUnder o layers → HaveOnesUnder o (drop i layers)
  ones-drop zero layers h = h
  ones-drop (suc i) [] h = tt
  ones-drop (suc i) (layer ∷ layers) h = ones-drop i layers h.1

  from : (layers : List (Layer A)) (i : ℕ) (layer : Layer A) → i < length layers → layer ≡ get_or layers i layer → drop i layers ≡ layer ∷ drop (i + 1) layers
  from layers i layer l e = drop_more layers i layer l ∙ ap (λ x. x ∷ drop (i + 1) layers) (sym e)

  -- what is known of the layer at a place
  pub layer-at : (inputs : ℕ) (layers : List (Layer A)) (i : ℕ) (layer : Layer A) → i < length layers → layer ≡ get_or layers i layer → AreLayers o inputs layers → IsLayer o (under_of inputs (drop (i + 1) layers)) layer
  layer-at inputs layers i layer l e h = (subst (AreLayers o inputs) (from layers i layer l e) (layers-drop inputs i layers h)).0

  pub one-at : (layers : List (Layer A)) (i : ℕ) (layer : Layer A) → 1 ≤ i → i < length layers → layer ≡ get_or layers i layer → HaveOnes o layers → HasOne o layer
  one-at [] i layer s l e h = absurd (omega (arith, l))
  one-at (x ∷ xs) zero layer s l e h = absurd (omega (arith, s))
  one-at (x ∷ xs) (suc i) layer s l e h = (subst (HaveOnesUnder o) (from xs i layer (omega (arith, l)) e) (ones-drop i xs h)).0

  -- the layers from one on are shared, and stand in the list from the last one up
  pub record SharedFrom (inputs : ℕ) (layers : List (Layer A)) (i : ℕ) (kept : List (Layer A)) (numbers : List ℕ) : Type 0 where
    pub inner : 1 ≤ i
    pub moved : List (List ℕ)
    pub shared : AreShared inputs [] (drop i layers) moved (reverse kept) numbers

  pub shared-starts : (inputs : ℕ) (layers : List (Layer A)) (numbers : List ℕ) → 1 ≤ length layers → length numbers ≡ inputs → ((k : ℕ) → k < inputs → at numbers k ≡ k) → SharedFrom inputs layers (length layers) [] numbers
  shared-starts inputs layers numbers some e each = record {
    inner = some;
    moved = [];
    shared = subst (λ xs. AreShared inputs [] xs [] [] numbers) (sym (drop_all (length layers) layers (omega arith))) (shared-none inputs [] numbers e each);
  }

  -- a layer may be shared, which stands before those that are
  pub layer-before : (inputs : ℕ) (layers : List (Layer A)) (i : ℕ) (kept : List (Layer A)) (numbers : List ℕ) (layer : Layer A) → 1 < i → i ≤ length layers → layer ≡ get_or layers (i - 1) layer
      → AreLayers o inputs layers → SharedFrom inputs layers i kept numbers → (1 ≤ layer.wires) × (layer.wires ≤ most_wires) × AreTerms o layer.wires (length numbers) None layer.terms
  layer-before inputs layers i kept numbers layer some l e valid s =
      let is = layer-at inputs layers (i - 1) layer (omega (arith, some, l)) e valid in
      let next : i - 1 + 1 ≡ i = omega (arith, some) in
      (is.some, is.most, subst (λ w. AreTerms o layer.wires w None layer.terms) (ap (λ k. (under_of inputs (drop k layers)).width) next ∙ sym s.shared.width) is.each)

  pub shared-adds : (inputs : ℕ) (layers : List (Layer A)) (i : ℕ) (kept more : List (Layer A)) (numbers : List ℕ) (layer shared : Layer A) (wires : List ℕ) → 1 < i → i ≤ length layers → layer ≡ get_or layers (i - 1) layer
      → AreLayers o inputs layers → HaveOnes o layers → more ≡ kept ++ shared ∷ [] → IsSharedLayer o layer numbers shared wires → SharedFrom inputs layers i kept numbers → SharedFrom inputs layers (i - 1) more wires
  shared-adds inputs layers i kept more numbers layer shared wires some l e valid ones m t s =
      let j = i - 1 in
      let inner : 1 ≤ j = omega (arith, some) in
      let less : j < length layers = omega (arith, some, l) in
      let next : i ≡ j + 1 = omega (arith, some) in
      let rest = drop (j + 1) layers in
      let before : AreShared inputs [] rest s.moved (reverse kept) numbers = subst (λ k. AreShared inputs [] (drop k layers) s.moved (reverse kept) numbers) next s.shared in
      let above = shared-above inputs [] layer rest s.moved (reverse kept) numbers shared wires (layer-at inputs layers j layer less e valid) (one-at layers j layer inner less e ones) (no-targets inputs (layer ∷ rest)) t before in
      record {
        inner = inner;
        moved = [] ∷ s.moved;
        shared =
            subst (λ xs. AreShared inputs [] (drop j layers) ([] ∷ s.moved) xs wires) (sym (ap reverse m ∙ reverse-append kept (shared ∷ [])))
            (subst (λ xs. AreShared inputs [] xs ([] ∷ s.moved) (shared ∷ reverse kept) wires) (sym (from layers j layer less e)) above);
      }

  -- the outputs' layer may be moved
  pub layer-first : (inputs : ℕ) (layers : List (Layer A)) (i : ℕ) (kept : List (Layer A)) (numbers : List ℕ) (layer : Layer A) → i ≤ 1 → 1 ≤ length layers → layer ≡ get_or layers 0 layer
      → AreLayers o inputs layers → SharedFrom inputs layers i kept numbers → AreTerms o layer.wires (length numbers) None layer.terms
  layer-first inputs layers i kept numbers layer least some e valid s =
      let is = layer-at inputs layers 0 layer some e valid in
      let last : 1 ≡ i = omega (arith, least, s.inner) in
      subst (λ w. AreTerms o layer.wires w None layer.terms) (ap (λ k. (under_of inputs (drop k layers)).width) last ∙ sym s.shared.width) is.each

  -- all layers, and nothing that they assert
  pub record IsSharedForm (inputs : ℕ) (layers kept : List (Layer A)) : Type 0 where
    pub moved : List (List ℕ)
    pub all : AllShared inputs [] layers moved kept

  pub shared-ends : (inputs : ℕ) (layers : List (Layer A)) (i : ℕ) (kept more all : List (Layer A)) (numbers : List ℕ) (layer top : Layer A) → i ≤ 1 → 1 ≤ length layers → layer ≡ get_or layers 0 layer
      → AreLayers o inputs layers → more ≡ kept ++ top ∷ [] → all ≡ reverse more → IsMovedLayer o layer numbers top → SharedFrom inputs layers i kept numbers → IsSharedForm inputs layers all
  shared-ends inputs layers i kept more all numbers layer top least some e valid m a t s =
      let last : i ≡ 1 = omega (arith, least, s.inner) in
      let rest = drop 1 layers in
      let before : AreShared inputs [] rest s.moved (reverse kept) numbers = subst (λ k. AreShared inputs [] (drop k layers) s.moved (reverse kept) numbers) last s.shared in
      let above = shared-last inputs [] layer rest s.moved (reverse kept) numbers top (layer-at inputs layers 0 layer some e valid) (no-targets inputs (layer ∷ rest)) t before in
      record {
        moved = [] ∷ s.moved;
        all =
            subst (AllShared inputs [] layers ([] ∷ s.moved)) (sym (a ∙ ap reverse m ∙ reverse-append kept (top ∷ [])))
            (subst (λ xs. AllShared inputs [] xs ([] ∷ s.moved) (top ∷ reverse kept)) (sym (from layers 0 layer some e)) above);
      }

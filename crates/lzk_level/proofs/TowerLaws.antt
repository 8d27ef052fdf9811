-- Layers one above the other, level by level.
use Rattle.std.specs.Prelude.{◌≡◌, ℕ, ◌+◌, ◌-◌, ◌*◌, ◌<◌, ◌≤◌, min, nat_le, cond, Bool, true, false, None, List, [], ◌∷◌, ◌++◌, length, map, take, reverse}
use Rattle.std.proofs.Common.{zero, suc, inl, inr, refl, sym, ap, ◌∙◌, arith, subst, get_or}
use Rattle.std.specs.List.{range_with_len}
use Rattle.std.proofs.lemmas.Bool.{cases_lt, le-leb, lt-leb, cases_Bool}
use Rattle.std.proofs.lemmas.List.{length-map, length-append, ext_get_or, take_more, take_all, reverse-append, length-reverse}
use Rattle.std.proofs.lemmas.List.FromFn.{length-map-range_with_len, get_or-map-range_with_len}
use Rattle.std.proofs.Math.Nat.{suc-mul}
use Rattle.lzk_profile.specs.Profile.{most_wires, most_total}
use Rattle.lzk_field.specs.Ring.{Ops}
use Rattle.lzk_field.specs.Sums.{entry}
use Rattle.lzk_circuit.specs.declared.layer.Term.{Term}
use Rattle.lzk_circuit.specs.declared.layer.Layer.{Layer}
use Rattle.lzk_circuit.specs.Valid.{under_of, AreTerms, AreLayers}
use Rattle.lzk_circuit.specs.Wires.{coef, wire, layer_values, wires_of}
use Rattle.lzk_level.specs.Gates.{Gate, Constant, Combine, Mul}
use Rattle.lzk_level.specs.Nodes.{AreGates}
use Rattle.lzk_circuit_reduce.specs.Renumbering.{at}
use Rattle.lzk_level.specs.Bounds.{at_parts, total, greatest, gate_depth}
use Rattle.lzk_circuit_reduce.specs.Rows.{row_value}
use Rattle.lzk_circuit_reduce.specs.Reduced.{HasOne, HaveOnes, HaveOnesUnder}
use Rattle.lzk_level.specs.Levels.{AreDepths, AreWeights, AreValues, Begins, has_wire}
use Rattle.lzk_level.proofs.Unshared.{HaveWidths, HaveWidthsBelow, StandFrom, StandBelow, place_in, width_of, row_at, AreRows, AreShort, HaveValues, Stands, AreLast, lengths_in, lengths_of, AreStacked}
use Rattle.lzk_circuit_reduce.specs.Targets.{AreAllTerms}
use Rattle.lzk_circuit_reduce.proofs.AttachedLayers.{all-terms}
use Rattle.lzk_level.proofs.LevelLaws.{place-most, place-below, wire-there, wire-no-deeper, wire-needed}
use Rattle.lzk_level.proofs.NodeLaws.{heavy}

-- the weights of those of the first k nodes that are no deeper than the level
pub weight_in : List ℕ → ℕ → List ℕ → ℕ → ℕ
weight_in depths level weights zero = 0
weight_in depths level weights (suc k) = cond (nat_le (at depths k) level) (at weights k) 0 + weight_in depths level weights k

weight-most : (depths : List ℕ) (level : ℕ) (weights : List ℕ) (k : ℕ) → k ≤ length weights → weight_in depths level weights k ≤ total (take k weights)
unfolding weight_in
weight-most depths level weights zero l = omega arith
weight-most depths level weights (suc k) l =
    let n : suc k ≡ k + 1 = omega arith in
    let grown : total (take (suc k) weights) ≡ total (take k weights) + at weights k = ap (λ i. total (take i weights)) n ∙ ap total (take_more weights k 0 (omega (arith, l))) ∙ total-last (take k weights) (at weights k) in
    elim (cases_lt level (at depths k)) [
      | inl deep ↦ omega (arith, ap (λ b. cond b (at weights k) 0 + weight_in depths level weights k) (lt-leb (at depths k) level deep), weight-most depths level weights k (omega (arith, l)), grown)
      | inr up ↦ omega (arith, ap (λ b. cond b (at weights k) 0 + weight_in depths level weights k) (le-leb (at depths k) level up), weight-most depths level weights k (omega (arith, l)), grown)
    ]
  where
    total-last : (ns : List ℕ) (n : ℕ) → total (ns ++ n ∷ []) ≡ total ns + n
    total-last [] n = omega arith
    total-last (m ∷ ns) n = omega (arith, total-last ns n)

weight-all : (depths : List ℕ) (level : ℕ) (weights : List ℕ) (k : ℕ) → length weights ≡ k → weight_in depths level weights k ≤ total weights
weight-all depths level weights k e = omega (arith, weight-most depths level weights k (omega (arith, e)), ap total (take_all k weights (omega (arith, e))))

outputs-heavy : (weights outputs : List ℕ) → ((i : ℕ) → i < length outputs → 1 ≤ at weights (at outputs i)) → length outputs ≤ total (map (at weights) outputs)
outputs-heavy weights [] h = omega arith
outputs-heavy weights (k ∷ ks) h = omega (arith, h 0 (omega arith), outputs-heavy weights ks (λ i l. h (suc i) (omega (arith, l))))

not_true : (b : Bool) → (b ≡ true → ⊥) → b ≡ false
not_true b h = elim (cases_Bool b) [ inl here ↦ absurd (h here) | inr away ↦ away ]

-- a node that weighs in a level weighs in the next
weight-grows : (depths : List ℕ) (level : ℕ) (weights : List ℕ) (k : ℕ) → cond (nat_le (at depths k) (level - 1)) (at weights k) 0 ≤ cond (nat_le (at depths k) level) (at weights k) 0
weight-grows depths level weights k = elim (cases_lt (level - 1) (at depths k)) [
  | inl deep ↦ omega (arith, ap (λ b. cond b (at weights k) 0) (lt-leb (at depths k) (level - 1) deep))
  | inr up ↦ omega (arith, ap (λ b. cond b (at weights k) 0) (le-leb (at depths k) (level - 1) up), ap (λ b. cond b (at weights k) 0) (le-leb (at depths k) level (omega (arith, up))))
]

module _ {A : Type 0} where
  -- the rows of a level are no longer than its nodes and the new weights together
  rows-short : (depths last : List ℕ) (level : ℕ) (weights : List ℕ) (rows : List (List (Term A))) → 1 ≤ level → at depths 0 ≡ 0 → AreShort depths level weights rows → (k : ℕ) → k ≤ length rows
      → lengths_in depths last level rows k + weight_in depths (level - 1) weights k ≤ k + weight_in depths level weights k
  unfolding weight_in
  rows-short depths last level weights rows some first s zero l = omega arith
  rows-short depths last level weights rows some first s (suc k) l =
      let row = length (row_at rows k) in
      let heavy = at weights k in
      let before = rows-short depths last level weights rows some first s k (omega (arith, l)) in
      let terms = lengths_in depths last level rows k in
      let old = weight_in depths (level - 1) weights k in
      let new = weight_in depths level weights k in
      let short = s k (omega (arith, l)) in
      elim (cases_Bool (has_wire depths last level k)) [
        | inr away ↦ omega (arith, before, ap (λ b. cond b row 0 + terms) away, weight-grows depths level weights k)
        | inl here ↦ let up = wire-no-deeper depths last level k here in elim (cases_lt (at depths k) level) [
          | inl less ↦ omega (
            arith,
            before,
            short.0 less,
            ap (λ b. cond b row 0 + terms) here,
            ap (λ b. cond b heavy 0 + old) (le-leb (at depths k) (level - 1) (omega (arith, less, some))),
            ap (λ b. cond b heavy 0 + new) (le-leb (at depths k) level up),
          )
          | inr same ↦ omega (
            arith,
            before,
            short.1 (not_first k same),
            ap (λ b. cond b row 0 + terms) here,
            ap (λ b. cond b heavy 0 + old) (lt-leb (at depths k) (level - 1) (omega (arith, same, some))),
            ap (λ b. cond b heavy 0 + new) (le-leb (at depths k) level up),
          )
        ]
      ]
    where
      not_first : (k : ℕ) → level ≤ at depths k → 1 ≤ k
      not_first zero l = absurd (omega (arith, l, first, some))
      not_first (suc k) l = omega arith

  outputs-short : (depths : List ℕ) (level : ℕ) (weights : List ℕ) (rows : List (List (Term A))) (outputs : List ℕ) → AreShort depths level weights rows → ((i : ℕ) → i < length outputs → (1 ≤ at outputs i) × (at outputs i < length rows))
      → lengths_of rows outputs ≤ total (map (at weights) outputs)
  outputs-short depths level weights rows [] s h = omega arith
  outputs-short depths level weights rows (k ∷ ks) s h =
      let one = h 0 (omega arith) in
      omega (arith, (s k one.1).1 one.0, outputs-short depths level weights rows ks s (λ i l. h (suc i) (omega (arith, l))))

  pub reverse-push : (ls all : List (Layer A)) (l : Layer A) → all ≡ ls ++ l ∷ [] → reverse all ≡ l ∷ reverse ls
  reverse-push ls all l e = ap reverse e ∙ reverse-append ls (l ∷ [])

  -- at the level of the inputs stand the inputs
  deep-gate : (depths : List ℕ) (g : Gate A) → 1 ≤ gate_depth depths g
  deep-gate depths (Constant c) = omega arith
  deep-gate depths (Combine parts) = some-depth (at_parts depths parts)
    where
      some-depth : (ns : List ℕ) → 1 ≤ greatest 1 ns
      some-depth [] = omega arith
      some-depth (n ∷ ns) = omega (arith, some-depth ns)
  deep-gate depths (Mul x y) = omega arith

  place-inputs : (inputs : ℕ) (made : List (Gate A)) (depths last : List ℕ) (k : ℕ) → AreDepths inputs made depths → AreLast inputs made depths last → k ≤ length depths → place_in depths last 0 k ≡ min k inputs
  place-inputs inputs made depths last zero d w l = omega arith
  place-inputs inputs made depths last (suc k) d w l = elim (cases_lt k inputs) [
    | inl before ↦ omega (arith, ap (λ b. cond b 1 0 + place_in depths last 0 k) (wire-there depths last 0 k (omega (arith, d.at_inputs k before)) (omega (arith, w.at_inputs k before))), place-inputs inputs made depths last k d w (omega (arith, l)), before)
    | inr after ↦
        let i = k - inputs in
        let e : inputs + i ≡ k = omega (arith, after) in
        let deep : 1 ≤ at depths k = subst (λ n. 1 ≤ n) (sym (ap (at depths) (sym e) ∙ d.gates i (Mul 0 0) (omega (arith, after, l, d.count)))) (deep-gate depths (get_or made i (Mul 0 0))) in
        omega (arith, ap (λ b. cond b 1 0 + place_in depths last 0 k) (not_true (has_wire depths last 0 k) (λ here. omega (arith, wire-no-deeper depths last 0 k here, deep))), place-inputs inputs made depths last k d w (omega (arith, l)), after)
  ]

  pub inputs-stand : {B : Type 0} (o : Ops B) (inputs : ℕ) (made : List (Gate A)) (depths last : List ℕ) (values ins : List B) → AreDepths inputs made depths → AreLast inputs made depths last → Begins o inputs values ins → Stands o depths last 0 values ins
  inputs-stand o inputs made depths last values ins d w b = record {
    width = b.width ∙ sym (place-inputs inputs made depths last (length depths) d w (omega arith) ∙ omega (arith, d.count));
    each = λ k l z. elim (cases_lt k inputs) [
      | inl before ↦ ap (entry o ins) (place-inputs inputs made depths last k d w (omega (arith, l)) ∙ omega (arith, before)) ∙ sym (b.each k before)
      | inr after ↦
          let i = k - inputs in
          let e : inputs + i ≡ k = omega (arith, after) in
          let deep : 1 ≤ at depths k = subst (λ n. 1 ≤ n) (sym (ap (at depths) (sym e) ∙ d.gates i (Mul 0 0) (omega (arith, after, l, d.count)))) (deep-gate depths (get_or made i (Mul 0 0))) in
          absurd (omega (arith, deep, wire-no-deeper depths last 0 k z))
    ];
  }

one-more : (level n : ℕ) → 1 ≤ level → level * n ≡ (level - 1) * n + n
one-more zero n l = absurd (omega (arith, l))
one-more (suc m) n l = let e : m ≡ suc m - 1 = omega arith in suc-mul m n ∙ ap (λ k. k * n + n) e

module _ {A : Type 0} (o : Ops A) where
  pub mapped-at : (f : ℕ → A) (ks : List ℕ) (i : ℕ) → i < length ks → entry o (map f ks) i ≡ f (at ks i)
  mapped-at f [] i l = absurd (omega (arith, l))
  mapped-at f (k ∷ ks) zero l = refl
  mapped-at f (k ∷ ks) (suc i) l = mapped-at f ks i (omega (arith, l))

  -- layers up to a level keep the limits
  pub record Sound (inputs : ℕ) (depths last : List ℕ) (level : ℕ) (weights : List ℕ) (layers : List (Layer A)) : Type 0 where
    pub layers_are : AreLayers o inputs layers
    pub width : (under_of inputs layers).width ≡ width_of depths last level
    pub wires : (under_of inputs layers).wires ≤ level * length depths
    pub terms : (under_of inputs layers).terms ≤ level * length depths + weight_in depths level weights (length depths)

  -- the layers of the levels up to one, the last layer first
  pub record Tower (inputs : ℕ) (made : List (Gate A)) (depths last : List ℕ) (level : ℕ) (layers : List (Layer A)) : Type 0 where
    pub count : length layers ≡ level
    pub sound : (weights : List ℕ) → AreWeights inputs made weights → level * length depths + total weights ≤ most_total → Sound inputs depths last level weights (reverse layers)
    pub stands : (values ins : List A) → AreValues o inputs made values → Begins o inputs values ins → Stands o depths last level values (wires_of o (reverse layers) ins)
    pub ones : HaveOnesUnder o (reverse layers)
    pub widths : HaveWidths depths last inputs (reverse layers)
    pub stand : (values ins : List A) → AreValues o inputs made values → Begins o inputs values ins → StandFrom o depths last values ins (reverse layers)

  pub tower-starts : (inputs : ℕ) (made : List (Gate A)) (depths last : List ℕ) → AreDepths inputs made depths → AreLast inputs made depths last → Tower inputs made depths last 0 []
  tower-starts inputs made depths last d w = record {
    count = refl;
    sound = λ weights heavy l. record {
      layers_are = tt;
      width = sym (place-inputs inputs made depths last (length depths) d w (omega arith) ∙ omega (arith, d.count));
      wires = omega arith;
      terms = omega arith;
    };
    stands = λ values ins v s. inputs-stand o inputs made depths last values ins d w s;
    ones = tt;
    widths = sym (place-inputs inputs made depths last (length depths) d w (omega arith) ∙ omega (arith, d.count));
    stand = λ values ins v s. inputs-stand o inputs made depths last values ins d w s;
  }

  layer-stands : (depths last : List ℕ) (level : ℕ) (values below : List A) (rows : List (List (Term A))) (layer : Layer A) → layer.wires ≡ width_of depths last level → length rows ≡ length depths
      → ((k : ℕ) → k < length depths → has_wire depths last level k ≡ true → wire o (coef o layer.terms) below (place_in depths last level k) ≡ row_value o below (row_at rows k)) → HaveValues o depths last level values below rows
      → Stands o depths last level values (layer_values o layer below)
  layer-stands depths last level values below rows layer wires long each have =
      let f = wire o (coef o layer.terms) below in
      record {
        width = length-map-range_with_len f 0 layer.wires ∙ wires;
        each = λ k l d. get_or-map-range_with_len f 0 layer.wires (place_in depths last level k) (place_in depths last level k) o.zero (omega (arith, wires, place-below depths last level k (length depths) l d)) (omega arith)
            ∙ each k l d ∙ have k (omega (arith, l, long)) (wire-no-deeper depths last level k d) (omega (arith, wire-needed depths last level k d));
      }

  pub tower-adds : (inputs : ℕ) (made : List (Gate A)) (depths last : List ℕ) (level : ℕ) (layers all : List (Layer A)) (layer : Layer A) (rows : List (List (Term A))) → 1 ≤ level → length depths ≤ most_wires → 1 ≤ inputs → level < at last 0 → AreDepths inputs made depths
      → all ≡ layers ++ layer ∷ [] → length rows ≡ length depths → AreRows o (width_of depths last (level - 1)) rows
      → ((values wires : List A) → AreValues o inputs made values → Stands o depths last (level - 1) values wires → HaveValues o depths last level values wires rows)
      → ((weights : List ℕ) → AreWeights inputs made weights → AreShort depths level weights rows)
      → layer.wires ≡ width_of depths last level → ((width : ℕ) → AreRows o width rows → AreTerms o (width_of depths last level) width None layer.terms)
      → ((below : List A) → AreRows o (length below) rows → (k : ℕ) → k < length depths → has_wire depths last level k ≡ true → wire o (coef o layer.terms) below (place_in depths last level k) ≡ row_value o below (row_at rows k))
      → length layer.terms ≡ lengths_in depths last level rows (length depths) → HasOne o layer → Tower inputs made depths last (level - 1) layers → Tower inputs made depths last level all
  tower-adds inputs made depths last level layers all layer rows some few first high d grown long ordered have short wires terms each count one t =
      let turned : reverse all ≡ layer ∷ reverse layers = reverse-push layers all layer grown in
      let zero_depth : at depths 0 ≡ 0 = d.at_inputs 0 (omega (arith, first)) in
      let more : level * length depths ≡ (level - 1) * length depths + length depths = one-more level (length depths) some in
      let high_as : level ≡ length (layer ∷ reverse layers) = omega (arith, length-reverse layers, t.count, some) in
      record {
        count = ap length grown ∙ length-append layers (layer ∷ []) ∙ omega (arith, t.count, some);
        sound = λ weights w l.
            let under = t.sound weights w (omega (arith, l, more)) in
            let new = rows-short depths last level weights rows some zero_depth (short weights w) (length depths) (omega (arith, long)) in
            let few_terms = weight-all depths level weights (length depths) (w.count ∙ sym d.count) in
            subst (Sound inputs depths last level weights) (sym turned) (record {
              layers_are = (
                record {
                  some = omega (arith, wires, place-below depths last level 0 (length depths) (omega (arith, d.count, first)) (wire-there depths last level 0 (omega (arith, zero_depth)) high));
                  most = omega (arith, wires, place-most depths last level (length depths), few);
                  wires = omega (arith, under.wires, wires, place-most depths last level (length depths), l, more);
                  terms = omega (arith, under.terms, count, new, few_terms, l, more);
                  each = subst (λ n. AreTerms o layer.wires n None layer.terms) (sym under.width) (subst (λ n. AreTerms o n (width_of depths last (level - 1)) None layer.terms) (sym wires) (terms (width_of depths last (level - 1)) ordered));
                },
                under.layers_are,
              );
              width = wires;
              wires = omega (arith, under.wires, wires, place-most depths last level (length depths), more);
              terms = omega (arith, under.terms, count, new, more);
            });
        stands = λ values ins v s.
            let below = wires_of o (reverse layers) ins in
            let under = t.stands values ins v s in
            subst (λ ls. Stands o depths last level values (wires_of o ls ins)) (sym turned)
            (layer-stands depths last level values below rows layer wires long (each below (subst (λ n. AreRows o n rows) (sym under.width) ordered)) (have values below v under));
        ones = subst (HaveOnesUnder o) (sym turned) (one, t.ones);
        widths = subst (HaveWidths depths last inputs) (sym turned) (wires ∙ ap (width_of depths last) high_as, t.widths);
        stand = λ values ins v s.
            let below = wires_of o (reverse layers) ins in
            let under = t.stands values ins v s in
            let here = layer-stands depths last level values below rows layer wires long (each below (subst (λ n. AreRows o n rows) (sym under.width) ordered)) (have values below v under) in
            subst (StandFrom o depths last values ins) (sym turned) (subst (λ n. Stands o depths last n values (layer_values o layer below)) high_as here, t.stand values ins v s);
      }

  -- with the outputs' layer on top
  pub tower-ends : (inputs : ℕ) (made : List (Gate A)) (depths last : List ℕ) (count : ℕ) (layers all : List (Layer A)) (layer : Layer A) (rows : List (List (Term A))) (outputs : List ℕ) → 1 ≤ count → 1 ≤ inputs → AreGates (inputs - 1) made → AreDepths inputs made depths
      → all ≡ layers ++ layer ∷ [] → length rows ≡ length depths → AreRows o (width_of depths last (count - 1)) rows → layer.wires ≡ length outputs → length outputs ≤ most_wires
      → ((values wires : List A) → AreValues o inputs made values → Stands o depths last (count - 1) values wires → HaveValues o depths last count values wires rows)
      → ((weights : List ℕ) → AreWeights inputs made weights → AreShort depths count weights rows)
      → ((width : ℕ) → AreRows o width rows → AreTerms o (length outputs) width None layer.terms)
      → ((below : List A) → AreRows o (length below) rows → (i : ℕ) → i < length outputs → wire o (coef o layer.terms) below i ≡ row_value o below (row_at rows (at outputs i)))
      → length layer.terms ≡ lengths_of rows outputs → ((i : ℕ) → i < length outputs → at outputs i < length depths) → ((i : ℕ) → i < length outputs → at depths (at outputs i) ≤ count) → ((i : ℕ) → i < length outputs → count ≤ at last (at outputs i))
      → Tower inputs made depths last (count - 1) layers → AreStacked o inputs made depths last count outputs all
  tower-ends inputs made depths last count layers all layer rows outputs some first gates d grown long ordered wires few have short terms each terms_count nodes deep needed t =
      let turned : reverse all ≡ layer ∷ reverse layers = reverse-push layers all layer grown in
      let more : count * length depths ≡ (count - 1) * length depths + length depths = one-more count (length depths) some in
      record {
        count_is = ap length grown ∙ length-append layers (layer ∷ []) ∙ omega (arith, t.count, some);
        valid = λ weights w one ones l.
            let under = t.sound weights w (omega (arith, l, more)) in
            let new = outputs-short depths count weights rows outputs (short weights w) (λ i m. (ones i m, omega (arith, nodes i m, long))) in
            let old = weight-all depths (count - 1) weights (length depths) (w.count ∙ sym d.count) in
            let light = outputs-heavy weights outputs (λ i m. heavy inputs made weights (at outputs i) first w gates (ones i m) (omega (arith, nodes i m, d.count))) in
            subst (AreLayers o inputs) (sym turned) (
              record {
                some = omega (arith, wires, one);
                most = omega (arith, wires, few);
                wires = omega (arith, under.wires, wires, l, more, light);
                terms = omega (arith, under.terms, terms_count, new, old, l, more);
                each = subst (λ n. AreTerms o layer.wires n None layer.terms) (sym under.width) (subst (λ n. AreTerms o n (width_of depths last (count - 1)) None layer.terms) (sym wires) (terms (width_of depths last (count - 1)) ordered));
              },
              under.layers_are,
            );
        values = λ values ins v s.
            let below = wires_of o (reverse layers) ins in
            let under = t.stands values ins v s in
            let f = wire o (coef o layer.terms) below in
            let value-of : (ks : List ℕ) (i : ℕ) → i < length ks → entry o (map (entry o values) ks) i ≡ entry o values (at ks i) = mapped-at (entry o values) in
            let rows_are = subst (λ n. AreRows o n rows) (sym under.width) ordered in
            ap (λ ls. wires_of o ls ins) turned ∙ ext_get_or o.zero (map f (range_with_len 0 layer.wires)) (map (entry o values) outputs) (length-map-range_with_len f 0 layer.wires ∙ wires ∙ sym (length-map outputs (entry o values)))
            (λ i l.
            let li : i < length outputs = omega (arith, l, length-map-range_with_len f 0 layer.wires, wires) in
            get_or-map-range_with_len f 0 layer.wires i i o.zero (omega (arith, li, wires)) (omega arith) ∙ each below rows_are i li ∙ have values below v under (at outputs i) (omega (arith, nodes i li, long)) (deep i li) (needed i li) ∙ sym (value-of outputs i li));
        ones = subst (HaveOnes o) (sym turned) t.ones;
        widths = subst (HaveWidthsBelow depths last inputs (length outputs)) (sym turned) (wires, t.widths);
        stand = λ values ins v s. subst (StandBelow o depths last values ins) (sym turned) (t.stand values ins v s);
        terms = λ weights w ones l.
            let under = t.sound weights w (omega (arith, l, more)) in
            subst (AreAllTerms o inputs) (sym turned) (
              subst (λ n. AreTerms o layer.wires n None layer.terms) (sym under.width) (subst (λ n. AreTerms o n (width_of depths last (count - 1)) None layer.terms) (sym wires) (terms (width_of depths last (count - 1)) ordered)),
              all-terms o inputs (reverse layers) under.layers_are,
            );
        few_terms = λ weights w ones l.
            let under = t.sound weights w (omega (arith, l, more)) in
            let new = outputs-short depths count weights rows outputs (short weights w) (λ i m. (ones i m, omega (arith, nodes i m, long))) in
            let old = weight-all depths (count - 1) weights (length depths) (w.count ∙ sym d.count) in
            subst (λ ls. (under_of inputs ls).terms ≤ count * length depths + total weights + total (map (at weights) outputs)) (sym turned) (omega (arith, under.terms, terms_count, new, old, more));
      }

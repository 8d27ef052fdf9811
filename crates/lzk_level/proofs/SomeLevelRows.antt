-- Each level has its rows.
use Rattle.std.specs.Prelude.{◌≡◌, ℕ, ◌-◌, ◌<◌, ◌≤◌, List, [], ◌∷◌, ◌++◌, length, map}
use Rattle.std.specs.List.{range_with_len}
use Rattle.std.proofs.Common.{zero, suc, inl, inr, refl, ap, ◌∙◌, arith, get_or}
use Rattle.std.proofs.lemmas.Bool.{cases_lt}
use Rattle.std.proofs.lemmas.List.{length-append, get_or_default}
use Rattle.std.proofs.lemmas.List.FromFn.{length-map-range_with_len, get_or-map-range_with_len}
use Rattle.lzk_field.specs.Ring.{Ops, RingLaws, FieldLaws}
use Rattle.lzk_field.specs.Sums.{entry}
use Rattle.lzk_circuit.specs.declared.layer.Term.{Term}
use Rattle.lzk_circuit_reduce.specs.Rows.{IsRow, row_value, ordered}
use Rattle.lzk_circuit_reduce.specs.Renumbering.{at}
use Rattle.lzk_circuit_reduce.proofs.NormalLaws.{ZeroOrNot}
use Rattle.lzk_level.specs.Gates.{Gate, Constant}
use Rattle.lzk_level.specs.Nodes.{AreGates}
use Rattle.lzk_level.specs.Levels.{AreDepths, AreWeights, AreValues}
use Rattle.lzk_level.proofs.Unshared.{ArePlaces, place_in, width_of, StartsWithOne, AreLast, AreRows, AreShort, IsShort, HaveValues, Stands, IsNodeRow, AreWirePlaces}
use Rattle.lzk_level.proofs.LevelLaws.{row-more}
use Rattle.lzk_level.proofs.NodeRowLaws.{copied, gated}
use Rattle.lzk_level.proofs.OneLaws.{starts-with-one}
use Rattle.lzk_level.proofs.SomeGateRow.{gate-row}

module _ {A : Type 0} (o : Ops A) (r : RingLaws o) (f : FieldLaws o) (decide : ZeroOrNot o) (made : List (Gate A)) (depths last : List ℕ) (inputs level : ℕ)
    (some : 1 ≤ level) (most : level ≤ at last 0) (first : 1 ≤ inputs) (gates : AreGates (inputs - 1) made) (d : AreDepths inputs made depths) (w : AreLast inputs made depths last) where
  places : List ℕ
  places = map (place_in depths last (level - 1)) (range_with_len 0 (length depths))

  are_places : ArePlaces depths last (level - 1) places
  unfolding places
  are_places =
      let f = place_in depths last (level - 1) in
      (length-map-range_with_len f 0 (length depths), λ k l. get_or-map-range_with_len f 0 (length depths) k k 0 l (omega arith))

  are_wires : AreWirePlaces depths last (level - 1) places
  are_wires = (are_places.0, λ k l there. are_places.1 k l)

  abbrev NodeRow : List (List (Term A)) → List (Term A) → Type 0
  NodeRow rows row = IsNodeRow o inputs made depths last level rows row

  zero_depth : at depths 0 ≡ 0
  zero_depth = d.at_inputs 0 (omega (arith, first))

  deeper : (rows : List (List (Term A))) → level < at depths (length rows) → NodeRow rows []
  deeper rows deep = record {
    terms = λ all. tt;
    value = λ values wires v s counted l need. absurd (omega (arith, deep, l));
    short = λ weights h short. ((λ less. omega arith), (λ some. omega arith));
    one = λ none. absurd (omega (arith, ap (at depths) none, zero_depth, deep));
  }

  -- a node that no level from here on needs has none
  unneeded : (rows : List (List (Term A))) → at last (length rows) < level → NodeRow rows []
  unneeded rows over = record {
    terms = λ all. tt;
    value = λ values wires v s counted l need. absurd (omega (arith, over, need));
    short = λ weights h short. ((λ less. omega arith), (λ some. omega arith));
    one = λ none. absurd (omega (arith, ap (at last) none, most, over));
  }

  goes-on : (rows : List (List (Term A))) → length rows < length depths → at depths (length rows) < level → level ≤ at last (length rows) → (row : List (Term A)) × NodeRow rows row
  goes-on rows next less need =
      let row = ordered o.one 0 (at places (length rows)) ∷ [] in (row, copied o r f made depths last inputs level some most first gates d w places are_wires rows row next less need refl)

  -- and one of this depth has the row of its gate
  by-gate : (rows : List (List (Term A))) → length rows < length depths → at depths (length rows) ≤ level → level ≤ at depths (length rows) → level ≤ at last (length rows) → (row : List (Term A)) × NodeRow rows row
  by-gate rows next up least need =
      let k = length rows in
      let behind : inputs ≤ k = elim (cases_lt k inputs) [ inl before ↦ absurd (omega (arith, d.at_inputs k before, some, least)) | inr after ↦ after ] in
      let i = k - inputs in
      let gate = get_or made i (Constant o.zero) in
      let is : gate ≡ get_or made i gate = get_or_default made i (Constant o.zero) gate (omega (arith, behind, next, d.count)) in
      let (row, n) = gate-row o r decide places rows gate in (row, gated o r f made depths last inputs level some most first gates d w places are_wires rows gate row next up least need is n)

  node-row : (rows : List (List (Term A))) → length rows < length depths → (row : List (Term A)) × NodeRow rows row
  node-row rows next = elim (cases_lt level (at depths (length rows))) [
    | inl deep ↦ ([], deeper rows deep)
    | inr up ↦ elim (cases_lt (at last (length rows)) level) [
      | inl over ↦ ([], unneeded rows over)
      | inr need ↦ elim (cases_lt (at depths (length rows)) level) [
        | inl less ↦ goes-on rows next less need
        | inr least ↦ by-gate rows next up least need
      ]
    ]
  ]

  -- the rows of the first n nodes
  pub record AreLevelRows (n : ℕ) (rows : List (List (Term A))) : Type 0 where
    pub count : length rows ≡ n
    pub terms : AreRows o (width_of depths last (level - 1)) rows
    pub value : (values wires : List A) → AreValues o inputs made values → Stands o depths last (level - 1) values wires → HaveValues o depths last level values wires rows
    pub short : (weights : List ℕ) → AreWeights inputs made weights → AreShort depths level weights rows
    pub one : 1 ≤ n → StartsWithOne o rows

  rows-to : (n : ℕ) → n ≤ length depths → (rows : List (List (Term A))) × AreLevelRows n rows
  rows-to zero l = (
    [],
    record {
      count = refl;
      terms = λ k m. absurd (omega (arith, m));
      value = λ values wires v s k m. absurd (omega (arith, m));
      short = λ weights w k m. absurd (omega (arith, m));
      one = λ m. absurd (omega (arith, m));
    },
  )
  rows-to (suc n) l =
      let (rows, are) = rows-to n (omega (arith, l)) in
      let (row, is) = node-row rows (omega (arith, are.count, l)) in (
        rows ++ row ∷ [],
        record {
          count = length-append rows (row ∷ []) ∙ omega (arith, are.count);
          terms = row-more (λ k us. IsRow o (width_of depths last (level - 1)) us) rows row are.terms (is.terms are.terms);
          value = λ values wires v s. row-more (λ k us. at depths k ≤ level → level ≤ at last k → row_value o wires us ≡ entry o values k) rows row (are.value values wires v s) (is.value values wires v s (are.value values wires v s));
          short = λ weights w. row-more (λ k us. IsShort depths level weights k (length us)) rows row (are.short weights w) (is.short weights w (are.short weights w));
          one = λ m. starts-with-one o rows rows (rows ++ row ∷ []) row row refl refl refl (λ more. are.one (omega (arith, more, are.count))) is.one;
        },
      )

  pub level-rows : (rows : List (List (Term A))) × AreLevelRows (length depths) rows
  level-rows = rows-to (length depths) (omega arith)

-- What an honest prover sends stands on the draws before it alone, and passes by all draws and all sets of columns.
use Rattle.lzk_profile.specs.Profile.{opened_count}
use Rattle.std.specs.Prelude.{◌≡◌, ◌⊎◌, ℕ, ◌+◌, ◌-◌, ◌*◌, ◌/◌, ◌%◌, ◌<◌, ◌≤◌, cond, nat_lt, true, List, [], ◌∷◌, ◌++◌, length, map, take, drop, slice_index}
use Rattle.std.specs.List.{range_with_len, flat_map}
use Rattle.std.proofs.Common.{zero, suc, inl, inr, refl, sym, ap, ◌∙◌, arith, subst}
use Rattle.std.proofs.lemmas.Bool.{lt-ltb, le-ltb}
use Rattle.std.proofs.lemmas.List.{ext_get_or, length-map}
use Rattle.std.proofs.lemmas.List.FromFn.{get_or-map-range_with_len, length-map-range_with_len}
use native.Mathlib.Decide.{ℕ_discrete, dec_lt}
use Rattle.lzk_field.specs.Coding.{Coding}
use Rattle.lzk_field.specs.Ring.{Ops, Laws}
use Rattle.lzk_field.specs.Sums.{minus, entry}
use Rattle.lzk_poly.specs.Extension.{extension}
use Rattle.lzk_mle.specs.Multilinear.{tilde}
use Rattle.lzk_circuit.specs.Valid.{Wiring, IsValid}
use Rattle.lzk_circuit.specs.Wires.{all_values, inputs_of, list_at}
use Rattle.lzk_circuit.specs.Checks.{IsSatisfied}
use Rattle.lzk_layout.specs.declared.params.Params.{Params}
use Rattle.lzk_layout.specs.Sizes.{AreBounded, params_of, sent_counts}
use Rattle.lzk_layout.specs.Places.{depth, round_count, sent_at}
use Rattle.lzk_layout.proofs.PlaceLaws.{sent_next, sent_last}
use Rattle.lzk_layout.proofs.SizeLaws.{params_bounded}
use Rattle.lzk_sumcheck.specs.declared.script.Script.{Script}
use Rattle.lzk_sumcheck.specs.Messages.{layered_at, true_round, true_a, true_b}
use Rattle.lzk_sumcheck.specs.Rounds.{round}
use Rattle.lzk_sumcheck.specs.Script.{first_challenges, point_a, point_b}
use Rattle.lzk_sumcheck.proofs.ProvingLaws.{sent-rises}
use Rattle.lzk_ligero_tableau.specs.Tableau.{randoms, tableau, column}
use Rattle.lzk_ligero_proof.specs.Answered.{Answers, answers_of}
use Rattle.lzk_ligero_proof.specs.Proving.{HaveCounts}
use Rattle.lzk_ligero_proof.proofs.Standing.{length_rows}
use Rattle.lzk_soundness.specs.Chance.Few.{IsIn}
use Rattle.lzk_soundness.specs.Chance.Sets.{sets_of}
use Rattle.lzk_soundness.specs.Draws.Game.{AgreeBelow, IsProver}
use Rattle.lzk_soundness.specs.Draws.Schedule.{firsts, drawn_at, script_of}
use Rattle.lzk_soundness.proofs.DrawsLaws.Alike.{shape_of, point_a_same, point_b_same, firsts_same, layered_same}
use Rattle.lzk_soundness.proofs.DrawsLaws.Deciding.{is_yes, from_yes}
use Rattle.lzk_soundness.proofs.DrawsLaws.Places.{some_firsts}
use Rattle.lzk_soundness.proofs.ExtractLaws.Honest.{honest_extracted}
use Rattle.lzk_soundness.proofs.OracleLaws.Queries.{same_list}
use Rattle.lzk_soundness.specs.Count.Game.{Strategy, column_sets, whole_count, script_draws, weights_in, column_of, shown, IsPassed}
use Rattle.lzk_soundness.specs.Count.Laws.{IsPlayer}
use Rattle.lzk_hiding.specs.Seen.{IsSeen, AreColumns}
use Rattle.lzk_hiding.specs.Honest.{PassesAlways, IsHonest, HonestPass}
use Rattle.lzk_hiding.specs.Laws.{IsCase}
use Rattle.lzk_hiding.proofs.Passing.{seen_passes}
use Rattle.lzk_hiding.proofs.Sent.{true_sent, true_at, true_is, to_layers}

-- ---- sets of columns

-- k entries from a on, below a + n, that ascend
record AreUp (a n k : ℕ) (xs : List ℕ) : Type 0 where
  pub count : length xs ≡ k
  pub inside : (i : ℕ) → i < k → (a ≤ slice_index xs i) × (slice_index xs i < a + n)
  pub rise : (i j : ℕ) → i < j → j < k → slice_index xs i < slice_index xs j

in_either : {X : Type 0} (x : X) (xs ys : List X) → IsIn x (xs ++ ys) → IsIn x xs ⊎ IsIn x ys
in_either x [] ys is = inr is
in_either x (z ∷ zs) ys (inl e) = inl (inl e)
in_either {X} x (z ∷ zs) ys (inr is) = more (in_either x zs ys is)
  where
    more : IsIn x zs ⊎ IsIn x ys → IsIn x (z ∷ zs) ⊎ IsIn x ys
    more (inl i) = inl (inr i)
    more (inr i) = inr i

in_mapped : {X Y : Type 0} (f : X → Y) (y : Y) (xs : List X) → IsIn y (map f xs) → (x : X) × (IsIn x xs × (f x ≡ y))
in_mapped f y [] is = absurd is
in_mapped f y (x ∷ xs) (inl e) = (x, (inl refl, e))
in_mapped f y (x ∷ xs) (inr is) = let found = in_mapped f y xs is in (found.0, (inr found.1.0, found.1.1))

up_first : (a n k : ℕ) (ys : List ℕ) → AreUp (a + 1) n k ys → AreUp a (suc n) (suc k) (a ∷ ys)
up_first a n k ys up = record { count = omega (arith, up.count); inside = inside; rise = rise }
  where
    inside : (i : ℕ) → i < suc k → (a ≤ slice_index (a ∷ ys) i) × (slice_index (a ∷ ys) i < a + suc n)
    inside zero h = (omega arith, omega arith)
    inside (suc i) h = let one = up.inside i (omega (arith, h)) in (omega (arith, one.0), omega (arith, one.1))

    rise : (i j : ℕ) → i < j → j < suc k → slice_index (a ∷ ys) i < slice_index (a ∷ ys) j
    rise i zero l h = absurd (omega (arith, l))
    rise zero (suc j) l h = let one = up.inside j (omega (arith, h)) in omega (arith, one.0)
    rise (suc i) (suc j) l h = up.rise i j (omega (arith, l)) (omega (arith, h))

up_later : (a n k : ℕ) (xs : List ℕ) → AreUp (a + 1) n k xs → AreUp a (suc n) k xs
up_later a n k xs up = record {
  count = up.count;
  inside = λ i h. let one = up.inside i h in (omega (arith, one.0), omega (arith, one.1));
  rise = up.rise;
}

sets_up : (k a n : ℕ) (xs : List ℕ) → IsIn xs (sets_of k (range_with_len a n)) → AreUp a n k xs
sets_up zero a n xs (inl e) = subst (AreUp a n 0) e (record { count = refl; inside = λ i h. absurd (omega (arith, h)); rise = λ i j l h. absurd (omega (arith, h)) })
sets_up zero a n xs (inr is) = absurd is
sets_up (suc k) a zero xs is = absurd is
sets_up (suc k) a (suc n) xs is =
    by (sets_up k (a + 1) n) (sets_up (suc k) (a + 1) n xs) (in_either xs (map (λ rest. a ∷ rest) (sets_of k (range_with_len (a + 1) n))) (sets_of (suc k) (range_with_len (a + 1) n)) is)
  where
    by : ((ys : List ℕ) → IsIn ys (sets_of k (range_with_len (a + 1) n)) → AreUp (a + 1) n k ys) → (IsIn xs (sets_of (suc k) (range_with_len (a + 1) n)) → AreUp (a + 1) n (suc k) xs)
        → IsIn xs (map (λ rest. a ∷ rest) (sets_of k (range_with_len (a + 1) n))) ⊎ IsIn xs (sets_of (suc k) (range_with_len (a + 1) n)) → AreUp a (suc n) (suc k) xs
    by fronts backs (inl front) =
        let found = in_mapped (λ rest. a ∷ rest) xs (sets_of k (range_with_len (a + 1) n)) front in
        subst (AreUp a (suc n) (suc k)) found.1.1 (up_first a n k found.0 (fronts found.0 found.1.0))
    by fronts backs (inr back) = up_later a n (suc k) xs (backs back)

set_is : {A : Type 0} (c : Wiring A) (columns : List ℕ) → IsIn columns (column_sets c) → AreColumns (params_of c) columns
set_is c columns is =
    let up = sets_up opened_count 0 (params_of c).mcol columns is in
    record {
      count = up.count;
      inside = λ k h. (let one = up.inside k h in omega (arith, one.1));
      apart = λ j k l h same. (let less = up.rise j k l h in absurd (omega (arith, less, same)));
    }

dec_in : (x : List ℕ) (xs : List (List ℕ)) → Dec (IsIn x xs)
dec_in x [] = no (λ is. is)
dec_in x (y ∷ ys) = by (same_list ℕ_discrete y x) (dec_in x ys)
  where
    by : Dec (y ≡ x) → Dec (IsIn x ys) → Dec (IsIn x (y ∷ ys))
    by (yes e) d = yes (inl e)
    by (no n) (yes i) = yes (inr i)
    by (no n) (no m) = no neither
      where
        neither : (y ≡ x) ⊎ IsIn x ys → ⊥
        neither (inl e) = n e
        neither (inr i) = m i

yes_is : {P : Type 0} (d : Dec P) → P → is_yes d ≡ true
yes_is (yes p) q = refl
yes_is (no n) q = absurd (n q)

flat_same : {X Y : Type 0} (f g : X → List Y) → ((x : X) → f x ≡ g x) → (xs : List X) → flat_map f xs ≡ flat_map g xs
flat_same f g same [] = refl
flat_same f g same (x ∷ xs) = ap (λ ys. ys ++ flat_map f xs) (same x) ∙ ap (λ ys. g x ++ ys) (flat_same f g same xs)

-- ---- what is sent before a draw

module _ {A : Type 0} (o : Ops A) (c : Wiring A) where
  -- the layer of a sent element, and its place there
  record Stands (l i : ℕ) : Type 0 where
    pub layer : ℕ
    pub place : ℕ
    pub above : layer < l
    pub within : place < 2 * round_count c layer + 2
    pub is : sent_at c layer + place ≡ i

  stands : (l i : ℕ) → l ≤ depth c → i < sent_at c l → Stands l i
  stands zero i d h = absurd (omega (arith, h))
  stands (suc l) i d h =
      let next = sent_next c l (omega (arith, d)) in
      let y : suc l ≡ l + 1 = omega arith in
      elim (dec_lt i (sent_at c l)) [
        | yes g ↦
            let it = stands l i (omega (arith, d)) g in
            record { layer = it.layer; place = it.place; above = (let less = it.above in omega (arith, less)); within = it.within; is = it.is }
        | no g ↦ record { layer = l; place = i - sent_at c l; above = omega arith; within = omega (arith, g, h, next, ap (sent_at c) y); is = omega (arith, g) }
      ]

  drawn_rises : (k l : ℕ) → k ≤ l → drawn_at c k ≤ drawn_at c l
  drawn_rises k zero h = let z : k ≡ zero = omega (arith, h) in omega (arith, ap (drawn_at c) z)
  drawn_rises k (suc l) h = elim (dec_lt k (suc l)) [
    | yes less ↦ omega (arith, drawn_rises k l (omega (arith, less)))
    | no more ↦ let z : k ≡ suc l = omega (arith, h, more) in omega (arith, ap (drawn_at c) z)
  ]

  module _ (e : Coding A) (values : List (List A)) (pads : List A) where
    abbrev true_by : List A → ℕ → A
    true_by draws i = true_at o e c (script_of o c draws) values i

    -- the elements that are sent for these draws
    abbrev pub sent_by : List A → List A
    sent_by draws = map (λ i. minus o (true_by draws i) (entry o pads i)) (range_with_len 0 (sent_counts c))

    module _ (xs ys : List A) where
      abbrev S : Script A
      S = script_of o c xs

      abbrev T : Script A
      T = script_of o c ys

      round_same : (l n : ℕ) (x : A) → l < depth c → n < round_count c l → AgreeBelow o (drawn_at c l + firsts c + n) xs ys → true_round o c S values l n x ≡ true_round o c T values l n x
      round_same l n x h b agree =
          ap (λ L. round o L (first_challenges o S l n) x) (layered_same o c xs ys values l h (λ k i. agree k (omega (arith, i))) (some_firsts c))
          ∙ ap (λ r. round o (layered_at o c T values l) r x) (firsts_same o c xs ys l n h (omega (arith, b)) agree)

      -- an element of a layer's rounds stands on the challenges before its round
      sent_in_round : (l k : ℕ) → l < depth c → k < 2 * round_count c l → AgreeBelow o (drawn_at c l + firsts c + k / 2) xs ys → true_sent o e c S values l k ≡ true_sent o e c T values l k
      sent_in_round l k h b agree =
          let is : (s : Script A) → true_sent o e c s values l k ≡ true_round o c s values l (k / 2) (e.element (2 * (k % 2))) =
          λ s. ap (λ y. cond y (true_round o c s values l (k / 2) (e.element (2 * (k % 2)))) (cond (nat_lt k (2 * round_count c l + 1)) (true_a o s values l) (true_b o s values l))) (lt-ltb k (2 * round_count c l) b) in
          is S ∙ round_same l (k / 2) (e.element (2 * (k % 2))) h (omega (arith, b)) agree ∙ sym (is T)

      -- and a factor on all challenges of the layer
      sent_factor : (l k : ℕ) → l < depth c → 2 * round_count c l ≤ k → AgreeBelow o (drawn_at c (suc l)) xs ys → true_sent o e c S values l k ≡ true_sent o e c T values l k
      sent_factor l k h b agree =
          let F : List A → List A → A = λ p q. cond (nat_lt k (2 * round_count c l + 1)) (tilde o (list_at values (l + 1)) p) (tilde o (list_at values (l + 1)) q) in
          let is : (s : Script A) → true_sent o e c s values l k ≡ F (point_a o s (suc l)) (point_b o s (suc l)) =
          λ s. ap (λ y. cond y (true_round o c s values l (k / 2) (e.element (2 * (k % 2)))) (F (point_a o s (suc l)) (point_b o s (suc l)))) (le-ltb k (2 * round_count c l) b) in
          is S ∙ ap (λ p. F p (point_b o S (suc l))) (point_a_same o c xs ys (suc l) (omega (arith, h)) agree) ∙ ap (F (point_a o T (suc l))) (point_b_same o c xs ys (suc l) (omega (arith, h)) agree) ∙ sym (is T)

      below_layer : (l i : ℕ) → l ≤ depth c → i < sent_at c l → AgreeBelow o (drawn_at c l) xs ys → true_by xs i ≡ true_by ys i
      below_layer l i d h agree =
          let it = stands l i d h in
          let k = it.layer in
          let j = it.place in
          let low : k < depth c = omega (arith, it.above, d) in
          let rise : drawn_at c (suc k) ≤ drawn_at c l = drawn_rises (suc k) l (omega (arith, it.above)) in
          let same : true_sent o e c S values k j ≡ true_sent o e c T values k j = elim (dec_lt j (2 * round_count c k)) [
            | yes g ↦ sent_in_round k j low g (λ m q. agree m (omega (arith, q, g, rise)))
            | no g ↦ sent_factor k j low (omega (arith, g)) (λ m q. agree m (omega (arith, q, rise)))
          ] in
          subst (λ (i : ℕ). true_by xs i ≡ true_by ys i) it.is
          (true_is o e c S values k j low it.within ∙ same ∙ sym (true_is o e c T values k j low it.within))

      below_round : (l n i : ℕ) → l < depth c → n < round_count c l → i < sent_at c l + 2 * n + 2 → AgreeBelow o (drawn_at c l + firsts c + n) xs ys → true_by xs i ≡ true_by ys i
      below_round l n i d b h agree = elim (dec_lt i (sent_at c l)) [
        | yes g ↦ below_layer l i (omega (arith, d)) g (λ m q. agree m (omega (arith, q)))
        | no g ↦
            let j = i - sent_at c l in
            let z : sent_at c l + j ≡ i = omega (arith, g) in
            let inside : j < 2 * round_count c l = omega (arith, g, h, b) in
            let within : j < 2 * round_count c l + 2 = omega (arith, inside) in
            let half : j / 2 ≤ n = omega (arith, g, h) in
            subst (λ (i : ℕ). true_by xs i ≡ true_by ys i) z
            (true_is o e c S values l j d within ∙ sent_in_round l j d inside (λ m q. agree m (omega (arith, q, half))) ∙ sym (true_is o e c T values l j d within))
      ]

      sent_at_place : (i : ℕ) → i < sent_counts c → true_by xs i ≡ true_by ys i → entry o (sent_by xs) i ≡ entry o (sent_by ys) i
      sent_at_place i h same =
          let f : List A → ℕ → A = λ draws i. minus o (true_by draws i) (entry o pads i) in
          get_or-map-range_with_len (f xs) 0 (sent_counts c) i i o.zero h (omega arith) ∙ ap (λ x. minus o x (entry o pads i)) same
          ∙ sym (get_or-map-range_with_len (f ys) 0 (sent_counts c) i i o.zero h (omega arith))

    pub sent_prover : IsProver o c sent_by
    sent_prover = record {
      layers = λ l xs ys d agree i h.
          sent_at_place xs ys i (omega (arith, h, sent-rises c l (depth c) d (omega arith), sent_last c)) (below_layer xs ys l i d h agree);
      rounds = λ l n xs ys d b agree i h.
          sent_at_place xs ys i (omega (arith, h, b, sent_next c l d, sent-rises c (l + 1) (depth c) (omega (arith, d)) (omega arith), sent_last c)) (below_round xs ys l n i d b h agree);
    }

-- ---- the strategy

module _ {A : Type 0} (o : Ops A) (e : Coding A) (laws : Laws o e.size e.number e.element e.bytes) (c : Wiring A) (public private : List A) (word : ℕ → ℕ) (valid : IsValid o c) (counts : HaveCounts c public private) (satisfied : IsSatisfied o e.number c.layers (inputs_of o public private)) where
  abbrev p : Params
  p = params_of c

  b : AreBounded p
  b = params_bounded o c valid

  abbrev V : List (List A)
  V = all_values o c.layers (inputs_of o public private)

  abbrev own_pads : List A
  own_pads = randoms o e word 0 (sent_counts c)

  abbrev s : List A → Script A
  s draws = script_of o c (script_draws c draws)

  abbrev sent : List A → List A
  sent draws = sent_by o c e V own_pads (script_draws c draws)

  abbrev answers : List A → Answers A
  answers draws = answers_of o e.element c p public (s draws) (sent draws) (weights_in c draws) (tableau o e c private word)

  abbrev strategy : Strategy A
  strategy = record {
    table = λ i j. entry o (column o e c private word j) i;
    messages = sent_by o c e V own_pads;
    ldt = λ draws. (answers draws).low_degree;
    dot = λ draws. (answers draws).linear;
    quad_head = λ draws. take opened_count (answers draws).quadratic;
    quad_tail = λ draws. drop p.block (answers draws).quadratic;
  }

  length_column : (j : ℕ) → length (column o e c private word j) ≡ p.nrow
  unfolding column
  length_column j = length-map (tableau o e c private word) (λ values. extension o e.element values (p.dblock + j)) ∙ length_rows o e c private word b

  column_is : (j : ℕ) → column_of o c strategy j ≡ column o e c private word j
  column_is j =
      let f : ℕ → A = λ i. entry o (column o e c private word j) i in
      ext_get_or o.zero (map f (range_with_len 0 p.nrow)) (column o e c private word j) (length-map-range_with_len f 0 p.nrow ∙ sym (length_column j))
      (λ i h. get_or-map-range_with_len f 0 p.nrow i i o.zero (omega (arith, h, length-map-range_with_len f 0 p.nrow)) (omega arith))

  is_seen : (draws : List A) (columns : List ℕ) → IsSeen o e c public (s draws) (weights_in c draws) columns private word (shown o c strategy draws columns)
  is_seen draws columns =
      let f : ℕ → A = λ i. minus o (true_at o e c (s draws) V i) (entry o own_pads i) in
      record {
        count = length-map-range_with_len f 0 (sent_counts c);
        layers = to_layers o e c (s draws) V own_pads (sent draws) (λ i h. get_or-map-range_with_len f 0 (sent_counts c) i i o.zero h (omega arith));
        answers = record { low_degree = refl; linear = refl; quad_head = refl; quad_tail = refl };
        opened = flat_same (column_of o c strategy) (column o e c private word) column_is columns;
      }

  always_passes : (draws : List A) (columns : List ℕ) → IsIn columns (column_sets c) → IsPassed o e c public strategy draws columns
  always_passes draws columns is =
      let case : IsCase o e c public private (s draws) columns =
      record { valid = valid; counts = counts; satisfied = satisfied; shape = shape_of o c (script_draws c draws); opened = set_is c columns is } in
      seen_passes o e laws c public private (s draws) (weights_in c draws) columns word (shown o c strategy draws columns) case (is_seen draws columns)

  often : PassesAlways o e c public strategy
  often = record {
    wins = λ draws columns. is_yes (dec_in columns (column_sets c));
    player = record {
      valid = valid;
      publics = counts.0;
      prover = sent_prover o c e V own_pads;
      only = λ draws columns long size won. always_passes draws columns (from_yes (dec_in columns (column_sets c)) won);
    };
    always = λ draws columns is. yes_is (dec_in columns (column_sets c)) is;
  }

  pub honest_passes : (strategy : Strategy A) × IsHonest o e c public private word strategy
  honest_passes = (
    strategy,
    record {
      table = column_is;
      encoded = honest_extracted o e laws c private word valid counts.1;
      prover = sent_prover o c e V own_pads;
      seen = is_seen;
      passes = λ draws columns long is. always_passes draws columns is;
      often = often;
    },
  )

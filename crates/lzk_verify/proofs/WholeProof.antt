-- What is kept of all fields of a proof is that by which it is judged.
use Rattle.lzk_profile.specs.Profile.{opened_count}
use Rattle.std.specs.Prelude.{◌≡◌, ℕ, ◌+◌, ◌-◌, ◌*◌, ◌<◌, ◌≤◌, cond, true, Option, List, [], length, map, take, drop, slice_index_or}
use Rattle.std.specs.List.{range_with_len}
use Rattle.std.proofs.Common.{sym, ap, subst, ◌∙◌, arith}
use Rattle.std.proofs.lemmas.List.{length-take, take_all, get_or-take, get_or-drop}
use Rattle.lzk_field.specs.Coding.{Coding}
use Rattle.lzk_field.specs.Ring.{Ops, RingLaws, Laws}
use Rattle.lzk_field.specs.Sums.{entry, sum_below, minus}
use Rattle.lzk_field.proofs.SumLaws.{sum-ext}
use Rattle.lzk_poly.specs.Extension.{extension}
use Rattle.lzk_circuit.specs.Valid.{Wiring}
use Rattle.lzk_layout.specs.declared.params.Params.{Params}
use Rattle.lzk_layout.specs.declared.proof.Proof.{Proof}
use Rattle.lzk_layout.specs.Sizes.{AreBounded, params_of}
use Rattle.lzk_layout.specs.Proofs.{ProofBytes, element_field, fields_of, HasLengths}
use Rattle.lzk_layout.specs.Parts.{before_opened}
use Rattle.lzk_accept.specs.Challenges.{Transcript}
use Rattle.lzk_accept.specs.Checks.{column, at_row, in_triple, quadratic_values, combined_row_of, wanted_of}
use Rattle.lzk_verify.specs.declared.intake.Intake.{Intake}
use Rattle.lzk_verify.specs.Checks.{leaf_at, leaves_of}
use Rattle.lzk_verify.specs.Columns as spec
use Rattle.lzk_verify.specs.Columns.{values_of}
use Rattle.lzk_verify.specs.Desk.{AreLists, AreReady, Rooms}
use Rattle.lzk_verify.specs.Kept.{sent_count, messages_in, head_in, tail_in, whole_columns, has_answers, sent_read, leaf_read, start_of, given_of, given_before, whole_transcript, columns_of, IsLeastFailing}
use Rattle.lzk_verify.specs.Verdict.{given, LowDegreeAt, LinearAt, QuadraticAt, wanted_sum}
use Rattle.lzk_verify.proofs.ColumnPlaces as places
use Rattle.lzk_verify.proofs.ColumnLaws.{same_triple}
use Rattle.lzk_verify.proofs.Judged.{sent_of, messages_part, ldt_part, dot_part, head_part, tail_part, transcript_is, KeepsProof}
use Rattle.lzk_verify.proofs.LeastLaws.{least_same}
use Rattle.lzk_verify.proofs.Stored.{IsStored}
use Rattle.lzk_verify.proofs.TakingOpened.{map_same, reads, low, linear, quadratic}
use Rattle.lzk_verify.proofs.WholeFields.{sent_is, column_is, leaf_is, digests_are, all_whole}

module _ {A : Type 0} (o : Ops A) (laws : RingLaws o) (element : ℕ → A) (p : Params) (bounded : AreBounded p) (q : Proof A) (k : ℕ) where
  abbrev own : List A
  own = column o p q k

  -- an element of an opened column
  at_is : (row : ℕ) → row < p.nrow → entry o own row ≡ at_row o p q k row
  at_is row h = get_or-take p.nrow (drop (k * p.nrow) q.columns) row o.zero h ∙ get_or-drop (k * p.nrow) q.columns row o.zero

  some_rows : 3 ≤ p.nrow
  some_rows = omega (arith, bounded.rows)

  -- what the rows give, of the column's own elements
  pub low_degree_rows : (u : List A) → o.plus (entry o own 0) (sum_below o (p.nrow - 3) (λ i. o.times (entry o u i) (entry o own (3 + i))))
      ≡ o.plus (at_row o p q k 0) (sum_below o (p.nrow - 3) (λ i. o.times (entry o u i) (at_row o p q k (3 + i))))
  low_degree_rows u =
      let sums = sum-ext o laws (p.nrow - 3) (λ i. o.times (entry o u i) (entry o own (3 + i))) (λ i. o.times (entry o u i) (at_row o p q k (3 + i))) (λ i h. ap (o.times (entry o u i)) (at_is (3 + i) (omega arith))) in
      λ i. o.plus (at_is 0 (omega (arith, some_rows)) i) (sums i)

  pub linear_rows : (f : ℕ → A) → o.plus (entry o own 1) (sum_below o (p.nrow - 3) (λ i. o.times (f i) (entry o own (3 + i))))
      ≡ o.plus (at_row o p q k 1) (sum_below o (p.nrow - 3) (λ i. o.times (f i) (at_row o p q k (3 + i))))
  linear_rows f =
      let sums = sum-ext o laws (p.nrow - 3) (λ i. o.times (f i) (entry o own (3 + i))) (λ i. o.times (f i) (at_row o p q k (3 + i))) (λ i h. ap (o.times (f i)) (at_is (3 + i) (omega arith))) in
      λ i. o.plus (at_is 1 (omega (arith, some_rows)) i) (sums i)

  triple_inside : (i which : ℕ) → i < p.ntriple → which < 3 → 3 + p.nwrow + 3 * i + which < p.nrow
  triple_inside i which h w = omega (arith, h, w, bounded.rows)

  pub quadratic_rows : (v : List A) → o.plus (entry o own 2) (sum_below o p.ntriple (λ i. o.times (entry o v i) (minus o (o.times (spec.in_triple o p own i 0) (spec.in_triple o p own i 1)) (spec.in_triple o p own i 2))))
      ≡ o.plus (at_row o p q k 2) (sum_below o p.ntriple (λ i. o.times (entry o v i) (minus o (o.times (in_triple o p q k i 0) (in_triple o p q k i 1)) (in_triple o p q k i 2))))
  quadratic_rows v =
      let sums =
      sum-ext o laws p.ntriple (λ i. o.times (entry o v i) (minus o (o.times (spec.in_triple o p own i 0) (spec.in_triple o p own i 1)) (spec.in_triple o p own i 2)))
      (λ i. o.times (entry o v i) (minus o (o.times (in_triple o p q k i 0) (in_triple o p q k i 1)) (in_triple o p q k i 2)))
      (λ i h. ap (o.times (entry o v i)) (same_triple o (at_is (3 + p.nwrow + 3 * i + 0) (triple_inside i 0 h (omega arith))) (at_is (3 + p.nwrow + 3 * i + 1) (triple_inside i 1 h (omega arith))) (at_is (3 + p.nwrow + 3 * i + 2) (triple_inside i 2 h (omega arith))))) in
      λ i. o.plus (at_is 2 (omega (arith, some_rows)) i) (sums i)

module _ {A : Type 0} (o : Ops A) (e : Coding A) (c : Wiring A) (p : Params) (are : p ≡ params_of c) (session : List ℕ) (public : List A) (file : List ℕ) (q : Proof A) (k : Intake A)
    (laws : Laws o e.size e.number e.element e.bytes) (bounded : AreBounded p) (is : ProofBytes e.bytes e.number p q file) where
  abbrev fields : List (List ℕ)
  fields = fields_of (element_field e.bytes e.number) p.nrow q

  abbrev t : Transcript A
  t = given o e c session public q

  all_drawn : has_answers p (length fields) ≡ true
  all_drawn = let h : before_opened p ≤ length fields = omega (arith, all_whole o e p laws q is.lengths) in grind arith

  all_columns : whole_columns p (length fields) ≡ opened_count
  all_columns = places.all_whole p (length fields) (omega (arith, all_whole o e p laws q is.lengths))

  sent_are : sent_read e p fields ≡ sent_of q
  sent_are = sent_is o e p laws q is.lengths

  -- what the tape gave is what it gives to the proof
  given_is : given_of o e c p session public fields ≡ t
  given_is =
      ap (λ b. cond b (whole_transcript o e c p (start_of o e c p session public fields) q.root (sent_read e p fields)) (given_before o e c p (start_of o e c p session public fields) q.root (sent_read e p fields) (length fields))) all_drawn
      ∙ (λ i. whole_transcript o e c (are i) (start_of o e c p session public fields) q.root (sent_are i))
      ∙ transcript_is o e c session public q (subst (λ x. HasLengths x q) are is.lengths)

  module _ (s : IsStored o e c p session public fields k) (lists : AreLists p k) (r : Rooms A) (ready : k.is_drawn ≡ true → AreReady o e.element c p k r) where
    drawn : k.is_drawn ≡ true
    drawn = s.drawn_is ∙ all_drawn

    drawn_is : k.drawn ≡ t
    drawn_is = s.given_is drawn ∙ given_is

    kept_sent : k.sent.items ≡ sent_of q
    kept_sent =
        let h : sent_count p ≤ length fields - 3 = omega (arith, all_whole o e p laws q is.lengths) in
        sym (take_all (length fields - 3) k.sent.items (omega (arith, h, lists.sent))) ∙ s.sent_are ∙ sent_are

    kept_leaves : k.leaves.items ≡ leaves_of o e p q
    kept_leaves =
        sym (take_all opened_count k.leaves.items (omega (arith, lists.leaves)))
        ∙ (λ i. take (sym all_columns i) k.leaves.items)
        ∙ s.leaves_are
        ∙ (λ i. map (leaf_read e p fields) (range_with_len 0 (all_columns i)))
        ∙ map_same (leaf_read e p fields) (leaf_at o e p q) [] opened_count (leaf_is o e p laws q is.lengths)

    kept_path : take k.count k.digests.items ≡ q.path.digests
    kept_path = s.digests_are ∙ digests_are o e p laws q is.lengths

    kept_count : k.count ≡ length q.path.digests
    kept_count =
        let n : length (take k.count k.digests.items) ≡ length q.path.digests = ap length kept_path in
        omega (arith, sym n, length-take k.count k.digests.items, lists.digests, lists.few)

    columns_long : length t.columns ≡ opened_count
    columns_long = ap (λ (x : Transcript A). length x.columns) (sym drawn_is) ∙ lists.columns

    -- all opened columns are whole
    columns_are : columns_of o e c p session public fields ≡ t.columns
    columns_are =
        (λ i. take (all_columns i) (given_is i).columns) ∙ take_all opened_count t.columns (omega (arith, columns_long))

    -- what a check reads of a column is what the proof sends
    reads_are : (j : ℕ) → j < opened_count → reads o e c p session public fields j ≡ (column o p q j, (t, sent_of q))
    reads_are j h = λ i. (column_is o e p laws q is.lengths j h i, (given_is i, sent_are i))

    -- the least that fails a check of what is read fails that of what the proof sends
    least_is : (R : ℕ → List A × (Transcript A × List A) → Type 0) (P : ℕ → Type 0) → ((j : ℕ) → j < opened_count → R j (column o p q j, (t, sent_of q)) → P j) → ((j : ℕ) → j < opened_count → P j → R j (column o p q j, (t, sent_of q)))
        → (x : Option ℕ) → IsLeastFailing (columns_of o e c p session public fields) (λ j. R j (reads o e c p session public fields j)) x → IsLeastFailing t.columns P x
    least_is R P to from x h =
        least_same t.columns (λ j. R j (reads o e c p session public fields j)) P
        (λ j b y. to j (omega (arith, b, columns_long)) (subst (R j) (reads_are j (omega (arith, b, columns_long))) y))
        (λ j b y. subst (R j) (sym (reads_are j (omega (arith, b, columns_long)))) (from j (omega (arith, b, columns_long)) y))
        x (subst (λ xs. IsLeastFailing xs (λ j. R j (reads o e c p session public fields j)) x) columns_are h)

    low_rows : (j : ℕ) → o.plus (entry o (column o p q j) 0) (sum_below o (p.nrow - 3) (λ i. o.times (entry o t.challenges.u i) (entry o (column o p q j) (3 + i)))) ≡ o.plus (at_row o p q j 0) (sum_below o (p.nrow - 3) (λ i. o.times (entry o t.challenges.u i) (at_row o p q j (3 + i))))
    low_rows j = low_degree_rows o laws.ring e.element p bounded q j t.challenges.u

    kept_low : IsLeastFailing t.columns (LowDegreeAt o e c p public q t) k.failing.low_degree
    kept_low =
        least_is (low o e c p session public) (LowDegreeAt o e c p public q t)
        (λ j b h. ap (λ xs. extension o e.element xs (p.dblock + slice_index_or t.columns j 0)) (sym (ldt_part p q is.lengths)) ∙ h ∙ low_rows j)
        (λ j b h. ap (λ xs. extension o e.element xs (p.dblock + slice_index_or t.columns j 0)) (ldt_part p q is.lengths) ∙ h ∙ sym (low_rows j))
        k.failing.low_degree s.low_degree_is

    -- what the linear answer is compared with at a column
    abbrev factor_at : ℕ → ℕ → A
    factor_at j i = extension o e.element (combined_row_of o e.element c public t.script q.messages t.challenges (3 + i)) (p.dblock + slice_index_or t.columns j 0)

    abbrev right_at : ℕ → List A → A
    right_at j ms =
        o.plus (entry o (column o p q j) 1) (sum_below o (p.nrow - 3) (λ i. o.times (extension o e.element (combined_row_of o e.element c public t.script ms t.challenges (3 + i)) (p.dblock + slice_index_or t.columns j 0)) (entry o (column o p q j) (3 + i))))

    right_is : (j : ℕ) → right_at j (messages_in p (sent_of q)) ≡ o.plus (at_row o p q j 1) (sum_below o (p.nrow - 3) (λ i. o.times (factor_at j i) (at_row o p q j (3 + i))))
    right_is j = ap (right_at j) (messages_part p q is.lengths) ∙ linear_rows o laws.ring e.element p bounded q j (factor_at j)

    kept_linear : IsLeastFailing t.columns (LinearAt o e c p public q t) k.failing.linear
    kept_linear =
        least_is (linear o e c p session public) (LinearAt o e c p public q t)
        (λ j b h. ap (λ xs. extension o e.element xs (p.dblock + slice_index_or t.columns j 0)) (sym (dot_part p q is.lengths)) ∙ h ∙ right_is j)
        (λ j b h. ap (λ xs. extension o e.element xs (p.dblock + slice_index_or t.columns j 0)) (dot_part p q is.lengths) ∙ h ∙ sym (right_is j))
        k.failing.linear s.linear_is

    values_are : values_of o p (head_in p (sent_of q)) (tail_in p (sent_of q)) ≡ quadratic_values o p q
    values_are = λ i. values_of o p (head_part p q is.lengths i) (tail_part p q is.lengths i)

    kept_quadratic : IsLeastFailing t.columns (QuadraticAt o e c p public q t) k.failing.quadratic
    kept_quadratic =
        least_is (quadratic o e c p session public) (QuadraticAt o e c p public q t)
        (λ j b h. ap (λ xs. extension o e.element xs (p.dblock + slice_index_or t.columns j 0)) (sym values_are) ∙ h ∙ quadratic_rows o laws.ring e.element p bounded q j t.challenges.v)
        (λ j b h. ap (λ xs. extension o e.element xs (p.dblock + slice_index_or t.columns j 0)) values_are ∙ h ∙ sym (quadratic_rows o laws.ring e.element p bounded q j t.challenges.v))
        k.failing.quadratic s.quadratic_is

    kept_wanted : k.wanted ≡ wanted_sum o e c p public q t
    kept_wanted =
        (ready drawn).wanted
        ∙ (λ i. wanted_of o e.element c (s.public_are i) (drawn_is i).script (messages_in p (kept_sent i)) (drawn_is i).challenges)
        ∙ ap (λ xs. wanted_of o e.element c public t.script xs t.challenges) (messages_part p q is.lengths)

    pub keeps_proof : KeepsProof o e c p public q t k
    keeps_proof = record {
      id = s.id_is (omega (arith, all_whole o e p laws q is.lengths));
      root = s.root_is (omega (arith, all_whole o e p laws q is.lengths));
      sent = kept_sent;
      drawn = drawn_is;
      leaves = kept_leaves;
      path = kept_path;
      count = kept_count;
      wanted = kept_wanted;
      low_degree = kept_low;
      linear = kept_linear;
      quadratic = kept_quadratic;
    }

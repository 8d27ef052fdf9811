-- Random elements lead to what passes where they are those of its solution.
use Rattle.lzk_profile.specs.Profile.{opened_count}
use Rattle.std.specs.Prelude.{◌≡◌, ◌≢◌, ℕ, ◌+◌, ◌-◌, ◌*◌, ◌/◌, ◌%◌, ◌<◌, ◌≤◌, List, [], ◌++◌, length, replicate, take, drop, slice_index}
use Rattle.std.specs.List.{flat_map}
use Rattle.std.proofs.Common.{zero, suc, refl, sym, ap, ◌∙◌, arith, subst}
use Rattle.std.proofs.lemmas.List.{ext_get_or, length-append, length-replicate, length-map, get_or-map, get_or-replicate, get_or_append_left, get_or-append-add, take-append-le, take_at, drop_at}
use Rattle.std.proofs.lemmas.List.FromFn.{get_or-map-range_with_len}
use Rattle.std.proofs.lemmas.Nat.{div-add-mod'}
use Rattle.std.proofs.Math.Nat.{div-lt_iff_lt-mul, mod-lt}
use native.Mathlib.Decide.{dec_lt}
use Rattle.lzk_field.specs.Coding.{Coding}
use Rattle.lzk_field.specs.Ring.{Ops, Laws}
use Rattle.lzk_field.specs.Sums.{sum_below, minus, entry}
use Rattle.lzk_field.proofs.RingBasics.{plus_cancel, zero_plus}
use Rattle.lzk_field.proofs.SumLaws.{sum-ext, sum-plus, sum-minus}
use Rattle.lzk_poly.specs.Extension.{extension}
use Rattle.lzk_poly.proofs.Through.{entry-values_of, extension-values_of}
use Rattle.lzk_circuit.specs.Valid.{Wiring}
use Rattle.lzk_circuit.specs.Wires.{all_values, inputs_of}
use Rattle.lzk_layout.specs.declared.params.Params.{Params}
use Rattle.lzk_layout.specs.declared.proof.Proof.{Proof}
use Rattle.lzk_layout.specs.Sizes.{AreBounded, params_of, sent_counts}
use Rattle.lzk_layout.specs.Places.{depth}
use Rattle.lzk_layout.proofs.SizeLaws.{params_bounded}
use Rattle.lzk_sumcheck.specs.declared.script.Script.{Script}
use Rattle.lzk_sumcheck.specs.Messages.{IsLayerSent}
use Rattle.lzk_accept.specs.declared.challenges.Challenges.{Challenges}
use Rattle.lzk_accept.specs.Checks as checks
use Rattle.lzk_accept.specs.Checks.{at_row, coefficient_of, right_of, quadratic_values, wanted_of}
use Rattle.lzk_ligero_answers.specs.Answers.{low_degree_answer, linear_answer, quadratic_answer}
use Rattle.lzk_ligero_answers.specs.Laws.{HaveZeros, low_degree_of, linear_of, quadratic_of}
use Rattle.lzk_ligero_answers.specs.Opened.{Satisfies, Stands}
use Rattle.lzk_ligero_answers.specs.Rows.{row, AreRows}
use Rattle.lzk_ligero_answers.proofs.AnswerLaws.{are_values}
use Rattle.lzk_ligero_answers.proofs.PassLaws.{apart}
use Rattle.lzk_ligero_answers.proofs.RowLaws.{low_degree_short, linear_short, quadratic_short}
use Rattle.lzk_ligero_answers.proofs.StandLaws.{combined_rows, zeros_stand, linear_sum_stands}
use Rattle.lzk_ligero_tableau.specs.Tableau.{random, randoms, committed, tableau, column, row1_words, row2_words, rows_words}
use Rattle.lzk_ligero_proof.proofs.Standing.{length_rows, rows_are, rows_stand}
use Rattle.lzk_soundness.specs.Sumchecks.Passing.{Passes}
use Rattle.lzk_hiding.specs.Seen.{random_count, IsSeen}
use Rattle.lzk_hiding.specs.Laws.{IsCase}
use Rattle.lzk_hiding.proofs.Entries.{entry_row0, entry_row1, entry_row2_front, entry_row2_back, entry_head, entry_data, element_same}
use Rattle.lzk_hiding.proofs.Filled.{length_filled, filled_head, filled_data, filled_opens}
use Rattle.lzk_hiding.proofs.Joint.{less, more, twice, given0, given1, given2, one_row, low_value, linear_value, quadratic_value}
use Rattle.lzk_hiding.proofs.Lists.{length-flat_map, entry_of_flat}
use Rattle.lzk_hiding.proofs.Satisfying.{satisfies}
use Rattle.lzk_hiding.proofs.Sent.{true_at, to_layers}
use Rattle.lzk_hiding.proofs.Solution.{pad, pad_word, own, shown, full, X, lists, low_part, linear_part, quadratic_part, blind0, blind1, blind2, value, value_pad, value_row0, value_row1, value_row2_front, value_row2_back, value_head}

-- the middle of three lists
middle_entry : {A : Type 0} (o : Ops A) (n : ℕ) (front back : List A) (m s : ℕ) → length front ≡ m → s < n → entry o (front ++ replicate n o.zero ++ back) (m + s) ≡ o.zero
middle_entry o n front back m s long h =
    let z : m + s ≡ length front + s = omega (arith, long) in
    let both : length (front ++ replicate n o.zero) ≡ m + n = omega (arith, length-append front (replicate n o.zero), length-replicate n o.zero, long) in
    get_or_append_left (front ++ replicate n o.zero) back o.zero (m + s) (omega (arith, both, h))
    ∙ ap (entry o (front ++ replicate n o.zero)) z ∙ get_or-append-add front (replicate n o.zero) s o.zero ∙ get_or-replicate n s o.zero o.zero h

module _ {A : Type 0} (o : Ops A) (e : Coding A) (laws : Laws o e.size e.number e.element e.bytes) (c : Wiring A) (public private : List A) (s : Script A) (ch : Challenges A) (columns : List ℕ) (proof : Proof A) (word : ℕ → ℕ) (case : IsCase o e c public private s columns) (pass : Passes o e c public s ch columns proof) (idle : ℕ → A) (is : (i : ℕ) → i < random_count (params_of c) → random o e word i ≡ value o e c public private s ch columns proof idle i) where
  abbrev p : Params
  p = params_of c

  abbrev rows : List (List A)
  rows = tableau o e c private word

  abbrev R : ℕ → A
  R = random o e word

  abbrev Y : ℕ → ℕ → A
  Y i x = extension o e.element (row rows i) x

  b : AreBounded p
  b = params_bounded o c case.valid

  are : AreRows p rows
  are = rows_are o e c private word b

  stands : Stands o c (committed o e c private word) rows
  stands = rows_stand o e c private word b laws.ring

  -- ---- the sent elements

  pads_are : (i : ℕ) → i < sent_counts c → R i ≡ pad o e c public private s ch columns proof i
  pads_are i h = is i (omega (arith, h)) ∙ value_pad o e c public private s ch columns proof idle b i h

  layers : (l : ℕ) → l < depth c → IsLayerSent o e.element c s (all_values o c.layers (inputs_of o public private)) (randoms o e word 0 (sent_counts c)) proof.messages l
  layers =
      let V = all_values o c.layers (inputs_of o public private) in
      let pads = randoms o e word 0 (sent_counts c) in
      to_layers o e c s V pads proof.messages
      (λ i h. twice o laws.ring (true_at o e c s V i) (entry o pads i) (entry o proof.messages i) (get_or-map-range_with_len R 0 (sent_counts c) i i o.zero h (omega arith) ∙ pads_are i h))

  sat : Satisfies o c (coefficient_of o e.element c public s proof.messages) (right_of o e.element c public s proof.messages) (committed o e c private word)
  sat = satisfies o e laws c public private s columns case word proof.messages layers

  -- ---- the rows

  words_same : (i : ℕ) → i < sent_counts c → random o e word i ≡ random o e (pad_word o e c public private s ch columns proof) i
  words_same i h = pads_are i h ∙ sym (laws.numbers.element_number (pad o e c public private s ch columns proof i))

  filled_so : (i : ℕ) → i < p.nrow - 3 → row rows (3 + i) ≡ full o e c public private s ch columns proof (3 + i)
  filled_so i h =
      let D = own o e c public private s ch columns proof (3 + i) in
      let S = shown o e c public private s ch columns proof (3 + i) in
      let F = full o e c public private s ch columns proof (3 + i) in
      ext_get_or o.zero (row rows (3 + i)) F (are.others i h ∙ sym (length_filled o e laws p b columns case.opened D S))
      (λ k d.
      elim (dec_lt k opened_count) [
        | yes l ↦
            entry_head o e c private word b i k h l ∙ is (rows_words p + opened_count * i + k) (omega (arith, h, l)) ∙ value_head o e c public private s ch columns proof idle b i k l
            ∙ sym (filled_head o e laws p b columns case.opened D S k l)
        | no l ↦
            let z : opened_count + (k - opened_count) ≡ k = omega (arith, l) in
            let g : k - opened_count < p.wr = omega (arith, l, d, are.others i h, b.block) in
            subst (λ (m : ℕ). entry o (row rows (3 + i)) m ≡ entry o F m) z
            (entry_data o e c private word b i (k - opened_count) h g ∙ element_same o e c private word (pad_word o e c public private s ch columns proof) words_same (3 + i) (k - opened_count)
            ∙ sym (filled_data o e laws p b columns case.opened D S (k - opened_count) g))
      ])

  abbrev low : ℕ → A
  low = low_part o e c public private s ch columns proof

  abbrev linear : ℕ → A
  linear = linear_part o e c public private s ch columns proof

  abbrev quadratic : ℕ → A
  quadratic = quadratic_part o e c public private s ch columns proof

  abbrev L : ℕ → List A
  L = lists o e c public private s ch columns proof

  abbrev B1 : ℕ → A
  B1 = blind1 o e c public private s ch columns proof

  abbrev B2 : ℕ → A
  B2 = blind2 o e c public private s ch columns proof

  row0_is : (x : ℕ) → x < p.block → Y 0 x ≡ blind0 o e c public private s ch columns proof x
  row0_is x h =
      given0 o e laws c public private s ch columns proof word b x h
      ∙ entry_row0 o e c private word b x h ∙ is (p.nsum + x) (omega (arith, h)) ∙ value_row0 o e c public private s ch columns proof idle b x h

  row1_most : (x : ℕ) → x < p.dblock → x ≢ p.block - 1 → entry o (row rows 1) x ≡ B1 x
  row1_most x h other =
      entry_row1 o e c private word b x h other ∙ is (row1_words p + x) (omega (arith, h)) ∙ value_row1 o e c public private s ch columns proof idle b x h other

  -- the sum of row 1 at the points of a row's elements determines the one value
  abbrev N : ℕ
  N = p.block - opened_count

  width : N ≡ p.wr
  width = omega (arith, b.block)

  abbrev f1 : ℕ → A
  f1 k = entry o (row rows 1) (opened_count + k)

  abbrev l1 : ℕ → A
  l1 k = linear (opened_count + k)

  parts_wanted : sum_below o N l1 ≡ wanted_of o e.element c public s proof.messages ch
  parts_wanted =
      let dots = linear_of o e.element p rows L in
      let honest : Proof A = record proof { dot = dots } in
      let sum = linear_sum_stands laws c (coefficient_of o e.element c public s proof.messages) (right_of o e.element c public s proof.messages) ch (committed o e c private word) rows honest b are sat stands refl in
      let each : (k : ℕ) → k < N → entry o dots (opened_count + k) ≡ o.plus (f1 k) (l1 k) =
      λ k h.
      let d : opened_count + k < p.dblock = omega (arith, h, b.block, b.dblock) in
      entry-values_of o e.element p.dblock (linear_answer o e.element p rows L) (opened_count + k) d ∙ linear_value o e laws c public private s ch columns proof word b filled_so (opened_count + k)
      ∙ ap (λ x. o.plus x (l1 k)) (given1 o e laws c public private s ch columns proof word b (opened_count + k) d) in
      sym (zero_plus o laws.ring (sum_below o N l1))
      ∙ ap (λ x. o.plus x (sum_below o N l1)) (sym (ap (λ (n : ℕ). sum_below o n f1) width ∙ stands.second))
      ∙ sym (sum-plus o laws.ring N f1 l1)
      ∙ sym (sum-ext o laws.ring N (λ k. entry o dots (opened_count + k)) (λ k. o.plus (f1 k) (l1 k)) each)
      ∙ sum

  blind_sum : sum_below o p.wr (λ k. B1 (opened_count + k)) ≡ o.zero
  blind_sum =
      let d : ℕ → A = λ k. entry o proof.dot (opened_count + k) in
      ap (λ (n : ℕ). sum_below o n (λ k. B1 (opened_count + k))) (sym width)
      ∙ sum-minus o laws.ring N d l1
      ∙ ap (λ x. minus o x (sum_below o N l1)) pass.linear_sum
      ∙ ap (minus o (wanted_of o e.element c public s proof.messages ch)) parts_wanted
      ∙ laws.ring.plus_neg (wanted_of o e.element c public s proof.messages ch)

  row1_last : entry o (row rows 1) (p.block - 1) ≡ B1 (p.block - 1)
  row1_last =
      let n = p.wr - 1 in
      let g : ℕ → A = λ k. B1 (opened_count + k) in
      let one_more : suc n ≡ p.wr = omega (arith, b.wide) in
      let last : opened_count + n ≡ p.block - 1 = omega (arith, b.wide, b.block) in
      let same : sum_below o n f1 ≡ sum_below o n g =
      sum-ext o laws.ring n f1 g (λ k h. row1_most (opened_count + k) (omega (arith, h, b.block, b.dblock)) (λ at. absurd (omega (arith, at, h, last)))) in
      subst (λ (x : ℕ). entry o (row rows 1) x ≡ B1 x) last
      (plus_cancel o laws.ring (sum_below o n f1) (f1 n) (g n)
      (ap (λ (m : ℕ). sum_below o m f1) one_more ∙ stands.second ∙ sym blind_sum ∙ ap (λ (m : ℕ). sum_below o m g) (sym one_more) ∙ ap (λ x. o.plus x (g n)) (sym same)))

  row1_is : (x : ℕ) → x < p.dblock → Y 1 x ≡ B1 x
  row1_is x h =
      given1 o e laws c public private s ch columns proof word b x h
      ∙ elim (dec_lt x (p.block - 1)) [
        | yes l ↦ row1_most x h (λ same. absurd (omega (arith, same, l)))
        | no l ↦ elim (dec_lt (p.block - 1) x) [
          | yes g ↦ row1_most x h (λ same. absurd (omega (arith, same, g)))
          | no g ↦ let z : p.block - 1 ≡ x = omega (arith, l, g) in subst (λ (x : ℕ). entry o (row rows 1) x ≡ B1 x) z row1_last
        ]
      ]

  abbrev quads : List A
  quads = quadratic_values o p proof

  zeros : HaveZeros o e.element p (quadratic_of o e.element p rows ch.v)
  zeros =
      zeros_stand laws c (coefficient_of o e.element c public s proof.messages) (right_of o e.element c public s proof.messages) (committed o e c private word) rows ch.v b are sat stands

  row2_middle : (k : ℕ) → k < p.wr → Y 2 (opened_count + k) ≡ B2 (opened_count + k)
  row2_middle k h =
      let x = opened_count + k in
      let d : x < p.dblock = omega (arith, h, b.block, b.dblock) in
      let here : Y 2 x ≡ o.zero = given2 o e laws c public private s ch columns proof word b x d ∙ stands.third k h in
      let nothing : quadratic x ≡ o.zero =
      sym (zero_plus o laws.ring (quadratic x)) ∙ ap (λ y. o.plus y (quadratic x)) (sym here) ∙ sym (quadratic_value o e laws c public private s ch columns proof word b filled_so x)
      ∙ sym (entry-values_of o e.element p.dblock (quadratic_answer o e.element p rows ch.v) x d) ∙ zeros k h in
      here ∙ sym (ap (minus o (entry o quads x)) nothing ∙ ap (λ y. minus o y o.zero) (middle_entry o N proof.quad_head proof.quad_tail opened_count k pass.quad_head (omega (arith, h, width))) ∙ laws.ring.plus_neg o.zero)

  row2_is : (x : ℕ) → x < p.dblock → Y 2 x ≡ B2 x
  row2_is x h =
      elim (dec_lt x opened_count) [
        | yes l ↦
            given2 o e laws c public private s ch columns proof word b x h ∙ entry_row2_front o e c private word b x l ∙ is (row2_words p + x) (omega (arith, h))
            ∙ value_row2_front o e c public private s ch columns proof idle b x l
        | no l ↦ elim (dec_lt x p.block) [
          | yes g ↦
              let z : opened_count + (x - opened_count) ≡ x = omega (arith, l) in
              subst (λ (x : ℕ). Y 2 x ≡ B2 x) z (row2_middle (x - opened_count) (omega (arith, l, g, b.block)))
          | no g ↦
              given2 o e laws c public private s ch columns proof word b x h ∙ entry_row2_back o e c private word b x (omega (arith, g)) h ∙ is (row2_words p + x) (omega (arith, h))
              ∙ value_row2_back o e c public private s ch columns proof idle b x (omega (arith, g)) h
        ]
      ]

  -- ---- the answers

  ldt_is : proof.ldt ≡ low_degree_of o e.element p rows ch.u
  ldt_is = are_values o e.element p.block (low_degree_answer o e.element p rows ch.u) proof.ldt pass.ldt
      (λ x h. more o laws.ring (entry o proof.ldt x) (Y 0 x) (low x) (row0_is x h) ∙ sym (low_value o e laws c public private s ch columns proof word b filled_so x))

  dot_is : proof.dot ≡ linear_of o e.element p rows L
  dot_is = are_values o e.element p.dblock (linear_answer o e.element p rows L) proof.dot pass.dot
      (λ x h. more o laws.ring (entry o proof.dot x) (Y 1 x) (linear x) (row1_is x h) ∙ sym (linear_value o e laws c public private s ch columns proof word b filled_so x))

  both : length (proof.quad_head ++ replicate N o.zero) ≡ p.block
  both = omega (arith, length-append proof.quad_head (replicate N o.zero), length-replicate N o.zero, pass.quad_head, b.block)

  quads_are : quads ≡ quadratic_of o e.element p rows ch.v
  quads_are = are_values o e.element p.dblock (quadratic_answer o e.element p rows ch.v) quads
      (omega (arith, length-append (proof.quad_head ++ replicate N o.zero) proof.quad_tail, both, pass.quad_tail, b.block, b.dblock))
      (λ x h. more o laws.ring (entry o quads x) (Y 2 x) (quadratic x) (row2_is x h) ∙ sym (quadratic_value o e laws c public private s ch columns proof word b filled_so x))

  head_is : proof.quad_head ≡ take opened_count (quadratic_of o e.element p rows ch.v)
  head_is =
      sym (take-append-le opened_count (proof.quad_head ++ replicate N o.zero) proof.quad_tail (omega (arith, both, b.block)) ∙ take_at proof.quad_head (replicate N o.zero) opened_count pass.quad_head)
      ∙ ap (take opened_count) quads_are

  tail_is : proof.quad_tail ≡ drop p.block (quadratic_of o e.element p rows ch.v)
  tail_is = sym (drop_at (proof.quad_head ++ replicate N o.zero) proof.quad_tail p.block both) ∙ ap (drop p.block) quads_are

  -- ---- the opened columns

  abbrev at : ℕ → ℕ
  at k = p.dblock + slice_index columns k

  Z : ℕ → ℕ → A
  Z = X o e c public private s ch columns proof

  behind : (k i : ℕ) → k < opened_count → i < p.nrow → 3 ≤ i → X o e c public private s ch columns proof i (at k) ≡ at_row o p proof k i
  behind k i h d g = filled_opens o e laws p b columns case.opened (own o e c public private s ch columns proof i) (shown o e c public private s ch columns proof i) k h

  lengths : (i : ℕ) → i < p.nrow - 3 → length (L (3 + i)) ≡ p.block
  lengths i h = let row = combined_rows o e.element c (coefficient_of o e.element c public s proof.messages) ch (3 + i) in row.count

  first_opens : (k : ℕ) → k < opened_count → Y 0 (at k) ≡ at_row o p proof k 0
  first_opens k h =
      let j = at k in
      let S = sum_below o (p.nrow - 3) (λ i. o.times (entry o ch.u i) (at_row o p proof k (3 + i))) in
      let same : low j ≡ S = sum-ext o laws.ring (p.nrow - 3) (λ i. o.times (entry o ch.u i) (X o e c public private s ch columns proof (3 + i) j)) (λ i. o.times (entry o ch.u i) (at_row o p proof k (3 + i)))
      (λ i d. ap (o.times (entry o ch.u i)) (behind k (3 + i) h (omega (arith, d)) (omega arith))) in
      let sent = extension o e.element proof.ldt j in
      let mine : sent ≡ o.plus (Y 0 j) S =
      ap (λ xs. extension o e.element xs j) ldt_is
      ∙ extension-values_of o laws.ring laws.field e.element p.block (low_degree_answer o e.element p rows ch.u) (low_degree_short o e.element p rows b are ch.u) (apart laws p b p.block (omega (arith, b.columns, b.dblock, b.block))) j
      ∙ low_value o e laws c public private s ch columns proof word b filled_so j ∙ ap (o.plus (Y 0 j)) same in
      less o laws.ring sent (Y 0 j) S mine ∙ sym (less o laws.ring sent (at_row o p proof k 0) S (pass.low_degree k (omega (arith, h, case.opened.count))))

  second_opens : (k : ℕ) → k < opened_count → Y 1 (at k) ≡ at_row o p proof k 1
  second_opens k h =
      let j = at k in
      let a : ℕ → A = λ i. extension o e.element (L (3 + i)) j in
      let S = sum_below o (p.nrow - 3) (λ i. o.times (a i) (at_row o p proof k (3 + i))) in
      let same : linear j ≡ S = sum-ext o laws.ring (p.nrow - 3) (λ i. o.times (a i) (X o e c public private s ch columns proof (3 + i) j)) (λ i. o.times (a i) (at_row o p proof k (3 + i)))
      (λ i d. ap (o.times (a i)) (behind k (3 + i) h (omega (arith, d)) (omega arith))) in
      let sent = extension o e.element proof.dot j in
      let mine : sent ≡ o.plus (Y 1 j) S =
      ap (λ xs. extension o e.element xs j) dot_is
      ∙ extension-values_of o laws.ring laws.field e.element p.dblock (linear_answer o e.element p rows L) (linear_short o e.element p rows b are L lengths) (apart laws p b p.dblock (omega (arith, b.columns))) j
      ∙ linear_value o e laws c public private s ch columns proof word b filled_so j ∙ ap (o.plus (Y 1 j)) same in
      less o laws.ring sent (Y 1 j) S mine ∙ sym (less o laws.ring sent (at_row o p proof k 1) S (pass.linear k (omega (arith, h, case.opened.count))))

  third_opens : (k : ℕ) → k < opened_count → Y 2 (at k) ≡ at_row o p proof k 2
  third_opens k h =
      let j = at k in
      let G : ℕ → A = λ i. X o e c public private s ch columns proof i j in
      let I : ℕ → ℕ → A = checks.in_triple o p proof k in
      let T : ℕ → A = λ t. let first = 3 + p.nwrow + 3 * t in minus o (o.times (G first) (G (first + 1))) (G (first + 2)) in
      let U : ℕ → A = λ t. minus o (o.times (I t 0) (I t 1)) (I t 2) in
      let S = sum_below o p.ntriple (λ t. o.times (entry o ch.v t) (U t)) in
      let same : quadratic j ≡ S = sum-ext o laws.ring p.ntriple (λ t. o.times (entry o ch.v t) (T t)) (λ t. o.times (entry o ch.v t) (U t))
      (λ t d.
      let first = 3 + p.nwrow + 3 * t in
      let y : first ≡ first + 0 = omega arith in
      ap (o.times (entry o ch.v t))
      (ap (λ w. minus o (o.times w (G (first + 1))) (G (first + 2))) (ap G y ∙ behind k (first + 0) h (omega (arith, d, b.rows)) (omega arith))
      ∙ ap (λ w. minus o (o.times (I t 0) w) (G (first + 2))) (behind k (first + 1) h (omega (arith, d, b.rows)) (omega arith))
      ∙ ap (minus o (o.times (I t 0) (I t 1))) (behind k (first + 2) h (omega (arith, d, b.rows)) (omega arith)))) in
      let sent = extension o e.element quads j in
      let mine : sent ≡ o.plus (Y 2 j) S =
      ap (λ xs. extension o e.element xs j) quads_are
      ∙ extension-values_of o laws.ring laws.field e.element p.dblock (quadratic_answer o e.element p rows ch.v) (quadratic_short o e.element p rows b are ch.v) (apart laws p b p.dblock (omega (arith, b.columns))) j
      ∙ quadratic_value o e laws c public private s ch columns proof word b filled_so j ∙ ap (o.plus (Y 2 j)) same in
      less o laws.ring sent (Y 2 j) S mine ∙ sym (less o laws.ring sent (at_row o p proof k 2) S (pass.quadratic k (omega (arith, h, case.opened.count))))

  opens : (k i : ℕ) → k < opened_count → i < p.nrow → Y i (at k) ≡ at_row o p proof k i
  opens k zero h d = first_opens k h
  opens k (suc zero) h d = second_opens k h
  opens k (suc (suc zero)) h d = third_opens k h
  opens k (suc (suc (suc i))) h d =
      let z : 3 + i ≡ suc (suc (suc i)) = omega arith in
      subst (λ (r : ℕ). Y r (at k) ≡ at_row o p proof k r) z
      (one_row o e laws c public private s ch columns proof word b filled_so (3 + i) (at k) (omega arith) (omega (arith, d)) ∙ behind k (3 + i) h (omega (arith, d)) (omega arith))

  column_entry : (j i : ℕ) → i < p.nrow → entry o (column o e c private word j) i ≡ Y i (p.dblock + j)
  unfolding column
  column_entry j i h = get_or-map (λ values. extension o e.element values (p.dblock + j)) rows i [] o.zero (omega (arith, h, length_rows o e c private word b))

  length_column : (j : ℕ) → length (column o e c private word j) ≡ p.nrow
  unfolding column
  length_column j = length-map rows (λ values. extension o e.element values (p.dblock + j)) ∙ length_rows o e c private word b

  opened_is : proof.columns ≡ flat_map (column o e c private word) columns
  opened_is =
      ext_get_or o.zero proof.columns (flat_map (column o e c private word) columns) (pass.opened ∙ sym (length-flat_map (column o e c private word) p.nrow columns length_column))
      (λ m h.
      let k = m / p.nrow in
      let i = m % p.nrow in
      let some : 0 < p.nrow = omega (arith, b.rows) in
      let z : k * p.nrow + i ≡ m = div-add-mod' m p.nrow in
      let low : k < length columns = (div-lt_iff_lt-mul {k = p.nrow} {x = m} {y = length columns} some).1 (omega (arith, h, pass.opened)) in
      let few : k < opened_count = omega (arith, low, case.opened.count) in
      let inside : i < p.nrow = mod-lt m (omega (arith, b.rows)) in
      subst (λ (m : ℕ). entry o proof.columns m ≡ entry o (flat_map (column o e c private word) columns) m) z
      (sym (opens k i few inside) ∙ sym (column_entry (slice_index columns k) i inside) ∙ sym (entry_of_flat o (column o e c private word) p.nrow columns k i length_column low inside)))

  pub is_seen : IsSeen o e c public s ch columns private word proof
  is_seen = record {
    count = pass.messages;
    layers = layers;
    answers = record { low_degree = ldt_is; linear = dot_is; quad_head = head_is; quad_tail = tail_is };
    opened = opened_is;
  }

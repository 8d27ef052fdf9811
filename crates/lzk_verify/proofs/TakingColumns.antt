-- The fields of an opened column are taken, and those of the path.
use Rattle.lzk_profile.specs.Profile.{opened_count, most_digests}
use Rattle.std.specs.Prelude.{◌≡◌, refl, ℕ, ◌+◌, ◌-◌, ◌*◌, ◌<◌, ◌≤◌, true, cond, nat_le, nat_lt, Option, List, [], ◌∷◌, ◌++◌, length, map, take, drop, slice_index_or, slice_set}
use Rattle.std.proofs.Common.{sym, ap, subst, ◌∙◌, arith}
use native.Mathlib.Decide.{dec_lt}
use Rattle.std.proofs.lemmas.Bool.{lt-ltb}
use Rattle.std.proofs.lemmas.Nat.{mul-add-lt}
use Rattle.std.proofs.lemmas.List.{length_push, length-take, length-drop, length-set, take_all, take_more, drop_all, drop-append-le}
use Rattle.lzk_field.specs.Bytes.{number_from}
use Rattle.lzk_field.specs.Coding.{Coding}
use Rattle.lzk_field.specs.Ring.{Ops}
use Rattle.lzk_merkle.specs.Leaf.{leaf_of}
use Rattle.lzk_circuit.specs.Valid.{Wiring}
use Rattle.lzk_layout.specs.declared.params.Params.{Params}
use Rattle.lzk_layout.specs.Parts.{before_opened, before_count}
use Rattle.lzk_accept.specs.Challenges.{Transcript}
use Rattle.lzk_accept.specs.Checks.{combined_row_of}
use Rattle.lzk_verify.specs.declared.intake.Intake.{Intake}
use Rattle.lzk_verify.specs.Columns.{IsLowDegreeIn, IsLinearIn, IsQuadraticIn, values_of}
use Rattle.lzk_verify.specs.Desk.{Rooms, AreLists, AreReady, AreWeightedRows, IsNoted, weighted_answers}
use Rattle.lzk_verify.specs.Kept.{messages_in, ldt_in, dot_in, head_in, tail_in, column_place, whole_columns, column_fields, sent_read, nonce_read, column_read, leaf_read, digests_read, given_of, columns_of, IsLeastFailing}
use Rattle.lzk_verify.proofs.ColumnPlaces.{whole_within, fields_within, all_whole, none_open}
use Rattle.lzk_verify.proofs.FieldSteps.{earlier, newest, elements_more, slot_more}
use Rattle.lzk_verify.proofs.LeastLaws.{least_more}
use Rattle.lzk_verify.proofs.Stored.{IsStored}
use Rattle.lzk_verify.proofs.TakingOpened.{IsLate, reads, low, linear, quadratic, moves, sent_stays, given_stays, stored_within, stored_column}

module _ (p : Params) (n j i : ℕ) (number : n ≡ column_place p j + i) (below : j < opened_count) where
  -- so many columns are whole, and so many fields of the next
  whole_here : i < 1 + p.nrow → whole_columns p n ≡ j
  whole_here h = ap (whole_columns p) number ∙ whole_within p j i below h

  fields_here : i < 1 + p.nrow → column_fields p n ≡ i
  fields_here h = ap (column_fields p) number ∙ fields_within p j i below h

  -- behind a column's last field
  whole_next : i ≡ 1 + p.nrow → whole_columns p n ≡ j + 1
  whole_next h =
      let more : n ≡ column_place p (j + 1) + 0 = omega (arith, number, h) in
      elim (dec_lt (j + 1) opened_count) [
        | yes l ↦ ap (whole_columns p) more ∙ whole_within p (j + 1) 0 l (omega arith)
        | no l ↦ let last : j + 1 ≡ opened_count = omega (arith, below) in let e : n ≡ before_count p = more ∙ ap (λ m. before_opened p + m * (1 + p.nrow) + 0) last ∙ omega arith in all_whole p n (omega (arith, e)) ∙ sym last
      ]

  fields_next : i ≡ 1 + p.nrow → column_fields p n ≡ 0
  fields_next h =
      let more : n ≡ column_place p (j + 1) + 0 = omega (arith, number, h) in
      elim (dec_lt (j + 1) opened_count) [
        | yes l ↦ ap (column_fields p) more ∙ fields_within p (j + 1) 0 l (omega arith)
        | no l ↦ let last : j + 1 ≡ opened_count = omega (arith, below) in let e : n ≡ before_count p = more ∙ ap (λ m. before_opened p + m * (1 + p.nrow) + 0) last ∙ omega arith in none_open p n (omega (arith, e))
      ]

-- fields of the opened columns stand before the number of digests
column_inside : (p : Params) (j i n : ℕ) → n ≡ column_place p j + i → j < opened_count → i < 1 + p.nrow → n ≤ before_count p
column_inside p j i n number below inside = let h : j * (1 + p.nrow) + i < (1 + p.nrow) * opened_count = mul-add-lt j (1 + p.nrow) i opened_count below inside in omega (arith, h, number)

module _ {A : Type 0} (o : Ops A) (e : Coding A) (c : Wiring A) (p : Params) (session : List ℕ) (public : List A) (fields : List (List ℕ)) (f : List ℕ) (some : 1 ≤ p.nrow)
    (k l : Intake A) (s : IsStored o e c p session public fields k) (same : IsLate k l) (lists : AreLists p k) where
  abbrev longer : List (List ℕ)
  longer = fields ++ f ∷ []

  one_more : length longer ≡ length fields + 1
  one_more = length_push fields f

  -- before its number no digests are there
  no_digests : length fields ≤ before_count p → l.count ≡ k.count → l.digests.items ≡ k.digests.items → take l.count l.digests.items ≡ digests_read p longer
  no_digests few count digests =
      (λ t. take (count t) (digests t)) ∙ s.digests_are ∙ drop_all (before_count p + 1) fields (omega (arith, few)) ∙ sym (drop_all (before_count p + 1) longer (omega (arith, few, one_more)))

  -- the column's elements that were read
  reading : (m j : ℕ) → column_fields p (length longer) ≡ m + 1 → whole_columns p (length longer) ≡ j → take m l.column.items ≡ column_read e p longer j
      → take (column_fields p (length longer) - 1) l.column.items ≡ cond (nat_lt 0 (column_fields p (length longer))) (column_read e p longer (whole_columns p (length longer))) []
  reading m j fields_are whole is =
      let h : 0 < column_fields p (length longer) = omega (arith, fields_are) in
      let b : nat_lt 0 (column_fields p (length longer)) ≡ true = lt-ltb 0 (column_fields p (length longer)) h in
      let at : column_fields p (length longer) - 1 ≡ m = omega (arith, fields_are) in
      ap (λ x. take x l.column.items) at ∙ is ∙ (λ t. column_read e p longer (sym whole t)) ∙ sym (ap (λ b. cond b (column_read e p longer (whole_columns p (length longer))) []) b)

  not_reading : column_fields p (length longer) ≡ 0 → take (column_fields p (length longer) - 1) l.column.items ≡ cond (nat_lt 0 (column_fields p (length longer))) (column_read e p longer (whole_columns p (length longer))) []
  not_reading none = (λ t. take (none t - 1) l.column.items) ∙ (λ t. cond (nat_lt 0 (sym none t)) (column_read e p longer (whole_columns p (length longer))) [])

  -- The nonce of opened column j is taken.
  pub stored_nonce : (j : ℕ) → length fields ≡ column_place p j → j < opened_count → l.nonce ≡ f → l.leaves.items ≡ k.leaves.items → l.failing ≡ k.failing → l.count ≡ k.count → l.digests.items ≡ k.digests.items
      → IsStored o e c p session public longer l
  stored_nonce j number below nonce leaves failing count digests =
      let late : before_opened p ≤ length fields = omega (arith, number) in
      let was : length fields ≡ column_place p j + 0 = omega (arith, number) in
      let now : length longer ≡ column_place p j + 1 = omega (arith, number, one_more) in
      let was_whole : whole_columns p (length fields) ≡ j = whole_here p (length fields) j 0 was below (omega arith) in
      let now_whole : whole_columns p (length longer) ≡ j = whole_here p (length longer) j 1 now below (omega (arith, some)) in
      let now_fields : column_fields p (length longer) ≡ 0 + 1 = fields_here p (length longer) j 1 now below (omega (arith, some)) in
      let few : length fields ≤ before_count p = column_inside p j 0 (length fields) was below (omega arith) in
      let read : List ℕ → A = λ x. e.element (number_from x) in
      let none : column_read e p longer j ≡ [] = ap (λ xs. map read (take p.nrow xs)) (drop_all (column_place p j + 1) longer (omega (arith, now))) ∙ ap (map read) (take_all p.nrow [] (omega arith)) in
      stored_within o e c p session public fields f late some k l s same lists.sent (now_whole ∙ sym was_whole) leaves failing
      (λ h. nonce ∙ sym (newest fields f (column_place p j) number) ∙ (λ t. nonce_read p longer (sym now_whole t)))
      (reading 0 j now_fields now_whole (sym none))
      (no_digests few count digests)

  module _ (j i : ℕ) (x : A) (number : length fields ≡ column_place p j + 1 + i) (below : j < opened_count) (inside : i < p.nrow) (is : x ≡ e.element (number_from f)) where
    is_late : before_opened p ≤ length fields
    is_late = omega (arith, number)

    was : length fields ≡ column_place p j + (1 + i)
    was = omega (arith, number)

    now : length longer ≡ column_place p j + (2 + i)
    now = omega (arith, number, one_more)

    was_whole : whole_columns p (length fields) ≡ j
    was_whole = whole_here p (length fields) j (1 + i) was below (omega (arith, inside))

    was_fields : column_fields p (length fields) ≡ 1 + i
    was_fields = fields_here p (length fields) j (1 + i) was below (omega (arith, inside))

    few : length fields ≤ before_count p
    few = column_inside p j (1 + i) (length fields) was below (omega (arith, inside))

    -- the nonce and the elements that were there
    nonce_was : k.nonce ≡ nonce_read p longer j
    nonce_was = s.nonce_is (omega (arith, was_fields)) ∙ (λ t. nonce_read p fields (was_whole t)) ∙ sym (earlier fields f (column_place p j) (omega (arith, number)))

    was_read : take i k.column.items ≡ column_read e p fields j
    was_read =
        let h : 0 < column_fields p (length fields) = omega (arith, was_fields) in
        let b : nat_lt 0 (column_fields p (length fields)) ≡ true = lt-ltb 0 (column_fields p (length fields)) h in
        let at : i ≡ column_fields p (length fields) - 1 = omega (arith, was_fields) in
        ap (λ m. take m k.column.items) at ∙ s.column_is ∙ ap (λ b. cond b (column_read e p fields (whole_columns p (length fields))) []) b ∙ (λ t. column_read e p fields (was_whole t))

    -- and this one
    now_read : (column : List A) → column ≡ slice_set k.column.items i x → take (i + 1) column ≡ column_read e p longer j
    now_read column set =
        ap (take (i + 1)) set ∙ slot_more k.column.items i x (column_read e p fields j) (omega (arith, inside, lists.column)) was_read
        ∙ ap (λ y. column_read e p fields j ++ y ∷ []) is ∙ sym (elements_more fields f e (column_place p j + 1) p.nrow (omega (arith, number)) (omega (arith, number, inside)))

    -- An element of it is taken that is not the last.
    pub stored_element : i + 1 < p.nrow → l.column.items ≡ slice_set k.column.items i x → l.nonce ≡ k.nonce → l.leaves.items ≡ k.leaves.items → l.failing ≡ k.failing → l.count ≡ k.count → l.digests.items ≡ k.digests.items
        → IsStored o e c p session public longer l
    stored_element more set nonce leaves failing count digests =
        let now_whole : whole_columns p (length longer) ≡ j = whole_here p (length longer) j (2 + i) now below (omega (arith, more)) in
        let now_fields : column_fields p (length longer) ≡ (i + 1) + 1 = fields_here p (length longer) j (2 + i) now below (omega (arith, more)) ∙ omega arith in
        stored_within o e c p session public fields f is_late some k l s same lists.sent (now_whole ∙ sym was_whole) leaves failing
        (λ h. nonce ∙ nonce_was ∙ (λ t. nonce_read p longer (sym now_whole t)))
        (reading (i + 1) j now_fields now_whole (now_read l.column.items set))
        (no_digests few count digests)

    module _ (last : i + 1 ≡ p.nrow) (column : List A) (set : column ≡ slice_set k.column.items i x) where
      whole_read : column ≡ column_read e p longer j
      whole_read =
          let long : length column ≡ i + 1 = ap length set ∙ length-set k.column.items i x ∙ lists.column ∙ sym last in
          sym (take_all (i + 1) column (omega (arith, long))) ∙ now_read column set

      -- what a check reads of it
      abbrev at_hand : List A × (Transcript A × List A)
      at_hand = (column, (k.drawn, k.sent.items))

      drawn : k.drawn ≡ given_of o e c p session public fields
      drawn = let h : nat_le (before_opened p) (length fields) ≡ true = grind (arith, is_late) in s.given_is (s.drawn_is ∙ h)

      sent_all : k.sent.items ≡ sent_read e p fields
      sent_all = sym (take_all (length fields - 3) k.sent.items (omega (arith, is_late, lists.sent))) ∙ s.sent_are

      hand_reads : at_hand ≡ reads o e c p session public longer j
      hand_reads = λ t. (whole_read t, ((drawn ∙ sym (given_stays o e c p session public fields f is_late some)) t, (sent_all ∙ sym (sent_stays o e c p session public fields f is_late some)) t))

      abbrev given_columns : List ℕ
      given_columns = (given_of o e c p session public fields).columns

      given_long : length given_columns ≡ opened_count
      given_long = ap (λ (z : Transcript A). length z.columns) (sym drawn) ∙ lists.columns

      abbrev were : List ℕ
      were = columns_of o e c p session public fields

      were_long : length were ≡ j
      were_long = length-take (whole_columns p (length fields)) given_columns ∙ omega (arith, was_whole, given_long, below)

      now_whole : whole_columns p (length longer) ≡ j + 1
      now_whole = whole_next p (length longer) j (2 + i) now below (omega (arith, last))

      columns_more : were ++ slice_index_or k.drawn.columns j 0 ∷ [] ≡ columns_of o e c p session public longer
      columns_more =
          (λ t. take (was_whole t) given_columns ++ slice_index_or (drawn t).columns j 0 ∷ [])
          ∙ sym (take_more given_columns j 0 (omega (arith, given_long, below)))
          ∙ (λ t. take (sym now_whole t) (sym (given_stays o e c p session public fields f is_late some) t).columns)

      -- the least that fails a check, with this column
      ends : (R : ℕ → List A × (Transcript A × List A) → Type 0) (a b : Option ℕ) → IsLeastFailing were (λ m. R m (reads o e c p session public fields m)) a
          → IsNoted a b (R j at_hand) (slice_index_or k.drawn.columns j 0) → IsLeastFailing (columns_of o e c p session public longer) (λ m. R m (reads o e c p session public longer m)) b
      ends R a b old noted =
          let read : IsNoted a b (R j (reads o e c p session public longer j)) (slice_index_or k.drawn.columns j 0) =
          subst (λ z. IsNoted a b (R j z) (slice_index_or k.drawn.columns j 0)) hand_reads noted in
          subst (λ xs. IsLeastFailing xs (λ m. R m (reads o e c p session public longer m)) b) columns_more
          (least_more were (slice_index_or k.drawn.columns j 0) (λ m. R m (reads o e c p session public longer m)) a b (moves o e c p session public fields f is_late some R a old)
          (subst (λ m. IsNoted a b (R m (reads o e c p session public longer m)) (slice_index_or k.drawn.columns j 0)) (sym were_long) read))

      leaf_here : leaf_of e.bytes e.number k.nonce column ≡ leaf_read e p longer j
      leaf_here = λ t. leaf_of e.bytes e.number (nonce_was t) (whole_read t)

      -- Its last element is taken.
      pub stored_end : l.leaves.items ≡ slice_set k.leaves.items j (leaf_of e.bytes e.number k.nonce column)
          → IsNoted k.failing.low_degree l.failing.low_degree (low o e c p session public j at_hand) (slice_index_or k.drawn.columns j 0)
          → IsNoted k.failing.linear l.failing.linear (linear o e c p session public j at_hand) (slice_index_or k.drawn.columns j 0)
          → IsNoted k.failing.quadratic l.failing.quadratic (quadratic o e c p session public j at_hand) (slice_index_or k.drawn.columns j 0)
          → l.count ≡ k.count → l.digests.items ≡ k.digests.items → IsStored o e c p session public longer l
      stored_end leaves low_degree linear_at quadratic_at count digests =
          stored_column o e c p session public fields f is_late some k l s same lists.sent j was_whole now_whole (fields_next p (length longer) j (2 + i) now below (omega (arith, last)))
          (ap (take (j + 1)) leaves ∙ slot_more k.leaves.items j (leaf_of e.bytes e.number k.nonce column) (take j k.leaves.items) (omega (arith, lists.leaves, below)) refl ∙ ap (λ y. take j k.leaves.items ++ y ∷ []) leaf_here)
          (ends (low o e c p session public) k.failing.low_degree l.failing.low_degree s.low_degree_is low_degree)
          (ends (linear o e c p session public) k.failing.linear l.failing.linear s.linear_is linear_at)
          (ends (quadratic o e c p session public) k.failing.quadratic l.failing.quadratic s.quadratic_is quadratic_at)
          (no_digests few count digests)

      abbrev index : ℕ
      index = slice_index_or k.drawn.columns j 0

      -- It is taken, and the column is checked with what was drawn.
      pub stored_checked : (r : Rooms A) → (k.is_drawn ≡ true → AreReady o e.element c p k r) → l.leaves.items ≡ slice_set k.leaves.items j (leaf_of e.bytes e.number k.nonce column)
          → (r.answers ≡ weighted_answers o e.element p k.sent.items → IsNoted k.failing.low_degree l.failing.low_degree (IsLowDegreeIn o e.element p column (p.dblock + index) (ldt_in p k.sent.items) k.drawn.challenges.u) index)
          → (r.answers ≡ weighted_answers o e.element p k.sent.items → (lists : ℕ → List A) → AreWeightedRows o e.element p r.combined lists
          → IsNoted k.failing.linear l.failing.linear (IsLinearIn o e.element p column (p.dblock + index) (dot_in p k.sent.items) lists) index)
          → (r.answers ≡ weighted_answers o e.element p k.sent.items
          → IsNoted k.failing.quadratic l.failing.quadratic (IsQuadraticIn o e.element p column (p.dblock + index) (values_of o p (head_in p k.sent.items) (tail_in p k.sent.items)) k.drawn.challenges.v) index)
          → l.count ≡ k.count → l.digests.items ≡ k.digests.items → IsStored o e c p session public longer l
      stored_checked r ready leaves low_degree linear_at quadratic_at count digests =
          let h : nat_le (before_opened p) (length fields) ≡ true = grind (arith, is_late) in
          let are = ready (s.drawn_is ∙ h) in
          stored_end leaves (low_degree are.answers)
          (subst (λ xs. IsNoted k.failing.linear l.failing.linear (IsLinearIn o e.element p column (p.dblock + index) (dot_in p k.sent.items) (combined_row_of o e.element c xs k.drawn.script (messages_in p k.sent.items) k.drawn.challenges)) index) s.public_are (linear_at are.answers _ are.rows))
          (quadratic_at are.answers)
          count digests

  -- behind the opened columns
  module _ (behind : before_count p ≤ length fields) where
    late_too : before_opened p ≤ length fields
    late_too = omega (arith, behind)

    now_none : column_fields p (length longer) ≡ 0
    now_none = none_open p (length longer) (omega (arith, behind, one_more))

    stored_behind : l.leaves.items ≡ k.leaves.items → l.failing ≡ k.failing → take l.count l.digests.items ≡ digests_read p longer → IsStored o e c p session public longer l
    stored_behind leaves failing digests =
        stored_within o e c p session public fields f late_too some k l s same lists.sent
        (all_whole p (length longer) (omega (arith, behind, one_more)) ∙ sym (all_whole p (length fields) behind)) leaves failing (λ h. absurd (omega (arith, h, now_none))) (not_reading now_none) digests

    -- The number of digests is taken.
    pub stored_count : length fields ≡ before_count p → l.leaves.items ≡ k.leaves.items → l.failing ≡ k.failing → l.count ≡ k.count → l.digests.items ≡ k.digests.items → IsStored o e c p session public longer l
    stored_count number leaves failing count digests = stored_behind leaves failing (no_digests (omega (arith, number)) count digests)

    -- Digest i is taken.
    pub stored_digest : (i : ℕ) → length fields ≡ before_count p + 1 + i → i < most_digests → l.leaves.items ≡ k.leaves.items → l.failing ≡ k.failing → l.count ≡ i + 1 → l.digests.items ≡ slice_set k.digests.items i f
        → IsStored o e c p session public longer l
    stored_digest i number inside leaves failing count digests =
        let were : length (drop (before_count p + 1) fields) ≡ i = length-drop (before_count p + 1) fields ∙ omega (arith, number) in
        let counted : length (take k.count k.digests.items) ≡ i = ap length s.digests_are ∙ were in
        let so_many : k.count ≡ i = omega (arith, sym counted, length-take k.count k.digests.items, lists.digests, lists.few) in
        stored_behind leaves failing
        ((λ t. take (count t) (digests t))
        ∙ slot_more k.digests.items i f (digests_read p fields) (omega (arith, inside, lists.digests)) (ap (λ m. take m k.digests.items) (sym so_many) ∙ s.digests_are)
        ∙ sym (drop-append-le (before_count p + 1) fields (f ∷ []) (omega (arith, number))))

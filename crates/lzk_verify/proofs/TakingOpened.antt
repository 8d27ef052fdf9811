-- A field is taken of the opened columns, or of the path behind them.
use Rattle.std.specs.Prelude.{◌≡◌, ℕ, ◌+◌, ◌-◌, ◌*◌, ◌/◌, ◌<◌, ◌≤◌, true, false, cond, nat_le, nat_lt, Option, List, [], ◌∷◌, ◌++◌, length, map, take, slice_index_or}
use Rattle.std.specs.List.{range_with_len}
use Rattle.std.proofs.Common.{sym, ap, subst, ◌∙◌, arith}
use Rattle.std.proofs.lemmas.List.{length_push, length-take, take_all}
use Rattle.std.proofs.lemmas.List.FromFn.{fill_by_all, get_or-map-range_with_len, length-map-range_with_len, map-range_with_len_more}
use Rattle.std.proofs.lemmas.Nat.{div-add-mod', mul-le}
use Rattle.lzk_field.specs.Coding.{Coding}
use Rattle.lzk_field.specs.Ring.{Ops}
use Rattle.lzk_circuit.specs.Valid.{Wiring}
use Rattle.lzk_layout.specs.declared.params.Params.{Params}
use Rattle.lzk_layout.specs.Parts.{before_opened}
use Rattle.lzk_merkle.specs.Leaf.{leaf_of}
use Rattle.lzk_accept.specs.Challenges.{Transcript}
use Rattle.lzk_accept.specs.Checks.{combined_row_of}
use Rattle.lzk_verify.specs.declared.intake.Intake.{Intake}
use Rattle.lzk_verify.specs.Columns.{values_of, IsLowDegreeIn, IsLinearIn, IsQuadraticIn}
use Rattle.lzk_verify.specs.Kept.{messages_in, ldt_in, dot_in, head_in, tail_in, sent_count, column_place, whole_columns, column_fields, id_read, root_read, sent_read, nonce_read, column_read, leaf_read, digests_read, start_of, given_of, given_before, whole_transcript, columns_of, IsLeastFailing, LowDegreeRead, LinearRead, QuadraticRead}
use Rattle.lzk_verify.proofs.FieldSteps.{earlier, elements_before}
use Rattle.lzk_verify.proofs.LeastLaws.{least_same}
use Rattle.lzk_verify.proofs.Stored.{IsStored}

-- equal facts of each place below n make equal lists
pub map_same : {X : Type 0} (f g : ℕ → X) (d : X) (n : ℕ) → ((i : ℕ) → i < n → f i ≡ g i) → map f (range_with_len 0 n) ≡ map g (range_with_len 0 n)
map_same f g d n same =
    fill_by_all g (map f (range_with_len 0 n)) n d (length-map-range_with_len f 0 n) (λ k h. get_or-map-range_with_len f 0 n k k d h (omega arith) ∙ same k h)

module _ (p : Params) (n : ℕ) where
  -- a whole column's fields are whole
  pub column_fits : (j : ℕ) → j < whole_columns p n → before_opened p ≤ n → column_place p j + (1 + p.nrow) ≤ n
  column_fits j h opened =
      let w = 1 + p.nrow in
      let q = (n - before_opened p) / w in
      let below : j + 1 ≤ q = omega (arith, h) in
      let fits : (j + 1) * w ≤ q * w = mul-le (j + 1) w q w below (omega arith) in
      let some : q * w ≤ n - before_opened p = omega (arith, div-add-mod' (n - before_opened p) w) in
      let one : (j + 1) * w ≡ j * w + w = omega arith in
      omega (arith, fits, some, one, opened)

module _ {A : Type 0} (o : Ops A) (e : Coding A) (c : Wiring A) (p : Params) (session : List ℕ) (public : List A) where
  -- what a check of a column reads
  abbrev pub reads : List (List ℕ) → ℕ → List A × (Transcript A × List A)
  reads gs j = (column_read e p gs j, (given_of o e c p session public gs, sent_read e p gs))

  -- each check, of what it reads
  abbrev pub low : ℕ → List A × (Transcript A × List A) → Type 0
  low j z = IsLowDegreeIn o e.element p z.0 (p.dblock + slice_index_or z.1.0.columns j 0) (ldt_in p z.1.1) z.1.0.challenges.u

  abbrev pub linear : ℕ → List A × (Transcript A × List A) → Type 0
  linear j z =
      IsLinearIn o e.element p z.0 (p.dblock + slice_index_or z.1.0.columns j 0) (dot_in p z.1.1)
      (combined_row_of o e.element c public z.1.0.script (messages_in p z.1.1) z.1.0.challenges)

  abbrev pub quadratic : ℕ → List A × (Transcript A × List A) → Type 0
  quadratic j z = IsQuadraticIn o e.element p z.0 (p.dblock + slice_index_or z.1.0.columns j 0) (values_of o p (head_in p z.1.1) (tail_in p z.1.1)) z.1.0.challenges.v

-- what the intake keeps of the front of a proof, before the columns, stays as it is
pub record IsLate {A : Type 0} (k l : Intake A) : Type 0 where
  pub public : l.public.items ≡ k.public.items
  pub is_drawn : l.is_drawn ≡ k.is_drawn
  pub id : l.id ≡ k.id
  pub root : l.root ≡ k.root
  pub sent : l.sent.items ≡ k.sent.items
  pub drawn : l.drawn ≡ k.drawn

module _ {A : Type 0} (o : Ops A) (e : Coding A) (c : Wiring A) (p : Params) (session : List ℕ) (public : List A) (fields : List (List ℕ)) (f : List ℕ) (late : before_opened p ≤ length fields) (some : 1 ≤ p.nrow) where
  abbrev longer : List (List ℕ)
  longer = fields ++ f ∷ []

  one_more : length longer ≡ length fields + 1
  one_more = length_push fields f

  id_stays : id_read longer ≡ id_read fields
  id_stays = earlier fields f 1 (omega (arith, late))

  root_stays : root_read longer ≡ root_read fields
  root_stays = earlier fields f 2 (omega (arith, late))

  pub sent_stays : sent_read e p longer ≡ sent_read e p fields
  sent_stays = elements_before fields f e 3 (sent_count p) (omega (arith, late))

  were_all : nat_le (before_opened p) (length fields) ≡ true
  were_all = grind arith

  are_all : nat_le (before_opened p) (length longer) ≡ true
  are_all = let h : before_opened p ≤ length longer = omega (arith, late, one_more) in grind arith

  given_is_whole : (gs : List (List ℕ)) → nat_le (before_opened p) (length gs) ≡ true → given_of o e c p session public gs ≡ whole_transcript o e c p (start_of o e c p session public gs) (root_read gs) (sent_read e p gs)
  given_is_whole gs h =
      ap (λ b. cond b (whole_transcript o e c p (start_of o e c p session public gs) (root_read gs) (sent_read e p gs)) (given_before o e c p (start_of o e c p session public gs) (root_read gs) (sent_read e p gs) (length gs))) h

  -- what the tape gave is what it gave before
  pub given_stays : given_of o e c p session public longer ≡ given_of o e c p session public fields
  given_stays =
      given_is_whole longer are_all ∙ (λ i. whole_transcript o e c p (start_of o e c p session public fields) (root_stays i) (sent_stays i)) ∙ sym (given_is_whole fields were_all)

  -- a whole column reads as it did
  nonce_stays : (j : ℕ) → j < whole_columns p (length fields) → nonce_read p longer j ≡ nonce_read p fields j
  nonce_stays j h = earlier fields f (column_place p j) (omega (arith, column_fits p (length fields) j h late))

  column_stays : (j : ℕ) → j < whole_columns p (length fields) → column_read e p longer j ≡ column_read e p fields j
  column_stays j h = elements_before fields f e (column_place p j + 1) p.nrow (omega (arith, column_fits p (length fields) j h late))

  pub leaf_stays : (j : ℕ) → j < whole_columns p (length fields) → leaf_read e p longer j ≡ leaf_read e p fields j
  leaf_stays j h = λ i. leaf_of e.bytes e.number (nonce_stays j h i) (column_stays j h i)

  -- the leaves of the columns that were whole
  leaves_stay : map (leaf_read e p longer) (range_with_len 0 (whole_columns p (length fields))) ≡ map (leaf_read e p fields) (range_with_len 0 (whole_columns p (length fields)))
  leaves_stay = map_same (leaf_read e p longer) (leaf_read e p fields) [] (whole_columns p (length fields)) leaf_stays

  reads_stay : (j : ℕ) → j < whole_columns p (length fields) → reads o e c p session public fields j ≡ reads o e c p session public longer j
  reads_stay j h = λ i. (sym (column_stays j h) i, (sym given_stays i, sym sent_stays i))

  -- the columns that were whole
  abbrev were : List ℕ
  were = columns_of o e c p session public fields

  few : length were ≤ whole_columns p (length fields)
  few = omega (arith, length-take (whole_columns p (length fields)) (given_of o e c p session public fields).columns)

  -- the least that fails a check of what is read of it fails it still
  pub moves : (R : ℕ → List A × (Transcript A × List A) → Type 0) (x : Option ℕ) → IsLeastFailing were (λ j. R j (reads o e c p session public fields j)) x → IsLeastFailing were (λ j. R j (reads o e c p session public longer j)) x
  moves R x h =
      least_same were (λ j. R j (reads o e c p session public fields j)) (λ j. R j (reads o e c p session public longer j)) (λ j b r. subst (R j) (reads_stay j (omega (arith, b, few))) r)
      (λ j b r. subst (R j) (sym (reads_stay j (omega (arith, b, few)))) r) x h

  module _ (k l : Intake A) (s : IsStored o e c p session public fields k) (same : IsLate k l) (room : length k.sent.items ≡ sent_count p) where
    sent_late : take (length longer - 3) l.sent.items ≡ sent_read e p longer
    sent_late =
        let long : sent_count p ≤ length fields - 3 = omega (arith, late) in
        ap (take (length longer - 3)) same.sent
        ∙ take_all (length longer - 3) k.sent.items (omega (arith, room, long, one_more))
        ∙ sym (take_all (length fields - 3) k.sent.items (omega (arith, room, long)))
        ∙ s.sent_are ∙ sym sent_stays

    -- A field is taken that ends no column: so many columns are whole as before.
    pub stored_within :
        whole_columns p (length longer) ≡ whole_columns p (length fields) → l.leaves.items ≡ k.leaves.items → l.failing ≡ k.failing
        → (0 < column_fields p (length longer) → l.nonce ≡ nonce_read p longer (whole_columns p (length longer)))
        → take (column_fields p (length longer) - 1) l.column.items ≡ cond (nat_lt 0 (column_fields p (length longer))) (column_read e p longer (whole_columns p (length longer))) []
        → take l.count l.digests.items ≡ digests_read p longer
        → IsStored o e c p session public longer l
    stored_within still leaves failing nonce column digests =
        let same_columns : were ≡ columns_of o e c p session public longer = (λ i. take (sym still i) (sym given_stays i).columns) in
        let kept : (R : ℕ → List A × (Transcript A × List A) → Type 0) (x y : Option ℕ) → y ≡ x → IsLeastFailing were (λ j. R j (reads o e c p session public fields j)) x → IsLeastFailing (columns_of o e c p session public longer) (λ j. R j (reads o e c p session public longer j)) y =
        λ R x y is h. subst (λ (z : List ℕ × Option ℕ). IsLeastFailing z.0 (λ j. R j (reads o e c p session public longer j)) z.1) (λ i. (same_columns i, sym is i)) (moves R x h) in
        record {
          public_are = same.public ∙ s.public_are;
          drawn_is = same.is_drawn ∙ s.drawn_is ∙ were_all ∙ sym are_all;
          tape_is = λ h. absurd (let t : true ≡ false = sym (same.is_drawn ∙ s.drawn_is ∙ were_all) ∙ h in cc);
          id_is = λ h. same.id ∙ s.id_is (omega (arith, late)) ∙ sym id_stays;
          root_is = λ h. same.root ∙ s.root_is (omega (arith, late)) ∙ sym root_stays;
          sent_are = sent_late;
          given_is = λ h. same.drawn ∙ s.given_is (s.drawn_is ∙ were_all) ∙ sym given_stays;
          leaves_are = (λ i. take (still i) (leaves i)) ∙ s.leaves_are ∙ sym leaves_stay ∙ (λ i. map (leaf_read e p longer) (range_with_len 0 (sym still i)));
          low_degree_is = kept (low o e c p session public) k.failing.low_degree l.failing.low_degree (ap (λ x. x.low_degree) failing) s.low_degree_is;
          linear_is = kept (linear o e c p session public) k.failing.linear l.failing.linear (ap (λ x. x.linear) failing) s.linear_is;
          quadratic_is = kept (quadratic o e c p session public) k.failing.quadratic l.failing.quadratic (ap (λ x. x.quadratic) failing) s.quadratic_is;
          nonce_is = nonce;
          column_is = column;
          digests_are = digests;
        }

    -- The last field of a column is taken.
    pub stored_column : (w : ℕ) → whole_columns p (length fields) ≡ w → whole_columns p (length longer) ≡ w + 1 → column_fields p (length longer) ≡ 0
        → take (w + 1) l.leaves.items ≡ take w k.leaves.items ++ leaf_read e p longer w ∷ []
        → IsLeastFailing (columns_of o e c p session public longer) (LowDegreeRead o e c p public longer (given_of o e c p session public longer)) l.failing.low_degree
        → IsLeastFailing (columns_of o e c p session public longer) (LinearRead o e c p public longer (given_of o e c p session public longer)) l.failing.linear
        → IsLeastFailing (columns_of o e c p session public longer) (QuadraticRead o e c p public longer (given_of o e c p session public longer)) l.failing.quadratic
        → take l.count l.digests.items ≡ digests_read p longer
        → IsStored o e c p session public longer l
    stored_column w was is none leaves low_degree linear_at quadratic_at digests = record {
      public_are = same.public ∙ s.public_are;
      drawn_is = same.is_drawn ∙ s.drawn_is ∙ were_all ∙ sym are_all;
      tape_is = λ h. absurd (let t : true ≡ false = sym (same.is_drawn ∙ s.drawn_is ∙ were_all) ∙ h in cc);
      id_is = λ h. same.id ∙ s.id_is (omega (arith, late)) ∙ sym id_stays;
      root_is = λ h. same.root ∙ s.root_is (omega (arith, late)) ∙ sym root_stays;
      sent_are = sent_late;
      given_is = λ h. same.drawn ∙ s.given_is (s.drawn_is ∙ were_all) ∙ sym given_stays;
      leaves_are =
          (λ i. take (is i) l.leaves.items) ∙ leaves
          ∙ ap (λ xs. xs ++ leaf_read e p longer w ∷ [])
          ((λ i. take (sym was i) k.leaves.items) ∙ s.leaves_are ∙ sym leaves_stay ∙ (λ i. map (leaf_read e p longer) (range_with_len 0 (was i))))
          ∙ sym (map-range_with_len_more (leaf_read e p longer) 0 w w (omega arith))
          ∙ (λ i. map (leaf_read e p longer) (range_with_len 0 (sym is i)));
      low_degree_is = low_degree;
      linear_is = linear_at;
      quadratic_is = quadratic_at;
      nonce_is = λ h. absurd (omega (arith, h, none));
      column_is = (λ i. take (none i - 1) l.column.items) ∙ (λ i. cond (nat_lt 0 (sym none i)) (column_read e p longer (whole_columns p (length longer))) []);
      digests_are = digests;
    }

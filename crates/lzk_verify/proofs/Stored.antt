-- What an intake keeps of fields, list by list: the form in which one field more is taken.
use Rattle.std.specs.Prelude.{◌≡◌, refl, ℕ, ◌-◌, ◌<◌, ◌≤◌, Bool, true, false, cond, nat_lt, Option, Some, None, List, [], length, map, take}
use Rattle.std.specs.List.{range_with_len}
use Rattle.std.proofs.Common.{sym, ap, ◌∙◌, arith}
use Rattle.std.proofs.lemmas.List.{get_or_past}
use Rattle.lzk_field.specs.Coding.{Coding}
use Rattle.lzk_field.specs.Ring.{Ops}
use Rattle.lzk_circuit.specs.Valid.{Wiring}
use Rattle.lzk_layout.specs.declared.params.Params.{Params}
use Rattle.lzk_layout.specs.Fronts.{digests_in}
use Rattle.lzk_verify.specs.declared.intake.Intake.{Intake}
use Rattle.lzk_verify.specs.Kept.{whole_columns, column_fields, has_answers, id_read, root_read, digests_read, nonce_read, sent_read, column_read, leaf_read, whole_transcript, given_before, tape_reached, start_of, given_of, tape_of, columns_of, IsLeastFailing, LowDegreeRead, LinearRead, QuadraticRead, IsKept}
use Rattle.lzk_verify.specs.Desk.{kept_of}

-- ---- values under a condition

if_true : {X : Type 0} (b : Bool) (x y z : X) → b ≡ true → cond b x y ≡ z → x ≡ z
if_true true x y z h is = is
if_true false x y z h is = absurd (let t : false ≡ true = h in cc)

if_either : {X : Type 0} (b : Bool) (x y z : X) → (b ≡ true → x ≡ z) → (b ≡ false → y ≡ z) → cond b x y ≡ z
if_either true x y z t f = t refl
if_either false x y z t f = f refl

-- two options under conditions that are the same have the same conditions
same_conditions : {X : Type 0} (a b : Bool) (x y : X) → cond a None (Some x) ≡ cond b None (Some y) → a ≡ b
same_conditions true true x y h = refl
same_conditions false false x y h = refl
same_conditions true false x y h = absurd (let t : None ≡ Some y = h in cc)
same_conditions false true x y h = absurd (let t : Some x ≡ None = h in cc)

same_values : {X : Type 0} (a b : Bool) (x y : X) → cond a None (Some x) ≡ cond b None (Some y) → a ≡ false → x ≡ y
same_values false false x y h is = cc
same_values true b x y h is = absurd (let t : true ≡ false = is in cc)
same_values false true x y h is = absurd (let t : Some x ≡ None = h in cc)

module _ {A : Type 0} (o : Ops A) (e : Coding A) (c : Wiring A) (p : Params) (session : List ℕ) (public : List A) (fields : List (List ℕ)) where
  abbrev n : ℕ
  n = length fields

  -- an intake keeps of these fields what follows
  pub record IsStored (k : Intake A) : Type 0 where
    pub public_are : k.public.items ≡ public
    pub drawn_is : k.is_drawn ≡ has_answers p n
    pub tape_is : k.is_drawn ≡ false → k.tape ≡ start_of o e c p session public fields
    pub id_is : 1 < n → k.id ≡ id_read fields
    pub root_is : 2 < n → k.root ≡ root_read fields
    pub sent_are : take (n - 3) k.sent.items ≡ sent_read e p fields
    pub given_is : k.is_drawn ≡ true → k.drawn ≡ given_of o e c p session public fields
    pub leaves_are : take (whole_columns p n) k.leaves.items ≡ map (leaf_read e p fields) (range_with_len 0 (whole_columns p n))
    pub low_degree_is : IsLeastFailing (columns_of o e c p session public fields) (LowDegreeRead o e c p public fields (given_of o e c p session public fields)) k.failing.low_degree
    pub linear_is : IsLeastFailing (columns_of o e c p session public fields) (LinearRead o e c p public fields (given_of o e c p session public fields)) k.failing.linear
    pub quadratic_is : IsLeastFailing (columns_of o e c p session public fields) (QuadraticRead o e c p public fields (given_of o e c p session public fields)) k.failing.quadratic
    pub nonce_is : 0 < column_fields p n → k.nonce ≡ nonce_read p fields (whole_columns p n)
    pub column_is : take (column_fields p n - 1) k.column.items ≡ cond (nat_lt 0 (column_fields p n)) (column_read e p fields (whole_columns p n)) []
    pub digests_are : take k.count k.digests.items ≡ digests_read p fields

  module _ (k : Intake A) (rest : List ℕ) where
    pub kept_stored : (d : Option ℕ) → IsKept o e c p session public fields (kept_of o e c p n d rest k) → IsStored k
    unfolding kept_of
    kept_stored d h =
        let drawn = same_conditions k.is_drawn (has_answers p n) k.tape (start_of o e c p session public fields) h.start_is in
        record {
          public_are = h.public_are;
          drawn_is = drawn;
          tape_is = λ f. same_values k.is_drawn (has_answers p n) k.tape (start_of o e c p session public fields) h.start_is f;
          id_is = λ l. let b : nat_lt 1 n ≡ true = grind arith in if_true (nat_lt 1 n) k.id [] (id_read fields) b h.id_is;
          root_is = λ l. let b : nat_lt 2 n ≡ true = grind arith in if_true (nat_lt 2 n) k.root [] (root_read fields) b h.root_is;
          sent_are = h.sent_are;
          given_is = λ t. if_true k.is_drawn k.drawn _ (given_of o e c p session public fields) t h.given_is;
          leaves_are = h.leaves_are;
          low_degree_is = h.low_degree_is;
          linear_is = h.linear_is;
          quadratic_is = h.quadratic_is;
          nonce_is = λ l. let b : nat_lt 0 (column_fields p n) ≡ true = grind arith in if_true (nat_lt 0 (column_fields p n)) k.nonce [] _ b (h.nonce_is ∙ ap (λ b. cond b (nonce_read p fields (whole_columns p n)) []) b);
          column_is = h.column_is;
          digests_are = h.digests_are;
        }

    module _ (s : IsStored k) where
      root_kept : cond (nat_lt 2 n) k.root [] ≡ root_read fields
      root_kept = if_either (nat_lt 2 n) k.root [] (root_read fields) (λ b. let l : 2 < n = grind arith in s.root_is l) (λ b. let l : n ≤ 2 = grind arith in sym (get_or_past fields 2 [] l))

      id_kept : cond (nat_lt 1 n) k.id [] ≡ id_read fields
      id_kept = if_either (nat_lt 1 n) k.id [] (id_read fields) (λ b. let l : 1 < n = grind arith in s.id_is l) (λ b. let l : n ≤ 1 = grind arith in sym (get_or_past fields 1 [] l))

      -- an option under a condition, from the condition and the value
      under : {X : Type 0} (a b : Bool) (x y : X) → a ≡ b → (a ≡ false → x ≡ y) → cond a None (Some x) ≡ cond b None (Some y)
      under true true x y h v = refl
      under false false x y h v = ap (λ z. Some z) (v refl)
      under true false x y h v = absurd (let t : true ≡ false = h in cc)
      under false true x y h v = absurd (let t : false ≡ true = h in cc)

      given_kept : (a b : Bool) → a ≡ b → k.is_drawn ≡ a → has_answers p n ≡ b
          → cond a k.drawn (given_before o e c p k.tape (cond (nat_lt 2 n) k.root []) (take (n - 3) k.sent.items) n) ≡ given_of o e c p session public fields
      given_kept true b h is has = s.given_is is
      given_kept false false h is has =
          (λ i. given_before o e c p (s.tape_is is i) (root_kept i) (s.sent_are i) n)
          ∙ ap (λ x. cond x (whole_transcript o e c p (start_of o e c p session public fields) (root_read fields) (sent_read e p fields))
          (given_before o e c p (start_of o e c p session public fields) (root_read fields) (sent_read e p fields) n)) (sym has)
      given_kept false true h is has = absurd (let t : false ≡ true = h in cc)

      pub stored_kept : IsKept o e c p session public fields (kept_of o e c p n (digests_in p fields) rest k)
      unfolding kept_of
      stored_kept = record {
        fields_are = refl;
        public_are = s.public_are;
        start_is = under k.is_drawn (has_answers p n) k.tape (start_of o e c p session public fields) s.drawn_is s.tape_is;
        tape_is = under k.is_drawn (has_answers p n) _ (tape_of o e c p session public fields) s.drawn_is
            (λ f i. tape_reached o e c p (s.tape_is f i) (root_kept i) (s.sent_are i) n);
        id_is = id_kept;
        root_is = root_kept;
        sent_are = s.sent_are;
        given_is = given_kept k.is_drawn (has_answers p n) s.drawn_is refl refl;
        leaves_are = s.leaves_are;
        low_degree_is = s.low_degree_is;
        linear_is = s.linear_is;
        quadratic_is = s.quadratic_is;
        nonce_is = if_either (nat_lt 0 (column_fields p n)) k.nonce [] _
            (λ b. let l : 0 < column_fields p n = grind arith in s.nonce_is l ∙ ap (λ x. cond x (nonce_read p fields (whole_columns p n)) []) (sym b))
            (λ b. ap (λ x. cond x (nonce_read p fields (whole_columns p n)) []) (sym b));
        column_is = s.column_is;
        count_is = refl;
        digests_are = s.digests_are;
      }

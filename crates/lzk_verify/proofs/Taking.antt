-- One field more is taken before the opened columns.
use Rattle.std.specs.Prelude.{◌≡◌, ℕ, ◌+◌, ◌-◌, ◌<◌, ◌≤◌, true, false, cond, nat_lt, nat_le, Option, Some, None, List, [], ◌∷◌, ◌++◌, length, map, take}
use Rattle.std.specs.List.{range_with_len}
use Rattle.std.proofs.Common.{sym, ap, subst, ◌∙◌, arith}
use Rattle.std.proofs.lemmas.List.{length_push, drop_all}
use Rattle.lzk_field.specs.Coding.{Coding}
use Rattle.lzk_field.specs.Ring.{Ops}
use Rattle.lzk_circuit.specs.Valid.{Wiring}
use Rattle.lzk_layout.specs.declared.params.Params.{Params}
use Rattle.lzk_layout.specs.Parts.{before_opened, before_count}
use Rattle.lzk_verify.specs.declared.intake.Intake.{Intake}
use Rattle.lzk_verify.specs.Kept.{whole_columns, column_fields, has_answers, id_read, root_read, sent_read, column_read, leaf_read, given_of, columns_of, IsLeastFailing}
use Rattle.lzk_verify.proofs.ColumnPlaces.{none_whole, none_begun}
use Rattle.lzk_verify.proofs.Stored.{IsStored}

-- no column fails of none
none_fails : (columns others : List ℕ) (P Q : ℕ → Type 0) (x : Option ℕ) → length columns ≡ 0 → length others ≡ 0 → IsLeastFailing columns P x → IsLeastFailing others Q x
none_fails columns others P Q None h k each = λ i l. absurd (let z : i < 0 = omega (arith, l, k) in omega (arith, z))
none_fails columns others P Q (Some x) h k f = absurd (let z : f.place < 0 = omega (arith, f.inside, h) in omega (arith, z))

pub no_columns : (w : ℕ) (xs : List ℕ) → w ≡ 0 → length (take w xs) ≡ 0
no_columns w xs h = ap (λ k. length (take k xs)) h

-- what the intake keeps beside the id, the root, the elements sent and what was drawn stays as it is
pub record IsEarly {A : Type 0} (k l : Intake A) : Type 0 where
  pub public : l.public.items ≡ k.public.items
  pub tape : l.is_drawn ≡ false → l.tape ≡ k.tape
  pub failing : l.failing ≡ k.failing
  pub count : l.count ≡ k.count
  pub digests : l.digests.items ≡ k.digests.items

module _ {A : Type 0} (o : Ops A) (e : Coding A) (c : Wiring A) (p : Params) (session : List ℕ) (public : List A) (fields : List (List ℕ)) (f : List ℕ) where
  abbrev pub more : List (List ℕ)
  more = fields ++ f ∷ []

  longer : length more ≡ length fields + 1
  longer = length_push fields f

  module _ (k l : Intake A) (s : IsStored o e c p session public fields k) (same : IsEarly k l) (early : length fields < before_opened p) where
    before : length more ≤ before_opened p
    before = omega (arith, early, longer)

    still_none : whole_columns p (length more) ≡ 0
    still_none = none_whole p (length more) before

    was_none : whole_columns p (length fields) ≡ 0
    was_none = none_whole p (length fields) (omega (arith, early))

    none_read : column_fields p (length more) ≡ 0
    none_read = none_begun p (length more) before

    least : (P Q : ℕ → Type 0) (x y : Option ℕ) → y ≡ x → IsLeastFailing (columns_of o e c p session public fields) P x → IsLeastFailing (columns_of o e c p session public more) Q y
    least P Q x y is h =
        subst (IsLeastFailing (columns_of o e c p session public more) Q) (sym is)
        (none_fails (columns_of o e c p session public fields) (columns_of o e c p session public more) P Q x
        (no_columns (whole_columns p (length fields)) (given_of o e c p session public fields).columns was_none)
        (no_columns (whole_columns p (length more)) (given_of o e c p session public more).columns still_none) h)

    pub not_drawn : k.is_drawn ≡ false
    not_drawn = let b : nat_le (before_opened p) (length fields) ≡ false = grind arith in s.drawn_is ∙ b

    -- An element, the id or the root is taken.
    pub stored_early :
        l.is_drawn ≡ has_answers p (length more)
        → (1 < length more → l.id ≡ id_read more) → (2 < length more → l.root ≡ root_read more) → take (length more - 3) l.sent.items ≡ sent_read e p more
        → (l.is_drawn ≡ true → l.drawn ≡ given_of o e c p session public more)
        → IsStored o e c p session public more l
    stored_early drawn id root sent given = record {
      public_are = same.public ∙ s.public_are;
      drawn_is = drawn;
      tape_is = λ h. same.tape h ∙ s.tape_is not_drawn;
      id_is = id;
      root_is = root;
      sent_are = sent;
      given_is = given;
      leaves_are = (λ i. take (still_none i) l.leaves.items) ∙ (λ i. map (leaf_read e p more) (range_with_len 0 (sym still_none i)));
      low_degree_is = least _ _ k.failing.low_degree l.failing.low_degree (ap (λ x. x.low_degree) same.failing) s.low_degree_is;
      linear_is = least _ _ k.failing.linear l.failing.linear (ap (λ x. x.linear) same.failing) s.linear_is;
      quadratic_is = least _ _ k.failing.quadratic l.failing.quadratic (ap (λ x. x.quadratic) same.failing) s.quadratic_is;
      nonce_is = λ h. absurd (omega (arith, h, none_read));
      column_is = (λ i. take (none_read i - 1) l.column.items) ∙ (λ i. cond (nat_lt 0 (sym none_read i)) (column_read e p more (whole_columns p (length more))) []);
      digests_are = (λ i. take (same.count i) (same.digests i)) ∙ s.digests_are ∙ drop_all (before_count p + 1) fields (omega (arith, early)) ∙ sym (drop_all (before_count p + 1) more (omega (arith, before)));
    }

-- What is kept of no fields, and whether a desk is fed.
use Rattle.std.specs.Prelude.{◌≡◌, refl, ℕ, ◌+◌, ◌-◌, ◌<◌, Bool, true, false, cond, nat_le, nat_lt, is_some, Option, None, List, [], length, map, take}
use Rattle.std.specs.List.{range_with_len}
use Rattle.std.proofs.Common.{sym, ap, subst, ◌∙◌, arith}
use Rattle.std.proofs.lemmas.List.{take_all, drop_all}
use Rattle.lzk_field.specs.Bytes.{number_from}
use Rattle.lzk_field.specs.Coding.{Coding}
use Rattle.lzk_field.specs.Ring.{Ops}
use Rattle.lzk_circuit.specs.Valid.{Wiring}
use Rattle.lzk_layout.specs.declared.params.Params.{Params}
use Rattle.lzk_layout.specs.Parts.{before_opened, before_count}
use Rattle.lzk_layout.specs.Sizes.{AreParams}
use Rattle.lzk_layout.specs.Cursors.{CursorPlace, faulty, reading, CursorState}
use Rattle.lzk_sumcheck.specs.Script.{HasShape}
use Rattle.lzk_accept.specs.Factored.{HasRoomFor}
use Rattle.lzk_accept.specs.Kept.{AreFormsOf}
use Rattle.lzk_verify.specs.declared.intake.Intake.{Intake}
use Rattle.lzk_verify.specs.Kept.{sent_count, whole_columns, column_fields, start_of, given_of, columns_of, column_read, leaf_read, IsLeastFailing}
use Rattle.lzk_circbytes.specs.Files.{id_of}
use Rattle.lzk_verify.specs.Desk.{held_of, Rooms, AreRooms, AreLists, AreParts}
use Rattle.lzk_verify.proofs.ColumnPlaces.{none_whole, none_begun}
use Rattle.lzk_verify.proofs.Stored.{IsStored}
use Rattle.lzk_verify.proofs.Taking.{no_columns}

pub fed_is : {A : Type 0} (o : Ops A) (e : Coding A) (c : Wiring A) (p : Params) (fed : Bool) (place : CursorPlace) (k : Intake A) → is_some (held_of o e c p fed place k) ≡ fed
unfolding held_of
fed_is o e c p false place k = refl
fed_is o e c p true (faulty fault) k = refl
fed_is o e c p true (reading n digests rest) k = refl

module _ {A : Type 0} (o : Ops A) (e : Coding A) (c : Wiring A) (p : Params) (session : List ℕ) (public : List A) (k : Intake A) where
  none_are : whole_columns p 0 ≡ 0
  none_are = none_whole p 0 (omega arith)

  none_read : column_fields p 0 ≡ 0
  none_read = none_begun p 0 (omega arith)

  least : (P : ℕ → Type 0) (x : Option ℕ) → x ≡ None → IsLeastFailing (columns_of o e c p session public []) P x
  least P x is =
      subst (IsLeastFailing (columns_of o e c p session public []) P) (sym is)
      (λ i h. absurd (let z : i < 0 = omega (arith, h, no_columns (whole_columns p 0) (given_of o e c p session public []).columns none_are) in omega (arith, z)))

  -- an intake that begins keeps nothing but the public inputs and the tape that they begin
  pub stored_none : k.public.items ≡ public → k.is_drawn ≡ false → k.tape ≡ start_of o e c p session public [] → k.failing ≡ record { low_degree = None; linear = None; quadratic = None } → k.count ≡ 0 → IsStored o e c p session public [] k
  stored_none publics not tape failing count =
      let few : nat_le (before_opened p) 0 ≡ false = grind arith in
      record {
        public_are = publics;
        drawn_is = not ∙ sym few;
        tape_is = λ h. tape;
        id_is = λ h. absurd (omega (arith, h));
        root_is = λ h. absurd (omega (arith, h));
        sent_are = ap (map (λ (x : List ℕ). e.element (number_from x))) (sym (take_all (sent_count p) [] (omega arith)));
        given_is = λ h. absurd (let t : true ≡ false = sym h ∙ not in cc);
        leaves_are = (λ i. take (none_are i) k.leaves.items) ∙ (λ i. map (leaf_read e p []) (range_with_len 0 (sym none_are i)));
        low_degree_is = least _ k.failing.low_degree (ap (λ x. x.low_degree) failing);
        linear_is = least _ k.failing.linear (ap (λ x. x.linear) failing);
        quadratic_is = least _ k.failing.quadratic (ap (λ x. x.quadratic) failing);
        nonce_is = λ h. absurd (omega (arith, h, none_read));
        column_is = (λ i. take (none_read i - 1) k.column.items) ∙ (λ i. cond (nat_lt 0 (sym none_read i)) (column_read e p [] (whole_columns p 0)) []);
        digests_are = (λ i. take (count i) k.digests.items) ∙ sym (drop_all (before_count p + 1) [] (omega arith));
      }

-- the parts of a new desk hang together
pub new_parts : {A : Type 0} (o : Ops A) (e : Coding A) (c : Wiring A) (p : Params) (id : List ℕ) (cursor : CursorState) (k : Intake A) (r : Rooms A) → AreParams o p → id ≡ id_of e c → cursor.params ≡ p
    → length k.public.items ≡ c.publics → HasShape c k.drawn.script → AreLists p k → k.is_drawn ≡ false → AreFormsOf o c r.forms → HasRoomFor c r.combined → AreRooms p r → AreParts o e c p id cursor k r
new_parts o e c p id cursor k r valid own lengths publics script lists not forms factors rooms = record {
  valid = valid;
  id_is = own;
  cursor_is = lengths;
  sound = record { public = publics; script = script; lists = lists; forms = forms; factors = factors; rooms = rooms; ready = λ h. absurd (let t : true ≡ false = sym h ∙ not in cc) };
}

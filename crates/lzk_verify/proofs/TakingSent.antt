-- An element is taken that is sent before the opened columns.
use Rattle.std.specs.Prelude.{◌≡◌, refl, ℕ, ◌+◌, ◌-◌, ◌<◌, ◌≤◌, Bool, true, false, cond, nat_le, nat_lt, Some, None, List, [], ◌∷◌, ◌++◌, length, take, slice_set}
use Rattle.std.proofs.Common.{sym, ap, ◌∙◌, arith}
use Rattle.std.proofs.lemmas.List.{length_push, take_all}
use Rattle.lzk_field.specs.Bytes.{number_from}
use Rattle.lzk_field.specs.Coding.{Coding}
use Rattle.lzk_field.specs.Ring.{Ops}
use Rattle.lzk_circuit.specs.Valid.{Wiring}
use Rattle.lzk_layout.specs.declared.params.Params.{Params}
use Rattle.lzk_layout.specs.Fields.{element, shape, wrong, IsField}
use Rattle.lzk_layout.specs.declared.fault.ProofKind.TheVariants as kinds
use Rattle.lzk_layout.specs.Parts.{before_opened}
use Rattle.lzk_verify.specs.declared.intake.Intake.{Intake}
use Rattle.lzk_verify.specs.Kept.{sent_count, id_read, root_read, sent_read, start_of, given_before, whole_transcript}
use Rattle.lzk_verify.proofs.FieldSteps.{earlier, elements_more, slot_more}
use Rattle.lzk_verify.proofs.Stored.{IsStored}
use Rattle.lzk_verify.proofs.Taking.{IsEarly, not_drawn, stored_early}

-- element number i of those that are sent is taken, and id and root stay
pub record SetsSent {A : Type 0} (e : Coding A) (p : Params) (n i : ℕ) (f : List ℕ) (k l : Intake A) : Type 0 where
  pub number : n ≡ 3 + i
  pub inside : i < sent_count p
  pub room : length k.sent.items ≡ sent_count p
  pub set : l.sent.items ≡ slice_set k.sent.items i (e.element (number_from f))
  pub id : l.id ≡ k.id
  pub root : l.root ≡ k.root

module _ {A : Type 0} (o : Ops A) (e : Coding A) (c : Wiring A) (p : Params) (session : List ℕ) (public : List A) (fields : List (List ℕ)) (f : List ℕ) where
  abbrev longer : List (List ℕ)
  longer = fields ++ f ∷ []

  module _ (k l : Intake A) (i : ℕ) (s : IsStored o e c p session public fields k) (same : IsEarly k l) (sets : SetsSent e p (length fields) i f k l) where
    one_more : length longer ≡ length fields + 1
    one_more = length_push fields f

    is_early : length fields < before_opened p
    is_early = omega (arith, sets.number, sets.inside)

    id_more : 1 < length longer → l.id ≡ id_read longer
    id_more h = sets.id ∙ s.id_is (omega (arith, sets.number)) ∙ sym (earlier fields f 1 (omega (arith, sets.number)))

    root_more : l.root ≡ root_read longer
    root_more = sets.root ∙ s.root_is (omega (arith, sets.number)) ∙ sym (earlier fields f 2 (omega (arith, sets.number)))

    sent_more : take (length longer - 3) l.sent.items ≡ sent_read e p longer
    sent_more =
        let at : length longer - 3 ≡ i + 1 = omega (arith, one_more, sets.number) in
        let back : length fields - 3 ≡ i = omega (arith, sets.number) in
        ap (λ m. take m l.sent.items) at
        ∙ ap (take (i + 1)) sets.set
        ∙ slot_more k.sent.items i (e.element (number_from f)) (sent_read e p fields) (omega (arith, sets.inside, sets.room)) (ap (λ m. take m k.sent.items) (sym back) ∙ s.sent_are)
        ∙ sym (elements_more fields f e 3 (sent_count p) (omega (arith, sets.number)) (omega (arith, sets.number, sets.inside)))

    -- it is not the last
    pub stored_sent : i + 1 < sent_count p → l.is_drawn ≡ false → IsStored o e c p session public longer l
    stored_sent below not =
        let few : nat_le (before_opened p) (length longer) ≡ false = let h : length longer < before_opened p = omega (arith, below, one_more, sets.number) in grind arith in
        stored_early o e c p session public fields f k l s same is_early (not ∙ sym few) id_more (λ h. root_more) sent_more (λ h. absurd (let t : true ≡ false = sym h ∙ not in cc))

    -- it is the last, and all is drawn that the tape gives
    pub stored_last : i + 1 ≡ sent_count p → length l.sent.items ≡ sent_count p → l.is_drawn ≡ true → l.drawn ≡ whole_transcript o e c p k.tape l.root l.sent.items → IsStored o e c p session public longer l
    stored_last last room drawn given =
        let all : nat_le (before_opened p) (length longer) ≡ true = let h : before_opened p ≤ length longer = omega (arith, last, one_more, sets.number) in grind arith in
        let begins : k.tape ≡ start_of o e c p session public longer = s.tape_is (not_drawn o e c p session public fields f k l s same is_early) in
        let whole : l.sent.items ≡ sent_read e p longer = sym (take_all (length longer - 3) l.sent.items (omega (arith, room, last, one_more, sets.number))) ∙ sent_more in
        let is : l.drawn ≡ whole_transcript o e c p (start_of o e c p session public longer) (root_read longer) (sent_read e p longer) =
        given ∙ (λ j. whole_transcript o e c p (begins j) (root_more j) (whole j)) in
        stored_early o e c p session public fields f k l s same is_early (drawn ∙ sym all) id_more (λ h. root_more) sent_more
        (λ h.
        is
        ∙ ap (λ b. cond b (whole_transcript o e c p (start_of o e c p session public longer) (root_read longer) (sent_read e p longer))
        (given_before o e c p (start_of o e c p session public longer) (root_read longer) (sent_read e p longer) (length longer))) (sym all))

-- an element that passes is below the field's size
pub small : (size bytes : ℕ) (f : List ℕ) → IsField (shape bytes size) element f → number_from f < size
unfolding wrong
small size bytes f passes = go (nat_lt (number_from f) size) refl passes.right
  where
    go : (b : Bool) → nat_lt (number_from f) size ≡ b → cond b None (Some kinds.Element) ≡ None → number_from f < size
    go true is h = grind arith
    go false is h = absurd (let t : Some kinds.Element ≡ None = h in cc)

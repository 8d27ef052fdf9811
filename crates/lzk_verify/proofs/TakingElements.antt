-- What an intake keeps that takes an element which is sent before the opened columns.
use Rattle.std.specs.Prelude.{◌≡◌, ℕ, ◌+◌, ◌<◌, true, false, List, [], ◌∷◌, ◌++◌, length, slice_set}
use Rattle.std.proofs.Common.{sym, ap, ◌∙◌, arith}
use Rattle.lzk_field.specs.Bytes.{number_from}
use Rattle.lzk_field.specs.Coding.{Coding}
use Rattle.lzk_field.specs.Ring.{Ops}
use Rattle.lzk_circuit.specs.Valid.{Wiring}
use Rattle.lzk_layout.specs.declared.params.Params.{Params}
use Rattle.lzk_verify.specs.declared.intake.Intake.{Intake}
use Rattle.lzk_verify.specs.Kept.{sent_count, whole_transcript}
use Rattle.lzk_verify.proofs.Stored.{IsStored}
use Rattle.lzk_verify.proofs.TakingSent.{stored_sent, stored_last}

module _ {A : Type 0} (o : Ops A) (e : Coding A) (c : Wiring A) (p : Params) (session : List ℕ) (public : List A) (fields : List (List ℕ)) (f : List ℕ) (k l : Intake A) where
  pub sent_taken : (i : ℕ) → IsStored o e c p session public fields k → l ≡ record k { sent = l.sent; is_drawn = false }
      → length fields ≡ 3 + i → i + 1 < sent_count p → length k.sent.items ≡ sent_count p
      → l.sent.items ≡ slice_set k.sent.items i (e.element (number_from f))
      → IsStored o e c p session public (fields ++ f ∷ []) l
  sent_taken i s others number below room set =
      stored_sent o e c p session public fields f k l i s
      (record {
        public = ap (λ (x : Intake A). x.public.items) others;
        tape = λ h. ap (λ (x : Intake A). x.tape) others;
        failing = ap (λ (x : Intake A). x.failing) others;
        count = ap (λ (x : Intake A). x.count) others;
        digests = ap (λ (x : Intake A). x.digests.items) others;
      })
      (record {
        number = number;
        inside = omega (arith, below);
        room = room;
        set = set;
        id = ap (λ (x : Intake A). x.id) others;
        root = ap (λ (x : Intake A). x.root) others;
      })
      below (ap (λ (x : Intake A). x.is_drawn) others)

  -- The last of them is taken, behind which all is drawn that the tape gives: m is what the intake keeps between.
  pub last_taken : (m : Intake A) (i : ℕ) → IsStored o e c p session public fields k
      → m ≡ record k { sent = m.sent; is_drawn = false }
      → l ≡ record m { tape = l.tape; drawn = l.drawn; wanted = l.wanted; is_drawn = true }
      → l.drawn ≡ whole_transcript o e c p m.tape m.root m.sent.items → length fields ≡ 3 + i → i + 1 ≡ sent_count p
      → length k.sent.items ≡ sent_count p → length m.sent.items ≡ length k.sent.items
      → m.sent.items ≡ slice_set k.sent.items i (e.element (number_from f))
      → IsStored o e c p session public (fields ++ f ∷ []) l
  last_taken m i s first others given number last room long set =
      let sent : l.sent ≡ m.sent = ap (λ (x : Intake A). x.sent) others in
      let root : l.root ≡ m.root = ap (λ (x : Intake A). x.root) others in
      let tape : m.tape ≡ k.tape = ap (λ (x : Intake A). x.tape) first in
      let drawn : l.is_drawn ≡ true = ap (λ (x : Intake A). x.is_drawn) others in
      stored_last o e c p session public fields f k l i s
      (record {
        public = ap (λ (x : Intake A). x.public.items) others ∙ ap (λ (x : Intake A). x.public.items) first;
        tape = λ h. absurd (let t : true ≡ false = sym drawn ∙ h in cc);
        failing = ap (λ (x : Intake A). x.failing) others ∙ ap (λ (x : Intake A). x.failing) first;
        count = ap (λ (x : Intake A). x.count) others ∙ ap (λ (x : Intake A). x.count) first;
        digests = ap (λ (x : Intake A). x.digests.items) others ∙ ap (λ (x : Intake A). x.digests.items) first;
      })
      (record {
        number = number;
        inside = omega (arith, last);
        room = room;
        set = ap (λ x. x.items) sent ∙ set;
        id = ap (λ (x : Intake A). x.id) others ∙ ap (λ (x : Intake A). x.id) first;
        root = root ∙ ap (λ (x : Intake A). x.root) first;
      })
      last (ap (λ x. length x.items) sent ∙ long ∙ room) drawn
      (given ∙ (λ j. whole_transcript o e c p (tape j) (sym root j) (sym sent j).items))

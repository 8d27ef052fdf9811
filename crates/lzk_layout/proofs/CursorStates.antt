-- Cursors that were pushed bytes, before and after one more.
use Rattle.lzk_profile.specs.Profile.{most_digests}
use Rattle.std.proofs.Common.{◌≡◌, ℕ, ◌+◌, ◌-◌, ◌<◌, ◌≤◌, List, [], ◌∷◌, ◌++◌, length, take, Option, Some, None, Result, Ok, Err, refl, sym, ap, subst, ◌∙◌, arith, inl, inr}
use Rattle.std.specs.Prelude.{◌↔◌, unwrap_or, slice_set}
use Rattle.std.proofs.lemmas.Bool.{cases_lt}
use Rattle.std.proofs.lemmas.List.{length-append, get_or_append_left, get_or_push}
use Rattle.lzk_layout.specs.declared.params.Params.{Params}
use Rattle.lzk_layout.specs.declared.part.ProofPart.{ProofPart}
use Rattle.lzk_layout.specs.declared.part.ProofPart.TheVariants.{Magic, Id, Root, Message, Ldt, Dot, QuadHead, QuadTail, Nonce, Column, Count, Digest}
use Rattle.lzk_layout.specs.declared.fault.Stop.{Stop}
use Rattle.lzk_layout.specs.declared.fault.ProofFault.{ProofFault}
use Rattle.lzk_layout.specs.declared.fault.ProofKind.{ProofKind}
use Rattle.lzk_layout.specs.declared.fault.ProofKind.TheVariants as kinds
use Rattle.lzk_layout.specs.declared.cursor.Reading.{Reading}
use Rattle.lzk_layout.specs.declared.cursor.CursorStep.{CursorStep}
use Rattle.lzk_layout.specs.declared.cursor.CursorStep.TheVariants.{More, Field, Fault}
use Rattle.lzk_layout.specs.Proofs.{flat}
use Rattle.lzk_layout.specs.Files.{AreBytes}
use Rattle.lzk_layout.specs.Fields.{Shape, proof_at, ProofFaultAt}
use Rattle.lzk_layout.specs.Parts.{parts, HasPart}
use Rattle.lzk_layout.specs.Fronts.{next_part, IsUnfinished, IsFront, IsWholeField, IfField}
use Rattle.lzk_layout.specs.Cursors.{CursorState, IsRead, Pushed}
use Rattle.lzk_layout.specs.Readings.{state_of, IsSound, Takes}
use Rattle.lzk_layout.proofs.Faults.{one_fault}
use Rattle.lzk_layout.proofs.PartLaws.{parts_stand}
use Rattle.lzk_layout.proofs.FrontFaults.{front_truncated, front_whole, fault_stays}
use Rattle.lzk_layout.proofs.ReadingLaws.{rest_long, held_more, held_few, sound_more, sound_field}
use Rattle.lzk_layout.proofs.CursorLaws.{Says, says, says_fault, stands_more, stands_field, next_is, offset_is}

-- one byte more
bytes_more : (b : List ℕ) (byte : ℕ) → byte < 256 → AreBytes b → AreBytes (b ++ byte ∷ [])
bytes_more b byte small h k lt =
    elim (cases_lt k (length b)) [
      | inl less ↦ rw (get_or_append_left b (byte ∷ []) 0 k less) (h k less)
      | inr le ↦ rw (get_or_push b byte 0 k (omega (arith, le, lt, length-append b (byte ∷ [])))) small
    ]

none_yet : (s : Shape) (p : Params) → IsUnfinished s (next_part p []) []
unfolding parts
none_yet s p = omega arith

pub new_pushed : (s : Shape) (p : Params) (r : Reading) → r.params ≡ p → r.fields ≡ 0 → r.digests ≡ None → r.held ≡ 0 → Pushed s (state_of None r) p []
new_pushed s p r params fields digests held = record {
  are_bytes = λ k lt. absurd (omega arith);
  lengths = params;
  stands = record {
    fields = [];
    front = subst (λ (k : ℕ). IsFront s p [] [] (take k r.block)) (sym held) (record { are = refl; pass = tt; unfinished = none_yet s p });
    whole_are = fields;
    digests_are = digests;
  };
}

-- ---- behind a fault

module _ (s : Shape) (p : Params) (b : List ℕ) (byte : ℕ) (fault : ProofFault) (r : Reading) (h : Pushed s (state_of (Some fault) r) p b) where
  pub faulty_says : Says s p b byte (Fault fault)
  faulty_says = fault_stays s p b (byte ∷ []) fault h.stands

  pub faulty_pushed : byte < 256 → Pushed s (state_of (Some fault) r) p (b ++ byte ∷ [])
  faulty_pushed small = record { are_bytes = bytes_more b byte small h.are_bytes; lengths = h.lengths; stands = faulty_says }

-- the fault that is kept behind a step
abbrev pub fault_behind : CursorStep → Option ProofFault
fault_behind (Fault fault) = Some fault
fault_behind _ = None

-- ---- behind bytes without one

module _ (s : Shape) (few : s.bytes ≤ 32) (some : 1 ≤ s.bytes) (p : Params) (b : List ℕ) (byte : ℕ) (old new : Reading) (sound : IsSound s old) (h : Pushed s (state_of None old) p b) where
  pub reading_says : (step : CursorStep) → Takes s old byte new step → Says s p b byte step
  reading_says step t = says s few some p b byte old sound h.lengths h.stands new step t

  pub reading_pushed : (step : CursorStep) → byte < 256 → new.params ≡ old.params → Takes s old byte new step → Pushed s (state_of (fault_behind step) new) p (b ++ byte ∷ [])
  reading_pushed More small params t =
      record { are_bytes = bytes_more b byte small h.are_bytes; lengths = params ∙ h.lengths; stands = stands_more s few some p b byte old sound h.lengths h.stands new t }
  reading_pushed (Field part block n) small params t =
      record { are_bytes = bytes_more b byte small h.are_bytes; lengths = params ∙ h.lengths; stands = stands_field s few some p b byte old sound h.lengths h.stands new part block n t }
  reading_pushed (Fault fault) small params t =
      record { are_bytes = bytes_more b byte small h.are_bytes; lengths = params ∙ h.lengths; stands = says_fault s few some p b byte old sound h.lengths h.stands fault t.at t }

-- ---- whole fields

more_parts : (p : Params) (n m : ℕ) (part : ProofPart) → n ≤ m → HasPart p n part → HasPart p m part
more_parts p n m Magic le h = tt
more_parts p n m Id le h = tt
more_parts p n m Root le h = tt
more_parts p n m (Message i) le h = h
more_parts p n m (Ldt i) le h = h
more_parts p n m (Dot i) le h = h
more_parts p n m (QuadHead i) le h = h
more_parts p n m (QuadTail i) le h = h
more_parts p n m (Nonce k) le h = h
more_parts p n m (Column k i) le h = h
more_parts p n m Count le h = tt
more_parts p n m (Digest i) le h = omega (arith, le, h)

pub whole_field : (s : Shape) (old new : Reading) (byte : ℕ) → s.bytes ≤ 32 → 1 ≤ s.bytes → IsSound s old → (step : CursorStep) → Takes s old byte new step
    → IfField step (λ part block n. IsWholeField s old.params part block n)
whole_field s old new byte few some sound More t = tt
whole_field s old new byte few some sound (Fault fault) t = tt
whole_field s old new byte few some sound (Field part block n) t =
    let less : old.held < 32 = held_few s old new byte sound few some part t.is in
    let rest : List ℕ = take old.held old.block in
    let is_f : take n block ≡ rest ++ byte ∷ [] =
    ap (take n) t.block_is ∙ ap (λ (k : ℕ). take k (slice_set old.block old.held byte)) (t.number ∙ sym t.long) ∙ held_more old.block old.held byte less sound.zeros in
    record {
      has = more_parts old.params (unwrap_or old.digests 0) most_digests part sound.few (parts_stand old.params (unwrap_or old.digests 0) old.fields part (sym sound.part ∙ t.is)).1;
      passes = record {
        long = omega (arith, ap length is_f, length-append rest (byte ∷ []), rest_long old.block old.held byte less sound.zeros, t.long);
        right = t.passes;
      };
    }

-- ---- the end

abbrev err : {A : Type 0} → ℕ → ProofKind → Result A Stop
err left kind = Err (record { left = left; kind = kind })

module _ (s : Shape) (p : Params) (b : List ℕ) where
  one_result : (f : ProofFault) → ProofFaultAt s p b f.offset f.kind → (g : ProofFault) → ProofFaultAt s p b g.offset g.kind → f ≡ g
  one_result f h g k =
      let same = one_fault s p b f.offset g.offset f.kind g.kind h k in
      ap (λ (o : ℕ). let x : ProofFault = record { offset = o; kind = f.kind } in x) same.0 ∙ ap (λ (d : ProofKind). let x : ProofFault = record { offset = g.offset; kind = d } in x) same.1

  -- what a call that gives this fault, or none, says of the bytes
  pub result_is_fault : (f : ProofFault) → ProofFaultAt s p b f.offset f.kind → (g : ProofFault) → ◌≡◌ {A = Result (Unit {0}) ProofFault} (Err f) (Err g) ↔ ProofFaultAt s p b g.offset g.kind
  result_is_fault f h g = (
    (λ e. let same : f ≡ g = cc in subst (λ (x : ProofFault). ProofFaultAt s p b x.offset x.kind) same h),
    (λ k. ap (λ (x : ProofFault). let y : Result (Unit {0}) ProofFault = Err x in y) (one_result f h g k)),
  )

  pub result_is_no_file : (f : ProofFault) → ProofFaultAt s p b f.offset f.kind → ◌≡◌ {A = Result (Unit {0}) ProofFault} (Err f) (Ok tt) ↔ ((fault : ProofFault) → ¬ ProofFaultAt s p b fault.offset fault.kind)
  result_is_no_file f h = ((λ e. absurd cc), (λ none. absurd (none f h)))

  no_fault : (fields : List (List ℕ)) → proof_at s p b ≡ Ok fields → (fault : ProofFault) → ¬ ProofFaultAt s p b fault.offset fault.kind
  no_fault fields e fault h = let apart : ◌≡◌ {A = Result (List (List ℕ)) Stop} (Ok fields) (err (length b - fault.offset) fault.kind) = sym e ∙ h.0 in absurd cc

  pub whole_is_no_fault : (fields : List (List ℕ)) → proof_at s p b ≡ Ok fields → (g : ProofFault) → ◌≡◌ {A = Result (Unit {0}) ProofFault} (Ok tt) (Err g) ↔ ProofFaultAt s p b g.offset g.kind
  whole_is_no_fault fields e g = ((λ x. absurd cc), (λ k. absurd (no_fault fields e g k)))

  pub whole_is_file : (fields : List (List ℕ)) → proof_at s p b ≡ Ok fields → ◌≡◌ {A = Result (Unit {0}) ProofFault} (Ok tt) (Ok tt) ↔ ((fault : ProofFault) → ¬ ProofFaultAt s p b fault.offset fault.kind)
  whole_is_file fields e = ((λ x. no_fault fields e), (λ x. refl))

  module _ (few : s.bytes ≤ 32) (some : 1 ≤ s.bytes) (r : Reading) (sound : IsSound s r) (h : Pushed s (state_of None r) p b) where
    abbrev read : IsRead s p b r.fields r.digests (take r.held r.block)
    read = h.stands

    -- the bytes end within this part
    pub ends_within : (part : ProofPart) → r.part ≡ Some part → ProofFaultAt s p b r.offset kinds.Truncated
    ends_within part is =
        let rest : List ℕ = take r.held r.block in
        let e = front_truncated s p b read.fields rest read.front part (next_is s few some p b 0 r sound h.lengths read ∙ is) in
        let at : r.offset ≡ length (flat read.fields) = offset_is s few some p b 0 r sound h.lengths read in
        let long : length b ≡ length (flat read.fields) + length rest = ap length read.front.are ∙ length-append (flat read.fields) rest in
        let left : length rest ≡ length b - r.offset = omega (arith, at, long) in
        (e ∙ ap (λ (n : ℕ). let x : Result (List (List ℕ)) Stop = err n kinds.Truncated in x) left, omega (arith, at, long))

    pub ends_whole : r.part ≡ None → proof_at s p b ≡ Ok read.fields
    ends_whole is = front_whole s p b read.fields (take r.held r.block) read.front (next_is s few some p b 0 r sound h.lengths read ∙ is)

-- ---- the value of a cursor, and its fields

pub opened : (s : Shape) (p : Params) (b : List ℕ) (fault kept : Option ProofFault) (r : Reading) (value : CursorState) → state_of kept r ≡ value → kept ≡ fault → Pushed s value p b → Pushed s (state_of fault r) p b
opened s p b fault kept r value view is h = subst (λ (c : CursorState). Pushed s c p b) (sym (ap (λ (o : Option ProofFault). state_of o r) (sym is) ∙ view)) h

pub closed : (s : Shape) (p : Params) (b : List ℕ) (fault kept : Option ProofFault) (r : Reading) (value : CursorState) → state_of kept r ≡ value → kept ≡ fault → Pushed s (state_of fault r) p b → Pushed s value p b
closed s p b fault kept r value view is h = subst (λ (c : CursorState). Pushed s c p b) (ap (λ (o : Option ProofFault). state_of o r) (sym is) ∙ view) h

pub no_some : {X : Type 0} (o : Option X) → ((x : X) → o ≡ Some x → ⊥) → o ≡ None
no_some None h = refl
no_some (Some x) h = absurd (h x refl)

pub none_behind : (step : CursorStep) → ((x : ProofFault) → step ≡ Fault x → ⊥) → fault_behind step ≡ None
none_behind More h = refl
none_behind (Field part block n) h = refl
none_behind (Fault fault) h = absurd (h fault refl)

-- ---- a byte behind bytes without a fault, by the cursor's value

module _ (s : Shape) (few : s.bytes ≤ 32) (some : 1 ≤ s.bytes) (byte : ℕ) (kept : Option ProofFault) (old new : Reading) (value : CursorState) (view : state_of kept old ≡ value) (none : kept ≡ None)
    (sound : kept ≡ None → IsSound s old) (step : CursorStep) (takes : Takes s old byte new step) where
  pub step_says : (p : Params) (b : List ℕ) → Pushed s value p b → Says s p b byte step
  step_says p b h = reading_says s few some p b byte old new (sound none) (opened s p b None kept old value view none h) step takes

  pub step_pushed : byte < 256 → new.params ≡ old.params → (p : Params) (b : List ℕ) → Pushed s value p b → Pushed s (state_of (fault_behind step) new) p (b ++ byte ∷ [])
  step_pushed small params p b h = reading_pushed s few some p b byte old new (sound none) (opened s p b None kept old value view none h) step small params takes

  -- without a fault it stays sound
  pub step_sound : fault_behind step ≡ None → IsSound s new
  step_sound no_fault = stays step takes no_fault
    where
      stays : (x : CursorStep) → Takes s old byte new x → fault_behind x ≡ None → IsSound s new
      stays More t e = sound_more s old new byte (sound none) few some t
      stays (Field part block n) t e = sound_field s old new byte (sound none) few some part block n t
      stays (Fault fault) t e = absurd cc

  pub step_whole : IfField step (λ part block n. IsWholeField s value.params part block n)
  step_whole =
      subst (λ (q : Params). IfField step (λ part block n. IsWholeField s q part block n)) (ap (λ (c : CursorState). c.params) view) (whole_field s old new byte few some (sound none) step takes)

-- What a byte does to a cursor that was pushed others.
use Rattle.std.proofs.Common.{◌≡◌, ◌≢◌, ℕ, ◌+◌, ◌-◌, ◌<◌, ◌≤◌, Bool, true, false, cond, List, [], ◌∷◌, ◌++◌, length, map, take, replicate, Option, Some, None, Result, Err, refl, sym, ap, subst, ◌∙◌, append_assoc, arith}
use Rattle.std.specs.Prelude.{◌↔◌, slice_get, slice_set, unwrap_or}
use Rattle.std.proofs.lemmas.List.{append-nil, length-append, take_all, map_push}
use Rattle.lzk_layout.specs.declared.params.Params.{Params}
use Rattle.lzk_layout.specs.declared.part.ProofPart.{ProofPart}
use Rattle.lzk_layout.specs.declared.fault.Stop.{Stop}
use Rattle.lzk_layout.specs.declared.fault.ProofFault.{ProofFault}
use Rattle.lzk_layout.specs.declared.fault.ProofKind.{ProofKind}
use Rattle.lzk_layout.specs.declared.fault.ProofKind.TheVariants as kinds
use Rattle.lzk_layout.specs.declared.cursor.Reading.{Reading}
use Rattle.lzk_layout.specs.declared.cursor.CursorStep.{CursorStep}
use Rattle.lzk_layout.specs.declared.cursor.CursorStep.TheVariants.{More, Field, Fault}
use Rattle.lzk_layout.specs.Proofs.{flat}
use Rattle.lzk_layout.specs.Fields.{Sort, magic, plain, element, count, Shape, wrong, proof_at, IsField, AreFields, ProofFaultAt}
use Rattle.lzk_layout.specs.Parts.{sort_of, part_width, field_place}
use Rattle.lzk_layout.specs.Fronts.{digests_in, known_parts, next_part, IsUnfinished, IsFront, IsFaulty, EndsField, EndsNone}
use Rattle.lzk_layout.specs.Cursors.{IsRead}
use Rattle.lzk_layout.specs.Readings.{IsSound, digests_after, TakesMore, TakesField, FailsPart, TakesFault, Takes}
use Rattle.lzk_layout.proofs.FileLaws.{flat-append}
use Rattle.lzk_layout.proofs.Faults.{one_fault}
use Rattle.lzk_layout.proofs.OneProof.{AreFields-append}
use Rattle.lzk_layout.proofs.PartSorts.{all_sorts, take_sorts}
use Rattle.lzk_layout.proofs.FrontLaws.{IsBegun, begun, front_of, front_stops, front_ends}
use Rattle.lzk_layout.proofs.FrontFaults.{fails_at, front_empty, front_is_sound}
use Rattle.lzk_layout.proofs.FrontOrder.{one_front, place_of_field}
use Rattle.lzk_layout.proofs.ReadingLaws.{parts_kept, digests_more, take_next, rest_long, written, held_more, width_some, held_few}

-- ---- what a byte ends

-- what a step says of this byte behind these
abbrev pub Says : Shape → Params → List ℕ → ℕ → CursorStep → Type 0
Says s p b byte More = EndsNone s p b byte
Says s p b byte (Field part block n) = EndsField s p b byte part block n
Says s p b byte (Fault fault) = IsFaulty s p (b ++ byte ∷ []) fault

module _ (s : Shape) (p : Params) (b : List ℕ) (byte : ℕ) where
  abbrev all : List ℕ
  all = b ++ byte ∷ []

  same_fault : (f g : ProofFault) → ProofFaultAt s p all f.offset f.kind → ProofFaultAt s p all g.offset g.kind → f ≡ g
  same_fault f g h k =
      let same = one_fault s p all f.offset g.offset f.kind g.kind h k in
      ap (λ (o : ℕ). let x : ProofFault = record { offset = o; kind = f.kind } in x) same.0 ∙ ap (λ (d : ProofKind). let x : ProofFault = record { offset = g.offset; kind = d } in x) same.1

  none_or_field : (part : ProofPart) (block : List ℕ) (n : ℕ) → EndsNone s p b byte → EndsField s p b byte part block n → ⊥
  none_or_field part block n h k =
      let before = one_front s p b h.fields k.fields h.rest k.rest h.before k.before in
      let after = one_front s p all h.fields (k.fields ++ (k.rest ++ byte ∷ []) ∷ []) (h.rest ++ byte ∷ []) [] h.after k.after in
      omega (arith, ap length before.0, ap length after.0, length-append k.fields ((k.rest ++ byte ∷ []) ∷ []))

  one_field : (part part' : ProofPart) (block block' : List ℕ) (n n' : ℕ) → EndsField s p b byte part block n → EndsField s p b byte part' block' n' → ◌≡◌ {A = CursorStep} (Field part block n) (Field part' block' n')
  one_field part part' block block' n n' h k =
      let same = one_front s p b h.fields k.fields h.rest k.rest h.before k.before in
      let numbers : n ≡ n' = h.number ∙ ap (λ (r : List ℕ). length r + 1) same.1 ∙ sym k.number in
      let blocks : block ≡ block' = h.is ∙ ap (λ (r : List ℕ). (r ++ byte ∷ []) ++ replicate (32 - n) 0) same.1 ∙ ap (λ (m : ℕ). (k.rest ++ byte ∷ []) ++ replicate (32 - m) 0) numbers ∙ sym k.is in
      let nexts : ◌≡◌ {A = Option ProofPart} (Some part) (Some part') = sym h.next ∙ ap (next_part p) same.0 ∙ k.next in
      let parts : part ≡ part' = cc in
      cc

  -- one step alone says what is so
  pub one_step : (x y : CursorStep) → Says s p b byte x → Says s p b byte y → x ≡ y
  one_step More More h k = refl
  one_step More (Field part block n) h k = absurd (none_or_field part block n h k)
  one_step More (Fault fault) h k = absurd (front_is_sound s p all h.fields (h.rest ++ byte ∷ []) fault h.after k)
  one_step (Field part block n) More h k = absurd (none_or_field part block n k h)
  one_step (Field part block n) (Field part' block' n') h k = one_field part part' block block' n n' h k
  one_step (Field part block n) (Fault fault) h k = absurd (front_is_sound s p all (h.fields ++ (h.rest ++ byte ∷ []) ∷ []) [] fault h.after k)
  one_step (Fault fault) More h k = absurd (front_is_sound s p all k.fields (k.rest ++ byte ∷ []) fault k.after h)
  one_step (Fault fault) (Field part block n) h k = absurd (front_is_sound s p all (k.fields ++ (k.rest ++ byte ∷ []) ∷ []) [] fault k.after h)
  one_step (Fault f) (Fault g) h k = let same : f ≡ g = same_fault f g h.0 k.0 in ap (λ (x : ProofFault). let y : CursorStep = Fault x in y) same

  pub step_is : (x y : CursorStep) → Says s p b byte x → x ≡ y ↔ Says s p b byte y
  step_is x y h = ((λ e. subst (λ (z : CursorStep). Says s p b byte z) e h), (λ k. one_step x y h k))

-- ---- a reading of bytes without a fault

chosen : (t : Bool) (k kind : ProofKind) → k ≢ kinds.Truncated → ◌≡◌ {A = Option ProofKind} (cond t None (Some k)) (Some kind) → kind ≢ kinds.Truncated
chosen true k kind other e = absurd cc
chosen false k kind other e = λ z. let same : k ≡ kind = cc in other (same ∙ z)

-- a whole field does not end too soon
wrong_kind : (s : Shape) (x : Sort) (f : List ℕ) (kind : ProofKind) → wrong s x f ≡ Some kind → kind ≢ kinds.Truncated
unfolding wrong
wrong_kind s magic f kind e = chosen _ kinds.Magic kind (λ z. cc) e
wrong_kind s plain f kind e = absurd cc
wrong_kind s element f kind e = chosen _ kinds.Element kind (λ z. cc) e
wrong_kind s count f kind e = chosen _ kinds.PathLimit kind (λ z. cc) e

abbrev err : {A : Type 0} → ℕ → ProofKind → Result A Stop
err left kind = Err (record { left = left; kind = kind })

module _ (s : Shape) (few : s.bytes ≤ 32) (some : 1 ≤ s.bytes) (p : Params) (b : List ℕ) (byte : ℕ) (r : Reading) (sound : IsSound s r)
    (params_are : r.params ≡ p) (read : IsRead s p b r.fields r.digests (take r.held r.block)) where
  abbrev whole : List ℕ
  whole = b ++ byte ∷ []

  abbrev fields : List (List ℕ)
  fields = read.fields

  abbrev rest : List ℕ
  rest = take r.held r.block

  abbrev f : List ℕ
  f = rest ++ byte ∷ []

  abbrev begin : IsBegun s p b fields rest
  begin = begun s p b fields rest read.front

  pub next_is : next_part p fields ≡ r.part
  next_is =
      sym (sound.part
      ∙ ap (λ (q : Params). slice_get (known_parts q r.digests) r.fields) params_are
      ∙ ap (λ (d : Option ℕ). slice_get (known_parts p d) r.fields) read.digests_are
      ∙ ap (slice_get (known_parts p (digests_in p fields))) read.whole_are)

  more_begun : IsBegun s p whole fields f
  more_begun = record { are = ap (λ (bs : List ℕ). bs ++ byte ∷ []) begin.are ∙ append_assoc (flat fields) rest (byte ∷ []); pass = begin.pass }

  pub offset_is : r.offset ≡ length (flat fields)
  offset_is =
      sound.offset
      ∙ ap (λ (q : Params). field_place s q (unwrap_or r.digests 0) r.fields) params_are
      ∙ ap (λ (d : Option ℕ). field_place s p (unwrap_or d 0) r.fields) read.digests_are
      ∙ ap (field_place s p (unwrap_or (digests_in p fields) 0)) read.whole_are
      ∙ sym (place_of_field s p b fields rest (length fields) begin (omega arith))
      ∙ ap (λ (fs : List (List ℕ)). length (flat fs)) (take_all (length fields) fields (omega arith))

  -- how many bytes there are
  whole_long : length whole ≡ length (flat fields) + length f
  whole_long = ap length more_begun.are ∙ length-append (flat fields) f

  -- ---- one more of an unfinished field

  module _ (new : Reading) (t : TakesMore s r byte new) where
    less : r.held < 32
    less = held_few s r new byte sound few some t.part t.is

    long : length f ≡ r.held + 1
    long = omega (arith, length-append rest (byte ∷ []), rest_long r.block r.held byte less sound.zeros)

    after : IsFront s p whole fields f
    after = front_of s p whole fields f more_begun (subst (λ (o : Option ProofPart). IsUnfinished s o f) (sym (next_is ∙ t.is)) (omega (arith, long, t.short)))

    pub says_more : EndsNone s p b byte
    says_more = record { fields = fields; rest = rest; before = read.front; after = after }

    pub stands_more : IsRead s p whole new.fields new.digests (take new.held new.block)
    stands_more =
        subst (λ (n : Reading). IsRead s p whole n.fields n.digests (take n.held n.block)) (sym t.new_is)
        (record {
          fields = fields;
          front = subst (λ (bs : List ℕ). IsFront s p whole fields bs) (sym (held_more r.block r.held byte less sound.zeros)) after;
          whole_are = read.whole_are;
          digests_are = read.digests_are;
        })

  -- ---- a field that passes

  module _ (new : Reading) (part : ProofPart) (block : List ℕ) (n : ℕ) (t : TakesField s r byte new part block n) where
    under : r.held < 32
    under = held_few s r new byte sound few some part t.is

    abbrev more : List (List ℕ)
    more = fields ++ f ∷ []

    long_f : length f ≡ r.held + 1
    long_f = omega (arith, length-append rest (byte ∷ []), rest_long r.block r.held byte under sound.zeros)

    is_f : take n block ≡ f
    is_f =
        ap (take n) t.block_is ∙ ap (λ (k : ℕ). take k (slice_set r.block r.held byte)) (t.number ∙ sym t.long) ∙ held_more r.block r.held byte under sound.zeros

    next : next_part p fields ≡ Some part
    next = next_is ∙ t.is

    passes : IsField s (sort_of part) f
    passes = record { long = omega (arith, long_f, t.long); right = ap (wrong s (sort_of part)) (sym is_f) ∙ t.passes }

    known_more : digests_in p more ≡ digests_after (digests_in p fields) part f
    known_more = digests_more p fields f part next

    counted : length more ≡ length fields + 1
    counted = length-append fields (f ∷ [])

    more_sorts : take (length fields) (all_sorts p (unwrap_or (digests_in p fields) 0)) ++ sort_of part ∷ [] ≡ take (length more) (all_sorts p (unwrap_or (digests_in p more) 0))
    more_sorts =
        let d : Option ℕ = digests_after (digests_in p fields) part f in
        let k : ℕ = length fields in
        let kept = parts_kept p (digests_in p fields) f k part next in
        sym (ap (λ (e : Option ℕ). take (length more) (all_sorts p (unwrap_or e 0))) known_more
        ∙ ap (λ (j : ℕ). take j (all_sorts p (unwrap_or d 0))) counted
        ∙ sym (take_sorts p (unwrap_or d 0) (k + 1))
        ∙ ap (map sort_of) (take_next (known_parts p d) k part kept.1)
        ∙ map_push sort_of (take k (known_parts p d)) part
        ∙ ap (λ (xs : List ProofPart). map sort_of xs ++ sort_of part ∷ []) kept.0
        ∙ ap (λ (ss : List Sort). ss ++ sort_of part ∷ []) (take_sorts p (unwrap_or (digests_in p fields) 0) k))

    field_begun : IsBegun s p whole more []
    field_begun = record {
      are = more_begun.are ∙ sym (append-nil (flat fields ++ f)) ∙ append_assoc (flat fields) f [] ∙ sym (flat-append fields (f ∷ [])) ∙ sym (append-nil (flat more));
      pass = subst (λ (ss : List Sort). AreFields s ss more) more_sorts
          (AreFields-append s (take (length fields) (all_sorts p (unwrap_or (digests_in p fields) 0))) (sort_of part ∷ []) fields (f ∷ []) begin.pass (passes, tt));
    }

    starts : (o : Option ProofPart) → IsUnfinished s o []
    starts None = refl
    starts (Some x) = width_some s (sort_of x) some

    after_f : IsFront s p whole more []
    after_f = front_of s p whole more [] field_begun (starts (next_part p more))

    pub says_field : EndsField s p b byte part block n
    says_field = record {
      fields = fields;
      rest = rest;
      before = read.front;
      next = next;
      after = after_f;
      number = omega (arith, t.number, t.long, rest_long r.block r.held byte under sound.zeros);
      is = t.block_is ∙ written r.block r.held byte under sound.zeros ∙ ap (λ (k : ℕ). f ++ replicate (32 - k) 0) (t.long ∙ sym t.number);
    }

    pub stands_field : IsRead s p whole new.fields new.digests (take new.held new.block)
    stands_field =
        subst (λ (x : Reading). IsRead s p whole x.fields x.digests (take x.held x.block)) (sym t.new_is)
        (record {
          fields = more;
          front = after_f;
          whole_are = ap (λ (k : ℕ). k + 1) read.whole_are ∙ sym counted;
          digests_are = ap (digests_after r.digests part) is_f ∙ ap (λ (d : Option ℕ). digests_after d part f) read.digests_are ∙ sym known_more;
        })

  -- ---- a fault

  module _ (fault : ProofFault) (at : fault.offset ≡ r.offset) where
    fault_at : (left : ℕ) → proof_at s p whole ≡ err left fault.kind → left ≡ length f → ProofFaultAt s p whole fault.offset fault.kind
    fault_at left e same =
        let back : left ≡ length whole - fault.offset = omega (arith, whole_long, at, offset_is) in
        (e ∙ ap (λ (n : ℕ). let x : Result (List (List ℕ)) Stop = err n fault.kind in x) back, omega (arith, whole_long, at, offset_is))

    fails : (o : Option ProofPart) → r.part ≡ o → FailsPart s r byte fault.kind o → IsFaulty s p whole fault
    fails None is kind =
        let none : next_part p fields ≡ None = next_is ∙ is in
        let empty : rest ≡ [] = front_empty s p b fields rest read.front none in
        let last : f ≡ byte ∷ [] = ap (λ (bs : List ℕ). bs ++ byte ∷ []) empty in
        let ends : proof_at s p whole ≡ err 1 kinds.Trailing = front_ends s p whole fields (byte ∷ []) (subst (λ (bs : List ℕ). IsBegun s p whole fields bs) last more_begun) none in (
          fault_at 1 (ends ∙ ap (λ (k : ProofKind). let x : Result (List (List ℕ)) Stop = err 1 k in x) (sym kind)) (sym (ap length last)),
          λ z. let apart : kinds.Trailing ≡ kinds.Truncated = sym kind ∙ z in absurd cc,
        )
    fails (Some part) is h =
        let few' : r.held < 32 = held_few s r r byte sound few some part is in
        let same : take (r.held + 1) (slice_set r.block r.held byte) ≡ f = held_more r.block r.held byte few' sound.zeros in
        let wrong_f : wrong s (sort_of part) f ≡ Some fault.kind = ap (wrong s (sort_of part)) (sym same) ∙ h.1 in
        let long : length f ≡ r.held + 1 = omega (arith, length-append rest (byte ∷ []), rest_long r.block r.held byte few' sound.zeros) in
        let all_of : take (part_width s part) f ≡ f = take_all (part_width s part) f (omega (arith, long, h.0)) in
        let stops = fails_at s (sort_of part) f fault.kind (omega (arith, long, h.0)) (ap (wrong s (sort_of part)) all_of ∙ wrong_f) in (
          fault_at (length f) (front_stops s p whole fields f more_begun part (record { left = length f; kind = fault.kind }) (next_is ∙ is) stops) refl,
          wrong_kind s (sort_of part) f fault.kind wrong_f,
        )

    pub says_fault : TakesFault s r byte fault → IsFaulty s p whole fault
    says_fault t = fails r.part refl t.fails

  -- ---- any step

  pub says : (new : Reading) (step : CursorStep) → Takes s r byte new step → Says s p b byte step
  says new More t = says_more new t
  says new (Field part block n) t = says_field new part block n t
  says new (Fault fault) t = says_fault fault t.at t

-- What a sound reading becomes.
use Rattle.lzk_profile.specs.Profile.{most_digests}
use Rattle.std.proofs.Common.{◌≡◌, ◌≢◌, ◌⊎◌, ℕ, suc, ◌+◌, ◌-◌, ◌*◌, ◌<◌, ◌≤◌, Bool, true, false, cond, nat_le, List, [], ◌∷◌, ◌++◌, length, take, replicate, Option, Some, None, MatchOption, refl, sym, ap, subst, ◌∙◌, append_assoc, arith, inl, inr}
use Rattle.std.specs.Prelude.{slice_get, slice_set, option_map, unwrap_or}
use Rattle.std.specs.List.{sum_by}
use Rattle.std.specs.Int.{w32, from_le_bytes}
use Rattle.std.proofs.lemmas.Bool.{cases_lt, leb-true}
use Rattle.std.proofs.lemmas.List.{length-take, length-append, length-replicate, set_at, take_at, take_more}
use Rattle.std.proofs.lemmas.List.Sums.{sum_by-cons, sum_by_push}
use Rattle.std.proofs.lemmas.Option.{slice_get_within, slice_get_past, get_or_from_slice_get}
use Rattle.lzk_layout.specs.declared.params.Params.{Params}
use Rattle.lzk_layout.specs.declared.part.ProofPart.{ProofPart}
use Rattle.lzk_layout.specs.declared.part.ProofPart.TheVariants.{Magic, Id, Root, Message, Ldt, Dot, QuadHead, QuadTail, Nonce, Column, Count, Digest}
use Rattle.lzk_layout.specs.declared.fault.ProofKind.{ProofKind}
use Rattle.lzk_layout.specs.declared.fault.ProofKind.TheVariants as kinds
use Rattle.lzk_layout.specs.declared.fault.ProofFault.{ProofFault}
use Rattle.lzk_layout.specs.declared.cursor.Reading.{Reading}
use Rattle.lzk_layout.specs.Sizes.{AreBounded}
use Rattle.lzk_layout.specs.Fields.{Sort, magic, plain, element, count, Shape, width, wrong}
use Rattle.lzk_layout.specs.Parts.{sort_of, part_width, parts, field_place, before_count, number_of}
use Rattle.lzk_layout.specs.Fronts.{digests_in, known_parts, next_part}
use Rattle.lzk_layout.specs.Readings.{IsSound, digests_after, passed, TakesMore, TakesField, TakesFault, FailsPart}
use Rattle.lzk_layout.proofs.PartLaws.{get_front, get_behind, parts_stand}
use Rattle.lzk_layout.proofs.PartSorts.{length-parts, count_stands, early_parts, early_take}

-- ---- places are few

pub width_few : (s : Shape) (x : Sort) → s.bytes ≤ 32 → width s x ≤ 32
width_few s magic few = omega arith
width_few s plain few = omega arith
width_few s element few = few
width_few s count few = omega arith

places_few : (s : Shape) (xs : List ProofPart) → s.bytes ≤ 32 → sum_by (part_width s) xs ≤ 32 * length xs
places_few s [] few = omega arith
places_few s (x ∷ xs) few =
    let one = width_few s (sort_of x) few in
    let others = places_few s xs few in
    omega (arith, one, others, sum_by-cons (part_width s) x xs)

count_few : (p : Params) → AreBounded p → before_count p ≤ 200000
count_few p b = omega (arith, b.block, b.dblock, b.wr, b.nrow, b.nsum)

module _ (s : Shape) (r : Reading) (part : ProofPart) (sound : IsSound s r) (few : s.bytes ≤ 32) (next : r.part ≡ Some part) where
  within : r.fields < length (known_parts r.params r.digests)
  within = slice_get_within (known_parts r.params r.digests) r.fields part (sym sound.part ∙ next)

  pub fields_few : r.fields ≤ 220000
  fields_few = omega (arith, within, length-parts r.params (unwrap_or r.digests 0), count_few r.params sound.bounded, sound.few)

  pub offset_few : r.offset ≤ 7040000
  offset_few =
      let all = places_few s (take r.fields (known_parts r.params r.digests)) few in
      omega (arith, all, sound.offset, length-take r.fields (known_parts r.params r.digests), fields_few)

-- ---- the parts that are known behind a field

-- a part is the number of digests, or a field of it leaves the number as it was
abbrev Known : Option ℕ → List ℕ → ProofPart → Type 0
Known digests f part = (part ≡ Count) ⊎ ((part ≢ Count) × (digests_after digests part f ≡ digests))

is_known : (digests : Option ℕ) (f : List ℕ) (part : ProofPart) → Known digests f part
is_known digests f Magic = inr ((λ e. cc), refl)
is_known digests f Id = inr ((λ e. cc), refl)
is_known digests f Root = inr ((λ e. cc), refl)
is_known digests f (Message i) = inr ((λ e. cc), refl)
is_known digests f (Ldt i) = inr ((λ e. cc), refl)
is_known digests f (Dot i) = inr ((λ e. cc), refl)
is_known digests f (QuadHead i) = inr ((λ e. cc), refl)
is_known digests f (QuadTail i) = inr ((λ e. cc), refl)
is_known digests f (Nonce k) = inr ((λ e. cc), refl)
is_known digests f (Column k i) = inr ((λ e. cc), refl)
is_known digests f Count = inl refl
is_known digests f (Digest i) = inr ((λ e. cc), refl)

-- the number of digests stands at one place alone
count_place : (p : Params) (n k : ℕ) (part : ProofPart) → slice_get (parts p n) k ≡ Some part → part ≡ Count → k ≡ before_count p
count_place p n k part e same = (parts_stand p n k part e).0 ∙ ap (number_of p) same

place_count : (p : Params) (n k : ℕ) (part : ProofPart) → slice_get (parts p n) k ≡ Some part → k ≡ before_count p → part ≡ Count
place_count p n k part e at = let both : ◌≡◌ {A = Option ProofPart} (Some part) (Some Count) = sym e ∙ count_stands p n k at in cc

-- the parts up to this one stay
pub parts_kept : (p : Params) (digests : Option ℕ) (f : List ℕ) (k : ℕ) (part : ProofPart) → slice_get (known_parts p digests) k ≡ Some part
    → (take k (known_parts p (digests_after digests part f)) ≡ take k (known_parts p digests)) × (slice_get (known_parts p (digests_after digests part f)) k ≡ Some part)
parts_kept p digests f k part e =
    elim (is_known digests f part) [
      | inl same ↦
          let at : k ≡ before_count p = count_place p (unwrap_or digests 0) k part e same in (
            early_take p (unwrap_or (digests_after digests part f) 0) (unwrap_or digests 0) k (omega arith),
            early_parts p (unwrap_or (digests_after digests part f) 0) (unwrap_or digests 0) k (omega arith) ∙ e,
          )
      | inr other ↦ (ap (λ (d : Option ℕ). take k (known_parts p d)) other.1, ap (λ (d : Option ℕ). slice_get (known_parts p d) k) other.1 ∙ e)
    ]

-- the number of digests in one field more
pub digests_more : (p : Params) (fields : List (List ℕ)) (f : List ℕ) (part : ProofPart) → next_part p fields ≡ Some part
    → digests_in p (fields ++ f ∷ []) ≡ digests_after (digests_in p fields) part f
digests_more p fields f part e =
    elim (is_known (digests_in p fields) f part) [
      | inl same ↦
          let at : length fields ≡ before_count p = count_place p (unwrap_or (digests_in p fields) 0) (length fields) part e same in
          ap (option_map (from_le_bytes w32)) (get_behind fields (f ∷ []) (before_count p) (before_count p) 0 at (omega arith)) ∙ sym (ap (λ (x : ProofPart). digests_after (digests_in p fields) x f) same)
      | inr other ↦
          ap (option_map (from_le_bytes w32)) (elsewhere (λ at. other.0 (place_count p (unwrap_or (digests_in p fields) 0) (length fields) part e at))) ∙ sym other.1
    ]
  where
    elsewhere : length fields ≢ before_count p → slice_get (fields ++ f ∷ []) (before_count p) ≡ slice_get fields (before_count p)
    elsewhere apart =
        elim (cases_lt (before_count p) (length fields)) [
          | inl lt ↦ get_front fields (f ∷ []) (before_count p) lt
          | inr le ↦
              let past : length fields < before_count p = omega (arith, le, apart) in
              slice_get_past (fields ++ f ∷ []) (before_count p) (omega (arith, past, length-append fields (f ∷ []))) ∙ sym (slice_get_past fields (before_count p) le)
        ]

pub take_next : {X : Type 0} (xs : List X) (k : ℕ) (x : X) → slice_get xs k ≡ Some x → take (k + 1) xs ≡ take k xs ++ x ∷ []
take_next xs k x e = take_more xs k x (slice_get_within xs k x e) ∙ ap (λ y. take k xs ++ y ∷ []) (get_or_from_slice_get xs k x x e)

-- ---- the block

module _ (block : List ℕ) (held byte : ℕ) (less : held < 32) (zeros : block ≡ take held block ++ replicate (32 - held) 0) where
  abbrev rest : List ℕ
  rest = take held block

  pub rest_long : length rest ≡ held
  rest_long = omega (arith, length-take held block, ap length zeros, length-append rest (replicate (32 - held) 0), length-replicate {A = ℕ} (32 - held) 0)

  one_zero : replicate {A = ℕ} (32 - held) 0 ≡ 0 ∷ replicate {A = ℕ} (32 - (held + 1)) 0
  one_zero = let e : 32 - held ≡ suc (32 - (held + 1)) = omega arith in ap (λ (n : ℕ). replicate {A = ℕ} n 0) e

  pub written : slice_set block held byte ≡ (rest ++ byte ∷ []) ++ replicate (32 - (held + 1)) 0
  written =
      let later : List ℕ = replicate (32 - (held + 1)) 0 in
      ap (λ (xs : List ℕ). slice_set xs held byte) (zeros ∙ ap (λ (xs : List ℕ). rest ++ xs) one_zero) ∙ set_at rest 0 later byte held rest_long ∙ sym (append_assoc rest (byte ∷ []) later)

  -- all that a field's width cuts off it is there
  pub cut_long : (n : ℕ) → n ≤ 32 → length (take n (slice_set block held byte)) ≡ n
  cut_long n few =
      omega (arith, less, few, rest_long, length-take n (slice_set block held byte), ap length written, length-append (rest ++ byte ∷ []) (replicate (32 - (held + 1)) 0), length-append rest (byte ∷ []), length-replicate {A = ℕ} (32 - (held + 1)) 0)

  pub held_more : take (held + 1) (slice_set block held byte) ≡ rest ++ byte ∷ []
  held_more = ap (take (held + 1)) written ∙ take_at (rest ++ byte ∷ []) (replicate (32 - (held + 1)) 0) (held + 1) (omega (arith, length-append rest (byte ∷ []), rest_long))

-- ---- what a byte does

-- no byte comes behind the last part
pub takes_trailing : (s : Shape) (old : Reading) (byte : ℕ) (fault : ProofFault) → old.part ≡ None → fault ≡ record { offset = old.offset; kind = kinds.Trailing } → TakesFault s old byte fault
takes_trailing s old byte fault none is = record {
  at = ap (λ (f : ProofFault). f.offset) is;
  fails = subst (λ (o : Option ProofPart). FailsPart s old byte fault.kind o) (sym none) (ap (λ (f : ProofFault). f.kind) is);
}

module _ (s : Shape) (old : Reading) (byte end : ℕ) (part : ProofPart) (is : old.part ≡ Some part) (long : end ≡ part_width s part) (held_end : old.held + 1 ≡ end) where
  abbrev read : List ℕ
  read = slice_set old.block old.held byte

  -- the field that the byte ends fails its check
  pub takes_wrong : (kind : ProofKind) (fault : ProofFault) → wrong s (sort_of part) (take end read) ≡ Some kind → fault ≡ record { offset = old.offset; kind = kind } → TakesFault s old byte fault
  takes_wrong kind fault fails fault_is =
      let same : fault.kind ≡ kind = ap (λ (f : ProofFault). f.kind) fault_is in
      let failed : wrong s (sort_of part) (take (old.held + 1) read) ≡ Some fault.kind = ap (λ (n : ℕ). wrong s (sort_of part) (take n read)) held_end ∙ fails ∙ ap (λ (k : ProofKind). Some k) (sym same) in
      record {
        at = ap (λ (f : ProofFault). f.offset) fault_is;
        fails = subst (λ (o : Option ProofPart). FailsPart s old byte fault.kind o) (sym is) (held_end ∙ long, failed);
      }

-- ---- it stays sound

pub width_some : (s : Shape) (x : Sort) → 1 ≤ s.bytes → 1 ≤ width s x
width_some s magic some = omega arith
width_some s plain some = omega arith
width_some s element some = some
width_some s count some = omega arith

none_held : (s : Shape) (o : Option ProofPart) → 1 ≤ s.bytes → MatchOption o (◌≡◌ {A = ℕ} 0 0) (λ part. 0 < part_width s part)
none_held s None some = refl
none_held s (Some part) some = width_some s (sort_of part) some

few_count : (s : Shape) (f : List ℕ) → wrong s count f ≡ None → from_le_bytes w32 f ≤ most_digests
unfolding wrong
few_count s f e = leb-true (from_le_bytes w32 f) most_digests (none_true (nat_le (from_le_bytes w32 f) most_digests) e)
  where
    none_true : (b : Bool) → ◌≡◌ {A = Option ProofKind} (cond b None (Some kinds.PathLimit)) None → b ≡ true
    none_true true h = refl
    none_true false h = absurd cc

digests_few : (s : Shape) (digests : Option ℕ) (part : ProofPart) (f : List ℕ) → unwrap_or digests 0 ≤ most_digests → wrong s (sort_of part) f ≡ None → unwrap_or (digests_after digests part f) 0 ≤ most_digests
digests_few s digests part f few e =
    elim (is_known digests f part) [
      | inl same ↦
          let passes : wrong s count f ≡ None = sym (ap (λ (x : ProofPart). wrong s (sort_of x) f) same) ∙ e in
          subst (λ (x : ProofPart). unwrap_or (digests_after digests x f) 0 ≤ most_digests) (sym same) (few_count s f passes)
      | inr other ↦ subst (λ (d : Option ℕ). unwrap_or d 0 ≤ most_digests) (sym other.1) few
    ]

module _ (s : Shape) (old new : Reading) (byte : ℕ) (sound : IsSound s old) (few : s.bytes ≤ 32) (some : 1 ≤ s.bytes) where
  -- how many bytes are held, where a part is read
  pub held_less : (part : ProofPart) → old.part ≡ Some part → old.held < part_width s part
  held_less part is = subst (λ (o : Option ProofPart). MatchOption o (old.held ≡ 0) (λ x. old.held < part_width s x)) is sound.held

  pub held_few : (part : ProofPart) → old.part ≡ Some part → old.held < 32
  held_few part is = omega (arith, held_less part is, width_few s (sort_of part) few)

  pub sound_more : TakesMore s old byte new → IsSound s new
  sound_more t =
      let less : old.held < 32 = held_few t.part t.is in
      let made : Reading = record old { held = old.held + 1; block = slice_set old.block old.held byte } in
      let here : IsSound s made = record {
        bounded = sound.bounded;
        few = sound.few;
        part = sound.part;
        offset = sound.offset;
        held = subst (λ (o : Option ProofPart). MatchOption o (old.held + 1 ≡ 0) (λ x. old.held + 1 < part_width s x)) (sym t.is) t.short;
        zeros = written old.block old.held byte less sound.zeros ∙ ap (λ (xs : List ℕ). xs ++ replicate (32 - (old.held + 1)) 0) (sym (held_more old.block old.held byte less sound.zeros));
      } in
      subst (λ (r : Reading). IsSound s r) (sym t.new_is) here

  pub sound_field : (part : ProofPart) (block : List ℕ) (n : ℕ) → TakesField s old byte new part block n → IsSound s new
  sound_field part block n t =
      let f : List ℕ = take n block in
      let digests : Option ℕ = digests_after old.digests part f in
      let next : slice_get (known_parts old.params old.digests) old.fields ≡ Some part = sym sound.part ∙ t.is in
      let kept = parts_kept old.params old.digests f old.fields part next in
      let place : field_place s old.params (unwrap_or digests 0) (old.fields + 1) ≡ old.offset + n =
      ap (sum_by (part_width s)) (take_next (known_parts old.params digests) old.fields part kept.1) ∙ sum_by_push (part_width s) (take old.fields (known_parts old.params digests)) part
      ∙ ap (λ (xs : List ProofPart). sum_by (part_width s) xs + part_width s part) kept.0 ∙ ap (λ (k : ℕ). k + part_width s part) (sym sound.offset) ∙ ap (λ (k : ℕ). old.offset + k) (sym t.number) in
      let here : IsSound s (passed old part block n) = record {
        bounded = sound.bounded;
        few = digests_few s old.digests part f sound.few t.passes;
        part = refl;
        offset = sym place;
        held = none_held s (slice_get (known_parts old.params digests) (old.fields + 1)) some;
        zeros = refl;
      } in
      subst (λ (r : Reading). IsSound s r) (sym t.new_is) here

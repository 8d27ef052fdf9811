-- Bytes have one front, and more bytes have a front with more fields.
use Rattle.std.proofs.Common.{◌≡◌, ℕ, zero, suc, ◌+◌, ◌<◌, ◌≤◌, List, [], ◌∷◌, ◌++◌, length, map, take, drop, get_or, Option, Some, refl, sym, ap, subst, ◌∙◌, append_assoc, arith, inl, inr}
use Rattle.std.specs.Prelude.{slice_get, option_map, unwrap_or}
use Rattle.std.specs.List.{sum_by}
use Rattle.std.specs.Int.{w32, from_le_bytes}
use Rattle.std.proofs.lemmas.Bool.{cases_lt}
use Rattle.std.proofs.lemmas.List.{append_cancel_left, length-append, length-take, take_all, take-take, take-append-drop, take_at, drop_at, drop_more}
use Rattle.std.proofs.lemmas.List.Sums.{sum_by-cons}
use Rattle.std.proofs.lemmas.Option.{slice_get-get_or}
use Rattle.lzk_layout.specs.declared.params.Params.{Params}
use Rattle.lzk_layout.specs.declared.part.ProofPart.{ProofPart}
use Rattle.lzk_layout.specs.declared.part.ProofPart.TheVariants.{Magic}
use Rattle.lzk_layout.specs.Proofs.{flat}
use Rattle.lzk_layout.specs.Fields.{Sort, Shape, width, IsField, AreFields}
use Rattle.lzk_layout.specs.Parts.{sort_of, part_width, parts, field_place, before_count}
use Rattle.lzk_layout.specs.Fronts.{digests_in, known_parts, next_part, IsFront, OneFront, FrontGrows, FieldsStand}
use Rattle.lzk_layout.proofs.FileLaws.{flat-append}
use Rattle.lzk_layout.proofs.OneProof.{front_same}
use Rattle.lzk_layout.proofs.PartSorts.{count_sorts, all_sorts, length-all_sorts, length-parts, early_parts, sort_at, first_sorts, take_sorts}
use Rattle.lzk_layout.proofs.FrontLaws.{IsBegun, begun, fields_long}
use Rattle.lzk_layout.proofs.FrontFaults.{front_short}

-- ---- fields of the same sorts

pub fields_front : (s : Shape) (ss : List Sort) (fs : List (List ℕ)) (j : ℕ) → AreFields s ss fs → AreFields s (take j ss) (take j fs)
fields_front s ss fs zero h = tt
fields_front s [] [] (suc j) h = tt
fields_front s [] (f ∷ fs) (suc j) h = absurd h
fields_front s (x ∷ ss) [] (suc j) h = absurd h
fields_front s (x ∷ ss) (f ∷ fs) (suc j) h = (h.0, fields_front s ss fs j h.1)

-- the first fields of equal bytes are equal
same_fields : (s : Shape) (ss : List Sort) (fs gs : List (List ℕ)) (x y : List ℕ) → AreFields s (take (length fs) ss) fs → AreFields s (take (length gs) ss) gs
    → flat fs ++ x ≡ flat gs ++ y → length fs ≤ length gs → fs ≡ take (length fs) gs
same_fields s ss [] gs x y h k e le = refl
same_fields s ss (f ∷ fs) [] x y h k e le = absurd (omega arith)
same_fields s [] (f ∷ fs) (g ∷ gs) x y h k e le = absurd h
same_fields s (t ∷ ss) (f ∷ fs) (g ∷ gs) x y h k e le =
    let long : length f ≡ length g = h.0.long ∙ sym k.0.long in
    let both = front_same f g (flat fs ++ x) (flat gs ++ y) long (sym (append_assoc f (flat fs) x) ∙ e ∙ append_assoc g (flat gs) y) in
    let others : fs ≡ take (length fs) gs = same_fields s ss fs gs x y h.1 k.1 both.1 (omega arith) in
    ap (λ (z : List ℕ). z ∷ fs) both.0 ∙ ap (λ (zs : List (List ℕ)). g ∷ zs) others

field_of : (s : Shape) (ss : List Sort) (fs : List (List ℕ)) (k : ℕ) (x : Sort) → AreFields s ss fs → slice_get ss k ≡ Some x → IsField s x (get_or fs k [])
field_of s [] fs k x h e = absurd cc
field_of s (t ∷ ss) [] k x h e = absurd h
field_of s (t ∷ ss) (f ∷ fs) zero x h e = let same : t ≡ x = cc in subst (λ (y : Sort). IsField s y f) same h.0
field_of s (t ∷ ss) (f ∷ fs) (suc k) x h e = field_of s ss fs k x h.1 e

-- ---- what the first fields say of the parts

get_take : {X : Type 0} (xs : List X) (j k : ℕ) → k < j → slice_get (take j xs) k ≡ slice_get xs k
get_take xs zero k lt = absurd (omega arith)
get_take [] (suc j) k lt = refl
get_take (x ∷ xs) (suc j) zero lt = refl
get_take (x ∷ xs) (suc j) (suc k) lt = get_take xs j k (omega arith)

digests_kept : (p : Params) (fields : List (List ℕ)) (j : ℕ) → before_count p < j → digests_in p (take j fields) ≡ digests_in p fields
digests_kept p fields j lt = ap (option_map (from_le_bytes w32)) (get_take fields j (before_count p) lt)

-- the part behind the first fields is that of the next
next_kept : (p : Params) (fields : List (List ℕ)) (j : ℕ) → j < length fields → next_part p (take j fields) ≡ slice_get (known_parts p (digests_in p fields)) j
next_kept p fields j lt =
    let long : length (take j fields) ≡ j = omega (arith, length-take j fields) in
    ap (slice_get (known_parts p (digests_in p (take j fields)))) long
    ∙ elim (cases_lt (before_count p) j) [
      | inl less ↦ ap (λ (o : Option ℕ). slice_get (known_parts p o) j) (digests_kept p fields j less)
      | inr le ↦ early_parts p (unwrap_or (digests_in p (take j fields)) 0) (unwrap_or (digests_in p fields) 0) j le
    ]

module _ (s : Shape) (p : Params) where
  -- the sorts of fields, with those of another front that has the same number of digests, if it is read
  as_sorts : (bytes : List ℕ) (fields : List (List ℕ)) (rest : List ℕ) (n : ℕ) → IsBegun s p bytes fields rest → unwrap_or (digests_in p fields) 0 ≡ n → AreFields s (take (length fields) (all_sorts p n)) fields
  as_sorts bytes fields rest n h e = subst (λ (k : ℕ). AreFields s (take (length fields) (all_sorts p k)) fields) e h.pass

  early_sorts : (bytes : List ℕ) (fields : List (List ℕ)) (rest : List ℕ) → IsBegun s p bytes fields rest → length fields ≤ before_count p + 1 → AreFields s (take (length fields) (count_sorts p)) fields
  early_sorts bytes fields rest h le = subst (λ (ss : List Sort). AreFields s ss fields) (first_sorts p (unwrap_or (digests_in p fields) 0) (length fields) le) h.pass

  -- the first of the fields, with all other bytes behind them
  fewer : (bytes : List ℕ) (fields : List (List ℕ)) (rest : List ℕ) (j : ℕ) → IsBegun s p bytes fields rest → j ≤ length fields → j ≤ before_count p + 1
      → AreFields s (take (length (take j fields)) (count_sorts p)) (take j fields) × (bytes ≡ flat (take j fields) ++ (flat (drop j fields) ++ rest))
  fewer bytes fields rest j h le early =
      let n : ℕ = unwrap_or (digests_in p fields) 0 in
      let long : length (take j fields) ≡ j = omega (arith, length-take j fields) in
      let sorts : take j (take (length fields) (all_sorts p n)) ≡ take (length (take j fields)) (count_sorts p) =
      take-take j (length fields) (all_sorts p n) le ∙ first_sorts p n j early ∙ ap (λ (k : ℕ). take k (count_sorts p)) (sym long) in (
        subst (λ (ss : List Sort). AreFields s ss (take j fields)) sorts (fields_front s (take (length fields) (all_sorts p n)) fields j h.pass),
        h.are ∙ ap (λ (fs : List (List ℕ)). flat fs ++ rest) (sym (take-append-drop j fields)) ∙ ap (λ (bs : List ℕ). bs ++ rest) (flat-append (take j fields) (drop j fields))
            ∙ append_assoc (flat (take j fields)) (flat (drop j fields)) rest,
      )

  -- of two fronts of the same bytes, the shorter is the front of the longer
  shorter_first : (bytes : List ℕ) (fields gs : List (List ℕ)) (rest r : List ℕ) → IsBegun s p bytes fields rest → IsBegun s p bytes gs r → length fields ≤ length gs → fields ≡ take (length fields) gs
  shorter_first bytes fields gs rest r h k le =
      elim (cases_lt (before_count p + 1) (length fields)) [
        | inl lt ↦
            let j : ℕ = before_count p + 1 in
            let a = fewer bytes fields rest j h (omega arith) (omega arith) in
            let b = fewer bytes gs r j k (omega arith) (omega arith) in
            let first : take j fields ≡ take (length (take j fields)) (take j gs) =
            same_fields s (count_sorts p) (take j fields) (take j gs) (flat (drop j fields) ++ rest) (flat (drop j gs) ++ r) a.0 b.0 (sym a.1 ∙ b.1) (omega (arith, length-take j fields, length-take j gs)) in
            let alike : take j fields ≡ take j gs = first ∙ take_all (length (take j fields)) (take j gs) (omega (arith, length-take j fields, length-take j gs)) in
            let digests : digests_in p fields ≡ digests_in p gs = sym (digests_kept p fields j (omega arith)) ∙ ap (digests_in p) alike ∙ digests_kept p gs j (omega arith) in
            let n : ℕ = unwrap_or (digests_in p gs) 0 in
            same_fields s (all_sorts p n) fields gs rest r (as_sorts bytes fields rest n h (ap (λ (o : Option ℕ). unwrap_or o 0) digests)) k.pass (sym h.are ∙ k.are) le
        | inr early ↦
            let j : ℕ = length fields in
            let b = fewer bytes gs r j k le early in
            let long : length (take j gs) ≡ j = omega (arith, length-take j gs) in
            let first : fields ≡ take (length fields) (take j gs) =
            same_fields s (count_sorts p) fields (take j gs) rest (flat (drop j gs) ++ r) (early_sorts bytes fields rest h early) b.0 (sym h.are ∙ b.1) (omega (arith, long)) in
            first ∙ take_all (length fields) (take j gs) (omega (arith, long))
      ]

  -- a front is no shorter than the fields of fewer bytes
  not_shorter : (bytes : List ℕ) (fields gs : List (List ℕ)) (rest r : List ℕ) → IsBegun s p bytes fields rest → IsFront s p bytes gs r → length gs < length fields → ⊥
  not_shorter bytes fields gs rest r h k lt =
      let g = begun s p bytes gs r k in
      let j : ℕ = length gs in
      let n : ℕ = unwrap_or (digests_in p fields) 0 in
      let alike : gs ≡ take j fields = shorter_first bytes gs fields r rest g h (omega arith) in
      let long : length (take (length fields) (all_sorts p n)) ≡ length fields = fields_long s (take (length fields) (all_sorts p n)) fields h.pass in
      let within : j < length (parts p n) = omega (arith, length-all_sorts p n, length-parts p n, long, length-take (length fields) (all_sorts p n)) in
      let part : ProofPart = get_or (parts p n) j Magic in
      let here : slice_get (parts p n) j ≡ Some part = slice_get-get_or (parts p n) j Magic within in
      let next : next_part p gs ≡ Some part = ap (next_part p) alike ∙ next_kept p fields j lt ∙ here in
      let sort : slice_get (take (length fields) (all_sorts p n)) j ≡ Some (sort_of part) = get_take (all_sorts p n) (length fields) j lt ∙ sort_at p n j ∙ ap (option_map sort_of) here in
      let field = field_of s (take (length fields) (all_sorts p n)) fields j (sort_of part) h.pass sort in
      let f : List ℕ = get_or fields j [] in
      let more : List ℕ = flat (drop (j + 1) fields) in
      let whole : bytes ≡ flat gs ++ ((f ++ more) ++ rest) =
      h.are ∙ ap (λ (fs : List (List ℕ)). flat fs ++ rest) (sym (take-append-drop j fields)) ∙ ap (λ (bs : List ℕ). bs ++ rest) (flat-append (take j fields) (drop j fields))
      ∙ append_assoc (flat (take j fields)) (flat (drop j fields)) rest ∙ ap (λ (fs : List (List ℕ)). flat fs ++ (flat (drop j fields) ++ rest)) (sym alike)
      ∙ ap (λ (fs : List (List ℕ)). flat gs ++ (flat fs ++ rest)) (drop_more fields j [] lt) in
      let left : r ≡ (f ++ more) ++ rest = append_cancel_left (flat gs) r ((f ++ more) ++ rest) (sym k.are ∙ whole) in
      omega (arith, ap length left, length-append (f ++ more) rest, length-append f more, field.long, front_short s p bytes gs r k part next)

  -- more bytes behind fields that are whole
  still_begun : (bytes more : List ℕ) (fields : List (List ℕ)) (rest : List ℕ) → IsBegun s p bytes fields rest → IsBegun s p (bytes ++ more) fields (rest ++ more)
  still_begun bytes more fields rest h = record { are = ap (λ (bs : List ℕ). bs ++ more) h.are ∙ append_assoc (flat fields) rest more; pass = h.pass }

  pub front_grows : FrontGrows s p
  front_grows bytes more fields gs rest r h k =
      let b = still_begun bytes more fields rest (begun s p bytes fields rest h) in
      elim (cases_lt (length gs) (length fields)) [
        | inl lt ↦ absurd (not_shorter (bytes ++ more) fields gs (rest ++ more) r b k lt)
        | inr le ↦ shorter_first (bytes ++ more) fields gs (rest ++ more) r b (begun s p (bytes ++ more) gs r k) le
      ]

  pub one_front : OneFront s p
  one_front bytes fields gs rest r h k =
      let a = begun s p bytes fields rest h in
      let b = begun s p bytes gs r k in
      elim (cases_lt (length gs) (length fields)) [
        | inl lt ↦ absurd (not_shorter bytes fields gs rest r a k lt)
        | inr le ↦
            elim (cases_lt (length fields) (length gs)) [
              | inl lt ↦ absurd (not_shorter bytes gs fields r rest b h lt)
              | inr ge ↦
                  let same : fields ≡ gs = shorter_first bytes fields gs rest r a b le ∙ take_all (length fields) gs ge in
                  (same, append_cancel_left (flat fields) rest r (sym h.are ∙ k.are ∙ ap (λ (fs : List (List ℕ)). flat fs ++ r) (sym same)))
            ]
      ]

-- ---- where a field stands

place_is : (s : Shape) (ss : List Sort) (fs : List (List ℕ)) (k : ℕ) → AreFields s ss fs → k ≤ length fs → length (flat (take k fs)) ≡ sum_by (width s) (take k ss)
place_is s ss fs zero h le = refl
place_is s [] [] (suc k) h le = absurd (omega arith)
place_is s [] (f ∷ fs) (suc k) h le = absurd h
place_is s (x ∷ ss) [] (suc k) h le = absurd h
place_is s (x ∷ ss) (f ∷ fs) (suc k) h le =
    let others = place_is s ss fs k h.1 (omega arith) in
    let one = h.0.long in
    omega (arith, others, one, length-append f (flat (take k fs)), sum_by-cons (width s) x (take k ss))

sum-map : (s : Shape) (xs : List ProofPart) → sum_by (width s) (map sort_of xs) ≡ sum_by (part_width s) xs
sum-map s [] = refl
sum-map s (x ∷ xs) = sum_by-cons (width s) (sort_of x) (map sort_of xs) ∙ ap (λ (n : ℕ). part_width s x + n) (sum-map s xs) ∙ sym (sum_by-cons (part_width s) x xs)

pub place_of_field : (s : Shape) (p : Params) (bytes : List ℕ) (fields : List (List ℕ)) (rest : List ℕ) (k : ℕ) → IsBegun s p bytes fields rest → k ≤ length fields
    → length (flat (take k fields)) ≡ field_place s p (unwrap_or (digests_in p fields) 0) k
place_of_field s p bytes fields rest k h le =
    let n : ℕ = unwrap_or (digests_in p fields) 0 in
    place_is s (take (length fields) (all_sorts p n)) fields k h.pass le
    ∙ ap (sum_by (width s)) (take-take k (length fields) (all_sorts p n) le ∙ sym (take_sorts p n k)) ∙ sum-map s (take k (parts p n))

pub fields_stand : (s : Shape) (p : Params) → FieldsStand s p
fields_stand s p bytes fields rest front k part lt here =
    let h = begun s p bytes fields rest front in
    let n : ℕ = unwrap_or (digests_in p fields) 0 in
    let sort : slice_get (take (length fields) (all_sorts p n)) k ≡ Some (sort_of part) = get_take (all_sorts p n) (length fields) k lt ∙ sort_at p n k ∙ ap (option_map sort_of) here in
    let field = field_of s (take (length fields) (all_sorts p n)) fields k (sort_of part) h.pass sort in
    let f : List ℕ = get_or fields k [] in
    let more : List ℕ = flat (drop (k + 1) fields) in
    let whole : bytes ≡ flat (take k fields) ++ (f ++ (more ++ rest)) =
    h.are ∙ ap (λ (fs : List (List ℕ)). flat fs ++ rest) (sym (take-append-drop k fields) ∙ ap (λ (fs : List (List ℕ)). take k fields ++ fs) (drop_more fields k [] lt))
    ∙ ap (λ (bs : List ℕ). bs ++ rest) (flat-append (take k fields) (f ∷ drop (k + 1) fields)) ∙ append_assoc (flat (take k fields)) (f ++ more) rest
    ∙ ap (λ (bs : List ℕ). flat (take k fields) ++ bs) (append_assoc f more rest) in
    let place : length (flat (take k fields)) ≡ field_place s p n k = place_of_field s p bytes fields rest k h (omega arith) in (
      field,
      sym (ap (λ (bs : List ℕ). take (part_width s part) (drop (field_place s p n k) bs)) whole
          ∙ ap (take (part_width s part)) (drop_at (flat (take k fields)) (f ++ (more ++ rest)) (field_place s p n k) place)
          ∙ take_at f (more ++ rest) (part_width s part) field.long),
    )

-- The front of a proof's file decides where reading stops.
use Rattle.std.proofs.Common.{◌≡◌, ℕ, zero, suc, ◌+◌, ◌-◌, ◌<◌, ◌≤◌, eqb, cond, List, [], ◌∷◌, ◌++◌, length, take, drop, replicate, get_or, Option, Some, None, Result, Ok, Err, refl, sym, ap, subst, ◌∙◌, append_assoc, arith, inl, inr}
use Rattle.std.specs.Prelude.{slice_get, option_map, unwrap_or}
use Rattle.std.specs.Int.{w32, from_le_bytes}
use Rattle.std.proofs.lemmas.Bool.{cases_lt}
use Rattle.std.proofs.lemmas.List.{length-append, length-drop, take-append-drop, drop_more, take_all, length-replicate}
use Rattle.std.proofs.Math.Seq.{take-append-add}
use Rattle.std.proofs.lemmas.Option.{slice_get-get_or}
use Rattle.lzk_layout.specs.declared.params.Params.{Params}
use Rattle.lzk_layout.specs.declared.part.ProofPart.{ProofPart}
use Rattle.lzk_layout.specs.declared.fault.Stop.{Stop}
use Rattle.lzk_layout.specs.declared.fault.ProofKind.TheVariants as kinds
use Rattle.lzk_layout.specs.Proofs.{flat}
use Rattle.lzk_layout.specs.Fields.{Sort, plain, count, Shape, stops, field_at, fields_at, path_at, sorts_of, proof_at, IsField, AreFields}
use Rattle.lzk_layout.specs.Parts.{sort_of, parts, before_count}
use Rattle.lzk_layout.specs.Fronts.{digests_in, next_part, IsUnfinished, IsFront}
use Rattle.lzk_layout.proofs.FileLaws.{flat-append}
use Rattle.lzk_layout.proofs.FieldLaws.{behind, done, field_again, fields_again, field_then, field_stops, fields_then, fields_stop, is_done, count_stops}
use Rattle.lzk_layout.proofs.PartSorts.{count_sorts, all_sorts, length-sorts_of, length-parts, sort_at, take_sorts, first_sorts, sort_within, sort_behind}

-- ---- lists

pub cut : {X : Type 0} (xs : List X) (k : ℕ) (x : X) → slice_get xs k ≡ Some x → xs ≡ take k xs ++ x ∷ drop (suc k) xs
cut [] k x e = absurd cc
cut (y ∷ ys) zero x e = let same : y ≡ x = cc in ap (λ z. z ∷ ys) same
cut (y ∷ ys) (suc k) x e = ap (λ zs. y ∷ zs) (cut ys k x e)

pub none_past : {X : Type 0} (xs : List X) (k : ℕ) → slice_get xs k ≡ None → length xs ≤ k
none_past [] k e = omega arith
none_past (x ∷ xs) zero e = absurd cc
none_past (x ∷ xs) (suc k) e = let less = none_past xs k e in omega (arith, less)

-- ---- fields that pass

pub fields_long : (s : Shape) (ss : List Sort) (fs : List (List ℕ)) → AreFields s ss fs → length ss ≡ length fs
fields_long s [] [] h = refl
fields_long s [] (f ∷ fs) h = absurd h
fields_long s (x ∷ ss) [] h = absurd h
fields_long s (x ∷ ss) (f ∷ fs) h = ap suc (fields_long s ss fs h.1)

pub cut_fields : (s : Shape) (ss ts : List Sort) (fs : List (List ℕ)) → AreFields s (ss ++ ts) fs → AreFields s ss (take (length ss) fs) × AreFields s ts (drop (length ss) fs)
cut_fields s [] ts fs h = (tt, h)
cut_fields s (x ∷ ss) ts [] h = absurd h
cut_fields s (x ∷ ss) ts (f ∷ fs) h = let r = cut_fields s ss ts fs h.1 in ((h.0, r.0), r.1)

pub stops_behind : (s : Shape) (ss : List Sort) (t : Sort) (later : List Sort) (fs : List (List ℕ)) (rest : List ℕ) (d : Stop)
    → AreFields s ss fs → field_at s t rest ≡ Err d → fields_at s (ss ++ t ∷ later) (flat fs ++ rest) ≡ Err d
stops_behind s ss t later fs rest d pass e =
    fields_then s ss (t ∷ later) (flat fs ++ rest) fs rest (fields_again s ss fs rest pass) ∙ ap (behind fs) (field_stops s t later rest d e)

-- the fields are whole and pass, and the rest is behind them
pub record IsBegun (s : Shape) (p : Params) (bytes : List ℕ) (fields : List (List ℕ)) (rest : List ℕ) : Type 0 where
  pub are : bytes ≡ flat fields ++ rest
  pub pass : AreFields s (take (length fields) (all_sorts p (unwrap_or (digests_in p fields) 0))) fields

pub begun : (s : Shape) (p : Params) (bytes : List ℕ) (fields : List (List ℕ)) (rest : List ℕ) → IsFront s p bytes fields rest → IsBegun s p bytes fields rest
begun s p bytes fields rest h = record {
  are = h.are;
  pass = subst (λ (ss : List Sort). AreFields s ss fields) (take_sorts p (unwrap_or (digests_in p fields) 0) (length fields)) h.pass;
}

pub front_of : (s : Shape) (p : Params) (bytes : List ℕ) (fields : List (List ℕ)) (rest : List ℕ) → IsBegun s p bytes fields rest → IsUnfinished s (next_part p fields) rest → IsFront s p bytes fields rest
front_of s p bytes fields rest h u = record {
  are = h.are;
  pass = subst (λ (ss : List Sort). AreFields s ss fields) (sym (take_sorts p (unwrap_or (digests_in p fields) 0) (length fields))) h.pass;
  unfinished = u;
}

-- ---- before the number of digests

module _ (s : Shape) (p : Params) (bytes : List ℕ) where
  -- what fails with e, and with d, fails alike
  fails_alike : {A : Type 0} (e d : Stop) → proof_at s p bytes ≡ Err e → (let r : Result A Stop = Err e in r) ≡ Err d → proof_at s p bytes ≡ Err d
  fails_alike e d at h =
      let same : e ≡ d = cc in
      at ∙ ap (λ (k : Stop). let r : Result (List (List ℕ)) Stop = Err k in r) same

  first_fails : (e : Stop) → fields_at s (sorts_of p) bytes ≡ Err e → proof_at s p bytes ≡ Err e
  unfolding proof_at
  first_fails e at = rw at refl

  path_fails : (x : List (List ℕ) × List ℕ) (e : Stop) → fields_at s (sorts_of p) bytes ≡ Ok x → path_at s x.1 ≡ Err e → proof_at s p bytes ≡ Err e
  unfolding proof_at
  path_fails x e at h = rw (at, h) refl

  count_fails : (d : Stop) (x : List (List ℕ) × List ℕ) → fields_at s (sorts_of p) bytes ≡ Ok x → fields_at s (count_sorts p) bytes ≡ Err d
      → (r : Result (List ℕ × List ℕ) Stop) → field_at s count x.1 ≡ r → proof_at s p bytes ≡ Err d
  count_fails d x at h (Err e) at_n =
      let is : fields_at s (count_sorts p) bytes ≡ Err e = fields_then s (sorts_of p) (count ∷ []) bytes x.0 x.1 at ∙ ap (behind x.0) (field_stops s count [] x.1 e at_n) in
      fails_alike e d (path_fails x e at (count_stops s x.1 e at_n)) (sym is ∙ h)
  count_fails d x at h (Ok y) at_n =
      let read : fields_at s (count ∷ []) x.1 ≡ Ok (y.0 ∷ [], y.1) = is_done s _ (y.0 ∷ []) y.1 (field_then s count [] x.1 y.0 y.1 at_n) in
      let is : fields_at s (count_sorts p) bytes ≡ Ok (x.0 ++ y.0 ∷ [], y.1) = fields_then s (sorts_of p) (count ∷ []) bytes x.0 x.1 at ∙ ap (behind x.0) read in
      let apart : ◌≡◌ {A = Result (List (List ℕ) × List ℕ) Stop} (Ok (x.0 ++ y.0 ∷ [], y.1)) (Err d) = sym is ∙ h in
      absurd cc

  sorts_fail : (d : Stop) → fields_at s (count_sorts p) bytes ≡ Err d → (r : Result (List (List ℕ) × List ℕ) Stop) → fields_at s (sorts_of p) bytes ≡ r → proof_at s p bytes ≡ Err d
  sorts_fail d h (Err e) at = fails_alike e d (first_fails e at) (sym (fields_stop s (sorts_of p) (count ∷ []) bytes e at) ∙ h)
  sorts_fail d h (Ok x) at = count_fails d x at h (field_at s count x.1) refl

  pub first_stops : (d : Stop) → fields_at s (count_sorts p) bytes ≡ Err d → proof_at s p bytes ≡ Err d
  first_stops d h = sorts_fail d h (fields_at s (sorts_of p) bytes) refl

-- ---- behind the number of digests

-- the fields up to the number of digests, the number, and the digests behind it, so many of all
record HasPath (s : Shape) (p : Params) (fields : List (List ℕ)) (n : ℕ) : Type 0 where
  number : List ℕ
  digests : List (List ℕ)
  so_many : length fields ≡ before_count p + 1 + length digests
  fields_are : fields ≡ take (before_count p) fields ++ number ∷ digests
  first_pass : AreFields s (sorts_of p) (take (before_count p) fields)
  number_passes : IsField s count number
  digests_pass : AreFields s (take (length digests) (replicate n plain)) digests
  known : digests_in p fields ≡ Some (from_le_bytes w32 number)

module _ (s : Shape) (p : Params) (fields : List (List ℕ)) where
  abbrev m : ℕ
  m = before_count p

  has_path : (n : ℕ) → m < length fields → AreFields s (take (length fields) (all_sorts p n)) fields → HasPath s p fields n
  has_path n lt pass =
      let j : ℕ = length fields - (m + 1) in
      let number : List ℕ = get_or fields m [] in
      let ds : List (List ℕ) = drop (m + 1) fields in
      let long : length ds ≡ j = length-drop (m + 1) fields in
      let counted : length (sorts_of p ++ count ∷ []) + j ≡ length fields = omega (arith, length-append (sorts_of p) (count ∷ []), length-sorts_of p) in
      let sorts : take (length fields) (all_sorts p n) ≡ sorts_of p ++ (count ∷ take j (replicate n plain)) =
      ap (λ (k : ℕ). take k (all_sorts p n)) (sym counted) ∙ take-append-add (count_sorts p) (replicate n plain) j ∙ append_assoc (sorts_of p) (count ∷ []) (take j (replicate n plain)) in
      let parts_pass = cut_fields s (sorts_of p) (count ∷ take j (replicate n plain)) fields (subst (λ (ss : List Sort). AreFields s ss fields) sorts pass) in
      let front : AreFields s (sorts_of p) (take m fields) = subst (λ (k : ℕ). AreFields s (sorts_of p) (take k fields)) (length-sorts_of p) parts_pass.0 in
      let at : drop m fields ≡ number ∷ ds = drop_more fields m [] lt in
      let back : AreFields s (count ∷ take j (replicate n plain)) (number ∷ ds) =
      subst (λ (fs : List (List ℕ)). AreFields s (count ∷ take j (replicate n plain)) fs) at (subst (λ (k : ℕ). AreFields s (count ∷ take j (replicate n plain)) (drop k fields)) (length-sorts_of p) parts_pass.1) in
      record {
        number = number;
        digests = ds;
        so_many = omega (arith, long);
        fields_are = sym (take-append-drop m fields) ∙ ap (λ (fs : List (List ℕ)). take m fields ++ fs) at;
        first_pass = front;
        number_passes = back.0;
        digests_pass = subst (λ (k : ℕ). AreFields s (take k (replicate n plain)) ds) (sym long) back.1;
        known = ap (option_map (from_le_bytes w32)) (slice_get-get_or fields m [] lt);
      }

  module _ (bytes rest : List ℕ) (begin : IsBegun s p bytes fields rest) (lt : m < length fields) where
    abbrev n : ℕ
    n = unwrap_or (digests_in p fields) 0

    abbrev has : HasPath s p fields n
    has = has_path n lt begin.pass

    abbrev after : List ℕ
    after = flat has.digests ++ rest

    counted : from_le_bytes w32 has.number ≡ n
    counted = ap (λ (o : Option ℕ). unwrap_or o 0) (sym has.known)

    bytes_are : bytes ≡ flat (take m fields) ++ (has.number ++ after)
    bytes_are =
        begin.are ∙ ap (λ (fs : List (List ℕ)). flat fs ++ rest) has.fields_are ∙ ap (λ (bs : List ℕ). bs ++ rest) (flat-append (take m fields) (has.number ∷ has.digests))
        ∙ append_assoc (flat (take m fields)) (has.number ++ flat has.digests) rest ∙ ap (λ (bs : List ℕ). flat (take m fields) ++ bs) (append_assoc has.number (flat has.digests) rest)

    first_read : fields_at s (sorts_of p) bytes ≡ Ok (take m fields, has.number ++ after)
    first_read = ap (fields_at s (sorts_of p)) bytes_are ∙ fields_again s (sorts_of p) (take m fields) (has.number ++ after) has.first_pass

    number_read : field_at s count (has.number ++ after) ≡ Ok (has.number, after)
    number_read = field_again s count has.number after has.number_passes

    digest_fails : (d : Stop) → fields_at s (replicate n plain) after ≡ Err d → path_at s (has.number ++ after) ≡ Err d
    unfolding path_at
    digest_fails d e = rw (number_read, counted, e) refl

    digests_read : fields_at s (replicate n plain) after ≡ Ok (has.digests, rest) → path_at s (has.number ++ after) ≡ Ok (has.number ∷ has.digests, rest)
    unfolding path_at
    digests_read e = rw (number_read, counted, e) refl

    path_stops : (t : Sort) (d : Stop) → slice_get (all_sorts p n) (length fields) ≡ Some t → field_at s t rest ≡ Err d → proof_at s p bytes ≡ Err d
    path_stops t d next e =
        let at : slice_get (replicate n plain) (length has.digests) ≡ Some t = sym (ap (slice_get (all_sorts p n)) has.so_many ∙ sort_behind p n (length has.digests)) ∙ next in
        let sorts : replicate n plain ≡ take (length has.digests) (replicate n plain) ++ t ∷ drop (suc (length has.digests)) (replicate n plain) = cut (replicate n plain) (length has.digests) t at in
        let fails : fields_at s (replicate n plain) after ≡ Err d =
        ap (λ (ss : List Sort). fields_at s ss after) sorts ∙ stops_behind s (take (length has.digests) (replicate n plain)) t (drop (suc (length has.digests)) (replicate n plain)) has.digests rest d has.digests_pass e in
        path_fails s p bytes (take m fields, has.number ++ after) d first_read (digest_fails d fails)

    whole : path_at s (has.number ++ after) ≡ Ok (has.number ∷ has.digests, rest) → proof_at s p bytes ≡ cond (eqb (length rest) 0) (done fields) (stops kinds.Trailing rest)
    unfolding proof_at
    whole e = rw (first_read, e) (ap (λ (fs : List (List ℕ)). cond (eqb (length rest) 0) (done fs) (stops kinds.Trailing rest)) (sym has.fields_are))

    path_ends : length (parts p n) ≤ length fields → proof_at s p bytes ≡ cond (eqb (length rest) 0) (done fields) (stops kinds.Trailing rest)
    path_ends le =
        let most : n ≤ length has.digests = omega (arith, has.so_many, length-parts p n) in
        let all : take (length has.digests) (replicate n plain) ≡ replicate n plain = take_all (length has.digests) (replicate n plain) (omega (arith, length-replicate n plain)) in
        whole (digests_read (fields_again s (replicate n plain) has.digests rest (subst (λ (ss : List Sort). AreFields s ss has.digests) all has.digests_pass)))

-- ---- the whole

module _ (s : Shape) (p : Params) (bytes : List ℕ) (fields : List (List ℕ)) (rest : List ℕ) (begin : IsBegun s p bytes fields rest) where
  -- where the next field fails, the whole fails
  pub front_stops : (part : ProofPart) (d : Stop) → next_part p fields ≡ Some part → field_at s (sort_of part) rest ≡ Err d → proof_at s p bytes ≡ Err d
  front_stops part d next e =
      let n : ℕ = unwrap_or (digests_in p fields) 0 in
      let k : ℕ = length fields in
      let at : slice_get (all_sorts p n) k ≡ Some (sort_of part) = sort_at p n k ∙ ap (option_map sort_of) next in
      elim (cases_lt (before_count p) k) [
        | inl lt ↦ path_stops s p fields bytes rest begin lt (sort_of part) d at e
        | inr le ↦
            let here : slice_get (count_sorts p) k ≡ Some (sort_of part) = sym (sort_within p n k le) ∙ at in
            let pass : AreFields s (take k (count_sorts p)) fields = subst (λ (ss : List Sort). AreFields s ss fields) (first_sorts p n k (omega arith)) begin.pass in
            first_stops s p bytes d
            (ap (fields_at s (count_sorts p)) begin.are
            ∙ ap (λ (ss : List Sort). fields_at s ss (flat fields ++ rest)) (cut (count_sorts p) k (sort_of part) here)
            ∙ stops_behind s (take k (count_sorts p)) (sort_of part) (drop (suc k) (count_sorts p)) fields rest d pass e)
      ]

  -- where no field comes, the file ends, or bytes are left
  pub front_ends : next_part p fields ≡ None → proof_at s p bytes ≡ cond (eqb (length rest) 0) (done fields) (stops kinds.Trailing rest)
  front_ends none =
      let n : ℕ = unwrap_or (digests_in p fields) 0 in
      let past : length (parts p n) ≤ length fields = none_past (parts p n) (length fields) none in
      path_ends s p fields bytes rest begin (omega (arith, past, length-parts p n)) past

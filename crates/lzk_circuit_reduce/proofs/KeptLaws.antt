-- Kept wires.
use Rattle.std.specs.Prelude.{◌≡◌, ◌≢◌, ℕ, ◌+◌, ◌<◌, ◌≤◌, ◌==◌, nat_lt, Bool, true, false, cond, Option, Some, None, List, [], ◌∷◌, ◌++◌, ◌-◌, length, map, take, drop, slice_set}
use Rattle.std.proofs.Common.{get_or, zero, suc, inl, inr, refl, sym, ap, ap₂, ◌∙◌, subst, arith}
use Rattle.std.proofs.lemmas.Bool.{cases_lt, cases_eq, ne_eqb, eq-eqb, eqb-true}
use Rattle.std.proofs.lemmas.List.{length-append, length-map, length-set, get_or_append_left, get_or_push, get_or_past, get_or-set_same, get_or-set_other}
use Rattle.lzk_field.specs.Ring.{Ops, NumberLaws}
use Rattle.lzk_circuit.specs.declared.layer.Term.{Term}
use Rattle.lzk_circuit.specs.Valid.{AreTerms}
use Rattle.lzk_circuit_reduce.specs.declared.kept.KeptWires.{KeptWires}
use Rattle.lzk_circuit_reduce.specs.Rows.{IsRow, placed}
use Rattle.lzk_circuit_reduce.specs.Renumbering.{at, of_wire, terms_before}
use Rattle.lzk_circuit_reduce.specs.Reduced.{terms_of}
use Rattle.lzk_circuit_reduce.specs.Kept.{Place, place_of, places_of, slot_of, link_at, IsMetWithin, IsMet, IsTable, IsKept, HasOneMore}
use Rattle.lzk_circuit_reduce.proofs.AppendLaws.{stacked-terms}
use Rattle.lzk_circuit_reduce.proofs.WireLaws.{before_one, before_same, before-most, before-more, own-slice}

some_same : (x y : ℕ) → Some x ≡ Some y → x ≡ y
some_same x y e = cc

module _ {A : Type 0} (o : Ops A) (size : ℕ) (number_of : A → ℕ) (element : ℕ → A) (bytes : ℕ) (laws : NumberLaws o size number_of element bytes) where
  pub numbers-exact : (x y : A) → number_of x ≡ number_of y → x ≡ y
  numbers-exact x y e = sym (laws.element_number x) ∙ ap element e ∙ laws.element_number y

module _ {A : Type 0} where
  -- the terms of wire g behind those of the wires before it
  pub own-placed : (g : ℕ) (row : List (Term A)) → of_wire g (map (placed g) row) ≡ map (placed g) row
  own-placed g [] = refl
  own-placed g (t ∷ ts) =
      ap (λ b. cond b (placed g t ∷ of_wire g (map (placed g) ts)) (of_wire g (map (placed g) ts))) (eq-eqb g g refl) ∙ ap (λ us. placed g t ∷ us) (own-placed g ts)

  other-placed : (g i : ℕ) (row : List (Term A)) → i < g → of_wire i (map (placed g) row) ≡ []
  other-placed g i [] l = refl
  other-placed g i (t ∷ ts) l =
      ap (λ b. cond b (placed g t ∷ of_wire i (map (placed g) ts)) (of_wire i (map (placed g) ts))) (ne_eqb g i (λ e. omega (arith, e, l))) ∙ other-placed g i ts l

  pub own-before : (g i : ℕ) (ts row : List (Term A)) → i < g → of_wire i (ts ++ map (placed g) row) ≡ of_wire i ts
  own-before g i [] row l = other-placed g i row l
  own-before g i (t ∷ ts) row l = ap (λ us. cond (t.g == i) (t ∷ us) us) (own-before g i ts row l)

  pub own-added : (o : Ops A) (g width : ℕ) (before : Option (Term A)) (ts row : List (Term A)) → AreTerms o g width before ts → of_wire g (ts ++ map (placed g) row) ≡ map (placed g) row
  own-added o g width before [] row h = own-placed g row
  own-added o g width before (t ∷ ts) row h =
      let one = h.0 in
      ap (λ b. cond b (t ∷ of_wire g (ts ++ map (placed g) row)) (of_wire g (ts ++ map (placed g) row))) (ne_eqb t.g g (λ e. omega (arith, e, one.g))) ∙ own-added o g width (Some t) ts row h.2

  -- each is a term of wire g
  abbrev AreOf : ℕ → List (Term A) → Type 0
  AreOf g [] = Unit {0}
  AreOf g (t ∷ ts) = (t.g ≡ g) × AreOf g ts

  of_chosen : (g : ℕ) (t : Term A) (us : List (Term A)) (b : Bool) → (t.g == g) ≡ b → AreOf g us → AreOf g (cond b (t ∷ us) us)
  of_chosen g t us true e h = (eqb-true t.g g e, h)
  of_chosen g t us false e h = h

  own-of : (g : ℕ) (ts : List (Term A)) → AreOf g (of_wire g ts)
  own-of g [] = tt
  own-of g (t ∷ ts) = of_chosen g t (of_wire g ts) (t.g == g) refl (own-of g ts)

module _ {A : Type 0} (number_of : A → ℕ) where
  placed-places : (g : ℕ) (row : List (Term A)) → map (place_of number_of) (map (placed g) row) ≡ map (place_of number_of) row
  placed-places g [] = refl
  placed-places g (t ∷ ts) = ap (λ us. place_of number_of t ∷ us) (placed-places g ts)

  -- the places are read off the terms
  terms-places : (ts : List (Term A)) → map (place_of number_of) ts ≡ map (λ (p : ℕ × ℕ × A). (p.0, p.1, number_of p.2)) (map (λ t. (t.a, t.b, t.coef)) ts)
  terms-places [] = refl
  terms-places (t ∷ ts) = ap (λ us. place_of number_of t ∷ us) (terms-places ts)

  -- and they tell terms of one wire apart
  module _ (exact : (x y : A) → number_of x ≡ number_of y → x ≡ y) where
    same_term : (g : ℕ) (s t : Term A) → s.g ≡ g → s.a ≡ t.a → s.b ≡ t.b → s.coef ≡ t.coef → s ≡ placed g t
    same_term g s t h i j k =
        ap (λ x. record { g = x; a = s.a; b = s.b; coef = s.coef }) h ∙ ap (λ x. record { g = g; a = x; b = s.b; coef = s.coef }) i
        ∙ ap (λ x. record { g = g; a = t.a; b = x; coef = s.coef }) j ∙ ap (λ x. record { g = g; a = t.a; b = t.b; coef = x }) k

    one_place : (g : ℕ) (s t : Term A) → s.g ≡ g → place_of number_of s ≡ place_of number_of t → s ≡ placed g t
    one_place g s t h e =
        same_term g s t h (ap (λ (p : Place). p.0) e) (ap (λ (p : Place). p.1) e) (exact s.coef t.coef (ap (λ (p : Place). p.2) e))

    same-row : (g : ℕ) (ts row : List (Term A)) → AreOf g ts → map (place_of number_of) ts ≡ map (place_of number_of) row → ts ≡ map (placed g) row
    same-row g [] [] h e = refl
    same-row g [] (t ∷ row) h e = absurd cc
    same-row g (s ∷ ts) [] h e = absurd cc
    same-row g (s ∷ ts) (t ∷ row) h e =
        let first : place_of number_of s ≡ place_of number_of t = cc in
        let rest : map (place_of number_of) ts ≡ map (place_of number_of) row = cc in
        ap₂ (λ (u : Term A) (us : List (Term A)). u ∷ us) (one_place g s t h.0 first) (same-row g ts row h.1 rest)

    -- the wire with a row's places has this row
    pub found-row : (g : ℕ) (ts row : List (Term A)) → places_of number_of g ts ≡ map (place_of number_of) row → of_wire g ts ≡ map (placed g) row
    found-row g ts row e = same-row g (of_wire g ts) row (own-of g ts) e

module _ {A : Type 0} (o : Ops A) where
  pub kept-terms : {number_of : A → ℕ} (width : ℕ) (kept : KeptWires A) → IsKept o number_of width kept → AreTerms o kept.count width None kept.terms.items
  kept-terms width kept k = k.terms

  pub kept-different : {number_of : A → ℕ} (width : ℕ) (kept : KeptWires A) → IsKept o number_of width kept → (g h : ℕ) → g < h → h < kept.count → terms_of g kept.terms.items ≢ terms_of h kept.terms.items
  kept-different {number_of = n} width kept k g h l m e =
      let ts = kept.terms.items in
      k.different g h l m (terms-places n (of_wire g ts) ∙ ap (map (λ (p : ℕ × ℕ × A). (p.0, p.1, n p.2))) e ∙ sym (terms-places n (of_wire h ts)))

-- ---- links

no-link : (w : ℕ) → None ≡ Some w → ⊥
no-link w e = cc

met-none : (n : ℕ) (links : List (Option ℕ)) (g : ℕ) → IsMetWithin n links g None → ⊥
met-none zero links g m = m
met-none (suc n) links g m = m

-- a wire that is met is met when there are more links
met-more : (n : ℕ) (links : List (Option ℕ)) (more : Option ℕ) (g : ℕ) (link : Option ℕ) → IsMetWithin n links g link → IsMetWithin n (links ++ more ∷ []) g link
met-more zero links more g link m = absurd m
met-more (suc n) links more g None m = absurd m
met-more (suc n) links more g (Some w) (inl e) = inl e
met-more (suc n) links more g (Some w) (inr m) = elim (cases_lt w (length links)) [
  | inl l ↦ inr (subst (IsMetWithin n (links ++ more ∷ []) g) (sym (get_or_append_left links (more ∷ []) None w l)) (met-more n links more g (link_at links w) m))
  | inr l ↦ absurd (met-none n links g (subst (IsMetWithin n links g) (get_or_past links w None l) m))
]

-- a step along the links, past a wire that is not the one
pub met-step : (links : List (Option ℕ)) (g w : ℕ) → (w ≡ g → ⊥) → IsMet links g (Some w) → IsMet links g (link_at links w)
met-step links g w other (zero, m) = absurd m
met-step links g w other (suc n, inl e) = absurd (other e)
met-step links g w other (suc n, inr m) = (n, m)

pub none-of : (link : Option ℕ) → ((w : ℕ) → link ≡ Some w → ⊥) → link ≡ None
none-of None h = refl
none-of (Some w) h = absurd (h w refl)

pub met-nothing : (links : List (Option ℕ)) (g : ℕ) → IsMet links g None → ⊥
met-nothing links g (n, m) = met-none n links g m

-- ---- rows

-- two rows that differ in one term
place_at : {X : Type 0} (f : X → Place) (xs ys : List X) (i : ℕ) (x y : X) → i < length xs → i < length ys → x ≡ get_or xs i x → y ≡ get_or ys i y → map f xs ≡ map f ys → f x ≡ f y
place_at f [] ys i x y l m e g h = absurd (omega (arith, l))
place_at f (u ∷ us) [] i x y l m e g h = absurd (omega (arith, m))
place_at f (u ∷ us) (v ∷ vs) zero x y l m e g h = let heads : f u ≡ f v = cc in ap f e ∙ heads ∙ ap f (sym g)
place_at f (u ∷ us) (v ∷ vs) (suc i) x y l m e g h = let tails : map f us ≡ map f vs = cc in place_at f us vs i x y (omega (arith, l)) (omega (arith, m)) e g tails

pub differ-at : {X : Type 0} (f : X → Place) (xs ys : List X) (i : ℕ) (x y : X) → i < length xs → length xs ≡ length ys → x ≡ get_or xs i x → y ≡ get_or ys i y → f x ≢ f y → map f xs ≢ map f ys
differ-at f xs ys i x y l same e g other h = other (place_at f xs ys i x y l (omega (arith, l, same)) e g h)

-- ---- a wire's terms behind those of the others
module _ {A : Type 0} where
  pub before-placed : (g c : ℕ) (ts row : List (Term A)) → g ≤ c → terms_before g (ts ++ map (placed c) row) ≡ terms_before g ts
  before-placed g c [] [] l = refl
  before-placed g c [] (t ∷ row) l = before_same g (placed c t) (map (placed c) row) l ∙ before-placed g c [] row l
  before-placed g c (t ∷ ts) row l = ap (λ n. cond (nat_lt t.g g) 1 0 + n) (before-placed g c ts row l)

  pub before-all : (c : ℕ) (ts row : List (Term A)) → terms_before (c + 1) (ts ++ map (placed c) row) ≡ terms_before (c + 1) ts + length row
  before-all c [] [] = refl
  before-all c [] (t ∷ row) = omega (arith, before_one (c + 1) (placed c t) (map (placed c) row) (omega arith), before-all c [] row)
  before-all c (t ∷ ts) row = omega (arith, before-all c ts row)

module _ {A : Type 0} (kept : KeptWires A) (k : IsTable kept) (g : ℕ) (l : g < kept.count) where
  pub start-before : at kept.starts.items g ≤ at kept.starts.items (g + 1)
  start-before = omega (arith, k.starts_are g (omega (arith, l)), k.starts_are (g + 1) (omega (arith, l)), before-more g (g + 1) kept.terms.items (omega arith))

  pub end-within : at kept.starts.items (g + 1) ≤ length kept.terms.items
  end-within = omega (arith, k.starts_are (g + 1) (omega (arith, l)), before-most (g + 1) kept.terms.items)

  -- the terms between a wire's start and the next one's are its own
  pub kept-slice : (o : Ops A) (width : ℕ) (us : List (Term A)) → AreTerms o kept.count width None kept.terms.items
      → us ≡ take (at kept.starts.items (g + 1) - at kept.starts.items g) (drop (at kept.starts.items g) kept.terms.items) → us ≡ of_wire g kept.terms.items
  kept-slice o width us h e =
      e ∙ own-slice o kept.count width g (at kept.starts.items g) (at kept.starts.items (g + 1)) kept.terms.items kept.terms.items refl (k.starts_are g (omega (arith, l))) (k.starts_are (g + 1) (omega (arith, l))) h

-- how many wires are left behind a link, at most
abbrev pub steps : Option ℕ → ℕ
steps None = 0
steps (Some w) = w + 1

pub steps-below : (link next : Option ℕ) (w : ℕ) → link ≡ Some w → ((v : ℕ) → next ≡ Some v → v < w) → steps next < steps link
steps-below link None w e h = omega (arith, ap steps e)
steps-below link (Some v) w e h = omega (arith, ap steps e, h v refl)

-- ---- no wires yet

pub none-more : (slots : List (Option ℕ)) (k : ℕ) → link_at slots k ≡ None → link_at (slots ++ None ∷ []) k ≡ None
none-more [] zero e = refl
none-more [] (suc k) e = refl
none-more (x ∷ xs) zero e = e
none-more (x ∷ xs) (suc k) e = none-more xs k e

module _ {A : Type 0} (kept : KeptWires A) (count : kept.count ≡ 0) (terms : kept.terms.items ≡ []) where
  pub none-table : kept.starts.items ≡ 0 ∷ [] → kept.links.items ≡ [] → 1 ≤ length kept.heads.items → ((k : ℕ) → link_at kept.heads.items k ≡ None) → IsTable kept
  none-table starts links some none = record {
    starts_count = omega (arith, ap length starts, count);
    starts_are = λ g l. let z : g ≡ 0 = omega (arith, l, count) in ap (λ ns. at ns g) starts ∙ ap (at (0 ∷ [])) z ∙ sym (ap (terms_before g) terms);
    whole = ap (terms_before kept.count) terms ∙ sym (ap length terms);
    slots = some;
    links_count = ap length links ∙ sym count;
    heads_below = λ k w e. absurd (no-link w (sym (none k) ∙ e));
    links_below = λ k w e. absurd (no-link w (sym (ap (λ ls. link_at ls k) links) ∙ e));
  }

  pub none-kept : (o : Ops A) (number_of : A → ℕ) (width : ℕ) → IsKept o number_of width kept
  none-kept o number_of width = record {
    terms = subst (AreTerms o kept.count width None) (sym terms) tt;
    met = λ g l. absurd (omega (arith, l, count));
    different = λ g h l m. absurd (omega (arith, m, count));
  }

-- ---- one wire more

module _ {A : Type 0} (old new : KeptWires A) (row : List (Term A)) (slot : ℕ) (k : IsTable old) (m : HasOneMore old new row slot) where
  whole-adds : terms_before new.count new.terms.items ≡ length new.terms.items
  whole-adds =
      let c = old.count in
      let ts = old.terms.items in
      ap (λ n. terms_before n new.terms.items) m.count ∙ ap (terms_before (c + 1)) m.terms ∙ before-all c ts row
      ∙ omega (arith, k.whole, before-more c (c + 1) ts (omega arith), before-most (c + 1) ts, length-append ts (map (placed c) row), length-map row (placed c)) ∙ ap length (sym m.terms)

  starts-add : (g : ℕ) → g ≤ new.count → at new.starts.items g ≡ terms_before g new.terms.items
  starts-add g l = elim (cases_lt g (old.count + 1)) [
    | inl n ↦
        ap (λ ns. at ns g) m.starts ∙ get_or_append_left old.starts.items (length new.terms.items ∷ []) 0 g (omega (arith, n, k.starts_count)) ∙ k.starts_are g (omega (arith, n))
        ∙ sym (ap (terms_before g) m.terms ∙ before-placed g old.count old.terms.items row (omega (arith, n)))
    | inr n ↦
        let last : g ≡ new.count = omega (arith, l, n, m.count) in
        ap (λ ns. at ns g) m.starts ∙ get_or_push old.starts.items (length new.terms.items) 0 g (omega (arith, k.starts_count, last, m.count)) ∙ sym whole-adds ∙ ap (λ n. terms_before n new.terms.items) (sym last)
  ]

  heads-add : (i w : ℕ) → link_at new.heads.items i ≡ Some w → w < new.count
  heads-add i w e = elim (cases_eq i slot) [
    | inl same ↦
        let own : Some old.count ≡ Some w = sym (ap (λ hs. link_at hs i) m.heads ∙ ap (link_at (slice_set old.heads.items slot (Some old.count))) same ∙ get_or-set_same old.heads.items slot (Some old.count) None m.within) ∙ e in
        omega (arith, some_same old.count w own, m.count)
    | inr other ↦ omega (arith, m.count, k.heads_below i w (sym (ap (λ hs. link_at hs i) m.heads ∙ get_or-set_other old.heads.items slot i (Some old.count) None other) ∙ e))
  ]

  links-add : (i w : ℕ) → link_at new.links.items i ≡ Some w → w < i
  links-add i w e =
      let h = link_at old.heads.items slot in
      let f : link_at (old.links.items ++ h ∷ []) i ≡ Some w = sym (ap (λ ls. link_at ls i) m.links) ∙ e in
      elim (cases_lt i (length old.links.items)) [
        | inl l ↦ k.links_below i w (sym (get_or_append_left old.links.items (h ∷ []) None i l) ∙ f)
        | inr l ↦ elim (cases_lt (length old.links.items) i) [
          | inl past ↦ absurd (no-link w (sym (get_or_past (old.links.items ++ h ∷ []) i None (omega (arith, length-append old.links.items (h ∷ []), past))) ∙ f))
          | inr n ↦
              let last : length old.links.items ≡ i = omega (arith, l, n) in
              omega (arith, k.heads_below slot w (sym (get_or_push old.links.items h None i last) ∙ f), k.links_count, last)
        ]
      ]

  pub table-adds : IsTable new
  table-adds = record {
    starts_count = ap length m.starts ∙ length-append old.starts.items (length new.terms.items ∷ []) ∙ omega (arith, k.starts_count, m.count);
    starts_are = starts-add;
    whole = whole-adds;
    slots = omega (arith, k.slots, ap length m.heads, length-set old.heads.items slot (Some old.count));
    links_count = ap length m.links ∙ length-append old.links.items (link_at old.heads.items slot ∷ []) ∙ omega (arith, k.links_count, m.count);
    heads_below = heads-add;
    links_below = links-add;
  }

module _ {A : Type 0} (o : Ops A) (number_of : A → ℕ) (width : ℕ) (old new : KeptWires A) (row : List (Term A)) (k : IsKept o number_of width old)
    (count : new.count ≡ old.count + 1) (terms : new.terms.items ≡ old.terms.items ++ map (placed old.count) row) where
  pub added-own : of_wire old.count new.terms.items ≡ map (placed old.count) row
  added-own = ap (of_wire old.count) terms ∙ own-added o old.count width None old.terms.items row k.terms

  pub added-before : (i : ℕ) → i < old.count → of_wire i new.terms.items ≡ of_wire i old.terms.items
  added-before i l = ap (of_wire i) terms ∙ own-before old.count i old.terms.items row l

  added-places : places_of number_of old.count new.terms.items ≡ map (place_of number_of) row
  added-places = ap (map (place_of number_of)) added-own ∙ placed-places number_of old.count row

  before-places : (i : ℕ) → i < old.count → places_of number_of i new.terms.items ≡ places_of number_of i old.terms.items
  before-places i l = ap (map (place_of number_of)) (added-before i l)

  module _ (is_row : IsRow o width row) (slot : ℕ) (table : IsTable old) (m : HasOneMore old new row slot) (own_slot : slot ≡ slot_of (length old.heads.items) (map (place_of number_of) row))
      (none : (g : ℕ) → g < old.count → places_of number_of g old.terms.items ≢ map (place_of number_of) row) where
    slots_stay : length new.heads.items ≡ length old.heads.items
    slots_stay = ap length m.heads ∙ length-set old.heads.items slot (Some old.count)

    head_now : link_at new.heads.items slot ≡ Some old.count
    head_now = ap (λ hs. link_at hs slot) m.heads ∙ get_or-set_same old.heads.items slot (Some old.count) None m.within

    link_now : link_at new.links.items old.count ≡ link_at old.heads.items slot
    link_now = ap (λ ls. link_at ls old.count) m.links ∙ get_or_push old.links.items (link_at old.heads.items slot) None old.count table.links_count

    still : (g : ℕ) (link : Option ℕ) → IsMet old.links.items g link → IsMet new.links.items g link
    still g link (n, h) = (n, subst (λ ls. IsMetWithin n ls g link) (sym m.links) (met-more n old.links.items (link_at old.heads.items slot) g link h))

    behind : (g : ℕ) → IsMet new.links.items g (link_at new.links.items old.count) → IsMet new.links.items g (Some old.count)
    behind g (n, h) = (suc n, inr h)

    met_in : (g i : ℕ) → IsMet old.links.items g (link_at old.heads.items i) → IsMet new.links.items g (link_at new.heads.items i)
    met_in g i h = elim (cases_eq i slot) [
      | inl same ↦
          let there : IsMet new.links.items g (link_at new.links.items old.count) = subst (IsMet new.links.items g) (ap (link_at old.heads.items) same ∙ sym link_now) (still g (link_at old.heads.items i) h) in
          subst (IsMet new.links.items g) (sym head_now ∙ ap (link_at new.heads.items) (sym same)) (behind g there)
      | inr other ↦ subst (IsMet new.links.items g) (sym (ap (λ hs. link_at hs i) m.heads ∙ get_or-set_other old.heads.items slot i (Some old.count) None other)) (still g (link_at old.heads.items i) h)
    ]

    met_own : IsMet new.links.items old.count (Some old.count)
    met_own = (1, inl refl)

    met_now : (g : ℕ) → g < new.count → IsMet new.links.items g (link_at new.heads.items (slot_of (length new.heads.items) (places_of number_of g new.terms.items)))
    met_now g l = elim (cases_lt g old.count) [
      | inl n ↦
          subst (λ i. IsMet new.links.items g (link_at new.heads.items i)) (ap (λ s. slot_of s (places_of number_of g old.terms.items)) (sym slots_stay) ∙ ap (slot_of (length new.heads.items)) (sym (before-places g n)))
          (met_in g (slot_of (length old.heads.items) (places_of number_of g old.terms.items)) (k.met g n))
      | inr n ↦
          let this : g ≡ old.count = omega (arith, l, n, m.count) in
          let here : slot ≡ slot_of (length new.heads.items) (places_of number_of g new.terms.items) =
          own_slot ∙ ap (λ s. slot_of s (map (place_of number_of) row)) (sym slots_stay) ∙ ap (slot_of (length new.heads.items)) (sym (ap (λ i. places_of number_of i new.terms.items) this ∙ added-places)) in
          subst (λ i. IsMet new.links.items g (link_at new.heads.items i)) here (subst (IsMet new.links.items g) (sym head_now) (subst (λ i. IsMet new.links.items i (Some old.count)) (sym this) met_own))
    ]

    different_now : (g h : ℕ) → g < h → h < new.count → places_of number_of g new.terms.items ≢ places_of number_of h new.terms.items
    different_now g h l n e = elim (cases_lt h old.count) [
      | inl b ↦ k.different g h l b (sym (before-places g (omega (arith, l, b))) ∙ e ∙ before-places h b)
      | inr b ↦
          let this : h ≡ old.count = omega (arith, n, b, m.count) in
          let low : g < old.count = omega (arith, l, this) in
          none g low (sym (before-places g low) ∙ e ∙ ap (λ i. places_of number_of i new.terms.items) this ∙ added-places)
    ]

    pub kept-adds : IsKept o number_of width new
    kept-adds = record {
      terms = subst (λ n. AreTerms o n width None new.terms.items) (sym count) (subst (AreTerms o (old.count + 1) width None) (sym terms) (stacked-terms o old.count width old.terms.items row k.terms is_row));
      met = met_now;
      different = different_now;
    }

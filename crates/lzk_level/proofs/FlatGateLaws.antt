-- Gates whose parts stand in one list.
use Rattle.std.specs.Prelude.{◌≡◌, ℕ, ◌+◌, ◌<◌, ◌≤◌, List, [], ◌∷◌, ◌++◌, length, take, Result, Ok, Err, IfOk, OnOk, OnErr, IsErrAnd}
use Rattle.std.proofs.Common.{zero, suc, refl, sym, ap, ap₂, ◌∙◌, arith, subst, get_or}
use Rattle.std.proofs.lemmas.List.{length-append, map-append}
use Rattle.lzk_level.specs.declared.gates.Made.{Made}
use Rattle.lzk_level.specs.declared.gates.Made.TheVariants as stored
use Rattle.lzk_level.specs.Gates.{Gate, Combine}
use Rattle.lzk_level.specs.Nodes.{AreGates}
use Rattle.lzk_level.specs.FlatGates.{gate_in, gates_in, IsSpanned, AreSpanned}
use Rattle.lzk_level.proofs.SpanLaws.{piece-kept, last-piece}

-- what holds anyway
pub on-err : {T E P : Type 0} → (r : Result T E) → P → OnErr r P
on-err (Ok x) p = tt
on-err (Err e) p = p

-- a fault that is handed on answers nothing
pub not-ok : {T E : Type 0} (r : Result T E) (Q : E → Type 0) (P : T → Type 0) → IsErrAnd r Q → IfOk r P
not-ok (Ok x) Q P h = absurd h
not-ok (Err e) Q P h = tt

pub not-on-ok : {T E : Type 0} (P : Type 0) (r : Result T E) (Q : E → Type 0) → IsErrAnd r Q → OnOk r P
not-on-ok P (Ok x) Q h = absurd h
not-on-ok P (Err e) Q h = tt

module _ {A : Type 0} where
  pub wider : (m n : ℕ) (gate : Made A) → m ≤ n → IsSpanned m gate → IsSpanned n gate
  wider m n (stored.Constant c) l h = tt
  wider m n (stored.Combine begin end) l h = (h.0, omega (arith, h.1, l))
  wider m n (stored.Mul x y) l h = tt

  -- a longer list of parts
  pub spanned-wider : (m n : ℕ) (made : List (Made A)) → m ≤ n → AreSpanned m made → AreSpanned n made
  spanned-wider m n [] l h = tt
  spanned-wider m n (g ∷ gs) l h = (wider m n g l h.0, spanned-wider m n gs l h.1)

  -- one more gate
  pub spanned-more : (n : ℕ) (made : List (Made A)) (gate : Made A) → AreSpanned n made → IsSpanned n gate → AreSpanned n (made ++ gate ∷ [])
  spanned-more n [] gate h k = (k, tt)
  spanned-more n (g ∷ gs) gate h k = (h.0, spanned-more n gs gate h.1 k)

  -- the first gates
  pub spanned-take : (n count : ℕ) (made : List (Made A)) → AreSpanned n made → AreSpanned n (take count made)
  spanned-take n zero made h = tt
  spanned-take n (suc count) [] h = tt
  spanned-take n (suc count) (g ∷ gs) h = (h.0, spanned-take n count gs h.1)

  pub spanned-at : (n i : ℕ) (made : List (Made A)) (gate : Made A) → AreSpanned n made → i < length made → gate ≡ get_or made i gate → IsSpanned n gate
  spanned-at n i [] gate h l e = absurd (omega (arith, l))
  spanned-at n zero (g ∷ gs) gate h l e = subst (IsSpanned n) (sym e) h.0
  spanned-at n (suc i) (g ∷ gs) gate h l e = spanned-at n i gs gate h.1 (omega (arith, l)) e

  pub gate-read : (ps : List (A × ℕ)) (made : List (Made A)) (i : ℕ) (gate : Made A) (x : Gate A) → i < length made → gate ≡ get_or made i gate → x ≡ gate_in ps gate → x ≡ get_or (gates_in ps made) i x
  gate-read ps [] i gate x l e f = absurd (omega (arith, l))
  gate-read ps (g ∷ gs) zero gate x l e f = f ∙ ap (gate_in ps) e
  gate-read ps (g ∷ gs) (suc i) gate x l e f = gate-read ps gs i gate x (omega (arith, l)) e f

  pub kept : (ps qs : List (A × ℕ)) (gate : Made A) → IsSpanned (length ps) gate → gate_in (ps ++ qs) gate ≡ gate_in ps gate
  kept ps qs (stored.Constant c) h = refl
  kept ps qs (stored.Combine begin end) h = ap (λ p. Combine p) (piece-kept ps qs (begin, end) h.0 h.1)
  kept ps qs (stored.Mul x y) h = refl

  -- parts behind the others change no gate
  pub gates-kept : (ps qs : List (A × ℕ)) (made : List (Made A)) → AreSpanned (length ps) made → gates_in (ps ++ qs) made ≡ gates_in ps made
  gates-kept ps qs [] h = refl
  gates-kept ps qs (g ∷ gs) h = ap₂ (λ x xs. x ∷ xs) (kept ps qs g h.0) (gates-kept ps qs gs h.1)

  pub gates-with : (ps new : List (A × ℕ)) (qs : List (A × ℕ)) (made : List (Made A)) → new ≡ ps ++ qs → AreSpanned (length ps) made → gates_in new made ≡ gates_in ps made
  gates-with ps new qs made e h = ap (λ ts. gates_in ts made) e ∙ gates-kept ps qs made h

  -- one more gate where a call went well, and else the same gates
  pub spanned-either : {T E : Type 0} (r : Result T E) (n : ℕ) (made new : List (Made A)) (gate : Made A) → AreSpanned n made → IsSpanned n gate → OnOk r (new ≡ made ++ gate ∷ []) → OnErr r (new ≡ made) → AreSpanned n new
  spanned-either (Ok x) n made new gate h k e f = subst (AreSpanned n) (sym e) (spanned-more n made gate h k)
  spanned-either (Err x) n made new gate h k e f = subst (AreSpanned n) (sym f) h

  -- one more sum, of parts behind those of the others
  pub sum-more : (ps new qs : List (A × ℕ)) (made more : List (Made A)) (sum : Made A) → AreSpanned (length ps) made → new ≡ ps ++ qs → sum ≡ stored.Combine (length ps) (length new) → more ≡ made ++ sum ∷ []
      → gates_in new more ≡ gates_in ps made ++ Combine qs ∷ []
  sum-more ps new qs made more sum h e f m =
      let long : length new ≡ length ps + length qs = ap length e ∙ length-append ps qs in
      ap (gates_in new) m ∙ map-append (gate_in new) made (sum ∷ [])
      ∙ ap₂ (λ xs g. xs ++ g ∷ []) (gates-with ps new qs made e h)
      (ap (gate_in new) f ∙ ap (λ ts. gate_in ts (stored.Combine (length ps) (length new))) e ∙ ap (λ p. Combine p) (last-piece ps qs (length new) long))

  -- it stands within the parts, and so do the others
  pub sum-spanned : (ps new qs : List (A × ℕ)) (sum : Made A) → new ≡ ps ++ qs → sum ≡ stored.Combine (length ps) (length new) → IsSpanned (length new) sum
  sum-spanned ps new qs sum e f = subst (IsSpanned (length new)) (sym f) (omega (arith, ap length e, length-append ps qs), omega arith)

  pub spanned-with : (ps new qs : List (A × ℕ)) (made : List (Made A)) → new ≡ ps ++ qs → AreSpanned (length ps) made → AreSpanned (length new) made
  spanned-with ps new qs made e h = spanned-wider (length ps) (length new) made (omega (arith, ap length e, length-append ps qs)) h

  -- the first gates are over those before them
  pub gates-take : (n count : ℕ) (made : List (Gate A)) → AreGates n made → AreGates n (take count made)
  gates-take n zero made h = tt
  gates-take n (suc count) [] h = tt
  gates-take n (suc count) (g ∷ gs) h = (h.0, gates-take (n + 1) count gs h.1)

-- What was read before a word has no other inputs than what was read after it.
use Rattle.std.specs.Prelude.{◌≡◌, ℕ, Bool, true, false, List, [], ◌∷◌, ◌++◌, map, Option, Some, None, if◌then◌else◌}
use Rattle.std.proofs.Common.{refl, sym, subst}
use Rattle.lzk_expr.specs.Trees.{Expr, Parts, NoPart, part, Exprs, NoExpr, factor, add_part, add_factor}
use Rattle.lzk_expr.specs.Meanings.{Half, Reads, Step, Atom, Plus, Minus, Times, Open, Close, Other, multiplied, added, negated, with_atom, parts_of_half, with_part, goes_on, needs, next}
use Rattle.lzk_expr.specs.Codes.{CodeWord, Item, Define, Left, Right, Nameless, Definition, Equation, CodeReads, next_word, then_words, words_read}
use Rattle.lzk_level.specs.Compilable.{IsWithin, ArePartsWithin, AreFactorsWithin, IsStatementWithin, AreStatementsWithin}
use Rattle.lzk_level.specs.Makings.{with_some_name, IsStepWithin, IsWordWithin}
use Rattle.lzk_level.proofs.WordLaws.{with_minus, Closes, Ends, GoesOn, atom-next, plus-next, minus-next, times-next, open-next, close-next, ends-is, item-next, define-next, left-next, right-next}

-- the inputs of what was read are among so many public and private ones
abbrev pub IsHalfWithin : ℕ → ℕ → Half → Type 0
IsHalfWithin p q h = ArePartsWithin p q h.parts × AreFactorsWithin p q h.factors

abbrev pub AreHalvesWithin : ℕ → ℕ → List Half → Type 0
AreHalvesWithin p q [] = Unit {0}
AreHalvesWithin p q (h ∷ hs) = IsHalfWithin p q h × AreHalvesWithin p q hs

abbrev pub IsLeftWithin : ℕ → ℕ → Option Expr → Type 0
IsLeftWithin p q None = Unit {0}
IsLeftWithin p q (Some e) = IsWithin p q e

pub record IsCodeWithin (p q : ℕ) (c : CodeReads) : Type 0 where
  pub done : AreStatementsWithin p q (map with_some_name c.done)
  pub left : IsLeftWithin p q c.left
  pub outer : AreHalvesWithin p q c.reads.outer
  pub now : IsHalfWithin p q c.reads.now

pub same-code : (c d : CodeReads) → Some c ≡ Some d → c ≡ d
same-code c d h = cc

other-at : (b : Bool) (r more : Reads) → (if b then goes_on r Other else needs r Other) ≡ Some more → ⊥
other-at true r more h = absurd cc
other-at false r more h = absurd cc

pub other-next : (r more : Reads) → next r Other ≡ Some more → ⊥
unfolding next
other-next r more h = other-at r.ready r more h

-- ---- inputs
module _ (p q : ℕ) where
  part-within : (ps : Parts) (m : Bool) (e : Expr) → ArePartsWithin p q (add_part ps m e) → ArePartsWithin p q ps × IsWithin p q e
  part-within NoPart m e h = (tt, h.0)
  part-within (part k f ps) m e h = let r = part-within ps m e h.1 in ((h.0, r.0), r.1)

  factor-within : (es : Exprs) (e : Expr) → AreFactorsWithin p q (add_factor es e) → AreFactorsWithin p q es × IsWithin p q e
  factor-within NoExpr e h = (tt, h.0)
  factor-within (factor f es) e h = let r = factor-within es e h.1 in ((h.0, r.0), r.1)

  negated-within : (b : Bool) (e : Expr) → IsWithin p q (negated b e) → IsWithin p q e
  negated-within true e h = h
  negated-within false e h = h

  multiplied-within : (es : Exprs) → IsWithin p q (multiplied es) → AreFactorsWithin p q es
  multiplied-within NoExpr h = tt
  multiplied-within (factor e NoExpr) h = (h, tt)
  multiplied-within (factor e (factor f es)) h = h

  added-within : (ps : Parts) → IsWithin p q (added ps) → ArePartsWithin p q ps
  added-within NoPart h = tt
  added-within (part m e NoPart) h = (h, tt)
  added-within (part m e (part n f ps)) h = h

  atom-within : (h : Half) (e : Expr) → IsHalfWithin p q (with_atom h e) → IsHalfWithin p q h × IsWithin p q e
  atom-within h e w = let r = factor-within h.factors (negated h.negated e) w.1 in ((w.0, r.0), negated-within h.negated e r.1)

  half-within : (h : Half) → ArePartsWithin p q (parts_of_half h) → IsHalfWithin p q h
  half-within h w = let r = part-within h.parts h.minus (multiplied h.factors) w in (r.0, multiplied-within h.factors r.1)

  ended-within : (r : Reads) (e : Expr) → Ends r e → IsWithin p q e → AreHalvesWithin p q r.outer × IsHalfWithin p q r.now
  ended-within r e h w = (
    subst (AreHalvesWithin p q) (sym h.outer_is) tt,
    half-within r.now (added-within (parts_of_half r.now) (subst (IsWithin p q) (sym h.is) w)),
  )

  pub record AreReadsWithin (r : Reads) : Type 0 where
    pub outer : AreHalvesWithin p q r.outer
    pub now : IsHalfWithin p q r.now

  minus-within : (b : Bool) (r : Reads) → AreReadsWithin (if b then with_part r true else with_minus r) → AreReadsWithin r
  minus-within true r w = record { outer = w.outer; now = half-within r.now w.now.0 }
  minus-within false r w = record { outer = w.outer; now = w.now }

  closed-within : (r more : Reads) → Closes r more → AreReadsWithin more → AreReadsWithin r
  closed-within r more c w =
      let old = subst AreReadsWithin (sym c.after) w in
      let a = atom-within c.before (added (parts_of_half r.now)) old.now in
      record {
        outer = subst (AreHalvesWithin p q) (sym c.outer_is) (a.0, old.outer);
        now = half-within r.now (added-within (parts_of_half r.now) a.1);
      }

  -- by a step of an expression
  step-within : (s : Step) (r more : Reads) → next r s ≡ Some more → AreReadsWithin more → AreReadsWithin r × IsStepWithin p q s
  step-within (Atom e) r more h w =
      let old = subst AreReadsWithin (sym (atom-next r more e h)) w in
      let a = atom-within r.now e old.now in
      (record { outer = old.outer; now = a.0 }, a.1)
  step-within Plus r more h w =
      let old = subst AreReadsWithin (sym (plus-next r more h)) w in
      (record { outer = old.outer; now = half-within r.now old.now.0 }, tt)
  step-within Minus r more h w = (minus-within r.ready r (subst AreReadsWithin (sym (minus-next r more h)) w), tt)
  step-within Times r more h w = let old = subst AreReadsWithin (sym (times-next r more h)) w in (record { outer = old.outer; now = old.now }, tt)
  step-within Open r more h w = let old = subst AreReadsWithin (sym (open-next r more h)) w in (record { outer = old.outer.1; now = old.outer.0 }, tt)
  step-within Close r more h w = (closed-within r more (close-next r more h) w, tt)
  step-within Other r more h w = absurd (other-next r more h)

  statement-within : (ds : List Nameless) (d : Nameless) → AreStatementsWithin p q (map with_some_name (ds ++ d ∷ [])) → AreStatementsWithin p q (map with_some_name ds) × IsStatementWithin p q (with_some_name d)
  statement-within [] d h = (tt, h.0)
  statement-within (x ∷ ds) d h = let r = statement-within ds d h.1 in ((h.0, r.0), r.1)

  left-none : (l : Option Expr) → l ≡ None → IsLeftWithin p q l
  left-none l h = subst (IsLeftWithin p q) (sym h) tt

  item-within : (c more : CodeReads) (s : Step) → GoesOn c more s → IsCodeWithin p q more → IsCodeWithin p q c × IsStepWithin p q s
  item-within c more s g w =
      let old = subst (IsCodeWithin p q) (sym g.after) w in
      let r = step-within s c.reads g.reads g.next_is (record { outer = old.outer; now = old.now }) in
      (record { done = old.done; left = old.left; outer = (r.0).outer; now = (r.0).now }, r.1)

  -- by a word
  pub word-within : (word : CodeWord) (c more : CodeReads) → next_word c word ≡ Some more → IsCodeWithin p q more → IsCodeWithin p q c × IsWordWithin p q word
  word-within (Item s) c more h w = item-within c more s (item-next c more s h) w
  word-within Define c more h w =
      let g = define-next c more h in
      let old = subst (IsCodeWithin p q) (sym g.after) w in
      let d = statement-within c.done (Definition g.expr) old.done in
      let e = ended-within c.reads g.expr (ends-is c.reads g.expr g.ends_is) d.1 in
      (record { done = d.0; left = left-none c.left g.left_is; outer = e.0; now = e.1 }, tt)
  word-within Left c more h w =
      let g = left-next c more h in
      let old = subst (IsCodeWithin p q) (sym g.after) w in
      let e = ended-within c.reads g.expr (ends-is c.reads g.expr g.ends_is) old.left in
      (record { done = old.done; left = left-none c.left g.left_is; outer = e.0; now = e.1 }, tt)
  word-within Right c more h w =
      let g = right-next c more h in
      let old = subst (IsCodeWithin p q) (sym g.after) w in
      let d = statement-within c.done (Equation g.left g.right) old.done in
      let e = ended-within c.reads g.right (ends-is c.reads g.right g.ends_is) d.1.1 in
      (record { done = d.0; left = subst (IsLeftWithin p q) (sym g.left_is) d.1.0; outer = e.0; now = e.1 }, tt)

  -- by words
  words-at : (c : CodeReads) (ws : List CodeWord) (end : CodeReads) (word : CodeWord) (o : Option CodeReads) → next_word c word ≡ o → then_words o (λ more. words_read more ws) ≡ Some end
      → ((more : CodeReads) → words_read more ws ≡ Some end → IsCodeWithin p q more) → IsCodeWithin p q c × IsWordWithin p q word
  words-at c ws end word None e h rest = absurd cc
  words-at c ws end word (Some more) e h rest = word-within word c more e (rest more h)

  pub words-within : (ws : List CodeWord) (c end : CodeReads) → words_read c ws ≡ Some end → IsCodeWithin p q end → IsCodeWithin p q c
  unfolding words_read
  words-within [] c end h w = subst (IsCodeWithin p q) (sym (same-code c end h)) w
  words-within (word ∷ ws) c end h w = (words-at c ws end word (next_word c word) refl h (λ more rest. words-within ws more end rest w)).0

  -- the first of them
  pub first-within : (word : CodeWord) (ws : List CodeWord) (c end : CodeReads) → words_read c (word ∷ ws) ≡ Some end → IsCodeWithin p q end → IsWordWithin p q word
  unfolding words_read
  first-within word ws c end h w = (words-at c ws end word (next_word c word) refl h (λ more rest. words-within ws more end rest w)).1

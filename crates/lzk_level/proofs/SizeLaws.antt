-- What was read before a word has no more nodes than what was read after it.
use Rattle.std.specs.Prelude.{◌≡◌, ℕ, ◌+◌, ◌≤◌, Bool, true, false, cond, List, [], ◌∷◌, ◌++◌, map, Option, Some, None, if◌then◌else◌}
use Rattle.std.proofs.Common.{refl, ap, arith}
use Rattle.lzk_expr.specs.Trees.{Expr, Parts, NoPart, part, Exprs, NoExpr, factor, add_part, add_factor, Statement, DeclarePublic, DeclarePrivate}
use Rattle.lzk_expr.specs.Trees as tree
use Rattle.lzk_expr.specs.Meanings.{Half, Reads, Step, Atom, Plus, Minus, Times, Open, Close, Other, multiplied, added, negated, with_atom, parts_of_half, with_part, next}
use Rattle.lzk_expr.specs.Codes.{CodeWord, Item, Define, Left, Right, Nameless, Definition, Equation, CodeReads, code_done, nameless, next_word, then_words, words_read}
use Rattle.lzk_level.specs.Nodes.{Nodes}
use Rattle.lzk_level.specs.Compilable.{size_of, parts_size, factors_size, statement_size, statements_size, AreStatementsWithin}
use Rattle.lzk_level.specs.Compiling.{Scope, is_constant, Made, MadeFactors, made, made_factors}
use Rattle.lzk_level.specs.Makings.{with_some_name, half_parts, half_factors, nodes_behind}
use Rattle.lzk_level.proofs.MadeLaws.{Grown, grown-same, grown-then, made-grown, parts-grown, factors-grown}
use Rattle.lzk_level.proofs.WordLaws.{with_minus, Closes, Ends, atom-next, plus-next, minus-next, times-next, open-next, close-next, ends-is, item-next, define-next, left-next, right-next}
use Rattle.lzk_level.proofs.WithinLaws.{IsCodeWithin, same-code, other-next}

-- ---- sizes

-- what was read has no more nodes
abbrev pub product_size : Exprs → ℕ
product_size NoExpr = 0
product_size (factor e es) = size_of (multiplied (factor e es))

abbrev pub half_size : Half → ℕ
half_size h = parts_size h.parts + product_size h.factors

abbrev pub halves_size : List Half → ℕ
halves_size [] = 0
halves_size (h ∷ hs) = half_size h + halves_size hs

abbrev pub left_size : Option Expr → ℕ
left_size None = 0
left_size (Some e) = size_of e

abbrev pub code_size : CodeReads → ℕ
code_size c =
    statements_size (map with_some_name c.done) + left_size c.left + halves_size (c.reads.now ∷ c.reads.outer)

part-size : (ps : Parts) (m : Bool) (e : Expr) → parts_size (add_part ps m e) ≡ parts_size ps + size_of e
part-size NoPart m e = omega arith
part-size (part k f ps) m e = omega (arith, part-size ps m e)

factor-size : (es : Exprs) (e : Expr) → factors_size (add_factor es e) ≡ factors_size es + 1 + size_of e
factor-size NoExpr e = omega arith
factor-size (factor f es) e = omega (arith, factor-size es e)

product-more : (es : Exprs) (e : Expr) → product_size es + size_of e ≤ product_size (add_factor es e)
product-more NoExpr e = omega arith
product-more (factor f NoExpr) e = omega arith
product-more (factor f (factor g es)) e = omega (arith, factor-size es e)

negated-size : (b : Bool) (e : Expr) → size_of e ≤ size_of (negated b e)
negated-size true e = omega arith
negated-size false e = omega arith

multiplied-size : (es : Exprs) → product_size es ≤ size_of (multiplied es)
multiplied-size NoExpr = omega arith
multiplied-size (factor e es) = omega arith

added-size : (ps : Parts) → parts_size ps ≤ size_of (added ps)
added-size NoPart = omega arith
added-size (part m e NoPart) = omega arith
added-size (part m e (part n f ps)) = omega arith

-- the parts with the product
whole-size : (h : Half) → half_size h ≤ parts_size (parts_of_half h)
whole-size h = omega (arith, part-size h.parts h.minus (multiplied h.factors), multiplied-size h.factors)

sum-size : (h : Half) → half_size h ≤ size_of (added (parts_of_half h))
sum-size h = omega (arith, whole-size h, added-size (parts_of_half h))

atom-size : (h : Half) (e : Expr) → half_size h + size_of e ≤ half_size (with_atom h e)
atom-size h e = omega (arith, product-more h.factors (negated h.negated e), negated-size h.negated e)

-- of all that is read of an expression
abbrev pub reads_size : Reads → ℕ
reads_size r = halves_size (r.now ∷ r.outer)

-- ---- step by step

minus-size : (b : Bool) (r : Reads) → reads_size r ≤ reads_size (if b then with_part r true else with_minus r)
minus-size true r = omega (arith, whole-size r.now)
minus-size false r = omega arith

closed-size : (r more : Reads) → Closes r more → reads_size r ≤ reads_size more
closed-size r more c =
    omega (arith, atom-size c.before (added (parts_of_half r.now)), sum-size r.now, ap halves_size c.outer_is, ap reads_size c.after)

step-size : (s : Step) (r more : Reads) → next r s ≡ Some more → reads_size r ≤ reads_size more
step-size (Atom e) r more h = omega (arith, atom-size r.now e, ap reads_size (atom-next r more e h))
step-size Plus r more h = omega (arith, whole-size r.now, ap reads_size (plus-next r more h))
step-size Minus r more h = omega (arith, minus-size r.ready r, ap reads_size (minus-next r more h))
step-size Times r more h = omega (arith, ap reads_size (times-next r more h))
step-size Open r more h = omega (arith, ap reads_size (open-next r more h))
step-size Close r more h = closed-size r more (close-next r more h)
step-size Other r more h = absurd (other-next r more h)

ended-size : (r : Reads) (e : Expr) → Ends r e → reads_size r ≤ size_of e
ended-size r e h = omega (arith, sum-size r.now, ap size_of h.is, ap halves_size h.outer_is)

done-size : (ds : List Nameless) (d : Nameless) → statements_size (map with_some_name (ds ++ d ∷ [])) ≡ statements_size (map with_some_name ds) + statement_size (with_some_name d)
done-size [] d = omega arith
done-size (x ∷ ds) d = omega (arith, done-size ds d)

pub word-size : (word : CodeWord) (c more : CodeReads) → next_word c word ≡ Some more → code_size c ≤ code_size more
word-size (Item s) c more h = let g = item-next c more s h in omega (arith, step-size s c.reads g.reads g.next_is, ap code_size g.after)
word-size Define c more h =
    let g = define-next c more h in
    omega (arith, ended-size c.reads g.expr (ends-is c.reads g.expr g.ends_is), done-size c.done (Definition g.expr), ap left_size g.left_is, ap code_size g.after)
word-size Left c more h =
    let g = left-next c more h in
    omega (arith, ended-size c.reads g.expr (ends-is c.reads g.expr g.ends_is), ap left_size g.left_is, ap code_size g.after)
word-size Right c more h =
    let g = right-next c more h in
    omega (arith, ended-size c.reads g.right (ends-is c.reads g.right g.ends_is), done-size c.done (Equation g.left g.right), ap left_size g.left_is, ap code_size g.after)

words-at : (c : CodeReads) (ws : List CodeWord) (end : CodeReads) (word : CodeWord) (o : Option CodeReads) → next_word c word ≡ o → then_words o (λ more. words_read more ws) ≡ Some end
    → ((more : CodeReads) → words_read more ws ≡ Some end → code_size more ≤ code_size end) → code_size c ≤ code_size end
words-at c ws end word None e h rest = absurd cc
words-at c ws end word (Some more) e h rest = omega (arith, word-size word c more e, rest more h)

pub words-size : (ws : List CodeWord) (c end : CodeReads) → words_read c ws ≡ Some end → code_size c ≤ code_size end
unfolding words_read
words-size [] c end h = omega (arith, ap code_size (same-code c end h))
words-size (word ∷ ws) c end h = words-at c ws end word (next_word c word) refl h (λ more rest. words-size ws more end rest)

-- ---- of whole statements

pub nameless-size : (ss : List Statement) → statements_size (map with_some_name (nameless ss)) ≡ statements_size ss
nameless-size [] = refl
nameless-size (DeclarePublic w ∷ ss) = omega (arith, nameless-size ss)
nameless-size (DeclarePrivate w ∷ ss) = omega (arith, nameless-size ss)
nameless-size (tree.Define w e ∷ ss) = omega (arith, nameless-size ss)
nameless-size (tree.Assertion e f ∷ ss) = omega (arith, nameless-size ss)

pub end-size : (ss : List Statement) → code_size (code_done (nameless ss)) ≡ statements_size ss
end-size ss = omega (arith, nameless-size ss)

nameless-within : (p q : ℕ) (ss : List Statement) → AreStatementsWithin p q ss → AreStatementsWithin p q (map with_some_name (nameless ss))
nameless-within p q [] h = tt
nameless-within p q (DeclarePublic w ∷ ss) h = nameless-within p q ss h.1
nameless-within p q (DeclarePrivate w ∷ ss) h = nameless-within p q ss h.1
nameless-within p q (tree.Define w e ∷ ss) h = (h.0, nameless-within p q ss h.1)
nameless-within p q (tree.Assertion e f ∷ ss) h = (h.0, nameless-within p q ss h.1)

pub end-within : (p q : ℕ) (ss : List Statement) → AreStatementsWithin p q ss → IsCodeWithin p q (code_done (nameless ss))
end-within p q ss h = record { done = nameless-within p q ss h; left = tt; outer = tt; now = (tt, tt) }

-- ---- nodes
module _ {A : Type 0} where
  lone-at : (b : Bool) (n : Nodes A) (m : Made A) (most : ℕ) → Grown n m.nodes most → (let f : MadeFactors A = cond b (record { nodes = n; node = None }) (record { nodes = m.nodes; node = Some m.node }) in Grown n f.nodes most)
  lone-at true n m most g = grown-same n most
  lone-at false n m most g = g

module _ {A : Type 0} (s : Scope A) where
  product-grown : (n : Nodes A) (es : Exprs) → Grown n (made_factors s n None es).nodes (product_size es)
  product-grown n NoExpr = grown-same n 0
  product-grown n (factor e NoExpr) = lone-at (is_constant s e) n (made s n e) (size_of e) (made-grown s n e)
  product-grown n (factor e (factor f es)) =
      let all = factor e (factor f es) in
      let m = (made_factors s n None all).nodes in
      grown-then n m m (factors_size all) 0 (1 + factors_size all) (factors-grown s n None all) (grown-same m 0) (omega arith)

  pub half-grown : (n : Nodes A) (h : Half) → Grown n (half_factors s n h).nodes (half_size h)
  half-grown n h =
      let p = (half_parts s n h).nodes in
      grown-then n p (half_factors s n h).nodes (parts_size h.parts) (product_size h.factors) (half_size h) (parts-grown s n h.parts) (product-grown p h.factors) (omega arith)

  pub behind-grown : (n : Nodes A) (hs : List Half) → Grown n (nodes_behind s n hs) (halves_size hs)
  behind-grown n [] = grown-same n 0
  behind-grown n (h ∷ hs) =
      let base = nodes_behind s n hs in
      grown-then n base (nodes_behind s n (h ∷ hs)) (halves_size hs) (half_size h) (halves_size (h ∷ hs)) (behind-grown n hs) (half-grown base h) (omega arith)

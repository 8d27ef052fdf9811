-- Sources with one code are alike.
use Rattle.std.specs.Prelude.{◌≡◌, ℕ, ◌+◌, List, [], ◌∷◌, map, count_by, cond}
use Rattle.std.proofs.Common.{refl, sym, ap, ◌∙◌, arith, subst}
use Rattle.std.proofs.lemmas.List.Sums.{sum_by-cons}
use Rattle.lzk_field.specs.Ring.{Ops, RingLaws}
use Rattle.lzk_expr.specs.Trees.{Statement, SourceTree, DeclarePublic, DeclarePrivate, is_public, is_private, is_assertion}
use Rattle.lzk_expr.specs.Trees as tree
use Rattle.lzk_expr.specs.Codes.{CodeReads, Coded, IsCodeOf, IsSomeCode, code_words, code_done, nameless}
use Rattle.lzk_level.specs.Compilable.{AreStatementsWithin, statements_size}
use Rattle.lzk_level.specs.Compiled.{IsCompilable}
use Rattle.lzk_level.specs.Finished.{AreBuilt}
use Rattle.lzk_level.specs.Steps.{Held}
use Rattle.lzk_level.specs.Makings.{IsOnTheWay, with_some_name}
use Rattle.lzk_level.proofs.FormedLaws.{compilable}
use Rattle.lzk_level.proofs.SizeLaws.{nameless-size, end-within}
use Rattle.lzk_level.proofs.WayLaws.{source-nodes, source-outputs}
use Rattle.lzk_level.proofs.WayRoom.{same-end}

one-more : (t : Statement) (ss : List Statement) → count_by is_assertion (t ∷ ss) ≡ cond (is_assertion t) 1 0 + count_by is_assertion ss
one-more t ss = sum_by-cons (λ x. cond (is_assertion x) 1 0) t ss

nameless-assertions : (ss : List Statement) → count_by is_assertion (map with_some_name (nameless ss)) ≡ count_by is_assertion ss
nameless-assertions [] = refl
nameless-assertions (DeclarePublic w ∷ ss) = omega (arith, one-more (DeclarePublic w) ss, nameless-assertions ss)
nameless-assertions (DeclarePrivate w ∷ ss) = omega (arith, one-more (DeclarePrivate w) ss, nameless-assertions ss)
nameless-assertions (tree.Define w e ∷ ss) =
    omega (arith, one-more (tree.Define w e) ss, one-more (tree.Define [] e) (map with_some_name (nameless ss)), nameless-assertions ss)
nameless-assertions (tree.Assertion e f ∷ ss) =
    omega (arith, one-more (tree.Assertion e f) ss, one-more (tree.Assertion e f) (map with_some_name (nameless ss)), nameless-assertions ss)

within-nameless : (p q : ℕ) (ss : List Statement) → AreStatementsWithin p q (map with_some_name (nameless ss)) → AreStatementsWithin p q ss
within-nameless p q [] h = tt
within-nameless p q (DeclarePublic w ∷ ss) h = (tt, within-nameless p q ss h)
within-nameless p q (DeclarePrivate w ∷ ss) h = (tt, within-nameless p q ss h)
within-nameless p q (tree.Define w e ∷ ss) h = (h.0, within-nameless p q ss h.1)
within-nameless p q (tree.Assertion e f ∷ ss) h = (h.0, within-nameless p q ss h.1)

compilable-same : (ss ts : List Statement) → nameless ss ≡ nameless ts → count_by is_public ss ≡ count_by is_public ts → count_by is_private ss ≡ count_by is_private ts → IsCompilable ss → IsCompilable ts
compilable-same ss ts e pe qe h =
    let asserts = ap (λ ds. count_by is_assertion (map with_some_name ds)) e in
    let size = ap (λ ds. statements_size (map with_some_name ds)) e in
    let p = count_by is_public ss in
    let q = count_by is_private ss in
    let inputs = within-nameless p q ts (subst (λ ds. AreStatementsWithin p q (map with_some_name ds)) e (end-within p q ss h.inputs).done) in
    record {
      publics = omega (arith, h.publics, pe);
      privates = omega (arith, h.privates, qe);
      some = omega (arith, h.some, asserts, nameless-assertions ss, nameless-assertions ts);
      asserts = omega (arith, h.asserts, asserts, nameless-assertions ss, nameless-assertions ts);
      inputs = subst (λ n. AreStatementsWithin n (count_by is_private ts) ts) pe (subst (λ n. AreStatementsWithin p n ts) qe inputs);
      room = omega (arith, h.room, size, nameless-size ss, nameless-size ts);
    }

-- each source that the code is of can be compiled
pub code-compilable : (c : Coded) (s : SourceTree) → IsSomeCode c → IsCodeOf c s → IsCompilable s.statements
code-compilable c s some is =
    compilable-same some.source.statements s.statements
    (ap (λ (r : CodeReads). r.done) (same-end some.source.statements s.statements (code_words c.numbers c.words) some.is.words_are is.words_are))
    (sym some.is.publics_are ∙ is.publics_are) (sym some.is.privates_are ∙ is.privates_are) (compilable some.source some.formed)

module _ {A : Type 0} (o : Ops A) (r : RingLaws o) (element : ℕ → A) (c : Coded) (some : IsSomeCode c) (m : Held A) where
  pub code-built : (s : SourceTree) → IsCodeOf c s → IsOnTheWay o element c.publics c.privates [] (code_done (nameless s.statements)) m → AreBuilt o element s.statements m.nodes m.outputs
  code-built s is way = record {
    compilable = code-compilable c s some is;
    nodes = source-nodes o r element c.publics c.privates s.statements m way is.publics_are is.privates_are;
    outputs_are = source-outputs o r element c.publics c.privates s.statements m way is.publics_are is.privates_are;
  }

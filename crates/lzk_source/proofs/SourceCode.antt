-- The code of a source's statements, one by one.
use Rattle.std.proofs.Common.{◌≡◌, ℕ, zero, suc, ◌+◌, ◌<◌, ◌≤◌, false, List, [], ◌∷◌, ◌++◌, length, take, get_or, sym, ◌∙◌, ap, subst, arith}
use Rattle.std.proofs.lemmas.List.{map-append, append-nil, take_more, take_all}
use Rattle.lzk_expr.specs.declared.ast.FieldId.{FieldId}
use Rattle.lzk_expr.specs.declared.ast.Statement as memory
use Rattle.lzk_source.specs.declared.tree_code.Written.{Written}
use Rattle.lzk_expr.specs.Trees.{Statement, DeclarePublic, DeclarePrivate, Define, Assertion, SourceTree}
use Rattle.lzk_expr.specs.Sources.{IsWellFormed}
use Rattle.lzk_expr.specs.View.{statement_of, statements_of}
use Rattle.lzk_expr.specs.Built.{Leaf, Fits, BuiltFrom}
use Rattle.lzk_expr.specs.Codes.{AreCodeOf, code_words}
use Rattle.lzk_source.specs.TreeSteps.{HoldsCode, HasShapes}
use Rattle.lzk_expr.proofs.Built.{is_built}
use Rattle.lzk_expr.proofs.Canonical.{good_map}

abbrev AreShaped : List Statement → Type 0
AreShaped [] = Unit {0}
AreShaped (s ∷ ss) = HasShapes s × AreShaped ss

fits_shaped : (f : FieldId) (ss : List Statement) (s : Statement) → Fits f ss s → HasShapes s
fits_shaped f ss (DeclarePublic w) h = tt
fits_shaped f ss (DeclarePrivate w) h = tt
fits_shaped f ss (Define w e) h = good_map (Leaf f ss) (λ x. Unit {0}) (λ x k. tt) e h.1.leaves
fits_shaped f ss (Assertion e d) h = (good_map (Leaf f ss) (λ x. Unit {0}) (λ x k. tt) e h.0.leaves, good_map (Leaf f ss) (λ x. Unit {0}) (λ x k. tt) d h.1.leaves)

built_shaped : (f : FieldId) (ss ts : List Statement) → BuiltFrom f ss ts → AreShaped ts
built_shaped f ss [] h = tt
built_shaped f ss (t ∷ ts) h = (fits_shaped f ss t h.0, built_shaped f (ss ++ (t ∷ [])) ts h.1)

at_index : (ms : List memory.Statement) (i : ℕ) (m : memory.Statement) → i < length ms → m ≡ get_or ms i m → AreShaped (statements_of ms) → HasShapes (statement_of m)
at_index [] i m l is h = absurd (omega (arith, l))
at_index (x ∷ ms) zero m l is h = subst (λ y. HasShapes (statement_of y)) (sym is) h.0
at_index (x ∷ ms) (suc i) m l is h = at_index ms i m (omega (arith, l)) is h.1

-- a statement of a source has its shape
pub shaped_at : (source : SourceTree) (ms : List memory.Statement) (i : ℕ) (m : memory.Statement) → IsWellFormed source → source.statements ≡ statements_of ms → i < length ms → m ≡ get_or ms i m → HasShapes (statement_of m)
shaped_at source ms i m formed e l is = at_index ms i m l is (subst AreShaped e (built_shaped source.field_is [] source.statements (is_built source formed).built))

-- one statement more
pub taken_more : (ms : List memory.Statement) (i : ℕ) (m : memory.Statement) → i < length ms → m ≡ get_or ms i m → statements_of (take (i + 1) ms) ≡ statements_of (take i ms) ++ statement_of m ∷ []
taken_more ms i m l is =
    ap statements_of (take_more ms i m l ∙ ap (λ x. take i ms ++ x ∷ []) (sym is))
    ∙ map-append statement_of (take i ms) (m ∷ [])

-- all of them
pub all_held : (w : Written) (i : ℕ) (ms all : List memory.Statement) → length ms ≤ i → ms ≡ all → w.lost ≡ false → HoldsCode w (statements_of (take i ms)) → AreCodeOf (statements_of all) (code_words w.numbers.items w.words.items)
all_held w i ms all l e kept h =
    subst (λ ss. AreCodeOf (statements_of ss) (code_words w.numbers.items w.words.items)) (take_all i ms l ∙ e)
    (subst (λ ns. AreCodeOf (statements_of (take i ms)) (code_words ns w.words.items)) (append-nil w.numbers.items) (h kept []))

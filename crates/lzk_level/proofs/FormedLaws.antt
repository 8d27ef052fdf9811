-- A source that is well formed can be compiled.
use Rattle.std.specs.Prelude.{◌≡◌, ℕ, ◌+◌, ◌<◌, ◌≤◌, Bool, true, false, cond, List, [], ◌∷◌, ◌++◌, Option, Some, count_by}
use Rattle.std.specs.List.{list_any}
use Rattle.std.specs.Str.{bytes_eq}
use Rattle.std.proofs.Common.{zero, suc, refl, ap, ◌∙◌, arith}
use Rattle.std.proofs.lemmas.List.Sums.{sum_by-cons}
use Rattle.lzk_profile.specs.Profile.{most_privates}
use Rattle.lzk_expr.specs.declared.ast.FieldId.{FieldId}
use Rattle.lzk_expr.specs.Trees.{Expr, Number, PublicInput, PrivateInput, Named, Neg, Added, Multiplied, Parts, NoPart, part, Exprs, NoExpr, factor, Statement, DeclarePublic, DeclarePrivate, Define, Assertion, SourceTree, declared_from, is_public, is_private, is_assertion}
use Rattle.lzk_expr.specs.Sources.{IsWellFormed}
use Rattle.lzk_expr.proofs.Built.{Leaf, Fits, BuiltFrom, is_built}
use Rattle.lzk_expr.proofs.Canonical.{Good, GoodParts, GoodFactors}
use Rattle.lzk_expr.proofs.Tables.{count_more}
use Rattle.lzk_expr.proofs.TextLaws.{no_count}
use Rattle.lzk_level.specs.Compilable.{IsWithin, ArePartsWithin, AreFactorsWithin, IsStatementWithin, AreStatementsWithin}
use Rattle.lzk_level.specs.Compiled.{IsCompilable}
use Rattle.lzk_level.proofs.FormedSizes.{formed-size}

count-cons : (p : Statement → Bool) (s : Statement) (ss : List Statement) → count_by p (s ∷ ss) ≡ cond (p s) 1 0 + count_by p ss
count-cons p s ss = sum_by-cons (λ x. cond (p x) 1 0) s ss

-- ---- a declared input is one of those that are declared
some-expr : (x y : Expr) → (let P : Option Expr = Some x in P) ≡ Some y → x ≡ y
some-expr x y e = cc

found-public : (b : Bool) (p i : ℕ) (o : Option Expr) (n : ℕ) → cond b (Some (PublicInput p)) o ≡ Some (PublicInput i) → p < n → (o ≡ Some (PublicInput i) → i < n) → i < n
found-public true p i o n e l f = let same : p ≡ i = cc in omega (arith, same, l)
found-public false p i o n e l f = f e

found-other : (b : Bool) (x : Expr) (i : ℕ) (o : Option Expr) (n : ℕ) → (x ≡ PublicInput i → ⊥) → cond b (Some x) o ≡ Some (PublicInput i) → (o ≡ Some (PublicInput i) → i < n) → i < n
found-other true x i o n apart e f = absurd (apart (some-expr x (PublicInput i) e))
found-other false x i o n apart e f = f e

declared-public : (p q l : ℕ) (ss : List Statement) (w : List ℕ) (i : ℕ) → declared_from p q l ss w ≡ Some (PublicInput i) → i < p + count_by is_public ss
declared-public p q l [] w i e = absurd cc
declared-public p q l (DeclarePublic v ∷ ss) w i e =
    let k = count-cons is_public (DeclarePublic v) ss in
    found-public (bytes_eq v w) p i (declared_from (p + 1) q l ss w) (p + count_by is_public (DeclarePublic v ∷ ss)) e (omega (arith, k)) (λ f. omega (arith, declared-public (p + 1) q l ss w i f, k))
declared-public p q l (DeclarePrivate v ∷ ss) w i e =
    let k = count-cons is_public (DeclarePrivate v) ss in
    found-other (bytes_eq v w) (PrivateInput q) i (declared_from p (q + 1) l ss w) (p + count_by is_public (DeclarePrivate v ∷ ss)) (λ f. absurd cc) e (λ f. omega (arith, declared-public p (q + 1) l ss w i f, k))
declared-public p q l (Define v x ∷ ss) w i e =
    let k = count-cons is_public (Define v x) ss in
    found-other (bytes_eq v w) (Named l) i (declared_from p q (l + 1) ss w) (p + count_by is_public (Define v x ∷ ss)) (λ f. absurd cc) e (λ f. omega (arith, declared-public p q (l + 1) ss w i f, k))
declared-public p q l (Assertion x y ∷ ss) w i e = omega (arith, declared-public p q l ss w i e, count-cons is_public (Assertion x y) ss)

found-private : (b : Bool) (p i : ℕ) (o : Option Expr) (n : ℕ) → cond b (Some (PrivateInput p)) o ≡ Some (PrivateInput i) → p < n → (o ≡ Some (PrivateInput i) → i < n) → i < n
found-private true p i o n e l f = let same : p ≡ i = cc in omega (arith, same, l)
found-private false p i o n e l f = f e

found-others : (b : Bool) (x : Expr) (i : ℕ) (o : Option Expr) (n : ℕ) → (x ≡ PrivateInput i → ⊥) → cond b (Some x) o ≡ Some (PrivateInput i) → (o ≡ Some (PrivateInput i) → i < n) → i < n
found-others true x i o n apart e f = absurd (apart (some-expr x (PrivateInput i) e))
found-others false x i o n apart e f = f e

declared-private : (p q l : ℕ) (ss : List Statement) (w : List ℕ) (i : ℕ) → declared_from p q l ss w ≡ Some (PrivateInput i) → i < q + count_by is_private ss
declared-private p q l [] w i e = absurd cc
declared-private p q l (DeclarePrivate v ∷ ss) w i e =
    let k = count-cons is_private (DeclarePrivate v) ss in
    found-private (bytes_eq v w) q i (declared_from p (q + 1) l ss w) (q + count_by is_private (DeclarePrivate v ∷ ss)) e (omega (arith, k)) (λ f. omega (arith, declared-private p (q + 1) l ss w i f, k))
declared-private p q l (DeclarePublic v ∷ ss) w i e =
    let k = count-cons is_private (DeclarePublic v) ss in
    found-others (bytes_eq v w) (PublicInput p) i (declared_from (p + 1) q l ss w) (q + count_by is_private (DeclarePublic v ∷ ss)) (λ f. absurd cc) e (λ f. omega (arith, declared-private (p + 1) q l ss w i f, k))
declared-private p q l (Define v x ∷ ss) w i e =
    let k = count-cons is_private (Define v x) ss in
    found-others (bytes_eq v w) (Named l) i (declared_from p q (l + 1) ss w) (q + count_by is_private (Define v x ∷ ss)) (λ f. absurd cc) e (λ f. omega (arith, declared-private p q (l + 1) ss w i f, k))
declared-private p q l (Assertion x y ∷ ss) w i e = omega (arith, declared-private p q l ss w i e, count-cons is_private (Assertion x y) ss)

-- ---- the inputs of an expression are declared
module _ (f : FieldId) (ss : List Statement) (p q : ℕ) (lp : count_by is_public ss ≤ p) (lq : count_by is_private ss ≤ q) where
  mutual
    good-within : (e : Expr) → Good (Leaf f ss) e → IsWithin p q e
    good-within (Number n) h = tt
    good-within (PublicInput i) h = omega (arith, declared-public 0 0 0 ss h.0 i h.1, lp)
    good-within (PrivateInput i) h = omega (arith, declared-private 0 0 0 ss h.0 i h.1, lq)
    good-within (Named i) h = tt
    good-within (Neg e) h = good-within e h
    good-within (Added ps) h = parts-within ps h.1
    good-within (Multiplied es) h = factors-within es h.1

    parts-within : (ps : Parts) → GoodParts (Leaf f ss) ps → ArePartsWithin p q ps
    parts-within NoPart h = tt
    parts-within (part m e ps) h = (good-within e h.0, parts-within ps h.1)

    factors-within : (es : Exprs) → GoodFactors (Leaf f ss) es → AreFactorsWithin p q es
    factors-within NoExpr h = tt
    factors-within (factor e es) h = (good-within e h.0, factors-within es h.1)

  fits-within : (t : Statement) → Fits f ss t → IsStatementWithin p q t
  fits-within (DeclarePublic w) h = tt
  fits-within (DeclarePrivate w) h = tt
  fits-within (Define w e) h = let good = h.1 in good-within e good.leaves
  fits-within (Assertion e d) h = let one = h.0 in let two = h.1 in (good-within e one.leaves, good-within d two.leaves)

count-next : (p : Statement → Bool) (ss ts : List Statement) (t : Statement) → count_by p (ss ++ t ∷ []) + count_by p ts ≡ count_by p ss + count_by p (t ∷ ts)
count-next p ss ts t = omega (arith, count_more p ss t, count-cons p t ts)

built-within : (f : FieldId) (ss ts : List Statement) (p q : ℕ) → BuiltFrom f ss ts → count_by is_public ss + count_by is_public ts ≤ p → count_by is_private ss + count_by is_private ts ≤ q → AreStatementsWithin p q ts
built-within f ss [] p q h a b = tt
built-within f ss (t ∷ ts) p q h a b = (
  fits-within f ss p q (omega (arith, a)) (omega (arith, b)) t h.0,
  built-within f (ss ++ t ∷ []) ts p q h.1 (omega (arith, a, count-next is_public ss ts t)) (omega (arith, b, count-next is_private ss ts t)),
)

-- ---- no count passes its limit
count-step : (p : Statement → Bool) (b : Bool) (t : Statement) (n m most : ℕ) → p t ≡ b → m ≡ n + cond (p t) 1 0 → n ≤ most → (b ≡ true → n + 1 ≤ most) → m ≤ most
count-step p true t n m most e is l f = let g : m ≡ n + 1 = is ∙ ap (λ c. n + cond c 1 0) e in omega (arith, g, f refl)
count-step p false t n m most e is l f = let g : m ≡ n + 0 = is ∙ ap (λ c. n + cond c 1 0) e in omega (arith, g, l)

built-count : (p : Statement → Bool) (most : ℕ) (f : FieldId) → ((ss : List Statement) (t : Statement) → Fits f ss t → p t ≡ true → count_by p ss + 1 ≤ most) → (ss ts : List Statement) → BuiltFrom f ss ts → count_by p ss ≤ most → count_by p ss + count_by p ts ≤ most
built-count p most f room ss [] h l = omega (arith, l)
built-count p most f room ss (t ∷ ts) h l =
    let next = count-step p (p t) t (count_by p ss) (count_by p (ss ++ t ∷ [])) most refl (count_more p ss t) l (λ e. room ss t h.0 e) in
    omega (arith, built-count p most f room (ss ++ t ∷ []) ts h.1 next, count-next p ss ts t)

room-public : (f : FieldId) (ss : List Statement) (t : Statement) → Fits f ss t → is_public t ≡ true → count_by is_public ss + 1 ≤ 65535
room-public f ss (DeclarePublic w) h e = h.1
room-public f ss (DeclarePrivate w) h e = absurd cc
room-public f ss (Define w x) h e = absurd cc
room-public f ss (Assertion x y) h e = absurd cc

room-private : (f : FieldId) (ss : List Statement) (t : Statement) → Fits f ss t → is_private t ≡ true → count_by is_private ss + 1 ≤ most_privates
room-private f ss (DeclarePublic w) h e = absurd cc
room-private f ss (DeclarePrivate w) h e = h.1
room-private f ss (Define w x) h e = absurd cc
room-private f ss (Assertion x y) h e = absurd cc

room-assertion : (f : FieldId) (ss : List Statement) (t : Statement) → Fits f ss t → is_assertion t ≡ true → count_by is_assertion ss + 1 ≤ 131072
room-assertion f ss (DeclarePublic w) h e = absurd cc
room-assertion f ss (DeclarePrivate w) h e = absurd cc
room-assertion f ss (Define w x) h e = absurd cc
room-assertion f ss (Assertion x y) h e = omega (arith, h.2)

some-assertion : (n : ℕ) (ss : List Statement) → count_by is_assertion ss ≡ n → list_any is_assertion ss ≡ true → 1 ≤ n
some-assertion zero ss e h = let no = no_count is_assertion ss e in absurd cc
some-assertion (suc n) ss e h = omega arith

pub compilable : (s : SourceTree) → IsWellFormed s → IsCompilable s.statements
compilable s h =
    let b = is_built s h in
    let f = s.field_is in
    let ss = s.statements in
    let zero-public : count_by is_public [] ≡ 0 = refl in
    let zero-private : count_by is_private [] ≡ 0 = refl in
    let zero-assertion : count_by is_assertion [] ≡ 0 = refl in
    record {
      publics = omega (arith, built-count is_public 65535 f (room-public f) [] ss b.built (omega (arith, zero-public)), zero-public);
      privates = omega (arith, built-count is_private most_privates f (room-private f) [] ss b.built (omega (arith, zero-private)), zero-private);
      some = some-assertion (count_by is_assertion ss) ss refl b.some;
      asserts = omega (arith, built-count is_assertion 131072 f (room-assertion f) [] ss b.built (omega (arith, zero-assertion)), zero-assertion);
      inputs = built-within f [] ss (count_by is_public ss) (count_by is_private ss) b.built (omega (arith, zero-public)) (omega (arith, zero-private));
      room = omega (arith, formed-size s h);
    }

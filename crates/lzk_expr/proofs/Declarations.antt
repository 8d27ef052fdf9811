-- One more declaration behind the others.
use Rattle.std.proofs.Common.{◌≡◌, ℕ, ◌+◌, Bool, true, false, cond, List, [], ◌∷◌, ◌++◌, Option, Some, None, refl, ◌∙◌, ap, arith, bytes_eq}
use Rattle.std.specs.Prelude.{count_by}
use Rattle.std.proofs.lemmas.List.Sums.{sum_by-cons}
use Rattle.lzk_expr.specs.Readers.{is_define}
use Rattle.lzk_expr.specs.Trees.{Expr, PublicInput, PrivateInput, Named, Statement, DeclarePublic, DeclarePrivate, Define, Assertion, declared_from, is_public, is_private}

abbrev pub or_first : Option Expr → Option Expr → Option Expr
or_first None y = y
or_first (Some x) y = Some x

head_at : (b : Bool) (x : Expr) (r s y : Option Expr) → r ≡ or_first s y → cond b (Some x) r ≡ or_first (cond b (Some x) s) y
head_at true x r s y e = refl
head_at false x r s y e = e

abbrev pub public_at : ℕ → List ℕ → List ℕ → Option Expr
public_at n v w = cond (bytes_eq v w) (Some (PublicInput n)) None

-- a public input behind the statements: found where no earlier one has its name, by the count of those before
pub declared_public : (p q l : ℕ) (ss : List Statement) (v w : List ℕ) → declared_from p q l (ss ++ (DeclarePublic v ∷ [])) w ≡ or_first (declared_from p q l ss w) (public_at (p + count_by is_public ss) v w)
declared_public p q l [] v w = let e : p ≡ p + 0 = omega arith in ap (λ n. public_at n v w) e
declared_public p q l (DeclarePublic u ∷ ss) v w =
    let k : count_by is_public (DeclarePublic u ∷ ss) ≡ 1 + count_by is_public ss = sum_by-cons (λ x. cond (is_public x) 1 0) (DeclarePublic u) ss in
    let e : (p + 1) + count_by is_public ss ≡ p + count_by is_public (DeclarePublic u ∷ ss) = omega (arith, k) in
    head_at (bytes_eq u w) (PublicInput p) _ _ _ (declared_public (p + 1) q l ss v w) ∙ ap (λ n. or_first (declared_from p q l (DeclarePublic u ∷ ss) w) (public_at n v w)) e
declared_public p q l (DeclarePrivate u ∷ ss) v w = head_at (bytes_eq u w) _ _ _ _ (declared_public p (q + 1) l ss v w)
declared_public p q l (Define u x ∷ ss) v w = head_at (bytes_eq u w) _ _ _ _ (declared_public p q (l + 1) ss v w)
declared_public p q l (Assertion x y ∷ ss) v w = declared_public p q l ss v w

abbrev pub private_at : ℕ → List ℕ → List ℕ → Option Expr
private_at n v w = cond (bytes_eq v w) (Some (PrivateInput n)) None

-- a private input behind the statements
pub declared_private : (p q l : ℕ) (ss : List Statement) (v w : List ℕ) → declared_from p q l (ss ++ (DeclarePrivate v ∷ [])) w ≡ or_first (declared_from p q l ss w) (private_at (q + count_by is_private ss) v w)
declared_private p q l [] v w = let e : q ≡ q + 0 = omega arith in ap (λ n. private_at n v w) e
declared_private p q l (DeclarePrivate u ∷ ss) v w =
    let k : count_by is_private (DeclarePrivate u ∷ ss) ≡ 1 + count_by is_private ss = sum_by-cons (λ x. cond (is_private x) 1 0) (DeclarePrivate u) ss in
    let e : (q + 1) + count_by is_private ss ≡ q + count_by is_private (DeclarePrivate u ∷ ss) = omega (arith, k) in
    head_at (bytes_eq u w) (PrivateInput q) _ _ _ (declared_private p (q + 1) l ss v w) ∙ ap (λ n. or_first (declared_from p q l (DeclarePrivate u ∷ ss) w) (private_at n v w)) e
declared_private p q l (DeclarePublic u ∷ ss) v w = head_at (bytes_eq u w) _ _ _ _ (declared_private (p + 1) q l ss v w)
declared_private p q l (Define u x ∷ ss) v w = head_at (bytes_eq u w) _ _ _ _ (declared_private p q (l + 1) ss v w)
declared_private p q l (Assertion x y ∷ ss) v w = declared_private p q l ss v w

abbrev pub let_at : ℕ → List ℕ → List ℕ → Option Expr
let_at n v w = cond (bytes_eq v w) (Some (Named n)) None

-- a let name behind the statements
pub declared_let : (p q l : ℕ) (ss : List Statement) (v w : List ℕ) (e : Expr) → declared_from p q l (ss ++ (Define v e ∷ [])) w ≡ or_first (declared_from p q l ss w) (let_at (l + count_by is_define ss) v w)
declared_let p q l [] v w e = let k : l ≡ l + 0 = omega arith in ap (λ n. let_at n v w) k
declared_let p q l (Define u x ∷ ss) v w e =
    let k : count_by is_define (Define u x ∷ ss) ≡ 1 + count_by is_define ss = sum_by-cons (λ y. cond (is_define y) 1 0) (Define u x) ss in
    let same : (l + 1) + count_by is_define ss ≡ l + count_by is_define (Define u x ∷ ss) = omega (arith, k) in
    head_at (bytes_eq u w) (Named l) _ _ _ (declared_let p q (l + 1) ss v w e) ∙ ap (λ n. or_first (declared_from p q l (Define u x ∷ ss) w) (let_at n v w)) same
declared_let p q l (DeclarePublic u ∷ ss) v w e = head_at (bytes_eq u w) _ _ _ _ (declared_let (p + 1) q l ss v w e)
declared_let p q l (DeclarePrivate u ∷ ss) v w e = head_at (bytes_eq u w) _ _ _ _ (declared_let p (q + 1) l ss v w e)
declared_let p q l (Assertion x y ∷ ss) v w e = declared_let p q l ss v w e

head_same : (b : Bool) (x : Expr) (r s : Option Expr) → r ≡ s → cond b (Some x) r ≡ cond b (Some x) s
head_same b x r s e = ap (λ (y : Option Expr). cond b (Some x) y) e

-- an assert behind the statements declares nothing
pub declared_assert : (p q l : ℕ) (ss : List Statement) (x y : Expr) (w : List ℕ) → declared_from p q l (ss ++ (Assertion x y ∷ [])) w ≡ declared_from p q l ss w
declared_assert p q l [] x y w = refl
declared_assert p q l (DeclarePublic u ∷ ss) x y w = head_same (bytes_eq u w) _ _ _ (declared_assert (p + 1) q l ss x y w)
declared_assert p q l (DeclarePrivate u ∷ ss) x y w = head_same (bytes_eq u w) _ _ _ (declared_assert p (q + 1) l ss x y w)
declared_assert p q l (Define u e ∷ ss) x y w = head_same (bytes_eq u w) _ _ _ (declared_assert p q (l + 1) ss x y w)
declared_assert p q l (Assertion e f ∷ ss) x y w = declared_assert p q l ss x y w

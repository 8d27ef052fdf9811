-- What a name stands for behind one more declaration.
use Rattle.std.proofs.Common.{◌≡◌, ℕ, ◌+◌, Bool, true, false, cond, List, [], ◌∷◌, ◌++◌, Option, Some, None, refl, ◌∙◌, ap, arith, bytes_eq}
use Rattle.std.specs.Prelude.{count_by}
use Rattle.std.proofs.lemmas.Slice.Eq.{bytes_eq-Decides}
use Rattle.lzk_expr.specs.Readers.{is_define}
use Rattle.lzk_expr.specs.Trees.{Expr, PrivateInput, Named, Statement, DeclarePrivate, Define, name_of, is_private}
use Rattle.lzk_expr.proofs.Declarations.{or_first, declared_let, declared_private}

-- a name that was known stays known, and one that is new stays new behind another name
first_some : (o p : Option Expr) (x : Expr) → o ≡ Some x → or_first o p ≡ Some x
first_some o p x e = ap (λ (q : Option Expr). or_first q p) e

first_none : (o p q : Option Expr) → o ≡ None → p ≡ q → or_first o p ≡ q
first_none o p q e f = ap (λ (r : Option Expr). or_first r p) e ∙ f

other_at : (b : Bool) (x : Expr) → b ≡ false → cond b (Some x) None ≡ None
other_at b x e = ap (λ (c : Bool). cond c (Some x) None) e

same_at : (b : Bool) (x : Expr) → b ≡ true → cond b (Some x) None ≡ Some x
same_at b x e = ap (λ (c : Bool). cond c (Some x) None) e

module _ (ss : List Statement) (v : List ℕ) where
  abbrev let_more : Expr → List Statement
  let_more e = ss ++ (Define v e ∷ [])

  pub let_known : (e : Expr) (w : List ℕ) (x : Expr) → name_of ss w ≡ Some x → name_of (let_more e) w ≡ Some x
  let_known e w x h = declared_let 0 0 0 ss v w e ∙ first_some (name_of ss w) _ x h

  pub let_new : (e : Expr) (w : List ℕ) → name_of ss w ≡ None → bytes_eq v w ≡ false → name_of (let_more e) w ≡ None
  let_new e w h d = declared_let 0 0 0 ss v w e ∙ first_none (name_of ss w) _ None h (other_at (bytes_eq v w) _ d)

  pub let_here : (e : Expr) (k : ℕ) → count_by is_define ss ≡ k → name_of ss v ≡ None → name_of (let_more e) v ≡ Some (Named k)
  let_here e k c h =
      let same : 0 + count_by is_define ss ≡ k = omega (arith, c) in
      declared_let 0 0 0 ss v v e ∙ first_none (name_of ss v) _ _ h (same_at (bytes_eq v v) _ ((bytes_eq-Decides v v).1 refl)) ∙ ap (λ i. Some (Named i)) same

  abbrev private_more : List Statement
  private_more = ss ++ (DeclarePrivate v ∷ [])

  pub private_known : (w : List ℕ) (x : Expr) → name_of ss w ≡ Some x → name_of private_more w ≡ Some x
  private_known w x h = declared_private 0 0 0 ss v w ∙ first_some (name_of ss w) _ x h

  pub private_new : (w : List ℕ) → name_of ss w ≡ None → bytes_eq v w ≡ false → name_of private_more w ≡ None
  private_new w h d = declared_private 0 0 0 ss v w ∙ first_none (name_of ss w) _ None h (other_at (bytes_eq v w) _ d)

  pub private_here : (k : ℕ) → count_by is_private ss ≡ k → name_of ss v ≡ None → name_of private_more v ≡ Some (PrivateInput k)
  private_here k c h =
      let same : 0 + count_by is_private ss ≡ k = omega (arith, c) in
      declared_private 0 0 0 ss v v ∙ first_none (name_of ss v) _ _ h (same_at (bytes_eq v v) _ ((bytes_eq-Decides v v).1 refl)) ∙ ap (λ i. Some (PrivateInput i)) same

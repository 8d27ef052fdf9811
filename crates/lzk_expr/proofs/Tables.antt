-- The table and the counts with one more statement.
use Rattle.std.proofs.Common.{◌≡◌, ℕ, ◌+◌, Bool, true, false, cond, List, [], ◌∷◌, ◌++◌, Option, Some, None, refl, sym, ◌∙◌, ap, arith, bytes_eq}
use Rattle.std.specs.Prelude.{count_by}
use Rattle.std.specs.Map.{update}
use Rattle.std.specs.HashMap.{HashMap}
use Rattle.std.proofs.lemmas.List.Sums.{sum_by-cons, sum_by-append}
use Rattle.std.proofs.lemmas.Slice.Eq.{bytes_eq-Decides}
use Rattle.lzk_expr.specs.declared.names.Binding.{Binding}
use Rattle.lzk_expr.specs.Trees.{Expr, Statement, name_of}
use Rattle.lzk_expr.specs.Table.{found}
use Rattle.lzk_expr.specs.Readers.{named}
use Rattle.lzk_expr.proofs.Declarations.{or_first}

pub same_bytes : (v w : List ℕ) → bytes_eq v w ≡ true → v ≡ w
same_bytes v w h = (bytes_eq-Decides v w).0 h

pub bytes_same : (v w : List ℕ) → v ≡ w → bytes_eq v w ≡ true
bytes_same v w h = (bytes_eq-Decides v w).1 h

or_none : (o : Option Expr) → or_first o None ≡ o
or_none None = refl
or_none (Some x) = refl

one_at : (m : Option Binding) (o : Option Expr) (b : Binding) (t : Bool) → (t ≡ true → o ≡ None) → named m ≡ o → named (cond t (Some b) m) ≡ or_first o (cond t (named (Some b)) None)
one_at m o b true none h = sym (ap (λ (x : Option Expr). or_first x (named (Some b))) (none refl))
one_at m o b false none h = h ∙ sym (or_none o)

-- what the table has after a declaration
pub names_after : {S : Type 0} (m n : HashMap (List ℕ) Binding S) (ss : List Statement) (s : Statement) (v : List ℕ) (b : Binding) → ((w : List ℕ) → named (found m w) ≡ name_of ss w)
    → ((w : List ℕ) → found n w ≡ update bytes_eq (found m) v (Some b) w) → name_of ss v ≡ None
    → ((w : List ℕ) → name_of (ss ++ s ∷ []) w ≡ or_first (name_of ss w) (cond (bytes_eq v w) (named (Some b)) None)) → (w : List ℕ) → named (found n w) ≡ name_of (ss ++ s ∷ []) w
names_after m n ss s v b before after none adds w =
    ap named (after w) ∙ one_at (found m w) (name_of ss w) b (bytes_eq v w) (λ e. ap (name_of ss) (sym (same_bytes v w e)) ∙ none) (before w) ∙ sym (adds w)

pub count_more : {X : Type 0} (p : X → Bool) (xs : List X) (x : X) → count_by p (xs ++ x ∷ []) ≡ count_by p xs + cond (p x) 1 0
count_more p xs x =
    let one : count_by p (x ∷ []) ≡ cond (p x) 1 0 + count_by p [] = sum_by-cons (λ y. cond (p y) 1 0) x [] in
    let none : count_by p [] ≡ 0 = refl in
    let all : count_by p (xs ++ x ∷ []) ≡ count_by p xs + count_by p (x ∷ []) = sum_by-append (λ y. cond (p y) 1 0) xs (x ∷ []) in
    omega (arith, one, none, all)

pub add_none : (n : ℕ) → n ≡ n + 0
add_none n = omega arith

pub zero_more : (n m : ℕ) → n ≡ m → 0 + m ≡ n
zero_more n m e = omega arith

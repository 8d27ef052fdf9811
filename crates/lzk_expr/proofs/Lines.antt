-- Lines with expressions.
use Rattle.std.proofs.Common.{◌≡◌, ℕ, ◌≤◌, ◌^◌, Bool, true, false, cond, not, ◌&&◌, List, [], ◌∷◌, Some, is_some, refl, sym, ◌∙◌, ap, ap₂, arith, ltb-true, lit≤}
use Rattle.std.specs.Prelude.{nat_lt}
use Rattle.std.specs.List.{list_all}
use Rattle.std.proofs.lemmas.Bool.{lt-ltb}
use Rattle.std.specs.HashMap.{HashMap}
use Rattle.lzk_expr.specs.declared.names.Binding.{Binding}
use Rattle.lzk_expr.specs.declared.tokens.Keyword.TheVariants as keys
use Rattle.lzk_expr.specs.declared.ast.FieldId.{FieldId}
use Rattle.lzk_expr.specs.declared.ast.FieldId.TheVariants as fields
use Rattle.lzk_expr.specs.Tokens.{Token, tokens}
use Rattle.lzk_expr.specs.Tokens as token
use Rattle.lzk_expr.specs.Grammar.{Sum, sum_tokens, sum_names, sum_numbers, LetLine, line_tokens}
use Rattle.lzk_expr.specs.Trees.{Expr, Number, Statement, name_of, meaning, sum_means}
use Rattle.lzk_expr.specs.Sources.{Before, is_below, field_size, is_new}
use Rattle.lzk_expr.specs.Table.{found, bound, held_number, token_known, token_below, IsSum}
use Rattle.lzk_expr.proofs.SumLaws.{sum_known, sum_below, sum_same, sum_was_read}
use Rattle.lzk_expr.proofs.Taken.{known_in, bound_in, AreNamesOf}

and_both : (a b : Bool) → a ≡ true → b ≡ true → (a && b) ≡ true
and_both true b e f = f
and_both false b e f = e

pub not_yes : (b : Bool) → not b ≡ true → b ≡ false
not_yes true h = absurd cc
not_yes false h = refl

pub not_no : (b : Bool) → not b ≡ false → b ≡ true
not_no true h = refl
not_no false h = absurd cc

-- ---- what was read of an expression

held_at : (n size limit : ℕ) → size ≤ limit → nat_lt n size ≡ true → nat_lt n limit ≡ true
held_at n size limit le h = lt-ltb n limit (omega (arith, ltb-true n size h))

size_fits : (f : FieldId) → field_size f ≤ 2 ^ 128
size_fits fields.Goldilocks = lit≤ tt
size_fits fields.Gf2_128 = lit≤ tt

held_is : (b : Bool) (n : ℕ) → b ≡ true → cond b (Number n) (Number 0) ≡ Number n
held_is true n e = refl
held_is false n e = absurd cc

-- a number below the field's size is held as it is
held_same : (f : FieldId) (n : ℕ) → nat_lt n (field_size f) ≡ true → held_number n ≡ Number n
held_same f n h = held_is (nat_lt n (2 ^ 128)) n (held_at n (field_size f) (2 ^ 128) (size_fits f) h)

all_same : {X : Type 0} (p q : X → Bool) (xs : List X) → ((x : X) → p x ≡ q x) → list_all p xs ≡ list_all q xs
all_same p q [] e = refl
all_same p q (x ∷ xs) e = ap₂ (λ (a b : Bool). a && b) (e x) (all_same p q xs e)

-- an expression's tokens, what it stands for, and whether its names are known and its numbers are below the field's size
pub record SumIs (ss : List Statement) (f : FieldId) (ts : List Token) (e : Expr) (known below : Bool) : Type 0 where
  pub sum : Sum
  pub tokens_are : ts ≡ sum_tokens sum
  pub known_is : list_all (λ w. is_some (name_of ss w)) (sum_names sum) ≡ known
  pub below_is : list_all (is_below (Some f)) (sum_numbers sum) ≡ below
  pub means : below ≡ true → sum_means Number (meaning ss) sum ≡ e

same_names : {A B : Type 0} (f g : A → B) → ((x : A) → f x ≡ g x) → f ≡ g
same_names f g h = λ i x. h x i

pub sum_in : {S : Type 0} (m : HashMap (List ℕ) Binding S) (ss : List Statement) (f : FieldId) (ts : List Token) (e : Expr) (known below : Bool) → AreNamesOf m ss → IsSum f m ts e known below → SumIs ss f ts e known below
sum_in m ss f ts e known below h s =
    let t = sum_was_read held_number (bound m) ts e s.read in
    let names : bound m ≡ meaning ss = same_names (bound m) (meaning ss) (bound_in m ss h) in
    let under : list_all (λ n. nat_lt n (field_size f)) (sum_numbers t.0) ≡ below = sym (sum_below f t.0) ∙ sym (ap (list_all (token_below f)) t.1) ∙ s.below_is in
    record {
      sum = t.0;
      tokens_are = t.1;
      known_is = sym (all_same (λ w. is_some (found m w)) (λ w. is_some (name_of ss w)) (sum_names t.0) (known_in m ss h)) ∙ sym (sum_known m t.0) ∙ sym (ap (list_all (token_known m)) t.1) ∙ s.known_is;
      below_is = under;
      means = λ b. sym (sum_same held_number Number (meaning ss) (λ n. nat_lt n (field_size f)) (held_same f) t.0 (under ∙ b)) ∙ ap (λ (name : List ℕ → Expr). sum_means held_number name t.0) (sym names) ∙ t.2;
    }

-- ---- let lines

pub let_tokens : (ts us : List Token) (w : List ℕ) (s : Sum) → ts ≡ token.Name w ∷ token.Equals ∷ us → us ≡ sum_tokens s → token.Key keys.Let ∷ ts ≡ line_tokens (LetLine w s)
let_tokens ts us w s e h = ap (λ (l : List Token). token.Key keys.Let ∷ l) e ∙ ap (λ (l : List Token). token.Key keys.Let ∷ token.Name w ∷ token.Equals ∷ l) h

pub let_new : (b : Before) (w : List ℕ) (s : Sum) (t : Bool) → is_some (name_of b.statements w) ≡ t → is_new b (LetLine w s) ≡ not t
let_new b w s true e = ap (λ (x : Bool). not x && true) e
let_new b w s false e = ap (λ (x : Bool). not x && true) e

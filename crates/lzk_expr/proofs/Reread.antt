-- What is printed of a source reads as it.
use Rattle.std.proofs.Common.{◌≡◌, ℕ, suc, ◌+◌, ◌-◌, ◌≤◌, ◌<◌, ◌^◌, Bool, true, false, cond, not, ◌&&◌, List, [], ◌∷◌, ◌++◌, length, take, Option, Some, None, is_some, Ok, Result, refl, sym, ◌∙◌, ap, ap₂, append_assoc, arith, bytes_eq, subst, lit≤}
use Rattle.std.specs.Prelude.{nat_le, nat_lt, count_by, codes, slice_index_or}
use Rattle.std.specs.List.{list_all, list_any, flat_map, onto_first, position_or_len}
use Rattle.std.proofs.lemmas.Bool.{and_parts, lt-ltb}
use Rattle.std.proofs.lemmas.Bool.Decides.{nat_tests}
use Rattle.std.proofs.lemmas.List.{append-nil, take_all}
use Rattle.std.proofs.lemmas.List.Folds.{list_all-append}
use Rattle.std.proofs.Math.Numerals.{one-add}
use Rattle.lzk_profile.specs.Profile.{most_privates}
use Rattle.lzk_expr.specs.declared.tokens.Keyword.{Keyword}
use Rattle.lzk_expr.specs.declared.tokens.Keyword.TheVariants as keys
use Rattle.lzk_expr.specs.declared.source_fault.SourceKind.{SourceKind}
use Rattle.lzk_expr.specs.declared.source_fault.SourceFault.{SourceFault}
use Rattle.lzk_expr.specs.declared.ast.FieldId.{FieldId}
use Rattle.lzk_expr.specs.declared.ast.FieldId.TheVariants as fields
use Rattle.lzk_expr.specs.declared.place.Place.TheVariants as place
use Rattle.lzk_expr.specs.Texts.{lines, content, is_feed, is_hash}
use Rattle.lzk_expr.specs.Tokens.{Token, tokens, word_token, in_word, pieces, keeps_characters, is_empty_line, is_sign}
use Rattle.lzk_expr.specs.Tokens as token
use Rattle.lzk_expr.specs.Grammar as g
use Rattle.lzk_expr.specs.Grammar.{Line, FieldLine, PublicLine, PrivateLine, LetLine, AssertLine, line_tokens, IsForm, field_name}
use Rattle.lzk_expr.specs.Trees.{Expr, Number, PublicInput, PrivateInput, Named, Neg, Added, Multiplied, Statement, DeclarePublic, DeclarePrivate, Define, Assertion, SourceTree, declared_from, name_of, meaning, or_zero, sum_means, is_public, is_private, is_assertion}
use Rattle.lzk_expr.specs.Sources.{Before, nothing_yet, first_keyword, is_short, is_shallow, is_few, keeps_limits, is_new, line_names, line_numbers, field_size, after, line_read, LineAt, LinesRead, ended, SourceText, IsWellFormed}
use Rattle.lzk_expr.specs.Printing.{Names, names_of, public_names, private_names, let_names, expr_text, statement_text, statement_line, source_text}
use Rattle.lzk_expr.specs.Built.{IsNameWord, Good, Leaf, GoodExpr, Fits, BuiltFrom, IsBuilt}
use Rattle.lzk_expr.proofs.Tables.{same_bytes}
use Rattle.lzk_expr.proofs.Taken.{line_read_at, form_at, form_good}
use Rattle.lzk_expr.proofs.Lexed.{sum_text, SumHas, ProductHas, FactorHas, AtomHas, IsPrinted, is_printed, name_lexed, sum_lexed, sum_characters, is_character, word_characters, joined_characters, lex_equals, lex_public, lex_private, lex_let, lex_assert}
use Rattle.lzk_expr.proofs.Canonical.{good_map, forms, expr_printed, sum_has, atom_has, same_sum, atom_is}
use Rattle.lzk_expr.proofs.Depths.{sum_depth, sum_shallow, form_shallow}
use Rattle.lzk_expr.proofs.Built.{is_built}

and_both : (a b : Bool) → a ≡ true → b ≡ true → (a && b) ≡ true
and_both true b e f = f
and_both false b e f = e

-- ---- the names of a declared name's number

abbrev At : List (List ℕ) → ℕ → List ℕ → Type 0
At xs k w = (ys : List (List ℕ)) → slice_index_or (xs ++ ys) k [] ≡ w

-- an input or let name with this number is that name
abbrev IsAt : ℕ → ℕ → ℕ → List Statement → List ℕ → Expr → Type 0
IsAt p q l ss w (PublicInput i) = (k : ℕ) × (i ≡ p + k) × At (public_names ss) k w
IsAt p q l ss w (PrivateInput i) = (k : ℕ) × (i ≡ q + k) × At (private_names ss) k w
IsAt p q l ss w (Named i) = (k : ℕ) × (i ≡ l + k) × At (let_names ss) k w
IsAt p q l ss w _ = Unit {0}

first_at : (v w : List ℕ) (xs : List (List ℕ)) → v ≡ w → At (v ∷ xs) 0 w
first_at v w xs e ys = e

later_at : (v w : List ℕ) (xs : List (List ℕ)) (k : ℕ) → At xs k w → At (v ∷ xs) (suc k) w
later_at v w xs k h ys = h ys

behind_public : (p q l : ℕ) (ss : List Statement) (v w : List ℕ) (x : Expr) → IsAt (p + 1) q l ss w x → IsAt p q l (DeclarePublic v ∷ ss) w x
behind_public p q l ss v w (PublicInput i) h = (suc h.0, omega (arith, h.1), later_at v w (public_names ss) h.0 h.2)
behind_public p q l ss v w (PrivateInput i) h = h
behind_public p q l ss v w (Named i) h = h
behind_public p q l ss v w (Number n) h = tt
behind_public p q l ss v w (Neg e) h = tt
behind_public p q l ss v w (Added e) h = tt
behind_public p q l ss v w (Multiplied e) h = tt

behind_private : (p q l : ℕ) (ss : List Statement) (v w : List ℕ) (x : Expr) → IsAt p (q + 1) l ss w x → IsAt p q l (DeclarePrivate v ∷ ss) w x
behind_private p q l ss v w (PublicInput i) h = h
behind_private p q l ss v w (PrivateInput i) h = (suc h.0, omega (arith, h.1), later_at v w (private_names ss) h.0 h.2)
behind_private p q l ss v w (Named i) h = h
behind_private p q l ss v w (Number n) h = tt
behind_private p q l ss v w (Neg e) h = tt
behind_private p q l ss v w (Added e) h = tt
behind_private p q l ss v w (Multiplied e) h = tt

behind_let : (p q l : ℕ) (ss : List Statement) (v w : List ℕ) (d x : Expr) → IsAt p q (l + 1) ss w x → IsAt p q l (Define v d ∷ ss) w x
behind_let p q l ss v w d (PublicInput i) h = h
behind_let p q l ss v w d (PrivateInput i) h = h
behind_let p q l ss v w d (Named i) h = (suc h.0, omega (arith, h.1), later_at v w (let_names ss) h.0 h.2)
behind_let p q l ss v w d (Number n) h = tt
behind_let p q l ss v w d (Neg e) h = tt
behind_let p q l ss v w d (Added e) h = tt
behind_let p q l ss v w d (Multiplied e) h = tt

behind_assert : (p q l : ℕ) (ss : List Statement) (w : List ℕ) (c d x : Expr) → IsAt p q l ss w x → IsAt p q l (Assertion c d ∷ ss) w x
behind_assert p q l ss w c d (PublicInput i) h = h
behind_assert p q l ss w c d (PrivateInput i) h = h
behind_assert p q l ss w c d (Named i) h = h
behind_assert p q l ss w c d (Number n) h = tt
behind_assert p q l ss w c d (Neg e) h = tt
behind_assert p q l ss w c d (Added e) h = tt
behind_assert p q l ss w c d (Multiplied e) h = tt

-- a declared name: its word, and that its number has it
abbrev IsWord : List ℕ → Type 0
IsWord w = IsNameWord w × (nat_le (length w) 32 ≡ true)

abbrev NamesOk : List Statement → Type 0
NamesOk [] = Unit {0}
NamesOk (DeclarePublic w ∷ ss) = IsWord w × NamesOk ss
NamesOk (DeclarePrivate w ∷ ss) = IsWord w × NamesOk ss
NamesOk (Define w e ∷ ss) = IsWord w × NamesOk ss
NamesOk (Assertion c d ∷ ss) = NamesOk ss

names_join : (xs ys : List Statement) → NamesOk xs → NamesOk ys → NamesOk (xs ++ ys)
names_join [] ys h k = k
names_join (DeclarePublic w ∷ xs) ys h k = (h.0, names_join xs ys h.1 k)
names_join (DeclarePrivate w ∷ xs) ys h k = (h.0, names_join xs ys h.1 k)
names_join (Define w e ∷ xs) ys h k = (h.0, names_join xs ys h.1 k)
names_join (Assertion c d ∷ xs) ys h k = names_join xs ys h k

abbrev some : {X : Type 0} → X → Option X
some x = Some x

some_is : {X : Type 0} (x y : X) → some x ≡ some y → x ≡ y
some_is x y e = cc

either_at : (P : Expr → Type 0) (v w : List ℕ) (b : Bool) (y x : Expr) (o : Option Expr) → bytes_eq v w ≡ b → IsWord v → cond b (Some y) o ≡ Some x → (v ≡ w → P y) → (o ≡ Some x → IsWord w × P x) → IsWord w × P x
either_at P v w true y x o t h e here there = let same = same_bytes v w t in (subst IsWord same h, subst P (some_is y x e) (here same))
either_at P v w false y x o t h e here there = there e

one_here : (p : ℕ) → p ≡ p + 0
one_here p = omega arith

found_at : (p q l : ℕ) (ss : List Statement) (w : List ℕ) (x : Expr) → NamesOk ss → declared_from p q l ss w ≡ Some x → IsWord w × IsAt p q l ss w x
found_at p q l [] w x h e = absurd cc
found_at p q l (DeclarePublic v ∷ ss) w x h e =
    either_at (IsAt p q l (DeclarePublic v ∷ ss) w) v w (bytes_eq v w) (PublicInput p) x (declared_from (p + 1) q l ss w) refl h.0 e (λ same. (0, one_here p, first_at v w (public_names ss) same))
    (λ k. let r = found_at (p + 1) q l ss w x h.1 k in (r.0, behind_public p q l ss v w x r.1))
found_at p q l (DeclarePrivate v ∷ ss) w x h e =
    either_at (IsAt p q l (DeclarePrivate v ∷ ss) w) v w (bytes_eq v w) (PrivateInput q) x (declared_from p (q + 1) l ss w) refl h.0 e (λ same. (0, one_here q, first_at v w (private_names ss) same))
    (λ k. let r = found_at p (q + 1) l ss w x h.1 k in (r.0, behind_private p q l ss v w x r.1))
found_at p q l (Define v d ∷ ss) w x h e =
    either_at (IsAt p q l (Define v d ∷ ss) w) v w (bytes_eq v w) (Named l) x (declared_from p q (l + 1) ss w) refl h.0 e (λ same. (0, one_here l, first_at v w (let_names ss) same))
    (λ k. let r = found_at p q (l + 1) ss w x h.1 k in (r.0, behind_let p q l ss v w d x r.1))
found_at p q l (Assertion c d ∷ ss) w x h e = let r = found_at p q l ss w x h e in (r.0, behind_assert p q l ss w c d x r.1)

public_join : (xs ys : List Statement) → public_names (xs ++ ys) ≡ public_names xs ++ public_names ys
public_join [] ys = refl
public_join (DeclarePublic w ∷ xs) ys = ap (λ (l : List (List ℕ)). w ∷ l) (public_join xs ys)
public_join (DeclarePrivate w ∷ xs) ys = public_join xs ys
public_join (Define w e ∷ xs) ys = public_join xs ys
public_join (Assertion c d ∷ xs) ys = public_join xs ys

private_join : (xs ys : List Statement) → private_names (xs ++ ys) ≡ private_names xs ++ private_names ys
private_join [] ys = refl
private_join (DeclarePrivate w ∷ xs) ys = ap (λ (l : List (List ℕ)). w ∷ l) (private_join xs ys)
private_join (DeclarePublic w ∷ xs) ys = private_join xs ys
private_join (Define w e ∷ xs) ys = private_join xs ys
private_join (Assertion c d ∷ xs) ys = private_join xs ys

let_join : (xs ys : List Statement) → let_names (xs ++ ys) ≡ let_names xs ++ let_names ys
let_join [] ys = refl
let_join (Define w e ∷ xs) ys = ap (λ (l : List (List ℕ)). w ∷ l) (let_join xs ys)
let_join (DeclarePublic w ∷ xs) ys = let_join xs ys
let_join (DeclarePrivate w ∷ xs) ys = let_join xs ys
let_join (Assertion c d ∷ xs) ys = let_join xs ys

-- ---- leaves that can be printed

record NameReady (ss : List Statement) (w : List ℕ) (x : Expr) : Type 0 where
  word : IsNameWord w
  short : nat_le (length w) 32 ≡ true
  means : name_of ss w ≡ Some x

abbrev Ready : FieldId → List Statement → Names → Expr → Type 0
Ready f ss names (Number n) = nat_lt n (field_size f) ≡ true
Ready f ss names (PublicInput i) = NameReady ss (slice_index_or names.publics i []) (PublicInput i)
Ready f ss names (PrivateInput i) = NameReady ss (slice_index_or names.privates i []) (PrivateInput i)
Ready f ss names (Named i) = NameReady ss (slice_index_or names.lets i []) (Named i)
Ready f ss names _ = Unit {0}

at_place : (xs ys all : List (List ℕ)) (i k : ℕ) (w : List ℕ) → all ≡ xs ++ ys → i ≡ 0 + k → At xs k w → slice_index_or all i [] ≡ w
at_place xs ys all i k w e j h = let same : i ≡ k = omega (arith, j) in ap (λ (l : List (List ℕ)). slice_index_or l i []) e ∙ ap (λ n. slice_index_or (xs ++ ys) n []) same ∙ h ys

ready_at : (ss : List Statement) (v w : List ℕ) (x : Expr) → v ≡ w → IsWord w → name_of ss w ≡ Some x → NameReady ss v x
ready_at ss v w x e h k = subst (λ (u : List ℕ). NameReady ss u x) (sym e) (record { word = h.0; short = h.1; means = k })

ready : (f : FieldId) (ss later : List Statement) → NamesOk ss → (x : Expr) → Leaf f ss x → Ready f ss (names_of (ss ++ later)) x
ready f ss later ok (Number n) h = h
ready f ss later ok (PublicInput i) h =
    let r = found_at 0 0 0 ss h.0 (PublicInput i) ok h.1 in
    ready_at ss _ h.0 (PublicInput i) (at_place (public_names ss) (public_names later) (public_names (ss ++ later)) i r.1.0 h.0 (public_join ss later) r.1.1 r.1.2) r.0 h.1
ready f ss later ok (PrivateInput i) h =
    let r = found_at 0 0 0 ss h.0 (PrivateInput i) ok h.1 in
    ready_at ss _ h.0 (PrivateInput i) (at_place (private_names ss) (private_names later) (private_names (ss ++ later)) i r.1.0 h.0 (private_join ss later) r.1.1 r.1.2) r.0 h.1
ready f ss later ok (Named i) h =
    let r = found_at 0 0 0 ss h.0 (Named i) ok h.1 in
    ready_at ss _ h.0 (Named i) (at_place (let_names ss) (let_names later) (let_names (ss ++ later)) i r.1.0 h.0 (let_join ss later) r.1.1 r.1.2) r.0 h.1
ready f ss later ok (Neg e) h = tt
ready f ss later ok (Added e) h = tt
ready f ss later ok (Multiplied e) h = tt

-- ---- what holds of a tree's names, numbers and tokens

module _ (P : List ℕ → Type 0) (Q : ℕ → Type 0) (p : List ℕ → Bool) (q : ℕ → Bool) (r : Token → Bool) (name : (w : List ℕ) → P w → p w ≡ true) (number : (n : ℕ) → Q n → q n ≡ true) (word : (w : List ℕ) → P w → r (token.Name w) ≡ true)
    (digits : (n : ℕ) → r (token.Number n) ≡ true) (plus : r token.Plus ≡ true) (minus : r token.Minus ≡ true) (times : r token.Times ≡ true) (open' : r token.Open ≡ true) (close : r token.Close ≡ true) where
  joined : {X : Type 0} (t : X → Bool) (xs ys : List X) → list_all t xs ≡ true → list_all t ys ≡ true → list_all t (xs ++ ys) ≡ true
  joined t xs ys h k = list_all-append t xs ys ∙ and_both (list_all t xs) (list_all t ys) h k

  mutual
    pub sum_names_pass : (s : g.Sum) → SumHas P Q s → list_all p (g.sum_names s) ≡ true
    sum_names_pass (g.Single a) h = product_names_pass a h
    sum_names_pass (g.Plus s a) h = joined p (g.sum_names s) (g.product_names a) (sum_names_pass s h.0) (product_names_pass a h.1)
    sum_names_pass (g.Less s a) h = joined p (g.sum_names s) (g.product_names a) (sum_names_pass s h.0) (product_names_pass a h.1)

    product_names_pass : (a : g.Product) → ProductHas P Q a → list_all p (g.product_names a) ≡ true
    product_names_pass (g.Lone f) h = factor_names_pass f h
    product_names_pass (g.Times a f) h = joined p (g.product_names a) (g.factor_names f) (product_names_pass a h.0) (factor_names_pass f h.1)

    factor_names_pass : (f : g.Factor) → FactorHas P Q f → list_all p (g.factor_names f) ≡ true
    factor_names_pass (g.Plain a) h = atom_names_pass a h
    factor_names_pass (g.Minus a) h = atom_names_pass a h

    atom_names_pass : (a : g.Atom) → AtomHas P Q a → list_all p (g.atom_names a) ≡ true
    atom_names_pass (g.Number n) h = refl
    atom_names_pass (g.Name w) h = and_both (p w) true (name w h) refl
    atom_names_pass (g.Group s) h = sum_names_pass s h

  mutual
    pub sum_numbers_pass : (s : g.Sum) → SumHas P Q s → list_all q (g.sum_numbers s) ≡ true
    sum_numbers_pass (g.Single a) h = product_numbers_pass a h
    sum_numbers_pass (g.Plus s a) h = joined q (g.sum_numbers s) (g.product_numbers a) (sum_numbers_pass s h.0) (product_numbers_pass a h.1)
    sum_numbers_pass (g.Less s a) h = joined q (g.sum_numbers s) (g.product_numbers a) (sum_numbers_pass s h.0) (product_numbers_pass a h.1)

    product_numbers_pass : (a : g.Product) → ProductHas P Q a → list_all q (g.product_numbers a) ≡ true
    product_numbers_pass (g.Lone f) h = factor_numbers_pass f h
    product_numbers_pass (g.Times a f) h = joined q (g.product_numbers a) (g.factor_numbers f) (product_numbers_pass a h.0) (factor_numbers_pass f h.1)

    factor_numbers_pass : (f : g.Factor) → FactorHas P Q f → list_all q (g.factor_numbers f) ≡ true
    factor_numbers_pass (g.Plain a) h = atom_numbers_pass a h
    factor_numbers_pass (g.Minus a) h = atom_numbers_pass a h

    atom_numbers_pass : (a : g.Atom) → AtomHas P Q a → list_all q (g.atom_numbers a) ≡ true
    atom_numbers_pass (g.Number n) h = and_both (q n) true (number n h) refl
    atom_numbers_pass (g.Name w) h = refl
    atom_numbers_pass (g.Group s) h = sum_numbers_pass s h

  mutual
    pub sum_tokens_pass : (s : g.Sum) → SumHas P Q s → list_all r (g.sum_tokens s) ≡ true
    sum_tokens_pass (g.Single a) h = product_tokens_pass a h
    sum_tokens_pass (g.Plus s a) h = joined r (g.sum_tokens s) (token.Plus ∷ g.product_tokens a) (sum_tokens_pass s h.0) (and_both (r token.Plus) (list_all r (g.product_tokens a)) plus (product_tokens_pass a h.1))
    sum_tokens_pass (g.Less s a) h = joined r (g.sum_tokens s) (token.Minus ∷ g.product_tokens a) (sum_tokens_pass s h.0) (and_both (r token.Minus) (list_all r (g.product_tokens a)) minus (product_tokens_pass a h.1))

    product_tokens_pass : (a : g.Product) → ProductHas P Q a → list_all r (g.product_tokens a) ≡ true
    product_tokens_pass (g.Lone f) h = factor_tokens_pass f h
    product_tokens_pass (g.Times a f) h = joined r (g.product_tokens a) (token.Times ∷ g.factor_tokens f) (product_tokens_pass a h.0) (and_both (r token.Times) (list_all r (g.factor_tokens f)) times (factor_tokens_pass f h.1))

    factor_tokens_pass : (f : g.Factor) → FactorHas P Q f → list_all r (g.factor_tokens f) ≡ true
    factor_tokens_pass (g.Plain a) h = atom_tokens_pass a h
    factor_tokens_pass (g.Minus a) h = and_both (r token.Minus) (list_all r (g.atom_tokens a)) minus (atom_tokens_pass a h)

    atom_tokens_pass : (a : g.Atom) → AtomHas P Q a → list_all r (g.atom_tokens a) ≡ true
    atom_tokens_pass (g.Number n) h = and_both (r (token.Number n)) true (digits n) refl
    atom_tokens_pass (g.Name w) h = and_both (r (token.Name w)) true (word w h) refl
    atom_tokens_pass (g.Group s) h =
        and_both (r token.Open) (list_all r (g.sum_tokens s ++ (token.Close ∷ []))) open' (joined r (g.sum_tokens s) (token.Close ∷ []) (sum_tokens_pass s h) (and_both (r token.Close) true close refl))

-- ---- an expression's text

record Printed (f : FieldId) (ss : List Statement) (names : Names) (e : Expr) : Type 0 where
  tree : g.Sum
  text_is : expr_text names place.Alone e ≡ sum_text tree
  has : SumHas IsNameWord IsPrinted tree
  known : list_all (λ w. is_some (name_of ss w)) (g.sum_names tree) ≡ true
  below : list_all (λ n. nat_lt n (field_size f)) (g.sum_numbers tree) ≡ true
  short : list_all is_short (g.sum_tokens tree) ≡ true
  means : sum_means Number (meaning ss) tree ≡ e
  depth : sum_depth tree ≤ 64

record Usable (ss : List Statement) (w : List ℕ) : Type 0 where
  word : IsNameWord w
  short : nat_le (length w) 32 ≡ true
  known : is_some (name_of ss w) ≡ true

usable : (ss : List Statement) (w : List ℕ) (x : Expr) → NameReady ss w x → Usable ss w
usable ss w x h = record { word = h.word; short = h.short; known = ap is_some h.means }

size_small : (f : FieldId) → field_size f ≤ 10 ^ 64
size_small fields.Goldilocks = lit≤ tt
size_small fields.Gf2_128 = lit≤ tt

small : (a b c : ℕ) → nat_lt a b ≡ true → b ≤ c → a < c
small a b c h k = grind (arith, nat_tests)

number_ready : (f : FieldId) (n : ℕ) → nat_lt n (field_size f) ≡ true → IsPrinted n
number_ready f n h = is_printed n (small n (field_size f) (10 ^ 64) h (size_small f))

printed : (f : FieldId) (ss later : List Statement) (e : Expr) → NamesOk ss → GoodExpr f ss e → Printed f ss (names_of (ss ++ later)) e
printed f ss later e ok h =
    let names = names_of (ss ++ later) in
    let R = Ready f ss names in
    let good : Good (Ready f ss (names_of (ss ++ later))) e = good_map (Leaf f ss) (Ready f ss (names_of (ss ++ later))) (ready f ss later ok) e h.leaves in
    let words : SumHas IsNameWord IsPrinted (forms names e).sum = sum_has IsNameWord IsPrinted names e (atom_has IsNameWord IsPrinted names R (number_ready f) (λ i r. r.word) (λ i r. r.word) (λ i r. r.word) e good) in
    let Q : ℕ → Type 0 = λ n. nat_lt n (field_size f) ≡ true in
    let uses : SumHas (Usable ss) Q (forms names e).sum = sum_has (Usable ss) Q names e (atom_has (Usable ss) Q names R (λ n r. r) (λ i r. usable ss _ (PublicInput i) r) (λ i r. usable ss _ (PrivateInput i) r) (λ i r. usable ss _ (Named i) r) e good) in
    let known : List ℕ → Bool = λ w. is_some (name_of ss w) in
    let fits : ℕ → Bool = λ n. nat_lt n (field_size f) in
    record {
      tree = (forms names e).sum;
      text_is = expr_printed names R e place.Alone good;
      has = words;
      known = sum_names_pass (Usable ss) Q known fits is_short (λ w u. u.known) (λ n u. u) (λ w u. u.short) (λ n. refl) refl refl refl refl refl (forms names e).sum uses;
      below = sum_numbers_pass (Usable ss) Q known fits is_short (λ w u. u.known) (λ n u. u) (λ w u. u.short) (λ n. refl) refl refl refl refl refl (forms names e).sum uses;
      short = sum_tokens_pass (Usable ss) Q known fits is_short (λ w u. u.known) (λ n u. u) (λ w u. u.short) (λ n. refl) refl refl refl refl refl (forms names e).sum uses;
      means = same_sum names (meaning ss) e ∙ atom_is names (meaning ss) R (λ i r. ap or_zero r.means) (λ i r. ap or_zero r.means) (λ i r. ap or_zero r.means) e good;
      depth = form_shallow names e h.shallow;
    }

-- ---- a statement's line

abbrev at : FieldId → List Statement → Before
at f ss = record { field_is = Some f; statements = ss }

-- a line that reads as one more statement
record LineOk (b next : Before) (bytes : List ℕ) : Type 0 where
  line : Line
  characters : list_all is_character bytes ≡ true
  tokens_are : tokens bytes ≡ line_tokens line
  read : line_read b bytes (Some line) ≡ Ok next
  some : is_empty_line bytes ≡ false

no_tokens : tokens [] ≡ []
unfolding pieces
no_tokens = refl

name_alone : (w : List ℕ) → IsNameWord w → tokens w ≡ token.Name w ∷ []
name_alone w h = ap tokens (sym (append-nil w)) ∙ name_lexed w [] h refl ∙ ap (λ (ts : List Token). token.Name w ∷ ts) no_tokens

tree_alone : (s : g.Sum) → SumHas IsNameWord IsPrinted s → tokens (sum_text s) ≡ g.sum_tokens s
tree_alone s h = ap tokens (sym (append-nil (sum_text s))) ∙ sum_lexed s [] h refl ∙ ap (λ (ts : List Token). g.sum_tokens s ++ ts) no_tokens ∙ append-nil (g.sum_tokens s)

le_test : (a b : ℕ) → a ≤ b → nat_le a b ≡ true
le_test a b h = grind (arith, nat_tests)

limits_are : (ss : List Statement) (k : Keyword) (ts us : List Token) → ts ≡ us → list_all is_short us ≡ true → is_shallow 0 us ≡ true → is_few ss k (length us - 1) ≡ true → keeps_limits ss k ts ≡ true
limits_are ss k ts us e a b c = ap (keeps_limits ss k) e ∙ and_both (list_all is_short us) (is_shallow 0 us && is_few ss k (length us - 1)) a (and_both (is_shallow 0 us) (is_few ss k (length us - 1)) b c)

-- all rules are kept
all_kept : (f : FieldId) (ss : List Statement) (bytes : List ℕ) (line : Line) (k : Keyword) → keeps_characters bytes ≡ true → tokens bytes ≡ line_tokens line → first_keyword (line_tokens line) ≡ Some k → list_all is_short (line_tokens line) ≡ true → is_shallow 0 (line_tokens line) ≡ true
    → is_few ss k (length (line_tokens line) - 1) ≡ true → is_new (at f ss) line ≡ true → list_all (λ w. is_some (name_of ss w)) (line_names line) ≡ true → list_all (λ n. nat_lt n (field_size f)) (line_numbers line) ≡ true
    → line_read (at f ss) bytes (Some line) ≡ Ok (after (at f ss) line)
all_kept f ss bytes line k chars ts key short shallow few new known below =
    line_read_at (at f ss) bytes (Some line) k chars (ap first_keyword ts ∙ key) ∙ form_at (at f ss) (tokens bytes) (Some line) k refl (limits_are ss k (tokens bytes) (line_tokens line) ts short shallow few) ∙ form_good (at f ss) line new known below

abbrev ok : Before → Result Before SourceKind
ok b = Ok b

new_one : (ss : List Statement) (w : List ℕ) → name_of ss w ≡ None → (not (is_some (name_of ss w)) && true) ≡ true
new_one ss w e = ap (λ (o : Option Expr). not (is_some o) && true) e

public_line : (f : FieldId) (ss : List Statement) (names : Names) (w : List ℕ) → Fits f ss (DeclarePublic w) → LineOk (at f ss) (at f (ss ++ (DeclarePublic w ∷ []))) (statement_text names (DeclarePublic w))
public_line f ss names w h =
    let ts : tokens (codes "public " ++ w) ≡ line_tokens (PublicLine w []) = lex_public w ∙ ap (λ (l : List Token). token.Key keys.Public ∷ l) (name_alone w h.0.word) in
    let chars : list_all is_character (codes "public " ++ w) ≡ true = word_characters w h.0.word.all in
    record {
      line = PublicLine w [];
      characters = chars;
      tokens_are = ts;
      read = all_kept f ss (codes "public " ++ w) (PublicLine w []) keys.Public chars ts refl (and_both (nat_le (length w) 32) true h.0.short refl) refl (le_test (count_by is_public ss + 1) 65535 h.1) (new_one ss w h.0.new) refl refl;
      some = refl;
    }

private_line : (f : FieldId) (ss : List Statement) (names : Names) (w : List ℕ) → Fits f ss (DeclarePrivate w) → LineOk (at f ss) (at f (ss ++ (DeclarePrivate w ∷ []))) (statement_text names (DeclarePrivate w))
private_line f ss names w h =
    let ts : tokens (codes "private " ++ w) ≡ line_tokens (PrivateLine w []) = lex_private w ∙ ap (λ (l : List Token). token.Key keys.Private ∷ l) (name_alone w h.0.word) in
    let chars : list_all is_character (codes "private " ++ w) ≡ true = word_characters w h.0.word.all in
    record {
      line = PrivateLine w [];
      characters = chars;
      tokens_are = ts;
      read = all_kept f ss (codes "private " ++ w) (PrivateLine w []) keys.Private chars ts refl (and_both (nat_le (length w) 32) true h.0.short refl) refl (le_test (count_by is_private ss + 1) most_privates h.1) (new_one ss w h.0.new) refl refl;
      some = refl;
    }

shallow_tree : (s : g.Sum) (rest : List Token) → sum_depth s ≤ 64 → is_shallow 0 (g.sum_tokens s ++ rest) ≡ is_shallow 0 rest
shallow_tree s rest h = sum_shallow s 0 rest (omega arith)

shallow_alone : (s : g.Sum) → sum_depth s ≤ 64 → is_shallow 0 (g.sum_tokens s) ≡ true
shallow_alone s h = ap (is_shallow 0) (sym (append-nil (g.sum_tokens s))) ∙ shallow_tree s [] h

let_line : (f : FieldId) (ss later : List Statement) (w : List ℕ) (e : Expr) → NamesOk ss → Fits f ss (Define w e) → LineOk (at f ss) (at f (ss ++ (Define w e ∷ []))) (statement_text (names_of (ss ++ later)) (Define w e))
let_line f ss later w e ok h =
    let names = names_of (ss ++ later) in
    let p = printed f ss later e ok h.1 in
    let text : List ℕ = codes "let " ++ (w ++ (codes " = " ++ sum_text p.tree)) in
    let same : statement_text names (Define w e) ≡ text = ap (λ (l : List ℕ). codes "let " ++ (w ++ (codes " = " ++ l))) p.text_is in
    let line = LetLine w p.tree in
    let ts : tokens text ≡ line_tokens line =
    lex_let (w ++ (codes " = " ++ sum_text p.tree)) ∙ ap (λ (l : List Token). token.Key keys.Let ∷ l) (name_lexed w (codes " = " ++ sum_text p.tree) h.0.word refl
    ∙ ap (λ (l : List Token). token.Name w ∷ l) (lex_equals (sum_text p.tree) ∙ ap (λ (l : List Token). token.Equals ∷ l) (tree_alone p.tree p.has))) in
    let chars : list_all is_character text ≡ true = joined_characters w (codes " = " ++ sum_text p.tree) (word_characters w h.0.word.all) (sum_characters p.tree p.has) in
    let short : list_all is_short (line_tokens line) ≡ true = and_both (nat_le (length w) 32) (list_all is_short (g.sum_tokens p.tree)) h.0.short p.short in
    let read : line_read (at f ss) text (Some line) ≡ Ok (after (at f ss) line) = all_kept f ss text line keys.Let chars ts refl short (shallow_alone p.tree p.depth) refl (new_one ss w h.0.new) p.known p.below in
    subst (LineOk (at f ss) (at f (ss ++ (Define w e ∷ [])))) (sym same) (record {
      line = line;
      characters = chars;
      tokens_are = ts;
      read = read ∙ ap (λ (x : Expr). Ok (at f (ss ++ (Define w x ∷ [])))) p.means;
      some = refl;
    })

assert_line : (f : FieldId) (ss later : List Statement) (c d : Expr) → NamesOk ss → Fits f ss (Assertion c d) → LineOk (at f ss) (at f (ss ++ (Assertion c d ∷ []))) (statement_text (names_of (ss ++ later)) (Assertion c d))
assert_line f ss later c d ok h =
    let names = names_of (ss ++ later) in
    let p = printed f ss later c ok h.0 in
    let q = printed f ss later d ok h.1 in
    let text : List ℕ = codes "assert " ++ (sum_text p.tree ++ (codes " = " ++ sum_text q.tree)) in
    let same : statement_text names (Assertion c d) ≡ text = ap₂ (λ (l r : List ℕ). codes "assert " ++ (l ++ (codes " = " ++ r))) p.text_is q.text_is in
    let line = AssertLine p.tree q.tree in
    let ts : tokens text ≡ line_tokens line =
    lex_assert (sum_text p.tree ++ (codes " = " ++ sum_text q.tree)) ∙ ap (λ (l : List Token). token.Key keys.Assert ∷ l) (sum_lexed p.tree (codes " = " ++ sum_text q.tree) p.has refl
    ∙ ap (λ (l : List Token). g.sum_tokens p.tree ++ l) (lex_equals (sum_text q.tree) ∙ ap (λ (l : List Token). token.Equals ∷ l) (tree_alone q.tree q.has))) in
    let chars : list_all is_character text ≡ true = joined_characters (sum_text p.tree) (codes " = " ++ sum_text q.tree) (sum_characters p.tree p.has) (sum_characters q.tree q.has) in
    let short : list_all is_short (line_tokens line) ≡ true = list_all-append is_short (g.sum_tokens p.tree) (token.Equals ∷ g.sum_tokens q.tree) ∙ and_both (list_all is_short (g.sum_tokens p.tree)) (list_all is_short (g.sum_tokens q.tree)) p.short q.short in
    let known = list_all-append (λ w. is_some (name_of ss w)) (g.sum_names p.tree) (g.sum_names q.tree) ∙ and_both (list_all (λ w. is_some (name_of ss w)) (g.sum_names p.tree)) (list_all (λ w. is_some (name_of ss w)) (g.sum_names q.tree)) p.known q.known in
    let below = list_all-append (λ n. nat_lt n (field_size f)) (g.sum_numbers p.tree) (g.sum_numbers q.tree) ∙ and_both (list_all (λ n. nat_lt n (field_size f)) (g.sum_numbers p.tree)) (list_all (λ n. nat_lt n (field_size f)) (g.sum_numbers q.tree)) p.below q.below in
    let read : line_read (at f ss) text (Some line) ≡ Ok (after (at f ss) line) =
    all_kept f ss text line keys.Assert chars ts refl short (shallow_tree p.tree (token.Equals ∷ g.sum_tokens q.tree) p.depth ∙ shallow_alone q.tree q.depth) (lt-ltb (count_by is_assertion ss) 131072 h.2) refl known below in
    subst (LineOk (at f ss) (at f (ss ++ (Assertion c d ∷ [])))) (sym same) (record {
      line = line;
      characters = chars;
      tokens_are = ts;
      read = read ∙ ap₂ (λ (x y : Expr). Ok (at f (ss ++ (Assertion x y ∷ [])))) p.means q.means;
      some = refl;
    })

statement_ok : (f : FieldId) (ss later : List Statement) (t : Statement) → NamesOk ss → Fits f ss t → LineOk (at f ss) (at f (ss ++ (t ∷ []))) (statement_text (names_of (ss ++ later)) t)
statement_ok f ss later (DeclarePublic w) ok h = public_line f ss (names_of (ss ++ later)) w h
statement_ok f ss later (DeclarePrivate w) ok h = private_line f ss (names_of (ss ++ later)) w h
statement_ok f ss later (Define w e) ok h = let_line f ss later w e ok h
statement_ok f ss later (Assertion c d) ok h = assert_line f ss later c d ok h

names_fit : (f : FieldId) (ss : List Statement) (t : Statement) → Fits f ss t → NamesOk (t ∷ [])
names_fit f ss (DeclarePublic w) h = ((h.0.word, h.0.short), tt)
names_fit f ss (DeclarePrivate w) h = ((h.0.word, h.0.short), tt)
names_fit f ss (Define w e) h = ((h.0.word, h.0.short), tt)
names_fit f ss (Assertion c d) h = tt

-- ---- lines

char_feed : (b : ℕ) → is_character b ≡ true → is_feed b ≡ false
char_feed b h = grind (arith, nat_tests)

char_hash : (b : ℕ) → is_character b ≡ true → is_hash b ≡ false
char_hash b h = grind (arith, nat_tests)

line_ends : (l rest : List ℕ) → list_all is_character l ≡ true → lines (l ++ (10 ∷ rest)) ≡ l ∷ lines rest
line_ends [] rest h = refl
line_ends (b ∷ l) rest h =
    let p = and_parts (is_character b) (list_all is_character l) h in
    rw (char_feed b p.0) (ap (onto_first b) (line_ends l rest p.1))

no_hash : (l : List ℕ) → list_all is_character l ≡ true → position_or_len is_hash l ≡ length l
no_hash [] h = refl
no_hash (b ∷ l) h =
    let p = and_parts (is_character b) (list_all is_character l) h in
    rw (char_hash b p.0, one-add) (ap suc (no_hash l p.1))

content_is : (l : List ℕ) → list_all is_character l ≡ true → content l ≡ l
content_is l h = ap (λ n. take n l) (no_hash l h) ∙ take_all (length l) l (omega arith)

line_at : (n : ℕ) (b next : Before) (l : List ℕ) (read : Result Before SourceFault) (rest : Before → Type 0) → LineOk b next l → rest next → LineAt n b (content l) read rest (is_empty_line (content l))
line_at n b next l read rest h k =
    let same = content_is l h.characters in
    subst (λ (x : List ℕ). LineAt n b x read rest (is_empty_line x)) (sym same) (subst (LineAt n b l read rest) (sym h.some) (Ok next, record { form = Some h.line; is_form = h.tokens_are; read_is = h.read }, k))

line_then : (n : ℕ) (b next : Before) (l : List ℕ) (ls : List (List ℕ)) (read : Result Before SourceFault) → LineOk b next l → LinesRead (n + 1) next ls read → LinesRead n b (l ∷ ls) read
unfolding LinesRead
line_then n b next l ls read h k = line_at n b next l read (λ c. LinesRead (n + 1) c ls read) h k

last_line : (n : ℕ) (b : Before) → LinesRead n b ([] ∷ []) (Ok b)
unfolding LinesRead
last_line n b = refl

statement_lines : (names : Names) (t : Statement) (ts : List Statement) → list_all is_character (statement_text names t) ≡ true → lines (flat_map (statement_line names) (t ∷ ts)) ≡ statement_text names t ∷ lines (flat_map (statement_line names) ts)
statement_lines names t ts h =
    ap lines (append_assoc (statement_text names t) (10 ∷ []) (flat_map (statement_line names) ts)) ∙ line_ends (statement_text names t) (flat_map (statement_line names) ts) h

reread : (f : FieldId) (all before later : List Statement) (n : ℕ) → all ≡ before ++ later → NamesOk before → BuiltFrom f before later → LinesRead n (at f before) (lines (flat_map (statement_line (names_of all)) later)) (Ok (at f all))
reread f all before [] n e ok h = let same : all ≡ before = e ∙ append-nil before in subst (λ (l : List Statement). LinesRead n (at f before) ([] ∷ []) (Ok (at f l))) (sym same) (last_line n (at f before))
reread f all before (t ∷ ts) n e ok h =
    let whole : LineOk (at f before) (at f (before ++ (t ∷ []))) (statement_text (names_of all) t) = subst (λ (l : List Statement). LineOk (at f before) (at f (before ++ (t ∷ []))) (statement_text (names_of l) t)) (sym e) (statement_ok f before (t ∷ ts) t ok h.0) in
    let rest = reread f all (before ++ (t ∷ [])) ts (n + 1) (e ∙ sym (append_assoc before (t ∷ []) ts)) (names_join before (t ∷ []) ok (names_fit f before t h.0)) h.1 in
    subst (λ (ls : List (List ℕ)). LinesRead n (at f before) ls (Ok (at f all))) (sym (statement_lines (names_of all) t ts whole.characters)) (line_then n (at f before) (at f (before ++ (t ∷ []))) (statement_text (names_of all) t) _ (Ok (at f all)) whole rest)

-- ---- the whole text

field_line : (f : FieldId) → LineOk nothing_yet (at f []) (codes "field " ++ field_name f)
unfolding pieces word_token
field_line fields.Goldilocks = record { line = FieldLine fields.Goldilocks; characters = refl; tokens_are = refl; read = refl; some = refl }
field_line fields.Gf2_128 = record { line = FieldLine fields.Gf2_128; characters = refl; tokens_are = refl; read = refl; some = refl }

ended_some : (n : ℕ) (f : FieldId) (ss : List Statement) → list_any is_assertion ss ≡ true → ended n (at f ss) (Some f) ≡ Ok (record { field_is = f; statements = ss })
ended_some n f ss h = rw h refl

-- the text of a source that is built reads as it
pub built_reads : (s : SourceTree) → IsBuilt s → SourceText (source_text s) s
unfolding source_text
built_reads s b =
    let names = names_of s.statements in
    let behind = flat_map (statement_line names) s.statements in
    let first = field_line s.field_is in
    let text : lines (codes "field " ++ (field_name s.field_is ++ (10 ∷ behind))) ≡ (codes "field " ++ field_name s.field_is) ∷ lines behind =
    ap lines (sym (append_assoc (codes "field ") (field_name s.field_is) (10 ∷ behind))) ∙ line_ends (codes "field " ++ field_name s.field_is) behind first.characters in
    record {
      all = Ok (at s.field_is s.statements);
      lines_read = subst (λ (ls : List (List ℕ)). LinesRead 1 nothing_yet ls (Ok (at s.field_is s.statements))) (sym text)
          (line_then 1 nothing_yet (at s.field_is []) (codes "field " ++ field_name s.field_is) (lines behind) (Ok (at s.field_is s.statements)) first (reread s.field_is s.statements [] s.statements 2 refl tt b.built));
      read_is = ended_some (length (lines (codes "field " ++ (field_name s.field_is ++ (10 ∷ behind))))) s.field_is s.statements b.some;
    }

-- the text of a source reads as it
pub printed_reads : (s : SourceTree) → IsWellFormed s → SourceText (source_text s) s
printed_reads s h = built_reads s (is_built s h)

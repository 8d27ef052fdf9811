-- The form of a line: there is one or none, and only one.
use Rattle.std.proofs.Common.{◌≡◌, ℕ, Bool, true, false, ◌&&◌, List, [], ◌∷◌, ◌++◌, map, Option, Some, None, refl, sym, ◌∙◌, ap, ap₂}
use Rattle.std.specs.List.{list_all}
use Rattle.std.specs.Str.{bytes_eq}
use Rattle.std.specs.Prelude.{codes}
use Rattle.std.proofs.lemmas.Bool.{and_parts}
use Rattle.std.proofs.lemmas.List.Folds.{list_all-append}
use Rattle.lzk_profile.specs.Profile.{field_word}
use Rattle.lzk_expr.specs.declared.tokens.Keyword.TheVariants as keys
use Rattle.lzk_expr.specs.declared.ast.FieldId.{FieldId}
use Rattle.lzk_expr.specs.declared.ast.FieldId.TheVariants as fields
use Rattle.lzk_expr.specs.Tokens.{Token}
use Rattle.lzk_expr.specs.Tokens as token
use Rattle.lzk_expr.specs.Grammar.{Sum, Single, Plus, Less, Product, Lone, Times, Factor, Plain, Minus, Atom, Number, Name, Group, sum_tokens, product_tokens, factor_tokens, atom_tokens, Line, FieldLine, PublicLine, PrivateLine, LetLine, AssertLine, line_tokens, field_name, IsForm}
use Rattle.lzk_expr.specs.Readers.{IsField, is_name, is_inner}
use Rattle.lzk_expr.proofs.Machine.{sum_of}
use Rattle.lzk_expr.proofs.Whole.{sum_again, sum_takes}
use Rattle.lzk_expr.specs.Sources.{first_keyword}
use Rattle.lzk_expr.proofs.Tables.{same_bytes, bytes_same}

and_both : (a b : Bool) → a ≡ true → b ≡ true → (a && b) ≡ true
and_both true b e f = f
and_both false b e f = e

-- ---- an expression has no sign =

mutual
  pub sum_inner : (s : Sum) → list_all is_inner (sum_tokens s) ≡ true
  sum_inner (Single p) = product_inner p
  sum_inner (Plus s p) = list_all-append is_inner (sum_tokens s) (token.Plus ∷ product_tokens p) ∙ and_both (list_all is_inner (sum_tokens s)) (list_all is_inner (product_tokens p)) (sum_inner s) (product_inner p)
  sum_inner (Less s p) = list_all-append is_inner (sum_tokens s) (token.Minus ∷ product_tokens p) ∙ and_both (list_all is_inner (sum_tokens s)) (list_all is_inner (product_tokens p)) (sum_inner s) (product_inner p)

  product_inner : (p : Product) → list_all is_inner (product_tokens p) ≡ true
  product_inner (Lone f) = factor_inner f
  product_inner (Times p f) = list_all-append is_inner (product_tokens p) (token.Times ∷ factor_tokens f) ∙ and_both (list_all is_inner (product_tokens p)) (list_all is_inner (factor_tokens f)) (product_inner p) (factor_inner f)

  factor_inner : (f : Factor) → list_all is_inner (factor_tokens f) ≡ true
  factor_inner (Plain a) = atom_inner a
  factor_inner (Minus a) = atom_inner a

  atom_inner : (a : Atom) → list_all is_inner (atom_tokens a) ≡ true
  atom_inner (Number n) = refl
  atom_inner (Name w) = refl
  atom_inner (Group s) = list_all-append is_inner (sum_tokens s) (token.Close ∷ []) ∙ and_both (list_all is_inner (sum_tokens s)) true (sum_inner s) refl

-- the first sign = parts a list
pub one_split : (xs ys ls bs : List Token) → list_all is_inner xs ≡ true → list_all is_inner ls ≡ true → xs ++ (token.Equals ∷ ys) ≡ ls ++ (token.Equals ∷ bs) → (xs ≡ ls) × (ys ≡ bs)
one_split [] ys [] bs h k e = (refl, cc)
one_split [] ys (a ∷ ls) bs h k e =
    let first : token.Equals ≡ a = cc in
    let no : false ≡ true = ap is_inner first ∙ (and_parts (is_inner a) (list_all is_inner ls) k).0 in
    absurd cc
one_split (x ∷ xs) ys [] bs h k e =
    let first : token.Equals ≡ x = cc in
    let no : false ≡ true = ap is_inner first ∙ (and_parts (is_inner x) (list_all is_inner xs) h).0 in
    absurd cc
one_split (x ∷ xs) ys (a ∷ ls) bs h k e =
    let rest : xs ++ (token.Equals ∷ ys) ≡ ls ++ (token.Equals ∷ bs) = cc in
    let first : x ≡ a = cc in
    let p = one_split xs ys ls bs (and_parts (is_inner x) (list_all is_inner xs) h).1 (and_parts (is_inner a) (list_all is_inner ls) k).1 rest in
    (ap₂ (λ (t : Token) (ts : List Token). t ∷ ts) first p.0, p.1)

-- the parts around the first sign =
pub data Parted (ts : List Token) : Type 0 where
  No : list_all is_inner ts ≡ true → Parted ts
  At : (xs ys : List Token) → list_all is_inner xs ≡ true → ts ≡ xs ++ (token.Equals ∷ ys) → Parted ts

one_more : (t : Token) (ts : List Token) → is_inner t ≡ true → Parted ts → Parted (t ∷ ts)
one_more t ts h (No all) = No (and_both (is_inner t) (list_all is_inner ts) h all)
one_more t ts h (At xs ys all e) = At (t ∷ xs) ys (and_both (is_inner t) (list_all is_inner xs) h all) (ap (λ (l : List Token). t ∷ l) e)

parted : (ts : List Token) → Parted ts
parted [] = No refl
parted (token.Equals ∷ ts) = At [] ts refl refl
parted (t ∷ ts) = one_more t ts refl (parted ts)

-- ---- no form

pub no_assert : (ts : List Token) → ((s t : Sum) → ts ≡ sum_tokens s ++ (token.Equals ∷ sum_tokens t) → ⊥) → IsForm (token.Key keys.Assert ∷ ts) None
no_assert ts h (FieldLine f) e = absurd cc
no_assert ts h (PublicLine w ws) e = absurd cc
no_assert ts h (PrivateLine w ws) e = absurd cc
no_assert ts h (LetLine w s) e = absurd cc
no_assert ts h (AssertLine s t) e = h s t cc

pub no_let : (ts : List Token) → ((w : List ℕ) (s : Sum) → ts ≡ token.Name w ∷ token.Equals ∷ sum_tokens s → ⊥) → IsForm (token.Key keys.Let ∷ ts) None
no_let ts h (FieldLine f) e = absurd cc
no_let ts h (PublicLine w ws) e = absurd cc
no_let ts h (PrivateLine w ws) e = absurd cc
no_let ts h (LetLine w s) e = h w s cc
no_let ts h (AssertLine s t) e = absurd cc

pub no_field : (ts : List Token) → IsField ts None → IsForm (token.Key keys.Field ∷ ts) None
no_field ts h (FieldLine f) e = h f cc
no_field ts h (PublicLine w ws) e = absurd cc
no_field ts h (PrivateLine w ws) e = absurd cc
no_field ts h (LetLine w s) e = absurd cc
no_field ts h (AssertLine s t) e = absurd cc

pub no_public : (ts : List Token) → ((w : List ℕ) (ws : List (List ℕ)) → ts ≡ token.Name w ∷ map token.Name ws → ⊥) → IsForm (token.Key keys.Public ∷ ts) None
no_public ts h (FieldLine f) e = absurd cc
no_public ts h (PublicLine w ws) e = h w ws cc
no_public ts h (PrivateLine w ws) e = absurd cc
no_public ts h (LetLine w s) e = absurd cc
no_public ts h (AssertLine s t) e = absurd cc

pub no_private : (ts : List Token) → ((w : List ℕ) (ws : List (List ℕ)) → ts ≡ token.Name w ∷ map token.Name ws → ⊥) → IsForm (token.Key keys.Private ∷ ts) None
no_private ts h (FieldLine f) e = absurd cc
no_private ts h (PublicLine w ws) e = absurd cc
no_private ts h (PrivateLine w ws) e = h w ws cc
no_private ts h (LetLine w s) e = absurd cc
no_private ts h (AssertLine s t) e = absurd cc

-- ---- names

names_pass : (ws : List (List ℕ)) → list_all is_name (map token.Name ws) ≡ true
names_pass [] = refl
names_pass (w ∷ ws) = names_pass ws

-- tokens that are names are those of a list
pub names_in : (ts : List Token) → list_all is_name ts ≡ true → (ws : List (List ℕ)) × (ts ≡ map token.Name ws)
names_in [] h = ([], refl)
names_in (token.Name w ∷ ts) h = let rest = names_in ts h in (w ∷ rest.0, ap (λ (l : List Token). token.Name w ∷ l) rest.1)
names_in (t ∷ ts) h = absurd cc

-- tokens of which one is no name
pub not_names : (ts : List Token) → list_all is_name ts ≡ false → (w : List ℕ) (ws : List (List ℕ)) → ts ≡ token.Name w ∷ map token.Name ws → ⊥
not_names ts h w ws e = let all : list_all is_name ts ≡ true = ap (list_all is_name) e ∙ names_pass ws in absurd cc

pub no_names : (ts : List Token) → ts ≡ [] → (w : List ℕ) (ws : List (List ℕ)) → ts ≡ token.Name w ∷ map token.Name ws → ⊥
no_names ts h w ws e = absurd cc

-- ---- one form or none

pub record Formed (ts : List Token) : Type 0 where
  pub form : Option Line
  pub is_form : IsForm ts form

none : (ts : List Token) → IsForm ts None → Formed ts
none ts h = record { form = None; is_form = h }

one : (ts : List Token) (line : Line) → ts ≡ line_tokens line → Formed ts
one ts line e = record { form = Some line; is_form = e }

abbrev IsSumOf : List Token → Option Sum → Type 0
IsSumOf ts (Some s) = ts ≡ sum_tokens s
IsSumOf ts None = (s : Sum) → ts ≡ sum_tokens s → ⊥

sum_at : (ts : List Token) (o : Option Sum) → sum_of ts ≡ o → IsSumOf ts o
sum_at ts (Some s) h = sum_takes ts s h
sum_at ts None h = λ s e. let some : sum_of ts ≡ Some s = ap sum_of e ∙ sum_again s in absurd cc

let_by : (w : List ℕ) (ts : List Token) (o : Option Sum) → IsSumOf ts o → Formed (token.Key keys.Let ∷ token.Name w ∷ token.Equals ∷ ts)
let_by w ts (Some s) h = one _ (LetLine w s) (ap (λ (l : List Token). token.Key keys.Let ∷ token.Name w ∷ token.Equals ∷ l) h)
let_by w ts None h = none _ (no_let (token.Name w ∷ token.Equals ∷ ts) (λ v s e. h s cc))

let_form : (ts : List Token) → Formed (token.Key keys.Let ∷ ts)
let_form (token.Name w ∷ token.Equals ∷ ts) = let_by w ts (sum_of ts) (sum_at ts (sum_of ts) refl)
let_form ts = none _ (no_let ts (λ v s e. absurd cc))

-- two sums around the only split
pub split_sums : (ts xs ys : List Token) → list_all is_inner xs ≡ true → ts ≡ xs ++ (token.Equals ∷ ys) → (s t : Sum) → ts ≡ sum_tokens s ++ (token.Equals ∷ sum_tokens t) → (xs ≡ sum_tokens s) × (ys ≡ sum_tokens t)
split_sums ts xs ys all e s t h = one_split xs ys (sum_tokens s) (sum_tokens t) all (sum_inner s) (sym e ∙ h)

pub inner_no_sums : (ts : List Token) → list_all is_inner ts ≡ true → (s t : Sum) → ts ≡ sum_tokens s ++ (token.Equals ∷ sum_tokens t) → ⊥
inner_no_sums ts all s t e =
    let parts : (list_all is_inner (sum_tokens s) && false) ≡ true = sym (ap (list_all is_inner) e ∙ list_all-append is_inner (sum_tokens s) (token.Equals ∷ sum_tokens t)) ∙ all in
    let no = (and_parts (list_all is_inner (sum_tokens s)) false parts).1 in
    absurd cc

assert_by : (ts xs ys : List Token) (o p : Option Sum) → list_all is_inner xs ≡ true → ts ≡ xs ++ (token.Equals ∷ ys) → IsSumOf xs o → IsSumOf ys p → Formed (token.Key keys.Assert ∷ ts)
assert_by ts xs ys (Some s) (Some t) all e h k = one _ (AssertLine s t) (ap (λ (l : List Token). token.Key keys.Assert ∷ l) (e ∙ ap₂ (λ (x y : List Token). x ++ (token.Equals ∷ y)) h k))
assert_by ts xs ys None p all e h k = none _ (no_assert ts (λ s t f. h s (split_sums ts xs ys all e s t f).0))
assert_by ts xs ys (Some s) None all e h k = none _ (no_assert ts (λ u t f. k t (split_sums ts xs ys all e u t f).1))

assert_at : (ts : List Token) → Parted ts → Formed (token.Key keys.Assert ∷ ts)
assert_at ts (No all) = none _ (no_assert ts (inner_no_sums ts all))
assert_at ts (At xs ys all e) = assert_by ts xs ys (sum_of xs) (sum_of ys) all e (sum_at xs (sum_of xs) refl) (sum_at ys (sum_of ys) refl)

field_other : (w : List ℕ) (f : FieldId) → bytes_eq w field_word ≡ false → bytes_eq w (codes "gf2_128") ≡ false → w ≡ field_name f → ⊥
field_other w fields.Goldilocks e f h = let same : bytes_eq w field_word ≡ true = bytes_same w field_word h in absurd cc
field_other w fields.Gf2_128 e f h = let same : bytes_eq w (codes "gf2_128") ≡ true = bytes_same w (codes "gf2_128") h in absurd cc

pub no_field_name : (w : List ℕ) (ts : List Token) → bytes_eq w field_word ≡ false → bytes_eq w (codes "gf2_128") ≡ false → ts ≡ token.Name w ∷ [] → IsField ts None
no_field_name w ts e f h k same = field_other w k e f cc

field_by : (w : List ℕ) (g h : Bool) → bytes_eq w field_word ≡ g → bytes_eq w (codes "gf2_128") ≡ h → (o : Option FieldId) × IsField (token.Name w ∷ []) o
field_by w true h e f = (Some fields.Goldilocks, ap (λ (v : List ℕ). token.Name v ∷ []) (same_bytes w field_word e))
field_by w false true e f = (Some fields.Gf2_128, ap (λ (v : List ℕ). token.Name v ∷ []) (same_bytes w (codes "gf2_128") f))
field_by w false false e f = (None, no_field_name w (token.Name w ∷ []) e f refl)

field_at : (ts : List Token) → (o : Option FieldId) × IsField ts o
field_at (token.Name w ∷ []) = field_by w (bytes_eq w field_word) (bytes_eq w (codes "gf2_128")) refl refl
field_at ts = (None, λ f e. absurd cc)

field_form : (ts : List Token) (o : Option FieldId) → IsField ts o → Formed (token.Key keys.Field ∷ ts)
field_form ts (Some f) h = one _ (FieldLine f) (ap (λ (l : List Token). token.Key keys.Field ∷ l) h)
field_form ts None h = none _ (no_field ts h)

public_by : (ts : List Token) (b : Bool) → list_all is_name ts ≡ b → Formed (token.Key keys.Public ∷ ts)
public_by [] b h = none _ (no_public [] (no_names [] refl))
public_by (t ∷ ts) false h = none _ (no_public (t ∷ ts) (not_names (t ∷ ts) h))
public_by (t ∷ ts) true h = public_some (t ∷ ts) t ts refl (names_in (t ∷ ts) h)
  where
    public_some : (all : List Token) (t : Token) (ts : List Token) → all ≡ t ∷ ts → (ws : List (List ℕ)) × (all ≡ map token.Name ws) → Formed (token.Key keys.Public ∷ all)
    public_some all t ts e ([], h) = absurd cc
    public_some all t ts e (w ∷ ws, h) = one _ (PublicLine w ws) (ap (λ (l : List Token). token.Key keys.Public ∷ l) h)

private_by : (ts : List Token) (b : Bool) → list_all is_name ts ≡ b → Formed (token.Key keys.Private ∷ ts)
private_by [] b h = none _ (no_private [] (no_names [] refl))
private_by (t ∷ ts) false h = none _ (no_private (t ∷ ts) (not_names (t ∷ ts) h))
private_by (t ∷ ts) true h = private_some (t ∷ ts) t ts refl (names_in (t ∷ ts) h)
  where
    private_some : (all : List Token) (t : Token) (ts : List Token) → all ≡ t ∷ ts → (ws : List (List ℕ)) × (all ≡ map token.Name ws) → Formed (token.Key keys.Private ∷ all)
    private_some all t ts e ([], h) = absurd cc
    private_some all t ts e (w ∷ ws, h) = one _ (PrivateLine w ws) (ap (λ (l : List Token). token.Key keys.Private ∷ l) h)

pub no_keyword : (ts : List Token) → first_keyword ts ≡ None → IsForm ts None
no_keyword ts h (FieldLine f) e = let k : first_keyword ts ≡ Some keys.Field = ap first_keyword e in absurd cc
no_keyword ts h (PublicLine w ws) e = let k : first_keyword ts ≡ Some keys.Public = ap first_keyword e in absurd cc
no_keyword ts h (PrivateLine w ws) e = let k : first_keyword ts ≡ Some keys.Private = ap first_keyword e in absurd cc
no_keyword ts h (LetLine w s) e = let k : first_keyword ts ≡ Some keys.Let = ap first_keyword e in absurd cc
no_keyword ts h (AssertLine s t) e = let k : first_keyword ts ≡ Some keys.Assert = ap first_keyword e in absurd cc

-- each line has a form or none
pub formed : (ts : List Token) → Formed ts
formed (token.Key keys.Field ∷ ts) = let f = field_at ts in field_form ts f.0 f.1
formed (token.Key keys.Public ∷ ts) = public_by ts (list_all is_name ts) refl
formed (token.Key keys.Private ∷ ts) = private_by ts (list_all is_name ts) refl
formed (token.Key keys.Let ∷ ts) = let_form ts
formed (token.Key keys.Assert ∷ ts) = assert_at ts (parted ts)
formed ts = none ts (no_keyword ts refl)

-- ---- and only one

names_same : (ws vs : List (List ℕ)) → map token.Name ws ≡ map token.Name vs → ws ≡ vs
names_same [] [] e = refl
names_same [] (v ∷ vs) e = absurd cc
names_same (w ∷ ws) [] e = absurd cc
names_same (w ∷ ws) (v ∷ vs) e =
    let first : w ≡ v = cc in
    let rest : map token.Name ws ≡ map token.Name vs = cc in
    ap₂ (λ (x : List ℕ) (xs : List (List ℕ)). x ∷ xs) first (names_same ws vs rest)

sums_same : (s t : Sum) → sum_tokens s ≡ sum_tokens t → s ≡ t
sums_same s t e = let some : Some s ≡ Some t = sym (sum_again s) ∙ ap sum_of e ∙ sum_again t in cc

fields_same : (f g : FieldId) → field_name f ≡ field_name g → f ≡ g
fields_same fields.Goldilocks fields.Goldilocks e = refl
fields_same fields.Gf2_128 fields.Gf2_128 e = refl
fields_same fields.Goldilocks fields.Gf2_128 e = let no : true ≡ false = ap (bytes_eq field_word) e in absurd cc
fields_same fields.Gf2_128 fields.Goldilocks e = let no : true ≡ false = ap (bytes_eq (codes "gf2_128")) e in absurd cc

lines_same : (a b : Line) → line_tokens a ≡ line_tokens b → a ≡ b
lines_same (FieldLine f) (FieldLine g) e = ap FieldLine (fields_same f g cc)
lines_same (PublicLine w ws) (PublicLine v vs) e = let first : w ≡ v = cc in ap₂ (λ (x : List ℕ) (xs : List (List ℕ)). PublicLine x xs) first (names_same ws vs cc)
lines_same (PrivateLine w ws) (PrivateLine v vs) e = let first : w ≡ v = cc in ap₂ (λ (x : List ℕ) (xs : List (List ℕ)). PrivateLine x xs) first (names_same ws vs cc)
lines_same (LetLine w s) (LetLine v t) e = let first : w ≡ v = cc in ap₂ (λ (x : List ℕ) (y : Sum). LetLine x y) first (sums_same s t cc)
lines_same (AssertLine s t) (AssertLine u v) e =
    let p = one_split (sum_tokens s) (sum_tokens t) (sum_tokens u) (sum_tokens v) (sum_inner s) (sum_inner u) cc in
    ap₂ (λ (x y : Sum). AssertLine x y) (sums_same s u p.0) (sums_same t v p.1)
lines_same a b e = absurd cc

pub one_form : (ts : List Token) (o p : Option Line) → IsForm ts o → IsForm ts p → o ≡ p
one_form ts (Some a) (Some b) h k = ap (λ (x : Line). Some x) (lines_same a b (sym h ∙ k))
one_form ts (Some a) None h k = absurd (k a h)
one_form ts None (Some b) h k = absurd (h b k)
one_form ts None None h k = refl

-- What the lines of a text build: statements that fit behind each other.
use Rattle.std.proofs.Common.{◌≡◌, ℕ, ◌+◌, ◌-◌, ◌≤◌, ◌<◌, Bool, true, false, cond, not, ◌&&◌, ◌||◌, List, [], ◌∷◌, ◌++◌, map, length, Option, Some, None, is_some, Ok, Err, Result, refl, sym, ◌∙◌, ap, append_assoc, arith, bytes_eq, subst}
use Rattle.std.specs.Prelude.{nat_le, nat_lt, count_by, codes, ◌==◌}
use Rattle.std.specs.List.{list_all, list_any}
use Rattle.std.proofs.lemmas.Bool.{and_parts}
use Rattle.std.proofs.lemmas.Bool.Decides.{nat_tests}
use Rattle.std.proofs.lemmas.List.{append-nil, length-map}
use Rattle.std.proofs.lemmas.List.Folds.{list_all-append}
use Rattle.lzk_profile.specs.Profile.{most_privates}
use Rattle.lzk_expr.specs.declared.coder.Input.{Input}
use Rattle.lzk_expr.specs.declared.coder.Input.TheVariants as inputs
use Rattle.lzk_expr.specs.declared.tokens.Keyword.{Keyword}
use Rattle.lzk_expr.specs.declared.tokens.Keyword.TheVariants as keys
use Rattle.lzk_expr.specs.declared.source_fault.SourceKind.{SourceKind}
use Rattle.lzk_expr.specs.declared.source_fault.SourceKind.TheVariants as kinds
use Rattle.lzk_expr.specs.declared.source_fault.SourceFault.{SourceFault}
use Rattle.lzk_expr.specs.declared.ast.FieldId.{FieldId}
use Rattle.lzk_expr.specs.Texts.{lines, content, is_plain, begins, number_of}
use Rattle.lzk_expr.specs.Tokens.{Token, tokens, token_of, word_token, plain_token, number_token, sign_token, Piece, Word, Sign, in_word, is_digit, pieces, onto, keeps_characters, is_empty_line}
use Rattle.lzk_expr.specs.Tokens as token
use Rattle.lzk_expr.specs.Grammar as g
use Rattle.lzk_expr.specs.Grammar.{Line, FieldLine, PublicLine, PrivateLine, LetLine, AssertLine, line_tokens, IsForm}
use Rattle.lzk_expr.specs.Trees.{Expr, Number, PublicInput, PrivateInput, Named, Statement, DeclarePublic, DeclarePrivate, Define, Assertion, SourceTree, declared_from, name_of, meaning, or_zero, sum_means, is_public, is_private, is_assertion}
use Rattle.lzk_expr.specs.Sources.{Before, nothing_yet, first_keyword, is_field, is_short, is_shallow, is_few, keeps_limits, are_new, is_new, line_names, line_numbers, is_below, field_size, after, form_read, keyword_read, LineReads, LineThen, LineAt, LinesRead, ended, ended_read, IsWellFormed}
use Rattle.lzk_expr.specs.Readers.{input_statement}
use Rattle.lzk_expr.proofs.Pieces.{pieces_onto, pieces_blank, pieces_sign}
use Rattle.lzk_expr.proofs.Tables.{count_more}
use Rattle.lzk_expr.proofs.Taken.{new_after, input_adds, none_of}
pub use Rattle.lzk_expr.specs.Built.{IsNameWord, NewName, Good, Leaf, GoodExpr, Fits, BuiltFrom, IsBuilt}
use Rattle.lzk_expr.proofs.Canonical.{sum_good}
use Rattle.lzk_expr.proofs.Depths.{sum_depth, sum_fits, printed_depth}

and_both : (a b : Bool) → a ≡ true → b ≡ true → (a && b) ≡ true
and_both true b e f = f
and_both false b e f = e

-- ---- the names of a line are words

abbrev pub TokensHave : (List ℕ → Type 0) → List Token → Type 0
TokensHave P [] = Unit {0}
TokensHave P (token.Name w ∷ ts) = P w × TokensHave P ts
TokensHave P (t ∷ ts) = TokensHave P ts

abbrev PiecesHave : List Piece → Type 0
PiecesHave [] = Unit {0}
PiecesHave (Word w ∷ ps) = ((begins in_word w ≡ true) × (list_all in_word w ≡ true)) × PiecesHave ps
PiecesHave (Sign b ∷ ps) = PiecesHave ps

onto_have : (b : ℕ) (t : Bool) (ps : List Piece) → in_word b ≡ true → PiecesHave ps → PiecesHave (onto b t ps)
onto_have b false ps h k = ((h, and_both (in_word b) true h refl), k)
onto_have b true [] h k = ((h, and_both (in_word b) true h refl), tt)
onto_have b true (Word w ∷ ps) h k = ((h, and_both (in_word b) (list_all in_word w) h k.0.1), k.1)
onto_have b true (Sign c ∷ ps) h k = ((h, and_both (in_word b) true h refl), k)

have_at : (b : ℕ) (bs : List ℕ) (t s : Bool) → in_word b ≡ t → is_plain b ≡ s → PiecesHave (pieces bs) → PiecesHave (pieces (b ∷ bs))
have_at b bs true s e f h = subst PiecesHave (sym (pieces_onto b bs (begins in_word bs) e refl)) (onto_have b (begins in_word bs) (pieces bs) e h)
have_at b bs false true e f h = subst PiecesHave (sym (pieces_sign b bs e f)) h
have_at b bs false false e f h = subst PiecesHave (sym (pieces_blank b bs f)) h

pieces_have : (bs : List ℕ) → PiecesHave (pieces bs)
unfolding pieces
pieces_have [] = tt
pieces_have (b ∷ bs) = have_at b bs (in_word b) (is_plain b) refl refl (pieces_have bs)

no_key_name : (c : Bool) (k : Keyword) (t : Token) (v : List ℕ) → cond c (token.Key k) t ≡ token.Name v → t ≡ token.Name v
no_key_name true k t v e = absurd cc
no_key_name false k t v e = e

no_number_name : (o : Option ℕ) (v : List ℕ) → number_token o ≡ token.Name v → ⊥
no_number_name None v e = absurd cc
no_number_name (Some n) v e = absurd cc

plain_name : (c : Bool) (w v : List ℕ) → cond c (number_token (number_of w)) (token.Name w) ≡ token.Name v → w ≡ v
plain_name true w v e = absurd (no_number_name (number_of w) v e)
plain_name false w v e = cc

word_itself : (w v : List ℕ) → word_token w ≡ token.Name v → w ≡ v
unfolding word_token
word_itself w v e =
    plain_name (begins is_digit w) w v
    (no_key_name (bytes_eq w (codes "assert")) keys.Assert (plain_token w) v
    (no_key_name (bytes_eq w (codes "let")) keys.Let _ v
    (no_key_name (bytes_eq w (codes "private")) keys.Private _ v
    (no_key_name (bytes_eq w (codes "public")) keys.Public _ v
    (no_key_name (bytes_eq w (codes "field")) keys.Field _ v e)))))

word_have : (w : List ℕ) (t : Token) (ts : List Token) → word_token w ≡ t → begins in_word w ≡ true → list_all in_word w ≡ true → TokensHave IsNameWord ts → TokensHave IsNameWord (t ∷ ts)
word_have w (token.Name v) ts e some all h =
    let same : w ≡ v = word_itself w v e in
    (subst IsNameWord same (record { some = some; all = all; token_is = e ∙ ap (λ (x : List ℕ). token.Name x) (sym same) }), h)
word_have w t ts e some all h = h

sign_have : (c : Bool) (x y : Token) (ts : List Token) → TokensHave IsNameWord (x ∷ ts) → TokensHave IsNameWord (y ∷ ts) → TokensHave IsNameWord (cond c x y ∷ ts)
sign_have true x y ts h k = h
sign_have false x y ts h k = k

mapped_have : (ps : List Piece) → PiecesHave ps → TokensHave IsNameWord (map token_of ps)
mapped_have [] h = tt
mapped_have (Word w ∷ ps) h = word_have w (word_token w) (map token_of ps) refl h.0.0 h.0.1 (mapped_have ps h.1)
mapped_have (Sign b ∷ ps) h =
    let ts = map token_of ps in
    let k = mapped_have ps h in
    sign_have (b == 43) token.Plus _ ts k (sign_have (b == 45) token.Minus _ ts k (sign_have (b == 42) token.Times _ ts k (sign_have (b == 40) token.Open _ ts k
    (sign_have (b == 41) token.Close _ ts k (sign_have (b == 61) token.Equals token.Other ts k k)))))

tokens_words : (bs : List ℕ) → TokensHave IsNameWord (tokens bs)
tokens_words bs = mapped_have (pieces bs) (pieces_have bs)

-- ---- statements that fit

built_join : (f : FieldId) (ss xs ys : List Statement) → BuiltFrom f ss xs → BuiltFrom f (ss ++ xs) ys → BuiltFrom f ss (xs ++ ys)
built_join f ss [] ys h k = subst (λ (l : List Statement). BuiltFrom f l ys) (append-nil ss) k
built_join f ss (x ∷ xs) ys h k = (h.0, built_join f (ss ++ (x ∷ [])) xs ys h.1 (subst (λ (l : List Statement). BuiltFrom f l ys) (sym (append_assoc ss (x ∷ []) xs)) k))

abbrev Grown : Option FieldId → List Statement → Type 0
Grown None ss = ss ≡ []
Grown (Some f) ss = BuiltFrom f [] ss

grown_more : (o : Option FieldId) (f : FieldId) (ss xs : List Statement) → o ≡ Some f → Grown o ss → BuiltFrom f ss xs → Grown o (ss ++ xs)
grown_more o f ss xs e h k = subst (λ (p : Option FieldId). Grown p (ss ++ xs)) (sym e) (built_join f [] ss xs (subst (λ (p : Option FieldId). Grown p ss) e h) k)

-- ---- inputs

le_of : (a b : ℕ) → nat_le a b ≡ true → a ≤ b
le_of a b h = grind (arith, nat_tests)

lt_of : (a b : ℕ) → nat_lt a b ≡ true → a < b
lt_of a b h = grind (arith, nat_tests)

not_true : (b : Bool) → not b ≡ true → b ≡ false
not_true true h = absurd cc
not_true false h = refl

abbrev is_input : Input → Statement → Bool
is_input inputs.Public = is_public
is_input inputs.Private = is_private

abbrev most : Input → ℕ
most inputs.Public = 65535
most inputs.Private = most_privates

input_fits : (input : Input) (f : FieldId) (ss : List Statement) (w : List ℕ) → NewName ss w → count_by (is_input input) ss + 1 ≤ most input → Fits f ss (input_statement input w)
input_fits inputs.Public f ss w h k = (h, k)
input_fits inputs.Private f ss w h k = (h, k)

one_input : (input : Input) (ss : List Statement) (w : List ℕ) → count_by (is_input input) (ss ++ (input_statement input w ∷ [])) ≡ count_by (is_input input) ss + 1
one_input inputs.Public ss w = count_more is_public ss (DeclarePublic w)
one_input inputs.Private ss w = count_more is_private ss (DeclarePrivate w)

built_inputs : (input : Input) (f : FieldId) (ss : List Statement) (ws : List (List ℕ)) → are_new ss ws ≡ true → TokensHave IsNameWord (map token.Name ws) → list_all is_short (map token.Name ws) ≡ true → count_by (is_input input) ss + length ws ≤ most input
    → BuiltFrom f ss (map (input_statement input) ws)
built_inputs input f ss [] new words short room = tt
built_inputs input f ss (w ∷ ws) new words short room =
    let n = and_parts (not (is_some (name_of ss w))) (not (list_any (bytes_eq w) ws) && are_new ss ws) new in
    let s = and_parts (nat_le (length w) 32) (list_all is_short (map token.Name ws)) short in
    let next = ss ++ (input_statement input w ∷ []) in (
      input_fits input f ss w (record { word = words.0; short = s.0; new = none_of (name_of ss w) (not_true (is_some (name_of ss w)) n.0) }) (omega (arith, room)),
      built_inputs input f next ws (new_after ss next w (input_adds input ss w) ws ∙ n.1) words.1 s.1 (omega (arith, room, one_input input ss w)),
    )

-- ---- expressions

some_at : (o : Option Expr) → is_some o ≡ true → (x : Expr) × (o ≡ Some x)
some_at None h = absurd cc
some_at (Some x) h = (x, refl)

abbrev some : {X : Type 0} → X → Option X
some x = Some x

some_is : {X : Type 0} (x y : X) → some x ≡ some y → x ≡ y
some_is x y e = cc

-- what a declared name stands for is a leaf
module _ (f : FieldId) (all : List Statement) (w : List ℕ) (x : Expr) (at_all : name_of all w ≡ Some x) where
  public_leaf : (p : ℕ) → PublicInput p ≡ x → Good (Leaf f all) x
  public_leaf p e = subst (Good (Leaf f all)) e (w, at_all ∙ ap (λ (y : Expr). Some y) (sym e))

  private_leaf : (p : ℕ) → PrivateInput p ≡ x → Good (Leaf f all) x
  private_leaf p e = subst (Good (Leaf f all)) e (w, at_all ∙ ap (λ (y : Expr). Some y) (sym e))

  let_leaf : (p : ℕ) → Named p ≡ x → Good (Leaf f all) x
  let_leaf p e = subst (Good (Leaf f all)) e (w, at_all ∙ ap (λ (y : Expr). Some y) (sym e))

  either_leaf : (b : Bool) (y : Expr) (o : Option Expr) → cond b (Some y) o ≡ Some x → (y ≡ x → Good (Leaf f all) x) → (o ≡ Some x → Good (Leaf f all) x) → Good (Leaf f all) x
  either_leaf true y o e h k = h (some_is y x e)
  either_leaf false y o e h k = k e

  leaf_from : (p q l : ℕ) (ss : List Statement) → declared_from p q l ss w ≡ Some x → Good (Leaf f all) x
  leaf_from p q l [] e = absurd cc
  leaf_from p q l (DeclarePublic v ∷ ss) e = either_leaf (bytes_eq v w) (PublicInput p) _ e (public_leaf p) (leaf_from (p + 1) q l ss)
  leaf_from p q l (DeclarePrivate v ∷ ss) e = either_leaf (bytes_eq v w) (PrivateInput q) _ e (private_leaf q) (leaf_from p (q + 1) l ss)
  leaf_from p q l (Define v d ∷ ss) e = either_leaf (bytes_eq v w) (Named l) _ e (let_leaf l) (leaf_from p q (l + 1) ss)
  leaf_from p q l (Assertion c d ∷ ss) e = leaf_from p q l ss e

name_leaf : (f : FieldId) (ss : List Statement) (w : List ℕ) → is_some (name_of ss w) ≡ true → Good (Leaf f ss) (meaning ss w)
name_leaf f ss w h =
    let x = some_at (name_of ss w) h in
    subst (Good (Leaf f ss)) (sym (ap or_zero x.1)) (leaf_from f ss w x.0 x.1 0 0 0 ss x.1)

good_expr : (f : FieldId) (ss : List Statement) (s : g.Sum) → list_all (λ w. is_some (name_of ss w)) (g.sum_names s) ≡ true → list_all (λ n. nat_lt n (field_size f)) (g.sum_numbers s) ≡ true → sum_depth s ≤ 64
    → GoodExpr f ss (sum_means Number (meaning ss) s)
good_expr f ss s h k d = record {
  leaves = sum_good (Leaf f ss) (meaning ss) (λ w. is_some (name_of ss w)) (λ n. nat_lt n (field_size f)) (λ n e. e) (name_leaf f ss) s h k;
  shallow = omega (arith, printed_depth ss s, d);
}

-- ---- what a line that was read keeps

abbrev line_key : Line → Keyword
line_key (FieldLine f) = keys.Field
line_key (PublicLine w ws) = keys.Public
line_key (PrivateLine w ws) = keys.Private
line_key (LetLine w s) = keys.Let
line_key (AssertLine s t) = keys.Assert

key_is : (line : Line) → first_keyword (line_tokens line) ≡ Some (line_key line)
key_is (FieldLine f) = refl
key_is (PublicLine w ws) = refl
key_is (PrivateLine w ws) = refl
key_is (LetLine w s) = refl
key_is (AssertLine s t) = refl

record Kept (b next : Before) (line : Line) : Type 0 where
  words : TokensHave IsNameWord (line_tokens line)
  field : (is_some b.field_is || is_field (line_key line)) ≡ true
  limits : keeps_limits b.statements (line_key line) (line_tokens line) ≡ true
  new : is_new b line ≡ true
  known : list_all (λ w. is_some (name_of b.statements w)) (line_names line) ≡ true
  below : list_all (is_below b.field_is) (line_numbers line) ≡ true
  after_is : after b line ≡ next

ok_if : {A E : Type 0} (c : Bool) (x : Result A E) (k : E) (y : A) → cond c x (Err k) ≡ Ok y → (c ≡ true) × (x ≡ Ok y)
ok_if true x k y e = (refl, e)
ok_if false x k y e = absurd cc

abbrev ok : {A E : Type 0} → A → Result A E
ok x = Ok x

ok_is : {A E : Type 0} (x y : A) → ok {A = A} {E = E} x ≡ ok {A = A} {E = E} y → x ≡ y
ok_is x y e = cc

kept_at : (b next : Before) (bytes : List ℕ) (form : Option Line) (o : Option Keyword) → first_keyword (tokens bytes) ≡ o → IsForm (tokens bytes) form → keyword_read b (tokens bytes) form o ≡ Ok next → (line : Line) × Kept b next line
kept_at b next bytes form None e f h = absurd cc
kept_at b next bytes None (Some k) e f h =
    let one = ok_if (is_some b.field_is || is_field k) _ kinds.NoField next h in
    let two = ok_if (keeps_limits b.statements k (tokens bytes)) (form_read b None) kinds.Limit next one.1 in
    let no : form_read b None ≡ Ok next = two.1 in
    absurd cc
kept_at b next bytes (Some line) (Some k) e f h =
    let one = ok_if (is_some b.field_is || is_field k) _ kinds.NoField next h in
    let two = ok_if (keeps_limits b.statements k (tokens bytes)) (form_read b (Some line)) kinds.Limit next one.1 in
    let three = ok_if (is_new b line) _ kinds.Twice next two.1 in
    let four = ok_if (list_all (λ w. is_some (name_of b.statements w)) (line_names line)) _ kinds.Unknown next three.1 in
    let five = ok_if (list_all (is_below b.field_is) (line_numbers line)) (Ok (after b line)) kinds.TooLarge next four.1 in
    let key : k ≡ line_key line = some_is k (line_key line) (sym e ∙ ap first_keyword f ∙ key_is line) in (
      line,
      record {
        words = subst (TokensHave IsNameWord) f (tokens_words bytes);
        field = ap (λ (x : Keyword). is_some b.field_is || is_field x) (sym key) ∙ one.0;
        limits = ap (λ (x : Keyword). keeps_limits b.statements x (line_tokens line)) (sym key) ∙ ap (keeps_limits b.statements k) (sym f) ∙ two.0;
        new = three.0;
        known = four.0;
        below = five.0;
        after_is = ok_is (after b line) next five.1;
      },
    )

line_kept : (b next : Before) (bytes : List ℕ) → LineReads b bytes (Ok next) → (line : Line) × Kept b next line
line_kept b next bytes h =
    let one = ok_if (keeps_characters bytes) (keyword_read b (tokens bytes) h.form (first_keyword (tokens bytes))) kinds.Character next h.read_is in
    kept_at b next bytes h.form (first_keyword (tokens bytes)) refl h.is_form one.1

-- ---- a line that was read fits

field_there : (o : Option FieldId) → (is_some o || false) ≡ true → (f : FieldId) × (o ≡ Some f)
field_there None h = absurd cc
field_there (Some f) h = (f, refl)

nothing_there : (o : Option FieldId) (ss : List Statement) → not (is_some o) ≡ true → Grown o ss → ss ≡ []
nothing_there None ss h k = k
nothing_there (Some f) ss h k = absurd cc

limits_at : (ss : List Statement) (k : Keyword) (ts : List Token) → keeps_limits ss k ts ≡ true → (list_all is_short ts ≡ true) × (is_shallow 0 ts ≡ true) × (is_few ss k (length ts - 1) ≡ true)
limits_at ss k ts h =
    let one = and_parts (list_all is_short ts) (is_shallow 0 ts && is_few ss k (length ts - 1)) h in
    let two = and_parts (is_shallow 0 ts) (is_few ss k (length ts - 1)) one.1 in
    (one.0, two.0, two.1)

below_at : (o : Option FieldId) (f : FieldId) (ns : List ℕ) → o ≡ Some f → list_all (is_below o) ns ≡ true → list_all (λ n. nat_lt n (field_size f)) ns ≡ true
below_at o f ns e h = ap (λ (p : Option FieldId). list_all (is_below p) ns) (sym e) ∙ h

parted : {X : Type 0} (p : X → Bool) (xs ys : List X) → list_all p (xs ++ ys) ≡ true → (list_all p xs ≡ true) × (list_all p ys ≡ true)
parted p xs ys h = and_parts (list_all p xs) (list_all p ys) (sym (list_all-append p xs ys) ∙ h)

grow : (b next : Before) (line : Line) → Kept b next line → Grown b.field_is b.statements → Grown next.field_is next.statements
grow b next (FieldLine f) k h =
    let none = nothing_there b.field_is b.statements k.new h in
    subst (λ (c : Before). Grown c.field_is c.statements) k.after_is (subst (BuiltFrom f []) (sym none) tt)
grow b next (PublicLine w ws) k h =
    let f = field_there b.field_is k.field in
    let l = limits_at b.statements keys.Public (line_tokens (PublicLine w ws)) k.limits in
    let room = le_of (count_by is_public b.statements + (length (line_tokens (PublicLine w ws)) - 1)) 65535 l.2 in
    subst (λ (c : Before). Grown c.field_is c.statements) k.after_is
    (grown_more b.field_is f.0 b.statements (map DeclarePublic (w ∷ ws)) f.1 h (built_inputs inputs.Public f.0 b.statements (w ∷ ws) k.new k.words l.0 (omega (arith, room, length-map ws token.Name))))
grow b next (PrivateLine w ws) k h =
    let f = field_there b.field_is k.field in
    let l = limits_at b.statements keys.Private (line_tokens (PrivateLine w ws)) k.limits in
    let room = le_of (count_by is_private b.statements + (length (line_tokens (PrivateLine w ws)) - 1)) most_privates l.2 in
    subst (λ (c : Before). Grown c.field_is c.statements) k.after_is
    (grown_more b.field_is f.0 b.statements (map DeclarePrivate (w ∷ ws)) f.1 h (built_inputs inputs.Private f.0 b.statements (w ∷ ws) k.new k.words l.0 (omega (arith, room, length-map ws token.Name))))
grow b next (LetLine w s) k h =
    let f = field_there b.field_is k.field in
    let l = limits_at b.statements keys.Let (line_tokens (LetLine w s)) k.limits in
    let short = (and_parts (nat_le (length w) 32) (list_all is_short (g.sum_tokens s)) l.0).0 in
    let new = none_of (name_of b.statements w) (not_true (is_some (name_of b.statements w)) (and_parts (not (is_some (name_of b.statements w))) true k.new).0) in
    let depth = (sum_fits s 0 [] (omega arith) (ap (is_shallow 0) (append-nil (g.sum_tokens s)) ∙ l.1)).0 in
    let fits : Fits f.0 b.statements (Define w (sum_means Number (meaning b.statements) s)) = (record { word = k.words.0; short = short; new = new }, good_expr f.0 b.statements s k.known (below_at b.field_is f.0 (g.sum_numbers s) f.1 k.below) (omega (arith, depth))) in
    subst (λ (c : Before). Grown c.field_is c.statements) k.after_is (grown_more b.field_is f.0 b.statements (Define w (sum_means Number (meaning b.statements) s) ∷ []) f.1 h (fits, tt))
grow b next (AssertLine s t) k h =
    let f = field_there b.field_is k.field in
    let l = limits_at b.statements keys.Assert (line_tokens (AssertLine s t)) k.limits in
    let one = sum_fits s 0 (token.Equals ∷ g.sum_tokens t) (omega arith) l.1 in
    let two = (sum_fits t 0 [] (omega arith) (ap (is_shallow 0) (append-nil (g.sum_tokens t)) ∙ one.1)).0 in
    let names = parted (λ w. is_some (name_of b.statements w)) (g.sum_names s) (g.sum_names t) k.known in
    let numbers = parted (λ n. nat_lt n (field_size f.0)) (g.sum_numbers s) (g.sum_numbers t) (below_at b.field_is f.0 (g.sum_numbers s ++ g.sum_numbers t) f.1 k.below) in
    let room = lt_of (count_by is_assertion b.statements) 131072 l.2 in
    let fits : Fits f.0 b.statements (Assertion (sum_means Number (meaning b.statements) s) (sum_means Number (meaning b.statements) t)) = (good_expr f.0 b.statements s names.0 numbers.0 (omega (arith, one.0)), good_expr f.0 b.statements t names.1 numbers.1 (omega (arith, two)), room) in
    subst (λ (c : Before). Grown c.field_is c.statements) k.after_is (grown_more b.field_is f.0 b.statements (Assertion (sum_means Number (meaning b.statements) s) (sum_means Number (meaning b.statements) t) ∷ []) f.1 h (fits, tt))

-- ---- all lines

grow_line : (b next : Before) (bytes : List ℕ) → LineReads b bytes (Ok next) → Grown b.field_is b.statements → Grown next.field_is next.statements
grow_line b next bytes r h = let k = line_kept b next bytes r in grow b next k.0 k.1 h

grow_then : (n : ℕ) (b : Before) (bytes : List ℕ) (end : Before) (rest : Before → Type 0) → Grown b.field_is b.statements → ((c : Before) → rest c → Grown c.field_is c.statements → Grown end.field_is end.statements) → (step : Result Before SourceKind)
    → LineReads b bytes step → LineThen n (Ok end) rest step → Grown end.field_is end.statements
grow_then n b bytes end rest h more (Err kind) r t = absurd cc
grow_then n b bytes end rest h more (Ok c) r t = more c t (grow_line b c bytes r h)

grow_at : (n : ℕ) (b : Before) (bytes : List ℕ) (end : Before) (rest : Before → Type 0) → Grown b.field_is b.statements → ((c : Before) → rest c → Grown c.field_is c.statements → Grown end.field_is end.statements) → (empty : Bool)
    → LineAt n b bytes (Ok end) rest empty → Grown end.field_is end.statements
grow_at n b bytes end rest h more true r = more b r h
grow_at n b bytes end rest h more false (step, r, t) = grow_then n b bytes end rest h more step r t

grow_lines : (n : ℕ) (b : Before) (ls : List (List ℕ)) (end : Before) → LinesRead n b ls (Ok end) → Grown b.field_is b.statements → Grown end.field_is end.statements
unfolding LinesRead
grow_lines n b [] end r h = subst (λ (c : Before). Grown c.field_is c.statements) (sym (ok_is {E = SourceFault} end b r)) h
grow_lines n b (l ∷ ls) end r h = grow_at n b (content l) end (λ c. LinesRead (n + 1) c ls (Ok end)) h (λ c k. grow_lines (n + 1) c ls end k) (is_empty_line (content l)) r

built_end : (n : ℕ) (b : Before) (o : Option FieldId) (s : SourceTree) → ended n b o ≡ Ok s → Grown o b.statements → IsBuilt s
built_end n b None s e h = absurd cc
built_end n b (Some f) s e h =
    let one = ok_if (list_any is_assertion b.statements) (Ok (record { field_is = f; statements = b.statements })) (record { line = n; kind = kinds.NoAssert }) s e in
    subst IsBuilt (ok_is {E = SourceFault} (record { field_is = f; statements = b.statements }) s one.1) (record { built = h; some = one.0 })

built_read : (n : ℕ) (ls : List (List ℕ)) (all : Result Before SourceFault) (s : SourceTree) → LinesRead 1 nothing_yet ls all → ended_read n all ≡ Ok s → IsBuilt s
built_read n ls (Err f) s r e = absurd cc
built_read n ls (Ok b) s r e = built_end n b b.field_is s e (grow_lines 1 nothing_yet ls b r refl)

pub is_built : (s : SourceTree) → IsWellFormed s → IsBuilt s
is_built s h = let t = h.reads in built_read (length (lines h.text)) (lines h.text) t.all s t.lines_read t.read_is

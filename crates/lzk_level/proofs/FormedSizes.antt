-- A source has no more nodes than its text allows.
use Rattle.std.specs.Prelude.{◌≡◌, ℕ, ◌+◌, ◌*◌, ◌≤◌, Bool, true, false, cond, ◌||◌, is_some, List, [], ◌∷◌, ◌++◌, length, map, take, Option, Some, None, Result, Ok, Err}
use Rattle.std.specs.List.{onto_first, list_all, position_or_len}
use Rattle.std.proofs.Common.{zero, suc, refl, sym, ap, arith}
use Rattle.std.proofs.lemmas.List.{length-append, length-map}
use Rattle.lzk_expr.specs.Texts.{is_feed, is_hash, is_blank, begins, lines, content}
use Rattle.lzk_expr.specs.Tokens.{Piece, Word, Sign, in_word, onto, pieces, tokens, token_of, keeps_characters, is_empty_line, Token}
use Rattle.lzk_expr.specs.Tokens as token
use Rattle.lzk_expr.specs.Grammar as g
use Rattle.lzk_expr.specs.Grammar.{Line, FieldLine, PublicLine, PrivateLine, LetLine, AssertLine, line_tokens, IsForm}
use Rattle.lzk_expr.specs.declared.tokens.Keyword.{Keyword}
use Rattle.lzk_expr.specs.declared.ast.FieldId.{FieldId}
use Rattle.lzk_expr.specs.declared.source_fault.SourceKind.{SourceKind}
use Rattle.lzk_expr.specs.declared.source_fault.SourceKind.TheVariants as kinds
use Rattle.lzk_expr.specs.declared.source_fault.SourceFault.{SourceFault}
use Rattle.lzk_expr.specs.Trees.{Expr, Number, PublicInput, PrivateInput, Named, Parts, NoPart, part, Exprs, NoExpr, factor, add_part, add_factor, sum_means, sum_parts, product_means, product_factors, factor_means, atom_means, Statement, DeclarePublic, DeclarePrivate, Define, Assertion, SourceTree, declared_from, name_of, meaning, or_zero, line_means}
use Rattle.lzk_expr.specs.Sources.{Before, nothing_yet, first_keyword, is_field, keeps_limits, is_new, line_names, line_numbers, is_below, after, form_read, keyword_read, LineReads, LineThen, LineAt, LinesRead, ended, ended_read, IsWellFormed}
use Rattle.lzk_level.specs.Compilable.{size_of, parts_size, factors_size, statements_size}

-- ---- the tokens of a line

onto-short : (b : ℕ) (t : Bool) (ps : List Piece) → length (onto b t ps) ≤ 1 + length ps
onto-short b false ps = omega arith
onto-short b true [] = omega arith
onto-short b true (Word w ∷ ps) = omega arith
onto-short b true (Sign c ∷ ps) = omega arith

piece-short : (s t : Bool) (xs ps : List Piece) (b n : ℕ) → length xs ≤ 1 + n → length ps ≤ n → length (cond s xs (cond t ps (Sign b ∷ ps))) ≤ 1 + n
piece-short true t xs ps b n h k = h
piece-short false true xs ps b n h k = omega (arith, k)
piece-short false false xs ps b n h k = omega (arith, k)

pieces-short : (bs : List ℕ) → length (pieces bs) ≤ length bs
unfolding pieces
pieces-short [] = omega arith
pieces-short (b ∷ bs) =
    let h = pieces-short bs in
    let k = piece-short (in_word b) (is_blank b) (onto b (begins in_word bs) (pieces bs)) (pieces bs) b (length bs) (omega (arith, onto-short b (begins in_word bs) (pieces bs), h)) h in
    omega (arith, k)

tokens-short : (bs : List ℕ) → length (tokens bs) ≤ length bs
tokens-short bs = omega (arith, length-map (pieces bs) token_of, pieces-short bs)

-- ---- the lines of a text

take-short : (n : ℕ) (xs : List ℕ) → length (take n xs) ≤ length xs
take-short zero xs = omega arith
take-short (suc n) [] = omega arith
take-short (suc n) (x ∷ xs) = omega (arith, take-short n xs)

-- how many bytes the lines hold before their comments
abbrev held : List (List ℕ) → ℕ
held [] = 0
held (l ∷ ls) = length (content l) + held ls

abbrev all_of : List (List ℕ) → ℕ
all_of [] = 0
all_of (l ∷ ls) = length l + all_of ls

held-short : (ls : List (List ℕ)) → held ls ≤ all_of ls
held-short [] = omega arith
held-short (l ∷ ls) = omega (arith, take-short (position_or_len is_hash l) l, held-short ls)

first-short : (x : ℕ) (ls : List (List ℕ)) → all_of (onto_first x ls) ≤ 1 + all_of ls
first-short x [] = omega arith
first-short x (l ∷ ls) = omega arith

split-short : (b : Bool) (x n : ℕ) (ls : List (List ℕ)) → all_of ls ≤ n → all_of (cond b ([] ∷ ls) (onto_first x ls)) ≤ 1 + n
split-short true x n ls h = omega (arith, h)
split-short false x n ls h = omega (arith, h, first-short x ls)

lines-short : (text : List ℕ) → all_of (lines text) ≤ length text
lines-short [] = omega arith
lines-short (b ∷ text) = omega (arith, split-short (is_feed b) b (length text) (lines text) (lines-short text))

-- ---- the nodes of an expression, by its tokens

add-part : (ps : Parts) (m : Bool) (e : Expr) → parts_size (add_part ps m e) ≡ parts_size ps + size_of e
add-part NoPart m e = omega arith
add-part (part n f ps) m e = omega (arith, add-part ps m e)

add-factor : (es : Exprs) (e : Expr) → factors_size (add_factor es e) ≡ factors_size es + (1 + size_of e)
add-factor NoExpr e = omega arith
add-factor (factor f es) e = omega (arith, add-factor es e)

name-at : (b : Bool) (x : Expr) (o : Option Expr) → size_of x ≡ 1 → size_of (or_zero o) ≡ 1 → size_of (or_zero (cond b (Some x) o)) ≡ 1
name-at true x o h k = h
name-at false x o h k = k

name-size : (p q l : ℕ) (ss : List Statement) (w : List ℕ) → size_of (or_zero (declared_from p q l ss w)) ≡ 1
name-size p q l [] w = refl
name-size p q l (DeclarePublic v ∷ ss) w = name-at _ (PublicInput p) (declared_from (p + 1) q l ss w) refl (name-size (p + 1) q l ss w)
name-size p q l (DeclarePrivate v ∷ ss) w = name-at _ (PrivateInput q) (declared_from p (q + 1) l ss w) refl (name-size p (q + 1) l ss w)
name-size p q l (Define v e ∷ ss) w = name-at _ (Named l) (declared_from p q (l + 1) ss w) refl (name-size p q (l + 1) ss w)
name-size p q l (Assertion e f ∷ ss) w = name-size p q l ss w

module _ (ss : List Statement) where
  abbrev count : List Token → ℕ
  count ts = length ts

  mutual
    sum-size : (s : g.Sum) → size_of (sum_means Number (meaning ss) s) ≤ 3 * count (g.sum_tokens s)
    sum-size (g.Single p) = product-size p
    sum-size (g.Plus s p) = omega (arith, add-part (sum_parts Number (meaning ss) s) false (product_means Number (meaning ss) p), parts-size s, product-size p, length-append (g.sum_tokens s) (token.Plus ∷ g.product_tokens p))
    sum-size (g.Less s p) = omega (arith, add-part (sum_parts Number (meaning ss) s) true (product_means Number (meaning ss) p), parts-size s, product-size p, length-append (g.sum_tokens s) (token.Minus ∷ g.product_tokens p))

    parts-size : (s : g.Sum) → parts_size (sum_parts Number (meaning ss) s) ≤ 3 * count (g.sum_tokens s)
    parts-size (g.Single p) = omega (arith, product-size p)
    parts-size (g.Plus s p) = omega (arith, add-part (sum_parts Number (meaning ss) s) false (product_means Number (meaning ss) p), parts-size s, product-size p, length-append (g.sum_tokens s) (token.Plus ∷ g.product_tokens p))
    parts-size (g.Less s p) = omega (arith, add-part (sum_parts Number (meaning ss) s) true (product_means Number (meaning ss) p), parts-size s, product-size p, length-append (g.sum_tokens s) (token.Minus ∷ g.product_tokens p))

    product-size : (p : g.Product) → size_of (product_means Number (meaning ss) p) ≤ 3 * count (g.product_tokens p)
    product-size (g.Lone f) = factor-size f
    product-size (g.Times p f) = omega (arith, add-factor (product_factors Number (meaning ss) p) (factor_means Number (meaning ss) f), factors-size p, factor-size f, length-append (g.product_tokens p) (token.Times ∷ g.factor_tokens f))

    factors-size : (p : g.Product) → factors_size (product_factors Number (meaning ss) p) ≤ 3 * count (g.product_tokens p) + 1
    factors-size (g.Lone f) = omega (arith, factor-size f)
    factors-size (g.Times p f) = omega (arith, add-factor (product_factors Number (meaning ss) p) (factor_means Number (meaning ss) f), factors-size p, factor-size f, length-append (g.product_tokens p) (token.Times ∷ g.factor_tokens f))

    factor-size : (f : g.Factor) → size_of (factor_means Number (meaning ss) f) ≤ 3 * count (g.factor_tokens f)
    factor-size (g.Plain a) = atom-size a
    factor-size (g.Minus a) = omega (arith, atom-size a)

    atom-size : (a : g.Atom) → size_of (atom_means Number (meaning ss) a) ≤ 3 * count (g.atom_tokens a)
    atom-size (g.Number n) = omega arith
    atom-size (g.Name w) = omega (arith, name-size 0 0 0 ss w)
    atom-size (g.Group s) = omega (arith, sum-size s, length-append (g.sum_tokens s) (token.Close ∷ []))

size-append : (ss ts : List Statement) → statements_size (ss ++ ts) ≡ statements_size ss + statements_size ts
size-append [] ts = omega arith
size-append (s ∷ ss) ts = omega (arith, size-append ss ts)

publics-size : (ws : List (List ℕ)) → statements_size (map DeclarePublic ws) ≡ 0
publics-size [] = refl
publics-size (w ∷ ws) = omega (arith, publics-size ws)

privates-size : (ws : List (List ℕ)) → statements_size (map DeclarePrivate ws) ≡ 0
privates-size [] = refl
privates-size (w ∷ ws) = omega (arith, privates-size ws)

line-size : (ss : List Statement) (line : Line) → statements_size (line_means ss line) ≤ 3 * length (line_tokens line)
line-size ss (FieldLine f) = omega arith
line-size ss (PublicLine w ws) = omega (arith, publics-size (w ∷ ws))
line-size ss (PrivateLine w ws) = omega (arith, privates-size (w ∷ ws))
line-size ss (LetLine w s) = omega (arith, sum-size ss s)
line-size ss (AssertLine s t) = omega (arith, sum-size ss s, sum-size ss t, length-append (g.sum_tokens s) (token.Equals ∷ g.sum_tokens t))

after-size : (b : Before) (line : Line) → statements_size (after b line).statements ≤ statements_size b.statements + 3 * length (line_tokens line)
after-size b (FieldLine f) = omega arith
after-size b (PublicLine w ws) = omega (arith, size-append b.statements (line_means b.statements (PublicLine w ws)), line-size b.statements (PublicLine w ws))
after-size b (PrivateLine w ws) = omega (arith, size-append b.statements (line_means b.statements (PrivateLine w ws)), line-size b.statements (PrivateLine w ws))
after-size b (LetLine w s) = omega (arith, size-append b.statements (line_means b.statements (LetLine w s)), line-size b.statements (LetLine w s))
after-size b (AssertLine s t) = omega (arith, size-append b.statements (line_means b.statements (AssertLine s t)), line-size b.statements (AssertLine s t))

-- ---- a line that was read

ok-if : (c : Bool) (x : Result Before SourceKind) (kind : SourceKind) (next : Before) → cond c x (Err kind) ≡ Ok next → x ≡ Ok next
ok-if true x kind next e = e
ok-if false x kind next e = absurd cc

ok-is : (b c : Before) → (let x : Result Before SourceKind = Ok b in x) ≡ Ok c → b ≡ c
ok-is b c e = cc

form-size : (b next : Before) (ts : List Token) (form : Option Line) → IsForm ts form → form_read b form ≡ Ok next → statements_size next.statements ≤ statements_size b.statements + 3 * length ts
form-size b next ts None f e = absurd cc
form-size b next ts (Some line) f e =
    let one = ok-if (is_new b line) _ kinds.Twice next e in
    let two = ok-if (list_all (λ w. is_some (name_of b.statements w)) (line_names line)) _ kinds.Unknown next one in
    let three = ok-if (list_all (is_below b.field_is) (line_numbers line)) (Ok (after b line)) kinds.TooLarge next two in
    let same = ok-is (after b line) next three in
    omega (arith, after-size b line, ap (λ (c : Before). statements_size c.statements) same, ap length f)

keyword-size : (b next : Before) (ts : List Token) (form : Option Line) (k : Option Keyword) → IsForm ts form → keyword_read b ts form k ≡ Ok next → statements_size next.statements ≤ statements_size b.statements + 3 * length ts
keyword-size b next ts form None f e = absurd cc
keyword-size b next ts form (Some k) f e =
    let one = ok-if (is_some b.field_is || is_field k) _ kinds.NoField next e in
    form-size b next ts form f (ok-if (keeps_limits b.statements k ts) (form_read b form) kinds.Limit next one)

reads-size : (b next : Before) (bytes : List ℕ) → LineReads b bytes (Ok next) → statements_size next.statements ≤ statements_size b.statements + 3 * length bytes
reads-size b next bytes h =
    omega (arith, keyword-size b next (tokens bytes) h.form (first_keyword (tokens bytes)) h.is_form (ok-if (keeps_characters bytes) (keyword_read b (tokens bytes) h.form (first_keyword (tokens bytes))) kinds.Character next h.read_is), tokens-short bytes)

-- ---- all lines

abbrev Ends : Before → Before → ℕ → Type 0
Ends b end n = statements_size end.statements ≤ statements_size b.statements + n

then-size : (n : ℕ) (b : Before) (bytes : List ℕ) (end : Before) (rest : Before → Type 0) (m : ℕ) → ((c : Before) → rest c → Ends c end (3 * m)) → (step : Result Before SourceKind) → LineReads b bytes step → LineThen n (Ok end) rest step → Ends b end (3 * (length bytes + m))
then-size n b bytes end rest m more (Err kind) r t = absurd cc
then-size n b bytes end rest m more (Ok c) r t = omega (arith, more c t, reads-size b c bytes r)

at-size : (n : ℕ) (b : Before) (bytes : List ℕ) (end : Before) (rest : Before → Type 0) (m : ℕ) → ((c : Before) → rest c → Ends c end (3 * m)) → (empty : Bool) → LineAt n b bytes (Ok end) rest empty → Ends b end (3 * (length bytes + m))
at-size n b bytes end rest m more true r = omega (arith, more b r)
at-size n b bytes end rest m more false (step, r, t) = then-size n b bytes end rest m more step r t

end-is : (b c : Before) → (let x : Result Before SourceFault = Ok b in x) ≡ Ok c → b ≡ c
end-is b c e = cc

lines-size : (n : ℕ) (b : Before) (ls : List (List ℕ)) (end : Before) → LinesRead n b ls (Ok end) → Ends b end (3 * held ls)
unfolding LinesRead
lines-size n b [] end r = omega (arith, ap (λ (c : Before). statements_size c.statements) (end-is end b r))
lines-size n b (l ∷ ls) end r = at-size n b (content l) end (λ c. LinesRead (n + 1) c ls (Ok end)) (held ls) (λ c k. lines-size (n + 1) c ls end k) (is_empty_line (content l)) r

ok-source : (c : Bool) (x : SourceTree) (fault : SourceFault) (s : SourceTree) → cond c (Ok x) (Err fault) ≡ Ok s → x ≡ s
ok-source true x fault s e = cc
ok-source false x fault s e = absurd cc

end-size : (n : ℕ) (b : Before) (o : Option FieldId) (s : SourceTree) → ended n b o ≡ Ok s → statements_size s.statements ≡ statements_size b.statements
end-size n b None s e = absurd cc
end-size n b (Some f) s e = let same = ok-source _ (record { field_is = f; statements = b.statements }) _ s e in sym (ap (λ (x : SourceTree). statements_size x.statements) same)

read-size : (n : ℕ) (ls : List (List ℕ)) (all : Result Before SourceFault) (s : SourceTree) → LinesRead 1 nothing_yet ls all → ended_read n all ≡ Ok s → statements_size s.statements ≤ 3 * held ls
read-size n ls (Err f) s r e = absurd cc
read-size n ls (Ok b) s r e = omega (arith, end-size n b b.field_is s e, lines-size 1 nothing_yet ls b r)

pub formed-size : (s : SourceTree) → IsWellFormed s → statements_size s.statements ≤ 12582912
formed-size s h =
    let t = h.reads in
    omega (arith, read-size (length (lines h.text)) (lines h.text) t.all s t.lines_read t.read_is, held-short (lines h.text), lines-short h.text, h.short)

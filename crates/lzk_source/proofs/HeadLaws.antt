-- What a line's symbols say of the statements that it adds.
use Rattle.std.proofs.Common.{◌≡◌, ℕ, ◌+◌, ◌<◌, ◌≤◌, Bool, true, false, cond, ◌&&◌, ◌||◌, ◌-◌, List, [], ◌∷◌, ◌++◌, map, length, drop, get_or, Option, Some, None, is_some, Ok, Err, Result, refl, sym, ◌∙◌, ap, ap₂, subst, arith, append_assoc, Bor}
use Rattle.std.specs.Prelude.{nat_le}
use Rattle.std.specs.List.{list_all}
use Rattle.std.proofs.lemmas.Bool.{and_parts}
use Rattle.std.proofs.lemmas.Bool.Decides.{nat_tests}
use Rattle.std.proofs.lemmas.List.{map-append, append-nil, map_push, at_drop_more, at_drop_all}
use Rattle.lzk_source.specs.declared.heads.Head.{Head}
use Rattle.lzk_expr.specs.declared.tokens.Symbol.{Symbol}
use Rattle.lzk_expr.specs.declared.tokens.Symbol.TheVariants as symbol
use Rattle.lzk_expr.specs.declared.tokens.Keyword.{Keyword}
use Rattle.lzk_expr.specs.declared.tokens.Keyword.TheVariants as keys
use Rattle.lzk_expr.specs.declared.source_fault.SourceKind.{SourceKind}
use Rattle.lzk_expr.specs.declared.source_fault.SourceKind.TheVariants as kinds
use Rattle.lzk_expr.specs.Tokens.{Token, tokens, is_empty_line, keeps_characters}
use Rattle.lzk_expr.specs.Tokens as token
use Rattle.lzk_expr.specs.TokenReadings.{Tells, AreTold}
use Rattle.lzk_expr.specs.Grammar.{Line, FieldLine, PublicLine, PrivateLine, LetLine, AssertLine, line_tokens, IsForm, sum_tokens, field_name}
use Rattle.lzk_expr.specs.Trees.{Statement, DeclarePublic, DeclarePrivate, name_of, line_means}
use Rattle.lzk_expr.specs.SymbolForms.{symbol_names}
use Rattle.lzk_expr.specs.Sources.{Before, after, is_short, is_shallow, is_few, is_new, is_below, is_field, keeps_limits, line_names, line_numbers, first_keyword, keyword_read, form_read, LineReads}
use Rattle.lzk_expr.specs.Readers.{StepReads}
use Rattle.lzk_source.specs.Heads.{Heading, OfPublic, OfPrivate, OfLet, heading, headings, head_of, heads_of, let_headings, symbol_headings, is_fair}
use Rattle.lzk_expr.proofs.Inner.{is_filled, filled_some, tokens_filled}
use Rattle.lzk_expr.proofs.Taken.{among_names}
use Rattle.lzk_expr.proofs.CodeTaken.{told_names}
use Rattle.lzk_expr.proofs.TextLaws.{ok_is}
use Rattle.lzk_expr.proofs.Empty.{empty_tokens, empty_clean}

-- ---- what a line gave that was taken

pub after_test : {A E : Type 0} (t : Bool) (r : Result A E) (e : E) (a : A) → cond t r (Err e) ≡ Ok a → (t ≡ true) × (r ≡ Ok a)
after_test true r e a h = (refl, h)
after_test false r e a h = absurd cc

-- its line, and that its names have at most 32 bytes
pub record Gives (b : Before) (ts : List Token) (next : Before) : Type 0 where
  pub line : Line
  pub tokens_are : ts ≡ line_tokens line
  pub next_is : next ≡ after b line
  pub short : list_all is_short ts ≡ true

form_gives : (b next : Before) (ts : List Token) (form : Option Line) → IsForm ts form → form_read b form ≡ Ok next → list_all is_short ts ≡ true → Gives b ts next
form_gives b next ts None i h s = absurd cc
form_gives b next ts (Some line) i h s =
    let are_known : Bool = list_all (λ w. is_some (name_of b.statements w)) (line_names line) in
    let are_below : Bool = list_all (is_below b.field_is) (line_numbers line) in
    let whole : Result Before SourceKind = Ok (after b line) in
    let new = after_test (is_new b line) (cond are_known (cond are_below whole (Err kinds.TooLarge)) (Err kinds.Unknown)) kinds.Twice next h in
    let known = after_test are_known (cond are_below whole (Err kinds.TooLarge)) kinds.Unknown next new.1 in
    let below = after_test are_below whole kinds.TooLarge next known.1 in
    record { line = line; tokens_are = i; next_is = sym (ok_is (after b line) next below.1); short = s }

keyword_gives : (b next : Before) (ts : List Token) (form : Option Line) (k : Option Keyword) → IsForm ts form → keyword_read b ts form k ≡ Ok next → Gives b ts next
keyword_gives b next ts form None i h = absurd cc
keyword_gives b next ts form (Some k) i h =
    let field = after_test (is_some b.field_is || is_field k) (cond (keeps_limits b.statements k ts) (form_read b form) (Err kinds.Limit)) kinds.NoField next h in
    let limits = after_test (keeps_limits b.statements k ts) (form_read b form) kinds.Limit next field.1 in
    form_gives b next ts form i limits.1 (and_parts (list_all is_short ts) (is_shallow 0 ts && is_few b.statements k (length ts - 1)) limits.0).0

pub line_gives : (b next : Before) (bytes : List ℕ) → LineReads b bytes (Ok next) → Gives b (tokens bytes) next
line_gives b next bytes r =
    let clean = after_test (keeps_characters bytes) (keyword_read b (tokens bytes) r.form (first_keyword (tokens bytes))) kinds.Character next r.read_is in
    keyword_gives b next (tokens bytes) r.form (first_keyword (tokens bytes)) r.is_form clean.1

-- ---- names have 1 to 32 bytes

fair_name : (w : List ℕ) → 1 ≤ length w → nat_le (length w) 32 ≡ true → (nat_le 1 (length w) && nat_le (length w) 32) ≡ true
fair_name w some few = let one : nat_le 1 (length w) ≡ true = grind (arith, nat_tests) in ap₂ (λ (a b : Bool). a && b) one few

fair_symbol : (s : Symbol) (t : Token) → Tells s t → is_filled t ≡ true → is_short t ≡ true → is_fair s ≡ true
fair_symbol (symbol.Name w) t h filled short = fair_name w.now (filled_some w.now (sym (ap is_filled h) ∙ filled)) (sym (ap is_short h) ∙ short)
fair_symbol s t h filled short = refl

both_true : (a b : Bool) → a ≡ true → b ≡ true → (a && b) ≡ true
both_true true b e f = f
both_true false b e f = e

fair_symbols : (ss : List Symbol) (ts : List Token) → AreTold ss ts → list_all is_filled ts ≡ true → list_all is_short ts ≡ true → list_all is_fair ss ≡ true
fair_symbols [] ts h filled short = refl
fair_symbols (s ∷ ss) [] h filled short = absurd h
fair_symbols (s ∷ ss) (t ∷ ts) h filled short =
    let f = and_parts (is_filled t) (list_all is_filled ts) filled in
    let k = and_parts (is_short t) (list_all is_short ts) short in
    both_true (is_fair s) (list_all is_fair ss) (fair_symbol s t h.0 f.0 k.0) (fair_symbols ss ts h.1 f.1 k.1)

-- the first of fair symbols, where it is a name, and the others
pub fair_first : (ss : List Symbol) (i : ℕ) (w : Bor (List ℕ)) → list_all is_fair (drop i ss) ≡ true → i < length ss → get_or ss i (symbol.Number 0) ≡ symbol.Name w → (1 ≤ length w.now) × (length w.now ≤ 32)
fair_first ss i w h lt e =
    let all : list_all is_fair (symbol.Name w ∷ drop (i + 1) ss) ≡ true = sym (at_drop_more (list_all is_fair) ss i (symbol.Number 0) lt ∙ ap (λ (s : Symbol). list_all is_fair (s ∷ drop (i + 1) ss)) e) ∙ h in
    let both = and_parts (nat_le 1 (length w.now) && nat_le (length w.now) 32) (list_all is_fair (drop (i + 1) ss)) all in
    let parts = and_parts (nat_le 1 (length w.now)) (nat_le (length w.now) 32) both.0 in
    (grind (arith, nat_tests), grind (arith, nat_tests))

pub fair_rest : (ss : List Symbol) (i : ℕ) → list_all is_fair (drop i ss) ≡ true → i < length ss → list_all is_fair (drop (i + 1) ss) ≡ true
fair_rest ss i h lt = (and_parts (is_fair (get_or ss i (symbol.Number 0))) (list_all is_fair (drop (i + 1) ss)) (sym (at_drop_more (list_all is_fair) ss i (symbol.Number 0) lt) ∙ h)).1

-- with one more head
pub heads_pushed : (f : List ℕ → Heading) (old new : List Head) (head : Head) (w : List ℕ) (rest : List (List ℕ)) (all : List Heading) → new ≡ old ++ head ∷ [] → head_of head ≡ f w → heads_of old ++ map f (w ∷ rest) ≡ all → heads_of new ++ map f rest ≡ all
heads_pushed f old new head w rest all e is h =
    ap (λ (hs : List Heading). hs ++ map f rest) (ap heads_of e ∙ map_push head_of old head ∙ ap (λ (x : Heading). heads_of old ++ x ∷ []) is)
    ∙ append_assoc (heads_of old) (f w ∷ []) (map f rest) ∙ h

-- the first symbol, and what no head is made of
pub none_of_length : (ss : List Symbol) → length ss ≡ 0 → ss ≡ []
none_of_length [] h = refl
none_of_length (s ∷ ss) h = absurd cc

pub first_symbol : (ss : List Symbol) (s : Symbol) → 0 < length ss → get_or ss 0 (symbol.Number 0) ≡ s → ss ≡ s ∷ drop 1 ss
first_symbol [] s some h = absurd (omega (arith, some))
first_symbol (x ∷ xs) s some h = ap (λ (y : Symbol). y ∷ xs) h

pub no_let_heads : (ss : List Symbol) → ((w : Bor (List ℕ)) → get_or ss 0 (symbol.Number 0) ≡ symbol.Name w → ⊥) → let_headings ss ≡ []
no_let_heads [] h = refl
no_let_heads (symbol.Name w ∷ ss) h = absurd (h w refl)
no_let_heads (s ∷ ss) h = refl

pub no_heads : (ss : List Symbol) → ((k : Keyword) → get_or ss 0 (symbol.Number 0) ≡ symbol.Key k → ⊥) → symbol_headings ss ≡ []
no_heads [] h = refl
no_heads (symbol.Key k ∷ ss) h = absurd (h k refl)
no_heads (s ∷ ss) h = refl

pub none_more : (heads : List Head) (hs : List Heading) → hs ≡ [] → heads_of heads ≡ heads_of heads ++ hs
none_more heads hs e = sym (append-nil (heads_of heads)) ∙ ap (λ (l : List Heading). heads_of heads ++ l) (sym e)

pub one_head : (old new : List Head) (head : Head) (hs : List Heading) → new ≡ old ++ head ∷ [] → hs ≡ head_of head ∷ [] → heads_of new ≡ heads_of old ++ hs
one_head old new head hs e is = ap heads_of e ∙ map_push head_of old head ∙ ap (λ (l : List Heading). heads_of old ++ l) (sym is)

pub more_heads : (old new : List Head) (made hs : List Heading) → heads_of new ≡ heads_of old ++ made → hs ≡ made → heads_of new ≡ heads_of old ++ hs
more_heads old new made hs e is = e ∙ ap (λ (l : List Heading). heads_of old ++ l) (sym is)

pub heads_end : (f : List ℕ → Heading) (heads : List Head) (ss : List Symbol) (i : ℕ) (all : List Heading) → length ss ≤ i → heads_of heads ++ map f (symbol_names (drop i ss)) ≡ all → heads_of heads ≡ all
heads_end f heads ss i all le h = sym (append-nil (heads_of heads)) ∙ sym (ap (λ (ws : List (List ℕ)). heads_of heads ++ map f ws) (at_drop_all symbol_names ss i le)) ∙ h

-- ---- the headings of a line

key_told : (s : Symbol) (k : Keyword) → Tells s (token.Key k) → s ≡ symbol.Key k
key_told (symbol.Key j) k h = cc
key_told symbol.Large k h = absurd (let e = h.1 in cc)
key_told (symbol.Number n) k h = absurd cc
key_told (symbol.Name w) k h = absurd cc
key_told symbol.Misspelt k h = absurd cc
key_told symbol.Plus k h = absurd cc
key_told symbol.Minus k h = absurd cc
key_told symbol.Times k h = absurd cc
key_told symbol.Open k h = absurd cc
key_told symbol.Close k h = absurd cc
key_told symbol.Equals k h = absurd cc

name_told : (s : Symbol) (w : List ℕ) → Tells s (token.Name w) → (v : Bor (List ℕ)) × (s ≡ symbol.Name v) × (v.now ≡ w)
name_told (symbol.Name v) w h = (v, refl, cc)
name_told symbol.Large w h = absurd (let e = h.1 in cc)
name_told (symbol.Number n) w h = absurd cc
name_told (symbol.Key k) w h = absurd cc
name_told symbol.Misspelt w h = absurd cc
name_told symbol.Plus w h = absurd cc
name_told symbol.Minus w h = absurd cc
name_told symbol.Times w h = absurd cc
name_told symbol.Open w h = absurd cc
name_told symbol.Close w h = absurd cc
name_told symbol.Equals w h = absurd cc

-- the symbols of a keyword and what is behind it
behind_key : (ss : List Symbol) (k : Keyword) (ts : List Token) → AreTold ss (token.Key k ∷ ts) → (rest : List Symbol) × (ss ≡ symbol.Key k ∷ rest) × AreTold rest ts
behind_key [] k ts h = absurd h
behind_key (s ∷ rest) k ts h = (rest, ap (λ (x : Symbol). x ∷ rest) (key_told s k h.0), h.1)

behind_name : (ss : List Symbol) (w : List ℕ) (ts : List Token) → AreTold ss (token.Name w ∷ ts) → (v : Bor (List ℕ)) × (rest : List Symbol) × (ss ≡ symbol.Name v ∷ rest) × (v.now ≡ w)
behind_name [] w ts h = absurd h
behind_name (s ∷ rest) w ts h = let n = name_told s w h.0 in (n.0, rest, ap (λ (x : Symbol). x ∷ rest) n.1, n.2)

headings_public : (ws : List (List ℕ)) → headings (map DeclarePublic ws) ≡ map OfPublic ws
headings_public [] = refl
headings_public (w ∷ ws) = ap (λ (hs : List Heading). OfPublic w ∷ hs) (headings_public ws)

headings_private : (ws : List (List ℕ)) → headings (map DeclarePrivate ws) ≡ map OfPrivate ws
headings_private [] = refl
headings_private (w ∷ ws) = ap (λ (hs : List Heading). OfPrivate w ∷ hs) (headings_private ws)

names_told : (ss : List Symbol) (w : List ℕ) (ws : List (List ℕ)) → AreTold ss (token.Name w ∷ map token.Name ws) → symbol_names ss ≡ w ∷ ws
names_told ss w ws h = sym (told_names ss (token.Name w ∷ map token.Name ws) h) ∙ ap (λ (l : List (List ℕ)). w ∷ l) (among_names ws)

line_headings : (qs : List Statement) (ss : List Symbol) (line : Line) → AreTold ss (line_tokens line) → symbol_headings ss ≡ headings (line_means qs line)
line_headings qs ss (FieldLine f) h = let k = behind_key ss keys.Field (token.Name (field_name f) ∷ []) h in ap symbol_headings k.1
line_headings qs ss (PublicLine w ws) h =
    let k = behind_key ss keys.Public (token.Name w ∷ map token.Name ws) h in
    ap symbol_headings k.1 ∙ ap (map OfPublic) (names_told k.0 w ws k.2) ∙ sym (headings_public (w ∷ ws))
line_headings qs ss (PrivateLine w ws) h =
    let k = behind_key ss keys.Private (token.Name w ∷ map token.Name ws) h in
    ap symbol_headings k.1 ∙ ap (map OfPrivate) (names_told k.0 w ws k.2) ∙ sym (headings_private (w ∷ ws))
line_headings qs ss (LetLine w s) h =
    let k = behind_key ss keys.Let (token.Name w ∷ token.Equals ∷ sum_tokens s) h in
    let n = behind_name k.0 w (token.Equals ∷ sum_tokens s) k.2 in
    ap symbol_headings k.1 ∙ ap (λ (l : List Symbol). symbol_headings (symbol.Key keys.Let ∷ l)) n.2 ∙ ap (λ (v : List ℕ). OfLet v ∷ []) n.3
line_headings qs ss (AssertLine s t) h =
    let k = behind_key ss keys.Assert (sum_tokens s ++ (token.Equals ∷ sum_tokens t)) h in
    ap symbol_headings k.1

after_headings : (b : Before) (line : Line) → headings (after b line).statements ≡ headings b.statements ++ headings (line_means b.statements line)
after_headings b (FieldLine f) = sym (append-nil (headings b.statements))
after_headings b (PublicLine w ws) = map-append heading b.statements (line_means b.statements (PublicLine w ws))
after_headings b (PrivateLine w ws) = map-append heading b.statements (line_means b.statements (PrivateLine w ws))
after_headings b (LetLine w s) = map-append heading b.statements (line_means b.statements (LetLine w s))
after_headings b (AssertLine s t) = map-append heading b.statements (line_means b.statements (AssertLine s t))

-- ---- a line of a text that is a source

pub clean_line : (b next : Before) (bytes : List ℕ) (t : Bool) → is_empty_line bytes ≡ t → StepReads b bytes (Ok next) t → keeps_characters bytes ≡ true
clean_line b next bytes true e h = empty_clean bytes e
clean_line b next bytes false e h = (after_test (keeps_characters bytes) (keyword_read b (tokens bytes) h.form (first_keyword (tokens bytes))) kinds.Character next h.read_is).0

told_none : (ss : List Symbol) (ts : List Token) → ts ≡ [] → AreTold ss ts → ss ≡ []
told_none [] ts e h = refl
told_none (s ∷ ss) [] e h = absurd h
told_none (s ∷ ss) (t ∷ ts) e h = absurd cc

-- the symbols are fair, and their headings are those of the statements that were added
pub record IsHeaded (b next : Before) (ss : List Symbol) : Type 0 where
  pub fair : list_all is_fair ss ≡ true
  pub headed : headings next.statements ≡ headings b.statements ++ symbol_headings ss

pub headed_at : (b next : Before) (bytes : List ℕ) (ss : List Symbol) (t : Bool) → is_empty_line bytes ≡ t → StepReads b bytes (Ok next) t → AreTold ss (tokens bytes) → IsHeaded b next ss
headed_at b next bytes ss true e h told =
    let none : ss ≡ [] = told_none ss (tokens bytes) (empty_tokens bytes e) told in
    let same : next ≡ b = ok_is next b h in
    record {
      fair = ap (list_all is_fair) none;
      headed = ap (λ (x : Before). headings x.statements) same ∙ sym (ap (λ (l : List Symbol). headings b.statements ++ symbol_headings l) none ∙ append-nil (headings b.statements));
    }
headed_at b next bytes ss false e h told =
    let g = line_gives b next bytes h in
    let line_told : AreTold ss (line_tokens g.line) = subst (AreTold ss) g.tokens_are told in
    record {
      fair = fair_symbols ss (tokens bytes) told (tokens_filled bytes) g.short;
      headed = ap (λ (x : Before). headings x.statements) g.next_is ∙ after_headings b g.line ∙ ap (λ (l : List Heading). headings b.statements ++ l) (sym (line_headings b.statements ss g.line line_told));
    }

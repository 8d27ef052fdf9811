-- A line's tokens are taken, or break a rule.
use Rattle.std.proofs.Common.{◌≡◌, ℕ, Bool, true, false, cond, not, ◌&&◌, ◌||◌, List, [], ◌∷◌, ◌++◌, map, Option, Some, None, is_some, Ok, Err, Result, refl, sym, ◌∙◌, ap, ap₂, bytes_eq, append_assoc, IfOk}
use Rattle.std.specs.List.{list_all, list_any}
use Rattle.std.proofs.lemmas.List.{append-nil}
use Rattle.std.specs.HashMap.{HashMap}
use Rattle.lzk_expr.specs.declared.names.Binding.{Binding}
use Rattle.lzk_expr.specs.declared.names.Binding.TheVariants as binding
use Rattle.lzk_expr.specs.declared.coder.Input.{Input}
use Rattle.lzk_expr.specs.declared.coder.Input.TheVariants as inputs
use Rattle.lzk_expr.specs.declared.tokens.Keyword.{Keyword}
use Rattle.lzk_expr.specs.declared.source_fault.SourceKind.{SourceKind}
use Rattle.lzk_expr.specs.declared.source_fault.SourceKind.TheVariants as kinds
use Rattle.lzk_expr.specs.declared.ast.FieldId.{FieldId}
use Rattle.lzk_expr.specs.Tokens.{Token, tokens, keeps_characters}
use Rattle.lzk_expr.specs.Tokens as token
use Rattle.lzk_expr.specs.Grammar.{Line, PublicLine, PrivateLine, line_tokens, IsForm}
use Rattle.lzk_expr.specs.Trees.{Expr, Statement, DeclarePublic, DeclarePrivate, name_of, meaning, or_zero}
use Rattle.lzk_expr.specs.Sources.{Before, is_new, are_new, line_names, line_numbers, is_below, after, form_read, first_keyword, keyword_read, line_read, keeps_limits, is_field}
use Rattle.lzk_expr.specs.Table.{found, binding_expr, bound}
use Rattle.lzk_expr.specs.Readers.{named, is_name, key_of, input_statement}
use Rattle.lzk_expr.proofs.Declarations.{or_first, declared_public, declared_private}
use Rattle.lzk_expr.proofs.Forms.{no_public, no_private, names_in}

-- ---- what a form gives

pub form_twice : (b : Before) (line : Line) → is_new b line ≡ false → form_read b (Some line) ≡ Err kinds.Twice
form_twice b line h = rw h refl

pub form_unknown : (b : Before) (line : Line) → is_new b line ≡ true → list_all (λ w. is_some (name_of b.statements w)) (line_names line) ≡ false → form_read b (Some line) ≡ Err kinds.Unknown
form_unknown b line h k = rw (h, k) refl

pub form_large : (b : Before) (line : Line) → is_new b line ≡ true → list_all (λ w. is_some (name_of b.statements w)) (line_names line) ≡ true → list_all (is_below b.field_is) (line_numbers line) ≡ false → form_read b (Some line) ≡ Err kinds.TooLarge
form_large b line h k l = rw (h, k, l) refl

pub form_good : (b : Before) (line : Line) → is_new b line ≡ true → list_all (λ w. is_some (name_of b.statements w)) (line_names line) ≡ true → list_all (is_below b.field_is) (line_numbers line) ≡ true → form_read b (Some line) ≡ Ok (after b line)
form_good b line h k l = rw (h, k, l) refl

-- ---- the table's answers

some_named : (o : Option Binding) → is_some o ≡ is_some (named o)
some_named None = refl
some_named (Some b) = refl

-- the names of a table are those of these statements
abbrev pub AreNamesOf : {S : Type 0} → HashMap (List ℕ) Binding S → List Statement → Type 0
AreNamesOf m ss = (w : List ℕ) → named (found m w) ≡ name_of ss w

pub known_in : {S : Type 0} (m : HashMap (List ℕ) Binding S) (ss : List Statement) → AreNamesOf m ss → (w : List ℕ) → is_some (found m w) ≡ is_some (name_of ss w)
known_in m ss h w = some_named (found m w) ∙ ap is_some (h w)

bound_named : (o : Option Binding) → binding_expr o ≡ or_zero (named o)
bound_named None = refl
bound_named (Some (binding.Public i)) = refl
bound_named (Some (binding.Private i)) = refl
bound_named (Some (binding.Named i)) = refl

pub bound_in : {S : Type 0} (m : HashMap (List ℕ) Binding S) (ss : List Statement) → AreNamesOf m ss → (w : List ℕ) → bound m w ≡ meaning ss w
bound_in m ss h w = bound_named (found m w) ∙ ap or_zero (h w)

pub none_of : {X : Type 0} (o : Option X) → is_some o ≡ false → o ≡ None
none_of None h = refl
none_of (Some x) h = absurd cc

-- ---- lines of inputs

-- the names among tokens
abbrev pub names_among : List Token → List (List ℕ)
names_among [] = []
names_among (token.Name w ∷ ts) = w ∷ names_among ts
names_among (t ∷ ts) = names_among ts

pub among_names : (ws : List (List ℕ)) → names_among (map token.Name ws) ≡ ws
among_names [] = refl
among_names (w ∷ ws) = ap (λ (l : List (List ℕ)). w ∷ l) (among_names ws)

-- what is read behind names that are declared
abbrev pub inputs_read : Input → Before → List (List ℕ) → Result Before SourceKind
inputs_read input b ws = cond (are_new b.statements ws) (Ok (record { field_is = b.field_is; statements = b.statements ++ map (input_statement input) ws })) (Err kinds.Twice)

or_some : (o : Option Expr) (t : Bool) (x : Expr) → is_some (or_first o (cond t (Some x) None)) ≡ (is_some o || t)
or_some (Some y) t x = refl
or_some None true x = refl
or_some None false x = refl

pub input_adds : (input : Input) (ss : List Statement) (w v : List ℕ) → is_some (name_of (ss ++ input_statement input w ∷ []) v) ≡ (is_some (name_of ss v) || bytes_eq w v)
input_adds inputs.Public ss w v = ap is_some (declared_public 0 0 0 ss w v) ∙ or_some (name_of ss v) (bytes_eq w v) _
input_adds inputs.Private ss w v = ap is_some (declared_private 0 0 0 ss w v) ∙ or_some (name_of ss v) (bytes_eq w v) _

table : (a b c d e : Bool) → (not (a || b) && (not c && (not d && e))) ≡ (not (b || d) && (not a && (not c && e)))
table true true c d e = refl
table true false c true e = refl
table true false c false e = refl
table false true c d e = refl
table false false true true e = refl
table false false true false e = refl
table false false false true e = refl
table false false false false e = refl

apart : (t a b c d e f : Bool) → t ≡ (a || b) → f ≡ (not d && e) → (not t && (not c && f)) ≡ (not (b || d) && (not a && (not c && e)))
apart t a b c d e f p q = ap₂ (λ (x y : Bool). not x && (not c && y)) p q ∙ table a b c d e

-- names are new behind a declaration where they are before it and none of them is that name
pub new_after : (ss ts : List Statement) (w : List ℕ) → ((v : List ℕ) → is_some (name_of ts v) ≡ (is_some (name_of ss v) || bytes_eq w v)) → (ws : List (List ℕ)) → are_new ts ws ≡ (not (list_any (bytes_eq w) ws) && are_new ss ws)
new_after ss ts w adds [] = refl
new_after ss ts w adds (v ∷ vs) = apart (is_some (name_of ts v)) (is_some (name_of ss v)) (bytes_eq w v) (list_any (bytes_eq v) vs) (list_any (bytes_eq w) vs) (are_new ss vs) (are_new ts vs) (adds v) (new_after ss ts w adds vs)

pub inputs_next : (input : Input) (b c : Before) (w : List ℕ) (ws : List (List ℕ)) → name_of b.statements w ≡ None → c.field_is ≡ b.field_is → c.statements ≡ b.statements ++ input_statement input w ∷ [] → inputs_read input b (w ∷ ws) ≡ inputs_read input c ws
inputs_next input b c w ws new f s =
    let ss = b.statements in
    let one : are_new ss (w ∷ ws) ≡ are_new c.statements ws = ap (λ (o : Option Expr). not (is_some o) && (not (list_any (bytes_eq w) ws) && are_new ss ws)) new ∙ sym (new_after ss (ss ++ input_statement input w ∷ []) w (input_adds input ss w) ws) ∙ ap (λ (l : List Statement). are_new l ws) (sym s) in
    let all : ss ++ map (input_statement input) (w ∷ ws) ≡ c.statements ++ map (input_statement input) ws = sym (append_assoc ss (input_statement input w ∷ []) (map (input_statement input) ws)) ∙ ap (λ (l : List Statement). l ++ map (input_statement input) ws) (sym s) in
    let P : Bool → Option FieldId → List Statement → Result Before SourceKind = λ t g l. cond t (Ok (record { field_is = g; statements = l })) (Err kinds.Twice) in
    ap (λ (t : Bool). P t b.field_is (ss ++ map (input_statement input) (w ∷ ws))) one ∙ ap (λ (g : Option FieldId). P (are_new c.statements ws) g (ss ++ map (input_statement input) (w ∷ ws))) (sym f) ∙ ap (λ (l : List Statement). P (are_new c.statements ws) c.field_is l) all

pub inputs_twice : (input : Input) (b : Before) (w : List ℕ) (ws : List (List ℕ)) → is_some (name_of b.statements w) ≡ true → inputs_read input b (w ∷ ws) ≡ Err kinds.Twice
inputs_twice input b w ws e = rw e refl

pub inputs_done : (input : Input) (b : Before) → inputs_read input b [] ≡ Ok b
inputs_done input b = ap (λ (l : List Statement). Ok (record { field_is = b.field_is; statements = l })) (append-nil b.statements)

abbrev pub line_of : Input → List ℕ → List (List ℕ) → Line
line_of inputs.Public w ws = PublicLine w ws
line_of inputs.Private w ws = PrivateLine w ws

line_of_tokens : (input : Input) (w : List ℕ) (ws : List (List ℕ)) → line_tokens (line_of input w ws) ≡ token.Key (key_of input) ∷ token.Name w ∷ map token.Name ws
line_of_tokens inputs.Public w ws = refl
line_of_tokens inputs.Private w ws = refl

reads_line : (input : Input) (b : Before) (w : List ℕ) (ws : List (List ℕ)) (t : Bool) → are_new b.statements (w ∷ ws) ≡ t → form_read b (Some (line_of input w ws)) ≡ inputs_read input b (w ∷ ws)
reads_line inputs.Public b w ws true h = form_good b (PublicLine w ws) h refl refl ∙ sym (ap (λ (t : Bool). cond t (Ok (record { field_is = b.field_is; statements = b.statements ++ map DeclarePublic (w ∷ ws) })) (Err kinds.Twice)) h)
reads_line inputs.Public b w ws false h = form_twice b (PublicLine w ws) h ∙ sym (ap (λ (t : Bool). cond t (Ok (record { field_is = b.field_is; statements = b.statements ++ map DeclarePublic (w ∷ ws) })) (Err kinds.Twice)) h)
reads_line inputs.Private b w ws true h = form_good b (PrivateLine w ws) h refl refl ∙ sym (ap (λ (t : Bool). cond t (Ok (record { field_is = b.field_is; statements = b.statements ++ map DeclarePrivate (w ∷ ws) })) (Err kinds.Twice)) h)
reads_line inputs.Private b w ws false h = form_twice b (PrivateLine w ws) h ∙ sym (ap (λ (t : Bool). cond t (Ok (record { field_is = b.field_is; statements = b.statements ++ map DeclarePrivate (w ∷ ws) })) (Err kinds.Twice)) h)

pub no_inputs : (input : Input) (ts : List Token) → ((w : List ℕ) (ws : List (List ℕ)) → ts ≡ token.Name w ∷ map token.Name ws → ⊥) → IsForm (token.Key (key_of input) ∷ ts) None
no_inputs inputs.Public ts h = no_public ts h
no_inputs inputs.Private ts h = no_private ts h

-- the names of a line of inputs
pub record Inputs (ts : List Token) : Type 0 where
  pub first : List ℕ
  pub others : List (List ℕ)
  pub tokens_are : ts ≡ token.Name first ∷ map token.Name others
  pub names_are : names_among ts ≡ first ∷ others

inputs_at : (ts : List Token) (ws : List (List ℕ)) → ts ≡ map token.Name ws → (ts ≡ [] → ⊥) → Inputs ts
inputs_at ts [] e some = absurd (some e)
inputs_at ts (w ∷ ws) e some = record { first = w; others = ws; tokens_are = e; names_are = ap names_among e ∙ ap (λ (l : List (List ℕ)). w ∷ l) (among_names ws) }

pub inputs_of : (ts : List Token) → list_all is_name ts ≡ true → (ts ≡ [] → ⊥) → Inputs ts
inputs_of ts h some = let n = names_in ts h in inputs_at ts n.0 n.1 some

pub reads_inputs : (b : Before) (input : Input) (ts : List Token) (i : Inputs ts) → form_read b (Some (line_of input i.first i.others)) ≡ inputs_read input b (names_among ts)
reads_inputs b input ts i = reads_line input b i.first i.others (are_new b.statements (i.first ∷ i.others)) refl ∙ ap (inputs_read input b) (sym i.names_are)

pub tokens_inputs : (input : Input) (ts : List Token) (i : Inputs ts) → token.Key (key_of input) ∷ ts ≡ line_tokens (line_of input i.first i.others)
tokens_inputs input ts i = ap (λ (l : List Token). token.Key (key_of input) ∷ l) i.tokens_are ∙ sym (line_of_tokens input i.first i.others)

-- ---- a whole line

-- a line with this keyword
pub line_read_at : (b : Before) (bytes : List ℕ) (form : Option Line) (k : Keyword) → keeps_characters bytes ≡ true → first_keyword (tokens bytes) ≡ Some k → line_read b bytes form ≡ keyword_read b (tokens bytes) form (Some k)
line_read_at b bytes form k h e = rw h (ap (keyword_read b (tokens bytes) form) e)

pub no_field_at : (b : Before) (ts : List Token) (form : Option Line) (k : Keyword) → (is_some b.field_is || is_field k) ≡ false → keyword_read b ts form (Some k) ≡ Err kinds.NoField
no_field_at b ts form k h = rw h refl

pub limit_at : (b : Before) (ts : List Token) (form : Option Line) (k : Keyword) → (is_some b.field_is || is_field k) ≡ true → keeps_limits b.statements k ts ≡ false → keyword_read b ts form (Some k) ≡ Err kinds.Limit
limit_at b ts form k h e = rw (h, e) refl

pub form_at : (b : Before) (ts : List Token) (form : Option Line) (k : Keyword) → (is_some b.field_is || is_field k) ≡ true → keeps_limits b.statements k ts ≡ true → keyword_read b ts form (Some k) ≡ form_read b form
form_at b ts form k h e = rw (h, e) refl

pub if_ok : {T E : Type 0} (r : Result T E) (P Q : T → Type 0) → ((x : T) → P x → Q x) → IfOk r P → IfOk r Q
if_ok (Ok x) P Q f h = f x h
if_ok (Err e) P Q f h = h

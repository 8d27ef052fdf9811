-- A line's tokens are taken as code, or break a rule.
use Rattle.std.proofs.Common.{◌≡◌, ℕ, ◌+◌, Bool, true, false, not, ◌&&◌, ◌||◌, ◌-◌, ◌<◌, ◌==◌, length, get_or, drop, Bor, List, [], ◌∷◌, ◌++◌, Option, Some, None, is_some, Ok, Err, Result, refl, sym, ◌∙◌, ap, arith, subst, bytes_eq, map}
use Rattle.std.specs.Prelude.{OnOk, count_by, cond, nat_le, nat_lt}
use Rattle.lzk_profile.specs.Profile.{most_privates}
use Rattle.std.specs.List.{list_all}
use Rattle.std.specs.Map.{update}
use Rattle.std.proofs.lemmas.List.{at_drop_more}
use Rattle.lzk_expr.specs.declared.coder.Coder.{Coder}
use Rattle.lzk_expr.specs.declared.names.Names.{Names}
use Rattle.lzk_expr.specs.declared.names.Binding.TheVariants as binding
use Rattle.lzk_expr.specs.declared.coder.Input.{Input}
use Rattle.lzk_expr.specs.declared.tokens.Keyword.{Keyword}
use Rattle.lzk_expr.specs.declared.tokens.Keyword.TheVariants as keys
use Rattle.lzk_expr.specs.declared.tokens.Symbol.{Symbol}
use Rattle.lzk_expr.specs.declared.tokens.Symbol.TheVariants as symbol
use Rattle.lzk_expr.specs.declared.source_fault.SourceKind.{SourceKind}
use Rattle.lzk_expr.specs.declared.source_fault.SourceKind.TheVariants as kinds
use Rattle.lzk_expr.specs.declared.ast.FieldId.{FieldId}
use Rattle.lzk_expr.specs.Tokens.{Token, tokens, keeps_characters, is_empty_line}
use Rattle.lzk_expr.specs.Tokens as token
use Rattle.lzk_expr.specs.TokenReadings.{Tells, AreTold}
use Rattle.lzk_expr.specs.Texts.{content}
use Rattle.lzk_expr.specs.Grammar.{Line, FieldLine, line_tokens, IsForm, field_name}
use Rattle.lzk_expr.specs.Trees.{Statement, DeclarePublic, DeclarePrivate, name_of, is_public, is_private, is_assertion}
use Rattle.lzk_expr.specs.Sources.{Before, form_read, first_keyword, keeps_limits, is_field, is_few, is_short, is_shallow}
use Rattle.lzk_expr.specs.Table.{found}
use Rattle.lzk_expr.specs.Readers.{is_define, step_of, StepReads, is_name, key_of, input_statement, keeps_bounds}
use Rattle.lzk_expr.specs.SymbolForms.{is_name_symbol, with_name, symbol_names}
use Rattle.lzk_expr.specs.Coders.{IsCoder, with_statement, TakesCode, TakesCodeLine, TakesTextLine, has_room, names_broken_by, refused_by}
use Rattle.lzk_expr.proofs.CodeLaws.{code_public, code_private}
use Rattle.lzk_expr.proofs.CodeLengths.{is_zero}
use Rattle.lzk_expr.proofs.Empty.{told_length}
use Rattle.lzk_expr.proofs.Told.{no_name_symbol}
use Rattle.lzk_expr.proofs.Declarations.{or_first, public_at, private_at, declared_public, declared_private}
use Rattle.lzk_expr.proofs.Tables.{names_after, count_more, add_none, zero_more}
use Rattle.lzk_expr.proofs.Forms.{formed, not_names}
use Rattle.lzk_expr.proofs.Taken.{form_twice, form_good, known_in, none_of, inputs_read, names_among, line_of, inputs_of, reads_inputs, tokens_inputs, no_inputs, inputs_next, inputs_twice, inputs_done, line_read_at, form_at, no_field_at, limit_at}

pub code_breaks : (b : Before) (new : Coder) (ts : List Token) (line : Line) (kind : SourceKind) → ts ≡ line_tokens line → form_read b (Some line) ≡ Err kind → TakesCode b new ts (Some kind)
code_breaks b new ts line kind e h = record { after = b; reads = record { form = Some line; is_form = e; read_is = h }; holds = λ no. absurd cc }

pub code_syntax : (b : Before) (new : Coder) (ts : List Token) → IsForm ts None → TakesCode b new ts (Some kinds.Syntax)
code_syntax b new ts h = record { after = b; reads = record { form = None; is_form = h; read_is = refl }; holds = λ no. absurd cc }

pub code_passes : (b next : Before) (new : Coder) (ts : List Token) (line : Line) → ts ≡ line_tokens line → form_read b (Some line) ≡ Ok next → IsCoder new next → TakesCode b new ts None
code_passes b next new ts line e h k = record { after = next; reads = record { form = Some line; is_form = e; read_is = h }; holds = λ yes. k }

-- ---- the table's answers

pub known_name : (c : Coder) (b : Before) → IsCoder c b → (w : List ℕ) → is_some (found c.names.table w) ≡ is_some (name_of b.statements w)
known_name c b h = known_in c.names.table b.statements h.names_are

pub unknown_name : (c : Coder) (b : Before) → IsCoder c b → (w : List ℕ) → is_some (found c.names.table w) ≡ false → name_of b.statements w ≡ None
unknown_name c b h w e = none_of (name_of b.statements w) (sym (known_name c b h w) ∙ e)

-- ---- one more statement

pub count_after : (p : Statement → Bool) (ss : List Statement) (s : Statement) (n m : ℕ) → n ≡ count_by p ss → m ≡ n + cond (p s) 1 0 → m ≡ count_by p (ss ++ s ∷ [])
count_after p ss s n m h k = k ∙ ap (λ x. x + cond (p s) 1 0) h ∙ sym (count_more p ss s)

pub public_coded : (old : Coder) (names : Names) (b : Before) (v : List ℕ) → IsCoder old b → name_of b.statements v ≡ None → ((w : List ℕ) → found names.table w ≡ update bytes_eq (found old.names.table) v (Some (binding.Public old.publics)) w)
    → IsCoder (record old { names = names; publics = old.publics + 1 }) (with_statement b (DeclarePublic v))
public_coded old names b v h none t =
    let ss = b.statements in
    let s = DeclarePublic v in
    record {
      field_is = h.field_is;
      names_are = names_after old.names.table names.table ss s v (binding.Public old.publics) h.names_are t none
          (λ w. declared_public 0 0 0 ss v w ∙ ap (λ n. or_first (name_of ss w) (public_at n v w)) (zero_more old.publics (count_by is_public ss) h.publics_are));
      publics_are = count_after is_public ss s old.publics (old.publics + 1) h.publics_are refl;
      privates_are = count_after is_private ss s old.privates old.privates h.privates_are (add_none old.privates);
      lets_are = count_after is_define ss s old.lets old.lets h.lets_are (add_none old.lets);
      asserts_are = count_after is_assertion ss s old.asserts old.asserts h.asserts_are (add_none old.asserts);
      words_are = λ more. code_public ss v _ (h.words_are more);
    }

pub private_coded : (old : Coder) (names : Names) (b : Before) (v : List ℕ) → IsCoder old b → name_of b.statements v ≡ None → ((w : List ℕ) → found names.table w ≡ update bytes_eq (found old.names.table) v (Some (binding.Private old.privates)) w)
    → IsCoder (record old { names = names; privates = old.privates + 1 }) (with_statement b (DeclarePrivate v))
private_coded old names b v h none t =
    let ss = b.statements in
    let s = DeclarePrivate v in
    record {
      field_is = h.field_is;
      names_are = names_after old.names.table names.table ss s v (binding.Private old.privates) h.names_are t none
          (λ w. declared_private 0 0 0 ss v w ∙ ap (λ n. or_first (name_of ss w) (private_at n v w)) (zero_more old.privates (count_by is_private ss) h.privates_are));
      publics_are = count_after is_public ss s old.publics old.publics h.publics_are (add_none old.publics);
      privates_are = count_after is_private ss s old.privates (old.privates + 1) h.privates_are refl;
      lets_are = count_after is_define ss s old.lets old.lets h.lets_are (add_none old.lets);
      asserts_are = count_after is_assertion ss s old.asserts old.asserts h.asserts_are (add_none old.asserts);
      words_are = λ more. code_private ss v _ (h.words_are more);
    }

-- ---- a field line

pub field_coded : (b : Before) (new : Coder) (ts : List Token) (f : FieldId) → ts ≡ token.Name (field_name f) ∷ [] → is_some b.field_is ≡ false → IsCoder new (record { field_is = Some f; statements = b.statements }) → TakesCode b new (token.Key keys.Field ∷ ts) None
field_coded b new ts f e none h =
    code_passes b (record { field_is = Some f; statements = b.statements }) new (token.Key keys.Field ∷ ts) (FieldLine f) (ap (λ (x : List Token). token.Key keys.Field ∷ x) e) (form_good b (FieldLine f) (ap not none) refl refl) h

pub field_coded_twice : (b : Before) (new : Coder) (ts : List Token) (f : FieldId) → ts ≡ token.Name (field_name f) ∷ [] → is_some b.field_is ≡ true → TakesCode b new (token.Key keys.Field ∷ ts) (Some kinds.Twice)
field_coded_twice b new ts f e some =
    code_breaks b new (token.Key keys.Field ∷ ts) (FieldLine f) kinds.Twice (ap (λ (x : List Token). token.Key keys.Field ∷ x) e) (form_twice b (FieldLine f) (ap not some))

-- ---- lines of inputs

pub coded_other : (b : Before) (new : Coder) (input : Input) (ts : List Token) → list_all is_name ts ≡ false → TakesCode b new (token.Key (key_of input) ∷ ts) (Some kinds.Syntax)
coded_other b new input ts e = code_syntax b new (token.Key (key_of input) ∷ ts) (no_inputs input ts (not_names ts e))

coded_break : (b : Before) (new : Coder) (input : Input) (ts : List Token) → list_all is_name ts ≡ true → (ts ≡ [] → ⊥) → inputs_read input b (names_among ts) ≡ Err kinds.Twice → TakesCode b new (token.Key (key_of input) ∷ ts) (Some kinds.Twice)
coded_break b new input ts h some e =
    let i = inputs_of ts h some in
    code_breaks b new (token.Key (key_of input) ∷ ts) (line_of input i.first i.others) kinds.Twice (tokens_inputs input ts i) (reads_inputs b input ts i ∙ e)

coded_pass : (b next : Before) (new : Coder) (input : Input) (ts : List Token) → list_all is_name ts ≡ true → (ts ≡ [] → ⊥) → inputs_read input b (names_among ts) ≡ Ok next → IsCoder new next → TakesCode b new (token.Key (key_of input) ∷ ts) None
coded_pass b next new input ts h some e r =
    let i = inputs_of ts h some in
    code_passes b next new (token.Key (key_of input) ∷ ts) (line_of input i.first i.others) (tokens_inputs input ts i) (reads_inputs b input ts i ∙ e) r

-- ---- the names among symbols

first_name : (s : Symbol) (t : Token) (ts : List Token) → Tells s t → names_among (t ∷ ts) ≡ with_name s (names_among ts)
first_name (symbol.Number n) t ts h = ap (λ (u : Token). names_among (u ∷ ts)) h
first_name symbol.Large t ts h = ap (λ (u : Token). names_among (u ∷ ts)) h.1
first_name (symbol.Name w) t ts h = ap (λ (u : Token). names_among (u ∷ ts)) h
first_name (symbol.Key k) t ts h = ap (λ (u : Token). names_among (u ∷ ts)) h
first_name symbol.Misspelt t ts h = ap (λ (u : Token). names_among (u ∷ ts)) h
first_name symbol.Plus t ts h = ap (λ (u : Token). names_among (u ∷ ts)) h
first_name symbol.Minus t ts h = ap (λ (u : Token). names_among (u ∷ ts)) h
first_name symbol.Times t ts h = ap (λ (u : Token). names_among (u ∷ ts)) h
first_name symbol.Open t ts h = ap (λ (u : Token). names_among (u ∷ ts)) h
first_name symbol.Close t ts h = ap (λ (u : Token). names_among (u ∷ ts)) h
first_name symbol.Equals t ts h = ap (λ (u : Token). names_among (u ∷ ts)) h

pub told_names : (ss : List Symbol) (ts : List Token) → AreTold ss ts → names_among ts ≡ symbol_names ss
told_names [] [] h = refl
told_names [] (t ∷ ts) h = absurd h
told_names (s ∷ ss) [] h = absurd h
told_names (s ∷ ss) (t ∷ ts) h = first_name s t ts h.0 ∙ ap (with_name s) (told_names ss ts h.1)

told_some : (ss : List Symbol) (ts : List Token) → AreTold ss ts → (length ss == 0) ≡ false → ts ≡ [] → ⊥
told_some [] ts h e k = absurd cc
told_some (s ∷ ss) [] h e k = absurd h
told_some (s ∷ ss) (t ∷ ts) h e k = absurd cc

-- the names from one symbol on, which is a name or none
pub name_left : (ss : List Symbol) (i : ℕ) (w : Bor (List ℕ)) → i < length ss → get_or ss i (symbol.Number 0) ≡ symbol.Name w → symbol_names (drop i ss) ≡ w.now ∷ symbol_names (drop (i + 1) ss)
name_left ss i w lt e = at_drop_more symbol_names ss i (symbol.Number 0) lt ∙ ap (λ (s : Symbol). symbol_names (s ∷ drop (i + 1) ss)) e

without_name : (s : Symbol) (ws : List (List ℕ)) → ((w : Bor (List ℕ)) → s ≡ symbol.Name w → ⊥) → with_name s ws ≡ ws
without_name (symbol.Name w) ws h = absurd (h w refl)
without_name s ws h = refl

pub no_name_left : (ss : List Symbol) (i : ℕ) → i < length ss → ((w : Bor (List ℕ)) → get_or ss i (symbol.Number 0) ≡ symbol.Name w → ⊥) → symbol_names (drop i ss) ≡ symbol_names (drop (i + 1) ss)
no_name_left ss i lt h = at_drop_more symbol_names ss i (symbol.Number 0) lt ∙ without_name (get_or ss i (symbol.Number 0)) (symbol_names (drop (i + 1) ss)) h

-- whether they are names
pub names_left : (ss : List Symbol) (i : ℕ) (w : Bor (List ℕ)) → i < length ss → get_or ss i (symbol.Number 0) ≡ symbol.Name w → list_all is_name_symbol (drop i ss) ≡ list_all is_name_symbol (drop (i + 1) ss)
names_left ss i w lt e = at_drop_more (list_all is_name_symbol) ss i (symbol.Number 0) lt ∙ ap (λ (s : Symbol). is_name_symbol s && list_all is_name_symbol (drop (i + 1) ss)) e

pub other_left : (ss : List Symbol) (i : ℕ) → i < length ss → ((w : Bor (List ℕ)) → get_or ss i (symbol.Number 0) ≡ symbol.Name w → ⊥) → list_all is_name_symbol (drop i ss) ≡ false
other_left ss i lt h = at_drop_more (list_all is_name_symbol) ss i (symbol.Number 0) lt ∙ ap (λ (t : Bool). t && list_all is_name_symbol (drop (i + 1) ss)) (no_name_symbol (get_or ss i (symbol.Number 0)) h)

-- what was read where some names of a line are declared and these are left
pub record InputsLeft (b : Before) (c : Coder) (input : Input) (all left : List (List ℕ)) : Type 0 where
  pub now : Before
  pub holds : IsCoder c now
  pub reads : inputs_read input b all ≡ inputs_read input now left

inputs_declared : (b : Before) (c new : Coder) (input : Input) (all left : List (List ℕ)) (w : List ℕ) → InputsLeft b c input all (w ∷ left) → is_some (found c.names.table w) ≡ false
    → ((now : Before) → IsCoder c now → IsCoder new (with_statement now (input_statement input w))) → InputsLeft b new input all left
inputs_declared b c new input all left w h unknown declares =
    let next = with_statement h.now (input_statement input w) in
    record {
      now = next;
      holds = declares h.now h.holds;
      reads = h.reads ∙ inputs_next input h.now next w left (unknown_name c h.now h.holds w unknown) refl refl;
    }

inputs_repeated : (b : Before) (c : Coder) (input : Input) (all left : List (List ℕ)) (w : List ℕ) → InputsLeft b c input all (w ∷ left) → is_some (found c.names.table w) ≡ true → inputs_read input b all ≡ Err kinds.Twice
inputs_repeated b c input all left w h known = h.reads ∙ inputs_twice input h.now w left (sym (known_name c h.now h.holds w) ∙ known)

inputs_all : (b : Before) (c : Coder) (input : Input) (all : List (List ℕ)) (h : InputsLeft b c input all []) → inputs_read input b all ≡ Ok h.now
inputs_all b c input all h = h.reads ∙ inputs_done input h.now

-- the same, unless a name was declared again
abbrev pub InputsTaken : Before → Coder → Input → List (List ℕ) → List (List ℕ) → Bool → Type 0
InputsTaken b c input all left true = inputs_read input b all ≡ Err kinds.Twice
InputsTaken b c input all left false = InputsLeft b c input all left

pub inputs_more : (b : Before) (c new : Coder) (input : Input) (all left : List (List ℕ)) (w : List ℕ) (twice known now : Bool) → now ≡ (twice || known) → known ≡ is_some (found c.names.table w)
    → InputsTaken b c input all (w ∷ left) twice → ((before : Before) → IsCoder c before → known ≡ false → IsCoder new (with_statement before (input_statement input w))) → InputsTaken b new input all left now
inputs_more b c new input all left w true known now e k h declares = subst (InputsTaken b new input all left) (sym e) h
inputs_more b c new input all left w false true now e k h declares = subst (InputsTaken b new input all left) (sym e) (inputs_repeated b c input all left w h (sym k))
inputs_more b c new input all left w false false now e k h declares = subst (InputsTaken b new input all left) (sym e) (inputs_declared b c new input all left w h (sym k) (λ before i. declares before i refl))

told_none : (ss : List Symbol) (ts : List Token) → AreTold ss ts → (length ss == 0) ≡ true → (t : Token) (us : List Token) → ts ≡ t ∷ us → ⊥
told_none ss ts told e t us k = omega (arith, is_zero (length ss) e, told_length ss ts told, ap length k)

-- behind the last one
pub inputs_end : (b : Before) (new : Coder) (input : Input) (ss : List Symbol) (ts : List Token) (none twice : Bool) → none ≡ (length ss == 0) → AreTold ss ts → list_all is_name ts ≡ true → InputsTaken b new input (symbol_names ss) [] twice
    → TakesCode b new (token.Key (key_of input) ∷ ts) (names_broken_by none twice)
inputs_end b new input ss ts true twice e told all h = code_syntax b new (token.Key (key_of input) ∷ ts) (no_inputs input ts (λ w ws k. told_none ss ts told (sym e) (token.Name w) (map token.Name ws) k))
inputs_end b new input ss ts false true e told all h = coded_break b new input ts all (told_some ss ts told (sym e)) (ap (inputs_read input b) (told_names ss ts told) ∙ h)
inputs_end b new input ss ts false false e told all h = coded_pass b h.now new input ts all (told_some ss ts told (sym e)) (ap (inputs_read input b) (told_names ss ts told) ∙ inputs_all b new input (symbol_names ss) h) h.holds

-- ---- the limits

pub room_is : (c : Coder) (b : Before) (k : Keyword) (n : ℕ) → IsCoder c b → has_room c k n ≡ is_few b.statements k n
room_is c b keys.Public n h = ap (λ m. nat_le (m + n) 65535) h.publics_are
room_is c b keys.Private n h = ap (λ m. nat_le (m + n) most_privates) h.privates_are
room_is c b keys.Assert n h = ap (λ m. nat_lt m 131072) h.asserts_are
room_is c b keys.Field n h = refl
room_is c b keys.Let n h = refl

bounds_and : (x y z : Bool) → ((x && y) && z) ≡ (x && (y && z))
bounds_and true y z = refl
bounds_and false y z = refl

pub limits_kept : (c : Coder) (b : Before) (k : Keyword) (ts us : List Token) (n : ℕ) (bounded : Bool) → IsCoder c b → ts ≡ token.Key k ∷ us → n ≡ length us → bounded ≡ keeps_bounds 0 ts → keeps_limits b.statements k ts ≡ (bounded && has_room c k n)
limits_kept c b k ts us n bounded h e m kept =
    let behind : n ≡ length ts - 1 = omega (arith, ap length e) in
    sym (bounds_and (list_all is_short ts) (is_shallow 0 ts) (is_few b.statements k (length ts - 1)))
    ∙ ap (λ (x : Bool). x && is_few b.statements k (length ts - 1)) (sym kept)
    ∙ ap (λ (x : Bool). bounded && x) (sym (room_is c b k n h ∙ ap (is_few b.statements k) behind))

pub refused_none : (may kept : Bool) → None ≡ refused_by may kept → (may ≡ true) × (kept ≡ true)
refused_none false kept e = absurd cc
refused_none true false e = absurd cc
refused_none true true e = (refl, refl)

pub on_ok : {T E : Type 0} (r : Result T E) (P Q : Type 0) → (P → Q) → OnOk r P → OnOk r Q
on_ok (Ok x) P Q f h = f h
on_ok (Err e) P Q f h = h

-- ---- a whole line

module _ (b : Before) (new : Coder) (bytes : List ℕ) where
  pub line_character : keeps_characters bytes ≡ false → TakesCodeLine b new bytes (Some kinds.Character)
  line_character h =
      let f = formed (tokens bytes) in
      record { after = b; reads = record { form = f.form; is_form = f.is_form; read_is = rw h refl }; holds = λ other. absurd cc }

  pub line_no_keyword : keeps_characters bytes ≡ true → first_keyword (tokens bytes) ≡ None → TakesCodeLine b new bytes (Some kinds.Keyword)
  line_no_keyword clean none =
      let f = formed (tokens bytes) in
      record { after = b; reads = record { form = f.form; is_form = f.is_form; read_is = rw (clean, none) refl }; holds = λ other. absurd cc }

  module _ (k : Keyword) (ts : List Token) (clean : keeps_characters bytes ≡ true) (keyed : tokens bytes ≡ token.Key k ∷ ts) where
    line_no_field : (is_some b.field_is || is_field k) ≡ false → TakesCodeLine b new bytes (Some kinds.NoField)
    line_no_field none =
        let f = formed (tokens bytes) in
        record { after = b; reads = record { form = f.form; is_form = f.is_form; read_is = line_read_at b bytes f.form k clean (ap first_keyword keyed) ∙ no_field_at b (tokens bytes) f.form k none }; holds = λ other. absurd cc }

    line_limit : (is_some b.field_is || is_field k) ≡ true → keeps_limits b.statements k (tokens bytes) ≡ false → TakesCodeLine b new bytes (Some kinds.Limit)
    line_limit some limit =
        let f = formed (tokens bytes) in
        record { after = b; reads = record { form = f.form; is_form = f.is_form; read_is = line_read_at b bytes f.form k clean (ap first_keyword keyed) ∙ limit_at b (tokens bytes) f.form k some limit }; holds = λ other. absurd cc }

    pub line_refused : (may kept : Bool) (kind : SourceKind) → (is_some b.field_is || is_field k) ≡ may → keeps_limits b.statements k (tokens bytes) ≡ kept → Some kind ≡ refused_by may kept → TakesCodeLine b new bytes (Some kind)
    line_refused false kept kind m l e = subst (λ (o : Option SourceKind). TakesCodeLine b new bytes o) (sym e) (line_no_field m)
    line_refused true false kind m l e = subst (λ (o : Option SourceKind). TakesCodeLine b new bytes o) (sym e) (line_limit m l)
    line_refused true true kind m l e = absurd cc

    pub line_form : (broken : Option SourceKind) → (is_some b.field_is || is_field k) ≡ true → keeps_limits b.statements k (tokens bytes) ≡ true → TakesCode b new (token.Key k ∷ ts) broken → TakesCodeLine b new bytes broken
    line_form broken some limit t =
        let r = t.reads in
        record {
          after = t.after;
          reads = record {
            form = r.form;
            is_form = subst (λ (us : List Token). IsForm us r.form) (sym keyed) r.is_form;
            read_is = line_read_at b bytes r.form k clean (ap first_keyword keyed) ∙ form_at b (tokens bytes) r.form k some limit ∙ r.read_is;
          };
          holds = t.holds;
        }

-- ---- a line of a text

pub text_line_skipped : (b : Before) (c : Coder) (line : List ℕ) → IsCoder c b → is_empty_line (content line) ≡ true → TakesTextLine b c line None
text_line_skipped b c line h e = record { after = b; reads = subst (StepReads b (content line) (Ok b)) (sym e) refl; holds = λ same. h }

pub text_line_read : (b : Before) (new : Coder) (line bytes : List ℕ) (broken : Option SourceKind) → bytes ≡ content line → is_empty_line bytes ≡ false → TakesCodeLine b new bytes broken → TakesTextLine b new line broken
text_line_read b new line bytes broken same e t =
    let read : StepReads b bytes (step_of broken t.after) (is_empty_line bytes) = subst (StepReads b bytes (step_of broken t.after)) (sym e) t.reads in
    record { after = t.after; reads = subst (λ (l : List ℕ). StepReads b l (step_of broken t.after) (is_empty_line l)) same read; holds = t.holds }

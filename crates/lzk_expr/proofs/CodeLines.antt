-- Lines with expressions are taken as code, or break a rule.
use Rattle.std.proofs.Common.{◌≡◌, ℕ, ◌+◌, Bool, true, false, ◌&&◌, List, [], ◌∷◌, ◌++◌, map, Option, Some, None, is_some, Ok, refl, sym, ◌∙◌, ap, ap₂, subst, append_assoc, bytes_eq, MatchBool}
use Rattle.std.specs.Prelude.{count_by}
use Rattle.std.specs.List.{list_all}
use Rattle.std.specs.Map.{update}
use Rattle.std.specs.HashMap.{HashMap}
use Rattle.std.proofs.lemmas.Bool.{and_parts}
use Rattle.std.proofs.lemmas.List.{map-append}
use Rattle.std.proofs.lemmas.List.Folds.{list_all-append}
use Rattle.lzk_expr.specs.declared.code.Word.{Word}
use Rattle.lzk_expr.specs.declared.code.Word.TheVariants as words
use Rattle.lzk_expr.specs.declared.coder.Coder.{Coder}
use Rattle.lzk_expr.specs.declared.names.Binding.{Binding}
use Rattle.lzk_expr.specs.declared.names.Binding.TheVariants as binding
use Rattle.lzk_expr.specs.declared.tokens.Keyword.TheVariants as keys
use Rattle.lzk_expr.specs.declared.source_fault.SourceKind.{SourceKind}
use Rattle.lzk_expr.specs.declared.source_fault.SourceKind.TheVariants as kinds
use Rattle.lzk_expr.specs.declared.ast.FieldId.{FieldId}
use Rattle.lzk_expr.specs.Tokens.{Token}
use Rattle.lzk_expr.specs.Tokens as token
use Rattle.lzk_expr.specs.Grammar.{sum_tokens, sum_names, sum_numbers, LetLine, AssertLine, line_tokens}
use Rattle.lzk_expr.specs.Trees.{Expr, Define, Assertion, name_of, is_public, is_private, is_assertion}
use Rattle.lzk_expr.specs.Sources.{Before, is_below}
use Rattle.lzk_expr.specs.Meanings.{Step, nothing_read, sum_read, ends_of}
use Rattle.lzk_expr.specs.Table.{found, bound, held_number}
use Rattle.lzk_expr.specs.Readers.{named, is_define, is_inner, IsDefinition, IsNoDefinition, IsSplit}
use Rattle.lzk_expr.specs.Codes.{Item, Left, Right, CodeWord, code_word, code_words, steps_mean, AreCodeOf}
use Rattle.lzk_expr.specs.SumWords.{step_in}
use Rattle.lzk_expr.specs.Coders.{IsCoder, with_statement, TakesCode, broken_by}
use Rattle.lzk_expr.proofs.Declarations.{or_first, let_at, declared_let, declared_assert}
use Rattle.lzk_expr.proofs.Tables.{names_after, add_none, zero_more}
use Rattle.lzk_expr.proofs.Forms.{no_let, no_assert, inner_no_sums, split_sums}
use Rattle.lzk_expr.proofs.SumLaws.{no_sum}
use Rattle.lzk_expr.proofs.Taken.{form_twice, form_unknown, form_large, form_good}
use Rattle.lzk_expr.proofs.Lines.{SumIs, let_tokens, let_new}
use Rattle.lzk_expr.proofs.CodeLaws.{tokens_are_steps, code_let, code_assert}
use Rattle.lzk_expr.proofs.CodeTaken.{code_syntax, code_breaks, code_passes, count_after}

-- the steps of an expression's tokens mean it
pub steps_of_sum : {S : Type 0} (m : HashMap (List ℕ) Binding S) (ts : List Token) (e : Expr) → sum_read held_number (bound m) ts ≡ Some e → steps_mean (map (step_in m) ts) ≡ Some e
steps_of_sum m ts e h = ap ends_of (tokens_are_steps held_number (bound m) nothing_read ts) ∙ h

pub broken_cases : (P : Option SourceKind → Type 0) (known below : Bool) → (known ≡ false → P (Some kinds.Unknown)) → (known ≡ true → below ≡ false → P (Some kinds.TooLarge)) → (known ≡ true → below ≡ true → P None) → P (broken_by true false known below)
broken_cases P false below u l p = u refl
broken_cases P true false u l p = l refl refl
broken_cases P true true u l p = p refl refl

-- whether the tokens are an expression
pub formed_cases : {A B : Type 0} (P : Bool → Type 0) (formed : Bool) → MatchBool formed A B → (A → P true) → (B → P false) → P formed
formed_cases P true h f g = f h
formed_cases P false h f g = g h

-- ---- what was read behind a let

-- behind the old words those of an expression, and the word that ends it
ended_words : (numbers : List ℕ) (old ws new : List Word) (steps : List Step) (w : Word) → new ≡ (old ++ ws) ++ w ∷ [] → code_words numbers ws ≡ map Item steps → code_words numbers new ≡ code_words numbers old ++ (map Item steps ++ code_word numbers w ∷ [])
ended_words numbers old ws new steps w e h =
    let last : List CodeWord = code_word numbers w ∷ [] in
    ap (code_words numbers) e ∙ map-append (code_word numbers) (old ++ ws) (w ∷ [])
    ∙ ap (λ (l : List CodeWord). l ++ last) (map-append (code_word numbers) old ws)
    ∙ append_assoc (code_words numbers old) (code_words numbers ws) last
    ∙ ap (λ (l : List CodeWord). code_words numbers old ++ (l ++ last)) h

pub let_coder : (old new : Coder) (b : Before) (v : List ℕ) (e : Expr) (steps : List Step) (ws : List Word) (ns : List ℕ) → IsCoder old b → name_of b.statements v ≡ None → steps_mean steps ≡ Some e
    → new.words.items ≡ (old.words.items ++ ws) ++ words.Define ∷ [] → new.numbers.items ≡ old.numbers.items ++ ns → ((behind : List ℕ) → code_words (new.numbers.items ++ behind) ws ≡ map Item steps)
    → ((w : List ℕ) → found new.names.table w ≡ update bytes_eq (found old.names.table) v (Some (binding.Named old.lets)) w)
    → new.field ≡ old.field → new.publics ≡ old.publics → new.privates ≡ old.privates → new.lets ≡ old.lets + 1 → new.asserts ≡ old.asserts → IsCoder new (with_statement b (Define v e))
let_coder old new b v e steps ws ns h none mean w n k t f p q l a =
    let ss = b.statements in
    let s = Define v e in
    record {
      field_is = f ∙ h.field_is;
      names_are = names_after old.names.table new.names.table ss s v (binding.Named old.lets) h.names_are t none
          (λ x. declared_let 0 0 0 ss v x e ∙ ap (λ i. or_first (name_of ss x) (let_at i v x)) (zero_more old.lets (count_by is_define ss) h.lets_are));
      publics_are = count_after is_public ss s old.publics new.publics h.publics_are (p ∙ add_none old.publics);
      privates_are = count_after is_private ss s old.privates new.privates h.privates_are (q ∙ add_none old.privates);
      lets_are = count_after is_define ss s old.lets new.lets h.lets_are l;
      asserts_are = count_after is_assertion ss s old.asserts new.asserts h.asserts_are (a ∙ add_none old.asserts);
      words_are = λ more.
          let numbers : List ℕ = new.numbers.items ++ more in
          let same : numbers ≡ old.numbers.items ++ (ns ++ more) = ap (λ (x : List ℕ). x ++ more) n ∙ append_assoc old.numbers.items ns more in
          let before : AreCodeOf ss (code_words numbers old.words.items) = subst (λ (x : List ℕ). AreCodeOf ss (code_words x old.words.items)) (sym same) (h.words_are (ns ++ more)) in
          subst (AreCodeOf (ss ++ s ∷ [])) (sym (ended_words numbers old.words.items ws new.words.items steps words.Define w (k more))) (code_let ss v e (code_words numbers old.words.items) steps before mean);
    }

-- ---- let lines

pub coded_no_definition : (b : Before) (new : Coder) (ts : List Token) → IsNoDefinition ts → TakesCode b new (token.Key keys.Let ∷ ts) (Some kinds.Syntax)
coded_no_definition b new ts h = code_syntax b new (token.Key keys.Let ∷ ts) (no_let ts (λ w s e. h w (sum_tokens s) e))

pub coded_no_sum : {S : Type 0} (m : HashMap (List ℕ) Binding S) (b : Before) (new : Coder) (ts us : List Token) (w : List ℕ) → IsDefinition ts w us → sum_read held_number (bound m) us ≡ None → TakesCode b new (token.Key keys.Let ∷ ts) (Some kinds.Syntax)
coded_no_sum m b new ts us w e h = code_syntax b new (token.Key keys.Let ∷ ts) (no_let ts (λ v s k. no_sum held_number (bound m) us h s cc))

module _ (b : Before) (new : Coder) (f : FieldId) (ts us : List Token) (w : List ℕ) (e : Expr) (known below : Bool) (field : b.field_is ≡ Some f)
    (line : IsDefinition ts w us) (s : SumIs b.statements f us e known below) where
  coded_let_twice : is_some (name_of b.statements w) ≡ true → TakesCode b new (token.Key keys.Let ∷ ts) (Some kinds.Twice)
  coded_let_twice some = code_breaks b new (token.Key keys.Let ∷ ts) (LetLine w s.sum) kinds.Twice (let_tokens ts us w s.sum line s.tokens_are) (form_twice b (LetLine w s.sum) (let_new b w s.sum true some))

  below_of : (t : Bool) → below ≡ t → list_all (is_below b.field_is) (sum_numbers s.sum) ≡ t
  below_of t h = ap (λ (o : Option FieldId). list_all (is_below o) (sum_numbers s.sum)) field ∙ s.below_is ∙ h

  pub coded_let : (twice : Bool) → is_some (name_of b.statements w) ≡ twice → (twice ≡ false → known ≡ true → below ≡ true → IsCoder new (with_statement b (Define w e))) → TakesCode b new (token.Key keys.Let ∷ ts) (broken_by true twice known below)
  coded_let true some holds = coded_let_twice some
  coded_let false none holds =
      let line_is = let_tokens ts us w s.sum line s.tokens_are in
      let unbound = let_new b w s.sum false none in
      broken_cases (TakesCode b new (token.Key keys.Let ∷ ts)) known below
      (λ k. code_breaks b new (token.Key keys.Let ∷ ts) (LetLine w s.sum) kinds.Unknown line_is (form_unknown b (LetLine w s.sum) unbound (s.known_is ∙ k)))
      (λ k l. code_breaks b new (token.Key keys.Let ∷ ts) (LetLine w s.sum) kinds.TooLarge line_is (form_large b (LetLine w s.sum) unbound (s.known_is ∙ k) (below_of false l)))
      (λ k l. code_passes b (with_statement b (Define w e)) new (token.Key keys.Let ∷ ts) (LetLine w s.sum) line_is
      (form_good b (LetLine w s.sum) unbound (s.known_is ∙ k) (below_of true l) ∙ ap (λ (x : Expr). Ok (with_statement b (Define w x))) (s.means l)) (holds refl k l))

-- ---- what was read behind an assert

pub assert_coder : (old new : Coder) (b : Before) (x y : Expr) (steps more_steps : List Step) (middle ws vs : List Word) (between ns ms : List ℕ) → IsCoder old b → steps_mean steps ≡ Some x → steps_mean more_steps ≡ Some y
    → middle ≡ (old.words.items ++ ws) ++ words.Left ∷ [] → new.words.items ≡ (middle ++ vs) ++ words.Right ∷ [] → between ≡ old.numbers.items ++ ns → new.numbers.items ≡ between ++ ms
    → ((behind : List ℕ) → code_words (between ++ behind) ws ≡ map Item steps) → ((behind : List ℕ) → code_words (new.numbers.items ++ behind) vs ≡ map Item more_steps)
    → ((w : List ℕ) → found new.names.table w ≡ found old.names.table w)
    → new.field ≡ old.field → new.publics ≡ old.publics → new.privates ≡ old.privates → new.lets ≡ old.lets → new.asserts ≡ old.asserts + 1 → IsCoder new (with_statement b (Assertion x y))
assert_coder old new b x y steps more_steps middle ws vs between ns ms h mean more_mean w u n m k j t f p q l a =
    let ss = b.statements in
    let s = Assertion x y in
    record {
      field_is = f ∙ h.field_is;
      names_are = λ v. ap named (t v) ∙ h.names_are v ∙ sym (declared_assert 0 0 0 ss x y v);
      publics_are = count_after is_public ss s old.publics new.publics h.publics_are (p ∙ add_none old.publics);
      privates_are = count_after is_private ss s old.privates new.privates h.privates_are (q ∙ add_none old.privates);
      lets_are = count_after is_define ss s old.lets new.lets h.lets_are (l ∙ add_none old.lets);
      asserts_are = count_after is_assertion ss s old.asserts new.asserts h.asserts_are a;
      words_are = λ more.
          let numbers : List ℕ = new.numbers.items ++ more in
          let one : numbers ≡ between ++ (ms ++ more) = ap (λ (z : List ℕ). z ++ more) m ∙ append_assoc between ms more in
          let all : numbers ≡ old.numbers.items ++ (ns ++ (ms ++ more)) = one ∙ ap (λ (z : List ℕ). z ++ (ms ++ more)) n ∙ append_assoc old.numbers.items ns (ms ++ more) in
          let before : AreCodeOf ss (code_words numbers old.words.items) = subst (λ (z : List ℕ). AreCodeOf ss (code_words z old.words.items)) (sym all) (h.words_are (ns ++ (ms ++ more))) in
          let left : code_words numbers ws ≡ map Item steps = ap (λ (z : List ℕ). code_words z ws) one ∙ k (ms ++ more) in
          let lefts : List CodeWord = map Item steps ++ Left ∷ [] in
          let rights : List CodeWord = map Item more_steps ++ Right ∷ [] in
          let words_are : code_words numbers new.words.items ≡ code_words numbers old.words.items ++ (lefts ++ rights) =
          ended_words numbers middle vs new.words.items more_steps words.Right u (j more)
          ∙ ap (λ (z : List CodeWord). z ++ rights) (ended_words numbers old.words.items ws middle steps words.Left w left)
          ∙ append_assoc (code_words numbers old.words.items) lefts rights in
          subst (AreCodeOf (ss ++ s ∷ [])) (sym words_are) (code_assert ss x y (code_words numbers old.words.items) steps more_steps before mean more_mean);
    }

-- ---- assert lines

pub coded_inner : (b : Before) (new : Coder) (ts : List Token) → list_all is_inner ts ≡ true → TakesCode b new (token.Key keys.Assert ∷ ts) (Some kinds.Syntax)
coded_inner b new ts h = code_syntax b new (token.Key keys.Assert ∷ ts) (no_assert ts (inner_no_sums ts h))

pub coded_no_left : {S : Type 0} (t : HashMap (List ℕ) Binding S) (b : Before) (new : Coder) (ts xs ys : List Token) → IsSplit ts xs ys → sum_read held_number (bound t) xs ≡ None → TakesCode b new (token.Key keys.Assert ∷ ts) (Some kinds.Syntax)
coded_no_left t b new ts xs ys p h = code_syntax b new (token.Key keys.Assert ∷ ts) (no_assert ts (λ u v e. no_sum held_number (bound t) xs h u (split_sums ts xs ys p.inner p.split u v e).0))

pub coded_no_right : {S : Type 0} (t : HashMap (List ℕ) Binding S) (b : Before) (new : Coder) (ts xs ys : List Token) → IsSplit ts xs ys → sum_read held_number (bound t) ys ≡ None → TakesCode b new (token.Key keys.Assert ∷ ts) (Some kinds.Syntax)
coded_no_right t b new ts xs ys p h = code_syntax b new (token.Key keys.Assert ∷ ts) (no_assert ts (λ u v e. no_sum held_number (bound t) ys h v (split_sums ts xs ys p.inner p.split u v e).1))

module _ (b : Before) (new : Coder) (f : FieldId) (ts xs ys : List Token) (x y : Expr) (known_x below_x known_y below_y : Bool) (field : b.field_is ≡ Some f)
    (line : IsSplit ts xs ys) (s : SumIs b.statements f xs x known_x below_x) (t : SumIs b.statements f ys y known_y below_y) where
  known_of : (k : Bool) → (known_x && known_y) ≡ k → list_all (λ w. is_some (name_of b.statements w)) (sum_names s.sum ++ sum_names t.sum) ≡ k
  known_of k h = list_all-append (λ w. is_some (name_of b.statements w)) (sum_names s.sum) (sum_names t.sum) ∙ ap₂ (λ (u v : Bool). u && v) s.known_is t.known_is ∙ h

  both_below_of : (k : Bool) → (below_x && below_y) ≡ k → list_all (is_below b.field_is) (sum_numbers s.sum ++ sum_numbers t.sum) ≡ k
  both_below_of k h =
      ap (λ (o : Option FieldId). list_all (is_below o) (sum_numbers s.sum ++ sum_numbers t.sum)) field
      ∙ list_all-append (is_below (Some f)) (sum_numbers s.sum) (sum_numbers t.sum) ∙ ap₂ (λ (u v : Bool). u && v) s.below_is t.below_is ∙ h

  pub coded_assert : (known_x && known_y ≡ true → below_x && below_y ≡ true → IsCoder new (with_statement b (Assertion x y))) → TakesCode b new (token.Key keys.Assert ∷ ts) (broken_by true false (known_x && known_y) (below_x && below_y))
  coded_assert holds =
      let form = AssertLine s.sum t.sum in
      let line_is : token.Key keys.Assert ∷ ts ≡ line_tokens form = ap (λ (l : List Token). token.Key keys.Assert ∷ l) (line.split ∙ ap₂ (λ (u v : List Token). u ++ (token.Equals ∷ v)) s.tokens_are t.tokens_are) in
      broken_cases (TakesCode b new (token.Key keys.Assert ∷ ts)) (known_x && known_y) (below_x && below_y)
      (λ k. code_breaks b new (token.Key keys.Assert ∷ ts) form kinds.Unknown line_is (form_unknown b form refl (known_of false k)))
      (λ k l. code_breaks b new (token.Key keys.Assert ∷ ts) form kinds.TooLarge line_is (form_large b form refl (known_of true k) (both_below_of false l)))
      (λ k l. let both = and_parts below_x below_y l in
      code_passes b (with_statement b (Assertion x y)) new (token.Key keys.Assert ∷ ts) form line_is
      (form_good b form refl (known_of true k) (both_below_of true l) ∙ ap₂ (λ (u v : Expr). Ok (with_statement b (Assertion u v))) (s.means both.0) (t.means both.1)) (holds k l))

-- The words of an expression's tokens, put down one by one.
use Rattle.std.proofs.Common.{◌≡◌, ℕ, Bool, true, false, ◌&&◌, List, [], ◌∷◌, ◌++◌, map, Option, Some, None, refl, sym, ◌∙◌, ap, ap₂, subst, append_assoc, length, ◌≤◌, arith, MatchBool, if◌then◌else◌}
use Rattle.std.specs.List.{list_all}
use Rattle.std.specs.HashMap.{HashMap}
use Rattle.std.proofs.lemmas.List.{map-append, append-nil}
use Rattle.std.proofs.lemmas.List.Folds.{list_all-append}
use Rattle.lzk_expr.specs.declared.ast.FieldId.{FieldId}
use Rattle.lzk_expr.specs.declared.names.Binding.{Binding}
use Rattle.lzk_expr.specs.declared.code.Word.{Word}
use Rattle.lzk_expr.specs.declared.code.Word.TheVariants as words
use Rattle.lzk_expr.specs.declared.sum_words.TokenWord.{TokenWord}
use Rattle.lzk_expr.specs.declared.syntax.Syntax.{Syntax}
use Rattle.lzk_expr.specs.declared.tokens.Symbol.{Symbol}
use Rattle.lzk_expr.specs.Tokens.{Token}
use Rattle.lzk_expr.specs.TokenReadings.{Tells, AreTold}
use Rattle.lzk_expr.specs.Trees.{Expr}
use Rattle.lzk_expr.specs.Meanings.{Step, Other, Reads, nothing_read, next, needs, goes_on, ends, then_reads, ends_of, token_step, reads_all, sum_read}
use Rattle.lzk_expr.specs.Table.{bound, held_number, token_known, token_below}
use Rattle.lzk_expr.specs.Codes.{CodeWord, Item, code_word, code_words}
use Rattle.lzk_expr.specs.Syntaxes.{syntax_of, next_syntax, is_whole}
use Rattle.lzk_expr.specs.SumWords.{step_in, numbers_of, IsWordOf, AreWordsOf, IsCoded}
use Rattle.lzk_expr.proofs.CodeLaws.{all_none, all_more}
use Rattle.lzk_expr.proofs.SyntaxLaws.{no_step, some_step, not_whole, is_ended}

-- ---- the reading of tokens behind others

then_behind : (number : ℕ → Expr) (name : List ℕ → Expr) (o : Option Reads) (ts us : List Token)
    → ((r : Reads) → reads_all number name r (ts ++ us) ≡ then_reads (reads_all number name r ts) (λ more. reads_all number name more us))
    → then_reads o (λ r. reads_all number name r (ts ++ us)) ≡ then_reads (then_reads o (λ r. reads_all number name r ts)) (λ more. reads_all number name more us)
then_behind number name None ts us h = refl
then_behind number name (Some r) ts us h = h r

all_behind : (number : ℕ → Expr) (name : List ℕ → Expr) (r : Reads) (ts us : List Token) → reads_all number name r (ts ++ us) ≡ then_reads (reads_all number name r ts) (λ more. reads_all number name more us)
all_behind number name r [] us = ap (λ o. then_reads o (λ more. reads_all number name more us)) (sym (all_none number name r))
all_behind number name r (t ∷ ts) us =
    all_more number name r t (ts ++ us)
    ∙ then_behind number name (next r (token_step number name t)) ts us (λ more. all_behind number name more ts us)
    ∙ ap (λ o. then_reads o (λ more. reads_all number name more us)) (sym (all_more number name r t ts))

-- one more token behind those that were read
read_next : (number : ℕ → Expr) (name : List ℕ → Expr) (r reads : Reads) (ts us : List Token) (t : Token) (o : Option Reads)
    → reads_all number name r ts ≡ Some reads → next reads (token_step number name t) ≡ o
    → reads_all number name r (ts ++ t ∷ us) ≡ then_reads o (λ more. reads_all number name more us)
read_next number name r reads ts us t o h k =
    all_behind number name r ts (t ∷ us)
    ∙ ap (λ x. then_reads x (λ more. reads_all number name more (t ∷ us))) h
    ∙ all_more number name reads t us
    ∙ ap (λ x. then_reads x (λ more. reads_all number name more us)) k

-- ---- how far it has come

-- The tokens before these symbols are the start of an expression, with this syntax behind them, and their words were
-- put down.
pub record IsBegun {S : Type 0} (f : FieldId) (m : HashMap (List ℕ) Binding S) (left : List Symbol) (s : Syntax)
    (old_words new_words : List Word) (old_numbers new_numbers : List ℕ) (known below : Bool) (ts : List Token) : Type 0 where
  pub before : List Token
  pub behind : List Token
  pub parts : ts ≡ before ++ behind
  pub told : AreTold left behind
  pub reads : Reads
  pub read : reads_all held_number (bound m) nothing_read before ≡ Some reads
  pub syntax_is : syntax_of reads ≡ s
  pub known_is : list_all (token_known m) before ≡ known
  pub below_is : list_all (token_below f) before ≡ below
  pub added : AreWordsOf m before old_words new_words old_numbers new_numbers

-- a first symbol is a first token
record First (s : Symbol) (left : List Symbol) (ts : List Token) : Type 0 where
  pub token : Token
  pub behind : List Token
  pub parts : ts ≡ token ∷ behind
  pub tells : Tells s token
  pub told : AreTold left behind

first_of_all : (s : Symbol) (left : List Symbol) (ts : List Token) → AreTold (s ∷ left) ts → First s left ts
first_of_all s left [] h = absurd h
first_of_all s left (t ∷ ts) h = record { token = t; behind = ts; parts = refl; tells = h.0; told = h.1 }

first : (all : List Symbol) (s : Symbol) (left : List Symbol) (ts : List Token) → all ≡ s ∷ left → AreTold all ts → First s left ts
first all s left ts e h = first_of_all s left ts (subst (λ ss. AreTold ss ts) e h)

none_left : (ts : List Token) → AreTold [] ts → ts ≡ []
none_left [] h = refl
none_left (t ∷ ts) h = absurd h

other_none : (r : Reads) (b : Bool) → (if b then goes_on r Other else needs r Other) ≡ None
other_none r true = refl
other_none r false = refl

next_other : (r : Reads) → next r Other ≡ None
unfolding next
next_other r = other_none r r.ready

and_true : (b : Bool) → (b && true) ≡ b
and_true true = refl
and_true false = refl

and_turned : (a b : Bool) → (a && b) ≡ (b && a)
and_turned true b = sym (and_true b)
and_turned false true = refl
and_turned false false = refl

and_is : (a b c d : Bool) → a ≡ c → (b && c) ≡ d → (a && (b && true)) ≡ d
and_is a b c d e f = ap₂ (λ (x y : Bool). x && y) e (and_true b) ∙ and_turned c b ∙ f

abbrev plain : Word → Bool → Bool → TokenWord
plain w known below = record { word = w; number = 0; known = known; below = below }

-- a word that is no number's
pub plain_is : {S : Type 0} (f : FieldId) (m : HashMap (List ℕ) Binding S) (place : ℕ) (known below : Bool) (t u : Token) (w : Word) (x : TokenWord) → x ≡ plain w known below → t ≡ u
    → ((numbers : List ℕ) → code_word numbers w ≡ Item (step_in m u)) → token_known m u ≡ true → token_below f u ≡ true → IsWordOf f m t place known below x
plain_is f m place known below t u w x is same code k b =
    subst (λ (y : TokenWord). IsWordOf f m t place known below y) (sym is) (subst (λ (v : Token). IsWordOf f m v place known below (plain w known below)) (sym same) (record {
      word_is = λ old behind at. code _;
      known_is = ap (λ (z : Bool). z && known) k;
      below_is = ap (λ (z : Bool). z && below) b;
    }))

module _ {S : Type 0} (f : FieldId) (m : HashMap (List ℕ) Binding S) where
  pub begun : (symbols : List Symbol) (words : List Word) (numbers : List ℕ) (ts : List Token) → AreTold symbols ts
      → IsBegun f m symbols (syntax_of nothing_read) words words numbers numbers true true ts
  begun symbols words numbers ts told = record {
    before = [];
    behind = ts;
    parts = refl;
    told = told;
    reads = nothing_read;
    read = all_none held_number (bound m) nothing_read;
    syntax_is = refl;
    known_is = refl;
    below_is = refl;
    added = record { words = []; words_are = sym (append-nil words); numbers = []; numbers_are = sym (append-nil numbers); steps_are = λ behind. refl };
  }

  module _ (ow nw : List Word) (on nn : List ℕ) where
    -- the word of one more token
    added_word : (before : List Token) (t : Token) (x : TokenWord) (place : ℕ) (more : List ℕ) (known below : Bool) → place ≡ length nn → more ≡ nn ++ numbers_of x.word x.number
        → AreWordsOf m before ow nw on nn → IsWordOf f m t place known below x → AreWordsOf m (before ++ t ∷ []) ow (nw ++ x.word ∷ []) on more
    added_word before t x place more known below at e a w = record {
      words = a.words ++ x.word ∷ [];
      words_are = ap (λ ws. ws ++ x.word ∷ []) a.words_are ∙ append_assoc ow a.words (x.word ∷ []);
      numbers = a.numbers ++ numbers_of x.word x.number;
      numbers_are = e ∙ ap (λ ns. ns ++ numbers_of x.word x.number) a.numbers_are ∙ append_assoc on a.numbers (numbers_of x.word x.number);
      steps_are = λ behind.
          let ns : List ℕ = numbers_of x.word x.number in
          let all : more ++ behind ≡ nn ++ (ns ++ behind) = ap (λ ks. ks ++ behind) e ∙ append_assoc nn ns behind in
          let old : code_words (more ++ behind) a.words ≡ map Item (map (step_in m) before) = ap (λ ks. code_words ks a.words) all ∙ a.steps_are (ns ++ behind) in
          map-append (code_word (more ++ behind)) a.words (x.word ∷ [])
          ∙ ap₂ (λ (xs : List CodeWord) (y : CodeWord). xs ++ y ∷ []) old (ap (λ ks. code_word (ks ++ behind) x.word) e ∙ w.word_is nn behind (sym at))
          ∙ sym (map-append Item (map (step_in m) before) (step_in m t ∷ []))
          ∙ ap (map Item) (sym (map-append (step_in m) before (t ∷ [])));
    }

    module _ (y : Syntax) (known below : Bool) (ts : List Token) where
      module _ (all : List Symbol) (s : Symbol) (left : List Symbol) (at : all ≡ s ∷ left) (b : IsBegun f m all y ow nw on nn known below ts) where
        -- there is no expression where the reading goes no further
        stopped : (e : First s left b.behind) → next b.reads (step_in m e.token) ≡ None → sum_read held_number (bound m) ts ≡ None
        stopped e h =
            ap (sum_read held_number (bound m)) (b.parts ∙ ap (λ us. b.before ++ us) e.parts)
            ∙ ap ends_of (read_next held_number (bound m) nothing_read b.reads b.before e.behind e.token None b.read h)

        pub no_word : ((t : Token) → Tells s t → step_in m t ≡ Other) → sum_read held_number (bound m) ts ≡ None
        no_word other =
            let e = first all s left b.behind at b.told in
            stopped e (ap (next b.reads) (other e.token e.tells) ∙ next_other b.reads)

        module _ (x : TokenWord) (place : ℕ) (at_place : place ≡ length nn) (word_of : (t : Token) → Tells s t → IsWordOf f m t place known below x) where
          pub no_syntax : ((numbers : List ℕ) (step : Step) → code_word numbers x.word ≡ Item step → None ≡ next_syntax y step) → sum_read held_number (bound m) ts ≡ None
          no_syntax none =
              let e = first all s left b.behind at b.told in
              let w = word_of e.token e.tells in
              stopped e (no_step b.reads (step_in m e.token)
              (ap (λ z. next_syntax z (step_in m e.token)) b.syntax_is ∙ sym (none _ (step_in m e.token) (w.word_is nn [] (sym at_place)))))

          pub one_more : (z : Syntax) (words : List Word) (more : List ℕ) → words ≡ nw ++ x.word ∷ [] → more ≡ nn ++ numbers_of x.word x.number
              → ((numbers : List ℕ) (step : Step) → code_word numbers x.word ≡ Item step → Some z ≡ next_syntax y step)
              → IsBegun f m left z ow words on more x.known x.below ts
          one_more z words more pushed put goes =
              let e = first all s left b.behind at b.told in
              let w = word_of e.token e.tells in
              let step = some_step b.reads (step_in m e.token) z
              (ap (λ u. next_syntax u (step_in m e.token)) b.syntax_is ∙ sym (goes _ (step_in m e.token) (w.word_is nn [] (sym at_place)))) in
              record {
                before = b.before ++ e.token ∷ [];
                behind = e.behind;
                parts = b.parts ∙ ap (λ us. b.before ++ us) e.parts ∙ sym (append_assoc b.before (e.token ∷ []) e.behind);
                told = e.told;
                reads = step.0;
                read = read_next held_number (bound m) nothing_read b.reads b.before [] e.token (Some step.0) b.read step.1 ∙ all_none held_number (bound m) step.0;
                syntax_is = step.2;
                known_is = list_all-append (token_known m) b.before (e.token ∷ []) ∙ and_is _ _ _ _ b.known_is w.known_is;
                below_is = list_all-append (token_below f) b.before (e.token ∷ []) ∙ and_is _ _ _ _ b.below_is w.below_is;
                added = subst (λ ws. AreWordsOf m (b.before ++ e.token ∷ []) ow ws on more) (sym pushed) (added_word b.before e.token x place more known below at_place put b.added w);
              }

      -- ---- behind the last token

      module _ (all : List Symbol) (at : all ≡ []) (b : IsBegun f m all y ow nw on nn known below ts) where
        all_before : ts ≡ b.before
        all_before = b.parts ∙ ap (λ us. b.before ++ us) (none_left b.behind (subst (λ ss. AreTold ss b.behind) at b.told)) ∙ append-nil b.before

        read_whole : sum_read held_number (bound m) ts ≡ ends b.reads
        read_whole = ap (sum_read held_number (bound m)) all_before ∙ ap ends_of b.read

        no_end : is_whole y ≡ false → sum_read held_number (bound m) ts ≡ None
        no_end h = read_whole ∙ not_whole b.reads (ap is_whole b.syntax_is ∙ h)

        has_end : (end : Word) (words : List Word) → words ≡ nw ++ end ∷ [] → is_whole y ≡ true → IsCoded f m ts end ow words on nn known below
        has_end end words pushed h =
            let e = is_ended b.reads (ap is_whole b.syntax_is ∙ h) in
            record {
              expr = e.0;
              sum = record {
                read = read_whole ∙ e.1;
                known_is = ap (list_all (token_known m)) all_before ∙ b.known_is;
                below_is = ap (list_all (token_below f)) all_before ∙ b.below_is;
              };
              ended = nw;
              ended_is = pushed;
              added = subst (λ us. AreWordsOf m us ow nw on nn) (sym all_before) b.added;
            }

        pub at_end : (end : Word) (words : List Word) → words ≡ nw ++ end ∷ [] → (formed : Bool) → formed ≡ is_whole y
            → MatchBool formed (IsCoded f m ts end ow words on nn known below) (sum_read held_number (bound m) ts ≡ None)
        at_end end words pushed true e = has_end end words pushed (sym e)
        at_end end words pushed false e = no_end (sym e)

-- a word has one number at most
pub few_numbers : (w : Word) (n : ℕ) → length (numbers_of w n) ≤ 1
few_numbers (words.Number i) n = omega arith
few_numbers w n = omega arith

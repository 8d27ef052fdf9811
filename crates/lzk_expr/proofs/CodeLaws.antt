-- The reading of code: one part behind the other, expressions, and statements.
use Rattle.std.proofs.Common.{◌≡◌, ℕ, List, [], ◌∷◌, ◌++◌, map, Option, Some, None, refl, sym, ◌∙◌, ap}
use Rattle.std.proofs.lemmas.List.{append-nil}
use Rattle.lzk_expr.specs.Tokens.{Token}
use Rattle.lzk_expr.specs.Trees.{Expr, Statement}
use Rattle.lzk_expr.specs.Trees as tree
use Rattle.lzk_expr.specs.Meanings.{Step, Reads, nothing_read, next, ends, then_reads, ends_of, token_step, reads_all}
use Rattle.lzk_expr.specs.Codes.{CodeWord, Item, Define, Left, Right, Nameless, Definition, Equation, nameless, CodeReads, code_done, nothing_coded, expression_goes_on, definition_ends, left_ends, right_ends, next_word, then_words, words_read, steps_read, steps_mean, AreCodeOf}

-- ---- one part of code behind the other

pub words_none : (r : CodeReads) → words_read r [] ≡ Some r
unfolding words_read
words_none r = refl

pub words_more : (r : CodeReads) (w : CodeWord) (ws : List CodeWord) → words_read r (w ∷ ws) ≡ then_words (next_word r w) (λ more. words_read more ws)
unfolding words_read
words_more r w ws = refl

then_append : (o : Option CodeReads) (ws vs : List CodeWord)
    → ((r : CodeReads) → words_read r (ws ++ vs) ≡ then_words (words_read r ws) (λ more. words_read more vs))
    → then_words o (λ r. words_read r (ws ++ vs)) ≡ then_words (then_words o (λ r. words_read r ws)) (λ more. words_read more vs)
then_append None ws vs h = refl
then_append (Some r) ws vs h = h r

pub words_append : (r : CodeReads) (ws vs : List CodeWord) → words_read r (ws ++ vs) ≡ then_words (words_read r ws) (λ more. words_read more vs)
words_append r [] vs = ap (λ o. then_words o (λ more. words_read more vs)) (sym (words_none r))
words_append r (w ∷ ws) vs =
    words_more r w (ws ++ vs)
    ∙ then_append (next_word r w) ws vs (λ more. words_append more ws vs)
    ∙ ap (λ o. then_words o (λ more. words_read more vs)) (sym (words_more r w ws))

-- behind code that is read whole
pub words_behind : (r more : CodeReads) (ws vs : List CodeWord) → words_read r ws ≡ Some more → words_read r (ws ++ vs) ≡ words_read more vs
words_behind r more ws vs h = words_append r ws vs ∙ ap (λ o. then_words o (λ m. words_read m vs)) h

then_none : (o : Option CodeReads) → then_words o (λ more. words_read more []) ≡ o
then_none None = refl
then_none (Some m) = words_none m

pub words_one : (r : CodeReads) (w : CodeWord) → words_read r (w ∷ []) ≡ next_word r w
words_one r w = words_more r w [] ∙ then_none (next_word r w)

-- ---- an expression's steps

pub steps_none : (r : Reads) → steps_read r [] ≡ Some r
unfolding steps_read
steps_none r = refl

pub steps_more : (r : Reads) (s : Step) (ss : List Step) → steps_read r (s ∷ ss) ≡ then_reads (next r s) (λ more. steps_read more ss)
unfolding steps_read
steps_more r s ss = refl

-- one step, and steps behind others
pub steps_first : (r more : Reads) (s : Step) (ss : List Step) → next r s ≡ Some more → steps_read r (s ∷ ss) ≡ steps_read more ss
steps_first r more s ss h = steps_more r s ss ∙ ap (λ o. then_reads o (λ m. steps_read m ss)) h

steps_append_at : (o : Option Reads) (ss ts : List Step) → ((r : Reads) → steps_read r (ss ++ ts) ≡ then_reads (steps_read r ss) (λ more. steps_read more ts))
    → then_reads o (λ r. steps_read r (ss ++ ts)) ≡ then_reads (then_reads o (λ r. steps_read r ss)) (λ more. steps_read more ts)
steps_append_at None ss ts h = refl
steps_append_at (Some r) ss ts h = h r

steps_append : (r : Reads) (ss ts : List Step) → steps_read r (ss ++ ts) ≡ then_reads (steps_read r ss) (λ more. steps_read more ts)
steps_append r [] ts = ap (λ o. then_reads o (λ more. steps_read more ts)) (sym (steps_none r))
steps_append r (s ∷ ss) ts =
    steps_more r s (ss ++ ts)
    ∙ steps_append_at (next r s) ss ts (λ more. steps_append more ss ts)
    ∙ ap (λ o. then_reads o (λ more. steps_read more ts)) (sym (steps_more r s ss))

pub steps_behind : (r more : Reads) (ss ts : List Step) → steps_read r ss ≡ Some more → steps_read r (ss ++ ts) ≡ steps_read more ts
steps_behind r more ss ts h = steps_append r ss ts ∙ ap (λ o. then_reads o (λ m. steps_read m ts)) h

abbrev pub with_reads : CodeReads → Reads → CodeReads
with_reads r reads = record { reads = reads; left = r.left; done = r.done }

then_steps : (r : CodeReads) (o : Option Reads) (ss : List Step)
    → ((reads : Reads) → words_read (with_reads r reads) (map Item ss) ≡ expression_goes_on r (steps_read reads ss))
    → then_words (expression_goes_on r o) (λ more. words_read more (map Item ss)) ≡ expression_goes_on r (then_reads o (λ reads. steps_read reads ss))
then_steps r None ss h = refl
then_steps r (Some reads) ss h = h reads

-- steps alone are read as an expression's, behind any code
pub steps_are_words : (r : CodeReads) (ss : List Step) → words_read r (map Item ss) ≡ expression_goes_on r (steps_read r.reads ss)
steps_are_words r [] = words_none r ∙ ap (expression_goes_on r) (sym (steps_none r.reads))
steps_are_words r (s ∷ ss) =
    words_more r (Item s) (map Item ss)
    ∙ then_steps r (next r.reads s) ss (λ reads. steps_are_words (with_reads r reads) ss)
    ∙ ap (expression_goes_on r) (sym (steps_more r.reads s ss))

then_tokens : (number : ℕ → Expr) (name : List ℕ → Expr) (o : Option Reads) (ts : List Token)
    → ((r : Reads) → steps_read r (map (token_step number name) ts) ≡ reads_all number name r ts)
    → then_reads o (λ r. steps_read r (map (token_step number name) ts)) ≡ then_reads o (λ r. reads_all number name r ts)
then_tokens number name None ts h = refl
then_tokens number name (Some r) ts h = h r

pub all_none : (number : ℕ → Expr) (name : List ℕ → Expr) (r : Reads) → reads_all number name r [] ≡ Some r
unfolding reads_all
all_none number name r = refl

pub all_more : (number : ℕ → Expr) (name : List ℕ → Expr) (r : Reads) (t : Token) (ts : List Token) → reads_all number name r (t ∷ ts) ≡ then_reads (next r (token_step number name t)) (λ more. reads_all number name more ts)
unfolding reads_all
all_more number name r t ts = refl

-- the steps of tokens are read as the tokens
pub tokens_are_steps : (number : ℕ → Expr) (name : List ℕ → Expr) (r : Reads) (ts : List Token) → steps_read r (map (token_step number name) ts) ≡ reads_all number name r ts
tokens_are_steps number name r [] = steps_none r ∙ sym (all_none number name r)
tokens_are_steps number name r (t ∷ ts) =
    steps_more r (token_step number name t) (map (token_step number name) ts)
    ∙ then_tokens number name (next r (token_step number name t)) ts (λ more. tokens_are_steps number name more ts)
    ∙ sym (all_more number name r t ts)

-- ---- a whole expression and its end

ends_from : (o : Option Reads) (e : Expr) → ends_of o ≡ Some e → (r : Reads) × (o ≡ Some r) × (ends r ≡ Some e)
ends_from None e h = absurd cc
ends_from (Some r) e h = (r, refl, h)

-- behind the start of an expression: the steps of a whole one, and a word that ends it
pub expression_ends : (left : Option Expr) (done : List Nameless) (ss : List Step) (e : Expr) (w : CodeWord) (after : Option CodeReads)
    → steps_mean ss ≡ Some e
    → ((r : Reads) → ends r ≡ Some e → next_word (record { reads = r; left = left; done = done }) w ≡ after)
    → words_read (record { reads = nothing_read; left = left; done = done }) (map Item ss ++ w ∷ []) ≡ after
expression_ends left done ss e w after h end =
    let start : CodeReads = record { reads = nothing_read; left = left; done = done } in
    let r = ends_from (steps_read nothing_read ss) e h in
    words_behind start (with_reads start r.0) (map Item ss) (w ∷ []) (steps_are_words start ss ∙ ap (expression_goes_on start) r.1)
    ∙ words_one (with_reads start r.0) w ∙ end r.0 r.2

some : {A : Type 0} → A → Option A
some x = Some x

-- the words of a let behind whole statements
pub definition_read : (done : List Nameless) (ss : List Step) (e : Expr) → steps_mean ss ≡ Some e
    → words_read (code_done done) (map Item ss ++ Define ∷ []) ≡ Some (code_done (done ++ Definition e ∷ []))
definition_read done ss e h =
    expression_ends None done ss e Define _ h (λ r end. ap (definition_ends (record { reads = r; left = None; done = done }) None) end)

-- the words of an assert behind whole statements
pub equation_read : (done : List Nameless) (ss ts : List Step) (e f : Expr) → steps_mean ss ≡ Some e → steps_mean ts ≡ Some f
    → words_read (code_done done) ((map Item ss ++ Left ∷ []) ++ (map Item ts ++ Right ∷ [])) ≡ Some (code_done (done ++ Equation e f ∷ []))
equation_read done ss ts e f h k =
    words_behind (code_done done) (record { reads = nothing_read; left = Some e; done = done }) (map Item ss ++ Left ∷ []) (map Item ts ++ Right ∷ [])
    (expression_ends None done ss e Left _ h (λ r end. ap (left_ends (record { reads = r; left = None; done = done }) None) end))
    ∙ expression_ends (Some e) done ts f Right _ k (λ r end. ap (right_ends (record { reads = r; left = Some e; done = done }) (Some e)) end)

-- ---- statements

pub nameless_append : (ss ts : List Statement) → nameless (ss ++ ts) ≡ nameless ss ++ nameless ts
nameless_append [] ts = refl
nameless_append (tree.DeclarePublic w ∷ ss) ts = nameless_append ss ts
nameless_append (tree.DeclarePrivate w ∷ ss) ts = nameless_append ss ts
nameless_append (tree.Define w e ∷ ss) ts = ap (λ ns. Definition e ∷ ns) (nameless_append ss ts)
nameless_append (tree.Assertion e f ∷ ss) ts = ap (λ ns. Equation e f ∷ ns) (nameless_append ss ts)

done_again : (ss ts : List Statement) → Some (code_done (nameless ss ++ nameless ts)) ≡ Some (code_done (nameless (ss ++ ts)))
done_again ss ts = ap (λ ns. Some (code_done ns)) (sym (nameless_append ss ts))

-- no statements have no code
pub no_code : AreCodeOf [] []
no_code = words_none nothing_coded

-- a declaration adds no code
pub code_public : (ss : List Statement) (w : List ℕ) (ws : List CodeWord) → AreCodeOf ss ws → AreCodeOf (ss ++ tree.DeclarePublic w ∷ []) ws
code_public ss w ws h = h ∙ ap (λ ns. Some (code_done ns)) (sym (nameless_append ss (tree.DeclarePublic w ∷ []) ∙ append-nil (nameless ss)))

pub code_private : (ss : List Statement) (w : List ℕ) (ws : List CodeWord) → AreCodeOf ss ws → AreCodeOf (ss ++ tree.DeclarePrivate w ∷ []) ws
code_private ss w ws h = h ∙ ap (λ ns. Some (code_done ns)) (sym (nameless_append ss (tree.DeclarePrivate w ∷ []) ∙ append-nil (nameless ss)))

pub code_let : (ss : List Statement) (w : List ℕ) (e : Expr) (ws : List CodeWord) (steps : List Step) → AreCodeOf ss ws → steps_mean steps ≡ Some e
    → AreCodeOf (ss ++ tree.Define w e ∷ []) (ws ++ (map Item steps ++ Define ∷ []))
code_let ss w e ws steps h k =
    words_behind nothing_coded (code_done (nameless ss)) ws (map Item steps ++ Define ∷ []) h
    ∙ definition_read (nameless ss) steps e k ∙ done_again ss (tree.Define w e ∷ [])

pub code_assert : (ss : List Statement) (e f : Expr) (ws : List CodeWord) (steps more : List Step) → AreCodeOf ss ws → steps_mean steps ≡ Some e → steps_mean more ≡ Some f
    → AreCodeOf (ss ++ tree.Assertion e f ∷ []) (ws ++ ((map Item steps ++ Left ∷ []) ++ (map Item more ++ Right ∷ [])))
code_assert ss e f ws steps more h k l =
    words_behind nothing_coded (code_done (nameless ss)) ws ((map Item steps ++ Left ∷ []) ++ (map Item more ++ Right ∷ [])) h
    ∙ equation_read (nameless ss) steps more e f k l ∙ done_again ss (tree.Assertion e f ∷ [])

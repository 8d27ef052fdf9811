-- Symbols that are tokens, one by one.
use Rattle.std.proofs.Common.{◌≡◌, ℕ, suc, ◌+◌, ◌-◌, ◌<◌, ◌≤◌, Bool, true, false, not, ◌&&◌, List, [], ◌∷◌, ◌++◌, map, length, length-drop, take, drop, get_or, None, Bor, refl, sym, ◌∙◌, ap, ap₂, subst, arith, add-one, append_assoc, append-nil}
use Rattle.std.specs.List.{list_all, prefix_len}
use Rattle.std.proofs.lemmas.List.{take_all}
use Rattle.std.proofs.lemmas.List.Sums.{prefix_len-drop_no, prefix_len-drop_yes}
use Rattle.std.proofs.Math.Numerals.{one-add}
use Rattle.lzk_expr.specs.declared.tokens.Symbol.{Symbol}
use Rattle.lzk_expr.specs.declared.tokens.Symbol.TheVariants as symbol
use Rattle.lzk_expr.specs.declared.tokens.Keyword.{Keyword}
use Rattle.lzk_expr.specs.Tokens.{Piece, pieces, Token, Name, Equals, tokens, token_of}
use Rattle.lzk_expr.specs.TokenReadings.{Tells, AreTold}
use Rattle.lzk_expr.specs.Sources.{first_keyword}
use Rattle.lzk_expr.specs.Readers.{is_name, is_inner, IsNoDefinition}
use Rattle.lzk_expr.specs.SymbolForms.{IsKeyed, IsNoLoneName, Defines, is_name_symbol, is_equals_symbol, AreHalves}
use Rattle.lzk_expr.proofs.Empty.{told_length}

-- with the first piece of the rest
pub told_more : (done : List Symbol) (s : Symbol) (p : Piece) (line rest after : List ℕ) → ((more : List Symbol) → AreTold more (tokens rest) → AreTold (done ++ more) (tokens line))
    → pieces rest ≡ p ∷ pieces after → Tells s (token_of p) → (more : List Symbol) → AreTold more (tokens after) → AreTold ((done ++ s ∷ []) ++ more) (tokens line)
told_more done s p line rest after h e t more m =
    let first : AreTold (s ∷ more) (tokens rest) = subst (λ (ts : List Token). AreTold (s ∷ more) ts) (sym (ap (map token_of) e)) (t, m) in
    subst (λ (ss : List Symbol). AreTold ss (tokens line)) (sym (append_assoc done (s ∷ []) more)) (h (s ∷ more) first)

-- with no piece behind
pub told_all : (done : List Symbol) (line rest : List ℕ) → ((more : List Symbol) → AreTold more (tokens rest) → AreTold (done ++ more) (tokens line)) → pieces rest ≡ [] → AreTold done (tokens line)
told_all done line rest h e =
    let none : AreTold [] (tokens rest) = subst (λ (ts : List Token). AreTold [] ts) (sym (ap (map token_of) e)) tt in
    subst (λ (ss : List Symbol). AreTold ss (tokens line)) (append-nil done) (h [] none)

-- ---- what the symbols tell of the tokens

name_as : (s : Symbol) (t : Token) → Tells s t → is_name t ≡ is_name_symbol s
name_as (symbol.Number n) t h = ap is_name h
name_as symbol.Large t h = ap is_name h.1
name_as (symbol.Name w) t h = ap is_name h
name_as (symbol.Key k) t h = ap is_name h
name_as symbol.Misspelt t h = ap is_name h
name_as symbol.Plus t h = ap is_name h
name_as symbol.Minus t h = ap is_name h
name_as symbol.Times t h = ap is_name h
name_as symbol.Open t h = ap is_name h
name_as symbol.Close t h = ap is_name h
name_as symbol.Equals t h = ap is_name h

inner_as : (s : Symbol) (t : Token) → Tells s t → is_inner t ≡ not (is_equals_symbol s)
inner_as (symbol.Number n) t h = ap is_inner h
inner_as symbol.Large t h = ap is_inner h.1
inner_as (symbol.Name w) t h = ap is_inner h
inner_as (symbol.Key k) t h = ap is_inner h
inner_as symbol.Misspelt t h = ap is_inner h
inner_as symbol.Plus t h = ap is_inner h
inner_as symbol.Minus t h = ap is_inner h
inner_as symbol.Times t h = ap is_inner h
inner_as symbol.Open t h = ap is_inner h
inner_as symbol.Close t h = ap is_inner h
inner_as symbol.Equals t h = ap is_inner h

equals_is : (s : Symbol) (t : Token) → Tells s t → is_equals_symbol s ≡ true → t ≡ Equals
equals_is symbol.Equals t h e = h
equals_is (symbol.Number n) t h e = absurd cc
equals_is symbol.Large t h e = absurd cc
equals_is (symbol.Name w) t h e = absurd cc
equals_is (symbol.Key k) t h e = absurd cc
equals_is symbol.Misspelt t h e = absurd cc
equals_is symbol.Plus t h e = absurd cc
equals_is symbol.Minus t h e = absurd cc
equals_is symbol.Times t h e = absurd cc
equals_is symbol.Open t h e = absurd cc
equals_is symbol.Close t h e = absurd cc

module _ (q : Symbol → Bool) (p : Token → Bool) (same : (s : Symbol) (t : Token) → Tells s t → p t ≡ q s) where
  tests_as : (ss : List Symbol) (ts : List Token) → AreTold ss ts → list_all q ss ≡ list_all p ts
  tests_as [] [] h = refl
  tests_as [] (t ∷ ts) h = absurd h
  tests_as (s ∷ ss) [] h = absurd h
  tests_as (s ∷ ss) (t ∷ ts) h = ap₂ (λ (a b : Bool). a && b) (sym (same s t h.0)) (tests_as ss ts h.1)

pub names_as : (ss : List Symbol) (ts : List Token) → AreTold ss ts → list_all is_name_symbol ss ≡ list_all is_name ts
names_as ss ts h = tests_as is_name_symbol is_name name_as ss ts h

abbrev pub is_inner_symbol : Symbol → Bool
is_inner_symbol s = not (is_equals_symbol s)

-- ---- the forms by index

pub no_name_symbol : (s : Symbol) → ((w : Bor (List ℕ)) → s ≡ symbol.Name w → ⊥) → is_name_symbol s ≡ false
no_name_symbol (symbol.Name w) h = absurd (h w refl)
no_name_symbol s h = refl

no_name : (s : Symbol) (w : List ℕ) → ((v : Bor (List ℕ)) → s ≡ symbol.Name v → ⊥) → Tells s (Name w) → ⊥
no_name s w other h = let yes : true ≡ false = name_as s (Name w) h ∙ no_name_symbol s other in cc

no_key : (s : Symbol) (t : Token) (ts : List Token) → ((k : Keyword) → s ≡ symbol.Key k → ⊥) → Tells s t → first_keyword (t ∷ ts) ≡ None
no_key (symbol.Key k) t ts other h = absurd (other k refl)
no_key (symbol.Number n) t ts other h = ap (λ (u : Token). first_keyword (u ∷ ts)) h
no_key symbol.Large t ts other h = ap (λ (u : Token). first_keyword (u ∷ ts)) h.1
no_key (symbol.Name w) t ts other h = ap (λ (u : Token). first_keyword (u ∷ ts)) h
no_key symbol.Misspelt t ts other h = ap (λ (u : Token). first_keyword (u ∷ ts)) h
no_key symbol.Plus t ts other h = ap (λ (u : Token). first_keyword (u ∷ ts)) h
no_key symbol.Minus t ts other h = ap (λ (u : Token). first_keyword (u ∷ ts)) h
no_key symbol.Times t ts other h = ap (λ (u : Token). first_keyword (u ∷ ts)) h
no_key symbol.Open t ts other h = ap (λ (u : Token). first_keyword (u ∷ ts)) h
no_key symbol.Close t ts other h = ap (λ (u : Token). first_keyword (u ∷ ts)) h
no_key symbol.Equals t ts other h = ap (λ (u : Token). first_keyword (u ∷ ts)) h

first_is : (x y : Token) (xs ys : List Token) → x ∷ xs ≡ y ∷ ys → x ≡ y
first_is x y xs ys e = cc

second_is : (a b x y : Token) (xs ys : List Token) → a ∷ b ∷ xs ≡ x ∷ y ∷ ys → b ≡ y
second_is a b x y xs ys e = cc

pub short_told : (ss : List Symbol) (ts : List Token) → length ss < 2 → AreTold ss ts → IsNoDefinition ts
short_told ss ts lt h w us e = omega (arith, lt, told_length ss ts h, ap length e)

pub long_told : (ss : List Symbol) (ts : List Token) → (length ss ≡ 1 → ⊥) → AreTold ss ts → IsNoLoneName ts
long_told ss ts other h w e = other (told_length ss ts h ∙ ap length e)

-- the rest behind a place
pub rest_of : (ss : List Symbol) (n : ℕ) → take (length ss - n) (drop n ss) ≡ drop n ss
rest_of ss n = take_all (length ss - n) (drop n ss) (omega (arith, length-drop n ss))

module _ (d : Symbol) where
  pub keyed_at : (ss : List Symbol) (k : Keyword) (ts : List Token) → 0 < length ss → get_or ss 0 d ≡ symbol.Key k → AreTold ss ts → IsKeyed ts k (drop 1 ss)
  keyed_at [] k ts lt e h = absurd (omega (arith, lt))
  keyed_at (s ∷ ss) k [] lt e h = absurd h
  keyed_at (s ∷ ss) k (t ∷ ts) lt e h =
      let same : Tells (symbol.Key k) t = subst (λ (x : Symbol). Tells x t) e h.0 in
      record { behind = ts; keyed = ap (λ (x : Token). x ∷ ts) same; told = h.1 }

  pub unkeyed_at : (ss : List Symbol) (ts : List Token) → 0 < length ss → ((k : Keyword) → get_or ss 0 d ≡ symbol.Key k → ⊥) → AreTold ss ts → first_keyword ts ≡ None
  unkeyed_at [] ts lt other h = absurd (omega (arith, lt))
  unkeyed_at (s ∷ ss) [] lt other h = absurd h
  unkeyed_at (s ∷ ss) (t ∷ ts) lt other h = no_key s t ts other h.0

  pub lone_at : (ss : List Symbol) (w : Bor (List ℕ)) (ts : List Token) → length ss ≡ 1 → get_or ss 0 d ≡ symbol.Name w → AreTold ss ts → ts ≡ Name w.now ∷ []
  lone_at [] w ts one e h = absurd (omega (arith, one))
  lone_at (s ∷ r ∷ ss) w ts one e h = absurd (omega (arith, one))
  lone_at (s ∷ []) w [] one e h = absurd h
  lone_at (s ∷ []) w (t ∷ []) one e h = let same : Tells (symbol.Name w) t = subst (λ (x : Symbol). Tells x t) e h.0 in ap (λ (x : Token). x ∷ []) same
  lone_at (s ∷ []) w (t ∷ u ∷ ts) one e h = absurd h.1

  -- a first name is a first symbol that is one
  pub unnamed_at : (ss : List Symbol) (ts us : List Token) (w : List ℕ) → ((v : Bor (List ℕ)) → get_or ss 0 d ≡ symbol.Name v → ⊥) → AreTold ss ts → ts ≡ Name w ∷ us → ⊥
  unnamed_at [] [] us w other h e = cc
  unnamed_at [] (t ∷ ts) us w other h e = absurd h
  unnamed_at (s ∷ ss) [] us w other h e = absurd h
  unnamed_at (s ∷ ss) (t ∷ ts) us w other h e = no_name s w other (subst (λ (x : Token). Tells s x) (first_is t (Name w) ts us e) h.0)

  pub defined_at : (ss : List Symbol) (w : Bor (List ℕ)) (ts : List Token) → 2 ≤ length ss → is_equals_symbol (get_or ss 1 d) ≡ true → get_or ss 0 d ≡ symbol.Name w → AreTold ss ts → Defines ts w.now (drop 2 ss)
  defined_at [] w ts le q e h = absurd (omega (arith, le))
  defined_at (s ∷ []) w ts le q e h = absurd (omega (arith, le))
  defined_at (s ∷ r ∷ ss) w [] le q e h = absurd h
  defined_at (s ∷ r ∷ ss) w (t ∷ []) le q e h = absurd h.1
  defined_at (s ∷ r ∷ ss) w (t ∷ u ∷ ts) le q e h =
      let same : Tells (symbol.Name w) t = subst (λ (x : Symbol). Tells x t) e h.0 in
      record { behind = ts; defines = ap₂ (λ (x y : Token). x ∷ y ∷ ts) same (equals_is r u h.1.0 q); told = h.1.1 }

  pub unequal_at : (ss : List Symbol) (ts : List Token) → 2 ≤ length ss → is_equals_symbol (get_or ss 1 d) ≡ false → AreTold ss ts → IsNoDefinition ts
  unequal_at [] ts le q h = absurd (omega (arith, le))
  unequal_at (s ∷ []) ts le q h = absurd (omega (arith, le))
  unequal_at (s ∷ r ∷ ss) [] le q h = absurd h
  unequal_at (s ∷ r ∷ ss) (t ∷ []) le q h = absurd h.1
  unequal_at (s ∷ r ∷ ss) (t ∷ u ∷ ts) le q h = λ w us e.
      let no : false ≡ true = sym (ap is_inner (second_is t u (Name w) Equals ts us e)) ∙ (inner_as r u h.1.0 ∙ ap not q) in
      cc

-- ---- the halves

halves_more : (s : Symbol) (t : Token) (ts : List Token) (before behind : List Symbol) → Tells s t → is_inner t ≡ true → AreHalves ts before behind → AreHalves (t ∷ ts) (s ∷ before) behind
halves_more s t ts before behind h e k = record {
  left = t ∷ k.left;
  right = k.right;
  split = record {
    inner = ap (λ (b : Bool). b && list_all is_inner k.left) e ∙ k.split.inner;
    split = ap (λ (us : List Token). t ∷ us) k.split.split;
  };
  left_told = (h, k.left_told);
  right_told = k.right_told;
}

halves_now : (t : Token) (ts : List Token) (behind : List Symbol) → t ≡ Equals → AreTold behind ts → AreHalves (t ∷ ts) [] behind
halves_now t ts behind e h = record {
  left = [];
  right = ts;
  split = record { inner = refl; split = ap (λ (u : Token). u ∷ ts) e };
  left_told = tt;
  right_told = h;
}

halves_cons : (s : Symbol) (ss : List Symbol) (t : Token) (ts : List Token) (b : Bool) → is_equals_symbol s ≡ b → Tells s t → AreTold ss ts → prefix_len is_inner_symbol (s ∷ ss) < length (s ∷ ss)
    → (prefix_len is_inner_symbol ss < length ss → AreHalves ts (take (prefix_len is_inner_symbol ss) ss) (drop (prefix_len is_inner_symbol ss + 1) ss))
    → AreHalves (t ∷ ts) (take (prefix_len is_inner_symbol (s ∷ ss)) (s ∷ ss)) (drop (prefix_len is_inner_symbol (s ∷ ss) + 1) (s ∷ ss))
halves_cons s ss t ts true e h k lt rest =
    let none : prefix_len is_inner_symbol (s ∷ ss) ≡ 0 = rw e refl in
    subst (λ n. AreHalves (t ∷ ts) (take n (s ∷ ss)) (drop (n + 1) (s ∷ ss))) (sym none) (halves_now t ts ss (equals_is s t h e) k)
halves_cons s ss t ts false e h k lt rest =
    let len : prefix_len is_inner_symbol (s ∷ ss) ≡ suc (prefix_len is_inner_symbol ss) = rw (e, one-add) refl in
    let n : ℕ = prefix_len is_inner_symbol ss in
    let behind : AreHalves ts (take n ss) (drop (suc n) ss) = subst (λ m. AreHalves ts (take n ss) (drop m ss)) (add-one n) (rest (omega (arith, len, lt))) in
    let more : AreHalves (t ∷ ts) (s ∷ take n ss) (drop (suc n) ss) = halves_more s t ts (take n ss) (drop (suc n) ss) h (inner_as s t h ∙ ap not e) behind in
    let same : suc (suc n) ≡ prefix_len is_inner_symbol (s ∷ ss) + 1 = omega (arith, len) in
    subst (λ m. AreHalves (t ∷ ts) (take (prefix_len is_inner_symbol (s ∷ ss)) (s ∷ ss)) (drop m (s ∷ ss))) same
    (subst (λ m. AreHalves (t ∷ ts) (take m (s ∷ ss)) (drop (suc (suc n)) (s ∷ ss))) (sym len) more)

halves_in : (ss : List Symbol) (ts : List Token) → AreTold ss ts → prefix_len is_inner_symbol ss < length ss
    → AreHalves ts (take (prefix_len is_inner_symbol ss) ss) (drop (prefix_len is_inner_symbol ss + 1) ss)
halves_in [] ts h lt = absurd (omega arith)
halves_in (s ∷ ss) [] h lt = absurd h
halves_in (s ∷ ss) (t ∷ ts) h lt = halves_cons s ss t ts (is_equals_symbol s) refl h.0 h.1 lt (halves_in ss ts h.1)

module _ (d : Symbol) (ss : List Symbol) (at : ℕ) (passed : prefix_len is_inner_symbol ss ≡ at + prefix_len is_inner_symbol (drop at ss)) where
  pub halves_at : at < length ss → is_equals_symbol (get_or ss at d) ≡ true → (ts : List Token) → AreTold ss ts → AreHalves ts (take at ss) (drop (at + 1) ss)
  halves_at lt e ts h =
      let here : prefix_len is_inner_symbol ss ≡ at = omega (arith, passed, prefix_len-drop_no is_inner_symbol ss at d lt (ap not e)) in
      subst (λ n. AreHalves ts (take n ss) (drop (n + 1) ss)) here (halves_in ss ts h (omega (arith, here, lt)))

  pub halves_behind : at < length ss → is_equals_symbol (get_or ss at d) ≡ false → prefix_len is_inner_symbol ss ≡ (at + 1) + prefix_len is_inner_symbol (drop (at + 1) ss)
  halves_behind lt e = omega (arith, passed, prefix_len-drop_yes is_inner_symbol ss at d lt (ap not e))

pass_at : (q : Symbol → Bool) (s : Symbol) (ss : List Symbol) (t : Bool) → q s ≡ t → list_all q (take (prefix_len q ss) ss) ≡ true → list_all q (take (prefix_len q (s ∷ ss)) (s ∷ ss)) ≡ true
pass_at q s ss true e h = let len : prefix_len q (s ∷ ss) ≡ suc (prefix_len q ss) = rw (e, one-add) refl in ap (λ n. list_all q (take n (s ∷ ss))) len ∙ ap (λ (b : Bool). b && list_all q (take (prefix_len q ss) ss)) e ∙ h
pass_at q s ss false e h = let none : prefix_len q (s ∷ ss) ≡ 0 = rw e refl in ap (λ n. list_all q (take n (s ∷ ss))) none

pass_before : (q : Symbol → Bool) (ss : List Symbol) → list_all q (take (prefix_len q ss) ss) ≡ true
pass_before q [] = refl
pass_before q (s ∷ ss) = pass_at q s ss (q s) refl (pass_before q ss)

all_inner : (ss : List Symbol) → length ss ≤ prefix_len is_inner_symbol ss → list_all is_inner_symbol ss ≡ true
all_inner ss le = ap (list_all is_inner_symbol) (sym (take_all (prefix_len is_inner_symbol ss) ss le)) ∙ pass_before is_inner_symbol ss

pub no_halves : (ss : List Symbol) (at : ℕ) → prefix_len is_inner_symbol ss ≡ at + prefix_len is_inner_symbol (drop at ss) → length ss ≤ at → (ts : List Token) → AreTold ss ts → list_all is_inner ts ≡ true
no_halves ss at passed le ts h = sym (tests_as is_inner_symbol is_inner inner_as ss ts h) ∙ all_inner ss (omega (arith, passed, le))

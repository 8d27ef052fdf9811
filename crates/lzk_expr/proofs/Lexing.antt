-- A line's tokens that are found from its first byte on.
use Rattle.std.proofs.Common.{◌≡◌, ℕ, true, List, [], ◌∷◌, ◌++◌, map, Option, Some, None, is_some, refl, sym, ◌∙◌, ap, subst}
use Rattle.lzk_expr.specs.declared.tokens.Symbol.{Symbol}
use Rattle.lzk_expr.specs.declared.rules.Depth.{Depth}
use Rattle.lzk_expr.specs.Tokens.{Piece, pieces, Token, tokens, token_of, keeps_characters}
use Rattle.lzk_expr.specs.TokenReadings.{Tells, AreTold, is_clean}
use Rattle.lzk_expr.specs.Readers.{keeps_bounds}
use Rattle.lzk_expr.specs.SymbolForms.{left_bounds}
use Rattle.lzk_expr.proofs.Pieces.{none_yet}
use Rattle.lzk_expr.proofs.Clean.{clean_first, clean_same}
use Rattle.lzk_expr.proofs.Told.{told_more, told_all}

-- ---- what was found of all bytes, where these are left

pub record AreFound (all left : List ℕ) (ss : List Symbol) (depth : Option Depth) : Type 0 where
  pub clean : keeps_characters all ≡ keeps_characters left
  pub bounds : keeps_bounds 0 (tokens all) ≡ left_bounds depth (tokens left)
  pub told : (more : List Symbol) → AreTold more (tokens left) → AreTold (ss ++ more) (tokens all)

pub found_more : (all left rest : List ℕ) (ss ss2 : List Symbol) (s : Symbol) (p : Piece) (old new : Option Depth) → AreFound all left ss old → pieces left ≡ p ∷ pieces rest → is_clean p ≡ true
    → Tells s (token_of p) → ss2 ≡ ss ++ s ∷ [] → ((behind : List Token) → left_bounds old (token_of p ∷ behind) ≡ left_bounds new behind) → AreFound all rest ss2 new
found_more all left rest ss ss2 s p old new f e c t ss_is next = record {
  clean = f.clean ∙ clean_first left rest p e c;
  bounds = f.bounds ∙ ap (λ (ps : List Piece). left_bounds old (map token_of ps)) e ∙ next (tokens rest);
  told = λ more m. subst (λ (us : List Symbol). AreTold (us ++ more) (tokens all)) (sym ss_is) (told_more ss s p all left rest f.told e t more m);
}

pub found_blank : (all left rest : List ℕ) (ss : List Symbol) (depth : Option Depth) → AreFound all left ss depth → pieces left ≡ pieces rest → AreFound all rest ss depth
found_blank all left rest ss depth f e = record {
  clean = f.clean ∙ clean_same left rest e;
  bounds = f.bounds ∙ ap (λ (ps : List Piece). left_bounds depth (map token_of ps)) e;
  told = λ more m. f.told more (subst (λ (ts : List Token). AreTold more ts) (sym (ap (map token_of) e)) m);
}

pub found_none : (all : List ℕ) (ss : List Symbol) (depth : Option Depth) → ss ≡ [] → ((ts : List Token) → left_bounds depth ts ≡ keeps_bounds 0 ts) → AreFound all all ss depth
found_none all ss depth e none = record {
  clean = refl;
  bounds = sym (none (tokens all));
  told = λ more m. subst (λ (us : List Symbol). AreTold (us ++ more) (tokens all)) (sym e) m;
}

-- with nothing left

no_tokens : (left : List ℕ) → left ≡ [] → pieces left ≡ []
no_tokens left e = ap pieces e ∙ none_yet

none_left : (depth : Option Depth) → left_bounds depth [] ≡ is_some depth
none_left None = refl
none_left (Some d) = refl

pub found_bounds : (all left : List ℕ) (ss : List Symbol) (depth : Option Depth) → AreFound all left ss depth → left ≡ [] → keeps_bounds 0 (tokens all) ≡ is_some depth
found_bounds all left ss depth f e = f.bounds ∙ ap (λ (ps : List Piece). left_bounds depth (map token_of ps)) (no_tokens left e) ∙ none_left depth

pub found_all : (all left : List ℕ) (ss : List Symbol) (depth : Option Depth) → AreFound all left ss depth → left ≡ [] → AreTold ss (tokens all)
found_all all left ss depth f e = told_all ss all left f.told (no_tokens left e)

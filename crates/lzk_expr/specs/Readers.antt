-- What a line gives, and what its form asks of its tokens.
use Rattle.std.specs.Prelude.{◌≡◌, ℕ, List, [], ◌∷◌, ◌++◌, Bool, true, false, Option, Some, None, Result, Ok, Err, ◌&&◌}
use Rattle.std.specs.List.{list_all}
use Rattle.lzk_expr.specs.declared.coder.Input.{Input}
use Rattle.lzk_expr.specs.declared.coder.Input.TheVariants as inputs
use Rattle.lzk_expr.specs.declared.names.Binding.{Binding}
use Rattle.lzk_expr.specs.declared.tokens.Keyword.{Keyword}
use Rattle.lzk_expr.specs.declared.tokens.Keyword.TheVariants as keys
use Rattle.lzk_expr.specs.declared.source_fault.SourceKind.{SourceKind}
use Rattle.lzk_expr.specs.declared.ast.FieldId.{FieldId}
use Rattle.lzk_expr.specs.Tokens.{Token}
use Rattle.lzk_expr.specs.Tokens as token
use Rattle.lzk_expr.specs.Grammar.{Line, IsForm, field_name}
use Rattle.lzk_expr.specs.Trees.{Expr, Statement, DeclarePublic, DeclarePrivate, Define}
use Rattle.lzk_expr.specs.Sources.{Before, form_read, LineReads, is_short, is_shallow}
use Rattle.lzk_expr.specs.Table.{binding_expr}

abbrev pub is_define : Statement → Bool
is_define (Define w e) = true
is_define _ = false

abbrev pub named : Option Binding → Option Expr
named None = None
named (Some b) = Some (binding_expr (Some b))

abbrev pub step_of : Option SourceKind → Before → Result Before SourceKind
step_of None after = Ok after
step_of (Some kind) after = Err kind

-- What a line with these tokens gives, where it keeps the rules up to Limit.
pub record FormReads (b : Before) (ts : List Token) (read : Result Before SourceKind) : Type 0 where
  pub form : Option Line
  pub is_form : IsForm ts form
  pub read_is : form_read b form ≡ read

-- a line with nothing before its comment is skipped
abbrev pub StepReads : Before → List ℕ → Result Before SourceKind → Bool → Type 0
StepReads b bytes step true = step ≡ Ok b
StepReads b bytes step false = LineReads b bytes step

-- the field that a field line names
abbrev pub IsField : List Token → Option FieldId → Type 0
IsField ts (Some f) = ts ≡ token.Name (field_name f) ∷ []
IsField ts None = (f : FieldId) → ts ≡ token.Name (field_name f) ∷ [] → ⊥

abbrev pub is_name : Token → Bool
is_name (token.Name w) = true
is_name _ = false

-- a sign =, which no expression has
abbrev pub is_inner : Token → Bool
is_inner token.Equals = false
is_inner _ = true

abbrev pub key_of : Input → Keyword
key_of inputs.Public = keys.Public
key_of inputs.Private = keys.Private

abbrev pub input_statement : Input → List ℕ → Statement
input_statement inputs.Public w = DeclarePublic w
input_statement inputs.Private w = DeclarePrivate w

-- a name with a sign = behind it
abbrev pub IsDefinition : List Token → List ℕ → List Token → Type 0
IsDefinition ts w us = ts ≡ token.Name w ∷ token.Equals ∷ us

abbrev pub IsNoDefinition : List Token → Type 0
IsNoDefinition ts = (w : List ℕ) (us : List Token) → ts ≡ token.Name w ∷ token.Equals ∷ us → ⊥

-- the tokens before the first sign =, and those behind it
pub record IsSplit (ts xs ys : List Token) : Type 0 where
  pub inner : list_all is_inner xs ≡ true
  pub split : ts ≡ xs ++ token.Equals ∷ ys

-- names have at most 32 bytes, and at most 64 parentheses are open at any place, where so many are open before
abbrev pub keeps_bounds : ℕ → List Token → Bool
keeps_bounds n ts = list_all is_short ts && is_shallow n ts

-- The table of declared names, and what operands are by it.
use Rattle.std.specs.Prelude.{◌≡◌, ℕ, ◌^◌, Bool, true, List, Option, Some, None, is_some, nat_lt, bytes_eq, if◌then◌else◌}
use Rattle.std.specs.HashMap.{HashMap, get_by}
use Rattle.lzk_expr.specs.declared.names.Binding.{Binding}
use Rattle.lzk_expr.specs.declared.names.Binding.TheVariants as binding
use Rattle.lzk_expr.specs.declared.ast.FieldId.{FieldId}
use Rattle.lzk_expr.specs.Tokens.{Token}
use Rattle.lzk_expr.specs.Tokens as token
use Rattle.lzk_expr.specs.Trees.{Expr, Number, PublicInput, PrivateInput, Named}
use Rattle.lzk_expr.specs.Sources.{field_size}
use Rattle.lzk_expr.specs.Meanings.{sum_read}
use Rattle.std.specs.List.{list_all}

abbrev pub found : {S : Type 0} → HashMap (List ℕ) Binding S → List ℕ → Option Binding
found m w = get_by (bytes_eq w) m

abbrev pub binding_expr : Option Binding → Expr
binding_expr None = Number 0
binding_expr (Some (binding.Public i)) = PublicInput i
binding_expr (Some (binding.Private i)) = PrivateInput i
binding_expr (Some (binding.Named i)) = Named i

abbrev pub bound : {S : Type 0} → HashMap (List ℕ) Binding S → List ℕ → Expr
bound m w = binding_expr (found m w)

-- a number of at most 128 bits, and 0 in place of a larger one
abbrev pub held_number : ℕ → Expr
held_number n = if nat_lt n (2 ^ 128) then Number n else Number 0

abbrev pub token_known : {S : Type 0} → HashMap (List ℕ) Binding S → Token → Bool
token_known m (token.Name w) = is_some (found m w)
token_known m _ = true

abbrev pub token_below : FieldId → Token → Bool
token_below f (token.Number n) = nat_lt n (field_size f)
token_below f _ = true

-- The tokens stand for this expression; and whether its names are known and its numbers are below the field's size.
pub record IsSum {S : Type 0} (f : FieldId) (m : HashMap (List ℕ) Binding S) (ts : List Token) (e : Expr)
    (known below : Bool) : Type 0 where
  pub read : sum_read held_number (bound m) ts ≡ Some e
  pub known_is : list_all (token_known m) ts ≡ known
  pub below_is : list_all (token_below f) ts ≡ below

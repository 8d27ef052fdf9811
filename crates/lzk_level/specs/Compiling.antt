-- The nodes of a source, over the operations of its field.
use Rattle.std.specs.Prelude.{ℕ, ◌+◌, Bool, true, false, ◌&&◌, cond, List, [], ◌∷◌, ◌++◌, map, count_by, unwrap_or, Option, Some, None, slice_index_or}
use Rattle.lzk_field.specs.Ring.{Ops}
use Rattle.lzk_expr.specs.Trees.{Expr, Number, PublicInput, PrivateInput, Named, Neg, Added, Multiplied, Parts, NoPart, part, Exprs, NoExpr, factor, Statement, DeclarePublic, DeclarePrivate, Define, Assertion, is_public, is_private}
use Rattle.lzk_expr.specs.SourceValues.{Given, given, value_of, parts_value, signed}
use Rattle.lzk_level.specs.Gates.{Gate}
use Rattle.lzk_level.specs.Gates as gate
use Rattle.lzk_level.specs.declared.lets.Operand.{Operand}
use Rattle.lzk_level.specs.declared.lets.Operand.TheVariants as operand
use Rattle.lzk_level.specs.Nodes.{Nodes, node_count, with_gate}

-- what the leaves of an expression are: the element of a number, and what the let names so far stand for
pub record Scope (A : Type 0) : Type 0 where
  pub ops : Ops A
  pub element : ℕ → A
  pub lets : List (Operand A)

abbrev pub scope : {A : Type 0} → Ops A → (ℕ → A) → List (Operand A) → Scope A
scope o element lets = record { ops = o; element = element; lets = lets }

abbrev pub with_lets : {A : Type 0} → Scope A → List (Operand A) → Scope A
with_lets s xs = scope s.ops s.element (s.lets ++ xs)

abbrev pub let_at : {A : Type 0} → Scope A → ℕ → Operand A
let_at s i = slice_index_or s.lets i (operand.Constant s.ops.zero)

abbrev pub is_known : {A : Type 0} → Operand A → Bool
is_known (operand.Constant c) = true
is_known (operand.AtNode k) = false

-- a constant let name's value
abbrev pub known : {A : Type 0} → Ops A → Operand A → A
known o (operand.Constant c) = c
known o (operand.AtNode k) = o.zero

-- An expression is constant when no input name occurs in it, let names unfolded.
abbrev mutual
  pub is_constant : {A : Type 0} → Scope A → Expr → Bool
  is_constant s (Number n) = true
  is_constant s (PublicInput i) = false
  is_constant s (PrivateInput i) = false
  is_constant s (Named i) = is_known (let_at s i)
  is_constant s (Neg e) = is_constant s e
  is_constant s (Added ps) = are_constant_parts s ps
  is_constant s (Multiplied es) = are_constant s es

  pub are_constant_parts : {A : Type 0} → Scope A → Parts → Bool
  are_constant_parts s NoPart = true
  are_constant_parts s (part m e ps) = is_constant s e && are_constant_parts s ps

  pub are_constant : {A : Type 0} → Scope A → Exprs → Bool
  are_constant s NoExpr = true
  are_constant s (factor e es) = is_constant s e && are_constant s es

-- the value of a constant expression, which needs no inputs
abbrev pub constants : {A : Type 0} → Scope A → Given A
constants s = given s.ops s.element [] [] (map (known s.ops) s.lets)

abbrev pub constant : {A : Type 0} → Scope A → Expr → A
constant s e = value_of (constants s) e

-- the value of a sum's parts, where all of them are constant
abbrev pub constant_parts : {A : Type 0} → Scope A → Parts → Option A
constant_parts s ps = cond (are_constant_parts s ps) (Some (parts_value (constants s) ps)) None

-- the product of the constant factors; none where there is no such factor
abbrev pub constant_factor : {A : Type 0} → Scope A → Exprs → Option A
constant_factor s NoExpr = None
constant_factor s (factor e es) =
    cond (is_constant s e) (Some (s.ops.times (constant s e) (unwrap_or (constant_factor s es) s.ops.one)))
    (constant_factor s es)

-- nodes, and the number of one of them
pub record Made (A : Type 0) : Type 0 where
  pub nodes : Nodes A
  pub node : ℕ

-- one more node
abbrev pub next : {A : Type 0} → Nodes A → Gate A → Made A
next n g = record { nodes = with_gate n g; node = 1 + node_count n }

abbrev pub there : {A : Type 0} → Nodes A → ℕ → Made A
there n k = record { nodes = n; node = k }

abbrev pub at_let : {A : Type 0} → Nodes A → Operand A → Made A
at_let n (operand.Constant c) = next n (gate.Constant c)
at_let n (operand.AtNode k) = there n k

-- a combine of one part
abbrev pub multiple : {A : Type 0} → A → Made A → Made A
multiple c m = next m.nodes (gate.Combine ((c, m.node) ∷ []))

-- nodes, and parts of a sum of them
pub record MadeParts (A : Type 0) : Type 0 where
  pub nodes : Nodes A
  pub parts : List (A × ℕ)

abbrev pub summed : {A : Type 0} → MadeParts A → Made A
summed m = next m.nodes (gate.Combine m.parts)

-- nodes, and the product of factors so far; none where there was no factor
pub record MadeFactors (A : Type 0) : Type 0 where
  pub nodes : Nodes A
  pub node : Option ℕ

-- what stands before, times a node
abbrev pub joined : {A : Type 0} → Option ℕ → Made A → Made A
joined None m = m
joined (Some k) m = next m.nodes (gate.Mul k m.node)

-- one more factor, with what it is made of: a constant one makes no nodes
abbrev pub factored : {A : Type 0} → Scope A → Nodes A → Option ℕ → Expr → Made A → MadeFactors A
factored s n before e m =
    cond (is_constant s e) (record { nodes = n; node = before })
    (record { nodes = (joined before m).nodes; node = Some (joined before m).node })

-- the product of the factors, of which there is one
abbrev pub product : {A : Type 0} → MadeFactors A → Made A
product m = there m.nodes (unwrap_or m.node 0)

-- a node times a number, where there is one
abbrev pub scaled : {A : Type 0} → Option A → Made A → Made A
scaled None m = m
scaled (Some c) m = multiple c m

-- a constant expression is one constant node, whatever else it is made of
abbrev pub unless_constant : {A : Type 0} → Scope A → Nodes A → Expr → Made A → Made A
unless_constant s n e m = cond (is_constant s e) (next n (gate.Constant (constant s e))) m

-- The nodes of an expression behind those that are there, by recursion on it.
abbrev mutual
  pub made : {A : Type 0} → Scope A → Nodes A → Expr → Made A
  made s n (Number k) = next n (gate.Constant (s.element k))
  made s n (PublicInput i) = there n (1 + i)
  made s n (PrivateInput i) = there n (1 + n.publics + i)
  made s n (Named i) = at_let n (let_at s i)
  made s n (Neg e) = unless_constant s n (Neg e) (multiple (s.ops.neg s.ops.one) (made s n e))
  made s n (Added ps) = unless_constant s n (Added ps) (summed (made_parts s n ps))
  made s n (Multiplied es) =
      unless_constant s n (Multiplied es) (scaled (constant_factor s es) (product (made_factors s n None es)))

  -- each part with 1 or -1
  pub made_parts : {A : Type 0} → Scope A → Nodes A → Parts → MadeParts A
  made_parts s n NoPart = record { nodes = n; parts = [] }
  made_parts s n (part m e ps) =
      let rest = made_parts s (made s n e).nodes ps in
      record { nodes = rest.nodes; parts = (signed s.ops m s.ops.one, (made s n e).node) ∷ rest.parts }

  -- the factors that are not constant, joined from left to right to what stands before them
  pub made_factors : {A : Type 0} → Scope A → Nodes A → Option ℕ → Exprs → MadeFactors A
  made_factors s n before NoExpr = record { nodes = n; node = before }
  made_factors s n before (factor e es) = let m = factored s n before e (made s n e) in made_factors s m.nodes m.node es

-- nodes, and those of them that are outputs
pub record MadeOutputs (A : Type 0) : Type 0 where
  pub nodes : Nodes A
  pub outputs : List ℕ

-- the difference of two sides, the left one made first
abbrev pub difference : {A : Type 0} → Ops A → ℕ → Made A → Made A
difference o left right = next right.nodes (gate.Combine ((o.one, left) ∷ (o.neg o.one, right.node) ∷ []))

abbrev pub made_assert : {A : Type 0} → Scope A → Nodes A → Expr → Expr → Made A
made_assert s n e f = let left = made s n e in difference s.ops left.node (made s left.nodes f)

-- A let name stands for its constant, or for its node.
abbrev pub let_nodes : {A : Type 0} → Scope A → Nodes A → Expr → Nodes A
let_nodes s n e = cond (is_constant s e) n (made s n e).nodes

abbrev pub let_operand : {A : Type 0} → Scope A → Nodes A → Expr → Operand A
let_operand s n e = cond (is_constant s e) (operand.Constant (constant s e)) (operand.AtNode (made s n e).node)

-- What a statement adds to the let names, to the nodes and to the outputs.
abbrev pub statement_lets : {A : Type 0} → Scope A → Nodes A → Statement → List (Operand A)
statement_lets s n (DeclarePublic w) = []
statement_lets s n (DeclarePrivate w) = []
statement_lets s n (Define w e) = let_operand s n e ∷ []
statement_lets s n (Assertion e f) = []

abbrev pub statement_nodes : {A : Type 0} → Scope A → Nodes A → Statement → Nodes A
statement_nodes s n (DeclarePublic w) = n
statement_nodes s n (DeclarePrivate w) = n
statement_nodes s n (Define w e) = let_nodes s n e
statement_nodes s n (Assertion e f) = (made_assert s n e f).nodes

abbrev pub statement_outputs : {A : Type 0} → Scope A → Nodes A → Statement → List ℕ
statement_outputs s n (DeclarePublic w) = []
statement_outputs s n (DeclarePrivate w) = []
statement_outputs s n (Define w e) = []
statement_outputs s n (Assertion e f) = (made_assert s n e f).node ∷ []

-- the nodes of statements behind those that are there, with the asserts' nodes in order
abbrev pub statements_made : {A : Type 0} → Scope A → Nodes A → List Statement → MadeOutputs A
statements_made s n [] = record { nodes = n; outputs = [] }
statements_made s n (st ∷ ss) =
    let rest = statements_made (with_lets s (statement_lets s n st)) (statement_nodes s n st) ss in
    record { nodes = rest.nodes; outputs = statement_outputs s n st ++ rest.outputs }

abbrev pub inputs_alone : {A : Type 0} → List Statement → Nodes A
inputs_alone ss = record { publics = count_by is_public ss; privates = count_by is_private ss; made = [] }

-- The nodes of a source, and the outputs.
abbrev pub nodes_of : {A : Type 0} → Ops A → (ℕ → A) → List Statement → MadeOutputs A
nodes_of o element ss = statements_made (scope o element []) (inputs_alone ss) ss

-- What the maker of nodes holds of what was read of code.
use Rattle.std.specs.Prelude.{◌≡◌, ℕ, ◌+◌, ◌≤◌, List, [], ◌∷◌, ◌++◌, length, map, Option, Some, None}
use Rattle.lzk_field.specs.Ring.{Ops}
use Rattle.lzk_expr.specs.Trees.{Expr, Statement, Define, Assertion}
use Rattle.lzk_expr.specs.Meanings.{Half, Reads, Step, Atom}
use Rattle.lzk_expr.specs.Codes.{CodeWord, Item, Nameless, Definition, Equation, CodeReads, words_read}
use Rattle.lzk_level.specs.declared.half.Half as memory
use Rattle.lzk_level.specs.declared.lets.Operand.{Operand}
use Rattle.lzk_level.specs.Nodes.{Nodes, nodes_from, node_count}
use Rattle.lzk_level.specs.Compilable.{IsWithin}
use Rattle.lzk_level.specs.Compiling.{Scope, scope, with_lets, constant_parts, constant_factor, MadeParts, MadeFactors, made, made_parts, made_factors, let_nodes, let_operand, statement_lets, statement_nodes, statements_made}
use Rattle.lzk_level.specs.Steps.{Held, Valued, IsSound}

-- An expression's value behind nodes. A constant one has no node.
abbrev pub expr_value : {A : Type 0} → Scope A → Nodes A → Expr → Valued A
expr_value s n e = record { nodes = let_nodes s n e; operand = let_operand s n e }

-- the parts of half a sum behind nodes, and the product behind them
abbrev pub half_parts : {A : Type 0} → Scope A → Nodes A → Half → MadeParts A
half_parts s n h = made_parts s n h.parts

abbrev pub half_factors : {A : Type 0} → Scope A → Nodes A → Half → MadeFactors A
half_factors s n h = made_factors s (half_parts s n h).nodes None h.factors

-- what is held of half a sum that is read behind nodes and so many open parts
abbrev pub half_held : {A : Type 0} → Scope A → Nodes A → ℕ → Half → memory.Half A
half_held s n begin h = record {
  base = length n.made;
  begin = begin;
  total = constant_parts s h.parts;
  minus = h.minus;
  number = constant_factor s h.factors;
  node = (half_factors s n h).node;
  negated = h.negated;
}

-- the nodes behind halves, of which the innermost stands first, and each is read behind those further out
abbrev pub nodes_behind : {A : Type 0} → Scope A → Nodes A → List Half → Nodes A
nodes_behind s n [] = n
nodes_behind s n (h ∷ hs) = (half_factors s (nodes_behind s n hs) h).nodes

-- their parts, those of the outermost first
abbrev pub parts_behind : {A : Type 0} → Scope A → Nodes A → List Half → List (A × ℕ)
parts_behind s n [] = []
parts_behind s n (h ∷ hs) = parts_behind s n hs ++ (half_parts s (nodes_behind s n hs) h).parts

-- half a sum that is read behind others
abbrev pub held_behind : {A : Type 0} → Scope A → Nodes A → List Half → Half → memory.Half A
held_behind s n hs h = half_held s (nodes_behind s n hs) (length (parts_behind s n hs)) h

-- the outermost first
abbrev pub halves_held : {A : Type 0} → Scope A → Nodes A → List Half → List (memory.Half A)
halves_held s n [] = []
halves_held s n (h ∷ hs) = halves_held s n hs ++ held_behind s n hs h ∷ []

-- what is held of an expression that is read behind nodes
unfoldable pub reads_held : {A : Type 0} → Scope A → Nodes A → List ℕ → Option ℕ → Reads → Held A
reads_held s n outputs left r = record {
  nodes = nodes_behind s n (r.now ∷ r.outer);
  outer = halves_held s n r.outer;
  now = held_behind s n r.outer r.now;
  ready = r.ready;
  parts = parts_behind s n (r.now ∷ r.outer);
  lets = s.lets;
  outputs = outputs;
  left = left;
}

-- a statement whose name does not matter
abbrev pub with_some_name : Nameless → Statement
with_some_name (Definition e) = Define [] e
with_some_name (Equation e f) = Assertion e f

-- what the let names stand for behind statements
abbrev pub lets_made : {A : Type 0} → Scope A → Nodes A → List Statement → List (Operand A)
lets_made s n [] = s.lets
lets_made s n (st ∷ ss) = lets_made (with_lets s (statement_lets s n st)) (statement_nodes s n st) ss

-- nodes, and the node of the left side, where there is one
abbrev pub left_made : {A : Type 0} → Scope A → Nodes A → Option Expr → MadeFactors A
left_made s n None = record { nodes = n; node = None }
left_made s n (Some e) = record { nodes = (made s n e).nodes; node = Some (made s n e).node }

-- what is held behind statements, where an expression is read
unfoldable pub statements_held :
    {A : Type 0} → Scope A → Nodes A → List Statement → Option Expr → Reads → Held A
statements_held s n ss left r =
    let before = statements_made s n ss in
    let names = scope s.ops s.element (lets_made s n ss) in
    let side = left_made names before.nodes left in
    reads_held names side.nodes before.outputs side.node r

-- What is held of code over so many public and private inputs.
unfoldable pub code_held : {A : Type 0} → Ops A → (ℕ → A) → ℕ → ℕ → CodeReads → Held A
code_held o element publics privates r =
    statements_held (scope o element []) (nodes_from publics privates []) (map with_some_name r.done) r.left r.reads

-- Code goes on by these words to its end, and this is held where they begin.
pub record IsOnTheWay {A : Type 0} (o : Ops A) (element : ℕ → A) (publics privates : ℕ) (words : List CodeWord)
    (end : CodeReads) (m : Held A) : Type 0 where
  pub reads : CodeReads
  pub rest : words_read reads words ≡ Some end
  pub is : m ≡ code_held o element publics privates reads

-- a word leads from what was held before to what is held after: code that goes on by it goes on behind it
abbrev pub IsTaken : {A : Type 0} → Ops A → (ℕ → A) → CodeWord → Held A → Held A → Type 0
IsTaken o element word before after =
    (publics privates : ℕ) (words : List CodeWord) (end : CodeReads)
    → IsOnTheWay o element publics privates (word ∷ words) end before
    → IsOnTheWay o element publics privates words end after

-- ---- what a word needs

-- the input of a word is among so many public and private ones
abbrev pub IsStepWithin : ℕ → ℕ → Step → Type 0
IsStepWithin p q (Atom e) = IsWithin p q e
IsStepWithin p q _ = Unit {0}

abbrev pub IsWordWithin : ℕ → ℕ → CodeWord → Type 0
IsWordWithin p q (Item s) = IsStepWithin p q s
IsWordWithin p q _ = Unit {0}

-- a word can be taken: all nodes that are held are there, there is room for its own, and its input is declared
pub record CanTakeWord {A : Type 0} (o : Ops A) (m : Held A) (word : CodeWord) : Type 0 where
  pub sound : IsSound o m
  pub room : node_count m.nodes + 8 ≤ 2147483648
  pub input : IsWordWithin m.nodes.publics m.nodes.privates word

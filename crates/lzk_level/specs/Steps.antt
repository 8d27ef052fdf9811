-- What the maker of nodes holds, and what each step of code changes of it.
use Rattle.std.specs.Prelude.{ℕ, ◌+◌, ◌≤◌, ◌==◌, Bool, true, false, List, [], ◌∷◌, ◌++◌, length, take, drop, Option, Some, None, unwrap_or, if◌then◌else◌}
use Rattle.lzk_field.specs.Ring.{Ops}
use Rattle.lzk_expr.specs.SourceValues.{signed}
use Rattle.lzk_level.specs.Gates as gate
use Rattle.lzk_level.specs.declared.half.Half.{Half}
use Rattle.lzk_level.specs.declared.maker.Maker.{Maker}
use Rattle.lzk_level.specs.declared.lets.Operand.{Operand}
use Rattle.lzk_level.specs.declared.lets.Operand.TheVariants.{Constant, AtNode}
use Rattle.lzk_level.specs.Nodes.{Nodes, nodes_from, node_count, IsNode, ArePartsOf}
use Rattle.lzk_level.specs.Compilable.{IsNodeOrNone, IsOperand, AreOperands}
use Rattle.lzk_level.specs.Compiling.{Made, MadeFactors, next, there, at_let, scaled, multiple, joined, difference}

-- Nodes; what is read of each open sum, the innermost last, and of the one inside of all; whether a product is there;
-- the parts of all open sums; and of the statements before their let names, their outputs, and the left side's node.
pub record Held (A : Type 0) : Type 0 where
  pub nodes : Nodes A
  pub outer : List (Half A)
  pub now : Half A
  pub ready : Bool
  pub parts : List (A × ℕ)
  pub lets : List (Operand A)
  pub outputs : List ℕ
  pub left : Option ℕ

abbrev pub held_in : {A : Type 0} → Maker A → Held A
held_in m = record {
  nodes = m.builder;
  outer = m.outer.items;
  now = m.now;
  ready = m.ready;
  parts = m.parts.items;
  lets = m.lets.items;
  outputs = m.outputs.items;
  left = m.left;
}

-- nothing of a sum, with so many gates and so many open parts before it
abbrev pub nothing_of : {A : Type 0} → Ops A → ℕ → ℕ → Half A
nothing_of o base begin = record {
  base = base;
  begin = begin;
  total = Some o.zero;
  minus = false;
  number = None;
  node = None;
  negated = false;
}

-- nothing of code, over so many inputs
abbrev pub nothing_held : {A : Type 0} → Ops A → ℕ → ℕ → Held A
nothing_held o publics privates = record {
  nodes = nodes_from publics privates [];
  outer = [];
  now = nothing_of o 0 0;
  ready = false;
  parts = [];
  lets = [];
  outputs = [];
  left = None;
}

-- ---- values

-- nodes, and a value over them
pub record Valued (A : Type 0) : Type 0 where
  pub nodes : Nodes A
  pub operand : Operand A

abbrev pub valued : {A : Type 0} → Nodes A → Operand A → Valued A
valued n x = record { nodes = n; operand = x }

abbrev pub at_made : {A : Type 0} → Made A → Valued A
at_made m = valued m.nodes (AtNode m.node)

abbrev pub negative_in : {A : Type 0} → Ops A → Nodes A → Operand A → Valued A
negative_in o n (Constant c) = valued n (Constant (o.neg c))
negative_in o n (AtNode k) = at_made (multiple (o.neg o.one) (there n k))

-- a value, or with a minus before it its negative
abbrev pub signed_in : {A : Type 0} → Ops A → Bool → Nodes A → Operand A → Valued A
signed_in o false n x = valued n x
signed_in o true n x = negative_in o n x

-- the product of a number and of a node, where they are there
abbrev pub product_in : {A : Type 0} → Ops A → Nodes A → Option A → Option ℕ → Valued A
product_in o n number None = valued n (Constant (unwrap_or number o.one))
product_in o n number (Some k) = at_made (scaled number (there n k))

-- ---- one more factor

abbrev pub times_before : {A : Type 0} → Ops A → Option A → A → A
times_before o None c = c
times_before o (Some b) c = o.times b c

abbrev pub number_with : {A : Type 0} → Ops A → Option A → Operand A → Option A
number_with o before (Constant c) = Some (times_before o before c)
number_with o before (AtNode k) = before

abbrev pub node_with : {A : Type 0} → Option ℕ → Nodes A → Operand A → MadeFactors A
node_with before n (Constant c) = record { nodes = n; node = before }
node_with before n (AtNode k) =
    record { nodes = (joined before (there n k)).nodes; node = Some (joined before (there n k)).node }

-- A value, with the sign before it, as one more factor of the product that is read of half a sum: the nodes and the
-- product's node, and what is read of the half.
abbrev pub factor_made : {A : Type 0} → Ops A → Nodes A → Half A → Operand A → MadeFactors A
factor_made o n h x = let v = signed_in o h.negated n x in node_with h.node v.nodes v.operand

abbrev pub half_with : {A : Type 0} → Ops A → Nodes A → Half A → Operand A → Half A
half_with o n h x = record {
  base = h.base;
  begin = h.begin;
  total = h.total;
  minus = h.minus;
  number = number_with o h.number (signed_in o h.negated n x).operand;
  node = (factor_made o n h x).node;
  negated = false;
}

-- the same of what is held
abbrev pub with_value : {A : Type 0} → Ops A → Held A → Operand A → Held A
with_value o m x = record {
  nodes = (factor_made o m.nodes m.now x).nodes;
  outer = m.outer;
  now = half_with o m.nodes m.now x;
  ready = true;
  parts = m.parts;
  lets = m.lets;
  outputs = m.outputs;
  left = m.left;
}

-- the value is a number; or a node, that can be multiplied by the one before it
abbrev pub CanJoin : {A : Type 0} → ℕ → Option ℕ → Operand A → Type 0
CanJoin n before (Constant c) = Unit {0}
CanJoin n before (AtNode k) = IsNode n k × IsNodeOrNone n before

-- ---- one more part

-- of a half sum: the product that is read
abbrev pub product_read : {A : Type 0} → Ops A → Nodes A → Half A → Valued A
product_read o n h = product_in o n h.number h.node

-- the sum of the parts, where all of them are numbers
abbrev pub total_with : {A : Type 0} → Ops A → Bool → Option A → Operand A → Option A
total_with o minus (Some t) (Constant c) = Some (o.plus t (signed o minus c))
total_with o minus _ _ = None

-- with the product that is read as one more part: their sum, its node, and all parts
abbrev pub total_read : {A : Type 0} → Ops A → Nodes A → Half A → Option A
total_read o n h = total_with o h.minus h.total (product_read o n h).operand

abbrev pub part_read : {A : Type 0} → Ops A → Nodes A → Half A → Made A
part_read o n h = at_let (product_read o n h).nodes (product_read o n h).operand

abbrev pub parts_read : {A : Type 0} → Ops A → Nodes A → Half A → List (A × ℕ) → List (A × ℕ)
parts_read o n h parts = parts ++ (signed o h.minus o.one, (part_read o n h).node) ∷ []

-- the same of what is held
abbrev pub held_product : {A : Type 0} → Ops A → Held A → Valued A
held_product o m = product_read o m.nodes m.now

abbrev pub part_total : {A : Type 0} → Ops A → Held A → Option A
part_total o m = total_read o m.nodes m.now

abbrev pub part_made : {A : Type 0} → Ops A → Held A → Made A
part_made o m = part_read o m.nodes m.now

-- with the product as one more part
abbrev pub part_held : {A : Type 0} → Ops A → Held A → Held A
part_held o m = record {
  nodes = (part_made o m).nodes;
  outer = m.outer;
  now = m.now;
  ready = m.ready;
  parts = parts_read o m.nodes m.now m.parts;
  lets = m.lets;
  outputs = m.outputs;
  left = m.left;
}

-- and the next part begins
abbrev pub next_part_held : {A : Type 0} → Ops A → Held A → Bool → Held A
next_part_held o m minus = record {
  nodes = (part_made o m).nodes;
  outer = m.outer;
  now = record {
    base = m.now.base;
    begin = m.now.begin;
    total = part_total o m;
    minus = minus;
    number = None;
    node = None;
    negated = false;
  };
  ready = false;
  parts = (part_held o m).parts;
  lets = m.lets;
  outputs = m.outputs;
  left = m.left;
}

-- a minus before an atom, or between products
abbrev pub held_minus : {A : Type 0} → Ops A → Held A → Held A
held_minus o m = if m.ready then next_part_held o m true else record {
  nodes = m.nodes;
  outer = m.outer;
  now = record {
    base = m.now.base;
    begin = m.now.begin;
    total = m.now.total;
    minus = m.now.minus;
    number = m.now.number;
    node = m.now.node;
    negated = true;
  };
  ready = false;
  parts = m.parts;
  lets = m.lets;
  outputs = m.outputs;
  left = m.left;
}

abbrev pub held_times : {A : Type 0} → Held A → Held A
held_times m = record {
  nodes = m.nodes;
  outer = m.outer;
  now = m.now;
  ready = false;
  parts = m.parts;
  lets = m.lets;
  outputs = m.outputs;
  left = m.left;
}

-- ---- the end of a sum

-- nodes without those behind so many gates
abbrev pub cut_to : {A : Type 0} → Nodes A → ℕ → Nodes A
cut_to n count = nodes_from n.publics n.privates (take count n.made)

-- numbers alone are a number, and their nodes go, which stand behind so many gates; other parts are a node
abbrev pub sum_of_parts : {A : Type 0} → Nodes A → ℕ → List (A × ℕ) → Option A → Valued A
sum_of_parts n base parts (Some t) = valued (cut_to n base) (Constant t)
sum_of_parts n base parts None = at_made (next n (gate.Combine parts))

-- the value of the sum that is read, behind all open parts; without parts of its own it is the product
abbrev pub sum_read : {A : Type 0} → Ops A → Nodes A → Half A → List (A × ℕ) → Valued A
sum_read o n h parts =
    if length parts == h.begin then product_read o n h
    else sum_of_parts (part_read o n h).nodes h.base (drop h.begin (parts_read o n h parts)) (total_read o n h)

-- what is held with these nodes and parts
abbrev pub held_with : {A : Type 0} → Held A → Nodes A → List (A × ℕ) → Held A
held_with m n parts = record {
  nodes = n;
  outer = m.outer;
  now = m.now;
  ready = m.ready;
  parts = parts;
  lets = m.lets;
  outputs = m.outputs;
  left = m.left;
}

abbrev pub held_sum : {A : Type 0} → Ops A → Held A → Valued A
held_sum o m = sum_read o m.nodes m.now m.parts

-- what is held when the sum has ended
abbrev pub sum_ended : {A : Type 0} → Ops A → Held A → Held A
sum_ended o m = held_with m (held_sum o m).nodes (take m.now.begin m.parts)

-- ---- parentheses

-- the next sum begins
abbrev pub held_begun : {A : Type 0} → Ops A → Held A → Held A
held_begun o m = record {
  nodes = m.nodes;
  outer = m.outer;
  now = nothing_of o (length m.nodes.made) (length m.parts);
  ready = false;
  parts = m.parts;
  lets = m.lets;
  outputs = m.outputs;
  left = m.left;
}

abbrev pub held_opened : {A : Type 0} → Ops A → Held A → Held A
held_opened o m = record {
  nodes = m.nodes;
  outer = m.outer ++ m.now ∷ [];
  now = nothing_of o (length m.nodes.made) (length m.parts);
  ready = false;
  parts = m.parts;
  lets = m.lets;
  outputs = m.outputs;
  left = m.left;
}

-- the sum that ends is a factor of the one before it
abbrev pub held_closed : {A : Type 0} → Ops A → Held A → List (Half A) → Half A → Held A
held_closed o m outer before =
    with_value o (record {
      nodes = (held_sum o m).nodes;
      outer = outer;
      now = before;
      ready = m.ready;
      parts = take m.now.begin m.parts;
      lets = m.lets;
      outputs = m.outputs;
      left = m.left;
    }) (held_sum o m).operand

-- ---- the ends of expressions

-- over these nodes the next expression begins
abbrev pub begun : {A : Type 0} → Ops A → Held A → Nodes A → List (Operand A) → List ℕ → Option ℕ → Held A
begun o m n lets outputs left = record {
  nodes = n;
  outer = m.outer;
  now = nothing_of o (length n.made) (length (take m.now.begin m.parts));
  ready = false;
  parts = take m.now.begin m.parts;
  lets = lets;
  outputs = outputs;
  left = left;
}

abbrev pub held_defined : {A : Type 0} → Ops A → Held A → Held A
held_defined o m = begun o m (held_sum o m).nodes (m.lets ++ (held_sum o m).operand ∷ []) m.outputs m.left

abbrev pub sum_made : {A : Type 0} → Ops A → Held A → Made A
sum_made o m = at_let (held_sum o m).nodes (held_sum o m).operand

abbrev pub held_left : {A : Type 0} → Ops A → Held A → Held A
held_left o m = begun o m (sum_made o m).nodes m.lets m.outputs (Some (sum_made o m).node)

abbrev pub held_right : {A : Type 0} → Ops A → Held A → ℕ → Held A
held_right o m left =
    let made = difference o left (sum_made o m) in begun o m made.nodes m.lets (m.outputs ++ made.node ∷ []) None

-- ---- what the steps need

-- there is room for the product that is read and for a node of it, and its node is there
pub record HasProduct {A : Type 0} (n : Nodes A) (h : Half A) : Type 0 where
  pub room : node_count n + 2 ≤ 2147483648
  pub node : IsNodeOrNone (node_count n) h.node

-- there are parts, whose nodes are there, and there is room for one
pub record HasParts {A : Type 0} (n : Nodes A) (parts : List (A × ℕ)) : Type 0 where
  pub room : node_count n + 1 ≤ 2147483648
  pub some : 1 ≤ length parts
  pub nodes : ArePartsOf (node_count n) parts

-- the sum that is read can end: its nodes are there, and there is room for more
pub record HasSum {A : Type 0} (n : Nodes A) (h : Half A) (parts : List (A × ℕ)) : Type 0 where
  pub room : node_count n + 5 ≤ 2147483648
  pub node : IsNodeOrNone (node_count n) h.node
  pub begin : h.begin ≤ length parts
  pub parts_are : ArePartsOf (node_count n) parts

-- a value is there, and what it is compared with, and there is room for a node of each
pub record HasSides {A : Type 0} (n : Nodes A) (left : Option ℕ) (right : Operand A) : Type 0 where
  pub room : node_count n + 2 ≤ 2147483648
  pub left_is : IsNodeOrNone (node_count n) left
  pub right_is : IsOperand (node_count n) right

-- each is one of the first n nodes
abbrev pub AreHalvesOf : {A : Type 0} → ℕ → List (Half A) → Type 0
AreHalvesOf n [] = Unit {0}
AreHalvesOf n (h ∷ hs) = IsNodeOrNone n h.node × AreHalvesOf n hs

-- all nodes that are held are there, that of the left side also when the sum that is read has ended
pub record IsSound {A : Type 0} (o : Ops A) (m : Held A) : Type 0 where
  pub node : IsNodeOrNone (node_count m.nodes) m.now.node
  pub outer : AreHalvesOf (node_count m.nodes) m.outer
  pub begin : m.now.begin ≤ length m.parts
  pub parts : ArePartsOf (node_count m.nodes) m.parts
  pub lets : AreOperands (node_count m.nodes) m.lets
  pub left : IsNodeOrNone (node_count (held_sum o m).nodes) m.left
